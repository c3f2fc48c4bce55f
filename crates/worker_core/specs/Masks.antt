-- The masks that a worker lends.
use Rattle.std.specs.Prelude.{◌≡◌, ℕ, ◌==◌, List, [], ◌∷◌, Bool, true, false, ◌&&◌, Option, Some, None}
use Rattle.std.specs.List.{list_all, list_any}
use Rattle.std.specs.Option.{option_map_or}
use Rattle.guild_model.specs.Record.{Record}
use Rattle.dispatch_types.specs.Fold.{contains}
use Rattle.dispatch_types.specs.Serves.{serves}
use Rattle.dispatch_types.specs.declared.viewer.Viewer.{Viewer}
use Rattle.mask_cache.specs.Masks.{UserMasks, MasksOf}
use Rattle.replay_ring.specs.Replay.{Replay}
use Rattle.session_core.specs.State.{Session, is_live}
use Rattle.guild_replica.specs.Replicas.{GuildCopy}
use Rattle.world_law.specs.Keeping.{record_at}
use Rattle.world_law.specs.Model.{Worker}
use Rattle.worker_core.specs.InCode.{wire_model}

-- whether a viewer is of this user and served this guild (Gateway, Sharding)
abbrev pub is_served : Record → ℕ → Viewer → Bool
is_served s user v = (v.user == user) && serves v s

-- whether a user has a live session that is served a guild
abbrev pub has_session : Worker → ℕ → Record → Bool
has_session w user s = list_any (λ x. is_live x.condition && is_served s user x.viewer) w.core.sessions

-- the masks of a user in a guild are lent exactly if the user has a live session that is served there
abbrev pub Lends : Worker → ℕ → ℕ → Option UserMasks → Type 0
Lends w guild user None = option_map_or (has_session w user) (record_at wire_model w.logs guild) false ≡ false
Lends w guild user (Some masks) = (s : Record) × (record_at wire_model w.logs guild ≡ Some s) × (has_session w user s ≡ true) × MasksOf s user masks

-- ---- internal: cited by private functions only

-- the same of the sessions that are kept, which are the live ones
abbrev pub has_kept_session : List (Session Replay) → ℕ → Record → Bool
has_kept_session xs user s = list_any (λ x. is_served s user x.viewer) xs

-- masks are kept of each of these viewers' users
abbrev pub has_users : List ℕ → List Viewer → Bool
has_users users vs = list_all (λ (v : Viewer). contains v.user users) vs

-- the masks of these users are kept with each copy
abbrev pub AllKeep : List ℕ → List GuildCopy → Type 0
AllKeep users [] = Unit {0}
AllKeep users (r ∷ rs) = (r.users ≡ users) × AllKeep users rs

-- those of the users of these sessions are
abbrev pub keeps_masks : List (Session Replay) → GuildCopy → Bool
keeps_masks xs r = list_all (λ (x : Session Replay). contains x.viewer.user r.users) xs

abbrev pub keep_masks : List GuildCopy → List (Session Replay) → Bool
keep_masks rs xs = list_all (keeps_masks xs) rs
