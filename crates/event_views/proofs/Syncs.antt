-- A sync is told where the viewer asks for syncs.
use Rattle.std.proofs.Common.{◌≡◌, ℕ, Bool, true, false, not, ◌&&◌, List, [], ◌∷◌, ◌++◌, Option, Some, None, if◌then◌else◌, refl, sym, ap, ◌∙◌, arith}
use Rattle.std.proofs.lemmas.List.{append-nil}
use Rattle.intent_set.specs.Asks.{asks}
use Rattle.intent_set.specs.declared.kind.Kind.TheVariants as kind
use Rattle.guild_model.specs.declared.member.Member.{Member}
use Rattle.guild_model.specs.Record.{Record}
use Rattle.guild_model.specs.Sight.{Standing, standing, sees, is_private}
use Rattle.dispatch_types.specs.declared.viewer.Viewer.{Viewer}
use Rattle.dispatch_types.specs.declared.dispatch.Dispatch.{Dispatch}
use Rattle.thread_sync.specs.Shown.{Shown, shows, shown_to}
use Rattle.thread_sync.specs.Sync.{threads_in, listing, listing_if_any, gained_parents, list_sync}
use Rattle.thread_sync.proofs.Part.{none-gained}
use Rattle.event_views.specs.Asked.{told_if}
use Rattle.event_views.specs.Synced.{synced}

pub sync-told : (v : Viewer) (before now : Shown) (s : Record) (user : ℕ) (d : Dispatch)
    → asks v.intents kind.ThreadListSync false ≡ true → list_sync before now s user ≡ Some d → told_if v (list_sync before now s user) ≡ d ∷ []
sync-told v before now s user d asked is = by_parents (gained_parents before now s) is
  where
    by_parents : (ps : List ℕ) → listing_if_any now s user ps ≡ Some d → told_if v (listing_if_any now s user ps) ≡ d ∷ []
    by_parents [] is = absurd (cc)
    by_parents (p ∷ ps) is =
        let same : listing s.id user (p ∷ ps) (threads_in now (p ∷ ps) s.threads) ≡ d = cc in
        ap (λ b. if b then listing s.id user (p ∷ ps) (threads_in now (p ∷ ps) s.threads) ∷ [] else []) asked ∙ ap (λ x. x ∷ []) same

pub none-told : (v : Viewer) (o : Option Dispatch) (ds : List Dispatch) → o ≡ None → ds ≡ ds ++ told_if v o
none-told v o ds none = sym (ap (λ (o : Option Dispatch). ds ++ told_if v o) none ∙ append-nil ds)

-- nothing is uncovered to a member that sees by the same as before
pub synced-same : (s t : Record) (me : Member) (v : Viewer) → standing t me ≡ standing s me → synced s me t me v ≡ []
synced-same s t me v same =
    ap (told_if v)
    (none-gained (shown_to s me) (shown_to t me)
    (λ id. ap (λ (u : Standing). sees u id && not (sees (standing s me) id)) same ∙ never (sees (standing s me) id))
    (λ x. ap (λ (u : Standing). shows u x && (is_private x.kind && not (shows (standing s me) x))) same ∙ never-new (shows (standing s me) x) (is_private x.kind))
    t me.user.id)
  where
    never : (a : Bool) → (a && not a) ≡ false
    never true = refl
    never false = refl

    never-new : (a private : Bool) → (a && (private && not a)) ≡ false
    never-new a private = grind arith
