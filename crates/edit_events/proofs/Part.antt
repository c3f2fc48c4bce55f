-- The guild as a member is shown it, and GUILD_CREATE of it.
use Rattle.std.proofs.Common.{◌≡◌, ℕ, Bool, true, false, not, ◌&&◌, ◌||◌, List, [], ◌∷◌, map, Option, Some, None, if◌then◌else◌, refl, sym, ap, ◌∙◌}
use Rattle.std.specs.Prelude.{filter, cond}
use Rattle.std.proofs.lemmas.List.Elements.{All-filter}
use Rattle.collections.specs.ById.{find_id, keep_if, IsById}
use Rattle.collections.proofs.Finds.{key-found, find-filter, IsById-filter}
use Rattle.perm_bits.specs.Bits.{has_bit}
use Rattle.perm_bits.specs.Permissions.{view_channel, manage_threads}
use Rattle.intent_set.specs.Intents.{guilds, guild_voice_states}
use Rattle.guild_model.specs.declared.channel.Channel.{Channel}
use Rattle.guild_model.specs.declared.member.Member.{Member}
use Rattle.guild_model.specs.declared.thread.Thread.{Thread}
use Rattle.guild_model.specs.Record.{Record, channel_id, voice_id}
use Rattle.guild_model.specs.Ascending.{HasOrderedOverwrites, IsAscending}
use Rattle.guild_model.specs.Sight.{Standing, standing, granted, granted_in, is_private, is_in, member_sees}
use Rattle.dispatch_types.specs.declared.viewer.Viewer.{Viewer}
use Rattle.dispatch_types.specs.declared.view.GuildView.TheVariants.{Open}
use Rattle.dispatch_types.specs.declared.view.OpenView.{OpenView}
use Rattle.dispatch_types.specs.Serves.{served}
use Rattle.dispatch_types.specs.Projection.{listed, is_active, thread_view, seen_threads, open_view, projection}
use Rattle.dispatch_types.proofs.Views.{projection-open}
use Rattle.channel_privacy.proofs.Only.{shows_channel, shows_voice, shows_thread, only}
use Rattle.guild_model.specs.Shown.{is_shown, channel_shown, voice_shown, shown_channels, shown_voices}
use Rattle.thread_sync.proofs.Lists.{filter-alike}
use Rattle.channel_privacy.proofs.Filters.{filter-both}
use Rattle.channel_privacy.proofs.Part.{granted-shown}
use Rattle.channel_privacy.proofs.Lost.{same-lists}

-- nothing is granted in a channel that is not shown
granted-hidden : (shown : ℕ → Bool) (s : Standing) (channel b : ℕ) → IsById channel_id s.channels → shown channel ≡ false
    → granted (record s { channels = filter (shows_channel shown) s.channels }) channel b ≡ false
unfolding granted
granted-hidden shown s channel b order hides =
    ap (granted_in s b) (find-filter channel_id (shows_channel shown) channel s.channels order ∙ none (find_id channel_id channel s.channels) (λ c e. key-found channel_id channel s.channels c e))
  where
    none : (o : Option Channel) → ((c : Channel) → o ≡ Some c → c.id ≡ channel) → keep_if (shows_channel shown) o ≡ None
    none None at = refl
    none (Some c) at = ap (λ b. if b then Some c else None) (ap shown (at c refl) ∙ hides)

-- a filter behind a map
filter-mapped : {T U : Type 0} (f : T → U) (p : U → Bool) (xs : List T) → filter p (map f xs) ≡ map f (filter (λ x. p (f x)) xs)
filter-mapped f p [] = refl
filter-mapped f p (x ∷ xs) = by_test (p (f x)) (filter-mapped f p xs)
  where
    by_test : (b : Bool) → filter p (map f xs) ≡ map f (filter (λ x. p (f x)) xs) → cond b (f x ∷ filter p (map f xs)) (filter p (map f xs)) ≡ map f (cond b (x ∷ filter (λ x. p (f x)) xs) (filter (λ x. p (f x)) xs))
    by_test true rest = ap (λ ys. f x ∷ ys) rest
    by_test false rest = rest

-- the part of a view that stands in the channels that are shown
abbrev pub part_view : Bool → Record → ℕ → List ℕ → Member → OpenView
part_view private s intents known me = only (is_shown private (standing s me)) (open_view s intents known me)

module _ (private : Bool) (s : Record) (me : Member) (ascends : IsAscending s) where
  abbrev part : Record
  part = record s { channels = shown_channels private s me; voices = shown_voices private s me }

  abbrev shown : ℕ → Bool
  shown = is_shown private (standing s me)

  pub part-ascends : IsAscending part
  part-ascends = record {
    roles = ascends.roles;
    members = ascends.members;
    channels = IsById-filter channel_id (channel_shown private s me) s.channels ascends.channels;
    threads = ascends.threads;
    voices = IsById-filter voice_id (voice_shown private s me) s.voices ascends.voices;
    presences = ascends.presences;
    held = ascends.held;
    overwrites = All-filter (channel_shown private s me) HasOrderedOverwrites s.channels ascends.overwrites;
    joined = ascends.joined;
    messages = ascends.messages;
  }

  -- a member sees the threads that it sees in channels that are shown
  sees-part : (t : Thread) → member_sees part me t ≡ (member_sees s me t && shown t.parent)
  sees-part t = by_shown (shown t.parent) refl
    where
      rest : Bool → Bool
      rest manages = not (is_private t.kind) || is_in me.user.id t || manages

      and-true : (b : Bool) → (b && true) ≡ b
      and-true true = refl
      and-true false = refl

      and-false : (b : Bool) → (b && false) ≡ false
      and-false true = refl
      and-false false = refl

      by_shown : (b : Bool) → shown t.parent ≡ b → member_sees part me t ≡ (member_sees s me t && b)
      by_shown true is =
          ap (λ b. b && rest (granted (standing part me) t.parent manage_threads)) (granted-shown shown (standing s me) t.parent view_channel ascends.channels is)
          ∙ (ap (λ b. granted (standing s me) t.parent view_channel && rest b) (granted-shown shown (standing s me) t.parent manage_threads ascends.channels is)
          ∙ sym (and-true (member_sees s me t)))
      by_shown false hides =
          ap (λ b. b && rest (granted (standing part me) t.parent manage_threads)) (granted-hidden shown (standing s me) t.parent view_channel ascends.channels hides)
          ∙ sym (and-false (member_sees s me t))

  module _ (intents : ℕ) (known : List ℕ) where
    same-threads : map (thread_view intents me.user.id) (seen_threads part me) ≡ filter (shows_thread shown) (map (thread_view intents me.user.id) (seen_threads s me))
    same-threads =
        ap (map (thread_view intents me.user.id))
        (filter-alike (λ (t : Thread). is_active t && member_sees part me t) (λ (t : Thread). (is_active t && member_sees s me t) && shown t.parent) (λ t. ap (λ b. is_active t && b) (sees-part t) ∙ again (is_active t) (member_sees s me t) (shown t.parent)) s.threads
        ∙ sym (filter-both (λ (t : Thread). shown t.parent) (λ (t : Thread). is_active t && member_sees s me t) s.threads))
        ∙ sym (filter-mapped (thread_view intents me.user.id) (shows_thread shown) (seen_threads s me))
      where
        again : (a b c : Bool) → (a && (b && c)) ≡ ((a && b) && c)
        again true b c = refl
        again false b c = refl

    same-voices : listed intents guild_voice_states (filter (voice_shown private s me) s.voices) ≡ filter (shows_voice shown) (listed intents guild_voice_states s.voices)
    same-voices = by_bit (has_bit intents guild_voice_states)
      where
        by_bit : (b : Bool) → (if b then filter (voice_shown private s me) s.voices else []) ≡ filter (shows_voice shown) (if b then s.voices else [])
        by_bit true = refl
        by_bit false = refl

    pub part-open : open_view part intents known me ≡ part_view private s intents known me
    part-open = same-lists (open_view s intents known me) refl same-voices same-threads

-- what a viewer that is served an available guild may hold, as a part of all of it
pub shown-open : (s : Record) (v : Viewer) (known : List ℕ) (me : Member) → IsAscending s → has_bit v.intents guilds ≡ true → served v s ≡ Some me → s.outage ≡ false → projection s v known ≡ Some (Open (part_view s.private s v.intents known me))
shown-open s v known me ascends asks is here = projection-open s v known me asks is here ∙ ap (λ (w : OpenView). Some (Open w)) (part-open s.private s me ascends v.intents known)
