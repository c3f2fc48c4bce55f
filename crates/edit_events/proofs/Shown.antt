-- What is shown of a record, and what a client then holds.
use Rattle.std.proofs.Common.{◌≡◌, ℕ, Bool, true, false, not, ◌&&◌, ◌||◌, List, [], map, Option, Some, None, if◌then◌else◌, refl, sym, ap, ◌∙◌}
use Rattle.std.specs.Prelude.{All, is_some}
use Rattle.std.proofs.lemmas.Bool.{and_parts}
use Rattle.std.proofs.lemmas.List.Elements.{All-nil, All-map, All-weaker}
use Rattle.collections.specs.ById.{find_id, has_id, keep_if, IsById}
use Rattle.collections.proofs.Finds.{IsById-filter, IsById-map, find-filter}
use Rattle.perm_bits.specs.Bits.{has_bit}
use Rattle.perm_bits.specs.Permissions.{view_channel}
use Rattle.intent_set.specs.Intents.{guilds, guild_voice_states}
use Rattle.guild_model.specs.declared.channel.Channel.{Channel}
use Rattle.guild_model.specs.declared.member.Member.{Member}
use Rattle.guild_model.specs.declared.thread.Thread.{Thread}
use Rattle.guild_model.specs.declared.voice.Voice.{Voice}
use Rattle.guild_model.specs.Record.{Record, channel_id, thread_id, voice_id}
use Rattle.guild_model.specs.Ascending.{IsWell}
use Rattle.guild_model.specs.Sight.{standing, sees, member_sees}
use Rattle.dispatch_types.specs.declared.viewer.Viewer.{Viewer}
use Rattle.dispatch_types.specs.declared.view.ThreadView.{ThreadView}
use Rattle.dispatch_types.specs.Projection.{is_active, thread_view, seen_threads, open_view}
use Rattle.dispatch_types.specs.Fold.{Held, thread_view_id}
use Rattle.dispatch_types.proofs.Views.{purged-open}
use Rattle.channel_privacy.proofs.Only.{shows_voice, only}
use Rattle.guild_model.specs.Shown.{is_shown, voice_shown, shown_voices}
use Rattle.channel_privacy.specs.Withheld.{Showing}
use Rattle.channel_privacy.specs.Law.{showing}
use Rattle.channel_privacy.proofs.Filters.{each-there}
use Rattle.channel_privacy.proofs.Part.{IsOrdered}
use Rattle.channel_privacy.proofs.Lost.{has-kept}
use Rattle.channel_privacy.proofs.Rows.{shown_first, not_lost, kept_on}
use Rattle.channel_privacy.proofs.Follows.{Before, only-same_in, All-passes, granted-there, parents-there}
use Rattle.event_views.specs.Has.{Has}

-- who sees a channel is shown it
pub sees-shown : (private b : Bool) → b ≡ true → (not private || b) ≡ true
sees-shown true true e = refl
sees-shown true false e = absurd (cc)
sees-shown false b e = refl

module _ (s : Record) (me : Member) where
  -- the threads that a member sees stand in channels that it sees
  pub parents-seen : (intents : ℕ) → All (λ (thread : ThreadView). sees (standing s me) thread.parent ≡ true) (map (thread_view intents me.user.id) (seen_threads s me))
  parents-seen intents =
      All-map (λ (thread : ThreadView). sees (standing s me) thread.parent ≡ true) (thread_view intents me.user.id) (seen_threads s me)
      (All-weaker (λ (t : Thread). (is_active t && member_sees s me t) ≡ true) (λ (t : Thread). sees (standing s me) t.parent ≡ true) seen (seen_threads s me) (All-passes (λ (t : Thread). is_active t && member_sees s me t) s.threads))
    where
      seen : (t : Thread) → (is_active t && member_sees s me t) ≡ true → sees (standing s me) t.parent ≡ true
      seen t e = (and_parts (sees (standing s me) t.parent) _ (and_parts (is_active t) (member_sees s me t) e).1).0

module _ (s : Record) (v : Viewer) (me : Member) (well : IsWell s) where
  pub ordered : (known : List ℕ) → IsOrdered (open_view s v.intents known me)
  ordered known = record {
    channels = well.ascending.channels;
    voices = by_bit (has_bit v.intents guild_voice_states);
    threads = IsById-map thread_id thread_view_id (thread_view v.intents me.user.id) (λ t. refl) (seen_threads s me) (IsById-filter thread_id _ s.threads well.ascending.threads);
  }
    where
      by_bit : (b : Bool) → IsById voice_id (if b then s.voices else [])
      by_bit true = well.ascending.voices
      by_bit false = tt

  -- each voice state is in a channel of the guild
  pub voices-stand : All (λ (z : Voice). has_id channel_id z.channel s.channels ≡ true) s.voices
  voices-stand = All-weaker (λ (z : Voice). find_id voice_id z.user s.voices ≡ Some z) (λ (z : Voice). has_id channel_id z.channel s.channels ≡ true) (λ z found. (well.consistent.voices z.user z found).1) s.voices (each-there voice_id s.voices well.ascending.voices)

  pub channels-there : All (λ (c : Channel). has_id channel_id c.id s.channels ≡ true) s.channels
  channels-there = All-weaker (λ (c : Channel). find_id channel_id c.id s.channels ≡ Some c) (λ (c : Channel). has_id channel_id c.id s.channels ≡ true) (λ c found. ap (λ (o : Option Channel). is_some o) found) s.channels (each-there channel_id s.channels well.ascending.channels)

  -- tests that say the same of the channels of the guild take the same part of its view
  pub same-part : (p q : ℕ → Bool) → ((id : ℕ) → has_id channel_id id s.channels ≡ true → p id ≡ q id) → (known : List ℕ) → only p (open_view s v.intents known me) ≡ only q (open_view s v.intents known me)
  same-part p q same known =
      only-same_in p q (open_view s v.intents known me)
      (All-weaker (λ (c : Channel). has_id channel_id c.id s.channels ≡ true) (λ (c : Channel). p c.id ≡ q c.id) (λ c there. same c.id there) s.channels channels-there)
      (by_bit (has_bit v.intents guild_voice_states))
      (All-weaker (λ (thread : ThreadView). has_id channel_id thread.parent s.channels ≡ true) (λ (thread : ThreadView). p thread.parent ≡ q thread.parent) (λ thread there. same thread.parent there) (open_view s v.intents known me).threads
      (parents-there v.intents s.id (open_view s v.intents known me) (purged-open s v.intents known me)))
    where
      by_bit : (b : Bool) → All (λ (z : Voice). p z.channel ≡ q z.channel) (if b then s.voices else [])
      by_bit true = All-weaker (λ (z : Voice). has_id channel_id z.channel s.channels ≡ true) (λ (z : Voice). p z.channel ≡ q z.channel) (λ z there. same z.channel there) s.voices voices-stand
      by_bit false = All-nil (λ (z : Voice). p z.channel ≡ q z.channel)

  -- a user without a voice state that is shown has none in a channel that is shown
  pub unheard : (private : Bool) (shown : ℕ → Bool) (user : ℕ) → ((id : ℕ) → has_id channel_id id s.channels ≡ true → is_shown private (standing s me) id ≡ false → shown id ≡ false)
      → has_id voice_id user (shown_voices private s me) ≡ false → keep_if (shows_voice shown) (find_id voice_id user s.voices) ≡ None
  unheard private shown user hides out =
      by_found (find_id voice_id user s.voices) refl (sym (ap (λ (o : Option Voice). is_some o) (find-filter voice_id (voice_shown private s me) user s.voices well.ascending.voices)) ∙ out)
    where
      by_found : (o : Option Voice) → find_id voice_id user s.voices ≡ o → is_some (keep_if (voice_shown private s me) o) ≡ false → keep_if (shows_voice shown) o ≡ None
      by_found None found e = refl
      by_found (Some z) found e = ap (λ b. if b then Some z else None) (hides z.channel (well.consistent.voices user z found).1 (by_test (voice_shown private s me z) e))
        where
          by_test : (b : Bool) → is_some (if b then Some z else None) ≡ false → b ≡ false
          by_test true f = absurd (cc)
          by_test false f = refl

  module _ (t : Record) (me' : Member) (private private' : Bool) where
    abbrev x : Showing
    x = showing private s me private' t me'

    pub before-shown : (id : ℕ) → x.before id ≡ (has_id channel_id id s.channels && is_shown private (standing s me) id)
    before-shown id = has-kept (is_shown private (standing s me)) s.channels id

    -- a channel of the guild is held at first where it is shown
    pub first-shown : (id : ℕ) → has_id channel_id id s.channels ≡ true → shown_first v.intents s.id s t x id ≡ is_shown private (standing s me) id
    first-shown id there =
        ap (λ b. if b then x.before id else x.after id) there ∙ (before-shown id ∙ ap (λ b. b && is_shown private (standing s me) id) there)

    -- a client of the whole guild before the edit
    pub before : (asks : has_bit v.intents guilds ≡ true) (same : t.id ≡ s.id) (q : Held) → Has s v me q → Before s t v x asks same q
    before asks same q has = record {
      all = open_view s v.intents q.known me;
      holds = has.view;
      order = ordered q.known;
      settled = purged-open s v.intents q.known me;
      voices = λ user out. by_bit user out (has_bit v.intents guild_voice_states);
      under = All-weaker (λ (thread : ThreadView). sees (standing s me) thread.parent ≡ true) (λ (thread : ThreadView). shown_first v.intents s.id s t x thread.parent ≡ true)
          (λ thread seen. first-shown thread.parent (granted-there (standing s me) thread.parent view_channel seen) ∙ sees-shown private (sees (standing s me) thread.parent) seen)
          (open_view s v.intents q.known me).threads (parents-seen s me v.intents);
    }
      where
        hidden : (user : ℕ) → x.in_voice user ≡ false → keep_if (shows_voice (kept_on v.intents s.id s t x)) (find_id voice_id user s.voices) ≡ None
        hidden user out =
            unheard private (kept_on v.intents s.id s t x) user
            (λ id there hides. ap (λ b. b && not_lost v.intents s.id s t x id) (first-shown id there ∙ hides)) out

        by_bit : (user : ℕ) → x.in_voice user ≡ false → (b : Bool) → keep_if (shows_voice (kept_on v.intents s.id s t x)) (find_id voice_id user (if b then s.voices else [])) ≡ None
        by_bit user out true = hidden user out
        by_bit user out false = refl
