-- A record in which the lists hold together stays so under each edit of voice states and presences.
use Rattle.std.proofs.Common.{◌≡◌, ℕ, Bool, true, false, not, ◌||◌, ◌∷◌, [], Option, Some, None, if◌then◌else◌, refl, sym, ◌∙◌, subst, arith}
use Rattle.std.specs.Prelude.{◌==◌}
use Rattle.std.proofs.lemmas.Bool.Decides.{nat_tests}
use Rattle.collections.specs.ById.{find_id, has_id}
use Rattle.collections.proofs.Finds.{find-put, found-without}
use Rattle.collections.proofs.Has.{has-put, has-left}
use Rattle.guild_model.specs.declared.presence.ShownStatus.{ShownStatus}
use Rattle.guild_model.specs.declared.presence.Presence.{Presence}
use Rattle.guild_model.specs.declared.voice.Voice.{Voice}
use Rattle.guild_model.specs.declared.verdict.Verdict.TheVariants.{UnknownMember, UnknownChannel, WrongType}
use Rattle.guild_model.specs.Record.{Record, member_id, channel_id, voice_id, presence_id}
use Rattle.guild_model.specs.Consistent.{IsConsistent}
use Rattle.guild_model.specs.Tests.{refused_if, unknown_member, unknown_channel}
use Rattle.guild_model.proofs.Tests.{first_passes, passed}
use Rattle.guild_model.proofs.Kept.{voices_changed, presences_changed}
use Rattle.voice_presence.specs.declared.voice_set.VoiceSet.{VoiceSet}
use Rattle.voice_presence.specs.Voices.{has_voice_there, no_voice_channel, no_channel_for_voice, voice_set_verdict, new_voice, voice_joined, voice_left}
use Rattle.voice_presence.specs.Presences.{new_presence, with_shown_status}

-- what the tests let through
member_there : (g : Record) (user : ℕ) → unknown_member g user ≡ None → has_id member_id user g.members ≡ true
member_there g user e = passed (has_id member_id user g.members) UnknownMember e

channel_there : (g : Record) (channel : ℕ) → no_voice_channel g channel ≡ None → has_id channel_id channel g.channels ≡ true
channel_there g channel e =
    let known = (first_passes (unknown_channel g channel) (refused_if (not (has_voice_there (find_id channel_id channel g.channels))) WrongType ∷ []) e).0 in
    passed (has_id channel_id channel g.channels) UnknownChannel known

both_there : (g : Record) (edit : VoiceSet) (channel : ℕ) → edit.channel ≡ Some channel → voice_set_verdict g edit ≡ None
    → (has_id member_id edit.user g.members ≡ true) × (has_id channel_id channel g.channels ≡ true)
both_there g edit channel is e =
    let takes = no_channel_for_voice g edit.user edit.channel in
    let first = first_passes (unknown_member g edit.user) (takes ∷ []) e in
    let second = first_passes takes [] first.1 in
    (member_there g edit.user first.0, channel_there g channel (subst (λ (o : Option ℕ). no_channel_for_voice g edit.user o ≡ None) is second.0))

module _ (g : Record) (is_open : g.opened ≡ true) (h : IsConsistent g) where
  -- a voice state of a member, in a channel
  abbrev Stands : ℕ → Voice → Type 0
  Stands user v = (has_id member_id user g.members ≡ true) × (has_id channel_id v.channel g.channels ≡ true)

  found_put : (b : Bool) (user : ℕ) (v n : Voice) (o : Option Voice) → (b ≡ true → Stands user n) → (o ≡ Some v → Stands user v) → (if b then Some n else o) ≡ Some v → Stands user v
  found_put true user v n o new old e = let same : n ≡ v = cc in subst (Stands user) same (new refl)
  found_put false user v n o new old e = old e

  pub voice_came : (edit : VoiceSet) (channel : ℕ) → edit.channel ≡ Some channel → voice_set_verdict g edit ≡ None → IsConsistent (voice_joined g (new_voice edit channel))
  voice_came edit channel is accepted =
      let n : Voice = new_voice edit channel in
      let there = both_there g edit channel is accepted in
      voices_changed g is_open h _
      (λ id v found. found_put (edit.user == id) id v n (find_id voice_id id g.voices) (stands id there) (h.voices id v) (sym (find-put voice_id n id g.voices) ∙ found))
    where
      stands : (id : ℕ) → Stands edit.user (new_voice edit channel) → (edit.user == id) ≡ true → Stands id (new_voice edit channel)
      stands id there same = let user : edit.user ≡ id = grind (arith, nat_tests) in subst (λ (u : ℕ). Stands u (new_voice edit channel)) user there

  pub voice_gone : (user : ℕ) → IsConsistent (voice_left g user)
  voice_gone user =
      voices_changed g is_open h _
      (λ id v found. h.voices id v (found-without voice_id user id g.voices v found).1)

  pub presence_came : (user : ℕ) (shown : ShownStatus) → unknown_member g user ≡ None → IsConsistent (with_shown_status g user (Some shown))
  presence_came user shown accepted =
      let n : Presence = new_presence user shown in
      let there = member_there g user accepted in
      presences_changed g is_open h _ (λ id found. by_test id (user == id) refl there (sym (has-put presence_id n id g.presences) ∙ found))
    where
      by_test : (id : ℕ) (b : Bool) → (user == id) ≡ b → has_id member_id user g.members ≡ true → (b || has_id presence_id id g.presences) ≡ true → has_id member_id id g.members ≡ true
      by_test id true e there either = let same : user ≡ id = grind (arith, nat_tests) in subst (λ (u : ℕ). has_id member_id u g.members ≡ true) same there
      by_test id false e there either = h.presences id either

  pub presence_gone : (user : ℕ) → IsConsistent (with_shown_status g user None)
  presence_gone user =
      presences_changed g is_open h _ (λ id found. h.presences id (has-left presence_id user id g.presences found).1)
