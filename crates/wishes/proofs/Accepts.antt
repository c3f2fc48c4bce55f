-- A viewer that is served an available guild may set its status there.
use Rattle.std.proofs.Common.{◌≡◌, Bool, true, false, not, ◌&&◌, Option, Some, None, if◌then◌else◌, refl, subst}
use Rattle.std.specs.Prelude.{is_some}
use Rattle.collections.specs.ById.{find_id, has_id}
use Rattle.guild_model.specs.declared.member.Member.{Member}
use Rattle.guild_model.specs.declared.presence.Status.{Status}
use Rattle.guild_model.specs.Record.{Record, member_id}
use Rattle.dispatch_types.specs.declared.viewer.Viewer.{Viewer}
use Rattle.dispatch_types.specs.Serves.{in_shard, serves}
use Rattle.voice_presence.specs.declared.presence_set.PresenceSet.{PresenceSet}
use Rattle.voice_presence.specs.declared.VoicePresenceEdit.TheVariants as wish
use Rattle.edit_apply.specs.declared.Edit.{Edit}
use Rattle.edit_apply.specs.declared.Edit.TheVariants.{VoicePresence}
use Rattle.edit_apply.specs.Edits.{accepts}
use Rattle.wishes.specs.Wishes.{is_heard, heard}
use Rattle.wishes.specs.Law.{PresenceIsAccepted}

both : (a b : Bool) → (a && b) ≡ true → (a ≡ true) × (b ≡ true)
both true true e = (refl, refl)
both true false e = absurd (cc)
both false b e = absurd (cc)

is_no : (b : Bool) → not b ≡ true → b ≡ false
is_no true e = absurd (cc)
is_no false e = refl

there_if : (b : Bool) (o : Option Member) → is_some (if b then o else None) ≡ true → (b ≡ true) × (is_some o ≡ true)
there_if true o e = (refl, e)
there_if false o e = absurd (cc)

accepted : (s : Record) (edit : PresenceSet) → s.opened ≡ true → s.outage ≡ false → has_id member_id edit.user s.members ≡ true → accepts s (VoicePresence (wish.PresenceSet edit)) ≡ true
accepted s edit opened available there = rw (opened, available, there) refl

-- a status for the viewer's own bot
abbrev wished : Viewer → Status → PresenceSet
wished v status = record { user = v.user; status = status }

heard-accepted : (s : Record) (v : Viewer) (status : Status) → is_heard s v ≡ true → accepts s (VoicePresence (wish.PresenceSet (wished v status))) ≡ true
heard-accepted s v status is =
    let parts = both (serves v s) (not s.outage) is in
    let found = there_if (s.opened && in_shard v.shard s.id) (find_id member_id v.user s.members) parts.0 in
    accepted s (wished v status) (both s.opened (in_shard v.shard s.id) found.0).0 (is_no s.outage parts.1) found.1

pub presence_is_accepted : PresenceIsAccepted
presence_is_accepted s v status e made = by_heard (is_heard s v) refl made
  where
    by_heard : (b : Bool) → is_heard s v ≡ b → heard b (wish.PresenceSet (wished v status)) ≡ Some e → accepts s e ≡ true
    by_heard true is made = let same : VoicePresence (wish.PresenceSet (wished v status)) ≡ e = cc in subst (λ (x : Edit). accepts s x ≡ true) same (heard-accepted s v status is)
    by_heard false is made = absurd (cc)
