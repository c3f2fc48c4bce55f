-- What is given by what was noted before an edit is what is due by the record before it.
use Rattle.std.proofs.Common.{◌≡◌, Bool, true, false, List, [], Option, Some, None, if◌then◌else◌, refl, sym, ap, ◌∙◌}
use Rattle.guild_model.specs.declared.member.Member.{Member}
use Rattle.guild_model.specs.Record.{Record}
use Rattle.dispatch_types.specs.declared.viewer.Viewer.{Viewer}
use Rattle.dispatch_types.specs.declared.dispatch.Dispatch.{Dispatch}
use Rattle.dispatch_types.specs.Serves.{served}
use Rattle.edit_apply.specs.declared.guild.GuildEdit.TheVariants.{GuildOutage, GuildBack}
use Rattle.edit_apply.specs.declared.Edit.{Edit}
use Rattle.edit_apply.specs.declared.Edit.TheVariants as edit
use Rattle.edit_apply.specs.Edits.{accepts, applied}
use Rattle.whole_events.specs.Dispatches.{whole_dispatches}
use Rattle.whole_events.proofs.Noted.{note_is_enough as whole_note_is_enough}
use Rattle.whole_events.proofs.Others.{id-kept}
use Rattle.channel_privacy.proofs.Enough.{note_is_enough as shown_note_is_enough}
use Rattle.edit_events.specs.Due.{told_of, dispatches, due_to, due_of_accepted, due}
use Rattle.edit_events.specs.declared.due.Was.{Was}
use Rattle.edit_events.specs.Was.{will_withhold, shown_then, was_to, was_of}
use Rattle.edit_events.specs.ByNote.{told_by, own_by, due_between}
use Rattle.edit_events.specs.Law.{NoteIsEnough}
use Rattle.edit_events.proofs.Flags.{as-noted}

told-noted : (s : Record) (me : Member) (t : Record) (me' : Member) (v : Viewer) (b : Bool) (ds : List Dispatch) → t.id ≡ s.id → told_by (shown_then b s me) t me' v ds ≡ told_of s me t me' v b ds
told-noted s me t me' v true ds same = shown_note_is_enough s.private s me t.private t me' v ds same
told-noted s me t me' v false ds same = refl

module _ (s : Record) (v : Viewer) (me me' : Member) where
  -- of a viewer that is served before and after an edit
  own-noted : (e : Edit) → served v s ≡ Some me → served v (applied s e) ≡ Some me' → own_by (was_to s (Some me) e) (applied s e) v me' e ≡ dispatches s me (applied s e) me' v e
  own-noted (edit.Guild GuildOutage) is is' = refl
  own-noted (edit.Guild GuildBack) is is' = refl
  own-noted e is is' =
      let t : Record = applied s e in
      let ds : List Dispatch = whole_dispatches s me t me' v e in
      ap (told_by (shown_then (will_withhold s e) s me) t me' v) (whole_note_is_enough s e v me me' is is')
      ∙ (told-noted s me t me' v (will_withhold s e) ds (id-kept s e) ∙ ap (λ b. told_of s me t me' v b ds) (sym (as-noted s e)))

accepted-noted : (s : Record) (e : Edit) (v : Viewer) → due_between (applied s e) v (was_of s v e) (served v (applied s e)) e ≡ due_of_accepted s e v
accepted-noted s e v = by_members (served v s) (served v (applied s e)) refl refl
  where
    by_members : (o o' : Option Member) → served v s ≡ o → served v (applied s e) ≡ o' → due_between (applied s e) v (was_to s o e) o' e ≡ due_to s o (applied s e) o' v e
    by_members None None is is' = refl
    by_members None (Some me') is is' = refl
    by_members (Some me) None is is' = refl
    by_members (Some me) (Some me') is is' = own-noted s v me me' e is is'

pub note_is_enough : NoteIsEnough
unfolding due
note_is_enough s e v accepted = accepted-noted s e v ∙ sym (ap (λ b. if b then due_of_accepted s e v else []) accepted)

-- what is given by a note of the record before an accepted edit, and by the record after it, is what is due
pub noted_due : (s t : Record) (v : Viewer) (was : Was) (e : Edit) → was ≡ was_of s v e → t ≡ applied s e → accepts s e ≡ true → due_between t v was (served v t) e ≡ due s e v
noted_due s t v was e noted is accepted =
    ap (λ (w : Was). due_between t v w (served v t) e) noted
    ∙ (ap (λ (t : Record). due_between t v (was_of s v e) (served v t) e) is ∙ note_is_enough s e v accepted)
