-- What has to be known of the record before an edit.
use Rattle.std.specs.Prelude.{Bool, true, false, ◌||◌, Option, Some, None}
use Rattle.guild_model.specs.declared.member.Member.{Member}
use Rattle.guild_model.specs.Record.{Record}
use Rattle.dispatch_types.specs.declared.viewer.Viewer.{Viewer}
use Rattle.dispatch_types.specs.Serves.{served}
use Rattle.edit_apply.specs.declared.Edit.{Edit}
use Rattle.edit_apply.specs.declared.Edit.TheVariants as edit
use Rattle.edit_apply.specs.declared.guild.GuildEdit.TheVariants.{GuildPrivate}
use Rattle.whole_events.specs.declared.dispatches.Before.TheVariants.{Nothing}
use Rattle.whole_events.specs.Notes.{note_of}
use Rattle.channel_privacy.specs.declared.before.ShownBefore.{ShownBefore}
use Rattle.channel_privacy.specs.ByNote.{shown_before}
use Rattle.edit_events.specs.declared.due.Was.{Was}

-- channels are withheld before an edit or after it, as the edit says
abbrev pub will_withhold : Record → Edit → Bool
will_withhold s (edit.Message e) = false
will_withhold s (edit.Guild (GuildPrivate private)) = s.private || private
will_withhold s e = s.private

abbrev pub shown_then : Bool → Record → Member → Option ShownBefore
shown_then true s me = Some (shown_before s.private s me)
shown_then false s me = None

-- by a viewer that was served
abbrev pub was_to : Record → Option Member → Edit → Was
was_to s None e = record { served = false; note = Nothing; shown = None }
was_to s (Some me) e = record { served = true; note = note_of s me e; shown = shown_then (will_withhold s e) s me }

abbrev pub was_of : Record → Viewer → Edit → Was
was_of s v e = was_to s (served v s) e
