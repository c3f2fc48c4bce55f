-- internal: what an accepted edit owes by what was noted before it; that it is what is due is a law.
use Rattle.std.specs.Prelude.{List, [], Bool, true, false, Option, Some, None}
use Rattle.guild_model.specs.declared.member.Member.{Member}
use Rattle.guild_model.specs.Record.{Record}
use Rattle.dispatch_types.specs.declared.viewer.Viewer.{Viewer}
use Rattle.dispatch_types.specs.declared.dispatch.Dispatch.{Dispatch}
use Rattle.edit_apply.specs.declared.Edit.{Edit}
use Rattle.edit_apply.specs.declared.Edit.TheVariants as edit
use Rattle.edit_apply.specs.declared.guild.GuildEdit.TheVariants.{GuildOutage, GuildBack}
use Rattle.whole_events.specs.ByNote.{by_note}
use Rattle.channel_privacy.specs.declared.before.ShownBefore.{ShownBefore}
use Rattle.channel_privacy.specs.ByNote.{withheld_by}
use Rattle.edit_events.specs.declared.due.Was.{Was}
use Rattle.edit_events.specs.Due.{guild_gone, guild_comes}

-- of the dispatches that are owed where nothing is withheld, those that are told
abbrev pub told_by : Option ShownBefore → Record → Member → Viewer → List Dispatch → List Dispatch
told_by None after me v ds = ds
told_by (Some shown) after me v ds = withheld_by shown after.private after me v ds

-- for a viewer that is served before and after the edit, with the record after and the viewer's own member there
abbrev pub own_by : Was → Record → Viewer → Member → Edit → List Dispatch
own_by was after v me (edit.Guild GuildOutage) = guild_gone after.id v true
own_by was after v me (edit.Guild GuildBack) = guild_comes after v me
own_by was after v me e = told_by was.shown after me v (by_note was.note after v me e)

abbrev pub due_by : Bool → Was → Record → Viewer → Option Member → Edit → List Dispatch
due_by false was after v None e = []
due_by false was after v (Some me) e = guild_comes after v me
due_by true was after v None e = guild_gone after.id v false
due_by true was after v (Some me) e = own_by was after v me e

abbrev pub due_between : Record → Viewer → Was → Option Member → Edit → List Dispatch
due_between after v was me e = due_by was.served was after v me e
