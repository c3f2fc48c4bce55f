-- What an accepted edit owes to a viewer (Gateway Events, Receive Events). That a guild may withhold channels from
-- those who do not see them is this server's choice.
use Rattle.std.specs.Prelude.{ℕ, List, [], Bool, true, false, ◌||◌, Option, Some, None, if◌then◌else◌}
use Rattle.guild_model.specs.declared.member.Member.{Member}
use Rattle.guild_model.specs.Record.{Record}
use Rattle.dispatch_types.specs.declared.viewer.Viewer.{Viewer}
use Rattle.dispatch_types.specs.declared.dispatch.Dispatch.{Dispatch}
use Rattle.dispatch_types.specs.declared.dispatch.Dispatch.TheVariants.{GuildCreate, GuildDelete}
use Rattle.dispatch_types.specs.Serves.{served}
use Rattle.event_views.specs.Asked.{asked}
use Rattle.edit_apply.specs.declared.Edit.{Edit}
use Rattle.edit_apply.specs.declared.Edit.TheVariants as edit
use Rattle.edit_apply.specs.declared.guild.GuildEdit.TheVariants.{GuildOutage, GuildBack}
use Rattle.edit_apply.specs.Edits.{accepts, applied}
use Rattle.whole_events.specs.Dispatches.{whole_dispatches}
use Rattle.channel_privacy.specs.Withheld.{withheld}
use Rattle.channel_privacy.specs.Law.{showing}
use Rattle.edit_events.specs.Greeting.{greeting}

-- the guild is gone, or in an outage
abbrev pub guild_gone : ℕ → Viewer → Bool → List Dispatch
guild_gone guild v unavailable = asked v false (GuildDelete (record { id = guild; unavailable = unavailable }))

-- the guild comes, or comes back
abbrev pub guild_comes : Record → Viewer → Member → List Dispatch
guild_comes s v me = asked v false (GuildCreate (greeting s v me))

-- channels are withheld before an edit or after it; an edit of messages tells of no channel, and leaves what is shown
-- as it is
abbrev pub withholds : Record → Record → Edit → Bool
withholds before after (edit.Message e) = false
withholds before after e = before.private || after.private

-- the list of an edit for a viewer that is served before and after it, by the record before it and the record
-- after, with the viewer's own member in each
module _ (before : Record) (me : Member) (after : Record) (me' : Member) (v : Viewer) where
  abbrev pub told_of : Bool → List Dispatch → List Dispatch
  told_of true ds = withheld before after (showing before.private before me after.private after me') v ds
  told_of false ds = ds

  abbrev pub dispatches : Edit → List Dispatch
  dispatches (edit.Guild GuildOutage) = guild_gone after.id v true
  dispatches (edit.Guild GuildBack) = guild_comes after v me'
  dispatches e = told_of (withholds before after e) (whole_dispatches before me after me' v e)

-- one that is served only after it is told the guild, one that is served only before it that the guild is gone
abbrev pub due_to : Record → Option Member → Record → Option Member → Viewer → Edit → List Dispatch
due_to before None after None v e = []
due_to before None after (Some me') v e = guild_comes after v me'
due_to before (Some me) after None v e = guild_gone after.id v false
due_to before (Some me) after (Some me') v e = dispatches before me after me' v e

abbrev pub due_of_accepted : Record → Edit → Viewer → List Dispatch
due_of_accepted s e v = due_to s (served v s) (applied s e) (served v (applied s e)) v e

-- a refused edit owes nothing
unfoldable pub due : Record → Edit → Viewer → List Dispatch
due s e v = if accepts s e then due_of_accepted s e v else []
