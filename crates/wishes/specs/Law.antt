-- A status that a client asks for is accepted.
use Rattle.std.specs.Prelude.{◌≡◌, true, Some}
use Rattle.guild_model.specs.declared.presence.Status.{Status}
use Rattle.guild_model.specs.Record.{Record}
use Rattle.dispatch_types.specs.declared.viewer.Viewer.{Viewer}
use Rattle.edit_apply.specs.declared.Edit.{Edit}
use Rattle.edit_apply.specs.Edits.{accepts}
use Rattle.wishes.specs.Wishes.{presence_wish}

-- a status that a client asks for is accepted in the guild as it then was
abbrev pub PresenceIsAccepted : Type 0
PresenceIsAccepted = (s : Record) (v : Viewer) (status : Status) (e : Edit) → presence_wish s v status ≡ Some e → accepts s e ≡ true
