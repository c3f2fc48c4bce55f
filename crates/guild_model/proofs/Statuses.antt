-- The name of a status reads back as the status, and what others are told of what a user does says so.
use Rattle.std.proofs.Common.{◌≡◌, Option, Some, None, refl}
use Rattle.guild_model.specs.declared.presence.Status.{Status}
use Rattle.guild_model.specs.declared.presence.Status.TheVariants.{Online, Idle, Dnd, Invisible, Offline}
use Rattle.guild_model.specs.declared.presence.ShownStatus.{ShownStatus}
use Rattle.guild_model.specs.declared.presence.ShownStatus.TheVariants as shown
use Rattle.guild_model.specs.Statuses.{status_name, status_named, status_shown, status_of_shown}

pub status_back : (s : Status) → status_named (status_name s) ≡ Some s
unfolding status_named
status_back Online = refl
status_back Idle = refl
status_back Dnd = refl
status_back Invisible = refl
status_back Offline = refl

pub shown_back : (a : Option ShownStatus) → status_shown (status_of_shown a) ≡ a
shown_back None = refl
shown_back (Some shown.Online) = refl
shown_back (Some shown.Idle) = refl
shown_back (Some shown.DoNotDisturb) = refl
