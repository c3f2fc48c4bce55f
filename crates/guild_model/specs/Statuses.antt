-- The statuses of users (Gateway Events, Status Types), and what a record keeps of them.
use Rattle.std.specs.Prelude.{ℕ, List, codes, Option, Some, None, if◌then◌else◌}
use Rattle.std.specs.Str.{bytes_eq}
use Rattle.guild_model.specs.declared.presence.Status.{Status}
use Rattle.guild_model.specs.declared.presence.Status.TheVariants.{Online, Idle, Dnd, Invisible, Offline}
use Rattle.guild_model.specs.declared.presence.ShownStatus.{ShownStatus}
use Rattle.guild_model.specs.declared.presence.ShownStatus.TheVariants as shown

abbrev pub status_name : Status → List ℕ
status_name Online = codes "online"
status_name Idle = codes "idle"
status_name Dnd = codes "dnd"
status_name Invisible = codes "invisible"
status_name Offline = codes "offline"

unfoldable pub status_named : List ℕ → Option Status
status_named s =
    if bytes_eq s (codes "online") then Some Online
    else (if bytes_eq s (codes "idle") then Some Idle
    else (if bytes_eq s (codes "dnd") then Some Dnd
    else (if bytes_eq s (codes "invisible") then Some Invisible
    else (if bytes_eq s (codes "offline") then Some Offline
    else None))))

-- how others see a user of this status: one that is invisible or offline has no presence
abbrev pub status_shown : Status → Option ShownStatus
status_shown Online = Some shown.Online
status_shown Idle = Some shown.Idle
status_shown Dnd = Some shown.DoNotDisturb
status_shown Invisible = None
status_shown Offline = None

-- the status that others are told
abbrev pub status_of_shown : Option ShownStatus → Status
status_of_shown None = Offline
status_of_shown (Some shown.Online) = Online
status_of_shown (Some shown.Idle) = Idle
status_of_shown (Some shown.DoNotDisturb) = Dnd
