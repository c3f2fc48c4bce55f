-- The edits of a guild itself (Gateway Events, Guild Create, Update and Delete).
use Rattle.std.specs.Prelude.{ℕ, [], ◌∷◌, true, false, not, Option, codes}
use Rattle.guild_model.specs.declared.role.Role.{Role}
use Rattle.guild_model.specs.declared.verdict.Verdict.{Verdict}
use Rattle.guild_model.specs.declared.verdict.Verdict.TheVariants.{NotOpen, AlreadyOpen, Unavailable}
use Rattle.guild_model.specs.Record.{Record}
use Rattle.guild_model.specs.Tests.{refused_if, first_of, too_long, unknown_member}
use Rattle.role_member_edit.specs.Members.{new_member}
use Rattle.edit_apply.specs.declared.guild.GuildEdit.{GuildEdit}
use Rattle.edit_apply.specs.declared.guild.GuildEdit.TheVariants as edit
use Rattle.edit_apply.specs.declared.guild.GuildOpen.{GuildOpen}

-- the first tests of every edit but those that open a guild or end its outage
abbrev pub out_of_service : Record → Option Verdict
out_of_service g = first_of (refused_if (not g.opened) NotOpen ∷ refused_if g.outage Unavailable ∷ [])

-- guild_open
abbrev pub guild_open_verdict : Record → GuildOpen → Option Verdict
guild_open_verdict g opens = first_of (refused_if g.opened AlreadyOpen ∷ too_long 100 opens.name ∷ too_long 100 opens.owner_name ∷ [])

abbrev pub everyone : ℕ → ℕ → Role
everyone guild perms = record { id = guild; name = codes "@everyone"; permissions = perms; position = 0 }

-- its role is @everyone, and its member the owner, who is not a bot
abbrev pub guild_opened : Record → GuildOpen → Record
guild_opened g opens = record g {
  opened = true;
  name = opens.name;
  owner = opens.owner;
  roles = everyone g.id opens.perms ∷ [];
  members = new_member opens.owner opens.owner_name false opens.at ∷ [];
}

-- guild_back
abbrev pub guild_back_verdict : Record → Option Verdict
guild_back_verdict g = first_of (refused_if (not g.opened) NotOpen ∷ refused_if (not g.outage) AlreadyOpen ∷ [])

-- why an edit of the guild itself is refused, if it is
abbrev pub guild_verdict : Record → GuildEdit → Option Verdict
guild_verdict g (edit.GuildOpen opens) = guild_open_verdict g opens
guild_verdict g (edit.GuildRename name) = first_of (out_of_service g ∷ too_long 100 name ∷ [])
guild_verdict g (edit.GuildOwner user) = first_of (out_of_service g ∷ unknown_member g user ∷ [])
guild_verdict g edit.GuildOutage = out_of_service g
guild_verdict g edit.GuildBack = guild_back_verdict g
guild_verdict g (edit.GuildPrivate private) = out_of_service g

-- the record after an edit that is not refused
abbrev pub guild_applied : Record → GuildEdit → Record
guild_applied g (edit.GuildOpen opens) = guild_opened g opens
guild_applied g (edit.GuildRename name) = record g { name = name }
guild_applied g (edit.GuildOwner user) = record g { owner = user }
guild_applied g edit.GuildOutage = record g { outage = true }
guild_applied g edit.GuildBack = record g { outage = false }
guild_applied g (edit.GuildPrivate private) = record g { private = private }
