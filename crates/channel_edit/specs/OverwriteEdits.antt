-- Overwrites that are set and deleted (Channels Resource, Edit and Delete Channel Permission).
use Rattle.std.specs.Prelude.{ℕ, ◌+◌, length, List, [], ◌∷◌, Bool, not, Option, Some, None, if◌then◌else◌}
use Rattle.collections.specs.ById.{find_id, has_id, put_id, without_id}
use Rattle.guild_model.specs.declared.channel.Channel.{Channel}
use Rattle.guild_model.specs.declared.channel.Overwrite.{Overwrite}
use Rattle.guild_model.specs.declared.channel.OverwriteKind.{OverwriteKind}
use Rattle.guild_model.specs.declared.channel.OverwriteKind.TheVariants.{Role, Member}
use Rattle.guild_model.specs.declared.channel.Overwrites.{Overwrites}
use Rattle.guild_model.specs.declared.verdict.Verdict.{Verdict}
use Rattle.guild_model.specs.declared.verdict.Verdict.TheVariants.{UnknownRole, UnknownMember}
use Rattle.guild_model.specs.Record.{Record, overwrite_id, channel_id}
use Rattle.guild_model.specs.Tests.{refused_if, first_of, too_many, unknown_role, unknown_member, unknown_channel}
use Rattle.channel_edit.specs.declared.overwrite_set.OverwriteSet.{OverwriteSet}
use Rattle.channel_edit.specs.declared.overwrite_delete.OverwriteDelete.{OverwriteDelete}
use Rattle.channel_edit.specs.Channels.{overwrites_there, with_channel_changed}

-- the overwrites of roles, or those of members
abbrev pub of_kind : OverwriteKind → Overwrites → List Overwrite
of_kind Role os = os.roles
of_kind Member os = os.members

abbrev pub has_overwrite : Overwrites → ℕ → OverwriteKind → Bool
has_overwrite os id kind = has_id overwrite_id id (of_kind kind os)

-- overwrite_set: the role or member that it is of exists, and a new one has room
abbrev pub unknown_target : Record → ℕ → OverwriteKind → Option Verdict
unknown_target g id Role = unknown_role g id
unknown_target g id Member = unknown_member g id

abbrev pub without_room : Option Channel → ℕ → OverwriteKind → Option Verdict
without_room None id kind = None
without_room (Some c) id kind =
    if has_overwrite c.overwrites id kind
    then None
    else too_many 100 (length c.overwrites.roles + length c.overwrites.members)

abbrev pub overwrite_set_verdict : Record → OverwriteSet → Option Verdict
overwrite_set_verdict g edit = first_of (
    unknown_channel g edit.channel
    ∷ unknown_target g edit.id edit.kind
    ∷ without_room (find_id channel_id edit.channel g.channels) edit.id edit.kind
    ∷ [])

-- the overwrite that an edit sets
abbrev pub overwrite_of : OverwriteSet → Overwrite
overwrite_of edit = record { id = edit.id; allow = edit.allow; deny = edit.deny }

abbrev pub put_overwrite : OverwriteKind → Overwrite → Overwrites → Overwrites
put_overwrite Role o os = record os { roles = put_id overwrite_id o os.roles }
put_overwrite Member o os = record os { members = put_id overwrite_id o os.members }

abbrev pub with_overwrite : OverwriteKind → Overwrite → Channel → Channel
with_overwrite kind o c = record c { overwrites = put_overwrite kind o c.overwrites }

abbrev pub overwrite_was_set : Record → OverwriteSet → Record
overwrite_was_set g edit = with_channel_changed g edit.channel (with_overwrite edit.kind (overwrite_of edit))

-- overwrite_delete
abbrev pub unknown_of : OverwriteKind → Verdict
unknown_of Role = UnknownRole
unknown_of Member = UnknownMember

abbrev pub unknown_overwrite : Option Channel → ℕ → OverwriteKind → Option Verdict
unknown_overwrite None id kind = None
unknown_overwrite (Some c) id kind = refused_if (not (has_overwrite c.overwrites id kind)) (unknown_of kind)

abbrev pub overwrite_delete_verdict : Record → OverwriteDelete → Option Verdict
overwrite_delete_verdict g edit = first_of (
    unknown_channel g edit.channel
    ∷ unknown_overwrite (find_id channel_id edit.channel g.channels) edit.id edit.kind
    ∷ [])

abbrev pub drop_overwrite : OverwriteKind → ℕ → Overwrites → Overwrites
drop_overwrite Role id os = record os { roles = without_id overwrite_id id os.roles }
drop_overwrite Member id os = record os { members = without_id overwrite_id id os.members }

abbrev pub without_overwrite : OverwriteKind → ℕ → Channel → Channel
without_overwrite kind id c = record c { overwrites = drop_overwrite kind id c.overwrites }

abbrev pub overwrite_deleted : Record → OverwriteDelete → Record
overwrite_deleted g edit = with_channel_changed g edit.channel (without_overwrite edit.kind edit.id)

-- the overwrites of a channel with one set, and a channel that has these
abbrev pub overwrites_with : Record → OverwriteSet → Overwrites
overwrites_with g edit =
    put_overwrite edit.kind (overwrite_of edit) (overwrites_there (find_id channel_id edit.channel g.channels))

abbrev pub with_overwrites : Overwrites → Channel → Channel
with_overwrites os c = record c { overwrites = os }
