-- The edit of each entry of a guild's log, by the guild's id, the entry's place and what is drawn for it.
use Rattle.std.specs.Prelude.{ℕ, ◌+◌, ◌-◌, ◌*◌, ◌/◌, ◌%◌, ◌==◌, List, [], ◌++◌, true, false, nat_lt, Some, None, if◌then◌else◌, codes, decimal}
use Rattle.guild_model.specs.declared.channel.ChannelKind.TheVariants as channel
use Rattle.guild_model.specs.declared.channel.OverwriteKind.TheVariants as overwrite
use Rattle.guild_model.specs.declared.thread.ThreadKind.{ThreadKind}
use Rattle.guild_model.specs.declared.thread.ThreadKind.TheVariants as thread
use Rattle.role_member_edit.specs.declared.RoleMemberEdit.TheVariants.{RoleCreate, RoleUpdate, MemberAdd, MemberNick, MemberRoleAdd, MemberRoleRemove}
use Rattle.role_member_edit.specs.declared.held_role.HeldRole.{HeldRole}
use Rattle.channel_edit.specs.declared.ChannelEdit.TheVariants.{ChannelCreate, OverwriteSet}
use Rattle.thread_edit.specs.declared.ThreadEdit.TheVariants.{ThreadCreate, ThreadArchive, ThreadUnarchive}
use Rattle.message_edit.specs.declared.MessageEdit.TheVariants.{MessageCreate}
use Rattle.edit_apply.specs.declared.guild.GuildEdit.TheVariants.{GuildOpen, GuildRename}
use Rattle.edit_apply.specs.declared.Edit.{Edit}
use Rattle.edit_apply.specs.declared.Edit.TheVariants.{Guild, RoleMember, Channel, Thread, Message}

-- the id of the guild with this number, 1 to 8
abbrev pub guild_id : ℕ → ℕ
guild_id number = number * 4194304

-- a bot's token is its name
abbrev pub bot_name : ℕ → List ℕ
bot_name bot = codes "b" ++ decimal bot

abbrev pub rename : List ℕ → Edit
rename name = Guild (GuildRename name)

-- ---- entries 0 to 15: the guild, three bots, four roles, four channels, four members

abbrev pub open_guild : Edit
open_guild =
    Guild (GuildOpen (record { name = codes "g"; owner = 100; owner_name = codes "o"; perms = 1024; at = 0 }))

abbrev pub add_bot : ℕ → Edit
add_bot bot = RoleMember (MemberAdd (record { user = bot; name = bot_name bot; bot = true; at = 0 }))

abbrev pub create_role : ℕ → Edit
create_role role =
    RoleMember (RoleCreate (record { role = role; name = codes "r"; perms = 0; position = 0 }))

abbrev pub create_channel : ℕ → Edit
create_channel id =
    Channel (ChannelCreate (record {
      channel = id;
      kind = channel.Text;
      name = codes "c";
      parent = None;
      position = 0;
      sync = false;
    }))

abbrev pub add_user : ℕ → Edit
add_user user =
    RoleMember (MemberAdd (record { user = user; name = codes "u"; bot = false; at = 0 }))

unfoldable pub setup : ℕ → ℕ → Edit
setup guild j =
    if j == 0 then open_guild
    else (if nat_lt j 4 then add_bot j
    else (if nat_lt j 8 then create_role (guild + 1 + (j - 4))
    else (if nat_lt j 12 then create_channel (guild + 10 + (j - 8))
    else add_user (101 + (j - 12)))))

-- ---- entries 16 to 999: eight kinds in turn, of which this is round n

-- one of the guild's four channels
abbrev pub drawn_channel : ℕ → ℕ → ℕ
drawn_channel guild r = guild + 10 + r % 4

-- an overwrite of @everyone or a role allows VIEW_CHANNEL, denies it or says nothing
abbrev pub set_overwrite : ℕ → ℕ → Edit
set_overwrite guild r =
    let choice = r / 32 % 3 in
    Channel (OverwriteSet (record {
      channel = drawn_channel guild r;
      id = guild + r / 4 % 5;
      kind = overwrite.Role;
      allow = if choice == 0 then 1024 else 0;
      deny = if choice == 1 then 1024 else 0;
    }))

abbrev pub drawn_kind : ℕ → ThreadKind
drawn_kind r = if r / 4 % 2 == 0 then thread.Public else thread.Private

abbrev pub create_thread : ℕ → ℕ → ℕ → Edit
create_thread guild n r =
    Thread (ThreadCreate (record {
      thread = guild + 1000 + n;
      parent = drawn_channel guild r;
      kind = drawn_kind r;
      name = codes "t";
      owner = 101;
      at = 0;
    }))

-- nothing, VIEW_CHANNEL, MANAGE_THREADS or ADMINISTRATOR
abbrev pub drawn_perms : ℕ → ℕ
drawn_perms choice =
    if choice == 0 then 0
    else (if choice == 1 then 1024
    else (if choice == 2 then 17179869184
    else 8))

abbrev pub update_role : ℕ → ℕ → Edit
update_role guild r =
    RoleMember (RoleUpdate (record {
      role = guild + 1 + r % 4;
      name = codes "r";
      perms = drawn_perms (r / 4 % 4);
      position = 0;
    }))

abbrev pub create_message : ℕ → ℕ → ℕ → Edit
create_message guild n r =
    Message (MessageCreate (record {
      message = guild + 5000 + n;
      channel = drawn_channel guild r;
      author = 101;
      body = record { content = codes "m"; mentions = []; embeds = 0; attachments = 0; components = 0 };
    }))

abbrev pub archive_thread : ℕ → ℕ → Edit
archive_thread guild n = Thread (ThreadArchive (guild + 1000 + n))

-- an odd round's thread is active again, and in an even round the guild has another name
abbrev pub unarchive_or_rename : ℕ → ℕ → Edit
unarchive_or_rename guild n =
    if n % 2 == 0 then rename (codes "n") else Thread (ThreadUnarchive (guild + 1000 + n))

abbrev pub set_nick : ℕ → Edit
set_nick r = RoleMember (MemberNick (record { user = 101 + r % 4; nick = Some (codes "k") }))

-- a bot is given a role in an even round, and in the odd one after it loses the role
abbrev pub change_role : ℕ → ℕ → Edit
change_role guild n =
    let held : HeldRole = record { user = 1 + n / 2 % 3; role = guild + 1 + n / 2 % 4 } in
    RoleMember (if n % 2 == 0 then MemberRoleAdd held else MemberRoleRemove held)

unfoldable pub turn : ℕ → ℕ → ℕ → ℕ → Edit
turn guild kind n r =
    if kind == 0 then set_overwrite guild r
    else (if kind == 1 then create_thread guild n r
    else (if kind == 2 then update_role guild r
    else (if kind == 3 then create_message guild n r
    else (if kind == 4 then archive_thread guild n
    else (if kind == 5 then unarchive_or_rename guild n
    else (if kind == 6 then set_nick r
    else change_role guild n))))))

-- ---- an entry: r is drawn for entry j

unfoldable pub entry : ℕ → ℕ → ℕ → Edit
entry guild j r =
    if nat_lt j 16 then setup guild j
    else (if j == 1000 then rename (codes "end")
    else turn guild ((j - 16) % 8) ((j - 16) / 8) r)
