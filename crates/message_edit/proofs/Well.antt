-- An edit of messages leaves a record well.
use Rattle.std.proofs.Common.{◌≡◌, not, true, List, Option, Some, None, refl, ap}
use Rattle.std.specs.Prelude.{◌==◌, option_map, is_some}
use Rattle.collections.specs.ById.{find_id}
use Rattle.guild_model.specs.declared.user.User.{User}
use Rattle.guild_model.specs.declared.message.MessageHead.{MessageHead}
use Rattle.guild_model.specs.Record.{Record, member_id}
use Rattle.guild_model.specs.Heads.{head_id, find_head, with_mentions, AreRecent}
use Rattle.guild_model.specs.Consistent.{is_channel_or_thread}
use Rattle.guild_model.specs.Ascending.{IsAscending, IsWell}
use Rattle.guild_model.proofs.Recent.{recent_left, recent_more, recent_changed}
use Rattle.message_edit.specs.declared.MessageEdit.{MessageEdit}
use Rattle.message_edit.specs.declared.MessageEdit.TheVariants.{MessageCreate, MessageUpdate, MessageDelete, ReactionAdd, ReactionRemove, Typing}
use Rattle.message_edit.specs.declared.message_create.MessageCreate as message_create
use Rattle.message_edit.specs.Messages.{member_user, new_head, with_head, written_by}
use Rattle.message_edit.specs.MessageEdits.{message_verdict, message_applied}
use Rattle.message_edit.proofs.Kept.{may_come, head_came, updated, deleted}

with_messages : (g : Record) (ms : List MessageHead) → AreRecent ms → IsAscending g → IsAscending (record g { messages = ms })
with_messages g ms recent a = record {
  roles = a.roles;
  members = a.members;
  channels = a.channels;
  threads = a.threads;
  voices = a.voices;
  presences = a.presences;
  held = a.held;
  overwrites = a.overwrites;
  joined = a.joined;
  messages = recent;
}

head_well : (g : Record) (head : MessageHead) → g.opened ≡ true → IsWell g → find_head head.id g.messages ≡ None → is_channel_or_thread g head.channel ≡ true → IsWell (with_head g head)
head_well g head o w free there =
    record { ascending = with_messages g _ (recent_more head g.messages (ap is_some free) w.ascending.messages) w.ascending; consistent = head_came g o w.consistent head there }

written_well : (g : Record) (edit : message_create.MessageCreate) (author : Option User) → g.opened ≡ true → IsWell g → find_head edit.message g.messages ≡ None → is_channel_or_thread g edit.channel ≡ true
    → IsWell (written_by g edit author)
written_well g edit None o w free there = w
written_well g edit (Some author) o w free there = head_well g (new_head edit author) o w free there

pub well : (g : Record) (edit : MessageEdit) → g.opened ≡ true → IsWell g → message_verdict g edit ≡ None → IsWell (message_applied g edit)
well g (MessageCreate edit) o w e =
    let may = may_come g edit e in
    written_well g edit (option_map member_user (find_id member_id edit.author g.members)) o w may.0 may.1
well g (MessageUpdate edit) o w e =
    record {
      ascending = with_messages g _ (recent_changed edit.message (with_mentions edit.body.mentions) g.messages (λ h. refl) w.ascending.messages) w.ascending;
      consistent = updated g o w.consistent edit;
    }
well g (MessageDelete message) o w e =
    record {
      ascending = with_messages g _ (recent_left (λ h. not (head_id h == message)) g.messages w.ascending.messages) w.ascending;
      consistent = deleted g o w.consistent message;
    }
well g (ReactionAdd reaction) o w e = w
well g (ReactionRemove reaction) o w e = w
well g (Typing edit) o w e = w
