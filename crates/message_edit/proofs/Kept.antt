-- A record in which the lists hold together stays so under each edit of messages.
use Rattle.std.proofs.Common.{◌≡◌, ℕ, Bool, true, false, not, ◌∷◌, [], List, drop, Option, Some, None, Err, if◌then◌else◌, refl, length}
use Rattle.std.specs.Prelude.{◌==◌, All, nat_lt, is_some}
use Rattle.std.specs.Option.{option_or}
use Rattle.std.proofs.lemmas.List.Elements.{All-push, All-drop, All-filter}
use Rattle.collections.proofs.Has.{All-changed}
use Rattle.guild_model.specs.declared.message.MessageHead.{MessageHead}
use Rattle.guild_model.specs.declared.verdict.Verdict.{Verdict}
use Rattle.guild_model.specs.declared.verdict.Verdict.TheVariants.{IdTaken, UnknownChannel}
use Rattle.guild_model.specs.Record.{Record}
use Rattle.guild_model.specs.Heads.{head_id, find_head, has_head, arrived, with_mentions}
use Rattle.guild_model.specs.Consistent.{IsConsistent, is_channel_or_thread}
use Rattle.guild_model.specs.Tests.{outcome, unknown_member, too_long}
use Rattle.guild_model.proofs.Tests.{first_passes, not_refused, passed}
use Rattle.guild_model.proofs.Kept.{messages_changed}
use Rattle.message_edit.specs.declared.message_create.MessageCreate.{MessageCreate}
use Rattle.message_edit.specs.declared.message_update.MessageUpdate.{MessageUpdate}
use Rattle.message_edit.specs.Channels.{unknown_channel_or_thread, wordless_channel, archived_thread, takes_no_words, unknown_mention}
use Rattle.message_edit.specs.Messages.{taken, message_create_verdict, with_head, message_updated, message_deleted}

is_none : {T : Type 0} (o : Option T) → is_some o ≡ false → o ≡ None
is_none None e = refl
is_none (Some x) e = absurd (cc)

-- the first test that fails decides
pub stopped : (test later : Option Verdict) (v : Verdict) → outcome test ≡ Err v → outcome (option_or test later) ≡ Err v
stopped None later v e = absurd (cc)
stopped (Some w) later v e = e

-- what the tests let through
is_there : (g : Record) (channel : ℕ) → takes_no_words g channel ≡ None → is_channel_or_thread g channel ≡ true
is_there g channel e =
    passed (is_channel_or_thread g channel) UnknownChannel (first_passes (unknown_channel_or_thread g channel) (wordless_channel g channel ∷ archived_thread g channel ∷ []) e).0

pub may_come : (g : Record) (edit : MessageCreate) → message_create_verdict g edit ≡ None
    → (find_head edit.message g.messages ≡ None) × (is_channel_or_thread g edit.channel ≡ true)
may_come g edit e =
    let author = unknown_member g edit.author in
    let mention = unknown_mention g edit.body.mentions in
    let id = taken g edit.message in
    let long = too_long 2000 edit.body.content in
    let first = first_passes (takes_no_words g edit.channel) (author ∷ mention ∷ id ∷ long ∷ []) e in
    let second = first_passes author (mention ∷ id ∷ long ∷ []) first.1 in
    let third = first_passes mention (id ∷ long ∷ []) second.1 in
    let free = not_refused (has_head edit.message g.messages) IdTaken (first_passes id (long ∷ []) third.1).0 in
    (is_none (find_head edit.message g.messages) free, is_there g edit.channel first.0)

module _ (g : Record) (is_open : g.opened ≡ true) (h : IsConsistent g) where
  abbrev Stands : MessageHead → Type 0
  Stands m = is_channel_or_thread g m.channel ≡ true

  all_if : (b : Bool) (heads : List MessageHead) → All Stands heads → All Stands (if b then heads else drop 1 heads)
  all_if true heads all = all
  all_if false heads all = All-drop Stands 1 heads all

  pub head_came : (head : MessageHead) → is_channel_or_thread g head.channel ≡ true → IsConsistent (with_head g head)
  head_came head there =
      messages_changed g is_open h (arrived head g.messages) (All-push Stands _ head (all_if (nat_lt (length g.messages) 16384) g.messages h.message_channels) there)

  pub updated : (edit : MessageUpdate) → IsConsistent (message_updated g edit)
  updated edit = messages_changed g is_open h _ (All-changed head_id Stands edit.message (with_mentions edit.body.mentions) g.messages (λ m there. there) h.message_channels)

  pub deleted : (message : ℕ) → IsConsistent (message_deleted g message)
  deleted message = messages_changed g is_open h _ (All-filter (λ m. not (head_id m == message)) Stands g.messages h.message_channels)
