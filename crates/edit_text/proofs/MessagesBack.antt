-- The line of an edit of messages, reactions or typing reads back, nests little and has no float.
use Rattle.std.proofs.Common.{◌≡◌, ℕ, length, Bool, true, false, not, ◌&&◌, refl, arith}
use Rattle.std.specs.Prelude.{nat_lt}
use Rattle.serde_json.proofs.OnLiterals.{serde_json_on_literals}
use Rattle.snowflake_id.proofs.Texts.{id_of_decimal}
use Rattle.edit_apply.specs.declared.Edit.TheVariants as edit
use Rattle.message_edit.specs.declared.body.MessageBody.{MessageBody}
use Rattle.message_edit.specs.declared.MessageEdit.{MessageEdit}
use Rattle.message_edit.specs.declared.MessageEdit.TheVariants as message
use Rattle.message_edit.specs.declared.message_create.MessageCreate.{MessageCreate}
use Rattle.message_edit.specs.declared.message_update.MessageUpdate.{MessageUpdate}
use Rattle.edit_fields.specs.Fits.{IdFits, IdsFit, MessageEditFits}
use Rattle.edit_fields.specs.Within.{are_few, body_within, message_within}
use Rattle.edit_fields.proofs.Lists.{ids_back, ids_len, ids_depth, ids_float}
use Rattle.edit_text.proofs.ReadsBack.{Back, PlainEdit, moment_below}

-- the parts of a body are within their limits
record IsSmall (body : MessageBody) : Type 0 where
  mentions : nat_lt 100 (length body.mentions) ≡ false
  embeds : are_few body.embeds ≡ true
  attachments : are_few body.attachments ≡ true
  components : are_few body.components ≡ true

both : (a b : Bool) → (a && b) ≡ true → (a ≡ true) × (b ≡ true)
both true b h = (refl, h)
both false b h = absurd (cc)

not_true : (b : Bool) → not b ≡ true → b ≡ false
not_true true h = absurd (cc)
not_true false h = refl

is_small : (body : MessageBody) → body_within body ≡ true → IsSmall body
is_small body h =
    let first = both (not (nat_lt 100 (length body.mentions))) (are_few body.embeds && (are_few body.attachments && are_few body.components)) h in
    let second = both (are_few body.embeds) (are_few body.attachments && are_few body.components) first.1 in
    let third = both (are_few body.attachments) (are_few body.components) second.1 in
    record { mentions = not_true _ first.0; embeds = second.0; attachments = third.0; components = third.1 }

create_back : (guild : ℕ) (e : MessageCreate) → IdFits guild → IdFits e.message → IdFits e.channel → IdFits e.author → IdsFit e.body.mentions → IsSmall e.body
    → Back guild (edit.Message (message.MessageCreate e))
unfolding serde_json_on_literals
create_back guild e h m p a f s = (
  refl,
  rw (id_of_decimal guild h) refl,
  refl,
  rw (
    id_of_decimal e.message m,
    id_of_decimal e.channel p,
    id_of_decimal e.author a,
    ids_len e.body.mentions,
    s.mentions,
    ids_back e.body.mentions f,
    s.embeds,
    s.attachments,
    s.components,
  ) refl,
)

update_back : (guild : ℕ) (e : MessageUpdate) → IdFits guild → IdFits e.message → IdsFit e.body.mentions → IsSmall e.body
    → Back guild (edit.Message (message.MessageUpdate e))
unfolding serde_json_on_literals
update_back guild e h m f s = (
  refl,
  rw (id_of_decimal guild h) refl,
  refl,
  rw (
    id_of_decimal e.message m,
    ids_len e.body.mentions,
    s.mentions,
    ids_back e.body.mentions f,
    s.embeds,
    s.attachments,
    s.components,
  ) refl,
)

pub message_back : (guild : ℕ) (e : MessageEdit) → IdFits guild → MessageEditFits e → message_within e ≡ true → Back guild (edit.Message e)
unfolding serde_json_on_literals
message_back guild (message.MessageCreate e) h k w = create_back guild e h k.0 k.1 k.2 k.3 (is_small e.body w)
message_back guild (message.MessageUpdate e) h k w = update_back guild e h k.0 k.1 (is_small e.body w)
message_back guild (message.MessageDelete id) h k w = (refl, rw (id_of_decimal guild h) refl, refl, rw (id_of_decimal id k) refl)
message_back guild (message.ReactionAdd body) h k w =
    (refl, rw (id_of_decimal guild h) refl, refl, rw (id_of_decimal body.message k.0, id_of_decimal body.user k.1) refl)
message_back guild (message.ReactionRemove body) h k w =
    (refl, rw (id_of_decimal guild h) refl, refl, rw (id_of_decimal body.message k.0, id_of_decimal body.user k.1) refl)
message_back guild (message.Typing e) h k w =
    (refl, rw (id_of_decimal guild h) refl, refl, rw (id_of_decimal e.channel k.0, id_of_decimal e.user k.1, moment_below e.at k.2) refl)

pub message_plain : (guild : ℕ) (e : MessageEdit) → PlainEdit guild (edit.Message e)
unfolding serde_json_on_literals
message_plain guild (message.MessageCreate e) = (let n = ids_depth e.body.mentions in omega (arith, n), rw (ids_float e.body.mentions) refl)
message_plain guild (message.MessageUpdate e) = (let n = ids_depth e.body.mentions in omega (arith, n), rw (ids_float e.body.mentions) refl)
message_plain guild (message.MessageDelete id) = (omega arith, refl)
message_plain guild (message.ReactionAdd body) = (omega arith, refl)
message_plain guild (message.ReactionRemove body) = (omega arith, refl)
message_plain guild (message.Typing e) = (omega arith, refl)
