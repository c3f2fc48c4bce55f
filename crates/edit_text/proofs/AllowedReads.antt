-- A line that is read is one that the reader allows, as it is and in its newest version.
use Rattle.std.proofs.Common.{◌≡◌, ℕ, suc, ◌^◌, List, length, Bool, true, false, not, ◌&&◌, ◌||◌, Option, Some, None, Result, Ok, Err, IfOk, codes, refl, sym, ap, ◌∙◌, eqb-true, true≢false}
use Rattle.std.specs.Prelude.{nat_lt, if◌then◌else◌, IfSome, option_and_then, ◌==◌}
use Rattle.std.specs.Option.{ok_or}
use Rattle.std.proofs.lemmas.Result.{IfOk-weaker, IfOk-at_ok}
use Rattle.serde_json.specs.Data.{Data, Items, no_items, item}
use Rattle.serde_json.specs.Events.{items_len}
use Rattle.serde_json.specs.Find.{get, as_array, as_object}
use Rattle.json_view.specs.Fields.{and_then, field, whole, number_field, id_value}
use Rattle.json_view.specs.Reading.{reading}
use Rattle.edit_apply.specs.declared.Edit.{Edit}
use Rattle.role_member_edit.specs.declared.role_body.RoleBody.{RoleBody}
use Rattle.channel_edit.specs.declared.channel_create.ChannelCreate.{ChannelCreate}
use Rattle.channel_edit.specs.declared.channel_update.ChannelUpdate.{ChannelUpdate}
use Rattle.message_edit.specs.declared.body.MessageBody.{MessageBody}
use Rattle.message_edit.specs.declared.message_create.MessageCreate.{MessageCreate}
use Rattle.message_edit.specs.declared.message_update.MessageUpdate.{MessageUpdate}
use Rattle.edit_fields.specs.declared.fault.LineFault.{LineFault}
use Rattle.edit_fields.specs.declared.fault.LineFault.TheVariants.{NotJson, NoSuchStep, WrongType, TooLong}
use Rattle.edit_fields.specs.declared.names.EditName.{EditName}
use Rattle.edit_fields.specs.declared.names.EditName.TheVariants as name
use Rattle.edit_fields.specs.declared.names.RoleMemberEditName.{RoleMemberEditName}
use Rattle.edit_fields.specs.declared.names.RoleMemberEditName.TheVariants as role_member
use Rattle.edit_fields.specs.declared.names.ChannelEditName.{ChannelEditName}
use Rattle.edit_fields.specs.declared.names.ChannelEditName.TheVariants as channel
use Rattle.edit_fields.specs.declared.names.MessageEditName.{MessageEditName}
use Rattle.edit_fields.specs.declared.names.MessageEditName.TheVariants as message
use Rattle.edit_fields.specs.Fault.{faulted}
use Rattle.edit_fields.specs.Fields.{within, number_below, position_at, parts_at, ids_from, ids_at, text_at, id_at, flag_at, mask_at, kind_at, nullable_id_at}
use Rattle.edit_fields.specs.Edits.{edit_from}
use Rattle.edit_fields.specs.GuildEdits.{guild_edit_from}
use Rattle.edit_fields.specs.ThreadEdits.{thread_edit_from}
use Rattle.edit_fields.specs.VoicePresenceEdits.{voice_presence_edit_from}
use Rattle.edit_fields.specs.Names.{edit_named}
use Rattle.edit_fields.specs.RoleMemberEdits.{role_from, member_add_from, member_nick_from, member_timeout_from, held_role_from, role_member_edit_from}
use Rattle.edit_fields.specs.ChannelEdits.{channel_create_from, channel_update_from, overwrite_set_from, overwrite_delete_from, channel_edit_from}
use Rattle.edit_fields.specs.MessageEdits.{body_from, message_create_from, message_update_from, reaction_from, typing_from, message_edit_from}
use Rattle.edit_fields.specs.Within.{is_in_place, role_member_within, channel_within, are_few, body_within, message_within, edit_within}
use Rattle.edit_text.specs.declared.line.Line.{Line}
use Rattle.edit_text.specs.declared.line.Line.TheVariants.{Bot, Guild, Edit as EditLine, Look, Open, Frame, Lost, Closed, Tick}
use Rattle.edit_text.specs.declared.step_name.StepName.{StepName}
use Rattle.edit_text.specs.declared.step_name.StepName.TheVariants as step
use Rattle.edit_text.specs.declared.reader_state.ReaderState.{ReaderState}
use Rattle.edit_text.specs.declared.ring_size.RingSize.{RingSize}
use Rattle.edit_text.specs.RingSizes.{is_version, is_between, number_between, given_version, version_at, dispatches_at, bytes_at, sizes_from, ring_size_from, is_size}
use Rattle.edit_text.specs.StepNames.{step_named}
use Rattle.edit_text.specs.Intents.{intents_at}
use Rattle.edit_text.specs.Lines.{short_token, has_room, bot_from, guild_from, worker_at, connection_at, fields_from, is_allowed, step_of, line_from, object_line_from, is_blank, is_too_long, some_line, line_of, noted}
use Rattle.edit_text.specs.Lifted.{lifted}
use Rattle.edit_text.specs.Written.{step_name, line_within, allows}

-- ---- steps of a reader, one after the other

module _ {A B : Type 0} (Q : B → Type 0) where
  passes : (P : A → Type 0) (r : Result A LineFault) (f : A → Result B LineFault)
      → IfOk r P → ((a : A) → P a → IfOk (f a) Q) → IfOk (and_then r f) Q
  passes P (Ok a) f p h = h a p
  passes P (Err fault) f p h = tt

  after : (r : Result A LineFault) (f : A → Result B LineFault) → ((a : A) → IfOk (f a) Q) → IfOk (and_then r f) Q
  after (Ok a) f h = h a
  after (Err fault) f h = tt

found : {A : Type 0} (P : A → Type 0) (o : Option A) (fault : LineFault) → IfSome o P → IfOk (ok_or o fault) P
found P (Some a) fault p = p
found P None fault p = tt

is_within : (P : ℕ → Type 0) (b : Bool) (n : ℕ) → (b ≡ true → P n) → IfOk (within b n) P
is_within P true n h = h refl
is_within P false n h = tt

is_below : (limit : ℕ) (name : List ℕ) (d : Data) → IfOk (number_below limit name d) (λ n. nat_lt n limit ≡ true)
is_below limit name d =
    after (λ n. nat_lt n limit ≡ true) (faulted (number_field name d)) (λ n. within (nat_lt n limit) n)
    (λ n. is_within (λ n. nat_lt n limit ≡ true) (nat_lt n limit) n (λ e. e))

first_true : (a b : Bool) → (a && b) ≡ true → a ≡ true
first_true true b h = refl
first_true false b h = h

second_true : (a b : Bool) → (a && b) ≡ true → b ≡ true
second_true true b h = h
second_true false b h = absurd (true≢false (sym h))

both : (a b : Bool) → a ≡ true → b ≡ true → (a && b) ≡ true
both true true h k = refl
both true false h k = k
both false b h k = h

-- ---- edits

position_within : (name : List ℕ) (d : Data) → IfOk (position_at name d) (λ n. is_in_place n ≡ true)
position_within name d = is_below (2 ^ 31) name d

parts_within : (name : List ℕ) (d : Data) → IfOk (parts_at name d) (λ n. are_few n ≡ true)
parts_within name d = is_below 11 name d

role_within : (d : Data) → IfOk (role_from d) (λ body. is_in_place body.position ≡ true)
role_within d =
    let Q = λ (body : RoleBody). is_in_place body.position ≡ true in
    after Q (id_at (codes "role") d) _ (λ role. after Q (text_at (codes "name") d) _ (λ name. after Q (mask_at (codes "perms") d) _ (λ perms.
    passes Q (λ n. is_in_place n ≡ true) (position_at (codes "position") d) _ (position_within (codes "position") d) (λ n p. p))))

RoleMember-within : (n : RoleMemberEditName) (d : Data) → IfOk (role_member_edit_from n d) (λ e. role_member_within e ≡ true)
RoleMember-within role_member.RoleCreate d =
    passes (λ e. role_member_within e ≡ true) (λ body. is_in_place body.position ≡ true) (role_from d) _ (role_within d) (λ body p. p)
RoleMember-within role_member.RoleUpdate d =
    passes (λ e. role_member_within e ≡ true) (λ body. is_in_place body.position ≡ true) (role_from d) _ (role_within d) (λ body p. p)
RoleMember-within role_member.RoleDelete d = after (λ e. role_member_within e ≡ true) (id_at (codes "role") d) _ (λ role. refl)
RoleMember-within role_member.MemberAdd d = after (λ e. role_member_within e ≡ true) (member_add_from d) _ (λ e. refl)
RoleMember-within role_member.MemberRemove d = after (λ e. role_member_within e ≡ true) (id_at (codes "user") d) _ (λ user. refl)
RoleMember-within role_member.MemberNick d = after (λ e. role_member_within e ≡ true) (member_nick_from d) _ (λ e. refl)
RoleMember-within role_member.MemberTimeout d = after (λ e. role_member_within e ≡ true) (member_timeout_from d) _ (λ e. refl)
RoleMember-within role_member.MemberRoleAdd d = after (λ e. role_member_within e ≡ true) (held_role_from d) _ (λ held. refl)
RoleMember-within role_member.MemberRoleRemove d = after (λ e. role_member_within e ≡ true) (held_role_from d) _ (λ held. refl)

channel_create_within : (d : Data) → IfOk (channel_create_from d) (λ e. is_in_place e.position ≡ true)
channel_create_within d =
    let Q = λ (e : ChannelCreate). is_in_place e.position ≡ true in
    after Q (id_at (codes "channel") d) _ (λ channel. after Q (kind_at (codes "type") d) _ (λ kind. after Q (text_at (codes "name") d) _ (λ name. after Q (nullable_id_at (codes "parent") d) _ (λ parent.
    passes Q (λ n. is_in_place n ≡ true) (position_at (codes "position") d) _ (position_within (codes "position") d) (λ n p.
    after Q (flag_at (codes "sync") d) _ (λ sync. p))))))

channel_update_within : (d : Data) → IfOk (channel_update_from d) (λ e. is_in_place e.position ≡ true)
channel_update_within d =
    let Q = λ (e : ChannelUpdate). is_in_place e.position ≡ true in
    after Q (id_at (codes "channel") d) _ (λ channel. after Q (text_at (codes "name") d) _ (λ name. after Q (nullable_id_at (codes "parent") d) _ (λ parent.
    passes Q (λ n. is_in_place n ≡ true) (position_at (codes "position") d) _ (position_within (codes "position") d) (λ n p. p))))

Channel-within : (n : ChannelEditName) (d : Data) → IfOk (channel_edit_from n d) (λ e. channel_within e ≡ true)
Channel-within channel.ChannelCreate d =
    passes (λ e. channel_within e ≡ true) (λ e. is_in_place e.position ≡ true) (channel_create_from d) _ (channel_create_within d) (λ e p. p)
Channel-within channel.ChannelUpdate d =
    passes (λ e. channel_within e ≡ true) (λ e. is_in_place e.position ≡ true) (channel_update_from d) _ (channel_update_within d) (λ e p. p)
Channel-within channel.ChannelDelete d = after (λ e. channel_within e ≡ true) (id_at (codes "channel") d) _ (λ channel. refl)
Channel-within channel.OverwriteSet d = after (λ e. channel_within e ≡ true) (overwrite_set_from d) _ (λ e. refl)
Channel-within channel.OverwriteDelete d = after (λ e. channel_within e ≡ true) (overwrite_delete_from d) _ (λ e. refl)

ids_length : (ds : Items) → IfOk (ids_from ds) (λ ids. length ids ≡ items_len ds)
ids_length no_items = refl
ids_length (item d ds) =
    after (λ ids. length ids ≡ items_len (item d ds)) (faulted (id_value d)) _ (λ id.
    passes (λ ids. length ids ≡ items_len (item d ds)) (λ ids. length ids ≡ items_len ds) (ids_from ds) _ (ids_length ds) (λ ids e. ap (λ n. suc n) e))

few_length : (ds : Items) (many : Bool) → nat_lt 100 (items_len ds) ≡ many
    → IfOk (if many then Err WrongType else ids_from ds) (λ ids. not (nat_lt 100 (length ids)) ≡ true)
few_length ds true is = tt
few_length ds false is =
    IfOk-weaker (ids_from ds) (λ ids. length ids ≡ items_len ds) (λ ids. not (nat_lt 100 (length ids)) ≡ true)
    (λ ids e. rw (e, is) refl) (ids_length ds)

mentions_within : (d : Data) → IfOk (ids_at (codes "mentions") d) (λ ids. not (nat_lt 100 (length ids)) ≡ true)
mentions_within d =
    let Q = λ (ids : List ℕ). not (nat_lt 100 (length ids)) ≡ true in
    after Q (faulted (field (codes "mentions") d)) _ (λ v. after Q (ok_or (as_array v) WrongType) _ (λ ds. few_length ds (nat_lt 100 (items_len ds)) refl))

MessageBody-within : (d : Data) → IfOk (body_from d) (λ body. body_within body ≡ true)
MessageBody-within d =
    let Q = λ (body : MessageBody). body_within body ≡ true in
    after Q (text_at (codes "content") d) _ (λ content.
    passes Q (λ ids. not (nat_lt 100 (length ids)) ≡ true) (ids_at (codes "mentions") d) _ (mentions_within d) (λ mentions m.
    passes Q (λ n. are_few n ≡ true) (parts_at (codes "embeds") d) _ (parts_within (codes "embeds") d) (λ embeds e.
    passes Q (λ n. are_few n ≡ true) (parts_at (codes "attachments") d) _ (parts_within (codes "attachments") d) (λ attachments a.
    passes Q (λ n. are_few n ≡ true) (parts_at (codes "components") d) _ (parts_within (codes "components") d) (λ components c.
    both _ _ m (both _ _ e (both _ _ a c)))))))

message_create_within : (d : Data) → IfOk (message_create_from d) (λ e. body_within e.body ≡ true)
message_create_within d =
    let Q = λ (e : MessageCreate). body_within e.body ≡ true in
    after Q (id_at (codes "message") d) _ (λ message. after Q (id_at (codes "channel") d) _ (λ channel. after Q (id_at (codes "author") d) _ (λ author.
    passes Q (λ body. body_within body ≡ true) (body_from d) _ (MessageBody-within d) (λ body p. p))))

message_update_within : (d : Data) → IfOk (message_update_from d) (λ e. body_within e.body ≡ true)
message_update_within d =
    let Q = λ (e : MessageUpdate). body_within e.body ≡ true in
    after Q (id_at (codes "message") d) _ (λ message. passes Q (λ body. body_within body ≡ true) (body_from d) _ (MessageBody-within d) (λ body p. p))

Message-within : (n : MessageEditName) (d : Data) → IfOk (message_edit_from n d) (λ e. message_within e ≡ true)
Message-within message.MessageCreate d =
    passes (λ e. message_within e ≡ true) (λ e. body_within e.body ≡ true) (message_create_from d) _ (message_create_within d) (λ e p. p)
Message-within message.MessageUpdate d =
    passes (λ e. message_within e ≡ true) (λ e. body_within e.body ≡ true) (message_update_from d) _ (message_update_within d) (λ e p. p)
Message-within message.MessageDelete d = after (λ e. message_within e ≡ true) (id_at (codes "message") d) _ (λ message. refl)
Message-within message.ReactionAdd d = after (λ e. message_within e ≡ true) (reaction_from d) _ (λ body. refl)
Message-within message.ReactionRemove d = after (λ e. message_within e ≡ true) (reaction_from d) _ (λ body. refl)
Message-within message.Typing d = after (λ e. message_within e ≡ true) (typing_from d) _ (λ e. refl)

edit_is_within : (n : EditName) (d : Data) → IfOk (edit_from n d) (λ e. edit_within e ≡ true)
edit_is_within (name.Guild n) d = after (λ e. edit_within e ≡ true) (guild_edit_from n d) _ (λ e. refl)
edit_is_within (name.RoleMember n) d =
    passes (λ e. edit_within e ≡ true) (λ e. role_member_within e ≡ true) (role_member_edit_from n d) _ (RoleMember-within n d) (λ e p. p)
edit_is_within (name.Channel n) d =
    passes (λ e. edit_within e ≡ true) (λ e. channel_within e ≡ true) (channel_edit_from n d) _ (Channel-within n d) (λ e p. p)
edit_is_within (name.Thread n) d = after (λ e. edit_within e ≡ true) (thread_edit_from n d) _ (λ e. refl)
edit_is_within (name.VoicePresence n) d = after (λ e. edit_within e ≡ true) (voice_presence_edit_from n d) _ (λ e. refl)
edit_is_within (name.Message n) d =
    passes (λ e. edit_within e ≡ true) (λ e. message_within e ≡ true) (message_edit_from n d) _ (Message-within n d) (λ e p. p)

-- ---- lines

-- a line of this step, within its limits after these guilds
abbrev IsOf : List ℕ → StepName → Line → Type 0
IsOf gs n line = (step_name line ≡ n) × (line_within gs line ≡ true)

token_within : (token : List ℕ) (long : Bool) → nat_lt 100 (length token) ≡ long
    → IfOk (if long then Err TooLong else Ok token) (λ t. not (nat_lt 100 (length t)) ≡ true)
token_within token true is = tt
token_within token false is = rw is refl

given_is_version : (o : Option Data) → IfOk (given_version o) (λ v. is_version v ≡ true)
given_is_version None = refl
given_is_version (Some value) = after (λ v. is_version v ≡ true) (ok_or (whole value) WrongType) _ (λ v. is_within (λ v. is_version v ≡ true) (is_version v) v (λ e. e))

between_within : (least most : ℕ) (name : List ℕ) (d : Data) → IfOk (number_between least most name d) (λ n. is_between least most n ≡ true)
between_within least most name d =
    after (λ n. is_between least most n ≡ true) (faulted (number_field name d)) _ (λ n. is_within (λ n. is_between least most n ≡ true) (is_between least most n) n (λ e. e))

other_version : (v : ℕ) → is_version v ≡ true → (v == 1) ≡ false → (v == 2) ≡ true
other_version v h is = cc

size_within : (v : ℕ) (d : Data) → is_version v ≡ true → (one : Bool) → (v == 1) ≡ one → IfOk (sizes_from v d) (λ size. is_size size ≡ true)
size_within v d h true is = rw is (rw is refl)
size_within v d h false is = rw is (
    let Q = λ (size : RingSize). is_size size ≡ true in
    passes Q (λ n. is_between 1 16384 n ≡ true) (dispatches_at (codes "ring_items") d) _ (between_within 1 16384 (codes "ring_items") d) (λ items i.
    passes Q (λ n. is_between 1024 16777216 n ≡ true) (bytes_at (codes "ring_bytes") d) _ (between_within 1024 16777216 (codes "ring_bytes") d) (λ bytes b.
    rw is (both _ _ (other_version v h is) (both _ _ i b)))))

ring_size_within : (d : Data) → IfOk (ring_size_from d) (λ size. is_size size ≡ true)
ring_size_within d =
    passes (λ size. is_size size ≡ true) (λ v. is_version v ≡ true) (version_at (codes "v") d) _ (given_is_version (get (codes "v") d)) (λ v h. size_within v d h (v == 1) refl)

bot_is : (gs : List ℕ) (d : Data) → IfOk (bot_from d) (IsOf gs step.Bot)
bot_is gs d =
    let Q = IsOf gs step.Bot in
    let short = λ (t : List ℕ). not (nat_lt 100 (length t)) ≡ true in
    passes Q short (and_then (text_at (codes "token") d) short_token) _
    (after short (text_at (codes "token") d) _ (λ token. token_within token (nat_lt 100 (length token)) refl)) (λ token t.
    after Q (id_at (codes "user") d) _ (λ user. after Q (text_at (codes "name") d) _ (λ name. after Q (intents_at (codes "privileged") d) _ (λ privileged.
    passes Q (λ size. is_size size ≡ true) (ring_size_from d) _ (ring_size_within d) (λ size s. (refl, both _ _ t s))))))

guild_is : (gs : List ℕ) (d : Data) → IfOk (guild_from gs d) (IsOf gs step.Guild)
guild_is gs d = after (IsOf gs step.Guild) (id_at (codes "id") d) _ (λ id. by_room id (has_room gs id) refl) where
  by_room : (id : ℕ) (room : Bool) → has_room gs id ≡ room → IfOk (if room then Ok (Guild id) else Err TooLong) (IsOf gs step.Guild)
  by_room id true is = (refl, is)
  by_room id false is = tt

line_is : (gs : List ℕ) (n : StepName) (d : Data) → IfOk (fields_from gs n d) (IsOf gs n)
line_is gs step.Bot d = bot_is gs d
line_is gs step.Guild d = guild_is gs d
line_is gs step.Edit d =
    let Q = IsOf gs step.Edit in
    after Q (id_at (codes "guild") d) _ (λ guild. after Q (text_at (codes "do") d) _ (λ text. after Q (ok_or (edit_named text) NoSuchStep) _ (λ name.
    passes Q (λ e. edit_within e ≡ true) (edit_from name d) _ (edit_is_within name d) (λ e w. (refl, w)))))
line_is gs step.Look d =
    let Q = IsOf gs step.Look in
    passes Q (λ n. nat_lt n 4 ≡ true) (worker_at d) _ (is_below 4 (codes "worker") d) (λ worker w. after Q (id_at (codes "guild") d) _ (λ guild. (refl, w)))
line_is gs step.Open d =
    let Q = IsOf gs step.Open in
    passes Q (λ n. nat_lt n 4 ≡ true) (worker_at d) _ (is_below 4 (codes "worker") d) (λ worker w. after Q (connection_at d) _ (λ conn. (refl, w)))
line_is gs step.Frame d =
    let Q = IsOf gs step.Frame in
    after Q (connection_at d) _ (λ conn. after Q (text_at (codes "text") d) _ (λ text. (refl, refl)))
line_is gs step.Lost d = after (IsOf gs step.Lost) (connection_at d) _ (λ conn. (refl, refl))
line_is gs step.Closed d =
    let Q = IsOf gs step.Closed in
    after Q (connection_at d) _ (λ conn. after Q (number_below (2 ^ 16) (codes "code") d) _ (λ code. (refl, refl)))
line_is gs step.Tick d =
    let Q = IsOf gs step.Tick in
    passes Q (λ n. nat_lt n 4 ≡ true) (worker_at d) _ (is_below 4 (codes "worker") d) (λ worker w.
    passes Q (λ n. nat_lt n (2 ^ 53) ≡ true) (number_below (2 ^ 53) (codes "now") d) _ (is_below (2 ^ 53) (codes "now") d) (λ now n. (refl, both _ _ w n)))

-- ---- which lines a reader allows

-- the line may stand here, within its limits
abbrev MayStand : ReaderState → Line → Type 0
MayStand r line = (is_allowed r (step_name line) ≡ true) × (line_within r.guilds line ≡ true)

step_may_stand : (r : ReaderState) (o : Option StepName) → IfSome (option_and_then (λ name. if is_allowed r name then Some name else None) o) (λ n. is_allowed r n ≡ true)
step_may_stand r None = tt
step_may_stand r (Some n) = by_test (is_allowed r n) refl where
  by_test : (b : Bool) → is_allowed r n ≡ b → IfSome (if b then Some n else None) (λ n. is_allowed r n ≡ true)
  by_test true is = is
  by_test false is = tt

fields_may_stand : (r : ReaderState) (n : StepName) (d : Data) → is_allowed r n ≡ true → IfOk (fields_from r.guilds n d) (MayStand r)
fields_may_stand r n d a =
    IfOk-weaker (fields_from r.guilds n d) (IsOf r.guilds n) (MayStand r) (λ line is. (ap (is_allowed r) is.0 ∙ a, is.1)) (line_is r.guilds n d)

object_may_stand : (r : ReaderState) (d : Data) → IfOk (object_line_from r d) (MayStand r)
object_may_stand r d =
    after (MayStand r) (ok_or (as_object d) WrongType) _ (λ members. after (MayStand r) (text_at (codes "step") d) _ (λ text.
    passes (MayStand r) (λ n. is_allowed r n ≡ true) (ok_or (step_of r text) NoSuchStep) _ (found (λ n. is_allowed r n ≡ true) (step_of r text) NoSuchStep (step_may_stand r (step_named text)))
    (λ n a. fields_may_stand r n d a)))

abbrev Allowed : ReaderState → Option Line → Type 0
Allowed r o = IfSome o (λ line. allows r line ≡ true)

some_allowed : (r : ReaderState) (bytes : List ℕ) → nat_lt r.lines 1000000 ≡ true
    → IfOk (some_line (and_then (ok_or (reading bytes) NotJson) (object_line_from r))) (Allowed r)
some_allowed r bytes few =
    passes (Allowed r) (MayStand r) (and_then (ok_or (reading bytes) NotJson) (object_line_from r)) _ (after (MayStand r) (ok_or (reading bytes) NotJson) _ (object_may_stand r)) (λ line m. both _ _ few (both _ _ m.0 m.1))

few_lines : (long : Bool) (lines : Bool) → (long || not lines) ≡ false → lines ≡ true
few_lines true lines h = absurd (true≢false h)
few_lines false true h = refl
few_lines false false h = absurd (true≢false h)

line_allowed : (r : ReaderState) (bytes : List ℕ) (long blank : Bool) → is_too_long r bytes ≡ long
    → IfOk (if long then Err TooLong else (if blank then Ok None else some_line (and_then (ok_or (reading bytes) NotJson) (object_line_from r)))) (Allowed r)
line_allowed r bytes true blank is = tt
line_allowed r bytes false true is = tt
line_allowed r bytes false false is = some_allowed r bytes (few_lines (nat_lt 65536 (length bytes)) (nat_lt r.lines 1000000) is)

read_allowed : (r : ReaderState) (bytes : List ℕ) → IfOk (line_of r bytes) (Allowed r)
unfolding line_of
read_allowed r bytes = line_allowed r bytes (is_too_long r bytes) (is_blank bytes) refl

pub allowed_if_read : (r : ReaderState) (bytes : List ℕ) (line : Line) → line_of r bytes ≡ Ok (Some line) → allows r line ≡ true
allowed_if_read r bytes line is = IfOk-at_ok (Allowed r) is (read_allowed r bytes)

-- ---- the newest version of a line

version_2 : (v items bytes : ℕ) (one : Bool) → (v == 1) ≡ one → is_size (record { v = v; ring_items = items; ring_bytes = bytes }) ≡ true
    → is_size (record { v = 2; ring_items = items; ring_bytes = bytes }) ≡ true
version_2 v items bytes true is h =
    let e : (items == 1024 && bytes == 4194304) ≡ true = rw is at h in
    rw (
      eqb-true items 1024 (first_true (items == 1024) (bytes == 4194304) e),
      eqb-true bytes 4194304 (second_true (items == 1024) (bytes == 4194304) e),
    ) refl
version_2 v items bytes false is h = (let e : (v == 2 && (is_between 1 16384 items && is_between 1024 16777216 bytes)) ≡ true = rw is at h in second_true (v == 2) _ e)

lifted_within : (gs : List ℕ) (line : Line) → line_within gs line ≡ true → line_within gs (lifted line) ≡ true
lifted_within gs (Bot token user name privileged v items bytes) h =
    both _ _ (first_true _ _ h) (version_2 v items bytes (v == 1) refl (second_true _ _ h))
lifted_within gs (Guild id) h = h
lifted_within gs (EditLine guild edit) h = h
lifted_within gs (Look worker guild) h = h
lifted_within gs (Open worker conn) h = h
lifted_within gs (Frame conn text) h = h
lifted_within gs (Lost conn) h = h
lifted_within gs (Closed conn code) h = h
lifted_within gs (Tick worker now) h = h

lifted_step : (line : Line) → step_name (lifted line) ≡ step_name line
lifted_step (Bot token user name privileged v items bytes) = refl
lifted_step (Guild id) = refl
lifted_step (EditLine guild edit) = refl
lifted_step (Look worker guild) = refl
lifted_step (Open worker conn) = refl
lifted_step (Frame conn text) = refl
lifted_step (Lost conn) = refl
lifted_step (Closed conn code) = refl
lifted_step (Tick worker now) = refl

pub lifted_allowed : (r : ReaderState) (line : Line) → allows r line ≡ true → allows r (lifted line) ≡ true
lifted_allowed r line h =
    let rest : (is_allowed r (step_name line) && line_within r.guilds line) ≡ true = second_true _ _ h in
    both _ _ (first_true _ _ h) (both _ _ (ap (is_allowed r) (lifted_step line) ∙ first_true _ _ rest) (lifted_within r.guilds line (second_true _ _ rest)))

pub lifted_noted : (line : Line) (r : ReaderState) → noted (lifted line) r ≡ noted line r
lifted_noted (Bot token user name privileged v items bytes) r = refl
lifted_noted (Guild id) r = refl
lifted_noted (EditLine guild edit) r = refl
lifted_noted (Look worker guild) r = refl
lifted_noted (Open worker conn) r = refl
lifted_noted (Frame conn text) r = refl
lifted_noted (Lost conn) r = refl
lifted_noted (Closed conn code) r = refl
lifted_noted (Tick worker now) r = refl
