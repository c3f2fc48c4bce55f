-- The fields of an object, as they are read. Whether a text is exactly the one that is written for
-- what was read is told by writing it again, so a field may be read leniently.
use Rattle.std.specs.Prelude.{◌≡◌, ◌⊎◌, ℕ, ◌^◌, List, [], ◌∷◌, Bool, nat_lt, if◌then◌else◌, is_some, Option, Some, None, Result, Ok, Err}
use Rattle.std.specs.Option.{ok_or}
use Rattle.serde_json.specs.Data.{Data, Items, no_items, item}
use Rattle.serde_json.specs.Events.{items_len}
use Rattle.serde_json.specs.Find.{get, as_array, as_str}
use Rattle.json_view.specs.declared.fields.ViewFault.{ViewFault}
use Rattle.json_view.specs.Fields.{and_then, field, unless_null, text_field, id_value, id_field, number_field, flag_field}
use Rattle.guild_model.specs.declared.channel.ChannelKind.{ChannelKind}
use Rattle.guild_model.specs.declared.channel.OverwriteKind.{OverwriteKind}
use Rattle.guild_model.specs.declared.thread.ThreadKind.{ThreadKind}
use Rattle.guild_model.specs.declared.presence.ShownStatus.{ShownStatus}
use Rattle.guild_model.specs.Numbers.{channel_kind_numbered, overwrite_kind_numbered, thread_kind_numbered}
use Rattle.guild_model.specs.Statuses.{status_named, status_shown}
use Rattle.moment_text.specs.Named.{moment_of}
use Rattle.object_json.specs.declared.fault.ReadFault.{ReadFault}
use Rattle.object_json.specs.declared.fault.ReadFault.TheVariants.{BadField, Memory}

-- this answer, or out of memory
abbrev pub UnlessMemory : {A : Type 0} → Result A ReadFault → Result A ReadFault → Type 0
UnlessMemory result answer = (result ≡ Err Memory) ⊎ (result ≡ answer)

abbrev pub found : {A : Type 0} → Result A ViewFault → Result A ReadFault
found (Ok a) = Ok a
found (Err fault) = Err BadField

abbrev pub within : Bool → ℕ → Result ℕ ReadFault
within fits n = if fits then Ok n else Err BadField

abbrev pub field_at : List ℕ → Data → Result Data ReadFault
field_at name d = found (field name d)

abbrev pub text_at : List ℕ → Data → Result (List ℕ) ReadFault
text_at name d = found (text_field name d)

abbrev pub flag_at : List ℕ → Data → Result Bool ReadFault
flag_at name d = found (flag_field name d)

-- a flag that is true or left out
abbrev pub is_there : List ℕ → Data → Bool
is_there name d = is_some (get name d)

abbrev pub number_at : List ℕ → Data → Result ℕ ReadFault
number_at name d = found (number_field name d)

abbrev pub number_below : ℕ → List ℕ → Data → Result ℕ ReadFault
number_below limit name d = and_then (number_at name d) (λ n. within (nat_lt n limit) n)

abbrev pub small_at : List ℕ → Data → Result ℕ ReadFault
small_at name d = number_below (2 ^ 32) name d

abbrev pub id_from : Data → Result ℕ ReadFault
id_from v = found (id_value v)

abbrev pub id_at : List ℕ → Data → Result ℕ ReadFault
id_at name d = found (id_field name d)

abbrev pub mask_at : List ℕ → Data → Result ℕ ReadFault
mask_at name d = and_then (id_at name d) (λ n. within (nat_lt n (2 ^ 53)) n)

abbrev pub text_from : Data → Result (List ℕ) ReadFault
text_from v = ok_or (as_str v) BadField

abbrev pub time_from : Data → Result ℕ ReadFault
time_from v = and_then (text_from v) (λ text. ok_or (moment_of text) BadField)

abbrev pub time_at : List ℕ → Data → Result ℕ ReadFault
time_at name d = and_then (field_at name d) time_from

abbrev pub channel_kind_at : List ℕ → Data → Result ChannelKind ReadFault
channel_kind_at name d = and_then (number_at name d) (λ n. ok_or (channel_kind_numbered n) BadField)

abbrev pub overwrite_kind_at : List ℕ → Data → Result OverwriteKind ReadFault
overwrite_kind_at name d = and_then (number_at name d) (λ n. ok_or (overwrite_kind_numbered n) BadField)

abbrev pub thread_kind_at : List ℕ → Data → Result ThreadKind ReadFault
thread_kind_at name d = and_then (number_at name d) (λ n. ok_or (thread_kind_numbered n) BadField)

abbrev pub status_at : List ℕ → Data → Result (Option ShownStatus) ReadFault
status_at name d = and_then (text_at name d) (λ text. and_then (ok_or (status_named text) BadField) (λ status. Ok (status_shown status)))

-- ---- values that may be missing

-- what reads a value, where there is one
abbrev pub if_there : {A : Type 0} → (Data → Result A ReadFault) → Option Data → Result (Option A) ReadFault
if_there read None = Ok None
if_there read (Some v) = and_then (read v) (λ a. Ok (Some a))

-- a field that may be null, and has to be there
abbrev pub nullable_at : {A : Type 0} → (Data → Result A ReadFault) → List ℕ → Data → Result (Option A) ReadFault
nullable_at read name d = and_then (field_at name d) (λ v. if_there read (unless_null v))

-- a field that may be left out
abbrev pub optional_at : {A : Type 0} → (Data → Result A ReadFault) → List ℕ → Data → Result (Option A) ReadFault
optional_at read name d = if_there read (get name d)

-- ---- values of an object's own

abbrev pub value_at : {A : Type 0} → (Data → Result A ReadFault) → List ℕ → Data → Result A ReadFault
value_at read name d = and_then (field_at name d) read

abbrev pub items_from : {A : Type 0} → (Data → Result A ReadFault) → Items → Result (List A) ReadFault
items_from read no_items = Ok []
items_from read (item d ds) = and_then (read d) (λ a. and_then (items_from read ds) (λ items. Ok (a ∷ items)))

abbrev pub list_from : {A : Type 0} → (Data → Result A ReadFault) → Data → Result (List A) ReadFault
list_from read v = and_then (ok_or (as_array v) BadField) (items_from read)

abbrev pub list_at : {A : Type 0} → (Data → Result A ReadFault) → List ℕ → Data → Result (List A) ReadFault
list_at read name d = and_then (field_at name d) (list_from read)

abbrev pub items_if : {A : Type 0} → (Data → Result A ReadFault) → Option Data → Result (List A) ReadFault
items_if read None = Ok []
items_if read (Some v) = list_from read v

-- a list that may be left out
abbrev pub list_if_at : {A : Type 0} → (Data → Result A ReadFault) → List ℕ → Data → Result (List A) ReadFault
list_if_at read name d = items_if read (get name d)

-- how many items a list has, at most 10
abbrev pub few_from : Items → Result ℕ ReadFault
few_from items = within (nat_lt (items_len items) 11) (items_len items)

abbrev pub parts_at : List ℕ → Data → Result ℕ ReadFault
parts_at name d = and_then (field_at name d) (λ v. and_then (ok_or (as_array v) BadField) few_from)
