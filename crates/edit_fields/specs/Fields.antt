-- The fields of an object, by their kinds.
use Rattle.std.specs.Prelude.{ℕ, ◌^◌, List, [], ◌∷◌, Bool, nat_lt, if◌then◌else◌, Option, Some, None, Result, Ok, Err}
use Rattle.serde_json.specs.Data.{Data, Items, no_items, item}
use Rattle.serde_json.specs.Events.{items_len}
use Rattle.std.specs.Option.{ok_or}
use Rattle.serde_json.specs.Find.{as_str, as_array}
use Rattle.json_view.specs.Fields.{and_then, field, unless_null, whole, text_field, id_value, id_field, number_field, flag_field}
use Rattle.guild_model.specs.declared.channel.ChannelKind.{ChannelKind}
use Rattle.guild_model.specs.declared.channel.OverwriteKind.{OverwriteKind}
use Rattle.guild_model.specs.declared.thread.ThreadKind.{ThreadKind}
use Rattle.guild_model.specs.declared.presence.Status.{Status}
use Rattle.guild_model.specs.Statuses.{status_named}
use Rattle.guild_model.specs.Numbers.{channel_kind_numbered, thread_kind_numbered, overwrite_kind_numbered}
use Rattle.guild_model.specs.declared.moment.TheConstants.{END_OF_TIME}
use Rattle.edit_fields.specs.declared.fault.LineFault.{LineFault}
use Rattle.edit_fields.specs.declared.fault.LineFault.TheVariants.{WrongType}
use Rattle.edit_fields.specs.Fault.{faulted}

abbrev pub text_at : List ℕ → Data → Result (List ℕ) LineFault
text_at name d = faulted (text_field name d)

abbrev pub id_at : List ℕ → Data → Result ℕ LineFault
id_at name d = faulted (id_field name d)

abbrev pub flag_at : List ℕ → Data → Result Bool LineFault
flag_at name d = faulted (flag_field name d)

abbrev pub within : Bool → ℕ → Result ℕ LineFault
within fits n = if fits then Ok n else Err WrongType

-- a whole number below a limit
abbrev pub number_below : ℕ → List ℕ → Data → Result ℕ LineFault
number_below limit name d = and_then (faulted (number_field name d)) (λ n. within (nat_lt n limit) n)

-- a set of permissions, written as an id is (Permissions, Bitwise Permission Flags)
abbrev pub mask_at : List ℕ → Data → Result ℕ LineFault
mask_at name d = and_then (id_at name d) (λ n. within (nat_lt n (2 ^ 53)) n)

-- milliseconds since 1970, before 9999-01-01T00:00:00Z
abbrev pub moment_at : List ℕ → Data → Result ℕ LineFault
moment_at name d = number_below END_OF_TIME name d

abbrev pub position_at : List ℕ → Data → Result ℕ LineFault
position_at name d = number_below (2 ^ 31) name d

-- the type of a channel (Channels Resource, Channel Types)
abbrev pub kind_at : List ℕ → Data → Result ChannelKind LineFault
kind_at name d =
    and_then (faulted (number_field name d)) (λ n. ok_or (channel_kind_numbered n) WrongType)

-- the type of a thread (Channels Resource, Channel Types)
abbrev pub thread_kind_at : List ℕ → Data → Result ThreadKind LineFault
thread_kind_at name d =
    and_then (faulted (number_field name d)) (λ n. ok_or (thread_kind_numbered n) WrongType)

-- the type of an overwrite (Channels Resource, Overwrite Object)
abbrev pub overwrite_kind_at : List ℕ → Data → Result OverwriteKind LineFault
overwrite_kind_at name d =
    and_then (faulted (number_field name d)) (λ n. ok_or (overwrite_kind_numbered n) WrongType)

-- a status (Gateway Events, Status Types)
abbrev pub status_at : List ℕ → Data → Result Status LineFault
status_at name d = and_then (text_at name d) (λ s. ok_or (status_named s) WrongType)

-- how many embeds, attachments or components a message has
abbrev pub parts_at : List ℕ → Data → Result ℕ LineFault
parts_at name d = number_below 11 name d

abbrev pub ids_from : Items → Result (List ℕ) LineFault
ids_from no_items = Ok []
ids_from (item d ds) =
    and_then (faulted (id_value d)) (λ id. and_then (ids_from ds) (λ ids. Ok (id ∷ ids)))

-- at most 100 ids
abbrev pub few_ids_from : Items → Result (List ℕ) LineFault
few_ids_from ds = if nat_lt 100 (items_len ds) then Err WrongType else ids_from ds

abbrev pub ids_at : List ℕ → Data → Result (List ℕ) LineFault
ids_at name d =
    and_then (faulted (field name d)) (λ v. and_then (ok_or (as_array v) WrongType) few_ids_from)

-- reads a value unless it is null
abbrev pub or_null : {A : Type 0} → (Data → Result A LineFault) → Option Data
    → Result (Option A) LineFault
or_null read None = Ok None
or_null read (Some v) = and_then (read v) (λ a. Ok (Some a))

-- a field that may be null, and must exist
abbrev pub nullable_at : {A : Type 0} → (Data → Result A LineFault) → List ℕ → Data
    → Result (Option A) LineFault
nullable_at read name d = and_then (faulted (field name d)) (λ v. or_null read (unless_null v))

abbrev pub nullable_text_at : List ℕ → Data → Result (Option (List ℕ)) LineFault
nullable_text_at name d = nullable_at (λ v. ok_or (as_str v) WrongType) name d

abbrev pub nullable_id_at : List ℕ → Data → Result (Option ℕ) LineFault
nullable_id_at name d = nullable_at (λ v. faulted (id_value v)) name d

abbrev pub moment_from : Data → Result ℕ LineFault
moment_from v = and_then (ok_or (whole v) WrongType) (λ n. within (nat_lt n END_OF_TIME) n)

abbrev pub nullable_moment_at : List ℕ → Data → Result (Option ℕ) LineFault
nullable_moment_at name d = nullable_at moment_from name d
