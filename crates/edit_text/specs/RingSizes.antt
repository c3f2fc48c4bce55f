-- How much a bot line says is kept of what a session was sent.
use Rattle.std.specs.Prelude.{ℕ, ◌==◌, List, [], ◌∷◌, Bool, not, ◌&&◌, ◌||◌, nat_lt, if◌then◌else◌, Option, Some, None, Result, Ok, codes}
use Rattle.std.specs.Option.{ok_or}
use Rattle.serde_json.specs.Data.{Data}
use Rattle.serde_json.specs.Find.{get}
use Rattle.json_view.specs.Fields.{and_then, whole, number_field}
use Rattle.edit_fields.specs.declared.fault.LineFault.{LineFault}
use Rattle.edit_fields.specs.declared.fault.LineFault.TheVariants.{WrongType}
use Rattle.edit_fields.specs.Fault.{faulted}
use Rattle.edit_fields.specs.Fields.{within}
use Rattle.edit_fields.specs.Members.{count}
use Rattle.edit_text.specs.declared.ring_size.RingSize.{RingSize}

abbrev pub is_version : ℕ → Bool
is_version v = v == 1 || v == 2

abbrev pub version_from : Data → Result ℕ LineFault
version_from value = and_then (ok_or (whole value) WrongType) (λ v. within (is_version v) v)

-- a missing version is 1
abbrev pub given_version : Option Data → Result ℕ LineFault
given_version None = Ok 1
given_version (Some value) = version_from value

abbrev pub version_at : List ℕ → Data → Result ℕ LineFault
version_at name d = given_version (get name d)

abbrev pub is_between : ℕ → ℕ → ℕ → Bool
is_between least most n = not (nat_lt n least) && not (nat_lt most n)

abbrev pub number_between : ℕ → ℕ → List ℕ → Data → Result ℕ LineFault
number_between least most name d =
    and_then (faulted (number_field name d)) (λ n. within (is_between least most n) n)

abbrev pub dispatches_at : List ℕ → Data → Result ℕ LineFault
dispatches_at name d = number_between 1 16384 name d

abbrev pub bytes_at : List ℕ → Data → Result ℕ LineFault
bytes_at name d = number_between 1024 16777216 name d

-- version 1 means the same for every bot, and version 2 says how much
abbrev pub sizes_from : ℕ → Data → Result RingSize LineFault
sizes_from v d =
    if v == 1 then Ok (record { v = v; ring_items = 1024; ring_bytes = 4194304 })
    else (
    and_then (dispatches_at (codes "ring_items") d) (λ items.
    and_then (bytes_at (codes "ring_bytes") d) (λ bytes.
    Ok (record { v = v; ring_items = items; ring_bytes = bytes }))))

abbrev pub ring_size_from : Data → Result RingSize LineFault
ring_size_from d = and_then (version_at (codes "v") d) (λ v. sizes_from v d)

abbrev pub sizes_fields : RingSize → List (List ℕ × Data)
sizes_fields size =
    (codes "v", count size.v) ∷ (codes "ring_items", count size.ring_items)
    ∷ (codes "ring_bytes", count size.ring_bytes) ∷ []

-- version 1 is written without its number, and without what it means
abbrev pub ring_size_fields : RingSize → List (List ℕ × Data)
ring_size_fields size = if size.v == 1 then [] else sizes_fields size

-- what a reader allows: version 1 with what it means, or version 2 within its ranges
abbrev pub is_size : RingSize → Bool
is_size size =
    if size.v == 1 then (size.ring_items == 1024 && size.ring_bytes == 4194304)
    else (size.v == 2
    && (is_between 1 16384 size.ring_items && is_between 1024 16777216 size.ring_bytes))
