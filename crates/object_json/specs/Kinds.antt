-- The kinds of values in the gateway's objects (API Reference).
use Rattle.std.specs.Prelude.{ℕ, List, [], ◌∷◌, map, replicate, decimal, Bool, true, if◌then◌else◌, Option, Some, None}
use Rattle.serde_json.specs.Data.{Data, null, boolean, number, unsigned, string, array, object, Members, no_members, member}
use Rattle.serde_json.specs.View.{items_of}
use Rattle.moment_text.specs.Text.{time_text}

-- an id or a set of permissions: decimal digits as a text
abbrev pub digits : ℕ → Data
digits n = string (decimal n)

abbrev pub count : ℕ → Data
count n = number (unsigned n)

abbrev pub time : ℕ → Data
time millis = string (time_text millis)

-- null where there is no value
abbrev pub or_null : {A : Type 0} → (A → Data) → Option A → Data
or_null f None = null
or_null f (Some a) = f a

abbrev pub list : {A : Type 0} → (A → Data) → List A → Data
list f items = array (items_of (map f items))

-- as many `{}` as the number says
abbrev pub blanks : ℕ → Data
blanks n = array (items_of (replicate n (object no_members)))

-- a key that is left out where it has no value
abbrev pub member_if : List ℕ → Option Data → Members → Members
member_if key None others = others
member_if key (Some d) others = member key d others

-- a flag that is true or left out
abbrev pub true_if : Bool → Option Data
true_if flag = if flag then Some (boolean true) else None

-- a list that is left out where it has no item
abbrev pub list_if : {A : Type 0} → (A → Data) → List A → Option Data
list_if f [] = None
list_if f (a ∷ items) = Some (list f (a ∷ items))
