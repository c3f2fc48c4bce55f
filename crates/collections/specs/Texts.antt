-- The bytes of a text, which lie in the value itself or in memory of its own.
use Rattle.std.specs.Prelude.{ℕ, List, string_bytes}
use Rattle.collections.specs.declared.text.Kept.{Kept}
use Rattle.collections.specs.declared.text.Kept.TheVariants.{Short, Long}

abbrev pub bytes_of : Kept → List ℕ
bytes_of (Short text) = text.bytes
bytes_of (Long text) = string_bytes text
