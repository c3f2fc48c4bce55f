-- A text with a number in it, or without one.
use Rattle.std.specs.Prelude.{ℕ, List, [], ◌++◌, Option, Some, None, decimal}
use Rattle.payload_text.specs.declared.envelope.Parts.{Parts}

-- a number in decimal, where there is one
abbrev pub number_text : Option ℕ → List ℕ
number_text None = []
number_text (Some number) = decimal number

abbrev pub text_around : Parts → Option ℕ → List ℕ
text_around parts number = parts.head ++ (number_text number ++ parts.tail)
