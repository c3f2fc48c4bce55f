-- The grammar of the words of the command.
use Rattle.std.specs.Prelude.{ℕ, ◌==◌, ◌^◌, List, [], ◌∷◌, length, map, sum, Bool, false, not, ◌&&◌, Option, Some, None, Result, Ok, Err, nat_eq, nat_le, option_map, option_and_then, string_bytes, if◌then◌else◌, codes}
use Rattle.std.specs.Int.RustNames.{bit_and}
use Rattle.std.specs.List.{list_any, starts_with}
use Rattle.std.specs.Str.{bytes_eq}
use Rattle.intent_set.specs.Intents.{intent_bits}
use Rattle.snowflake_id.specs.declared.BadId.{BadId}
use Rattle.snowflake_id.specs.Text.{id_of_text}
use Rattle.serve_words.specs.declared.command.Command.{Command}
use Rattle.serve_words.specs.declared.command.Command.TheVariants.{Run, Load, Serve, Client, Lift}

-- a word that begins with a dash is an option; the dash alone is none, but a file, standard input
abbrev pub is_option : List ℕ → Bool
is_option [] = false
is_option (b ∷ []) = false
is_option (b ∷ c ∷ bs) = b == 45

abbrev pub number_in_id : Result ℕ BadId → Option ℕ
number_in_id (Ok number) = Some number
number_in_id (Err fault) = None

-- the number that a word is: one or more digits, worth less than 2^64
abbrev pub number_of : List ℕ → Option ℕ
number_of word = number_in_id (id_of_text word)

-- the same, if it is from 1 to `most`
abbrev pub number_to : ℕ → List ℕ → Option ℕ
number_to most word = option_and_then (λ number. if nat_le 1 number && nat_le number most then Some number else None) (number_of word)

-- the URL that a word is: it begins with `ws://`, and has at most 200 bytes
abbrev pub url_of : List ℕ → Option (List ℕ)
url_of word = if starts_with nat_eq word (codes "ws://") && nat_le (length word) 200 then Some word else None

-- the token that a word is: it has 1 to 100 bytes, and is not the dash, which is a file alone
abbrev pub token_of : List ℕ → Option (List ℕ)
token_of word = if nat_le 1 (length word) && (nat_le (length word) 100 && not (bytes_eq word (codes "-"))) then Some word else None

-- no bit but those of intents
unfoldable pub are_intents : ℕ → Bool
are_intents bits = bit_and bits (sum (map (λ b. 2 ^ b) intent_bits)) == bits

-- the set of intents that a word is
abbrev pub intents_of : List ℕ → Option ℕ
intents_of word = option_and_then (λ bits. if are_intents bits then Some bits else None) (number_of word)

-- what a command asks for
pub data Asked : Type 0 where
  run : (file : List ℕ) → Asked
  load : (seed : ℕ) → Asked
  serve : (port workers accepts : ℕ) → (files : List (List ℕ)) → Asked
  client : (url token : List ℕ) → (intents count : ℕ) → Asked
  lift : (file : List ℕ) → Asked

abbrev pub asked : Command → Asked
asked (Run file) = run file.now
asked (Load seed) = load seed
asked (Serve port workers accepts files) = serve port workers accepts (map string_bytes files.now)
asked (Client url token intents count) = client url.now token.now intents count
asked (Lift file) = lift file.now

-- what is asked for where all three numbers are there
abbrev pub served : (port workers accepts : Option ℕ) → List (List ℕ) → Option Asked
served (Some port) (Some workers) (Some accepts) files = Some (serve port workers accepts files)
served port workers accepts files = None

-- what is asked for where all four parts are there
abbrev pub followed : (url token : Option (List ℕ)) → (intents count : Option ℕ) → Option Asked
followed (Some url) (Some token) (Some intents) (Some count) = Some (client url token intents count)
followed url token intents count = None

-- what is asked for by the words FILE
abbrev pub run_words : List (List ℕ) → Option Asked
run_words (file ∷ []) = Some (run file)
run_words words = None

-- the same of the command `lift`
abbrev pub lift_words : List (List ℕ) → Option Asked
lift_words (file ∷ []) = Some (lift file)
lift_words words = None

-- by the words SEED
abbrev pub load_words : List (List ℕ) → Option Asked
load_words (seed ∷ []) = option_map load (number_of seed)
load_words words = None

-- by the words PORT WORKERS ACCEPTS FILES
abbrev pub serve_words : List (List ℕ) → Option Asked
serve_words (port ∷ workers ∷ accepts ∷ files) =
    if nat_le 1 (length files) && nat_le (length files) 12
    then served (number_to 65532 port) (number_to 4 workers) (number_to 1000000 accepts) files
    else None
serve_words words = None

-- by the words URL TOKEN INTENTS COUNT
abbrev pub client_words : List (List ℕ) → Option Asked
client_words (url ∷ token ∷ intents ∷ count ∷ []) =
    followed (url_of url) (token_of token) (intents_of intents) (number_to 1000000 count)
client_words words = None

-- by the name of a command and the words after it
abbrev pub named_words : List (List ℕ) → Option Asked
named_words [] = None
named_words (name ∷ words) =
    if bytes_eq name (codes "run") then run_words words
    else (if bytes_eq name (codes "load") then load_words words
    else (if bytes_eq name (codes "serve") then serve_words words
    else (if bytes_eq name (codes "client") then client_words words
    else (if bytes_eq name (codes "lift") then lift_words words else None))))

-- what the words ask for, if they are in the grammar, which has no options
abbrev pub command_of : List (List ℕ) → Option Asked
command_of words = if list_any is_option words then None else named_words words
