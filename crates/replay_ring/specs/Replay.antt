-- What is kept of the texts that were sent, to send them again (Gateway, Resuming).
use Rattle.std.specs.Prelude.{◌≡◌, ℕ, ◌+◌, ◌-◌, ◌<◌, ◌≤◌, Bool, ◌&&◌, IsTrue, nat_le, List, [], ◌∷◌, ◌++◌, length, drop, sum_by, fold, if◌then◌else◌, refl}
use Rattle.std.specs.Coded.{Coded, code_by, coded×, coded_list, coded_ℕ}
use Rattle.circular_buffer.specs.Buffer.{Buffer, keep_last}

-- the number of the last text, the texts held, the most texts and the most bytes that may be held
pub record Replay : Type 0 where
  pub last : ℕ
  pub held : List (List ℕ)
  pub items : ℕ
  pub bytes : ℕ

abbrev pub replay_code : Coded Replay
replay_code =
    code_by
    ((ℕ × List (List ℕ)) × (ℕ × ℕ))
    (coded× (coded× coded_ℕ (coded_list (coded_list coded_ℕ))) (coded× coded_ℕ coded_ℕ))
    (λ r. ((r.last, r.held), (r.items, r.bytes)))
    (λ p. record { last = p.0.0; held = p.0.1; items = p.1.0; bytes = p.1.1 })
    (λ _. refl)

-- what the fields of a buffer keep: the bytes held are counted, and no text is held that was not pushed
pub record IsCounted (texts : Buffer (List ℕ)) (bytes limit last : ℕ) : Type 0 where
  pub counted : bytes ≡ sum_by length texts.items
  pub within : bytes ≤ limit
  pub numbered : length texts.items ≤ last

-- at most so many texts of at most so many bytes in all
unfoldable pub is_within : ℕ → ℕ → List (List ℕ) → Bool
is_within items bytes texts = nat_le (length texts) items && nat_le (sum_by length texts) bytes

-- the longest suffix within both limits
unfoldable pub longest_suffix : ℕ → ℕ → List (List ℕ) → List (List ℕ)
longest_suffix items bytes [] = []
longest_suffix items bytes (text ∷ later) =
    if is_within items bytes (text ∷ later) then text ∷ later else longest_suffix items bytes later

-- the same by what it is: a suffix within both limits, where no longer suffix is
pub record IsLongestSuffix (items bytes : ℕ) (texts held : List (List ℕ)) : Type 0 where
  pub suffix : held ≡ keep_last (length held) texts
  pub within : IsTrue (is_within items bytes held)
  pub longest : (n : ℕ) → length held < n → n ≤ length texts → ¬ IsTrue (is_within items bytes (keep_last n texts))

abbrev pub fresh : ℕ → ℕ → Replay
fresh items bytes = record { last = 0; held = []; items = items; bytes = bytes }

-- a text gets the next number, and of it and those before it the longest suffix stays
abbrev pub pushed : Replay → List ℕ → Replay
pushed r text = record r { last = r.last + 1; held = longest_suffix r.items r.bytes (r.held ++ text ∷ []) }

abbrev pub pushed_all : Replay → List (List ℕ) → Replay
pushed_all r texts = fold pushed r texts

-- what is kept of all the texts that were sent, of which the first has the number 1
abbrev pub replay_of : ℕ → ℕ → List (List ℕ) → Replay
replay_of items bytes texts =
    record { last = length texts; held = longest_suffix items bytes texts; items = items; bytes = bytes }

-- the texts with numbers above q
abbrev pub texts_after : Replay → ℕ → List (List ℕ)
texts_after r q = drop (length r.held - (r.last - q)) r.held
