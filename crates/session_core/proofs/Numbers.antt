-- The numbers in ids.
use Rattle.std.proofs.Common.{◌≡◌, ℕ, ◌<◌, ◌^◌, List, ◌++◌, Option, Some, Ok, sym, ap, ◌∙◌, arith, decimal, append_assoc}
use Rattle.std.specs.Prelude.{codes}
use Rattle.std.proofs.lemmas.Option.{same_Some}
use Rattle.std.proofs.lemmas.List.{append_cancel_left}
use Rattle.snowflake_id.specs.Text.{id_of_text}
use Rattle.snowflake_id.proofs.Texts.{id_of_decimal}
use Rattle.session_core.specs.Resume.{session_id}

-- what follows the front is read as the number
pub after_front : (text front rest : List ℕ) (n : ℕ) → n < 2 ^ 32 → text ≡ front ++ rest → text ≡ front ++ decimal n → id_of_text rest ≡ Ok n
after_front text front rest n small is same =
    ap id_of_text (append_cancel_left front rest (decimal n) (sym is ∙ same)) ∙ id_of_decimal n (omega (arith, small))

as_front : (worker n : ℕ) → session_id worker n ≡ (codes "w" ++ (decimal worker ++ codes "s")) ++ decimal n
as_front worker n = ap (λ text. codes "w" ++ text) (sym (append_assoc (decimal worker) (codes "s") (decimal n)))

-- the id of the number that was read is the id that was given, where that is any number's
pub same_id : (worker n number : ℕ) (front id own : List ℕ) (read : Option ℕ) → ((m : ℕ) → m < 2 ^ 32 → id ≡ front ++ decimal m → read ≡ Some m)
    → front ≡ codes "w" ++ (decimal worker ++ codes "s") → read ≡ Some number → own ≡ session_id worker number → n < 2 ^ 32 → session_id worker n ≡ id → own ≡ id
same_id worker n number front id own read all front_is some own_is small named =
    let at : read ≡ Some n = all n small (sym named ∙ (as_front worker n ∙ ap (λ f. f ++ decimal n) (sym front_is))) in
    own_is ∙ (ap (session_id worker) (same_Some number n (sym some ∙ at)) ∙ named)
