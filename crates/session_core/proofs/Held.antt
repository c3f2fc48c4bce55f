-- Whom each session is for, through each change.
use Rattle.std.proofs.Common.{◌≡◌, ℕ, List, Bool, true, false, cond, Option, Some, refl, sym, subst, nat_eq, eqb-true}
use Rattle.std.specs.Map.{lookup}
use Rattle.session_core.specs.declared.kept.Session.{Session as KeptSession}
use Rattle.session_core.specs.Holders.{holder_of}
use Rattle.session_core.specs.Kept.{session_of, IsHeld, AreHeld}
use Rattle.session_core.proofs.Changes.{IsSetAt}

pub AreHeld-set : (worker : ℕ) (old new : List (ℕ × KeptSession)) (n : ℕ) (w : Option KeptSession) → AreHeld worker old → IsSetAt n w old new → IsHeld worker n w → AreHeld worker new
AreHeld-set worker old new n w held is here m = subst (IsHeld worker m) (sym (is m)) (by_number (nat_eq n m) refl)
  where
    by_number : (b : Bool) → nat_eq n m ≡ b → IsHeld worker m (cond b w (lookup (nat_eq m) old))
    by_number true same = subst (λ k. IsHeld worker k w) (eqb-true n m same) here
    by_number false apart = held m

pub held-at : (worker : ℕ) (es : List (ℕ × KeptSession)) (n : ℕ) (x : KeptSession) → AreHeld worker es → lookup (nat_eq n) es ≡ Some x → x.holder ≡ holder_of worker (session_of (n, x))
held-at worker es n x held there = subst (IsHeld worker n) there (held n)
