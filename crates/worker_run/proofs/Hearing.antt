-- What comes over connections, in order of arrival of these.
use Rattle.std.proofs.Common.{◌≡◌, ℕ, ◌+◌, ◌≤◌, List, [], ◌∷◌, ◌++◌, true, false, Option, Some, map, refl, sym, ap, ap₂, subst, ◌∙◌, append_assoc, append-nil, arith}
use Rattle.std.specs.List.{list_all}
use Rattle.std.proofs.lemmas.List.{map-append}
use Rattle.gate_outside.specs.Links.{ReturnedLink}
use Rattle.gate_outside.specs.declared.sending.Sending.TheVariants as sending
use Rattle.open_links.specs.Courses.{Events, Comes}
use Rattle.open_links.specs.Links.{Holding, Meets}
use Rattle.open_links.specs.Calls.{GoesBy, MovesBy, is_done}
use Rattle.open_links.proofs.Composing.{closed_is_over}
use Rattle.world_law.specs.Inputs.{Input}
use Rattle.worker_run.specs.Histories.{History, Took, inputs}
use Rattle.worker_run.specs.Turns.{is_loss, comes_over, AscendFrom, CameFrom}
use Rattle.worker_run.specs.Moves.{GoesOver, kept, IsOneOver, IsHeard}
use Rattle.worker_run.proofs.Shapes.{kept_join, one_kept, only_losses}

-- ---- a close ends its connection

-- a close that a link has given, and what follows it
pub links_closed : (conn code : ℕ) (more : Events) (a b c : Holding) (p q : Option (List ReturnedLink))
    → MovesBy ((conn, Comes (sending.Close code)) ∷ []) a b → is_done conn b.links ≡ true → GoesOver conn more b p c q → GoesBy ((conn, Comes (sending.Close code)) ∷ more) a p c q
links_closed conn code more a b c p q moves done goes es before meets =
    subst (λ (l : Events). Meets l c before q) (append_assoc es ((conn, Comes (sending.Close code)) ∷ []) more)
    (goes (es ++ (conn, Comes (sending.Close code)) ∷ []) before (moves es before p meets) (closed_is_over es a b before p conn code (moves, done) meets))

-- ---- one input at most

pub heard_one : (i : Input) (h : History) (conn : ℕ) → is_loss i ≡ false → comes_over i ≡ Some conn → list_all is_loss (inputs h) ≡ true → IsHeard conn (Took i ∷ h)
heard_one i h conn other over losses = subst (λ (is : List Input). IsOneOver conn is) (sym (one_kept i h other losses)) over

pub heard_none : (h : History) (conn : ℕ) → list_all is_loss (inputs h) ≡ true → IsHeard conn h
heard_none h conn losses = subst (λ (is : List Input). IsOneOver conn is) (sym (only_losses (inputs h) losses)) tt

-- ---- one connection after another

-- inputs that came over connections before this one, at most one over each, in order
pub record CameBefore (from : ℕ) (is : List Input) : Type 0 where
  pub conns : List ℕ
  pub over : map comes_over is ≡ map Some conns
  pub ascend : (conn : ℕ) → from ≤ conn → AscendFrom 0 (conns ++ conn ∷ [])

pub came_none : CameBefore 0 []
came_none = record { conns = []; over = refl; ascend = λ conn le. (le, tt) }

ascend_front : (from conn : ℕ) (conns : List ℕ) → AscendFrom from (conns ++ conn ∷ []) → AscendFrom from conns
ascend_front from conn [] ascend = tt
ascend_front from conn (c ∷ conns) ascend = (ascend.0, ascend_front (c + 1) conn conns ascend.1)

ascend_more : (from conn next : ℕ) (conns : List ℕ) → AscendFrom from (conns ++ conn ∷ []) → conn + 1 ≤ next → AscendFrom from ((conns ++ conn ∷ []) ++ next ∷ [])
ascend_more from conn next [] ascend le = (ascend.0, (le, tt))
ascend_more from conn next (c ∷ conns) ascend le = (ascend.0, ascend_more (c + 1) conn next conns ascend.1 le)

came_one : (from conn : ℕ) (is js : List Input) → from ≤ conn → CameBefore from is → IsOneOver conn js → CameBefore (conn + 1) (is ++ js)
came_one from conn is [] le came one = record {
  conns = came.conns;
  over = ap (map comes_over) (append-nil is) ∙ came.over;
  ascend = λ next more. came.ascend next (omega (arith, le, more));
}
came_one from conn is (i ∷ []) le came one = record {
  conns = came.conns ++ conn ∷ [];
  over =
      map-append comes_over is (i ∷ [])
      ∙ ap₂ (λ xs ys. xs ++ ys) came.over (ap (λ o. o ∷ []) one)
      ∙ sym (map-append Some came.conns (conn ∷ []));
  ascend = λ next more. ascend_more 0 conn next came.conns (came.ascend conn le) more;
}
came_one from conn is (i ∷ (j ∷ js)) le came one = absurd one

pub came_more : (from conn : ℕ) (h k : History) → from ≤ conn → CameBefore from (kept h) → IsHeard conn k → CameBefore (conn + 1) (kept (h ++ k))
came_more from conn h k le came heard = subst (λ (is : List Input). CameBefore (conn + 1) is) (sym (kept_join h k)) (came_one from conn (kept h) (kept k) le came heard)

pub came_from : (from : ℕ) (is : List Input) → CameBefore from is → CameFrom 0 is
came_from from is came = record { conns = came.conns; over = came.over; ascend = ascend_front 0 from came.conns (came.ascend from (omega arith)) }
