-- What is known where all has been settled.
use Rattle.std.proofs.Common.{◌≡◌, List, [], ◌∷◌, ◌++◌, map, Result, Ok, Err, IfOk, OnOk, refl, ap, ◌∙◌, Global, Vec}
use Rattle.edit_post.specs.Post.{Sender}
use Rattle.gate_ends.specs.Gathers.{Gathers}
use Rattle.gate_ends.specs.declared.ending.ScriptEnd.{ScriptEnd}
use Rattle.gate_ends.specs.declared.senders.Senders.{Senders}
use Rattle.gate_ends.specs.declared.senders.Left.{Left}
use Rattle.gate_ends.proofs.Served.{worker_passes}

-- what follows of all that a result says
pub if_ok_all : {T E : Type 0} (P Q N : T → Type 0) (V W : Type 0) (r : Result T E) → ((x : T) → P x → N x → V → W → Q x) → IfOk r P → IfOk r N → OnOk r V → OnOk r W → IfOk r Q
if_ok_all P Q N V W (Ok x) f p n v w = f x p n v w
if_ok_all P Q N V W (Err e) f p n v w = tt

-- ---- the passes of all senders

abbrev pub script_passes : {E : Type 0} → ScriptEnd E → List Sender
script_passes e = e.passes.items

-- the items of lists of two kinds
module _ {A B T : Type 0} (f : A → Vec T Global) (g : B → Vec T Global) where
  second_items : (ys : List B) → map (λ (v : Vec T Global). v.items) (map g ys) ≡ map (λ y. (g y).items) ys
  second_items [] = refl
  second_items (y ∷ ys) = ap (λ l. (g y).items ∷ l) (second_items ys)

  both_items : (xs : List A) (ys : List B) → map (λ (v : Vec T Global). v.items) (map f xs ++ map g ys) ≡ map (λ x. (f x).items) xs ++ map (λ y. (g y).items) ys
  both_items [] ys = second_items ys
  both_items (x ∷ xs) ys = ap (λ l. (f x).items ∷ l) (both_items xs ys)

pub all_passes : {R E : Type 0} (all : Senders R E) (left : Left R) → Gathers all left
    → map (λ (v : Vec Sender Global). v.items) left.passes.items ≡ map script_passes all.scripts.items ++ map worker_passes all.workers.items
all_passes all left g = ap (map (λ (v : Vec Sender Global). v.items)) g.passes_are ∙ both_items (λ e. e.passes) (λ e. e.passes) all.scripts.items all.workers.items
