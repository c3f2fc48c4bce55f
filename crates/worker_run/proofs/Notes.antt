-- Notes of inputs, as more inputs come.
use Rattle.std.proofs.Common.{◌≡◌, List, [], ◌∷◌, ◌++◌, Option, Some, None, inl, inr, refl, sym, ap, subst, ◌∙◌, append_assoc, append-nil}
use Rattle.std.specs.List.{AllZip}
use Rattle.gate_outside.specs.Told.{GrowsBy}
use Rattle.world_law.specs.Model.{Worker}
use Rattle.world_law.specs.Inputs.{Input}
use Rattle.worker_core.specs.declared.io.Input.{Input as Given}
use Rattle.worker_core.specs.declared.io.StepFault.{StepFault}
use Rattle.worker_core.specs.declared.io.StepFault.TheVariants.{Spent, Memory}
use Rattle.worker_core.specs.InCode.{KeptWorker}
use Rattle.worker_core.specs.Outputs.{IsGiven}
use Rattle.worker_core.specs.Represents.{Represents, Fails}
use Rattle.worker_run.specs.Notes.{AreNoted, AreNotedButLast}
use Rattle.worker_run.specs.Faults.{by_step}
use Rattle.worker_run.specs.Stopping.{TakesNot}

zip_join : {A B : Type 0} (R : A → B → Type 0) (xs : List A) (ys : List B) (us : List A) (vs : List B) → AllZip R xs ys → AllZip R us vs → AllZip R (xs ++ us) (ys ++ vs)
zip_join R [] [] us vs first second = second
zip_join R [] (y ∷ ys) us vs first second = absurd first
zip_join R (x ∷ xs) [] us vs first second = absurd first
zip_join R (x ∷ xs) (y ∷ ys) us vs first second = (first.0, zip_join R xs ys us vs first.1 second)

pub noted_none : (a : Option (List Given)) → AreNoted [] a a
noted_none None = refl
noted_none (Some notes) = ([], (sym (append-nil notes), tt))

pub noted_more : (is js : List Input) (a b c : Option (List Given)) → AreNoted is a b → AreNoted js b c → AreNoted (is ++ js) a c
noted_more is js None b c first second = subst (λ (o : Option (List Given)). AreNoted js o c) first second
noted_more is js (Some xs) None c first second = absurd first
noted_more is js (Some xs) (Some ys) None first second = absurd second
noted_more is js (Some xs) (Some ys) (Some zs) first second = (
  first.0 ++ second.0,
  (
    second.1.0 ∙ (ap (λ (l : List Given). l ++ second.0) first.1.0 ∙ append_assoc xs first.0 second.0),
    zip_join IsGiven first.0 is second.0 js first.1.1 second.1.1,
  ),
)

-- ---- where the last one may not have been noted

pub noted_whole : (is : List Input) (a b : Option (List Given)) → AreNoted is a b → AreNotedButLast is a b
noted_whole is a b noted = inl noted

pub noted_but_last : (is js : List Input) (a b c : Option (List Given)) → AreNoted is a b → AreNotedButLast js b c → AreNotedButLast (is ++ js) a c
noted_but_last is js a b c first second = elim second [
  | inl noted ↦ inl (noted_more is js a b c first noted)
  | inr but ↦ inr (
    is ++ but.0,
    (
      but.1.0,
      (
        ap (λ (l : List Input). is ++ l) but.1.1.0 ∙ sym (append_assoc is but.0 (but.1.0 ∷ [])),
        noted_more is but.0 a b c first but.1.1.1,
      ),
    ),
  )
]

-- ---- one input

pub noted_one : (i : Input) (given : Given) (a b : Option (List Given)) → IsGiven given i → GrowsBy a b given → AreNoted (i ∷ []) a b
noted_one i given None b is grows = grows
noted_one i given (Some notes) None is grows = absurd grows
noted_one i given (Some notes) (Some more) is grows = (given ∷ [], (grows, (is, tt)))

pub refused_one : (i : Input) (a b : Option (List Given)) → b ≡ a → AreNotedButLast (i ∷ []) a b
refused_one i a b same = inr ([], (i, (refl, subst (λ (o : Option (List Given)). AreNoted [] a o) (sym same) (noted_none a))))

-- the worker does not take it
pub takes_not : (i : Input) (old : KeptWorker) (a b : Option (List Given)) (fault : StepFault) → ((w : Worker) → Represents old w → Fails w i fault) → AreNoted (i ∷ []) a b
    → TakesNot i old a b (by_step fault)
takes_not i old a b Spent fails noted = (fails, noted)
takes_not i old a b Memory fails noted = inl noted
