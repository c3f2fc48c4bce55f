-- Lists of what was started, with what is left in reverse.
use Rattle.std.proofs.Common.{◌≡◌, List, [], ◌∷◌, ◌++◌, map, reverse, sym, ap, ◌∙◌, append_assoc, append-nil, subst}
use Rattle.std.specs.List.{AllZip}
use Rattle.std.proofs.lemmas.List.{map-append, reverse-append}

-- the item that is taken from the end stands first in reverse
pub taken_first : {X : Type 0} (xs rest : List X) (x : X) → xs ≡ rest ++ x ∷ [] → reverse xs ≡ x ∷ reverse rest
taken_first xs rest x pop = ap reverse pop ∙ reverse-append rest (x ∷ [])

-- one more of the tasks is started
pub one_started : {H T : Type 0} (task_of : H → T) (old : List H) (held : H) (task : T) (later : List T) → task_of held ≡ task → map task_of (old ++ held ∷ []) ++ later ≡ map task_of old ++ task ∷ later
one_started task_of old held task later e =
    ap (λ l. l ++ later) (map-append task_of old (held ∷ [])) ∙ append_assoc (map task_of old) (task_of held ∷ []) later
    ∙ ap (λ t. map task_of old ++ t ∷ later) e

-- with whatever the tasks that are left give, what was given is what all give
pub record GivesRest {H T D : Type 0} (gives : T → D → Type 0) (task_of : H → T) (all left : List H) (dones : List D) : Type 0 where
  pub rest : (later : List D) → AllZip gives (map task_of left) later → AllZip gives (map task_of all) (dones ++ later)

-- one more of the tasks is finished
pub one_finished : {H T D : Type 0} (gives : T → D → Type 0) (task_of : H → T) (all left : List H) (held : H) (dones : List D) (done : D) → GivesRest gives task_of all (held ∷ left) dones → gives (task_of held) done → GivesRest gives task_of all left (dones ++ done ∷ [])
one_finished gives task_of all left held dones done rest gave = record {
  rest = λ later given. subst (λ ds. AllZip gives (map task_of all) ds) (sym (append_assoc dones (done ∷ []) later)) (rest.rest (done ∷ later) (gave, given));
}

pub none_finished : {H T D : Type 0} (gives : T → D → Type 0) (task_of : H → T) (all left : List H) (dones : List D) → left ≡ all → dones ≡ [] → GivesRest gives task_of all left dones
none_finished gives task_of all left dones same none = record {
  rest = λ later given. rw none (rw same at given);
}

pub all_finished : {H T D : Type 0} (gives : T → D → Type 0) (task_of : H → T) (all left : List H) (dones : List D) → GivesRest gives task_of all left dones → left ≡ [] → AllZip gives (map task_of all) dones
all_finished gives task_of all left dones rest none =
    let given : AllZip gives (map task_of left) [] = rw none tt in
    subst (λ ds. AllZip gives (map task_of all) ds) (append-nil dones) (rest.rest [] given)
