-- What becomes of a worker's value as its history goes on.
use Rattle.std.proofs.Common.{◌≡◌, List, [], ◌∷◌, ◌++◌, Bool, true, false, ◌||◌, refl, sym, ap, subst, ◌∙◌, append_assoc, append-nil}
use Rattle.std.proofs.Math.Bool.{or_assoc}
use mathlib.Core.List.{IsPrefix}
use Rattle.world_law.specs.Model.{Worker}
use Rattle.world_law.specs.Inputs.{Input, taken, outputs}
use Rattle.world_law.specs.Spent.{spends}
use Rattle.world_law.specs.TheLaw.{all_taken}
use Rattle.worker_core.specs.declared.io.Output.{Output as Written}
use Rattle.worker_core.specs.InCode.{wire_text, wire_model, KeptWorker}
use Rattle.worker_core.specs.Outputs.{all_written}
use Rattle.worker_core.specs.Represents.{Represents, StepsTo}
use Rattle.worker_run.specs.Histories.{History, Took, given_out, inputs, transcript}
use Rattle.worker_run.specs.Workers.{any_spends, Follows, FollowsAll, IsFront}
use Rattle.worker_run.proofs.Histories.{inputs_join, inputs_before, given_join, taken_join, transcript_join}

pub spends_join : (is js : List Input) (w : Worker) → any_spends w (is ++ js) ≡ (any_spends w is || any_spends (all_taken wire_text w is) js)
spends_join [] js w = refl
spends_join (i ∷ is) js w =
    let next : Worker = taken wire_model w i in
    ap (λ b. spends wire_model w i || b) (spends_join is js next)
    ∙ sym (or_assoc (spends wire_model w i) (any_spends next is) (any_spends (all_taken wire_text next is) js))

-- the worker of the model after a history
abbrev pub after_all : Worker → History → Worker
after_all w h = all_taken wire_text w (inputs h)

pub after_join : (h k : History) (w : Worker) → after_all w (h ++ k) ≡ after_all (after_all w h) k
after_join h k w = ap (all_taken wire_text w) (inputs_join h k) ∙ taken_join (inputs h) (inputs k) w

-- whether a count is spent in one of two histories
pub spends_after : (h k : History) (w : Worker) → any_spends w (inputs (h ++ k)) ≡ (any_spends w (inputs h) || any_spends (after_all w h) (inputs k))
spends_after h k w = ap (any_spends w) (inputs_join h k) ∙ spends_join (inputs h) (inputs k) w

-- ---- nothing has come yet

pub follows_none : (a : KeptWorker) → FollowsAll a [] [] a
follows_none a w is = record { represents = is; whole = refl; unspent = refl }

-- ---- one history, and then another

module _ (a b : KeptWorker) (h k : History) (w : Worker) (first : Follows a h [] b w) where
  -- a front of what is owed in the second, after all that is owed in the first
  transcript_more : (t : History) → k ++ t ≡ transcript (after_all w h) (inputs k) → (h ++ k) ++ t ≡ transcript w (inputs (h ++ k))
  transcript_more t front =
      let later : History = transcript (after_all w h) (inputs k) in
      append_assoc h k t
      ∙ (ap (λ (l : History). h ++ l) front
      ∙ (ap (λ (l : History). l ++ later) (sym (append-nil h) ∙ first.whole)
      ∙ (sym (transcript_join (inputs h) (inputs k) w) ∙ ap (transcript w) (sym (inputs_join h k)))))

  spends_later : (s : Bool) → any_spends (after_all w h) (inputs k) ≡ s → any_spends w (inputs (h ++ k)) ≡ s
  spends_later s is = spends_after h k w ∙ (ap (λ b. b || any_spends (after_all w h) (inputs k)) first.unspent ∙ is)

module _ (a b : KeptWorker) (h : History) (first : FollowsAll a h [] b) where
  pub follows_more : (k : History) (rest : List Written) (c : KeptWorker) → FollowsAll b k rest c → FollowsAll a (h ++ k) rest c
  follows_more k rest c second w is =
      let before : Follows a h [] b w = first w is in
      let here : Follows b k rest c (after_all w h) = second (after_all w h) before.represents in
      record {
        represents = subst (λ (v : Worker). Represents c v) (sym (after_join h k w)) here.represents;
        whole = transcript_more a b h k w before (given_out rest) here.whole;
        unspent = spends_later a b h k w before false here.unspent;
      }

  pub front_more : (k : History) → IsFront b k → IsFront a (h ++ k)
  front_more k front w is =
      let before : Follows a h [] b w = first w is in
      let here : IsPrefix k (transcript (after_all w h) (inputs k)) = front (after_all w h) before.represents in
      (here.0, transcript_more a b h k w before here.0 here.1)

  -- where a count is spent in what follows, it is spent in the whole
  pub spends_more : (k : History) → ((w : Worker) → Represents b w → any_spends w (inputs k) ≡ true) → (w : Worker) → Represents a w → any_spends w (inputs (h ++ k)) ≡ true
  spends_more k spent w is =
      let before : Follows a h [] b w = first w is in
      spends_later a b h k w before true (spent (after_all w h) before.represents)

-- ---- outputs go out

module _ (a b : KeptWorker) (h : History) where
  pub follows_given : (xs ys : List Written) → FollowsAll a h (xs ++ ys) b → FollowsAll a (h ++ given_out xs) ys b
  follows_given xs ys follows w is =
      let before : Follows a h (xs ++ ys) b w = follows w is in
      let same : inputs h ≡ inputs (h ++ given_out xs) = sym (inputs_before h xs) in
      record {
        represents = subst (λ (is : List Input). Represents b (all_taken wire_text w is)) same before.represents;
        whole =
            append_assoc h (given_out xs) (given_out ys)
            ∙ (ap (λ (l : History). h ++ l) (sym (given_join xs ys)) ∙ (before.whole ∙ ap (transcript w) same));
        unspent = ap (any_spends w) (sym same) ∙ before.unspent;
      }

  -- all that went out is a front of what is owed
  pub front_follows : (rest : List Written) → FollowsAll a h rest b → IsFront a h
  front_follows rest follows w is = (given_out rest, (follows w is).whole)

  pub front_given : (xs ys : List Written) → FollowsAll a h (xs ++ ys) b → IsFront a (h ++ given_out xs)
  front_given xs ys follows w is = (given_out ys, (follows_given xs ys follows w is).whole)

-- an input whose outputs never went out
pub front_took : (a : KeptWorker) (i : Input) → IsFront a (Took i ∷ [])
front_took a i w is = (given_out (all_written (outputs wire_model w i)) ++ [], refl)

-- ---- one input

pub follows_step : (a b : KeptWorker) (i : Input) (out : List Written) → ((w : Worker) → Represents a w → StepsTo w i b out) → FollowsAll a (Took i ∷ []) out b
follows_step a b i out steps w is =
    let step : StepsTo w i b out = steps w is in
    record {
      represents = step.0;
      whole = ap (λ (o : List Written). Took i ∷ given_out o) step.1.0 ∙ sym (append-nil (Took i ∷ given_out (all_written (outputs wire_model w i))));
      unspent = ap (λ b. b || false) step.1.1;
    }
