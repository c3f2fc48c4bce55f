-- What goes out, each wish followed at once by its edit.
use Rattle.std.proofs.Common.{◌≡◌, ℕ, ◌<◌, ◌+◌, suc, List, [], ◌∷◌, ◌++◌, length, take, drop, get_or, refl, sym, ap, ◌∙◌, append_assoc, append-nil, add-one}
use Rattle.std.proofs.Math.Seq.{take-suc, split_at}
use Rattle.std.specs.declared.option.Option.{Option}
use Rattle.worker_core.specs.declared.io.Output.{Output}
use Rattle.scenario.specs.Server.{Server, follow, followed}
use Rattle.scenario.specs.Transcript.{output_text, outputs_text}
use Rattle.gate_outside.specs.Streams.{Carries, CarriesFront}
use Rattle.gate_outside.proofs.Fronts.{carries_more, front_of_more, front_before}

-- a text, and then more
module _ (got0 got1 got2 : Option (List ℕ)) (waits0 waits1 waits2 text more : List ℕ) where
  -- a front of the text alone
  pub text_stops : CarriesFront got0 got1 waits1 (waits0 ++ text) → CarriesFront got0 got1 waits1 (waits0 ++ (text ++ more))
  text_stops front = rw (append_assoc waits0 text more) at (front_before got0 got1 waits1 (waits0 ++ text) more front)

  -- the text, and a front of what follows
  pub more_stops : Carries got0 got1 waits1 (waits0 ++ text) → CarriesFront got1 got2 waits2 (waits1 ++ more) → CarriesFront got0 got2 waits2 (waits0 ++ (text ++ more))
  more_stops first front = rw (append_assoc waits0 text more) at (front_of_more got0 got1 got2 waits1 waits2 (waits0 ++ text) more first front)

  pub both_carried : Carries got0 got1 waits1 (waits0 ++ text) → Carries got1 got2 waits2 (waits1 ++ more) → Carries got0 got2 waits2 (waits0 ++ (text ++ more))
  both_carried first second = rw (append_assoc waits0 text more) at (carries_more got0 got1 got2 waits1 waits2 (waits0 ++ text) more first second)

followed-more : (xs ys : List Output) (p : Server) → followed p (xs ++ ys) ≡ followed (followed p xs) ys
followed-more [] ys p = refl
followed-more (x ∷ xs) ys p = followed-more xs ys (follow p x)

text-more : (xs ys : List Output) (p : Server) (n : ℕ) → outputs_text p n (xs ++ ys) ≡ outputs_text p n xs ++ outputs_text (followed p xs) n ys
text-more [] ys p n = refl
text-more (x ∷ xs) ys p n =
    ap (λ l. output_text p n x ++ l) (text-more xs ys (follow p x) n) ∙ sym (append_assoc (output_text p n x) (outputs_text (follow p x) n xs) (outputs_text (followed (follow p x) xs) n ys))

-- one output among them
module _ (outputs : List Output) (i : ℕ) (o : Output) (h : i < length outputs) (is : o ≡ get_or outputs i o) (p : Server) (n : ℕ) where
  next : take (i + 1) outputs ≡ take i outputs ++ get_or outputs i o ∷ []
  next = ap (λ k. take k outputs) (add-one i) ∙ take-suc outputs i o h

  pub follow_next : followed p (take (i + 1) outputs) ≡ follow (followed p (take i outputs)) o
  follow_next = ap (followed p) next ∙ (followed-more (take i outputs) (get_or outputs i o ∷ []) p ∙ ap (follow (followed p (take i outputs))) (sym is))

  text_next : outputs_text p n (take (i + 1) outputs) ≡ outputs_text p n (take i outputs) ++ output_text (followed p (take i outputs)) n o
  text_next =
      ap (outputs_text p n) next ∙ (text-more (take i outputs) (get_or outputs i o ∷ []) p n
      ∙ ap (λ l. outputs_text p n (take i outputs) ++ l) (append-nil (output_text (followed p (take i outputs)) n (get_or outputs i o)) ∙ ap (output_text (followed p (take i outputs)) n) (sym is)))

  -- with all that follow
  text_all : outputs_text p n outputs ≡ outputs_text p n (take i outputs) ++ (output_text (followed p (take i outputs)) n o ++ outputs_text (follow (followed p (take i outputs)) o) n (drop (suc i) outputs))
  text_all =
      ap (outputs_text p n) (split_at outputs i o h) ∙ (text-more (take i outputs) (get_or outputs i o ∷ drop (suc i) outputs) p n
      ∙ ap (λ x. outputs_text p n (take i outputs) ++ outputs_text (followed p (take i outputs)) n (x ∷ drop (suc i) outputs)) (sym is))

  module _ (got0 got1 got2 : Option (List ℕ)) (waits0 waits1 waits2 : List ℕ) (so_far : Carries got0 got1 waits1 (waits0 ++ outputs_text p n (take i outputs))) where
    pub carries_next : Carries got1 got2 waits2 (waits1 ++ output_text (followed p (take i outputs)) n o) → Carries got0 got2 waits2 (waits0 ++ outputs_text p n (take (i + 1) outputs))
    carries_next h =
        let text : List ℕ = output_text (followed p (take i outputs)) n o in
        rw text_next (rw (append_assoc waits0 (outputs_text p n (take i outputs)) text) at (carries_more got0 got1 got2 waits1 waits2 (waits0 ++ outputs_text p n (take i outputs)) text so_far h))

    -- a front of it
    pub front_next : CarriesFront got1 got2 waits2 (waits1 ++ output_text (followed p (take i outputs)) n o) → CarriesFront got0 got2 waits2 (waits0 ++ outputs_text p n outputs)
    front_next h =
        let text : List ℕ = output_text (followed p (take i outputs)) n o in
        let later : List ℕ = outputs_text (follow (followed p (take i outputs)) o) n (drop (suc i) outputs) in
        let more : CarriesFront got1 got2 waits2 (waits1 ++ (text ++ later)) = rw (append_assoc waits1 text later) at (front_before got1 got2 waits2 (waits1 ++ text) later h) in
        rw text_all (rw (append_assoc waits0 (outputs_text p n (take i outputs)) (text ++ later)) at (front_of_more got0 got1 got2 waits1 waits2 (waits0 ++ outputs_text p n (take i outputs)) (text ++ later) so_far more))
