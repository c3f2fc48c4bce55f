-- One line, as it is read and played.
use Rattle.std.proofs.Common.{◌≡◌, ◌⊎◌, ℕ, List, ◌++◌, false, Option, Some, Result, Ok, Err, OnOk, if◌then◌else◌, inl, inr, refl, sym, ap, ◌∙◌, subst}
use Rattle.std.specs.declared.option.Option.{Option as Known}
use Rattle.gate_outside.specs.declared.faults.Fault.{Fault}
use Rattle.gate_outside.specs.declared.faults.Fault.TheVariants as outside
use Rattle.edit_fields.specs.declared.fault.LineFault.{LineFault}
use Rattle.edit_fields.specs.declared.fault.LineFault.TheVariants.{Memory}
use Rattle.edit_text.specs.declared.line.Line.{Line}
use Rattle.edit_text.specs.declared.reader_state.ReaderState.{ReaderState}
use Rattle.edit_fields.specs.Fault.{UnlessMemory}
use Rattle.edit_text.specs.Lines.{line_of, reader_after}
use Rattle.worker_core.specs.declared.io.StepFault.{StepFault}
use Rattle.worker_core.specs.declared.io.StepFault.TheVariants as step
use Rattle.scenario.specs.declared.fault.PlayFault.{PlayFault}
use Rattle.scenario.specs.declared.server.Server.{Server as KeptServer}
use Rattle.scenario.specs.declared.server.Answer.{Answer}
use Rattle.scenario.specs.Server.{Server, with_line, line_sends, played}
use Rattle.scenario.specs.Transcript.{head_text, outputs_text, Ending, Whole, Spends, line_refusal, line_lag, line_text, line_spends, line_ending, read_text, read_ending, after_read, run_text, run_ending}
use Rattle.scenario.specs.Represents.{Represents, PlaysNot}
use Rattle.gate_outside.specs.Streams.{Carries, CarriesFront}
use Rattle.scenario.specs.Played.{fault_of, step_fault, answer_text, Leaves, RunsLine}
use Rattle.gate_outside.proofs.Fronts.{puts_front}

-- ---- what was read

pub read_ok : (result answer : Result (Option Line) LineFault) (x : Option Line) → result ≡ Ok x → UnlessMemory result answer → answer ≡ Ok x
read_ok result answer x is (inl none) = absurd (cc)
read_ok result answer x is (inr same) = sym same ∙ is

-- ---- a line that is played

pub fails_ends : (fault : StepFault) (p : Server) (line : Line) (number : ℕ) (got : Known (List ℕ)) (waits : List ℕ) → PlaysNot p line fault
    → Leaves got got waits (waits ++ line_text p number line) (line_ending p line) (step_fault fault)
fails_ends step.Spent p line number got waits h = (puts_front got waits (line_text p number line) (waits ++ line_text p number line) refl, ap (λ b. if b then Spends else Whole) h)
fails_ends step.Memory p line number got waits h = puts_front got waits (line_text p number line) (waits ++ line_text p number line) refl

pub write_ends : (fault : Fault) (got0 got1 : Known (List ℕ)) (waits text : List ℕ) (end : Ending) → CarriesFront got0 got1 waits text → Leaves got0 got1 waits text end (fault_of fault)
write_ends outside.Failed got0 got1 waits text end h = h
write_ends outside.Memory got0 got1 waits text end h = h

pub text_is : (p : Server) (number : ℕ) (line : Line) (a : Answer) → a.refusal ≡ line_refusal p line → a.lagged ≡ line_lag p line → a.outputs.items ≡ line_sends p line
    → answer_text (with_line p line) number a ≡ line_text p number line
text_is p number line a refusal lag outputs =
    ap (λ r. head_text number r a.lagged ++ outputs_text (with_line p line) number a.outputs.items) refusal
    ∙ (ap (λ l. head_text number (line_refusal p line) l ++ outputs_text (with_line p line) number a.outputs.items) lag
    ∙ ap (λ os. head_text number (line_refusal p line) (line_lag p line) ++ outputs_text (with_line p line) number os) outputs)

-- ---- a line that is run

module _ (r : ReaderState) (p : Server) (bytes : List ℕ) (number : ℕ) (counted : number ≡ (reader_after r bytes).lines) (got0 got1 : Known (List ℕ)) (waits0 waits1 : List ℕ) where
  RunsAs : Result (Option Line) LineFault → ℕ → KeptServer → Type 0
  RunsAs o n new = Represents new (after_read p o) × (Carries got0 got1 waits1 (waits0 ++ read_text p n o) × (read_ending p n o ≡ Whole))

  pub runs_line : (new : KeptServer) (line : Line) → line_of r bytes ≡ Ok (Some line) → Represents new (played p line) → Carries got0 got1 waits1 (waits0 ++ line_text p number line) → line_spends p line ≡ false
      → RunsLine r p bytes got0 got1 waits0 waits1 new
  unfolding RunsAs
  runs_line new line is stands wrote spends =
      subst (λ o. RunsAs o (reader_after r bytes).lines new) (sym is)
      (subst (λ n. RunsAs (Ok (Some line)) n new) counted (stands, (wrote, ap (λ b. if b then Spends else Whole) spends)))

  pub ends_as : (o : Result (Option Line) LineFault) (fault : PlayFault) → line_of r bytes ≡ o → Leaves got0 got1 waits1 (waits0 ++ read_text p number o) (read_ending p number o) fault
      → Leaves got0 got1 waits1 (waits0 ++ run_text r p bytes) (run_ending r p bytes) fault
  ends_as o fault is ends =
      subst (λ a. Leaves got0 got1 waits1 (waits0 ++ read_text p (reader_after r bytes).lines a) (read_ending p (reader_after r bytes).lines a) fault) (sym is)
      (subst (λ n. Leaves got0 got1 waits1 (waits0 ++ read_text p n o) (read_ending p n o) fault) counted ends)

-- ---- what a reader has read

pub reader_moved : (result : Result (Option Line) LineFault) (x : Option Line) (new after : ReaderState) → result ≡ Ok x → (result ≡ Err Memory) ⊎ (new ≡ after) → new ≡ after
reader_moved result x new after is (inl none) = absurd (cc)
reader_moved result x new after is (inr same) = same

pub ok_always : {T E : Type 0} (r : Result T E) (P : Type 0) → P → OnOk r P
ok_always (Ok x) P p = p
ok_always (Err e) P p = tt
