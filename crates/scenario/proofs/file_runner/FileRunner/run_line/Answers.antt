use Rattle.std.proofs.Common.{◌≡◌, ◌++◌, false, Some, Ok, refl, sym, ap, ◌∙◌, subst}
use Rattle.edit_text.specs.declared.line.Line.{Line}
use Rattle.edit_text.specs.declared.reader_state.ReaderState.{ReaderState}
use Rattle.edit_text.specs.Lines.{line_of, reader_after}
use Rattle.scenario.specs.Server.{played}
use Rattle.scenario.specs.Transcript.{line_text, line_spends, line_ending, run_text, run_ending}
use Rattle.scenario.specs.Represents.{Represents}
use Rattle.gate_outside.specs.Streams.{Carries}
use Rattle.scenario.specs.Played.{Leaves, RunsLine, IsCounted}
use Rattle.scenario.proofs.Slots.{by_result}
use Rattle.gate_outside.proofs.Fronts.{puts_front}
use Rattle.scenario.proofs.Stops.{counted_line}
use Rattle.scenario.proofs.Runs.{read_ok, runs_line, ends_as, reader_moved, ok_always}
use Rattle.scenario.proofs.file_runner.FileRunner.run_line.Goals as goal

pub returns-in-Ok-None-clause-counted : goal.returns-in-Ok-None-clause-counted
returns-in-Ok-None-clause-counted g c =
    let r : ReaderState = c.args.self.now.reader in
    let after : c.line-line.new.self ≡ reader_after r c.args.bytes.now = reader_moved (Ok c.in-Ok-None.field-0) c.in-Ok-None.field-0 c.line-line.new.self _ refl c.in-Ok-None.ensures.after in
    subst (λ (n : ReaderState). IsCounted r c.args.bytes.now n) (sym after)
    (counted_line r c.args.bytes.now c.in-Ok-None.field-0 (read_ok (Ok c.in-Ok-None.field-0) _ c.in-Ok-None.field-0 refl c.in-Ok-None.ensures.line))

pub returns-in-Ok-Some-clause-counted : goal.returns-in-Ok-Some-clause-counted
returns-in-Ok-Some-clause-counted g c =
    let r : ReaderState = c.args.self.now.reader in
    let after : c.line-line.new.self ≡ reader_after r c.args.bytes.now = reader_moved (Ok c.in-Ok-Some.field-0) c.in-Ok-Some.field-0 c.line-line.new.self _ refl c.in-Ok-Some.ensures.after in
    ok_always c.play_line.result _ (subst (λ (n : ReaderState). IsCounted r c.args.bytes.now n) (sym after)
    (counted_line r c.args.bytes.now c.in-Ok-Some.field-0 (read_ok (Ok c.in-Ok-Some.field-0) _ c.in-Ok-Some.field-0 refl c.in-Ok-Some.ensures.line)))

pub returns-in-Err-Memory-clause-runs : goal.returns-in-Err-Memory-clause-runs
returns-in-Err-Memory-clause-runs g c p stands =
    let waits = g.K.Sink.waits c.args.sink.now in
    let text = run_text c.args.self.now.reader p c.args.bytes.now in
    puts_front (g.K.Sink.got c.args.sink.now) waits text (waits ++ text) refl

pub returns-in-Ok-Some-clause-runs : goal.returns-in-Ok-Some-clause-runs
returns-in-Ok-Some-clause-runs g c p stands =
    let r : ReaderState = c.args.self.now.reader in
    let line : Line = c.in-Ok-Some.line in
    let bytes = c.args.bytes.now in
    let got0 = g.K.Sink.got c.args.sink.now in
    let got1 = g.K.Sink.got c.play_line.new.sink in
    let waits0 = g.K.Sink.waits c.args.sink.now in
    let waits1 = g.K.Sink.waits c.play_line.new.sink in
    let after : c.line-line.new.self ≡ reader_after r bytes = reader_moved (Ok c.in-Ok-Some.field-0) c.in-Ok-Some.field-0 c.line-line.new.self _ refl c.in-Ok-Some.ensures.after in
    let counted : c.lines-number.result ≡ (reader_after r bytes).lines = c.lines-number.ensures ∙ ap (λ (r : ReaderState). r.lines) after in
    let is : line_of r bytes ≡ Ok (Some line) = read_ok (Ok c.in-Ok-Some.field-0) _ c.in-Ok-Some.field-0 refl c.in-Ok-Some.ensures.line ∙ ap Ok c.in-Ok-Some.field-0-is in
    by_result c.play_line.result
    (λ _. Represents c.play_line.new.server (played p line) × (Carries got0 got1 waits1 (waits0 ++ line_text p c.lines-number.result line) × (line_spends p line ≡ false)))
    (λ _. RunsLine r p bytes got0 got1 waits0 waits1 c.play_line.new.server)
    (Leaves got0 got1 waits1 (waits0 ++ line_text p c.lines-number.result line) (line_ending p line))
    (Leaves got0 got1 waits1 (waits0 ++ run_text r p bytes) (run_ending r p bytes))
    (λ x h. runs_line r p bytes c.lines-number.result counted got0 got1 waits0 waits1 c.play_line.new.server line is h.0 h.1.0 h.1.1)
    (λ fault ends. ends_as r p bytes c.lines-number.result counted got0 got1 waits0 waits1 (Ok (Some line)) fault is ends)
    (c.play_line.ensures.plays p stands)
