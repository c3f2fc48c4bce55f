use Rattle.std.proofs.Common.{◌≡◌, ℕ, ◌∙◌, ◌<◌, List, arith}
use Rattle.jiff_core.proofs.SignedLemmas.{signed_arith}
use Rattle.guild_model.specs.declared.moment.TheConstants.{END_OF_TIME}
use Rattle.moment_text.specs.Text.{time_text}
use Rattle.moment_text.proofs.Named.{Names, names}
use Rattle.moment_text.proofs.Instants.{is_date, is_time, nanos}
use Rattle.moment_text.proofs.reading.candidate.Goals as goal

names_of : (text : List ℕ) (m : ℕ) → m < END_OF_TIME → text ≡ time_text m → Names text m
names_of text m h e = rw e (names m h)

pub returns-then-bytes-ne32-clause-value : goal.returns-then-bytes-ne32-clause-value
returns-then-bytes-ne32-clause-value c = λ m h e. absurd (c.if-bytes-ne32.true ((names_of _ m h e).size))

pub returns-in_default-clause-value : goal.returns-in_default-clause-value
returns-in_default-clause-value c = λ m h e.
    let ok = c.in_default.ensures.succeeds.1 (is_date _ m h (names_of _ m h e)) in
    absurd cc

pub returns-in_default-time_at-clause-value : goal.returns-in_default-time_at-clause-value
returns-in_default-time_at-clause-value c = λ m h e.
    let ok = c.in_default-time_at.ensures.succeeds.1 (is_time _ m (names_of _ m h e)) in
    absurd cc

pub returns-in_default-to_timestamp-clause-value : goal.returns-in_default-to_timestamp-clause-value
returns-in_default-to_timestamp-clause-value c = λ m h e.
    let at = nanos _ m c.to_datetime.result c.in-Ok.date c.in-Ok-time_at.time (names_of _ m h e) c.to_datetime.ensures.date c.to_datetime.ensures.time c.in-Ok.ensures.value c.in-Ok-time_at.ensures.value in
    let ok = c.in_default-to_timestamp.ensures.succeeds.1 (rw at (omega (arith, signed_arith), omega (arith, signed_arith))) in
    absurd cc

pub returns-clause-value : goal.returns-clause-value
returns-clause-value c = λ m h e.
    let at = nanos _ m c.to_datetime.result c.in-Ok.date c.in-Ok-time_at.time (names_of _ m h e) c.to_datetime.ensures.date c.to_datetime.ensures.time c.in-Ok.ensures.value c.in-Ok-time_at.ensures.value in
    c.moment_at.ensures.value m h (c.in-Ok-to_timestamp.ensures.value ∙ omega (arith, signed_arith))
