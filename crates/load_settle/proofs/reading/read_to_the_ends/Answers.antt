use Rattle.std.proofs.Common.{sym, subst, inl, inr, refl}
use Rattle.load_settle.specs.Readers.{HasLog, ReachesEnd, ReachesEndOrStays}
use Rattle.load_settle.proofs.Ends.{stays_itself}
use Rattle.load_settle.proofs.Turns.{turn_of, done_more, done_all, failed_at, on_err}
use Rattle.load_settle.proofs.reading.read_to_the_ends.Goals as goal

pub read_one-requires : goal.read_one-requires
read_one-requires g c = record {
  ascending = c.requires.ascending;
  log = subst (HasLog c.args.logs.now) (sym (turn_of (ReachesEnd c.args.logs.now) c.loop-reader.reader-index c.args.readers.now c.loop-reader.readers _ c.loop-reader.invariant)) (c.requires.logs c.loop-reader.reader-index _ c.loop-reader-test.true);
}

pub loop-reader-preserved : goal.loop-reader-preserved
loop-reader-preserved g c =
    let logs = c.args.logs.now in
    let was = turn_of (ReachesEnd logs) c.loop-reader.reader-index c.args.readers.now c.loop-reader.readers c.reader-item.result c.loop-reader.invariant in
    done_more (ReachesEnd logs) c.loop-reader.reader-index c.args.readers.now c.loop-reader.readers c.read_one.new.reader c.reader-item.result c.loop-reader-test.true c.loop-reader.invariant (subst (λ r. ReachesEnd logs r c.read_one.new.reader) was c.in_ok-read_one.ensures.ok)

pub returns-clause-ok : goal.returns-clause-ok
returns-clause-ok g c = done_all (ReachesEnd c.args.logs.now) c.loop-reader.reader-index c.args.readers.now c.loop-reader.readers c.loop-reader-test.false c.loop-reader.invariant

pub returns-in_err-read_one-clause-err : goal.returns-in_err-read_one-clause-err
returns-in_err-read_one-clause-err g c =
    on_err c.from_residual.result (failed_at (ReachesEnd c.args.logs.now) (ReachesEndOrStays c.args.logs.now) (λ r. inr (refl, stays_itself r.1)) (λ r s ends. inl ends) c.loop-reader.reader-index c.args.readers.now c.loop-reader.readers c.read_one.new.reader c.reader-item.result c.loop-reader-test.true c.loop-reader.invariant c.in_err-read_one.ensures.err)
