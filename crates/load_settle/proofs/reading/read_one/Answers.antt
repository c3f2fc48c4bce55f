use Rattle.std.proofs.Common.{sym, subst, inr, refl}
use Rattle.std.specs.Prelude.{Option, IsSomeAnd}
use Rattle.std.proofs.lemmas.Result.{on_ok_weaker, on_err_weaker}
use Rattle.guild_hub.specs.Logs.{Published}
use Rattle.load_settle.specs.Readers.{log_under, IsLogOf, SeesToEnd}
use Rattle.load_settle.proofs.Places.{is_there}
use Rattle.load_settle.proofs.reading.read_one.Goals as goal

pub place_of-place-requires : goal.place_of-place-requires
place_of-place-requires g c = record {
  ascending = c.requires.ascending;
  there = is_there (log_under c.args.reader.now.0 c.args.logs.now) (IsLogOf c.args.reader.now.1) c.requires.log;
}

pub read_to_the_end-requires : goal.read_to_the_end-requires
read_to_the_end-requires g c =
    subst (λ (o : Option Published). IsSomeAnd o (IsLogOf c.args.reader.now.1)) (c.place_of-place.ensures.under c.index-logs-place.result) c.requires.log

pub returns-clause-ok : goal.returns-clause-ok
returns-clause-ok g c =
    on_ok_weaker c.read_to_the_end.result
    (λ ends. (refl, subst (λ (o : Option Published). IsSomeAnd o (λ log. SeesToEnd log c.args.reader.now.1 c.read_to_the_end.new.reader)) (sym (c.place_of-place.ensures.under c.index-logs-place.result)) ends))
    c.read_to_the_end.ensures.ok

pub returns-clause-err : goal.returns-clause-err
returns-clause-err g c = on_err_weaker c.read_to_the_end.result (λ stays. inr (refl, stays)) c.read_to_the_end.ensures.err
