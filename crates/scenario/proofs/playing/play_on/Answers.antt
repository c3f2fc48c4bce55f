use Rattle.std.proofs.Common.{◌≡◌, List, [], ◌++◌, ℕ, refl, sym, subst, ap, ◌∙◌, append-nil, arith}
use Rattle.std.specs.Io.KnownBytes.{Consumes}
use Rattle.std.proofs.KnownBytes.{Consumes-trans, Consumes-kept}
use Rattle.std.proofs.lemmas.Grind.{common_steps}
use Rattle.std.proofs.lemmas.Result.{err_from_is_err_and}
use Rattle.scenario.specs.declared.fault.PlayFault.TheVariants.{Read}
use Rattle.scenario.specs.Played.{Written, StopsAt, Anything}
use Rattle.scenario.proofs.Plays.{plays_to, plays_end, plays_lines, plays_err}
use Rattle.scenario.proofs.playing.play_on.Goals as goal

pub loop-play-init : goal.loop-play-init
loop-play-init g c = record {
  plays = ([], c.in_ok-fill.ensures.bytes, subst (λ (waits : List ℕ). Written (g.K.Sink.got c.args.sink.now) (g.K.Sink.got c.args.sink.now) waits c.new-play.result []) (sym c.requires) (c.new-play.ensures.plays (g.K.Sink.got c.args.sink.now)));
  at_end = c.in_ok-fill.ensures.end;
  ended = c.in_ok-fill.ensures.found;
  fits = c.new-play.ensures.fits;
  reads = c.in_ok-fill.ensures.cause.ok;
  writes = refl;
}

pub loop-play-preserved : goal.loop-play-preserved
loop-play-preserved g c =
    record {
      plays =
          let p = c.loop-play.invariant.plays in
          let fed : Written (g.K.Sink.got c.args.sink.now) (g.K.Sink.got c.feed.new.sink) (g.K.Sink.waits c.feed.new.sink) c.feed.new.self (p.0 ++ c.bytes-in-loop-play.result.now) =
          c.in_ok-feed.ensures.plays (g.K.Sink.got c.args.sink.now) p.0 p.2.playing in (
            p.0 ++ c.loop-play.piece,
            Consumes-trans _ _ _ (p.0 ++ c.loop-play.piece) c.fill-in-loop-play.new.self p.1 c.in_ok-fill-2.ensures.bytes,
            rw c.bytes-in-loop-play.ensures at fed,
          );
      at_end = c.in_ok-fill-2.ensures.end;
      ended = c.in_ok-fill-2.ensures.found;
      fits = (c.in_ok-feed.ensures.room c.loop-play.invariant.fits).0;
      reads = c.in_ok-fill-2.ensures.cause.ok ∙ c.loop-play.invariant.reads;
      writes = c.in_ok-feed.ensures.cause ∙ c.loop-play.invariant.writes;
    }

pub returns-in_err-feed-clause-plays : goal.returns-in_err-feed-clause-plays
returns-in_err-feed-clause-plays g c =
    let p = c.loop-play.invariant.plays in
    let e = err_from_is_err_and c.from_residual-in_err-feed.result c.from_residual-in_err-feed.ensures.1 in
    let stops : StopsAt (g.K.Sink.got c.args.sink.now) (g.K.Sink.got c.feed.new.sink) (p.0 ++ c.bytes-in-loop-play.result.now) Anything c.in_err-feed.field-0.0 =
    c.in_err-feed.ensures.plays (g.K.Sink.got c.args.sink.now) p.0 p.2.playing in
    plays_err _ _ _ _ c.from_residual-in_err-feed.result e.0 c.in_err-feed.field-0.0 e.1 e.2
    (plays_to c.in_err-feed.field-0.0 (g.S.Source.left c.args.source.now) (g.S.Source.left c.loop-play.source) (g.K.Sink.got c.args.sink.now) (g.K.Sink.got c.feed.new.sink)
    (p.0 ++ c.loop-play.piece) p.1 (rw c.bytes-in-loop-play.ensures at stops))

pub returns-in_err-fill-2-clause-plays : goal.returns-in_err-fill-2-clause-plays
returns-in_err-fill-2-clause-plays g c =
    let p = c.loop-play.invariant.plays in
    let e = err_from_is_err_and c.from_residual-in_err-fill-2.result c.from_residual-in_err-fill-2.ensures.1 in
    let read : Consumes (g.S.Source.left c.args.source.now) (g.S.Source.left c.fill-in-loop-play.new.source) (p.0 ++ c.loop-play.piece) =
    Consumes-kept _ _ _ (p.0 ++ c.loop-play.piece) p.1 c.in_err-fill-2.ensures.keeps in
    let fed : Written (g.K.Sink.got c.args.sink.now) (g.K.Sink.got c.feed.new.sink) (g.K.Sink.waits c.feed.new.sink) c.feed.new.self (p.0 ++ c.bytes-in-loop-play.result.now) =
    c.in_ok-feed.ensures.plays (g.K.Sink.got c.args.sink.now) p.0 p.2.playing in
    plays_err _ _ _ _ c.from_residual-in_err-fill-2.result e.0 Read e.1 e.2
    (plays_lines (g.S.Source.left c.args.source.now) (g.S.Source.left c.fill-in-loop-play.new.source) (g.K.Sink.got c.args.sink.now) (g.K.Sink.got c.feed.new.sink)
    (g.K.Sink.waits c.feed.new.sink) c.feed.new.self (p.0 ++ c.loop-play.piece) read (rw c.bytes-in-loop-play.ensures at fed))

pub returns-clause-plays : goal.returns-clause-plays
returns-clause-plays g c =
    let p = c.loop-play.invariant.plays in
    let empty : c.loop-play.piece ≡ [] = grind (arith, common_steps) in
    let read : Consumes (g.S.Source.left c.args.source.now) (g.S.Source.left c.loop-play.source) p.0 =
    subst (λ (l : List ℕ). Consumes (g.S.Source.left c.args.source.now) (g.S.Source.left c.loop-play.source) l) (ap (λ (l : List ℕ). p.0 ++ l) empty ∙ append-nil p.0) p.1 in
    plays_end (g.S.Source.left c.args.source.now) (g.S.Source.left c.loop-play.source) (g.K.Sink.got c.args.sink.now) (g.K.Sink.got c.finish.new.sink) c.finish.result p.0 read
    (c.loop-play.invariant.at_end empty) (c.finish.ensures.plays (g.K.Sink.got c.args.sink.now) p.0 p.2.playing)
