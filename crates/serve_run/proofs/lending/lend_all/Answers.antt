use Rattle.std.proofs.Common.{map, string_bytes, Err, sym, subst, ◌∙◌, ◌<◌, length}
use Rattle.serve_run.specs.declared.ends.Returned.{Returned}
use Rattle.serve_run.specs.Parts.{LendsParts}
use Rattle.serve_run.proofs.Lent.{no_door, no_clock, all_lent}
use Rattle.serve_run.proofs.lending.lend_all.Goals as goal

pub returns-in-Err-lend_doors-clause-lends : goal.returns-in-Err-lend_doors-clause-lends
returns-in-Err-lend_doors-clause-lends g c =
    let p : Returned g.row.H-In.Denot g.row.H-Gate.Denot g.row.H-Time.Denot = record { sources = c.lend_sources.new.sources; doors = c.lend_doors.new.doors; clocks = c.args.parts.now.clocks } in
    let files = map string_bytes c.args.files.now in
    let old = g.H.Dial.house_tale c.args.house.now in
    let now = g.H.Dial.house_tale c.lend_doors.new.house in
    subst (λ f. LendsParts g.H.In.Source.left g.H.In.Source.faults g.H.Gate.Door.tale g.H.Gate.Door.faults g.H.Time.Clock.tale c.args.port c.args.workers c.args.accepts files old now p (Err f)) (sym c.refused-in-Err-lend_doors.ensures)
    (no_door g.H.In.Source.left g.H.In.Source.faults g.H.Gate.Door.tale g.H.Gate.Door.faults g.H.Time.Clock.tale c.args.port c.args.workers c.args.accepts files old p
    (g.H.Dial.house_tale c.lend_sources.new.house) c.in_default.ensures.lends now c.in-Err-lend_doors.fault c.in-Err-lend_doors.ensures.lends c.requires.room.clocks.0)

pub returns-in-Ok-clause-lends : goal.returns-in-Ok-clause-lends
returns-in-Ok-clause-lends g c =
    let p : Returned g.row.H-In.Denot g.row.H-Gate.Denot g.row.H-Time.Denot = record { sources = c.lend_sources.new.sources; doors = c.lend_doors.new.doors; clocks = c.lend_clocks.new.clocks } in
    all_lent g.H.In.Source.left g.H.In.Source.faults g.H.Gate.Door.tale g.H.Gate.Door.faults g.H.Time.Clock.tale c.args.port c.args.workers c.args.accepts (map string_bytes c.args.files.now) (g.H.Dial.house_tale c.args.house.now) p
    (g.H.Dial.house_tale c.lend_sources.new.house) c.in_default.ensures.lends (g.H.Dial.house_tale c.lend_doors.new.house) c.in_default-lend_doors.ensures.lends
    (g.H.Dial.house_tale c.lend_clocks.new.house) c.in-Ok.ensures.asks (c.in-Ok.ensures.each ∙ c.from.ensures) c.in-Ok.ensures.fresh

pub returns-in-Err-lend_clocks-clause-lends : goal.returns-in-Err-lend_clocks-clause-lends
returns-in-Err-lend_clocks-clause-lends g c =
    let p : Returned g.row.H-In.Denot g.row.H-Gate.Denot g.row.H-Time.Denot = record { sources = c.lend_sources.new.sources; doors = c.lend_doors.new.doors; clocks = c.lend_clocks.new.clocks } in
    let fewer : length p.clocks.items < c.args.workers = subst (λ n. length p.clocks.items < n) c.from.ensures c.in-Err-lend_clocks.ensures.fewer in
    no_clock g.H.In.Source.left g.H.In.Source.faults g.H.Gate.Door.tale g.H.Gate.Door.faults g.H.Time.Clock.tale c.args.port c.args.workers c.args.accepts (map string_bytes c.args.files.now) (g.H.Dial.house_tale c.args.house.now) p
    (g.H.Dial.house_tale c.lend_sources.new.house) c.in_default.ensures.lends (g.H.Dial.house_tale c.lend_doors.new.house) c.in_default-lend_doors.ensures.lends
    (g.H.Dial.house_tale c.lend_clocks.new.house) c.in-Err-lend_clocks.ensures.asks fewer
