use Rattle.std.proofs.Common.{◌≡◌, [], true, false, sym, arith}
use Rattle.json.specs.Value.{value_view}
use Rattle.json_view.proofs.NodeReadings.{read_whole}
use Rattle.json_view.proofs.node_reading.document_of.Goals as goal

pub returns-then-in_range : goal.returns-then-in_range
returns-then-in_range c =
    let none : c.read.new.reader ≡ [] = grind arith in
    sym (read_whole c.args.text.now (value_view c.in-Ok.value) c.read.new.reader true (rw c.in_ok-reader.ensures.ok at c.in-Ok.ensures.ok) none (sym c.if-in_range.ensures))

pub returns : goal.returns
returns c =
    let none : c.read.new.reader ≡ [] = grind arith in
    sym (read_whole c.args.text.now (value_view c.in-Ok.value) c.read.new.reader false (rw c.in_ok-reader.ensures.ok at c.in-Ok.ensures.ok) none (sym c.if-in_range.ensures))
