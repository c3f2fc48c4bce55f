use Rattle.std.proofs.Common.{◌≡◌, [], drop, replicate}
use Rattle.left_right.specs.Sides.{view}
use Rattle.guild_hub.specs.Sights.{seeing, unseen, watching}
use Rattle.guild_hub.proofs.new_hub.readers_of.Given as goal

abbrev pub invariant-loop : goal.invariant-loop
invariant-loop l = record {
  shown : l.writer.desk.shown ≡ l.fn.writer.desk.shown;
  rest : drop l.writer.behind l.writer.log.items ≡ drop l.fn.writer.behind l.fn.writer.log.items;
  knows : view l.writer.desk.place ≡ view l.fn.writer.desk.place;
  unseen : l.readers.items ≡ replicate l.counter (seeing (unseen l.note.hub) l.note [] (watching l.mark.seen.book []));
}
