use Rattle.std.proofs.Common.{◌≡◌, sym, ◌∙◌, ap}
use Rattle.guild_hub.specs.Books.{counter_of}
use Rattle.guild_hub.proofs.Marking.{stores_moves}
use Rattle.guild_hub.proofs.mark.Mark.store.Goals as goal

pub compare_exchange-requires : goal.compare_exchange-requires
compare_exchange-requires c =
    let offer = c.plain-offer.ensures in
    let pen = c.no_pen-pen.ensures in
    let seen = c.again-seen.ensures in
    let is : c.deref-word.result.now ≡ counter_of c.args.self.now.seen.book = c.deref-word.ensures ∙ c.args.self.now.word_is in (
      ap (λ w. w.tracked) is,
      ap (λ s. s.book) seen ∙ sym (ap (λ w. w.book) is),
      pen.0 ∙ (ap (λ s. s.book) seen ∙ sym (ap (λ w. w.book) is)),
      offer.0,
      rw (ap (λ w. w.key) is, pen.1) (stores_moves c.plain-offer.result.state c.again-seen.result.log c.plain-offer.result.ask),
    )
