use Rattle.std.proofs.Common.{◌≡◌, sym, ◌∙◌, ap}
use Rattle.guild_hub.specs.Books.{counter_of}
use Rattle.guild_hub.proofs.Marking.{loads_moves}
use Rattle.guild_hub.proofs.mark.Watch.look.Goals as goal

pub load-found-requires : goal.load-found-requires
load-found-requires c =
    let is : c.deref-word.result.now ≡ counter_of c.self.inside.seen.book = c.deref-word.ensures ∙ c.self.invariant in (
      ap (λ w. w.tracked) is,
      sym (ap (λ w. w.book) is),
      c.plain-offer.ensures.0,
      rw (ap (λ w. w.key) is) (loads_moves c.plain-offer.result.state c.self.inside.seen.log c.plain-offer.result.ask),
    )
