use Rattle.std.proofs.Common.{◌≡◌, ◌∙◌, ◌∷◌, [], false, length, ap, sym, arith}
use Rattle.std.proofs.lemmas.List.{length-append}
use Rattle.guild_hub.specs.Logs.{Published, with_entry}
use Rattle.guild_hub.specs.Writes.{Publishing}
use Rattle.guild_hub.proofs.writer.HubWriter.add.Goals as goal

pub invariant_of-self-2 : goal.invariant_of-self-2
invariant_of-self-2 g c =
    let log = c.self.inside.note in
    let edit = c.args.edit.now in
    let unspent : c.self.inside.spent ≡ false = ap (λ (p : Publishing). p.spent) c.self.view_is ∙ c.requires.0 in
    let was = c.self.invariant.2 unspent in
    let now : c.again-note.result ≡ with_entry log edit = c.again-note.ensures ∙ (c.if-not-add.ensures ∙ ap (λ l. with_entry l edit) was.0) in
    let same = ap (λ (p : Publishing). length p.log.entries) c.self.view_is in (
      ap (λ (p : Published). p.sealed) now ∙ c.self.invariant.0,
      omega (arith, ap (λ (p : Published). length p.entries) now, length-append log.entries (edit ∷ []), same, c.requires.1),
      λ free. (sym c.again-note.ensures, c.in_ok-replace_with.ensures.0 ∙ c.again.ensures, c.in_ok-replace_with.ensures.1, c.in_ok-replace_with.ensures.2),
    )
