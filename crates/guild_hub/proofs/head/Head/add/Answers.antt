use Rattle.std.proofs.Common.{◌≡◌, ◌∙◌, ◌∷◌, [], false, length, ap, sym, arith}
use Rattle.std.proofs.lemmas.List.{length-append}
use Rattle.guild_hub.specs.Logs.{Published}
use Rattle.guild_hub.specs.Items.{edits_of, has_seal}
use Rattle.guild_hub.proofs.Histories.{all_entries, entry_more, entry_told}
use Rattle.guild_hub.proofs.head.Head.add.Goals as goal

pub advance-requires-clause-count : goal.advance-requires-clause-count
advance-requires-clause-count c =
    let log = c.self.inside.seen.log in
    let unsealed : has_seal log ≡ false = ap (λ (p : Published). p.sealed) c.self.view_is ∙ c.requires.0 in
    let short = c.requires.1 in
    let same = ap (λ (p : Published). length p.entries) c.self.view_is in (
      omega (arith, c.self.invariant.1, all_entries log c.self.invariant.0 unsealed),
      omega (arith, c.self.invariant.1, same, short),
    )

pub advance-requires-clause-legal : goal.advance-requires-clause-legal
advance-requires-clause-legal c =
    let log = c.self.inside.seen.log in
    let unsealed : has_seal log ≡ false = ap (λ (p : Published). p.sealed) c.self.view_is ∙ c.requires.0 in
    (entry_more log c.args.edit.now c.self.invariant.0 unsealed).0

pub invariant_of-drop : goal.invariant_of-drop
invariant_of-drop c =
    let log = c.self.inside.seen.log in
    let unsealed : has_seal log ≡ false = ap (λ (p : Published). p.sealed) c.self.view_is ∙ c.requires.0 in
    let more = entry_more log c.args.edit.now c.self.invariant.0 unsealed in
    let now = c.in-Some.ensures.1 in (
      c.in-Some.ensures.2,
      omega (arith, c.self.invariant.1, ap (λ l. length (edits_of l)) now, ap length more.1, length-append (edits_of log) (c.args.edit.now ∷ [])),
      sym (ap has_seal now ∙ more.2),
    )

pub returns : goal.returns
returns c =
    let log = c.self.inside.seen.log in
    let unsealed : has_seal log ≡ false = ap (λ (p : Published). p.sealed) c.self.view_is ∙ c.requires.0 in
    rw (c.in-Some.ensures.0, c.in-Some.ensures.1, ← c.self.view_is) (entry_told c.self.inside.guild c.self.inside.seen.book log c.args.edit.now c.self.invariant.0 unsealed)
