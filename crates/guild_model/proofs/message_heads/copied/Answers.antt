use Rattle.std.proofs.Common.{◌≡◌, ◌∷◌, ◌++◌, sym, ap, ◌∙◌}
use Rattle.guild_model.proofs.Copies.{copied_one}
use Rattle.guild_model.proofs.message_heads.copied.Goals as goal

pub loop-id-preserved : goal.loop-id-preserved
loop-id-preserved c =
    let whole : c.loop-id.copy.entries ++ (c.in-Some.id.now, c.in-Some.head.now) ∷ c.next.new.self ≡ c.args.heads.now.entries =
    ap (λ xs. c.loop-id.copy.entries ++ xs) (sym c.in-Some.ensures.steps) ∙ c.loop-id.invariant.0 in
    rw (c.demote.ensures.entries, c.in_ok-put.ensures.entries, c.in_ok-duplicate.ensures)
    (copied_one c.loop-id.copy c.next.new.self c.args.heads.now.entries (c.in-Some.id.now, c.in-Some.head.now) c.requires.index c.requires.few c.loop-id.invariant.1 whole, c.loop-id.invariant.1)
