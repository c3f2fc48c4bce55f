use Rattle.std.proofs.Common.{◌≤◌, List, ℕ, ◌∙◌, sym, ap, length, arith}
use Rattle.std.proofs.lemmas.List.{drop_all}
use Rattle.client_cache.specs.Settled.{purged_at}
use Rattle.client_cache.proofs.guilds.purge_at.Goals as goal

pub returns : goal.returns
returns c =
    let le : length c.args.guilds.now ≤ c.loop-guild.guild-index = omega (arith, c.loop-guild-test.false) in
    sym (ap (λ (ids : List ℕ). purged_at ids c.loop-guild.entries) (drop_all c.loop-guild.guild-index c.args.guilds.now le)) ∙ c.loop-guild.invariant
