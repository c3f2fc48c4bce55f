use Rattle.std.proofs.Common.{◌≡◌, ◌==◌, List, map, ap, ◌∙◌}
use Rattle.std.specs.List.{find}
use Rattle.guild_model.specs.declared.member.Member.{Member}
use Rattle.dispatch_types.specs.Objects.{member_of}
use Rattle.client_cache.proofs.Synced.{own_found}
use Rattle.client_cache.proofs.guild.told_members.Goals as goal

pub returns-clause-own : goal.returns-clause-own
returns-clause-own c =
    let members : c.as_slice.result.now ≡ map member_of c.args.objects = c.as_slice.ensures.value ∙ (c.in_ok-members.ensures ∙ ap (map member_of) c.into_vec.ensures) in
    c.in_ok-me.ensures ∙ (ap (λ (ms : List Member). find (λ (m : Member). m.user.id == c.args.fold.now.bot) ms) members ∙ own_found c.args.fold.now.bot c.args.objects)
