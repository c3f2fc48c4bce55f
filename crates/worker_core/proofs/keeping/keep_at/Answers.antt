-- The copy at a place.
use Rattle.std.proofs.Common.{◌≡◌, get_or, sym, ap, subst, ◌∙◌}
use Rattle.std.specs.Cmp.Lexicographic.{same_text}
use Rattle.collections.specs.ById.{IsById, find_id, put_id}
use Rattle.guild_model.specs.Record.{Record}
use Rattle.guild_replica.specs.Replicas.{GuildCopy}
use Rattle.worker_core.specs.InCode.{replica_id}
use Rattle.worker_core.proofs.Masks.{is_there, put_back, same_users, stands_at, still_there}
use Rattle.worker_core.proofs.keeping.keep_at.Goals as goal

pub returns-then-eq-clause-keeps : goal.returns-then-eq-clause-keeps
returns-then-eq-clause-keeps c front back r whole at =
    let x = c.index-as_slice-place.result in
    let read = c.index-as_slice-place.is ∙ ap (λ ys. get_or ys c.args.place x) c.as_slice.ensures.items in
    whole ∙ (same_users front back r x c.args.users.now (stands_at c.args.replicas.now front back r x c.args.place whole at read)
    (sym c.users.ensures ∙ same_text c.users.result.now c.args.users.now (sym (sym c.eq.ensures ∙ c.if-eq.true))))

pub exchange-replica-requires : goal.exchange-replica-requires
exchange-replica-requires c =
    let x = c.index-as_slice-place.result in
    is_there c.args.replicas.now c.args.place x c.new.result c.requires c.as_slice.ensures.ascending
    (c.index-as_slice-place.is ∙ ap (λ ys. get_or ys c.args.place x) c.as_slice.ensures.items)
    (ap (λ (k : GuildCopy). k.guild.id) c.new.ensures ∙ (ap (λ (s : Record). s.id) c.closed-empty.ensures
    ∙ (ap (λ (s : Record). s.id) c.behind-replica.view_is ∙ ap (λ (s : Record). s.id) c.guild.ensures)))

pub replace-requires : goal.replace-requires
replace-requires c =
    still_there c.args.replicas.now c.exchange-replica.new.self c.new.result c.exchange-replica.result c.keep_masks.new.self
    c.exchange-replica.ensures.given c.exchange-replica.ensures.set (ap (λ (k : GuildCopy). k.guild.id) c.in_ok-keep_masks.ensures.ok)

pub returns-clause-keeps : goal.returns-clause-keeps
returns-clause-keeps c front back r whole at =
    let x = c.index-as_slice-place.result in
    let is : x ≡ r = stands_at c.args.replicas.now front back r x c.args.place whole at (c.index-as_slice-place.is ∙ ap (λ ys. get_or ys c.args.place x) c.as_slice.ensures.items) in
    let own : replica_id c.new.result ≡ replica_id r =
    ap (λ (k : GuildCopy). k.guild.id) c.new.ensures ∙ (ap (λ (s : Record). s.id) c.closed-empty.ensures
    ∙ (ap (λ (s : Record). s.id) c.behind-replica.view_is ∙ (ap (λ (s : Record). s.id) c.guild.ensures ∙ ap replica_id is))) in
    put_back front back r c.args.users.now (subst (λ rs. IsById replica_id rs) whole c.as_slice.ensures.ascending)
    c.new.result c.exchange-replica.result c.keep_masks.new.self c.exchange-replica.new.self c.replace.new.self own
    (ap (λ rs. find_id replica_id (replica_id c.new.result) rs) (sym whole) ∙ c.exchange-replica.ensures.given)
    (c.exchange-replica.ensures.set ∙ ap (put_id replica_id c.new.result) whole) c.in_ok-keep_masks.ensures.ok c.replace.ensures
