use Rattle.std.proofs.Common.{◌≡◌, Option, Some, None, sym, ap, subst, ◌∙◌}
use Rattle.std.specs.Prelude.{◌==◌, ◌&&◌, false, is_some, IfSome, position, slice_get}
use Rattle.std.specs.Option.{option_copied}
use Rattle.collections.specs.ById.{has_id}
use Rattle.guild_model.specs.Record.{member_id}
use Rattle.dispatch_types.specs.Fold.{contains}
use Rattle.mask_cache.specs.Masks.{UserMasks, MasksOf}
use Rattle.guild_replica.specs.Replicas.{AreKept, GuildCopy}
use Rattle.guild_replica.proofs.Served.{is_none_of, is_there, is_among, if-lent, kept-at, kept-past, lent-if, lent-of, not-lent}
use Rattle.guild_replica.proofs.replica.Replica.masks.Goals as goal

pub returns-in_default-clause-there : goal.returns-in_default-clause-there
returns-in_default-clause-there c =
    let users = c.self.inside.users.items in
    let user = c.args.user in
    let nowhere : position (λ one. one == user) users ≡ None = sym (rw c.as_slice.ensures.value at c.index_of.ensures) ∙ c.in_default.is in
    subst (λ (r : GuildCopy). false ≡ ((r.guild.opened && has_id member_id user r.guild.members) && contains user r.users)) c.self.view_is
    (not-lent c.self.inside.guild users user (is_none_of user users nowhere))

pub returns-in_default-masks_under-clause-there : goal.returns-in_default-masks_under-clause-there
returns-in_default-masks_under-clause-there c =
    let users = c.self.inside.users.items in
    let list = c.self.inside.masks.items in
    let user = c.args.user in
    let index = c.in-Some.index in
    let there : slice_get users index ≡ Some user = is_there user users index (sym (rw c.as_slice.ensures.value at c.index_of.ensures) ∙ c.in-Some.is) in
    let past : slice_get list index ≡ None = sym (rw c.as_slice-2.ensures.value at c.masks_under.ensures) ∙ ap option_copied c.in_default-masks_under.is in
    absurd (kept-past c.self.inside.guild users list index user c.self.invariant there past)

pub returns-clause-lent : goal.returns-clause-lent
returns-clause-lent c =
    let users = c.self.inside.users.items in
    let list = c.self.inside.masks.items in
    let user = c.args.user in
    let index = c.in-Some.index in
    let one = c.in-Some-masks_under.kept.now in
    let there : slice_get users index ≡ Some user = is_there user users index (sym (rw c.as_slice.ensures.value at c.index_of.ensures) ∙ c.in-Some.is) in
    let found : slice_get list index ≡ Some one = sym (rw c.as_slice-2.ensures.value at c.masks_under.ensures) ∙ ap option_copied c.in-Some-masks_under.is in
    let kept : AreKept c.self.inside.guild user one = kept-at c.self.inside.guild users list index user one c.self.invariant there found in
    let lent : IfSome one (MasksOf c.self.inside.guild user) = lent-of c.self.inside.guild user one kept in
    subst (λ (r : GuildCopy). IfSome c.as_ref.result (λ masks. MasksOf r.guild user masks.now)) c.self.view_is
    (if-lent (MasksOf c.self.inside.guild user) c.as_ref.result (subst (λ (o : Option UserMasks). IfSome o (MasksOf c.self.inside.guild user)) (sym c.as_ref.ensures.value) lent))

pub returns-clause-there : goal.returns-clause-there
returns-clause-there c =
    let users = c.self.inside.users.items in
    let list = c.self.inside.masks.items in
    let user = c.args.user in
    let index = c.in-Some.index in
    let one = c.in-Some-masks_under.kept.now in
    let there : slice_get users index ≡ Some user = is_there user users index (sym (rw c.as_slice.ensures.value at c.index_of.ensures) ∙ c.in-Some.is) in
    let found : slice_get list index ≡ Some one = sym (rw c.as_slice-2.ensures.value at c.masks_under.ensures) ∙ ap option_copied c.in-Some-masks_under.is in
    let kept : AreKept c.self.inside.guild user one = kept-at c.self.inside.guild users list index user one c.self.invariant there found in
    subst (λ (r : GuildCopy). is_some c.as_ref.result ≡ ((r.guild.opened && has_id member_id user r.guild.members) && contains user r.users)) c.self.view_is
    (c.as_ref.ensures.variant ∙ lent-if c.self.inside.guild users user one kept (is_among user users index there))
