use Rattle.std.proofs.Common.{◌≡◌, ℕ, Some, sym, ap, subst, ◌∙◌}
use Rattle.std.specs.Prelude.{slice_get}
use Rattle.std.specs.Option.{option_copied}
use Rattle.std.proofs.lemmas.Bool.{eqb-true}
use Rattle.guild_model.specs.Record.{Record}
use Rattle.mask_cache.specs.Masks.{MasksOf}
use Rattle.guild_replica.proofs.Served.{user-at}
use Rattle.guild_replica.proofs.replica.Replica.masks_at.Goals as goal

pub returns-then-eq : goal.returns-then-eq
returns-then-eq c =
    let list = c.self.inside.masks.items in
    let masks = c.in-Some-Some.masks in
    let found : slice_get list c.args.index ≡ Some (Some masks) =
    sym (rw c.as_slice.ensures.value at c.masks_under.ensures) ∙ (ap option_copied c.in-Some-Some.is ∙ ap (λ o. Some o) c.in-Some-Some.field-0-is) in
    let user : masks.user ≡ c.args.user = sym c.user.ensures ∙ eqb-true c.user.result c.args.user (sym c.eq.ensures ∙ c.if-eq.true) in
    subst (λ (s : Record). MasksOf s c.args.user masks) (ap (λ r. r.guild) c.self.view_is)
    (subst (λ (u : ℕ). MasksOf c.self.inside.guild u masks) user (user-at c.self.inside.guild c.self.inside.users.items list c.args.index masks c.self.invariant found))
