use Rattle.std.proofs.Common.{◌≡◌, [], ◌∷◌, false, refl, sym, subst}
use Rattle.gate_outside.specs.declared.sending.Sending.TheVariants as sending
use Rattle.open_links.specs.Courses.{Gives}
use Rattle.open_links.specs.Links.{Holding, has_conn, no_held, AreNumbered}
use Rattle.open_links.specs.Steps.{StandsAt}
use Rattle.open_links.specs.Calls.{GoesBy, IsGoneOrFailed, is_done}
use Rattle.open_links.proofs.Listed.{none_follows, numbered_kept, by_conns, stands_kept, removed_lacks, lacks_all, stands_failed, at_err}
use Rattle.open_links.proofs.Meeting.{numbered_removed}
use Rattle.open_links.proofs.Fields.{holding, moves, stays, closes}
use Rattle.open_links.proofs.open_links.OpenLinks.close.Goals as goal

pub returns-in_default-clause-ok : goal.returns-in_default-clause-ok
returns-in_default-clause-ok g c =
    let none : has_conn c.args.conn c.self.inside.links.items ≡ false = subst (λ xs. has_conn c.args.conn xs ≡ false) c.as_slice.ensures.value c.in_default.ensures in
    λ es before m.
    stays ((c.args.conn, Gives (sending.Close c.args.code)) ∷ []) c.args.self.now c.self.inside.links.items c.self.inside.count c.self.view_is refl
    (none_follows c.self.inside.links.items c.args.conn (sending.Close c.args.code) none) es before _ m

pub invariant_of-self : goal.invariant_of-self
invariant_of-self g c = numbered_kept c.self.inside.links.items c.close_at.new.links.items c.self.inside.count c.in_err-close_at.ensures.err.conns c.self.invariant

pub returns-in_err-close_at-clause-err : goal.returns-in_err-close_at-clause-err
returns-in_err-close_at-clause-err g c =
    at_err c.from_residual.result
    (λ es before m. moves [] c.args.self.now c.self.inside.links.items c.close_at.new.links.items c.self.inside.count c.self.view_is refl c.in_err-close_at.ensures.err es before _ m)

pub invariant_of-self-then-branch : goal.invariant_of-self-then-branch
invariant_of-self-then-branch g c =
    subst (λ xs. AreNumbered xs c.self.inside.count) (sym c.give_at.ensures.items)
    (numbered_removed c.close_at.new.links.items c.in-Some.place c.self.inside.count
    (numbered_kept c.self.inside.links.items c.close_at.new.links.items c.self.inside.count c.in_ok-close_at.ensures.ok.conns c.self.invariant))

pub invariant_of-self-else-branch : goal.invariant_of-self-else-branch
invariant_of-self-else-branch g c = numbered_kept c.self.inside.links.items c.close_at.new.links.items c.self.inside.count c.in_ok-close_at.ensures.ok.conns c.self.invariant

pub returns-then-branch-clause-ok : goal.returns-then-branch-clause-ok
returns-then-branch-clause-ok g c =
    let stands : StandsAt c.in-Some.place c.args.conn c.self.inside.links.items = subst (λ xs. StandsAt c.in-Some.place c.args.conn xs) c.as_slice.ensures.value c.in-Some.ensures in
    subst (λ xs. GoesBy ((c.args.conn, Gives (sending.Close c.args.code)) ∷ []) c.args.self.now (g.D.Door.tale c.args.door.now).returned (holding xs c.self.inside.count) (g.D.Door.tale c.give_at.new.door).returned)
    (sym c.give_at.ensures.items)
    (closes c.args.conn c.args.code c.args.self.now c.self.inside.links.items c.close_at.new.links.items c.self.inside.count c.in-Some.place no_held _ _ c.self.view_is stands c.in_ok-close_at.ensures.ok (c.give_at.ensures.returned no_held))

pub returns-else-branch-clause-ok : goal.returns-else-branch-clause-ok
returns-else-branch-clause-ok g c = λ es before m.
    moves ((c.args.conn, Gives (sending.Close c.args.code)) ∷ []) c.args.self.now c.self.inside.links.items c.close_at.new.links.items c.self.inside.count c.self.view_is refl c.in_ok-close_at.ensures.ok es before _ m

pub returns-in_default-clause-gone : goal.returns-in_default-clause-gone
returns-in_default-clause-gone g c = λ used.
    let none : has_conn c.args.conn c.self.inside.links.items ≡ false = subst (λ xs. has_conn c.args.conn xs ≡ false) c.as_slice.ensures.value c.in_default.ensures in
    subst (λ (h : Holding). IsGoneOrFailed c.args.conn h.links) c.self.view_is (lacks_all c.args.conn c.self.inside.links.items none)

pub returns-then-branch-clause-gone : goal.returns-then-branch-clause-gone
returns-then-branch-clause-gone g c = λ used.
    let f = c.in_ok-close_at.ensures.ok in
    let stands : StandsAt c.in-Some.place c.args.conn c.self.inside.links.items = subst (λ xs. StandsAt c.in-Some.place c.args.conn xs) c.as_slice.ensures.value c.in-Some.ensures in
    subst (λ xs. IsGoneOrFailed c.args.conn xs) (sym c.give_at.ensures.items)
    (lacks_all c.args.conn _
    (removed_lacks c.close_at.new.links.items c.in-Some.place c.args.conn (by_conns c.self.inside.links.items c.close_at.new.links.items f.conns c.self.invariant.ascend)
    (stands_kept c.self.inside.links.items c.close_at.new.links.items c.in-Some.place c.args.conn f.conns stands)))

pub returns-else-branch-clause-gone : goal.returns-else-branch-clause-gone
returns-else-branch-clause-gone g c = λ used.
    let stands : StandsAt c.in-Some.place c.args.conn c.self.inside.links.items = subst (λ xs. StandsAt c.in-Some.place c.args.conn xs) c.as_slice.ensures.value c.in-Some.ensures in
    stands_failed c.self.inside.links.items c.close_at.new.links.items c.in-Some.place c.args.conn c.self.invariant.ascend stands c.in_ok-close_at.ensures.ok.conns
    (subst (λ (h : Holding). is_done c.args.conn h.links ≡ false) (sym c.self.view_is) used) (c.in_ok-close_at.ensures.failed c.if-branch.false)
