use Rattle.std.proofs.Common.{◌≡◌, [], ◌∷◌, false, refl, subst}
use Rattle.std.proofs.lemmas.Result.{on_ok_weaker, on_err_weaker}
use Rattle.gate_outside.specs.declared.sending.Sending.TheVariants as sending
use Rattle.open_links.specs.Courses.{Gives}
use Rattle.open_links.specs.Links.{has_conn}
use Rattle.open_links.proofs.Listed.{none_follows, numbered_kept, either_way}
use Rattle.open_links.proofs.Fields.{moves, stays}
use Rattle.open_links.proofs.open_links.OpenLinks.send.Goals as goal

pub returns-in_default-clause-ok : goal.returns-in_default-clause-ok
returns-in_default-clause-ok g c =
    let none : has_conn c.args.conn c.self.inside.links.items ≡ false = subst (λ xs. has_conn c.args.conn xs ≡ false) c.as_slice.ensures.value c.in_default.ensures in
    stays ((c.args.conn, Gives (sending.Text c.args.text.now)) ∷ []) c.args.self.now c.self.inside.links.items c.self.inside.count c.self.view_is refl
    (none_follows c.self.inside.links.items c.args.conn (sending.Text c.args.text.now) none)

pub invariant_of-self : goal.invariant_of-self
invariant_of-self g c =
    either_way c.send_at.result
    (λ f. numbered_kept c.self.inside.links.items c.send_at.new.links.items c.self.inside.count f.conns c.self.invariant)
    (λ f. numbered_kept c.self.inside.links.items c.send_at.new.links.items c.self.inside.count f.conns c.self.invariant)
    c.send_at.ensures.ok c.send_at.ensures.err

pub returns-clause-ok : goal.returns-clause-ok
returns-clause-ok g c =
    on_ok_weaker c.send_at.result
    (moves ((c.args.conn, Gives (sending.Text c.args.text.now)) ∷ []) c.args.self.now c.self.inside.links.items c.send_at.new.links.items c.self.inside.count c.self.view_is refl)
    c.send_at.ensures.ok

pub returns-clause-err : goal.returns-clause-err
returns-clause-err g c =
    on_err_weaker c.send_at.result
    (moves [] c.args.self.now c.self.inside.links.items c.send_at.new.links.items c.self.inside.count c.self.view_is refl)
    c.send_at.ensures.err
