use Rattle.std.proofs.Common.{◌≡◌, ◌≢◌, ◌<◌, ◌≤◌, [], ℕ, Bool, true, false, refl, sym, ap, ◌∙◌, subst, arith, length}
use Rattle.std.specs.Vec.{vec_len}
use Rattle.collections.specs.ById.{count_below}
use Rattle.collections.proofs.Ids.{count_le}
use Rattle.open_links.specs.Links.{Holding, held_conn, has_conn, no_held}
use Rattle.open_links.proofs.Listed.{none_from, none_below, first_from, numbered_kept, at_err, conns_heard, stands_below, stands_there}
use Rattle.open_links.proofs.Fields.{moves, says}
use Rattle.open_links.proofs.open_links.OpenLinks.hear_from.Goals as goal
use Rattle.open_links.proofs.open_links.OpenLinks.hear_from.Goals.{After-place_of-place}

place_is : (g : _) (c : After-place_of-place g) → c.place_of-place.result ≡ count_below held_conn c.args.from c.self.inside.links.items
place_is g c = c.place_of-place.ensures ∙ ap (count_below held_conn c.args.from) c.as_slice.ensures.value

size : (g : _) (c : After-place_of-place g) → length c.self.inside.links.items ≡ vec_len c.self.inside.links
size g c = ap length (sym c.as_slice.ensures.value) ∙ c.as_slice.ensures.len

pub returns-then-place-len-clause-ok : goal.returns-then-place-len-clause-ok
returns-then-place-len-clause-ok g c =
    let before = (goal.at.returns-then-place-len-clause-ok g c).After-place_of-place in
    let all : count_below held_conn c.args.from c.self.inside.links.items ≡ length c.self.inside.links.items =
    sym (place_is g before) ∙ c.if-place-len.true ∙ c.len.ensures ∙ sym (size g before) in
    (refl, λ conn le. subst (λ (h : Holding). has_conn conn h.links ≡ false) c.self.view_is (none_from c.args.from conn c.self.inside.links.items all le))

pub ask_at-requires-clause-within : goal.ask_at-requires-clause-within
ask_at-requires-clause-within g c =
    let before = (goal.at.ask_at-requires-clause-within g c).After-place_of-place in
    let most : c.place_of-place.result ≤ length c.self.inside.links.items =
    subst (λ n. n ≤ length c.self.inside.links.items) (sym (place_is g before)) (count_le held_conn c.args.from c.self.inside.links.items) in
    let other : c.place_of-place.result ≢ length c.self.inside.links.items = λ e. c.if-place-len.false (e ∙ size g before ∙ sym c.len.ensures) in
    omega (arith, most, other)

pub invariant_of-self : goal.invariant_of-self
invariant_of-self g c = numbered_kept c.self.inside.links.items c.ask_at.new.links.items c.self.inside.count c.in_err-ask_at.ensures.err.conns c.self.invariant

pub returns-in_err-ask_at-clause-err : goal.returns-in_err-ask_at-clause-err
returns-in_err-ask_at-clause-err g c =
    at_err c.from_residual.result
    (ap (λ (h : Holding). h.count) c.self.view_is, moves [] c.args.self.now c.self.inside.links.items c.ask_at.new.links.items c.self.inside.count c.self.view_is refl c.in_err-ask_at.ensures.err)

pub invariant_of-self-2 : goal.invariant_of-self-2
invariant_of-self-2 g c =
    numbered_kept c.self.inside.links.items c.ask_at.new.links.items c.self.inside.count
    (conns_heard c.in_ok-ask_at.field-0.conn c.in_ok-ask_at.field-0.word c.self.inside.links.items c.ask_at.new.links.items c.in_ok-ask_at.ensures.ok.hears) c.self.invariant

pub returns-clause-ok : goal.returns-clause-ok
returns-clause-ok g c =
    let heard = c.in_ok-ask_at.ensures.ok in
    let links = c.self.inside.links.items in
    let count = ap (λ (h : Holding). h.count) c.self.view_is in
    let place = c.place_of-place.result in
    let conn = c.in_ok-ask_at.field-0.conn in
    let is_place = place_is g (goal.at.returns-clause-ok g c).After-place_of-place in
    let held : (n : ℕ) (b : Bool) → has_conn n links ≡ b → has_conn n c.args.self.now.links ≡ b = λ n b e. subst (λ (h : Holding). has_conn n h.links ≡ b) c.self.view_is e in
    record {
      least = subst (λ n. c.args.from ≤ n) (heard.stands.numbered no_held) (first_from c.args.from links place no_held is_place heard.stands.within);
      is_open = held conn true (stands_there links place conn heard.stands);
      first = λ n le below.
          held n false (none_below c.args.from n links place no_held c.self.invariant.ascend is_place heard.stands.within le (subst (λ m. n < m) (sym (heard.stands.numbered no_held)) below));
      below = subst (λ n. conn < n) count (stands_below links place conn c.self.inside.count c.self.invariant heard.stands);
      count = count;
      says = says conn c.in_ok-ask_at.field-0.word c.args.self.now links c.ask_at.new.links.items c.self.inside.count c.self.view_is heard.hears;
    }
