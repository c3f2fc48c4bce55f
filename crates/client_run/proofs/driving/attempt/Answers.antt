use Rattle.std.proofs.Common.{◌+◌, ◌≡◌, [], ◌∷◌, ℕ, ◌<◌, ◌≤◌, refl, sym, ap, subst, ◌∙◌, inr}
use Rattle.std.specs.Prelude.{nat_le}
use Rattle.gate_outside.specs.Causes.{one_more}
use Rattle.gate_outside.specs.Clocks.{ClockTale}
use Rattle.client_run.specs.declared.target.Target.{Target}
use Rattle.client_run.specs.Histories.{Missed}
use Rattle.client_run.specs.Drives.{url_by, Goes, outside, seen}
use Rattle.client_run.specs.Turns.{Way}
use Rattle.client_run.proofs.Visiting.{meets_new, dry_most, next_most, is_most, is_less, attempted, missed, goes_nowhere}
use Rattle.client_run.proofs.Following.{none_dropped}
use Rattle.client_run.proofs.driving.attempt.Goals as goal

pub visit-ended-requires : goal.visit-ended-requires
visit-ended-requires g c = rw c.new-wire.ensures (meets_new (record { tale = g.D.Wire.Link.tale c.in-Ok.link; faults = g.D.Wire.Link.faults c.in-Ok.link }) c.in-Ok.ensures.new_link)

pub returns-in-Ok-clause-attempts : goal.returns-in-Ok-clause-attempts
returns-in-Ok-clause-attempts g c =
    let way = c.args.route.now in
    let d0 = g.D.Dial.tale c.args.dial.now in
    let d1 = g.D.Dial.tale c.open_link.new.dial in
    let d2 = g.D.Dial.tale c.hang_up.new.dial in
    let l = c.visit-ended.new.wire in
    let hangs = c.hang_up.ensures.back in
    let dials = c.in-Ok.ensures.dials in
    let wet : d1.dry_run < 9 = subst (λ (n : ℕ). n < 9) (c.requires.same ∙ sym dials.dry_run) c.requires.wet in
    let done =
    attempted way c.args.client.now c.visit-ended.new.client d0 d1 d2 (seen (g.C.Clock.tale c.args.clock.now) (g.W.Watch.told c.args.watch.now c.args.out.now)) (seen (g.C.Clock.tale c.visit-ended.new.clock) (g.W.Watch.told c.visit-ended.new.watch c.visit-ended.new.out)) l dials.urls dials.returned hangs
    c.hang_up.new.self c.follow.new.self (ap (λ (w : Way). w.first) c.hang_up.ensures.route ∙ ap (λ (w : Way). w.first) c.open_link.ensures.route) (ap (λ (w : Way). w.dry_run) c.hang_up.ensures.route)
    (rw hangs.dry_run (dry_most d1.dry_run l.tale.gave_text l.faults wet)) c.visit-ended.result c.follow.result c.follow.ensures.answer c.follow.ensures.heads c.visit-ended.ensures.visits in
    (done.0, (done.1.0, c.visit-ended.ensures.counts ∙ ap (λ (n : ℕ). g.W.Watch.reconnects c.args.watch.now + n) (sym done.1.1)))

pub returns-in-Err-Memory-clause-attempts : goal.returns-in-Err-Memory-clause-attempts
returns-in-Err-Memory-clause-attempts g c =
    let way = c.args.route.now in
    let t = seen (g.C.Clock.tale c.args.clock.now) (g.W.Watch.told c.args.watch.now c.args.out.now) in
    let dials = c.in-Err-Memory.ensures.dials in (
      [],
      (
        record {
          last = way.target;
          seen = t;
          goes = goes_nowhere way.first way.target c.args.client.now (g.D.Dial.tale c.args.dial.now) (g.D.Dial.tale c.open_link.new.dial) t (rw c.in-Err-Memory.field-0-is at dials.urls) dials.returned;
          time = inr refl;
          dry_run = tt;
          answers = tt;
        },
        none_dropped (g.W.Watch.reconnects c.args.watch.now),
      ),
    )

pub returns-then-is_dry-clause-attempts : goal.returns-then-is_dry-clause-attempts
returns-then-is_dry-clause-attempts g c =
    let way = c.args.route.now in
    let d = g.D.Dial.tale c.args.dial.now in
    let d' = g.D.Dial.tale c.open_link.new.dial in
    let t = seen (g.C.Clock.tale c.args.clock.now) (g.W.Watch.told c.args.watch.now c.args.out.now) in
    let dials = c.in-Err-Failed.ensures.dials in
    let more : d'.dry_run ≡ one_more d.dry_run = rw c.in-Err-Failed.field-0-is at dials.dry_run in
    let same : c.open_link.new.self.dry_run ≡ d'.dry_run = ap (λ (w : Way). w.dry_run) c.open_link.ensures.route in
    let most : d'.dry_run ≤ 9 = subst (λ (n : ℕ). n ≤ 9) (sym more) (next_most d.dry_run (subst (λ (n : ℕ). n < 9) c.requires.same c.requires.wet)) in (
      Missed (url_by way.first way.target c.args.client.now.session) ∷ [],
      (
        record {
          last = way.target;
          seen = t;
          goes = missed way c.args.client.now d d' t (rw c.in-Err-Failed.field-0-is at dials.urls) dials.returned;
          time = inr refl;
          dry_run = is_most d'.dry_run most (ap (λ (n : ℕ). nat_le 9 n) (sym same) ∙ sym c.if-is_dry.ensures);
          answers = tt;
        },
        none_dropped (g.W.Watch.reconnects c.args.watch.now),
      ),
    )

pub returns-else-is_dry-clause-attempts : goal.returns-else-is_dry-clause-attempts
returns-else-is_dry-clause-attempts g c =
    let way = c.args.route.now in
    let d = g.D.Dial.tale c.args.dial.now in
    let d' = g.D.Dial.tale c.open_link.new.dial in
    let t = seen (g.C.Clock.tale c.args.clock.now) (g.W.Watch.told c.args.watch.now c.args.out.now) in
    let new = c.open_link.new.self in
    let vs = Missed (url_by way.first way.target c.args.client.now.session) ∷ [] in
    let went = missed way c.args.client.now d d' t (rw c.in-Err-Failed.field-0-is at c.in-Err-Failed.ensures.dials.urls) c.in-Err-Failed.ensures.dials.returned in
    let there = subst (λ (x : Target). Goes way.first way.target vs x (outside c.args.client.now d t) (outside c.args.client.now d' t)) (sym (ap (λ (w : Way). w.target) c.open_link.ensures.route)) went in (
      vs,
      (
        (
          subst (λ (x : ClockTale). Goes way.first way.target vs new.target (outside c.args.client.now d t) (outside c.args.client.now d' (seen x (g.W.Watch.told c.args.watch.now c.args.out.now)))) (sym c.pause.ensures) there,
          (refl, (ap (λ (w : Way). w.first) c.open_link.ensures.route, (ap (λ (w : Way). w.dry_run) c.open_link.ensures.route, is_less new.dry_run (sym c.if-is_dry.ensures)))),
        ),
        none_dropped (g.W.Watch.reconnects c.args.watch.now),
      ),
    )
