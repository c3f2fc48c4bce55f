use Rattle.std.proofs.Common.{◌≡◌, ◌+◌, ◌<◌, ◌≤◌, length, slice_index_or, refl, sym, ap, subst, ◌∙◌, arith}
use Rattle.dispatch_types.specs.Kinds.{kind_of}
use Rattle.client_hooks.specs.Kinds.{holds}
use Rattle.client_hooks.proofs.Called.{after_call, after_pass, at_end, same_notes}
use Rattle.client_hooks.proofs.hooks.Hooks.run.Goals as goal
use Rattle.client_hooks.proofs.hooks.Hooks.run.Goals.{then-has+in_ok-push, else-has}

pub loop-entry-preserved : goal.loop-entry-preserved
loop-entry-preserved g c =
    let hooks = c.args.self.now.hooks.items in
    let i = c.loop-entry.entry-index in
    let entry = c.entry-item.result in
    let listed : c.as_slice-entry-items.result.now ≡ hooks = c.as_slice-entry-items.ensures.value in
    let short : i < length c.as_slice-entry-items.result.now = omega arith in
    let below : i < length hooks = subst (λ xs. i < length xs) listed short in
    let at : slice_index_or hooks i entry ≡ entry = subst (λ xs. slice_index_or xs i entry ≡ entry) listed (sym c.entry-item.is) in
    let has : c.has.result ≡ holds entry.kinds (kind_of c.args.dispatch.now) = c.has.ensures ∙ ap (holds entry.kinds) c.kind-kind.ensures in (
      ap (λ n. n + 1) c.loop-entry.invariant.0,
      elim c.if-has.branch [
        | then-has+in_ok-push w ↦ (let e = w.answer-value.ensures in after_call _ _ hooks i entry _ c.loop-entry.notes.items c.if-has.notes.items below at (sym has ∙ w.if-has.true) (record {
          place = c.loop-entry.invariant.0;
          counted = refl;
          answered = record { shown = e.shown; shows = e.shows; says = record { met = e.says.met } };
          meets = λ keeps. keeps _ _ (record { shown = e.shown; shows = e.shows; says = record { met = e.says.met } });
        }) (ap (λ v. v.items) w.notes-is ∙ w.in_ok-push.ensures.items) c.loop-entry.invariant.1)
        | else-has w ↦ after_pass _ _ hooks i entry c.loop-entry.notes.items c.if-has.notes.items below at (sym has ∙ w.if-has.false) (ap (λ v. v.items) w.notes-is) c.loop-entry.invariant.1
      ],
    )

pub returns : goal.returns
returns g c =
    let hooks = c.args.self.now.hooks.items in
    let i = c.loop-entry.entry-index in
    let listed : c.as_slice-entry-items.result.now ≡ hooks = c.as_slice-entry-items.ensures.value in
    let long : length c.as_slice-entry-items.result.now ≤ i = omega arith in
    let over : length hooks ≤ i = subst (λ xs. length xs ≤ i) listed long in
    same_notes _ _ (λ call note is. record {
      place = is.place;
      counted = is.counted;
      answered = record { shown = is.answered.shown; shows = is.answered.shows; says = record { met = is.answered.says.met } };
      meets = λ keeps. keeps _ _ (record { shown = is.answered.shown; shows = is.answered.shows; says = record { met = is.answered.says.met } });
    }) _ _ (at_end _ _ hooks i c.loop-entry.notes.items over c.loop-entry.invariant.1)
