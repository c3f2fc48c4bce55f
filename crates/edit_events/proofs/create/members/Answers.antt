use Rattle.std.proofs.Common.{◌≡◌, ℕ, ◌+◌, ◌<◌, Bool, true, false, List, [], ◌∷◌, ◌++◌, map, take, length, get_or, refl, sym, ap, ◌∙◌, arith}
use Rattle.std.specs.Prelude.{filter, cond}
use Rattle.std.proofs.lemmas.List.{map-append, append-nil}
use Rattle.std.proofs.lemmas.List.Elements.{filter_more}
use Rattle.guild_model.specs.declared.member.Member.{Member}
use Rattle.dispatch_types.specs.Objects.{member_object}
use Rattle.edit_events.specs.Greeting.{is_shown}
use Rattle.edit_events.proofs.create.members.Goals as goal
use Rattle.edit_events.proofs.create.members.Goals.{then-is_shown+in_ok-of+in_ok-push, else-is_shown}

-- the next member stands there, or does not
more : (p : Member → Bool) (ms : List Member) (i : ℕ) (m : Member) (shown : Bool) → i < length ms → get_or ms i m ≡ m → p m ≡ shown
    → map member_object (filter p (take (i + 1) ms)) ≡ map member_object (filter p (take i ms)) ++ cond shown (member_object m ∷ []) []
more p ms i m shown lt here is =
    let at : p (get_or ms i m) ≡ shown = ap p here ∙ is in
    let next : cond (p (get_or ms i m)) (get_or ms i m ∷ []) [] ≡ cond shown (m ∷ []) [] = ap (λ b. cond b (get_or ms i m ∷ []) []) at ∙ ap (λ x. cond shown (x ∷ []) []) here in
    ap (map member_object) (filter_more p ms i m lt)
    ∙ (map-append member_object (filter p (take i ms)) (cond (p (get_or ms i m)) (get_or ms i m ∷ []) [])
    ∙ ap (λ xs. map member_object (filter p (take i ms)) ++ xs) (ap (map member_object) next ∙ either shown))
  where
    either : (b : Bool) → map member_object (cond b (m ∷ []) []) ≡ cond b (member_object m ∷ []) []
    either true = refl
    either false = refl

pub loop-member-preserved : goal.loop-member-preserved
loop-member-preserved c =
    let lt : c.loop-member.member-index < length c.as_slice-members.result.now = omega arith in
    let step = λ (shown : Bool). more (is_shown c.args.part.now c.args.viewer.now) c.as_slice-members.result.now c.loop-member.member-index c.member-item.result shown lt (sym c.member-item.is) in
    elim c.if-is_shown.branch [
      | then-is_shown+in_ok-of+in_ok-push w ↦ (let next = step true (sym c.is_shown.ensures ∙ w.if-is_shown.true) in cc (next, c.loop-member.invariant, w.in_ok-push.ensures.ok, w.in_ok-of.ensures, w.objects-is))
      | else-is_shown w ↦ (let next = step false (sym c.is_shown.ensures ∙ w.if-is_shown.false) in cc (next, append-nil (map member_object (filter (is_shown c.args.part.now c.args.viewer.now) (take c.loop-member.member-index c.as_slice-members.result.now))), c.loop-member.invariant, w.objects-is))
    ]
