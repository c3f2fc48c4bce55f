-- A step that leaves what is shown trimmed, and of one hub, keeps the rule.
use Rattle.std.specs.Prelude.{Result, Ok, Err, IfOk, MatchResult}
use Rattle.std.proofs.Common.{inr, ◌≡◌, ◌≢◌, ℕ, true≢false, List, [], ◌∷◌, ◌++◌, set, sym, refl, ap, ◌∙◌, subst, ⊎_elim, fold}
use mathlib.Core.Option.{some}
use lib.ListN.{get_elem?}
use Rattle.crossbeam_utils.specs.Register.{Admits, TurnsAt, Forks, Merges}
use Rattle.atomic_table.proofs.Lists.{at_set, at_snoc, set_again}
use Rattle.edit_apply.specs.declared.Edit.{Edit}
use Rattle.guild_hub.specs.Logs.{Published, with_entry, with_seal}
use Rattle.guild_hub.specs.Trims.{spine_of, after_op, IsTrimmed}
use Rattle.guild_hub.specs.declared.shown.Shown.{Shown}
use Rattle.guild_hub.specs.declared.shown.Spine.{Spine}
use Rattle.guild_hub.specs.declared.shown.Op.{Op}
use Rattle.guild_hub.specs.declared.shown.Op.TheVariants.{Add, Seal}
use Rattle.guild_hub.specs.declared.ruled.View.{View}
use Rattle.guild_hub.specs.Rules.{name_of, stranger, knows, entered, Names, Keeps, Shows, Sees, Continues}
use Rattle.guild_hub.specs.Looks.{MayEnter}
use Rattle.guild_hub.proofs.Trimming.{pushed_trimmed}

-- a stranger fits whatever is shown
strange : (x : Shown) → Names x stranger
strange x n = absurd (true≢false (sym n))

pub admits : Admits Keeps stranger
admits x views h = record {
  trimmed = h.trimmed;
  names = λ seat v at. ⊎_elim (h.names seat v) (λ (e : stranger ≡ v). subst (Names x) e (strange x)) (at_snoc views stranger v seat at);
}

named_on : (x y : Shown) (v : View) → Continues x y → Names x v → Names y v
named_on x y v on names n = names n ∙ ap name_of on.hub

known : (seat : ℕ) (v : View) (x y : Shown) (enters : List Published) → Continues x y → (views : List View) → Keeps x views → Keeps y (set views seat (knows y.note.hub enters))
known seat v x y enters on views h =
    let w : View = knows y.note.hub enters in record {
      trimmed = on.trimmed h.trimmed;
      names = λ j u e. ⊎_elim (λ (t : (j ≡ seat) × (w ≡ u)). subst (Names y) t.1 (λ n. refl)) (λ (t : (j ≢ seat) × (get_elem? views j ≡ some u)). named_on x y u on (h.names j u t.1)) (at_set views seat j w u e);
    }

-- the writer shows y in place of x
pub shows : (seat : ℕ) (v : View) (x y : Shown) → Continues x y → TurnsAt Keeps seat v x y Shows
shows seat v x y on views h at = (knows y.note.hub [], known seat v x y [] on views h, (h.names seat v at, refl, on.trimmed h.trimmed))

-- a reader enters
pub turns : (seat : ℕ) (v : View) (x y : Shown) → Continues x y → TurnsAt Keeps seat v x y Sees
turns seat v x y on views h at = (entered v y.note, known seat v x y (v.enters ++ y.note ∷ []) on views h, (h.names seat v at, refl, on.trimmed h.trimmed))

pub stays : (x : Shown) → Continues x x
stays x = record { hub = refl; trimmed = λ t. t }

pub same_spine : (x y : Shown) → spine_of y ≡ spine_of x → Continues x y
same_spine x y is = record { hub = sym (ap (λ (s : Spine). s.note.hub) is); trimmed = λ t. subst IsTrimmed (sym is) t }

abbrev pub Becomes : Shown → List Op → Shown → Type 0
Becomes x ops y = spine_of y ≡ fold after_op (spine_of x) ops

pub added : (x y : Shown) (ops : List Op) (e : Edit) (log : Published) → ops ≡ Add e log ∷ [] → log ≡ with_entry x.note e → Becomes x ops y → Continues x y
added x y ops e log one more is =
    let to : spine_of y ≡ after_op (spine_of x) (Add e log) = is ∙ ap (fold after_op (spine_of x)) one in
    let to' : spine_of y ≡ after_op (spine_of x) (Add e (with_entry x.note e)) = to ∙ ap (λ l. after_op (spine_of x) (Add e l)) more in record {
      hub = sym (ap (λ (s : Spine). s.note.hub) to');
      trimmed = λ t. subst IsTrimmed (sym to') (pushed_trimmed (spine_of x) e t);
    }

pub sealed_by : (x y : Shown) (ops : List Op) (log : Published) → ops ≡ Seal log ∷ [] → log ≡ with_seal x.note → Becomes x ops y → Continues x y
sealed_by x y ops log one more is =
    let to : spine_of y ≡ after_op (spine_of x) (Seal log) = is ∙ ap (fold after_op (spine_of x)) one in
    let to' : spine_of y ≡ after_op (spine_of x) (Seal (with_seal x.note)) = to ∙ ap (λ l. after_op (spine_of x) (Seal l)) more in record {
      hub = sym (ap (λ (s : Spine). s.note.hub) to');
      trimmed = λ t. subst IsTrimmed (sym to') (record { basis = t.basis; accepted = t.accepted; entries = t.entries });
    }

-- one seat's view is told to another
pub forks : (seat : ℕ) (v : View) → Forks Keeps seat v v v
forks seat v x views h at = record {
  trimmed = h.trimmed;
  names = λ j u e. ⊎_elim (λ (t : get_elem? (set views seat v) j ≡ some u). h.names j u (ap (λ l. get_elem? l j) (sym (set_again views seat v at)) ∙ t))
      (λ (same : v ≡ u). subst (Names x) same (h.names seat v at)) (at_snoc (set views seat v) v u j e);
}

-- a reader takes in what was told
pub merges : (seat : ℕ) (v : View) (other : ℕ) (w : View) → Merges Keeps seat v other w w stranger
merges seat v other w x views h at apart there =
    let told : Names x w = ⊎_elim (λ (t : (other ≡ seat) × (w ≡ w)). absurd (apart t.0)) (λ (t : (other ≢ seat) × (get_elem? views other ≡ some w)). h.names other w t.1) (at_set views seat other w w there) in
    let mid : (j : ℕ) (u : View) → get_elem? (set views seat w) j ≡ some u → Names x u = λ j u e.
    ⊎_elim (λ (t : (j ≡ seat) × (w ≡ u)). subst (Names x) t.1 told) (λ (t : (j ≢ seat) × (get_elem? views j ≡ some u)). h.names j u t.1) (at_set views seat j w u e) in record {
      trimmed = h.trimmed;
      names = λ j u e. ⊎_elim (λ (t : (j ≡ other) × (stranger ≡ u)). subst (Names x) t.1 (strange x)) (λ (t : (j ≢ other) × (get_elem? (set views seat w) j ≡ some u)). mid j u t.1) (at_set (set views seat w) other j stranger u e);
    }

-- what a reader that entered knows, whether or not it could take what it found
pub may_have_entered : {F Z : Type 0} (log_of : F → Published) (before after : List Published) (log : Published) (r : Result F Z) → after ≡ before ++ log ∷ [] → IfOk r (λ f. log_of f ≡ log)
    → MatchResult r (λ f. after ≡ before ++ log_of f ∷ []) (λ _. MayEnter before after)
may_have_entered log_of before after log (Ok f) more same = more ∙ ap (λ l. before ++ l ∷ []) (sym same)
may_have_entered log_of before after log (Err z) more same = inr (log, more)
