-- Each step on a flag keeps its rule.
use Rattle.std.proofs.Common.{◌≡◌, ℕ, zero, suc, ◌==◌, Bool, true, false, if◌then◌else◌, List, [], ◌∷◌, length, get_or, set, length-set, sym, refl, ◌∙◌, subst, get_or-set_same, arith}
use Rattle.std.proofs.lemmas.List.{set-get_or}
use mathlib.Core.Option.{none, some}
use lib.ListN.{get_elem?}
use Rattle.atomic_table.specs.Table.{State, step, opening, keeps, Allows, Splits}
use Rattle.thread_outside.proofs.Views.{each_none, each_set, each_snoc, no}
use Rattle.thread_outside.specs.declared.flag_view.FlagView.{FlagView}
use Rattle.thread_outside.specs.Flags.{Sat, Slot, whole, leaver, finder, leaving, finding, KeepsFlag, Leaves, Finds}

abbrev Leaver : ℕ → List ℕ → ℕ → FlagView → Type 0
Leaver leave_at words j v = v.puts ≡ true → (j ≡ leave_at) × (get_or words 0 0 ≡ (if v.left then 1 else 0))

abbrev Finder : ℕ → List ℕ → ℕ → FlagView → Type 0
Finder find_at words j v = v.takes ≡ true → (j ≡ find_at) × (get_or words 0 0 ≡ 0 → v.found ≡ false)

pub opens : KeepsFlag (opening (0 ∷ []) [] whole)
opens = record {
  leave_at = 0;
  find_at = 0;
  one = refl;
  leavers = each_snoc (Leaver 0 (0 ∷ [])) [] whole (λ _. (refl, refl)) (each_none _);
  finders = each_snoc (Finder 0 (0 ∷ [])) [] whole (λ _. (refl, λ _. refl)) (each_none _);
}

pub splits : (id : ℕ) (v : FlagView) → v.puts ≡ true → v.takes ≡ true → Splits KeepsFlag id v (leaver v) (finder v)
splits id v puts takes s d at =
    let leaves = d.leavers id v at puts in
    let finds = d.finders id v at takes in
    let cut : List FlagView = set s.views id (leaver v) in
    let F : ℕ → FlagView → Type 0 = Leaver d.leave_at s.words in
    let G : ℕ → FlagView → Type 0 = Finder (length cut) s.words in record {
      leave_at = d.leave_at;
      find_at = length cut;
      one = d.one;
      leavers = each_snoc F cut (finder v) (no refl)
          (each_set F s.views id (leaver v) (λ _. leaves) (λ j u far e. d.leavers j u e));
      finders = each_snoc G cut (finder v) (λ _. (refl, finds.1))
          (each_set G s.views id (leaver v) (no refl)
          (λ j u far e takes'. absurd (far ((d.finders j u e takes').0 ∙ sym finds.0))));
    }

pub leaves : (slots id : ℕ) (m : Sat) → m.0.puts ≡ true → m.0.takes ≡ false → Allows KeepsFlag slots id m 0 (λ _. 1) (λ n. Leaves (step slots 0 1 0 none) m n)
leaves slots id m puts apart s d _ at _ =
    let v : FlagView = m.0 in
    let mine = d.leavers id v at puts in
    let words : List ℕ = set s.words 0 1 in
    let up : get_or words 0 0 ≡ 1 = get_or-set_same s.words 0 1 0 (omega (arith, d.one)) in (
      leaving v,
      keeps,
      tt,
      record {
        leave_at = d.leave_at;
        find_at = d.find_at;
        one = length-set s.words 0 1 ∙ d.one;
        leavers = each_set (Leaver d.leave_at words) s.views id (leaving v) (λ _. (mine.0, up))
            (λ j u far e puts'. absurd (far ((d.leavers j u e puts').0 ∙ sym mine.0)));
        finders = each_set (Finder d.find_at words) s.views id (leaving v) (no apart)
            (λ j u far e takes. ((d.finders j u e takes).0, λ down. absurd (omega (arith, up, down))));
      },
      refl,
    )

-- a flag that is down is not found up
found_down : (word : ℕ) (b : Bool) → (word ≡ 0 → b ≡ false) → word ≡ 0 → (if word == 0 then b else true) ≡ false
found_down zero b before down = before down
found_down (suc word) b before down = absurd (omega (arith, down))

pub finds : (slots id : ℕ) (m : Sat) → m.0.takes ≡ true → m.0.puts ≡ false → Allows KeepsFlag slots id m 0 (λ n. n) (Finds (step slots 0 0 0 none) m)
finds slots id m takes apart s d _ at _ =
    let v : FlagView = m.0 in
    let mine = d.finders id v at takes in
    let word : ℕ = get_or s.words 0 0 in
    let w : FlagView = finding v word in
    let holds : KeepsFlag record { words = s.words; homes = s.homes; views = set s.views id w } = record {
      leave_at = d.leave_at;
      find_at = d.find_at;
      one = d.one;
      leavers = each_set (Leaver d.leave_at s.words) s.views id w (no apart) (λ j u far e. d.leavers j u e);
      finders = each_set (Finder d.find_at s.words) s.views id w
          (λ _. (mine.0, found_down word v.found mine.1)) (λ j u far e. d.finders j u e);
    } in (
      w,
      keeps,
      tt,
      subst (λ (ws : List ℕ). KeepsFlag record { words = ws; homes = s.homes; views = set s.views id w }) (sym (set-get_or s.words 0 0)) holds,
      (refl, mine.1),
    )

-- an end that found the flag up, and the end that puts: this one has left
pub is_left : (s : State Slot FlagView) (j k : ℕ) (takes puts : FlagView) → KeepsFlag s
    → get_elem? s.views j ≡ some takes → takes.takes ≡ true → takes.found ≡ true
    → get_elem? s.views k ≡ some puts → puts.puts ≡ true → puts.left ≡ true
is_left s j k takes puts d at may found at' may' = up puts.left (d.leavers k puts at' may').1
  where
    up : (b : Bool) → get_or s.words 0 0 ≡ (if b then 1 else 0) → b ≡ true
    up true e = refl
    up false e = no ((d.finders j takes at may).1 e) found
