-- A log with one entry more.
use Rattle.std.proofs.Common.{◌≡◌, ℕ, ◌+◌, ◌-◌, ◌<◌, ◌≤◌, List, [], ◌∷◌, ◌++◌, Bool, true, false, if◌then◌else◌, length, drop, nat_lt, refl, sym, ap, ◌∙◌, arith}
use Rattle.std.proofs.lemmas.List.{length-append, length-drop, drop-append-le, drop-drop}
use Rattle.std.proofs.lemmas.Bool.Decides.{nat_tests}
use Rattle.guild_model.specs.Record.{Record, closed}
use Rattle.edit_apply.specs.Edits.{after, state}
use Rattle.edit_apply.specs.declared.Edit.{Edit}
use Rattle.world_law.specs.World.{base_of}
use Rattle.world_law.proofs.Folds.{state_join}
use Rattle.scenario.specs.Represents.{log_with, over, added}

module _ (g : ℕ) (es : List Edit) (e : Edit) where
  all : List Edit
  all = es ++ e ∷ []

  -- of which k are removed
  more : (k : ℕ) → over (length (drop (base_of es) es)) ≡ k → base_of all ≡ base_of es + k → base_of es + k ≤ length es → added (log_with g es) e ≡ log_with g all
  unfolding all
  more k is base within =
      let b : ℕ = base_of es in
      let last : drop k (drop b es) ++ e ∷ [] ≡ drop (base_of all) all =
      ap (λ l. l ++ e ∷ []) (drop-drop k b es) ∙ (sym (drop-append-le (b + k) es (e ∷ []) within) ∙ ap (λ n. drop n all) (sym base)) in
      let n : ℕ = length es + 1 in
      let whole : Record = after (state g es) e in
      let moved : added (log_with g es) e ≡ record { guild = whole; count = n; latest = drop k (drop b es) ++ e ∷ [] } =
      ap (λ j. record { guild = whole; count = n; latest = drop j (drop b es) ++ e ∷ [] }) is in
      moved
      ∙ (ap (λ l. record { guild = whole; count = n; latest = l }) last
      ∙ (ap (λ r. record { guild = r; count = n; latest = drop (base_of all) all }) (sym (state_join (closed g) es (e ∷ [])))
      ∙ ap (λ m. record { guild = state g all; count = m; latest = drop (base_of all) all }) (sym (length-append es (e ∷ [])))))

  pub log_more : added (log_with g es) e ≡ log_with g (es ++ e ∷ [])
  unfolding all
  log_more = by_room (nat_lt (length (drop (base_of es) es)) 4096) refl
    where
      kept : length (drop (base_of es) es) ≡ length es - base_of es
      kept = length-drop (base_of es) es

      by_room : (c : Bool) → nat_lt (length (drop (base_of es) es)) 4096 ≡ c → added (log_with g es) e ≡ log_with g all
      by_room true is =
          let few : length (drop (base_of es) es) < 4096 = grind (arith, nat_tests, is) in
          more 0 (ap (λ b. if b then 0 else 1) is) (omega (arith, kept, few, length-append es (e ∷ []))) (omega (arith, kept, few))
      by_room false is =
          let many : 4096 ≤ length (drop (base_of es) es) = grind (arith, nat_tests, is) in
          more 1 (ap (λ b. if b then 0 else 1) is) (omega (arith, kept, many, length-append es (e ∷ []))) (omega (arith, kept, many))
