-- A list is its chunks.
use Rattle.std.proofs.Common.{◌≡◌, ℕ, zero, suc, ◌+◌, ◌*◌, ◌≤◌, Bool, true, false, not, List, [], ◌++◌, length, take, drop, if◌then◌else◌, refl, sym, ap, ◌∙◌, arith}
use Rattle.std.specs.Prelude.{◌==◌, max, flat_map}
use Rattle.std.specs.List.{range_with_len}
use Rattle.std.specs.Int.{div_ceil}
use Rattle.std.proofs.lemmas.Bool.Decides.{nat_tests}
use Rattle.std.proofs.lemmas.List.{take-append-drop, take-take, drop-take, drop-drop, take_all, length-take}
use Rattle.std.proofs.lemmas.List.FromFn.{length-map-range_with_len}
use Rattle.std.proofs.lemmas.Grind.{div_ceil_times}
use Rattle.dispatch_types.specs.declared.dispatch.Dispatch.TheVariants.{GuildMembersChunk}
use Rattle.member_chunks.specs.Answered.{is_answered, found, chunk_count, part, chunk, chunks, answered}
use Rattle.member_chunks.specs.Law.{ChunksAreAll, AnswersSpeak}

take_both : {T : Type 0} (k m : ℕ) (ys : List T) → take k ys ++ take m (drop k ys) ≡ take (k + m) ys
take_both k m ys =
    ap (λ zs. zs ++ take m (drop k ys)) (sym (take-take k (k + m) ys (omega arith)))
    ∙ (ap (λ zs. take k (take (k + m) ys) ++ zs) (sym (drop-take k m ys))
    ∙ take-append-drop k (take (k + m) ys))

module _ {T : Type 0} (xs : List T) where
  joined : (a n : ℕ) → flat_map (part xs) (range_with_len a n) ≡ take (n * 1000) (drop (a * 1000) xs)
  joined a zero = refl
  joined a (suc n) =
      let next : a * 1000 + 1000 ≡ (a + 1) * 1000 = omega arith in
      let long : 1000 + n * 1000 ≡ suc n * 1000 = omega arith in
      ap (λ zs. part xs a ++ zs) (joined (a + 1) n)
      ∙ (ap (λ k. part xs a ++ take (n * 1000) (drop k xs)) (sym next)
      ∙ (ap (λ zs. part xs a ++ take (n * 1000) zs) (sym (drop-drop 1000 (a * 1000) xs))
      ∙ (take_both 1000 (n * 1000) (drop (a * 1000) xs)
      ∙ ap (λ k. take k (drop (a * 1000) xs)) long)))

  enough : length xs ≤ chunk_count xs * 1000
  enough = let bound = (div_ceil_times (length xs) 1000 (omega arith)).0 in grind (arith, bound)

pub chunks_are_all : ChunksAreAll
chunks_are_all xs =
    (joined xs 0 (chunk_count xs) ∙ take_all (chunk_count xs * 1000) xs (enough xs), λ index. short index)
  where
    short : (index : ℕ) → length (part xs index) ≤ 1000
    short index = let long = length-take 1000 (drop (index * 1000) xs) in omega (arith, long)

pub answers_speak : AnswersSpeak
unfolding answered
answers_speak s v ask = by_answer (is_answered s v ask)
  where
    some : (n : ℕ) → (max 1 n == 0) ≡ false
    some n = grind (arith, nat_tests)

    by_answer : (b : Bool) → (length (if b then chunks s ask (found s ask.find) else []) == 0) ≡ not b
    by_answer true =
        let ms = found s ask.find in
        ap (λ n. n == 0) (length-map-range_with_len (λ index. GuildMembersChunk (chunk s ask ms index)) 0 (chunk_count ms)) ∙ some (div_ceil (length ms) 1000)
    by_answer false = refl
