-- How a line is read, piece by piece.
use Rattle.std.proofs.Common.{◌≡◌, ◌⊎◌, ℕ, ◌-◌, ◌<◌, ◌≤◌, zero, suc, List, [], ◌∷◌, ◌++◌, Bool, true, false, Ok, Err, drop, length, inl, inr, refl, sym, ap, ◌∙◌, subst, append_assoc, append-nil, length-append, arith}
use Rattle.std.specs.Prelude.{nat_lt}
use Rattle.std.specs.declared.option.Option.{Option}
use Rattle.std.specs.Io.KnownBytes.{Consumes}
use Rattle.std.proofs.KnownBytes.{Consumes-trans, Consumes-kept}
use Rattle.std.proofs.lemmas.Bool.Decides.{nat_tests}
use Rattle.std.proofs.lemmas.List.{drop_at}
use Rattle.gate_outside.specs.declared.piece.TheConstants.{PIECE_BYTES}
use Rattle.gate_outside.specs.declared.faults.Fault.TheVariants.{Failed}
use Rattle.gate_outside.specs.declared.faults.Failed.{Failed as HasFailed}
use Rattle.file_lines.specs.Lines.{IsPiece}
use Rattle.file_lines.specs.Reads.{HeldBytes, LineIsRead, ReadsNoFurther, LineGrows, Fills}
use Rattle.file_lines.proofs.Lists.{later_bytes}

-- what follows the first line feed
pub last_kept : (bytes piece later : List ℕ) → bytes ≡ piece ++ 10 ∷ later → drop (length bytes - length later) bytes ≡ later
last_kept bytes piece later is =
    let split : bytes ≡ (piece ++ 10 ∷ []) ++ later = is ∙ sym (append_assoc piece (10 ∷ []) later) in
    let count : length (piece ++ 10 ∷ []) ≡ length bytes - length later = omega (arith, ap length split, length-append (piece ++ 10 ∷ []) later) in
    ap (drop (length bytes - length later)) split ∙ drop_at (piece ++ 10 ∷ []) later (length bytes - length later) count

-- all that is ahead goes to the line
pub grown : (most : ℕ) (old new : HeldBytes) (is_long : Bool) → IsPiece old.ahead → new.line ≡ old.line ++ old.ahead → new.ahead ≡ [] → nat_lt most (length new.line) ≡ is_long → LineGrows most old new is_long
grown most old new true piece line none long = (old.ahead, piece, line, inr (grind (arith, nat_tests, long), sym (ap (λ l. old.ahead ++ l) none ∙ append-nil old.ahead)))
grown most old new false piece line none short = (piece, line, none, grind (arith, nat_tests, short))

pub no_feed : IsPiece []
no_feed k lt = absurd (omega (arith, lt))

pub piece_more : (xs ys : List ℕ) → IsPiece xs → IsPiece ys → IsPiece (xs ++ ys)
piece_more [] ys first later k lt = later k lt
piece_more (b ∷ xs) ys first later zero lt = first zero (omega arith)
piece_more (b ∷ xs) ys first later (suc k) lt = piece_more xs ys (later_bytes b xs first) later k (omega (arith, lt))

-- what was ahead and what was read are the line so far and what is ahead now, and no byte was read that may wait
abbrev pub HasRead : (left0 left1 : Option (List ℕ)) → (before line ahead : List ℕ) → Type 0
HasRead left0 left1 before line ahead = (more : List ℕ) × Consumes left0 left1 more × (before ++ more ≡ line ++ ahead) × ReadsNoFurther before more

module _ (left0 left1 : Option (List ℕ)) (before line ahead : List ℕ) (has : HasRead left0 left1 before line ahead) where
  -- no byte is ahead
  pub all_read : ahead ≡ [] → before ++ has.0 ≡ line
  all_read none = has.2 ∙ (ap (λ l. line ++ l) none ∙ append-nil line)

  -- those of one read more
  no_further : ahead ≡ [] → IsPiece line → (last : List ℕ) → length last ≤ PIECE_BYTES → ReadsNoFurther before (has.0 ++ last)
  no_further none piece last short = inr (has.0, last, refl, short, rw (all_read none) piece)

  module _ (left2 : Option (List ℕ)) (piece : IsPiece line) where
    filled : (is_fresh : (has.0 ≡ []) ⊎ (ahead ≡ [])) (now : List ℕ) → Fills left1 left2 ahead now (Ok true) → HasRead left0 left2 before line now
    filled is_fresh now fills = (
      has.0 ++ fills.0,
      Consumes-trans left0 left1 left2 has.0 fills.0 has.1 fills.1,
      sym (append_assoc before has.0 fills.0) ∙ ap (λ l. l ++ fills.0) has.2 ∙ append_assoc line ahead fills.0 ∙ ap (λ l. line ++ l) (sym fills.2),
      by_fill fills.4 is_fresh,
    )
      where
        by_fill : (fills.0 ≡ []) ⊎ ((ahead ≡ []) × (length fills.0 ≤ PIECE_BYTES)) → (has.0 ≡ []) ⊎ (ahead ≡ []) → ReadsNoFurther before (has.0 ++ fills.0)
        by_fill (inr read) f = no_further read.0 piece fills.0 read.1
        by_fill (inl none) (inl first) = inl (ap (λ l. has.0 ++ l) none ∙ (append-nil has.0 ∙ first))
        by_fill (inl none) (inr empty) = no_further empty piece fills.0 (rw none (omega arith))

    pub ended : (most : ℕ) (new : HeldBytes) → new.line ≡ line → length line ≤ most → Fills left1 left2 ahead new.ahead (Ok false)
        → (more : List ℕ) × Consumes left0 left2 more × ReadsNoFurther before more × LineIsRead most left2 (before ++ more) new (Ok false)
    ended most new is short fills = (
      has.0 ++ [],
      Consumes-trans left0 left1 left2 has.0 [] has.1 fills.2,
      no_further fills.0 piece [] (omega arith),
      (rw is piece, ap (λ l. before ++ l) (append-nil has.0) ∙ (all_read fills.0 ∙ sym is), fills.1, rw is short, fills.3),
    )

    pub failed : (most : ℕ) (new : HeldBytes) (fault : HasFailed) → new.line ≡ line → Fills left1 left2 ahead new.ahead (Err fault)
        → (more : List ℕ) × Consumes left0 left2 more × ReadsNoFurther before more × LineIsRead most left2 (before ++ more) new (Err Failed)
    failed most new fault is fills = (has.0, Consumes-kept left0 left1 left2 has.0 has.1 fills.2, has.3, (rw is piece, all_read fills.0 ∙ sym is, fills.1))

  module _ (most : ℕ) (piece : IsPiece line) (new : HeldBytes) where
    pub line_ended : LineGrows most (record { line = line; ahead = ahead }) new true
        → (more : List ℕ) × Consumes left0 left1 more × ReadsNoFurther before more × LineIsRead most left1 (before ++ more) new (Ok true)
    line_ended grows = (has.0, has.1, has.3, (rw grows.2 (piece_more line grows.0 piece grows.1), by_end grows.3))
      where
        by_end : (ahead ≡ grows.0 ++ 10 ∷ new.ahead) ⊎ ((most < length new.line) × (ahead ≡ grows.0 ++ new.ahead))
            → (before ++ has.0 ≡ new.line ++ 10 ∷ new.ahead) ⊎ ((most < length new.line) × (before ++ has.0 ≡ new.line ++ new.ahead))
        by_end (inl is) = inl (has.2 ∙ ap (λ l. line ++ l) is ∙ sym (append_assoc line grows.0 (10 ∷ new.ahead)) ∙ ap (λ l. l ++ 10 ∷ new.ahead) (sym grows.2))
        by_end (inr long) = inr (long.0, has.2 ∙ ap (λ l. line ++ l) long.1 ∙ sym (append_assoc line grows.0 new.ahead) ∙ ap (λ l. l ++ new.ahead) (sym grows.2))

    pub line_grown : LineGrows most (record { line = line; ahead = ahead }) new false → HasRead left0 left1 before new.line new.ahead
    line_grown grows = (has.0, has.1, has.2 ∙ (sym grows.1 ∙ (sym (append-nil new.line) ∙ ap (λ l. new.line ++ l) (sym grows.2))), has.3)

-- so far, where nothing is ahead once a byte was read
abbrev pub ReadsOn : (left0 left1 : Option (List ℕ)) → (before line ahead : List ℕ) → Type 0
ReadsOn left0 left1 before line ahead = (has : HasRead left0 left1 before line ahead) × ((has.0 ≡ []) ⊎ (ahead ≡ []))

-- more bytes are ahead
pub next_bytes : (left0 left1 left2 : Option (List ℕ)) (before : List ℕ) (old now : HeldBytes) (some : Bool) → ReadsOn left0 left1 before old.line old.ahead → IsPiece old.line → now.line ≡ old.line
    → some ≡ true → Fills left1 left2 old.ahead now.ahead (Ok some) → HasRead left0 left2 before now.line now.ahead × IsPiece now.line
next_bytes left0 left1 left2 before old now some on piece is comes fills =
    (rw is (filled left0 left1 before old.line old.ahead on.0 left2 piece on.1 now.ahead (subst (λ b. Fills left1 left2 old.ahead now.ahead (Ok b)) comes fills)), rw is piece)
