-- A piece of the file, line by line.
use Rattle.std.proofs.Common.{◌≡◌, ℕ, ◌+◌, ◌≤◌, List, [], ◌∷◌, ◌++◌, Result, Ok, Err, MatchResult, OnOk, length, sym, ap, ◌∙◌, append_assoc, length-append, arith}
use Rattle.std.specs.declared.option.Option.{Option}
use Rattle.scenario.specs.declared.fault.PlayFault.{PlayFault}
use Rattle.scenario.specs.declared.file_runner.FileRunner.{FileRunner}
use Rattle.scenario.specs.Played.{Playing, LeavesAt, Anything, Fits, room}
use Rattle.scenario.proofs.Bytes.{stops_more}

-- a front of a chunk was played, and this is left of it
pub record Fed (chunk : List ℕ) (got0 got1 : Option (List ℕ)) (waits0 waits1 : List ℕ) (old now : FileRunner) (rest : List ℕ) : Type 0 where
  pub front : List ℕ
  pub is : chunk ≡ front ++ rest
  pub plays : (got : Option (List ℕ)) (bytes : List ℕ) → Playing got got0 waits0 old bytes → Playing got got1 waits1 now (bytes ++ front)
  pub fits : Fits old → Fits now × (room now + length front ≤ room old)

module _ (chunk : List ℕ) (got0 got1 got2 : Option (List ℕ)) (waits0 waits1 waits2 : List ℕ) (old now : FileRunner) (rest : List ℕ) (fed : Fed chunk got0 got1 waits0 waits1 old now rest) where
  -- the next line
  module _ (piece later : List ℕ) (is : rest ≡ piece ++ 10 ∷ later) where
    line : List ℕ
    line = piece ++ 10 ∷ []

    splits : rest ≡ line ++ later
    unfolding line
    splits = is ∙ sym (append_assoc piece (10 ∷ []) later)

    pub fed_line : (new : FileRunner) → ((got : Option (List ℕ)) (bytes : List ℕ) → Playing got got1 waits1 now bytes → Playing got got2 waits2 new (bytes ++ (piece ++ 10 ∷ [])))
        → (Fits now → Fits new × (room new + (length piece + 1) ≤ room now)) → Fed chunk got0 got2 waits0 waits2 old new later
    unfolding line
    fed_line new plays fits = record {
      front = fed.front ++ (piece ++ 10 ∷ []);
      is = fed.is ∙ (ap (λ l. fed.front ++ l) splits ∙ sym (append_assoc fed.front (piece ++ 10 ∷ []) later));
      plays = λ got bytes playing. rw (sym (append_assoc bytes fed.front (piece ++ 10 ∷ []))) (plays got (bytes ++ fed.front) (fed.plays got bytes playing));
      fits = λ old_fits.
          let before = fed.fits old_fits in
          let after = fits before.0 in
          let count : length (fed.front ++ (piece ++ 10 ∷ [])) ≡ length fed.front + (length piece + 1) =
          length-append fed.front (piece ++ 10 ∷ []) ∙ ap (λ n. length fed.front + n) (length-append piece (10 ∷ [])) in
          (after.0, omega (arith, before.1, after.1, count));
    }

    -- that line stops the play
    pub fed_stops : (fault : PlayFault) → ((got : Option (List ℕ)) (bytes : List ℕ) → Playing got got1 waits1 now bytes → LeavesAt got got2 waits2 (bytes ++ (piece ++ 10 ∷ [])) Anything fault)
        → (got : Option (List ℕ)) (bytes : List ℕ) → Playing got got0 waits0 old bytes → LeavesAt got got2 waits2 (bytes ++ chunk) Anything fault
    unfolding line
    fed_stops fault stops got bytes playing =
        let all : ((bytes ++ fed.front) ++ (piece ++ 10 ∷ [])) ++ later ≡ bytes ++ chunk =
        append_assoc (bytes ++ fed.front) (piece ++ 10 ∷ []) later ∙ (ap (λ l. (bytes ++ fed.front) ++ l) (sym splits) ∙ (append_assoc bytes fed.front rest ∙ ap (λ l. bytes ++ l) (sym fed.is))) in
        rw all at (stops_more got got2 waits2 ((bytes ++ fed.front) ++ (piece ++ 10 ∷ [])) later fault (stops got (bytes ++ fed.front) (fed.plays got bytes playing)))

  -- all that is left
  pub fed_all : (new : FileRunner) (r : Result (Unit {0}) PlayFault)
      → ((got : Option (List ℕ)) (bytes : List ℕ) → Playing got got1 waits1 now bytes → MatchResult r (λ _. Playing got got2 waits2 new (bytes ++ rest)) (LeavesAt got got2 waits2 (bytes ++ rest) Anything))
      → (got : Option (List ℕ)) (bytes : List ℕ) → Playing got got0 waits0 old bytes → MatchResult r (λ _. Playing got got2 waits2 new (bytes ++ chunk)) (LeavesAt got got2 waits2 (bytes ++ chunk) Anything)
  fed_all new r plays got bytes playing =
      let is : (bytes ++ fed.front) ++ rest ≡ bytes ++ chunk = append_assoc bytes fed.front rest ∙ ap (λ l. bytes ++ l) (sym fed.is) in
      rw is at (plays got (bytes ++ fed.front) (fed.plays got bytes playing))

  pub fed_room : (new : FileRunner) (r : Result (Unit {0}) PlayFault) → OnOk r (Fits now → Fits new × (room new + length rest ≤ room now)) → OnOk r (Fits old → Fits new × (room new + length chunk ≤ room old))
  fed_room new (Ok x) fits =
      let count : length chunk ≡ length fed.front + length rest = ap length fed.is ∙ length-append fed.front rest in
      λ old_fits. (let before = fed.fits old_fits in let after = fits before.0 in (after.0, omega (arith, before.1, after.1, count)))
  fed_room new (Err fault) fits = tt
