-- A client that was driven, and what went out.
use Rattle.std.proofs.Common.{◌≡◌, ◌⊎◌, ℕ, ◌+◌, List, [], ◌++◌, Bool, true, false, Some, Ok, Err, refl, sym, ap, subst, ◌∙◌, arith, inl, inr, append_assoc, append-nil, length}
use Rattle.std.specs.Prelude.{Result, unwrap_or}
use Rattle.std.specs.declared.option.Option.{Option}
use Rattle.std.proofs.lemmas.Grind.{flat_map-append}
use Rattle.gate_outside.specs.Causes.{Rose}
use Rattle.gate_outside.specs.Streams.{AppendsFront}
use Rattle.gate_outside.proofs.Fronts.{carries_part}
use Rattle.client_cache.specs.Cached.{Cached}
use Rattle.client_session.specs.State.{ClientState}
use Rattle.client_run.specs.declared.driven.Driven.{Driven}
use Rattle.client_run.specs.declared.driven.Driven.TheVariants as driven
use Rattle.client_run.specs.declared.fault.DriveFault.{DriveFault}
use Rattle.client_run.specs.declared.fault.DriveFault.TheVariants as drive
use Rattle.client_run.specs.declared.target.Target.TheVariants.{First}
use Rattle.client_run.specs.Histories.{Visit}
use Rattle.client_run.specs.Drives.{Seen, Drives, Folds, Tells, outside, seen}
use Rattle.client_run.specs.Watched.{WatchTale, text_of, HasTold, HasToldFront}
use Rattle.client_follow.specs.declared.fault.FollowFault.{FollowFault}
use Rattle.client_follow.specs.declared.following.Following.{Following}
use Rattle.client_follow.specs.Follows.{SinkTale, Around, Follows, Says, Writes, IsAnswer, lines_of, before_all, client_of}
use Rattle.client_follow.specs.Watching.{Ends}
use Rattle.client_follow.proofs.Going.{front_longer, writes_after}

-- what the watcher tells, with what waits in it
abbrev pub told_by : (asked count : ℕ) → Bool → SinkTale → WatchTale
told_by asked count failed sink = record { count = Some asked; goal = Some count; got = sink.got; waits = sink.waits; faults = sink.faults; failed = failed }

some_is : (n m : ℕ) → ◌≡◌ {A = Option ℕ} (Some n) (Some m) → n ≡ m
some_is n m e = ap (λ (o : Option ℕ). unwrap_or o 0) e

none_before : (n : ℕ) → 0 + n ≡ n
none_before n = omega arith

-- the watcher before the first dispatch
pub begins : (asked count goal : ℕ) (failed : Bool) (held : List ℕ) (sink : SinkTale) → asked ≡ 0 → goal ≡ count → failed ≡ false → held ≡ [] → told_by asked goal failed (record sink { waits = sink.waits ++ held }) ≡ before_all count sink
begins asked count goal failed held sink none same sound empty =
    ap (λ (n : ℕ). told_by n goal failed (record sink { waits = sink.waits ++ held })) none
    ∙ ap (λ (n : ℕ). told_by 0 n failed (record sink { waits = sink.waits ++ held })) same
    ∙ ap (λ (b : Bool). told_by 0 count b (record sink { waits = sink.waits ++ held })) sound
    ∙ ap (λ (l : List ℕ). told_by 0 count false (record sink { waits = l })) (ap (λ (l : List ℕ). sink.waits ++ l) empty ∙ append-nil sink.waits)

module _ (f : Following) (vs : List Visit) (old new : Around) (client : ClientState Cached) (asked count : ℕ) (failed : Bool) (mid_held : List ℕ) (mid : SinkTale) where
  abbrev pub Drove : Result Driven DriveFault → Type 0
  Drove ended = Drives f.url First vs (outside (client_of f) old.dial (seen old.clock (before_all f.count old.sink))) (outside client new.dial (seen new.clock (told_by asked count failed mid))) ended

  abbrev pub HasWritten : List (List ℕ) → Type 0
  HasWritten ls = HasTold (before_all f.count old.sink) ls (told_by asked count failed mid)

  exact_by : (ended : Result Driven DriveFault) → (ended ≡ Err drive.Memory → ⊥) → (d : Drove ended)
      → ((ended ≡ Err drive.Memory) × HasToldFront (before_all f.count old.sink) (lines_of vs) (told_by asked count failed mid)) ⊎ (seen new.clock (told_by asked count failed mid) ≡ d.seen) → HasWritten (lines_of vs)
  exact_by ended other d (inl e) = absurd (other e.0)
  exact_by ended other d (inr e) = subst (λ (s : Seen). HasTold (before_all f.count old.sink) (lines_of vs) s.told) (sym e) d.goes.sees.told

  -- all lines were written, unless memory ran out
  exact : (ended : Result Driven DriveFault) → (ended ≡ Err drive.Memory → ⊥) → Drove ended → HasWritten (lines_of vs)
  exact ended other d = exact_by ended other d d.time

  front_by : (ended : Result Driven DriveFault) → (d : Drove ended)
      → ((ended ≡ Err drive.Memory) × HasToldFront (before_all f.count old.sink) (lines_of vs) (told_by asked count failed mid)) ⊎ (seen new.clock (told_by asked count failed mid) ≡ d.seen) → HasToldFront (before_all f.count old.sink) (lines_of vs) (told_by asked count failed mid)
  front_by ended d (inl e) = e.1
  front_by ended d (inr e) = record {
    front = lines_of vs;
    rest = [];
    parts = sym (append-nil (lines_of vs));
    told = subst (λ (s : Seen). HasTold (before_all f.count old.sink) (lines_of vs) s.told) (sym e) d.goes.sees.told;
  }

  -- a front of what was to be written, where nothing more was
  front_written : (ended : Result Driven DriveFault) (said : List ℕ) → new.sink.got ≡ mid.got → Drove ended → AppendsFront old.sink.got new.sink.got (old.sink.waits ++ (text_of (lines_of vs) ++ said))
  front_written ended said same d =
      let h = front_by ended d d.time in
      let went : AppendsFront old.sink.got mid.got (old.sink.waits ++ text_of h.front) = carries_part old.sink.got mid.got mid.waits (old.sink.waits ++ text_of h.front) h.told.text in
      let whole : (old.sink.waits ++ text_of h.front) ++ (text_of h.rest ++ said) ≡ old.sink.waits ++ (text_of (lines_of vs) ++ said) =
      append_assoc old.sink.waits (text_of h.front) (text_of h.rest ++ said)
      ∙ ap (λ (l : List ℕ). old.sink.waits ++ l) (sym (append_assoc (text_of h.front) (text_of h.rest) said)
      ∙ ap (λ (l : List ℕ). l ++ said) (sym (flat_map-append (λ (line : List ℕ). line) h.front h.rest) ∙ ap text_of (sym h.parts))) in
      subst (λ (got : Option (List ℕ)). AppendsFront old.sink.got got (old.sink.waits ++ (text_of (lines_of vs) ++ said))) (sym same)
      (subst (λ (l : List ℕ). AppendsFront old.sink.got mid.got l) whole (front_longer old.sink.got mid.got (old.sink.waits ++ text_of h.front) (text_of h.rest ++ said) went))

  -- what is said at the end comes after all lines
  said_after : (ended : Result Driven DriveFault) (said : List ℕ) (result : Result (Unit {0}) FollowFault) → (ended ≡ Err drive.Memory → ⊥) → Drove ended → Writes said mid new.sink result → Writes (text_of (lines_of vs) ++ said) old.sink new.sink result
  said_after ended said result other d w =
      let h = exact ended other d in
      writes_after old.sink mid new.sink (text_of (lines_of vs)) said h.text h.later result w

  sink_failed : (false ≡ true) ⊎ Rose old.sink.faults mid.faults → Rose old.sink.faults mid.faults
  sink_failed (inl e) = absurd (cc)
  sink_failed (inr e) = e

  -- how it went out, and what was answered
  record HasAnswered (ended : Result Driven DriveFault) (said : List ℕ) (result : Result (Unit {0}) FollowFault) : Type 0 where
    answer : IsAnswer ended result
    writes : Writes (text_of (lines_of vs) ++ said) old.sink new.sink result
    as_asked : ended ≡ Ok driven.Finished → length (lines_of vs) ≡ f.count

  answered : (ended : Result Driven DriveFault) (said : List ℕ) (result : Result (Unit {0}) FollowFault) → Drove ended → Tells ((asked ≡ count) × (mid_held ≡ [])) (failed ≡ true) ended → Ends ended said mid new.sink result → HasAnswered ended said result
  answered (Ok driven.Finished) said result d knows e =
      let h = exact (Ok driven.Finished) (λ x. absurd (cc)) d in
      record {
        answer = e.0;
        writes = said_after (Ok driven.Finished) said result (λ x. absurd (cc)) d e.1;
        as_asked = λ _. sym (none_before (length (lines_of vs))) ∙ sym (some_is asked (0 + length (lines_of vs)) h.count) ∙ knows.0 ∙ some_is count f.count h.goal;
      }
  answered (Ok driven.Stopped) said result d knows e =
      let h = exact (Ok driven.Stopped) (λ x. absurd (cc)) d in
      let rose : Rose old.sink.faults new.sink.faults = subst (λ (n : ℕ). Rose old.sink.faults n) (sym e.faults) (sink_failed (h.rose knows)) in
      record {
        answer = inl e.answered;
        writes = subst (λ (r : Result (Unit {0}) FollowFault). Writes (text_of (lines_of vs) ++ said) old.sink new.sink r) (sym e.answered) (front_written (Ok driven.Stopped) said e.got d, rose);
        as_asked = λ x. absurd (cc);
      }
  answered (Err drive.Memory) said result d knows e = record {
    answer = inl e.answered;
    writes = subst (λ (r : Result (Unit {0}) FollowFault). Writes (text_of (lines_of vs) ++ said) old.sink new.sink r) (sym e.answered) (front_written (Err drive.Memory) said e.got d);
    as_asked = λ x. absurd (cc);
  }
  answered (Err drive.Dials) said result d knows e = record { answer = e.0; writes = said_after (Err drive.Dials) said result (λ x. absurd (cc)) d e.1; as_asked = λ x. absurd (cc) }
  answered (Err (drive.Out code)) said result d knows e = record { answer = e.0; writes = said_after (Err (drive.Out code)) said result (λ x. absurd (cc)) d e.1; as_asked = λ x. absurd (cc) }
  answered (Err drive.BadText) said result d knows e = record { answer = e.0; writes = said_after (Err drive.BadText) said result (λ x. absurd (cc)) d e.1; as_asked = λ x. absurd (cc) }

  pub follows : (ended : Result Driven DriveFault) (result : Result (Unit {0}) FollowFault) → Drove ended → Folds (client_of f) vs client → Tells ((asked ≡ count) × (mid_held ≡ [])) (failed ≡ true) ended
      → (said : List ℕ) × Says client.kept ended said × Ends ended said mid new.sink result → Follows f vs old new result
  follows ended result d folds knows e =
      let has = answered ended e.0 result d knows e.2 in
      record {
        client = client;
        ended = ended;
        told = told_by asked count failed mid;
        said = e.0;
        drives = d;
        holds = λ g. folds f.token f.intents g refl;
        count = has.as_asked;
        says = e.1;
        answer = has.answer;
        writes = has.writes;
      }
