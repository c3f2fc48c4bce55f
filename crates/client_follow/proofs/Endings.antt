-- How a client ends, by what is written at the end.
use Rattle.std.proofs.Common.{◌≡◌, ◌⊎◌, ℕ, List, [], ◌++◌, true, false, Ok, Err, refl, sym, ap, subst, ◌∙◌, inl, inr, append_assoc}
use Rattle.std.specs.Prelude.{Result}
use Rattle.std.specs.declared.option.Option.{Option}
use Rattle.std.specs.Io.KnownBytes.{Appends}
use Rattle.std.proofs.KnownBytes.{Appends-nil}
use Rattle.gate_outside.specs.Causes.{Rose}
use Rattle.gate_outside.specs.Streams.{AppendsFront}
use Rattle.client_cache.specs.Cached.{Cached}
use Rattle.client_run.specs.declared.driven.Driven.{Driven}
use Rattle.client_run.specs.declared.driven.Driven.TheVariants as driven
use Rattle.client_run.specs.declared.fault.DriveFault.{DriveFault}
use Rattle.client_run.specs.declared.fault.DriveFault.TheVariants as drive
use Rattle.client_follow.specs.declared.fault.FollowFault.{FollowFault}
use Rattle.client_follow.specs.declared.fault.FollowFault.TheVariants.{Memory}
use Rattle.client_follow.specs.Follows.{SinkTale, sink_tale, Says, Writes, IsAnswer, answer_of}
use Rattle.client_follow.specs.Watching.{IsWritten, Ends, may_write, or_write}

abbrev pub Ended : Cached → Result Driven DriveFault → SinkTale → SinkTale → Result (Unit {0}) FollowFault → Type 0
Ended c ended old new result = (said : List ℕ) × Says c ended said × Ends ended said old new result

-- nothing may be written
pub left_so : (c : Cached) (ended : Result Driven DriveFault) (got : Option (List ℕ)) (waits later_waits : List ℕ) (faults : ℕ) (result : Result (Unit {0}) FollowFault) → may_write ended ≡ false → result ≡ answer_of ended
    → Ended c ended (sink_tale got waits faults) (sink_tale got later_waits faults) result
left_so c (Ok driven.Finished) got waits later_waits faults result shut is = absurd (cc)
left_so c (Ok driven.Stopped) got waits later_waits faults result shut is = ([], refl, record { got = refl; faults = refl; answered = is })
left_so c (Err drive.Dials) got waits later_waits faults result shut is = absurd (cc)
left_so c (Err (drive.Out code)) got waits later_waits faults result shut is = absurd (cc)
left_so c (Err drive.BadText) got waits later_waits faults result shut is = absurd (cc)
left_so c (Err drive.Memory) got waits later_waits faults result shut is = ([], refl, record { got = refl; faults = refl; answered = is })

-- by the answer where something may be written
by_answer : (ended : Result Driven DriveFault) (said : List ℕ) (old new : SinkTale) (result : Result (Unit {0}) FollowFault) → may_write ended ≡ true → IsAnswer ended result × Writes said old new result → Ends ended said old new result
by_answer (Ok driven.Finished) said old new result may h = h
by_answer (Ok driven.Stopped) said old new result may h = absurd (cc)
by_answer (Err drive.Dials) said old new result may h = h
by_answer (Err (drive.Out code)) said old new result may h = h
by_answer (Err drive.BadText) said old new result may h = h
by_answer (Err drive.Memory) said old new result may h = absurd (cc)

-- memory ran out before it was written
pub out_of_memory : (c : Cached) (ended : Result Driven DriveFault) (said : List ℕ) (got : Option (List ℕ)) (waits later_waits : List ℕ) (faults : ℕ) → may_write ended ≡ true → Says c ended said
    → Ended c ended (sink_tale got waits faults) (sink_tale got later_waits faults) (Err Memory)
out_of_memory c ended said got waits later_waits faults may says =
    let none : AppendsFront got got (waits ++ said) = ([], waits ++ said, refl, Appends-nil got) in
    (said, says, by_answer ended said (sink_tale got waits faults) (sink_tale got later_waits faults) (Err Memory) may (inr (inl refl), none))

module _ (said : List ℕ) (old new : SinkTale) where
  -- the whole went out
  whole : (ended : Result Driven DriveFault) → may_write ended ≡ true → Appends old.got new.got (old.waits ++ said) × (new.waits ≡ []) → Writes said old new (answer_of ended)
  whole (Ok driven.Finished) may h = h
  whole (Ok driven.Stopped) may h = absurd (cc)
  whole (Err drive.Dials) may h = inl h.0
  whole (Err (drive.Out code)) may h = inl h.0
  whole (Err drive.BadText) may h = inl h.0
  whole (Err drive.Memory) may h = absurd (cc)

  -- the sink failed
  failed : (ended : Result Driven DriveFault) → may_write ended ≡ true → AppendsFront old.got new.got (old.waits ++ said) × Rose old.faults new.faults → IsAnswer ended (or_write (answer_of ended)) × Writes said old new (or_write (answer_of ended))
  failed (Ok driven.Finished) may h = (inr (inr (refl, refl)), h)
  failed (Ok driven.Stopped) may h = absurd (cc)
  failed (Err drive.Dials) may h = (inl refl, inr h)
  failed (Err (drive.Out code)) may h = (inl refl, inr h)
  failed (Err drive.BadText) may h = (inl refl, inr h)
  failed (Err drive.Memory) may h = absurd (cc)

  written : (ended : Result Driven DriveFault) (result : Result (Unit {0}) FollowFault) → may_write ended ≡ true → IsWritten (answer_of ended) said old new result → IsAnswer ended result × Writes said old new result
  written ended result may (inl h) =
      subst (λ (r : Result (Unit {0}) FollowFault). IsAnswer ended r × Writes said old new r) (sym h.0) (inl refl, whole ended may (h.1, h.2))
  written ended result may (inr (front, inl h)) = subst (λ (r : Result (Unit {0}) FollowFault). IsAnswer ended r × Writes said old new r) (sym h.0) (failed ended may (front, h.1))
  written ended result may (inr (front, inr e)) = subst (λ (r : Result (Unit {0}) FollowFault). IsAnswer ended r × Writes said old new r) (sym e) (inr (inl refl), front)

-- what was said at the end was added to what waits here, and written
pub ends_so : (c : Cached) (ended : Result Driven DriveFault) (said held added : List ℕ) (got : Option (List ℕ)) (waits : List ℕ) (faults : ℕ) (new : SinkTale) (result : Result (Unit {0}) FollowFault)
    → may_write ended ≡ true → Says c ended said → added ≡ held ++ said → IsWritten (answer_of ended) added (sink_tale got waits faults) new result → Ended c ended (sink_tale got (waits ++ held) faults) new result
ends_so c ended said held added got waits faults new result may says is h =
    let longer : waits ++ added ≡ (waits ++ held) ++ said = ap (λ (l : List ℕ). waits ++ l) is ∙ sym (append_assoc waits held said) in
    let moved : IsWritten (answer_of ended) said (sink_tale got (waits ++ held) faults) new result =
    subst (λ (all : List ℕ). ((result ≡ answer_of ended) × Appends got new.got all × (new.waits ≡ [])) ⊎ (AppendsFront got new.got all × (((result ≡ or_write (answer_of ended)) × Rose faults new.faults) ⊎ (result ≡ Err Memory)))) longer h in
    (said, says, by_answer ended said (sink_tale got (waits ++ held) faults) new result may (written said (sink_tale got (waits ++ held) faults) new ended result may moved))
