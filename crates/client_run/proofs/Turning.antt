-- A turn, and turns one after another.
use Rattle.std.proofs.Common.{true, false, ◌≡◌, ◌⊎◌, ℕ, List, [], ◌∷◌, ◌++◌, Option, Some, None, refl, sym, ap, subst, ◌∙◌, append_assoc, inl, inr}
use Rattle.std.specs.Prelude.{Result, Ok, Err}
use Rattle.gate_outside.specs.Clocks.{ClockTale, Ticks}
use Rattle.client_cache.specs.Cached.{Cached}
use Rattle.client_session.specs.State.{ClientState}
use Rattle.client_session.specs.Step.{Event, Receives, Loses, Asks}
use Rattle.client_run.specs.declared.ending.Ending.{Ending}
use Rattle.client_run.specs.declared.ending.Ending.TheVariants as ending
use Rattle.client_run.specs.declared.fault.DriveFault.{DriveFault}
use Rattle.client_run.specs.declared.fault.DriveFault.TheVariants as fault
use Rattle.client_run.specs.Histories.{lines, Told, Cut, events, StepsAll}
use Rattle.client_run.specs.Drives.{Seen, Sees, seen, Timed}
use Rattle.client_run.specs.Turns.{may_hear, Line, Meets, Ends, Stands, IsToldOf, Moves, TimedBut, Turns, Visits}
use Rattle.client_run.specs.Watched.{WatchTale, HasTold, HasToldFront}
use Rattle.client_run.proofs.Lines.{told_nothing, told_two, told_all, with_lines, lines_more, front_none, front_more}
use Rattle.client_run.proofs.Telling.{events_more, asked_last}
use Rattle.client_run.proofs.Parts.{stopped}

-- ---- one after another

pub steps_more : (a b c : ClientState Cached) (ts us : List Told) → StepsAll a ts b → StepsAll b us c → StepsAll a (ts ++ us) c
steps_more a b c [] us h k = subst (λ (x : ClientState Cached). StepsAll x us c) h k
steps_more a b c (t ∷ ts) us h k = (h.0, (h.1.0, steps_more h.0 b c ts us h.1.1 k))

pub timed_more : (a b c : ClockTale) (es fs : List Event) → Timed a es b → Timed b fs c → Timed a (es ++ fs) c
timed_more a b c [] fs h k = subst (λ (x : ClockTale). Timed x fs c) h k
timed_more a b c (Asks now ∷ es) fs h k = (h.0, (h.1.0, timed_more h.0 b c es fs h.1.1 k))
timed_more a b c (Receives payload now ∷ es) fs h k = (h.0, timed_more a b c es fs h.1 k)
timed_more a b c (Loses code ∷ es) fs h k = timed_more a b c es fs h k

pub sees_none : (t : Seen) → Sees t [] t
sees_none t = record { times = refl; told = told_nothing t.told }

pub sees_more : (a b c : Seen) (es fs : List Event) → Sees a es b → Sees b fs c → Sees a (es ++ fs) c
sees_more a b c es fs h k = record {
  times = timed_more a.clock b.clock c.clock es fs h.times k.times;
  told = subst (λ (ls : List (List ℕ)). HasTold a.told ls c.told) (sym (lines_more es fs)) (told_two a.told b.told c.told (lines es) (lines fs) h.told k.told);
}

-- both tell what they are said to
seen_so : {A : Type 0} (r : Result A DriveFault) (later : Seen) (tick : ClockTale) (known : WatchTale) (ls ms : List (List ℕ)) → ls ≡ ms → later.clock ≡ tick → IsToldOf known ls later.told r
    → (t : WatchTale) × (HasTold known ms t × (((r ≡ Err fault.Memory) × HasToldFront known ms later.told) ⊎ (later ≡ seen tick t)))
seen_so r later tick known ls ms are same (inl e) = (with_lines known ms, (told_all known ms, inl (e.0, subst (λ (l : List (List ℕ)). HasToldFront known l later.told) are e.1)))
seen_so r later tick known ls ms are same (inr e) = (later.told, (subst (λ (l : List (List ℕ)). HasTold known l later.told) are e, inr (ap (λ (c : ClockTale). seen c later.told) same)))

-- ---- a turn

pub asked_once : (before ts : List Told) (now : ℕ) → events ts ≡ Asks now ∷ [] → may_hear false (events (before ++ ts)) ≡ true
asked_once before ts now asks =
    subst (λ (es : List Event). may_hear false es ≡ true) (sym (events_more before ts ∙ ap (λ (es : List Event). events before ++ es) asks)) (asked_last false (events before) now)

-- no dispatch comes by a question
no_lines : (ts us : List Told) (now : ℕ) → events ts ≡ Asks now ∷ [] → lines (events us) ≡ lines (events (ts ++ us))
no_lines ts us now asks = ap (λ (es : List Event). lines (es ++ events us)) (sym asks) ∙ ap lines (sym (events_more ts us))

module _ (before : List Told) (old mid : ClientState Cached) (time : Seen) (tick : ClockTale) (later : Seen) (now : ℕ) (ticks : Ticks time.clock tick now) where
  -- a heartbeat, if one was due, and what came after it
  pub turned : (new : ClientState Cached) (r : Result (Option Ending) DriveFault) (l : Line) (ts : List Told) → StepsAll old ts mid → events ts ≡ Asks now ∷ [] → Moves now (before ++ ts) [] mid new time.told later.told r l
      → later.clock ≡ tick → Turns before old new time later r l
  turned new r l ts steps asks moves same =
      let all = seen_so r later tick time.told (lines (events moves.0)) (lines (events (ts ++ moves.0))) (no_lines ts moves.0 now asks) same moves.1.1.1.0 in (
        ts ++ moves.0,
        (
          steps_more old mid new ts moves.0 steps moves.1.0,
          (
            (
              seen tick all.0,
              (
                record {
                  times = subst (λ (es : List Event). Timed time.clock es tick) (ap (λ (es : List Event). es ++ events moves.0) (sym asks) ∙ sym (events_more ts moves.0)) (tick, (ticks, moves.1.1.0 tick ticks.latest));
                  told = all.1.0;
                },
                all.1.1,
              ),
            ),
            subst (λ (us : List Told). Stands us r l) (append_assoc before ts moves.0) moves.1.1.1.1,
          ),
        ),
      )

  -- memory ran out before it was sent
  pub turned_not : (l : Line) (ts : List Told) → later.told ≡ time.told → StepsAll old ts mid → (events ts ≡ []) ⊎ (events ts ≡ Asks now ∷ []) → Ends (before ++ ts) (Cut None) l → Turns before old mid time later (Err fault.Memory) l
  turned_not l ts same steps (inl none) ends =
      let front = subst (λ (es : List Event). HasToldFront time.told (lines es) later.told) (sym none) (front_none time.told later.told same) in
      (ts, (steps, ((time, (subst (λ (es : List Event). Sees time es time) (sym none) (sees_none time), inl (refl, front))), (None, ends))))
  turned_not l ts same steps (inr asks) ends =
      let front = subst (λ (es : List Event). HasToldFront time.told (lines es) later.told) (sym asks) (front_none time.told later.told same) in
      let asked : Sees time (Asks now ∷ []) (seen tick time.told) = record { times = (tick, (ticks, refl)); told = told_nothing time.told } in
      (ts, (steps, ((seen tick time.told, (subst (λ (es : List Event). Sees time es (seen tick time.told)) (sym asks) asked, inl (refl, front))), (None, ends))))

-- ---- turns

abbrev pub fault_or : {A : Type 0} → DriveFault → Result A DriveFault → DriveFault
fault_or f (Ok x) = f
fault_or f (Err g) = g

-- memory did not run out
pub in_time : {A P : Type 0} {x : A} (later t : Seen) → ((◌≡◌ {A = Result A DriveFault} (Ok x) (Err fault.Memory)) × P) ⊎ (later ≡ t) → later ≡ t
in_time later t (inl e) = let never = e.0 in absurd (cc)
in_time later t (inr e) = e

late : {A B P : Type 0} (f : DriveFault) (later t : Seen) → ((◌≡◌ {A = Result A DriveFault} (Err f) (Err fault.Memory)) × P) ⊎ (later ≡ t) → ((◌≡◌ {A = Result B DriveFault} (Err f) (Err fault.Memory)) × P) ⊎ (later ≡ t)
late {A} {B} f later t (inl e) = inl (ap {B = Result B DriveFault} (λ (g : DriveFault). Err g) (ap (fault_or {A = A} f) e.0), e.1)
late f later t (inr e) = inr e

-- those before, which the loop keeps
abbrev pub Goes : ClientState Cached → ClientState Cached → Seen → Seen → Line → Type 0
Goes old new time later l = (ts : List Told) × (StepsAll old ts new × (Sees time (events ts) later × Meets ts [] l))

module _ (old mid new : ClientState Cached) (time tick later : Seen) (w l : Line) (went : Goes old mid time tick w) where
  more_front : (us : List Told) → HasToldFront tick.told (lines (events us)) later.told → HasToldFront time.told (lines (events (went.0 ++ us))) later.told
  more_front us h =
      subst (λ (ls : List (List ℕ)). HasToldFront time.told ls later.told) (sym (ap lines (events_more went.0 us) ∙ lines_more (events went.0) (events us)))
      (front_more time.told tick.told later.told (lines (events went.0)) (lines (events us)) went.1.1.0.told h)

  more_or : {P : Type 0} (us : List Told) (t : Seen) → (P × HasToldFront tick.told (lines (events us)) later.told) ⊎ (later ≡ t) → (P × HasToldFront time.told (lines (events (went.0 ++ us))) later.told) ⊎ (later ≡ t)
  more_or us t (inl e) = inl (e.0, more_front us e.1)
  more_or us t (inr e) = inr e

  more_time : {A : Type 0} (r : Result A DriveFault) (us : List Told) → TimedBut tick (events us) later r → TimedBut time (events (went.0 ++ us)) later r
  more_time r us t =
      (t.0, (subst (λ (es : List Event). Sees time es t.0) (sym (events_more went.0 us)) (sees_more time tick t.0 (events went.0) (events us) went.1.1.0 t.1.0), more_or us t.0 t.1.1))

  -- the connection goes on
  pub visited_on : (later' : Seen) → later' ≡ later → Turns went.0 mid new tick later (Ok None) l → Goes old new time later' l
  visited_on later' same turn =
      let t = more_time {A = Option Ending} (Ok None) turn.0 turn.1.1.0 in (
        went.0 ++ turn.0,
        (steps_more old mid new went.0 turn.0 went.1.0 turn.1.0, (subst (λ (x : Seen). Sees time (events (went.0 ++ turn.0)) x) (sym (same ∙ in_time later t.0 t.1.1)) t.1.0, turn.1.1.1)),
      )

  -- it has ended
  pub visited_to : (e : Ending) → Turns went.0 mid new tick later (Ok (Some e)) l → Visits old new time later (Ok e) l
  visited_to e turn =
      let t = more_time {A = Option Ending} (Ok (Some e)) turn.0 turn.1.1.0 in
      (went.0 ++ turn.0, (steps_more old mid new went.0 turn.0 went.1.0 turn.1.0, ((t.0, (t.1.0, inr (in_time later t.0 t.1.1))), turn.1.1.1)))

  pub visited_not : (f : DriveFault) → Turns went.0 mid new tick later (Err f) l → Visits old new time later (Err f) l
  visited_not f turn =
      let t = more_time {A = Option Ending} (Err f) turn.0 turn.1.1.0 in
      (went.0 ++ turn.0, (steps_more old mid new went.0 turn.0 went.1.0 turn.1.0, ((t.0, (t.1.0, late f later t.0 t.1.1)), turn.1.1.1)))

-- the watcher stopped the client
pub visited_stop : (old mid : ClientState Cached) (time tick : Seen) (w : Line) → Goes old mid time tick w → Visits old mid time tick (Ok ending.Stopped) w
visited_stop old mid time tick w went = (went.0, (went.1.0, ((tick, (went.1.1.0, inr refl)), stopped went.0 w went.1.1.1)))
