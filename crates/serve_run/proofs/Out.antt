-- What went out of the texts of a run, and which fault it answers.
use Rattle.std.proofs.Common.{◌≡◌, ◌⊎◌, ⊎_elim, ℕ, Bool, true, false, List, [], ◌++◌, String, string_bytes, Some, None, Result, Ok, Err, IfOk, inl, inr, refl, sym, ap, ◌∙◌, subst, append_assoc, append-nil}
use Rattle.std.specs.Prelude.{IsErrOf}
use Rattle.std.specs.Global.{Global}
use Rattle.std.specs.Option.{unwrap_or}
use Rattle.std.specs.declared.option.Option.{Option}
use Rattle.std.specs.declared.alloc.AllocError.{AllocError}
use Rattle.std.specs.Io.KnownBytes.{Appends}
use Rattle.std.proofs.KnownBytes.{Appends-trans, Appends-nil}
use Rattle.std.proofs.lemmas.Option.{none-some}
use Rattle.edit_fields.specs.declared.fault.LineFault.{LineFault}
use Rattle.gate_outside.specs.Causes.{Rose, FaultHasCause}
use Rattle.gate_outside.specs.Streams.{AppendsFront}
use Rattle.gate_outside.specs.declared.faults.Fault.{Fault}
use Rattle.gate_outside.specs.declared.faults.Fault.TheVariants as outside
use Rattle.serve_run.specs.Faults.{by_sink, sooner}
use Rattle.serve_run.specs.Lines.{stop_line}
use Rattle.serve_run.specs.Served.{IsServed}
use Rattle.serve_run.specs.Services.{Service}
use Rattle.serve_run.specs.declared.fault.ServeFault.{ServeFault}
use Rattle.serve_run.specs.declared.fault.ServeFault.TheVariants.{Memory, Spent, Start, Door, Read, Line, Write}
use Rattle.serve_run.specs.Causes.{AnswersBy, HasServeCause, ShowsFault}
use Rattle.serve_run.specs.Ended.{HasEndedBy, MayHave}
use Rattle.serve_run.specs.Serves.{Serves, told}
use Rattle.serve_run.specs.Writes.{IsText, Puts, Refuses, Tells}

-- ---- fronts

pub none_out : (got : Option (List ℕ)) (text : List ℕ) → AppendsFront got got text
none_out got text = ([], text, refl, Appends-nil got)

-- nothing more went out
stays : (got0 got1 : Option (List ℕ)) (text : List ℕ) → got1 ≡ got0 → AppendsFront got0 got1 text
stays got0 got1 text same = subst (λ got. AppendsFront got0 got text) (sym same) (none_out got0 text)

-- of a text that goes on
longer : (got0 got1 : Option (List ℕ)) (text more : List ℕ) → AppendsFront got0 got1 text → AppendsFront got0 got1 (text ++ more)
longer got0 got1 text more h = (h.0, h.1 ++ more, sym (append_assoc h.0 h.1 more) ∙ ap (λ l. l ++ more) h.2, h.3)

whole : (got0 got1 : Option (List ℕ)) (text : List ℕ) → Appends got0 got1 text → AppendsFront got0 got1 text
whole got0 got1 text h = (text, [], append-nil text, h)

-- after a text that went out whole
behind : (got0 got1 got2 : Option (List ℕ)) (text more : List ℕ) → Appends got0 got1 text → AppendsFront got1 got2 more → AppendsFront got0 got2 (text ++ more)
behind got0 got1 got2 text more first h = (text ++ h.0, h.1, append_assoc text h.0 h.1 ∙ ap (λ l. text ++ l) h.2, Appends-trans got0 got1 got2 text h.0 first h.3)

-- ---- texts that are put

-- what holds of the text that there was memory for
pub of_text : (P : List ℕ → Type 0) (text : Result (String Global) AllocError) (bytes : List ℕ) → IfOk text (λ t. P (string_bytes t)) → IsText text bytes → P bytes
of_text P (Ok t) bytes holds is = subst P is holds
of_text P (Err error) bytes holds is = absurd is

-- what a run writes at its end, by what its parts have left
pub served_by : (s : Service) (guilds : List ℕ) (IsLeft : Service → Type 0) (text : Result (String Global) AllocError) → IfOk text (λ t. (x : Service) → x.guilds ≡ guilds → IsLeft x → IsServed x (string_bytes t))
    → s.guilds ≡ guilds → IsLeft s → IfOk text (λ t. IsServed s (string_bytes t))
served_by s guilds IsLeft (Ok t) holds same left = holds s same left
served_by s guilds IsLeft (Err error) holds same left = tt

-- a sink that refuses
pub puts_fault : (text : String Global) (got0 got1 : Option (List ℕ)) (waits : List ℕ) (sink0 sink1 : ℕ) (f : Fault) (r : Result (Unit {0}) Fault) → r ≡ Err f → AppendsFront got0 got1 (waits ++ string_bytes text)
    → FaultHasCause sink0 sink1 r → Puts (Ok text) got0 got1 waits sink0 sink1 (Err (by_sink f))
puts_fault text got0 got1 waits sink0 sink1 outside.Failed r is front cause = (string_bytes text, (refl, (front, cause.failed (subst (λ q. IsErrOf q outside.Failed) (sym is) refl))))
puts_fault text got0 got1 waits sink0 sink1 outside.Memory r is front cause = inr (string_bytes text, (refl, front))

pub tells_fault : (lines : List ℕ) (got0 got1 : Option (List ℕ)) (waits0 waits1 : List ℕ) (sink0 sink1 : ℕ) (f : Fault) (r : Result (Unit {0}) Fault) → r ≡ Err f → AppendsFront got0 got1 (waits0 ++ lines)
    → FaultHasCause sink0 sink1 r → Tells lines got0 got1 waits0 waits1 sink0 sink1 true (Some (by_sink f))
tells_fault lines got0 got1 waits0 waits1 sink0 sink1 outside.Failed r is front cause = (front, cause.failed (subst (λ q. IsErrOf q outside.Failed) (sym is) refl))
tells_fault lines got0 got1 waits0 waits1 sink0 sink1 outside.Memory r is front cause = front

-- the line of a line that is refused went out, or not
pub refuses : (file line : ℕ) (fault : LineFault) (text : Result (String Global) AllocError) (got0 got1 : Option (List ℕ)) (waits : List ℕ) (sink0 sink1 : ℕ) (r : Result (Unit {0}) ServeFault)
    → IfOk text (λ t. string_bytes t ≡ stop_line file line fault) → Puts text got0 got1 waits sink0 sink1 r → (answered : ServeFault)
    → (r ≡ Err Memory → answered ≡ Memory) → ((r ≡ Err Memory → ⊥) → answered ≡ Line file line fault) → Refuses (Line file line fault) got0 got1 waits sink0 sink1 answered
refuses file line fault text got0 got1 waits sink0 sink1 (Ok u) is puts answered memory else = inl (
  else (λ e. absurd (cc)),
  inl (subst (λ l. Appends got0 got1 (waits ++ l)) (of_text (λ l. l ≡ stop_line file line fault) text puts.0 is puts.1.0) puts.1.1.0),
)
refuses file line fault text got0 got1 waits sink0 sink1 (Err Memory) is puts answered memory else = inr (
  memory refl,
  ⊎_elim inl (λ h. inr (subst (λ l. AppendsFront got0 got1 (waits ++ l)) (of_text (λ l. l ≡ stop_line file line fault) text h.0 is h.1.0) h.1.1)) puts,
)
refuses file line fault text got0 got1 waits sink0 sink1 (Err Write) is puts answered memory else = inl (
  else (λ e. absurd (cc)),
  inr (subst (λ l. AppendsFront got0 got1 (waits ++ l)) (of_text (λ l. l ≡ stop_line file line fault) text puts.0 is puts.1.0) puts.1.1.0, puts.1.1.1),
)
refuses file line fault text got0 got1 waits sink0 sink1 (Err Spent) is puts answered memory else = absurd puts
refuses file line fault text got0 got1 waits sink0 sink1 (Err Start) is puts answered memory else = absurd puts
refuses file line fault text got0 got1 waits sink0 sink1 (Err Door) is puts answered memory else = absurd puts
refuses file line fault text got0 got1 waits sink0 sink1 (Err Read) is puts answered memory else = absurd puts
refuses file line fault text got0 got1 waits sink0 sink1 (Err (Line f l x)) is puts answered memory else = absurd puts

-- ---- the end of a run

module _ (s : Service) (got0 got1 got2 : Option (List ℕ)) (waits0 waits1 : List ℕ) (sink0 sink1 sink2 : ℕ) where
  abbrev lines : List ℕ
  lines = told s

  -- a text behind the lines of the workers
  joins : (text : List ℕ) → (waits0 ++ lines) ++ text ≡ waits0 ++ (lines ++ text)
  joins text = append_assoc waits0 lines text

  abbrev Told : Bool → Option ServeFault → Type 0
  Told started fault = Tells lines got0 got1 waits0 waits1 sink0 sink1 started fault

  abbrev pub Answered : Option ServeFault → Option (List ℕ) → ℕ → Result (Unit {0}) ServeFault → Type 0
  Answered fault got sink r = Serves s got0 got waits0 sink0 sink r × AnswersBy fault sink0 sink r

  -- all lines went out, and then this text
  then_whole : (text : List ℕ) → Told true None → Appends got1 got2 (waits1 ++ text) → Appends got0 got2 (waits0 ++ (lines ++ text))
  then_whole text h more =
      subst (λ l. Appends got0 got2 l) (joins text)
      (Appends-trans got0 got1 got2 (waits0 ++ lines) text h.0 (subst (λ w. Appends got1 got2 (w ++ text)) h.1.0 more))

  -- or a front of it
  then_front : (text : List ℕ) → Told true None → AppendsFront got1 got2 (waits1 ++ text) → AppendsFront got0 got2 (waits0 ++ (lines ++ text))
  then_front text h more =
      subst (λ l. AppendsFront got0 got2 l) (joins text)
      (behind got0 got1 got2 (waits0 ++ lines) text h.0 (subst (λ w. AppendsFront got1 got2 (w ++ text)) h.1.0 more))

  -- a count that rose since
  rose_since : Told true None → Rose sink1 sink2 → Rose sink0 sink2
  rose_since h rose = subst (λ n. Rose n sink2) h.1.1 rose

  -- ---- no part has a fault

  pub at_end : (text : Result (String Global) AllocError) (r : Result (Unit {0}) ServeFault) → IfOk text (λ t. IsServed s (string_bytes t)) → Told true None → Puts text got1 got2 waits1 sink1 sink2 r → Answered None got2 sink2 r
  at_end text (Ok u) is h puts =
      ((puts.0, (of_text (IsServed s) text puts.0 is puts.1.0, then_whole puts.0 h puts.1.1.0)), (refl, puts.1.1.1 ∙ h.1.1))
  at_end text (Err Memory) is h puts = (
    ⊎_elim (λ same. inl (stays_so same))
        (λ some. inr (some.0, (inl (of_text (IsServed s) text some.0 is some.1.0), then_front some.0 h some.1.1))) puts,
    tt,
  )
    where
      stays_so : got2 ≡ got1 → AppendsFront got0 got2 (waits0 ++ lines)
      stays_so same = subst (λ got. AppendsFront got0 got (waits0 ++ lines)) (sym same) (whole got0 got1 (waits0 ++ lines) h.0)
  at_end text (Err Write) is h puts =
      (inr (puts.0, (of_text (IsServed s) text puts.0 is puts.1.0, then_front puts.0 h puts.1.1.0)), (refl, rose_since h puts.1.1.1))
  at_end text (Err Spent) is h puts = absurd puts
  at_end text (Err Start) is h puts = absurd puts
  at_end text (Err Door) is h puts = absurd puts
  at_end text (Err Read) is h puts = absurd puts
  at_end text (Err (Line f l x)) is h puts = absurd puts

  -- ---- a part has a fault, and all lines went out or none

  as_is : (f answered : ServeFault) → answered ≡ f → Answered (Some f) got2 sink2 (Err f) → Answered (Some f) got2 sink2 (Err answered)
  as_is f answered e h = subst (λ x. Answered (Some f) got2 sink2 (Err x)) (sym e) h

  -- nothing went out at all
  silent : Told false None → got2 ≡ got1 → got2 ≡ got0
  silent h same = same ∙ h.1.0

  -- all lines went out, and nothing more
  lines_alone : Told true None → got2 ≡ got1 → Appends got0 got2 (waits0 ++ lines)
  lines_alone h same = subst (λ got. Appends got0 got (waits0 ++ lines)) (sym same) h.0

  of_line : (file line : ℕ) (fault : LineFault) (answered : ServeFault) → Told true None → Refuses (Line file line fault) got1 got2 waits1 sink1 sink2 answered → Answered (Some (Line file line fault)) got2 sink2 (Err answered)
  of_line file line fault answered h (inl r) = as_is (Line file line fault) answered r.0 (
    ⊎_elim (λ w. inl (then_whole (stop_line file line fault) h w)) (λ f. inr (then_front (stop_line file line fault) h f.0, rose_since h f.1)) r.1,
    refl,
  )
  of_line file line fault answered h (inr r) = subst (λ x. Answered (Some (Line file line fault)) got2 sink2 (Err x)) (sym r.0) (
    ⊎_elim (λ same. inl (whole got0 got2 (waits0 ++ lines) (lines_alone h same)))
        (λ f. inr (stop_line file line fault, (inr (file, line, (fault, refl)), then_front (stop_line file line fault) h f))) r.1,
    tt,
  )

  pub at_fault : (started : Bool) (f answered : ServeFault) → MayHave started (Some f) → Told started None → Refuses f got1 got2 waits1 sink1 sink2 answered → Answered (Some f) got2 sink2 (Err answered)
  at_fault false Memory answered may h r = as_is Memory answered r.0 (inl (stays got0 got2 (waits0 ++ lines) (silent h r.1.0)), tt)
  at_fault false Spent answered may h r = as_is Spent answered r.0 (stays got0 got2 (waits0 ++ lines) (silent h r.1.0), refl)
  at_fault false Start answered may h r = as_is Start answered r.0 (silent h r.1.0, refl)
  at_fault false Door answered may h r = absurd (cc)
  at_fault false Read answered may h r = absurd (cc)
  at_fault false (Line file line fault) answered may h r = absurd (cc)
  at_fault false Write answered may h r = absurd may
  at_fault true Memory answered may h r = as_is Memory answered r.0 (inl (whole got0 got2 (waits0 ++ lines) (lines_alone h r.1.0)), tt)
  at_fault true Spent answered may h r = as_is Spent answered r.0 (whole got0 got2 (waits0 ++ lines) (lines_alone h r.1.0), refl)
  at_fault true Start answered may h r = absurd (cc)
  at_fault true Door answered may h r = as_is Door answered r.0 (inl (lines_alone h r.1.0), refl)
  at_fault true Read answered may h r = as_is Read answered r.0 (inl (lines_alone h r.1.0), refl)
  at_fault true (Line file line fault) answered may h r = of_line file line fault answered h r
  at_fault true Write answered may h r = absurd may

-- ---- not all lines went out

module _ (s : Service) (got0 got1 : Option (List ℕ)) (waits0 waits1 : List ℕ) (sink0 sink1 : ℕ) where
  -- which of two faults is answered
  abbrev pub goes_first : Option ServeFault → ServeFault → ServeFault
  goes_first fault of_lines = unwrap_or (sooner fault (Some of_lines)) of_lines

  abbrev Ends : Option ServeFault → ServeFault → Type 0
  Ends fault answered = Serves s got0 got1 waits0 sink0 sink1 (Err answered) × AnswersBy fault sink0 sink1 (Err answered)

  by_write : (fault : Option ServeFault) → MayHave true fault → AppendsFront got0 got1 (waits0 ++ told s) × Rose sink0 sink1 → Ends fault (goes_first fault Write)
  by_write None may h = (inl h.0, (refl, h.1))
  by_write (Some Memory) may h = (inl h.0, tt)
  by_write (Some Spent) may h = (h.0, refl)
  by_write (Some Start) may h = absurd (cc)
  by_write (Some Door) may h = (inr h, refl)
  by_write (Some Read) may h = (inr h, refl)
  by_write (Some (Line file line fault)) may h =
      let more = stop_line file line fault in
      (inr (subst (λ l. AppendsFront got0 got1 l) (append_assoc waits0 (told s) more) (longer got0 got1 (waits0 ++ told s) more h.0), h.1), refl)
  by_write (Some Write) may h = absurd may

  by_memory : (fault : Option ServeFault) → MayHave true fault → AppendsFront got0 got1 (waits0 ++ told s) → Ends fault (goes_first fault Memory)
  by_memory None may h = (inl h, tt)
  by_memory (Some Memory) may h = (inl h, tt)
  by_memory (Some Spent) may h = (inl h, tt)
  by_memory (Some Start) may h = (inl h, tt)
  by_memory (Some Door) may h = (inl h, tt)
  by_memory (Some Read) may h = (inl h, tt)
  by_memory (Some (Line file line fault)) may h = (inl h, tt)
  by_memory (Some Write) may h = (inl h, tt)

  pub at_lines : (started : Bool) (fault : Option ServeFault) (of_lines : ServeFault) → MayHave started fault → Tells (told s) got0 got1 waits0 waits1 sink0 sink1 started (Some of_lines) → Ends fault (goes_first fault of_lines)
  at_lines false fault of_lines may h = absurd (none-some of_lines (sym h.0))
  at_lines true fault Memory may h = by_memory fault may h
  at_lines true fault Write may h = by_write fault may h
  at_lines true fault Spent may h = absurd h
  at_lines true fault Start may h = absurd h
  at_lines true fault Door may h = absurd h
  at_lines true fault Read may h = absurd h
  at_lines true fault (Line file line wrong) may h = absurd h

-- ---- why the run ended so

module _ (R : Type 0) (s : Service) (team0 team1 sink0 sink1 : ℕ) (sources doors : List ℕ) (started : Bool) (fault : Option ServeFault) (ended : HasEndedBy R s started fault) (may : MayHave started fault)
    (sound : started ≡ true → team1 ≡ team0) (rose : started ≡ false → Rose team0 team1) (shows : ShowsFault sources doors fault) where
  -- where this is their fault
  with_fault : (f : Option ServeFault) → fault ≡ f → HasEndedBy R s started f × MayHave started f
  with_fault f e = (subst (λ x. HasEndedBy R s started x) e ended, subst (λ x. MayHave started x) e may)

  -- where all were started
  with_all : (f : Option ServeFault) → fault ≡ f → started ≡ true → HasEndedBy R s true f
  with_all f e every_one = subst (λ b. HasEndedBy R s b f) every_one (with_fault f e).0

  pub has_cause : (r : Result (Unit {0}) ServeFault) → AnswersBy fault sink0 sink1 r → HasServeCause R s team0 team1 sink0 sink1 sources doors r
  has_cause (Ok u) by =
      let every_one = (with_fault None by.0).1 in
      (with_all None by.0 every_one, (sound every_one, by.1))
  has_cause (Err Memory) by = tt
  has_cause (Err Spent) by = (started, (with_fault (Some Spent) by).0)
  has_cause (Err Start) by =
      let at = with_fault (Some Start) by in
      (subst (λ b. HasEndedBy R s b (Some Start)) at.1 at.0, rose at.1)
  has_cause (Err Door) by = (with_all (Some Door) by (with_fault (Some Door) by).1, subst (ShowsFault sources doors) by shows)
  has_cause (Err Read) by = (with_all (Some Read) by (with_fault (Some Read) by).1, subst (ShowsFault sources doors) by shows)
  has_cause (Err (Line file line wrong)) by = with_all (Some (Line file line wrong)) by (with_fault (Some (Line file line wrong)) by).1
  has_cause (Err Write) by = (with_all None by.0 (with_fault None by.0).1, by.1)
