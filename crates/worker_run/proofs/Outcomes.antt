-- What a worker has done when its loop has ended.
use Rattle.std.proofs.Common.{◌≡◌, ℕ, ◌+◌, ◌<◌, List, [], true, false, Option, Result, Ok, Err, OnOk, All, inl, map, length, refl, sym, subst, ◌∙◌, append-nil, arith}
use Rattle.std.proofs.lemmas.Bool.{false≢true}
use Rattle.gate_outside.specs.Causes.{Rose}
use Rattle.gate_outside.specs.Clocks.{ClockTale}
use Rattle.gate_outside.specs.Doors.{DoorTale}
use Rattle.gate_outside.specs.Links.{ReturnedLink}
use Rattle.open_links.specs.Courses.{Events}
use Rattle.open_links.specs.Links.{Holding, no_links, Meets, AllMeet}
use Rattle.open_links.specs.Calls.{IsSameDoor}
use Rattle.open_links.proofs.Composing.{meets_first, none_all_over, none_all_meet}
use Rattle.guild_hub.specs.Sights.{Seeing}
use Rattle.edit_post.specs.Post.{PostId, Sender, after_end}
use Rattle.world_law.specs.Model.{Worker}
use Rattle.world_law.specs.TheLaw.{all_taken, TheLaw}
use Rattle.worker_core.specs.declared.io.Input.{Input as Given}
use Rattle.worker_core.specs.InCode.{wire_text, KeptWorker}
use Rattle.worker_core.specs.Represents.{Represents}
use Rattle.worker_run.specs.Histories.{History, inputs, events}
use Rattle.worker_run.specs.Workers.{Follows, FollowsAll, IsFront}
use Rattle.worker_run.specs.Hubs.{IsReader, HasSeenAll}
use Rattle.guild_places.specs.Places.{AreDistinct, guilds_of}
use Rattle.worker_run.specs.Notes.{AreNoted}
use Rattle.worker_run.specs.Turns.{AreTurns}
use Rattle.guild_posts.specs.Posts.{ArePasses}
use Rattle.worker_run.specs.Moves.{Serving, Now, now, IsReady, CountsLinks}
use Rattle.worker_run.specs.Faults.{DoorFails}
use Rattle.worker_run.specs.Running.{serving, Leaves, Runs, Reports}
use Rattle.worker_run.specs.Works.{outside, IsWhole, OfEach, IsReport, Answers, Works}
use Rattle.worker_run.specs.declared.fault.WorkFault.{WorkFault}
use Rattle.worker_run.specs.declared.fault.WorkFault.TheVariants as fault
use Rattle.worker_run.specs.declared.report.WorkReport.{WorkReport}
use Rattle.worker_run.proofs.Hubs.{all_read_none}
use Rattle.worker_run.proofs.GoingOut.{goes_to_open}
use Rattle.worker_run.proofs.Law.{law_is_met}
use Rattle.worker_run.proofs.Notes.{noted_none}
use Rattle.worker_run.proofs.Shapes.{no_turns, turns_of_whole}
use Rattle.guild_posts.proofs.Sent.{sent_none}
use Rattle.worker_run.proofs.Workers.{front_follows}

-- ---- before the first turn

pub ready_at_start : (posts : List PostId) (k : KeptWorker) (readers : List (ℕ × Seeing)) (passes : List Sender) (s : Serving) (door : DoorTale) → s ≡ serving k no_links readers passes false
    → 0 < length posts → ArePasses posts passes → All IsReader readers → AreDistinct (guilds_of readers) → IsReady posts s door
ready_at_start posts k readers passes s door is some are all distinct =
    subst (λ (v : Serving). IsReady posts v door) (sym is)
    (record { some = some; passes = are; readers = all; distinct = distinct; within = omega arith; ended = λ e. absurd (false≢true e) })

-- ---- the door takes the links back

pub handed_back : (o p : Holding) (x y : Option (List ReturnedLink)) → o ≡ p
    → ((es : Events) (before : Option (List ReturnedLink)) → Meets es o before x → AllMeet es o.count before y)
    → (es : Events) (before : Option (List ReturnedLink)) → Meets es p before x → AllMeet es p.count before y
handed_back o p x y same back es before =
    subst (λ (q : Holding). Meets es q before x → AllMeet es q.count before y) same (back es before)

-- ---- memory ran out before the first turn

pub works_not : TheLaw → (k : KeptWorker) (door : DoorTale) (faults : ℕ) (clock : ClockTale) (readers : List (ℕ × Seeing)) (passes ended : List Sender) (noted : Option (List Given))
    → All IsReader readers → ended ≡ map after_end passes → Works k [] (outside door faults clock readers passes noted) (outside door faults clock readers ended noted) (Err fault.Memory)
works_not law k door faults clock readers passes ended noted all is =
    let turns : AreTurns (guilds_of readers) [] = turns_of_whole (guilds_of readers) [] (no_turns (guilds_of readers)) in
    record {
      turns = turns;
      readers = all_read_none readers all;
      ticks = refl;
      count = 0;
      given = omega arith;
      links = none_all_meet [] no_links door.returned door.returned refl (meets_first door.returned);
      sent = passes;
      wishes = sent_none (guilds_of readers) passes;
      passes = is;
      gives = λ w represents. ([], refl);
      to_open = λ w represents bots guilds number url first. tt;
      law = λ w represents bots guilds number url. law_is_met law.workers [] readers readers turns (all_read_none readers all) w bots guilds number url;
      answers = inl (noted_none noted);
      failed = refl;
    }

-- ---- after the last turn

module _ (law : TheLaw) (k : KeptWorker) (readers : List (ℕ × Seeing)) (passes : List Sender) (s : Serving) (d0 d1 d2 : DoorTale) (n0 n1 n2 : ℕ) (c0 c1 : ClockTale) (m0 m1 : Option (List Given)) where
  abbrev began : Now
  began = now (serving k no_links readers passes false) d0.returned m0 c0

  abbrev ended : Now
  ended = now s d1.returned m1 c1

  whole_given : (h : History) → FollowsAll k h [] s.worker → OfEach k (IsWhole h)
  whole_given h follows w is =
      let here : Follows k h [] s.worker w = follows w is in
      record { given = sym (append-nil h) ∙ here.whole; unspent = here.unspent }

  -- all that went out is a front of what is owed
  front_given : (h : History) (worked : Result (Unit {0}) WorkFault) → Leaves h worked began ended → IsFront k h
  front_given h (Ok u) leaves = front_follows k s.worker h [] leaves.0
  front_given h (Err fault.Door) leaves = front_follows k s.worker h [] leaves.0
  front_given h (Err fault.Quit) leaves = front_follows k s.worker h [] leaves.0
  front_given h (Err fault.Spent) leaves = leaves.0
  front_given h (Err fault.Memory) leaves = leaves.0

  reported : (h : History) (report : WorkReport) → FollowsAll k h [] s.worker → Reports s.worker s.links.count report → OfEach k (IsReport h s.links.count report)
  reported h report follows reports w is =
      let after : Worker = all_taken wire_text w (inputs h) in
      let here : Represents s.worker after = (follows w is).represents in
      record { connections = reports.connections; sessions = reports.sessions after here; dispatches = reports.dispatches after here }

  module _ (h : History) (worked : Result (Unit {0}) WorkFault) (runs : Runs h worked began ended) (same : IsSameDoor d1 d2) where
    links_meet : Meets (events h) s.links d0.returned d1.returned
    links_meet = runs.links [] d0.returned (meets_first d0.returned)

    works_by : (result : Result WorkReport WorkFault) → CountsLinks (serving k no_links readers passes false) s d0 d1
        → ((es : Events) (before : Option (List ReturnedLink)) → Meets es s.links before d1.returned → AllMeet es s.links.count before d2.returned)
        → Answers k h s.links.count (outside d0 n0 c0 readers passes m0) (outside d2 n2 c1 s.readers s.passes m1) result → DoorFails n0 n2 result
        → Works k h (outside d0 n0 c0 readers passes m0) (outside d2 n2 c1 s.readers s.passes m1) result
    works_by result counts back answers failed =
        let more : d1.given + 0 ≡ d0.given + s.links.count = counts in
        record {
          turns = runs.turns;
          readers = runs.readers;
          ticks = runs.clock;
          count = s.links.count;
          given = omega (arith, more, same.given);
          links = back (events h) d0.returned links_meet;
          sent = runs.sent;
          wishes = runs.wishes;
          passes = runs.passes;
          gives = front_given h worked runs.leaves;
          to_open = λ w represents. goes_to_open law.outputs h w (front_given h worked runs.leaves w represents) links_meet.in_place;
          law = λ w represents bots guilds number url. law_is_met law.workers (inputs h) readers s.readers runs.turns runs.readers w bots guilds number url;
          answers = answers;
          failed = failed;
        }

    answers_ok : (report : WorkReport) → FollowsAll k h [] s.worker → AreNoted (inputs h) m0 m1 → (d1.ended ≡ true) × (s.links.links ≡ []) × All HasSeenAll s.readers → Reports s.worker s.links.count report
        → Answers k h s.links.count (outside d0 n0 c0 readers passes m0) (outside d2 n2 c1 s.readers s.passes m1) (Ok report)
    answers_ok report follows noted over reports = (
      record { logs = over.2; door = same.ended ∙ over.0; connections = none_all_over (events h) s.links d0.returned d1.returned over.1 links_meet },
      (whole_given h follows, (noted, reported h report follows reports)),
    )

  answers_err : (h : History) (f : WorkFault) → Leaves h (Err f) began ended → DoorFails {T = Unit {0}} n0 n1 (Err f) → n2 ≡ n1
      → Answers k h s.links.count (outside d0 n0 c0 readers passes m0) (outside d2 n2 c1 s.readers s.passes m1) (Err f)
  answers_err h fault.Door leaves rose faults = (subst (λ n. Rose n0 n) (sym faults) rose, (whole_given h leaves.0, leaves.1))
  answers_err h fault.Quit leaves rose faults = (leaves.1.1, (whole_given h leaves.0, leaves.1.0))
  answers_err h fault.Spent leaves rose faults = (leaves.1.1, leaves.1.0)
  answers_err h fault.Memory leaves rose faults = leaves.1

-- links that the door takes back leave its count
failed_at : (n0 n1 n2 : ℕ) (f : WorkFault) → DoorFails {T = Unit {0}} n0 n1 (Err f) → n2 ≡ n1 → DoorFails {T = WorkReport} n0 n2 (Err f)
failed_at n0 n1 n2 fault.Door cause same = subst (λ n. Rose n0 n) (sym same) cause
failed_at n0 n1 n2 fault.Quit cause same = same ∙ cause
failed_at n0 n1 n2 fault.Spent cause same = same ∙ cause
failed_at n0 n1 n2 fault.Memory cause same = same ∙ cause

-- what `run` and `hand_back` leave, and what `work` makes of it
pub record HasRun (k : KeptWorker) (readers back_readers : List (ℕ × Seeing)) (passes back_passes : List Sender) (start s : Serving) (d0 d1 d2 : DoorTale) (n0 n1 n2 : ℕ) (c0 c1 : ClockTale) (m0 m1 : Option (List Given)) (worked : Result (Unit {0}) WorkFault) : Type 0 where
  pub law : TheLaw
  pub starts : start ≡ serving k no_links readers passes false
  pub counts : CountsLinks start s d0 d1
  pub cause : DoorFails n0 n1 worked
  pub over : OnOk worked ((d1.ended ≡ true) × (s.links.links ≡ []) × All HasSeenAll s.readers)
  pub runs : (h : History) × Runs h worked (now start d0.returned m0 c0) (now s d1.returned m1 c1)
  pub back : (es : Events) (before : Option (List ReturnedLink)) → Meets es s.links before d1.returned → AllMeet es s.links.count before d2.returned
  pub same : IsSameDoor d1 d2
  pub faults : n2 ≡ n1
  pub readers_back : back_readers ≡ s.readers
  pub passes_back : back_passes ≡ s.passes

module _ (k : KeptWorker) (readers back_readers : List (ℕ × Seeing)) (passes back_passes : List Sender) (start s : Serving) (d0 d1 d2 : DoorTale) (n0 n1 n2 : ℕ) (c0 c1 : ClockTale) (m0 m1 : Option (List Given)) where
  -- where the readers and the passes are that of the worker at its end
  works_back : (result : Result WorkReport WorkFault) → back_readers ≡ s.readers → back_passes ≡ s.passes
      → (h : History) × Works k h (outside d0 n0 c0 readers passes m0) (outside d2 n2 c1 s.readers s.passes m1) result
      → (h : History) × Works k h (outside d0 n0 c0 readers passes m0) (outside d2 n2 c1 back_readers back_passes m1) result
  works_back result rs ps works =
      subst (λ (l : List (ℕ × Seeing)). (h : History) × Works k h (outside d0 n0 c0 readers passes m0) (outside d2 n2 c1 l back_passes m1) result) (sym rs)
      (subst (λ (l : List Sender). (h : History) × Works k h (outside d0 n0 c0 readers passes m0) (outside d2 n2 c1 s.readers l m1) result) (sym ps) works)

  abbrev Ran : Result (Unit {0}) WorkFault → Type 0
  Ran worked = HasRun k readers back_readers passes back_passes start s d0 d1 d2 n0 n1 n2 c0 c1 m0 m1 worked

  abbrev first : Serving
  first = serving k no_links readers passes false

  runs_from : (worked : Result (Unit {0}) WorkFault) → Ran worked → (h : History) × Runs h worked (now first d0.returned m0 c0) (now s d1.returned m1 c1)
  runs_from worked ran = subst (λ (v : Serving). (h : History) × Runs h worked (now v d0.returned m0 c0) (now s d1.returned m1 c1)) ran.starts ran.runs

  counts_from : (worked : Result (Unit {0}) WorkFault) → Ran worked → CountsLinks first s d0 d1
  counts_from worked ran = subst (λ (v : Serving). CountsLinks v s d0 d1) ran.starts ran.counts

  pub works_whole : (worked : Result (Unit {0}) WorkFault) (u : Unit {0}) (report : WorkReport) → worked ≡ Ok u → Ran worked → Reports s.worker s.links.count report
      → (h : History) × Works k h (outside d0 n0 c0 readers passes m0) (outside d2 n2 c1 back_readers back_passes m1) (Ok report)
  works_whole worked u report is ran reports =
      let done : Ran (Ok u) = subst (λ (q : Result (Unit {0}) WorkFault). Ran q) is ran in
      let went = runs_from (Ok u) done in
      let h : History = went.0 in
      let runs : Runs h (Ok u) (now first d0.returned m0 c0) (now s d1.returned m1 c1) = went.1 in
      works_back (Ok report) ran.readers_back ran.passes_back (
        h,
        works_by ran.law k readers passes s d0 d1 d2 n0 n1 n2 c0 c1 m0 m1 h (Ok u) runs ran.same (Ok report) (counts_from (Ok u) done) ran.back
            (answers_ok ran.law k readers passes s d0 d1 d2 n0 n1 n2 c0 c1 m0 m1 h (Ok u) runs ran.same report runs.leaves.0 runs.leaves.1 done.over reports) (ran.faults ∙ done.cause),
      )

  pub works_cut : (worked : Result (Unit {0}) WorkFault) (result : Result WorkReport WorkFault) (f : WorkFault) → worked ≡ Err f → result ≡ Err f → Ran worked
      → (h : History) × Works k h (outside d0 n0 c0 readers passes m0) (outside d2 n2 c1 back_readers back_passes m1) result
  works_cut worked result f was is ran =
      let done : Ran (Err f) = subst (λ (q : Result (Unit {0}) WorkFault). Ran q) was ran in
      let went = runs_from (Err f) done in
      let h : History = went.0 in
      let runs : Runs h (Err f) (now first d0.returned m0 c0) (now s d1.returned m1 c1) = went.1 in
      subst (λ (q : Result WorkReport WorkFault). (h : History) × Works k h (outside d0 n0 c0 readers passes m0) (outside d2 n2 c1 back_readers back_passes m1) q) (sym is)
      (works_back (Err f) ran.readers_back ran.passes_back (
        h,
        works_by ran.law k readers passes s d0 d1 d2 n0 n1 n2 c0 c1 m0 m1 h (Err f) runs ran.same (Err f) (counts_from (Err f) done) ran.back
            (answers_err ran.law k readers passes s d0 d1 d2 n0 n1 n2 c0 c1 m0 m1 h f runs.leaves done.cause ran.faults) (failed_at n0 n1 n2 f done.cause ran.faults),
      ))
