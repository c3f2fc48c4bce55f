-- A text of the client on its connection: how far the worker and the client are after it, and by which codes it is closed.
use Rattle.std.proofs.Common.{◌≡◌, ℕ, ◌+◌, ◌-◌, ◌<◌, ◌≤◌, ◌^◌, List, [], ◌∷◌, ◌++◌, Bool, true, false, Option, Some, None, Result, Ok, Err, if◌then◌else◌, length, refl, sym, ap, subst, ◌∙◌, arith, ◌⊎◌, inl, inr}
use Rattle.std.specs.Prelude.{◌&&◌, nat_lt, is_some, option_map}
use Rattle.std.specs.List.{find}
use Rattle.std.specs.Str.{bytes_eq}
use Rattle.std.proofs.lemmas.Bool.{true≢false, and_parts}
use Rattle.std.proofs.lemmas.Bool.Decides.{nat_tests}
use Rattle.std.proofs.lemmas.List.{length-append}
use Rattle.std.proofs.lemmas.Option.{same_Some}
use Rattle.std.proofs.lemmas.Slice.Eq.{bytes_eq-Decides}
use Rattle.dispatch_types.specs.declared.dispatch.Dispatch.{Dispatch}
use Rattle.gateway_frames.specs.declared.frame.Frame.{Frame as AFrame}
use Rattle.gateway_frames.specs.declared.frame.Frame.TheVariants as frame
use Rattle.gateway_frames.specs.declared.frame.Identify.{Identify as AnIdentify}
use Rattle.gateway_frames.specs.declared.frame.Resume.{Resume as AResume}
use Rattle.gateway_frames.specs.declared.fault.FrameFault.{FrameFault}
use Rattle.gateway_frames.specs.Read.{frame_of}
use Rattle.session_core.specs.declared.bot.Bot.{Bot}
use Rattle.session_core.specs.State.{Session, is_on, is_live, has_connection, number_on}
use Rattle.session_core.specs.Identify.{identified, viewer_of}
use Rattle.session_core.specs.Rate.{is_rated}
use Rattle.session_core.specs.Frames.{Move, Nothing, ClosesWith, Begins, identify_move, fault_code, read_move, move_before_session}
use Rattle.session_core.specs.Resume.{session_id, session_named}
use Rattle.client_session.specs.declared.session.Session.{Session as ClientSession}
use Rattle.client_session.specs.Table.{resume, frame_text}
use Rattle.world_law.specs.Frames.{move_at}
use Rattle.world_law.specs.Inputs.{Frame, taken, outputs}
use Rattle.world_law.specs.Model.{Worker, in_model, replay}
use Rattle.world_law.specs.Resumes.{Reaches, ResumeHolds, Covers, EachResumeHolds}
use Rattle.world_law.specs.Sends.{AreOff}
use Rattle.world_law.specs.Sent.{Sent, dispatches}
use Rattle.world_law.proofs.Alone.{IsSound}
use Rattle.world_law.proofs.GoesOn.{each_resume_holds}
use Rattle.world_law.proofs.Resumes.{found_meets}
use Rattle.world_law.proofs.Workers.{Follows}
use Rattle.two_ends.specs.Flights.{ReadsBack}
use Rattle.two_ends.proofs.Among.{IsAmong, all_among, found_among, among_here}
use Rattle.two_ends.proofs.Minds.{Item, Mind, SessionKeeps, WorkerKeeps, Known, Knows}
use Rattle.two_ends.proofs.Stages.{AreStill, IsBeat, AreBeats, IsFirst, Asks, Stage}
use Rattle.two_ends.proofs.Arriving.{made_by, gives_by, Leaves, plain_leaves, beat_plain}
use Rattle.two_ends.proofs.Opening.{spent_leaves, denied_leaves, begins_leaves, goes_on_leaves}
use Rattle.two_ends.proofs.Places.{same_number, same_session, among_below}

-- ---- the first text on its way to the worker is a heartbeat, or the client's first frame

pub record Opens (intents : ℕ) (m : Mind) (is : List Item) (t : List ℕ) (later : List (List ℕ)) : Type 0 where
  pub still : AreStill is
  pub frame : AFrame
  pub first : IsFirst intents m frame
  pub text : t ≡ frame_text frame
  pub beats : AreBeats later

module _ (intents worker conn : ℕ) (m : Mind) (xs : List (Session Sent)) (is : List Item) (t : List ℕ) (later : List (List ℕ)) where
  asks_next : (asks : Asks intents m is (t ∷ later)) → (front : List (List ℕ)) → asks.front ≡ front → (IsBeat t × Asks intents m is later) ⊎ Opens intents m is t later
  asks_next asks [] e =
      let split : t ∷ later ≡ frame_text asks.frame ∷ asks.back = asks.split ∙ ap (λ (ts : List (List ℕ)). ts ++ frame_text asks.frame ∷ asks.back) e in
      let rest : later ≡ asks.back = cc split in
      inr (record { still = asks.still; frame = asks.frame; first = asks.first; text = cc split; beats = subst AreBeats (sym rest) asks.later })
  asks_next asks (f ∷ front) e =
      let split : t ∷ later ≡ f ∷ (front ++ frame_text asks.frame ∷ asks.back) = asks.split ∙ ap (λ (ts : List (List ℕ)). ts ++ frame_text asks.frame ∷ asks.back) e in
      let beats : AreBeats (f ∷ front) = subst AreBeats e asks.before in
      let same : t ≡ f = cc split in
      inl (
        subst IsBeat (sym same) beats.0,
        record { still = asks.still; frame = asks.frame; first = asks.first; front = front; back = asks.back; split = cc split; before = beats.1; later = asks.later },
      )

  pub next_text : Stage intents worker m conn xs is (t ∷ later) → (IsBeat t × Stage intents worker m conn xs is later) ⊎ (AreOff conn xs × Opens intents m is t later)
  next_text stage = elim stage [
    | inl off ↦ elim off.1 [
      | inl waits ↦ inl (waits.beats.0, inl (off.0, inl (record { prompt = waits.prompt; which = waits.which; front = waits.front; back = waits.back; split = waits.split; before = waits.before; later = waits.later; beats = waits.beats.1 })))
      | inr asks ↦ elim (asks_next asks asks.front refl) [
        | inl beat ↦ inl (beat.0, inl (off.0, inr beat.1))
        | inr opens ↦ inr (off.0, opens)
      ]
    ]
    | inr has ↦ inl (has.beats.0, inr (record { ends = has.ends; late = has.late; beats = has.beats.1 }))
  ]

-- ---- the first frame

resume_holds : (text : ℕ → Dispatch → List ℕ) (w : Worker) (conn : ℕ) (received : List ℕ) (r : AResume) → Reaches w conn received r
    → ResumeHolds text w conn r (taken (in_model text) w (Frame conn received)) (outputs (in_model text) w (Frame conn received))
unfolding EachResumeHolds
resume_holds text w conn received r reaches = each_resume_holds text w conn received r reaches

-- the live session of an id
pub named_session : (w : Worker) (id : List ℕ) (x : Session Sent) → session_named id w.core ≡ Some x
    → IsAmong x w.core.sessions × ((is_live x.condition ≡ true) × (session_id w.core.worker x.number ≡ id))
named_session w id x named =
    let is_named : Session Sent → Bool = λ y. is_live y.condition && bytes_eq (session_id w.core.worker y.number) id in
    let both = and_parts (is_live x.condition) (bytes_eq (session_id w.core.worker x.number) id) (found_meets is_named w.core.sessions x named) in
    (found_among is_named w.core.sessions x named, (both.0, (bytes_eq-Decides (session_id w.core.worker x.number) id).0 both.1))

none_found : (conn : ℕ) (xs : List (Session Sent)) → AreOff conn xs → find (λ (x : Session Sent). is_on conn x.condition) xs ≡ None
none_found conn [] off = refl
none_found conn (x ∷ xs) off = ap (λ b. if b then Some x else find (λ (x : Session Sent). is_on conn x.condition) xs) off.0 ∙ none_found conn xs off.1

module _ (text : ℕ → Dispatch → List ℕ) (w : Worker) (conn : ℕ) (t : List ℕ) where
  -- by whether the connection is open and has sent too much, and by what the text is read as
  judged : (there rated : Bool) (r : Result AFrame FrameFault) → AreOff conn w.core.sessions → has_connection conn w.core ≡ there → is_rated conn w.now w.core ≡ rated → frame_of t ≡ r
      → move_at (in_model text) w conn t ≡ (if there then (if rated then ClosesWith 4008 else read_move (replay text) w.core None r) else Nothing)
  judged there rated r off has is_so reads =
      ap (λ b. if b then (if is_rated conn w.now w.core then ClosesWith 4008 else read_move (replay text) w.core (number_on conn w.core) (frame_of t)) else Nothing) has
      ∙ (ap (λ b. if there then (if b then ClosesWith 4008 else read_move (replay text) w.core (number_on conn w.core) (frame_of t)) else Nothing) is_so
      ∙ (ap (λ (o : Option (Session Sent)). if there then (if rated then ClosesWith 4008 else read_move (replay text) w.core (option_map (λ (x : Session Sent). x.number) o) (frame_of t)) else Nothing) (none_found conn w.core.sessions off)
      ∙ ap (λ r. if there then (if rated then ClosesWith 4008 else read_move (replay text) w.core None r) else Nothing) reads))

  module _ (back : ReadsBack text) (intents : ℕ) (m : Mind) (is : List Item) (later : List (List ℕ)) (off : AreOff conn w.core.sessions) (still : AreStill is) (beats : AreBeats later) where
    abbrev pub Left : Type 0
    Left = Leaves text intents conn w.core.worker m is later (taken (in_model text) w (Frame conn t)) (outputs (in_model text) w (Frame conn t))

    abbrev LeftBy : Move → Type 0
    LeftBy move = Leaves text intents conn w.core.worker m is later (made_by text conn w move) (gives_by text conn w move)

    spent_by : (move : Move) → move_at (in_model text) w conn t ≡ move → (move ≡ Nothing) ⊎ ((code : ℕ) × (move ≡ ClosesWith code)) → Left
    spent_by move moves ends = subst LeftBy (sym moves) (spent_leaves text intents conn w w.core.worker m is later move ends off still beats)

    module _ (knows : Knows intents w.core.worker w.core.sessions m) (sound : IsSound w) where
      -- Identify
      module _ (few : w.core.made + 1 < 2 ^ 64) (keeps : WorkerKeeps (taken (in_model text) w (Frame conn t))) (i : AnIdentify) (asked : i.intents ≡ intents) (own : t ≡ frame_text (frame.Identify i)) where
        by_bot : (r : Result Bot ℕ) → move_at (in_model text) w conn t ≡ identify_move i r → Left
        by_bot (Err code) moves = spent_by (ClosesWith code) moves (inr (code, refl))
        by_bot (Ok bot) moves =
            let kept : WorkerKeeps (made_by text conn w (Begins bot (viewer_of bot i))) = subst (λ (move : Move). WorkerKeeps (made_by text conn w move)) moves keeps in
            subst LeftBy (sym moves)
            (begins_leaves text intents conn w m is later bot (viewer_of bot i) asked off still beats knows sound few
            (all_among (SessionKeeps w.core.worker) _ _ kept (among_here _ w.core.sessions [])))

        by_reading : (r : Result AFrame FrameFault) → ((read : AFrame) → r ≡ Ok read → read ≡ frame.Identify i) → move_at (in_model text) w conn t ≡ read_move (replay text) w.core None r → Left
        by_reading (Err fault) reads moves = spent_by (ClosesWith (fault_code fault)) moves (inr (fault_code fault, refl))
        by_reading (Ok read) reads moves = by_bot (identified w.core i) (moves ∙ ap (move_before_session (replay text) w.core) (reads read refl))

        pub identify_leaves : Left
        identify_leaves = by_tests (has_connection conn w.core) (is_rated conn w.now w.core) refl refl
          where
            reads : (read : AFrame) → frame_of t ≡ Ok read → read ≡ frame.Identify i
            reads read is = back.frames (frame.Identify i) read tt (ap frame_of (sym own) ∙ is)

            by_tests : (there rated : Bool) → has_connection conn w.core ≡ there → is_rated conn w.now w.core ≡ rated → Left
            by_tests false rated has is_so = spent_by Nothing (judged false rated (frame_of t) off has is_so refl) (inl refl)
            by_tests true true has is_so = spent_by (ClosesWith 4008) (judged true true (frame_of t) off has is_so refl) (inr (4008, refl))
            by_tests true false has is_so = by_reading (frame_of t) reads (judged true false (frame_of t) off has is_so refl)

      -- Resume
      module _ (few : w.core.made < 2 ^ 64) (follows : Follows w) (new_sound : IsSound (taken (in_model text) w (Frame conn t))) (same : (taken (in_model text) w (Frame conn t)).core.worker ≡ w.core.worker)
          (keeps : WorkerKeeps (taken (in_model text) w (Frame conn t))) (token : List ℕ) (s : ClientSession) (has : m.session ≡ Some s) (own : t ≡ frame_text (resume token s)) where
        abbrev r : AResume
        r = record { token = token; session = s.id; seq = s.number }

        known : Known intents w.core.worker w.core.sessions m
        known = knows s has

        is_session : known.at.session ≡ s
        is_session = same_Some known.at.session s (sym known.at.is ∙ has)

        by_resume : ResumeHolds text w conn r (taken (in_model text) w (Frame conn t)) (outputs (in_model text) w (Frame conn t)) → Left
        by_resume holds = by_name (session_named s.id w.core) refl
          where
            by_name : (o : Option (Session Sent)) → session_named s.id w.core ≡ o → Left
            by_name None named = denied_leaves text intents conn w (taken (in_model text) w (Frame conn t)) (outputs (in_model text) w (Frame conn t)) w.core.worker m is later (holds.unknown named) off still beats
            by_name (Some x) named = by_token (bytes_eq x.token token) refl
              where
                found : IsAmong x w.core.sessions × ((is_live x.condition ≡ true) × (session_id w.core.worker x.number ≡ s.id))
                found = named_session w s.id x named

                one : known.session ≡ x
                one =
                    let old = among_below known.session 0 w.core.made w.core.sessions sound.numbers known.among in
                    let this = among_below x 0 w.core.made w.core.sessions sound.numbers found.0 in
                    same_session known.session x 0 w.core.made w.core.sessions sound.numbers known.among found.0
                    (same_number w.core.worker known.session.number x.number (omega (arith, old.1, few)) (omega (arith, this.1, few))
                    (sym known.at.id ∙ (ap (λ (s : ClientSession). s.id) is_session ∙ sym found.1.1)))

                seq_is : s.number ≡ length known.front
                seq_is = ap (λ (s : ClientSession). s.number) (sym is_session) ∙ known.at.number

                within : s.number ≤ length (dispatches x.sent)
                within = omega (arith, seq_is, ap length (ap (λ (x : Session Sent). dispatches x.sent) (sym one) ∙ known.split), length-append known.front known.back)

                by_low : x.token ≡ token → (low : Bool) → nat_lt s.number (length (dispatches x.sent) - length (replay text x.sent).held) ≡ low → Left
                by_low mine true low = denied_leaves text intents conn w (taken (in_model text) w (Frame conn t)) (outputs (in_model text) w (Frame conn t)) w.core.worker m is later (holds.below x named mine (grind (arith, nat_tests, low))) off still beats
                by_low mine false low =
                    let covers : Covers text x.sent s.number = (grind (arith, nat_tests, low), within) in
                    goes_on_leaves text intents conn w (taken (in_model text) w (Frame conn t)) (outputs (in_model text) w (Frame conn t)) m is later x s.number (holds.covered x named mine covers) known one seq_is still beats follows new_sound same keeps

                by_token : (mine : Bool) → bytes_eq x.token token ≡ mine → Left
                by_token false other = denied_leaves text intents conn w (taken (in_model text) w (Frame conn t)) (outputs (in_model text) w (Frame conn t)) w.core.worker m is later
                    (holds.other x named (λ same. absurd (true≢false (sym ((bytes_eq-Decides x.token token).1 same) ∙ other)))) off still beats
                by_token true mine = by_low ((bytes_eq-Decides x.token token).0 mine) (nat_lt s.number (length (dispatches x.sent) - length (replay text x.sent).held)) refl

        by_frame : (read : Result AFrame FrameFault) → frame_of t ≡ read → has_connection conn w.core ≡ true → is_rated conn w.now w.core ≡ false → Left
        by_frame (Err fault) reads there few = spent_by (ClosesWith (fault_code fault)) (judged true false (Err fault) off there few reads) (inr (fault_code fault, refl))
        by_frame (Ok read) reads there few =
            let is : read ≡ frame.Resume r = back.frames (frame.Resume r) read tt (ap frame_of (sym own) ∙ reads) in
            by_resume (resume_holds text w conn t r (record { connected = there; few = few; reads = reads ∙ ap Ok is; free = ap is_some (none_found conn w.core.sessions off) }))

        pub resume_leaves : Left
        resume_leaves = by_tests (has_connection conn w.core) (is_rated conn w.now w.core) refl refl
          where
            by_tests : (there rated : Bool) → has_connection conn w.core ≡ there → is_rated conn w.now w.core ≡ rated → Left
            by_tests false rated has is_so = spent_by Nothing (judged false rated (frame_of t) off has is_so refl) (inl refl)
            by_tests true true has is_so = spent_by (ClosesWith 4008) (judged true true (frame_of t) off has is_so refl) (inr (4008, refl))
            by_tests true false has is_so = by_frame (frame_of t) refl has is_so

-- ---- each text

module _ (text : ℕ → Dispatch → List ℕ) (back : ReadsBack text) (w : Worker) (conn : ℕ) (t : List ℕ) (intents : ℕ) (m : Mind) (is : List Item) (later : List (List ℕ)) where
  abbrev new : Worker
  new = taken (in_model text) w (Frame conn t)

  pub text_leaves : Stage intents w.core.worker m conn w.core.sessions is (t ∷ later) → Knows intents w.core.worker w.core.sessions m → IsSound w → w.core.made + 1 < 2 ^ 64 → Follows w → IsSound new
      → new.core.worker ≡ w.core.worker → WorkerKeeps new → Leaves text intents conn w.core.worker m is later new (outputs (in_model text) w (Frame conn t))
  text_leaves stage knows sound few follows new_sound same keeps = elim (next_text intents w.core.worker conn m w.core.sessions is t later stage) [
    | inl beat ↦ plain_leaves text intents conn w w.core.worker m is later (move_at (in_model text) w conn t) (beat_plain text back conn w t beat.0) beat.1
    | inr opens ↦ elim opens.1.first [
      | inl identifies ↦ identify_leaves text w conn t back intents m is later opens.0 opens.1.still opens.1.beats knows sound few keeps
          (record { token = identifies.0; intents = intents; large_threshold = None; shard = None }) refl (opens.1.text ∙ ap frame_text identifies.1)
      | inr resumes ↦ resume_leaves text w conn t back intents m is later opens.0 opens.1.still opens.1.beats knows sound (omega (arith, few)) follows new_sound same keeps
          resumes.0 resumes.1.0 resumes.1.1.0 (opens.1.text ∙ ap frame_text resumes.1.1.1)
    ]
  ]
