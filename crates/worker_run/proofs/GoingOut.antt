-- Nothing goes out for a connection that is not open.
use Rattle.std.proofs.Common.{◌≡◌, ℕ, List, [], ◌∷◌, ◌++◌, Bool, true, false, not, ◌||◌, ◌&&◌, if◌then◌else◌, refl, sym, ap, subst, ◌∙◌}
use Rattle.std.specs.Prelude.{◌==◌}
use Rattle.std.proofs.lemmas.Bool.{eqb-true, or_right, true≢false}
use mathlib.Core.List.{IsPrefix}
use Rattle.gate_outside.specs.declared.sending.Sending.TheVariants as sending
use Rattle.open_links.specs.Courses.{Event, Events, Opens, Comes, Loses, Gives, Course, Unopened, Open as IsOpen, Over, is_opened, is_open, moved, course, is_in_place, EachPasses, AreInPlace}
use Rattle.open_links.proofs.Happened.{course-append}
use Rattle.session_core.specs.declared.bot.Bot.{Bot}
use Rattle.world_law.specs.Outputs.{Output, Says, Sends, Closes, Wishes}
use Rattle.world_law.specs.Model.{Worker, first_worker}
use Rattle.world_law.specs.Inputs.{Input, Look, Rebase, Open, Frame, Lost, Closed, Tick, taken, outputs}
use Rattle.world_law.specs.Connections.{Opened, none_opened, with_conn, without_conn, after_input, after_outputs, AreToOpen, GivesToOpen, EachOutputHolds}
use Rattle.worker_core.specs.declared.io.Output.TheVariants.{Send, Close, Wish}
use Rattle.worker_core.specs.InCode.{wire_text, wire_model}
use Rattle.worker_core.specs.Outputs.{all_written}
use Rattle.worker_run.specs.Histories.{History, Took, Gave, given_out, transcript, inputs, events}
use Rattle.worker_run.specs.Works.{is_for_open}

-- ---- what the machine says of a history

-- each output is for a connection that is open at its turn
abbrev AllToOpen : Opened → History → Type 0
AllToOpen on [] = Unit {0}
AllToOpen on (Took i ∷ h) = AllToOpen (after_input i on) h
AllToOpen on (Gave (Send conn text) ∷ h) = (on conn ≡ true) × AllToOpen on h
AllToOpen on (Gave (Close conn code) ∷ h) = (on conn ≡ true) × AllToOpen (without_conn conn on) h
AllToOpen on (Gave (Wish g e) ∷ h) = AllToOpen on h

outputs_to_open : (os : List Output) (on : Opened) (h : History) → AreToOpen on os → AllToOpen (after_outputs os on) h → AllToOpen on (given_out (all_written os) ++ h)
outputs_to_open [] on h all later = later
outputs_to_open (Says conn out ∷ os) on h all later = (all.0, outputs_to_open os on h all.1 later)
outputs_to_open (Sends conn text ∷ os) on h all later = (all.0, outputs_to_open os on h all.1 later)
outputs_to_open (Closes conn code ∷ os) on h all later = (all.0, outputs_to_open os (without_conn conn on) h all.1 later)
outputs_to_open (Wishes g e ∷ os) on h all later = outputs_to_open os on h all.1 later

transcript_to_open : (is : List Input) (w : Worker) (on : Opened) → GivesToOpen wire_text on w is → AllToOpen on (transcript w is)
transcript_to_open [] w on gives = tt
transcript_to_open (i ∷ is) w on gives =
    outputs_to_open (outputs wire_model w i) (after_input i on) (transcript (taken wire_model w i) is) gives.0
    (transcript_to_open is (taken wire_model w i) (after_outputs (outputs wire_model w i) (after_input i on)) gives.1)

front_to_open : (h t : History) (on : Opened) → AllToOpen on (h ++ t) → AllToOpen on h
front_to_open [] t on all = tt
front_to_open (Took i ∷ h) t on all = front_to_open h t (after_input i on) all
front_to_open (Gave (Send conn text) ∷ h) t on all = (all.0, front_to_open h t on all.1)
front_to_open (Gave (Close conn code) ∷ h) t on all = (all.0, front_to_open h t (without_conn conn on) all.1)
front_to_open (Gave (Wish g e) ∷ h) t on all = front_to_open h t on all

-- ---- and of the courses of its connections

abbrev Agrees : Opened → Events → Type 0
Agrees on es = (conn : ℕ) → on conn ≡ true → is_open (course conn es) ≡ true

opens_stay : (c : Course) → not (is_opened c) ≡ true → is_open (moved c Opens) ≡ true
opens_stay Unopened new = refl
opens_stay (IsOpen cs gs) new = absurd (cc)
opens_stay (Over cs gs end) new = absurd (cc)

texts_stay : (c : Course) (text : List ℕ) → is_open c ≡ true → is_open (moved c (Comes (sending.Text text))) ≡ true
texts_stay Unopened text here = absurd (cc)
texts_stay (IsOpen cs gs) text here = refl
texts_stay (Over cs gs end) text here = absurd (cc)

sends_stay : (c : Course) (text : List ℕ) → is_open c ≡ true → is_open (moved c (Gives (sending.Text text))) ≡ true
sends_stay Unopened text here = absurd (cc)
sends_stay (IsOpen cs gs) text here = refl
sends_stay (Over cs gs end) text here = absurd (cc)

module _ (on : Opened) (es : Events) (conn : ℕ) (e : Event) (agrees : Agrees on es) where
  abbrev later : Events
  later = es ++ (conn, e) ∷ []

  own : (c : ℕ) → (conn == c) ≡ true → course c later ≡ moved (course c es) e
  own c same = course-append c es ((conn, e) ∷ []) ∙ ap (λ b. if b then moved (course c es) e else course c es) same

  other : (c : ℕ) → (conn == c) ≡ false → course c later ≡ course c es
  other c differ = course-append c es ((conn, e) ∷ []) ∙ ap (λ b. if b then moved (course c es) e else course c es) differ

  -- an event after which its connection is open
  with_agrees : is_open (moved (course conn es) e) ≡ true → Agrees (with_conn conn on) later
  with_agrees stays c here = by_id (conn == c) refl here
    where
      by_id : (b : Bool) → (conn == c) ≡ b → (b || on c) ≡ true → is_open (course c later) ≡ true
      by_id true same here = ap is_open (own c same) ∙ subst (λ n. is_open (moved (course n es) e) ≡ true) (eqb-true conn c same) stays
      by_id false differ here = ap is_open (other c differ) ∙ agrees c here

  same_agrees : is_open (moved (course conn es) e) ≡ true → Agrees on later
  same_agrees stays c here = with_agrees stays c (or_right (conn == c) (on c) here)

  -- one after which it may not be
  without_agrees : Agrees (without_conn conn on) later
  without_agrees c here = by_id (conn == c) refl here
    where
      by_id : (b : Bool) → (conn == c) ≡ b → (not b && on c) ≡ true → is_open (course c later) ≡ true
      by_id true same here = absurd (true≢false (sym here))
      by_id false differ here = ap is_open (other c differ) ∙ agrees c here

for_open : (h : History) (on : Opened) (es : Events) → AllToOpen on h → EachPasses is_in_place es (events h) → Agrees on es → EachPasses is_for_open es (events h)
for_open [] on es all place agrees = tt
for_open (Took (Look g entries) ∷ h) on es all place agrees = for_open h on es all place agrees
for_open (Took (Rebase g log) ∷ h) on es all place agrees = for_open h on es all place agrees
for_open (Took (Open conn) ∷ h) on es all place agrees =
    (refl, for_open h (with_conn conn on) (es ++ (conn, Opens) ∷ []) all place.1 (with_agrees on es conn Opens agrees (opens_stay (course conn es) place.0)))
for_open (Took (Frame conn text) ∷ h) on es all place agrees =
    (refl, for_open h on (es ++ (conn, Comes (sending.Text text)) ∷ []) all place.1 (same_agrees on es conn (Comes (sending.Text text)) agrees (texts_stay (course conn es) text place.0)))
for_open (Took (Lost conn) ∷ h) on es all place agrees =
    (refl, for_open h (without_conn conn on) (es ++ (conn, Loses) ∷ []) all place.1 (without_agrees on es conn Loses agrees))
for_open (Took (Closed conn code) ∷ h) on es all place agrees =
    (refl, for_open h (without_conn conn on) (es ++ (conn, Comes (sending.Close code)) ∷ []) all place.1 (without_agrees on es conn (Comes (sending.Close code)) agrees))
for_open (Took (Tick now) ∷ h) on es all place agrees = for_open h on es all place agrees
for_open (Gave (Send conn text) ∷ h) on es all place agrees =
    let here = agrees conn all.0 in
    (here, for_open h on (es ++ (conn, Gives (sending.Text text)) ∷ []) all.1 place.1 (same_agrees on es conn (Gives (sending.Text text)) agrees (sends_stay (course conn es) text here)))
for_open (Gave (Close conn code) ∷ h) on es all place agrees =
    (agrees conn all.0, for_open h (without_conn conn on) (es ++ (conn, Gives (sending.Close code)) ∷ []) all.1 place.1 (without_agrees on es conn (Gives (sending.Close code)) agrees))
for_open (Gave (Wish g e) ∷ h) on es all place agrees = for_open h on es all place agrees

opened : EachOutputHolds → (bots : List Bot) (guilds : List ℕ) (number : ℕ) (url : List ℕ) (is : List Input) → GivesToOpen wire_text none_opened (first_worker bots guilds number url) is
unfolding EachOutputHolds
opened law bots guilds number url is = law wire_text bots guilds number url is

-- where events are in place, nothing that a new worker gave out is for a connection that is not open
pub goes_to_open : EachOutputHolds → (h : History) (w : Worker) → IsPrefix h (transcript w (inputs h)) → AreInPlace (events h) → (bots : List Bot) (guilds : List ℕ) (number : ℕ) (url : List ℕ)
    → w ≡ first_worker bots guilds number url → EachPasses is_for_open [] (events h)
goes_to_open law h w front place bots guilds number url first =
    let gives : GivesToOpen wire_text none_opened w (inputs h) = subst (λ (v : Worker). GivesToOpen wire_text none_opened v (inputs h)) (sym first) (opened law bots guilds number url (inputs h)) in
    let all : AllToOpen none_opened (h ++ front.0) = subst (AllToOpen none_opened) (sym front.1) (transcript_to_open (inputs h) w none_opened gives) in
    for_open h none_opened [] (front_to_open h front.0 none_opened all) place (λ conn here. absurd (true≢false (sym here)))
