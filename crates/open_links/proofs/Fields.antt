-- What becomes of open links, by their fields.
use Rattle.std.proofs.Common.{◌≡◌, ℕ, ◌+◌, List, [], ◌∷◌, ◌++◌, true, false, Option, get_or, refl, sym, ap, ◌∙◌, subst}
use Rattle.std.specs.List.{remove}
use Rattle.gate_outside.specs.declared.sending.Sending.TheVariants as sending
use Rattle.gate_outside.specs.Links.{ReturnedLink, IsNewLink}
use Rattle.open_links.specs.declared.heard.Word.{Word}
use Rattle.open_links.specs.declared.heard.Word.TheVariants as word
use Rattle.open_links.specs.Courses.{Events, Opens, Comes, Gives, Loses, Course, Unopened, Open, Over, is_opened, is_open, is_over, moved, course}
use Rattle.open_links.specs.Links.{Held, Holding, AreNumbered, as_returned, with_more}
use Rattle.open_links.specs.Calls.{GoesBy, MovesBy, EndsBy, Says}
use Rattle.open_links.specs.Steps.{AllMeetHeld, AllFollow, AllHear, StandsAt}
use Rattle.open_links.proofs.Happened.{opens_any, after_one}
use Rattle.open_links.proofs.Listed.{stands_kept}
use Rattle.open_links.proofs.Meeting.{meets_more, given_back, let_in}

abbrev pub holding : List Held → ℕ → Holding
holding links count = record { links = links; count = count }

pub moves : (more : Events) (old : Holding) (links links' : List Held) (count : ℕ) → holding links count ≡ old → opens_any more ≡ false → AllFollow more links links' → MovesBy more old (holding links' count)
moves more old links links' count e none f = subst (λ h. MovesBy more h (holding links' count)) e (meets_more more (holding links count) (holding links' count) none refl f)

pub stays : (more : Events) (old : Holding) (links : List Held) (count : ℕ) → holding links count ≡ old → opens_any more ≡ false → AllFollow more links links → MovesBy more old old
stays more old links count e none f = subst (λ h. MovesBy more old h) e (moves more old links links count e none f)

pub says : (conn : ℕ) (w : Word) (old : Holding) (links links' : List Held) (count : ℕ) → holding links count ≡ old → AllHear conn w links links' → Says conn w old (holding links' count)
says conn (word.Text text) old links links' count e f = moves ((conn, Comes (sending.Text text)) ∷ []) old links links' count e refl f
says conn (word.Closed code) old links links' count e f = (moves ((conn, Comes (sending.Close code)) ∷ []) old links links' count e refl f.0, f.1)
says conn word.Nothing old links links' count e f = moves [] old links links' count e refl f
says conn word.Lost old links links' count e f = (moves [] old links links' count e refl f.0, f.1)

over_if : (c : Course) → is_opened c ≡ true → is_open c ≡ false → is_over c ≡ true
over_if Unopened h e = h
over_if (Open cs gs) h e = absurd (cc)
over_if (Over cs gs end) h e = refl

-- a connection has ended that has a link and is not open
pub over_held : (es : Events) (conn i : ℕ) (links : List Held) (d : Held) → AllMeetHeld es links → StandsAt i conn links → is_open (course conn es) ≡ false → is_over (course conn es) ≡ true
over_held es conn i links d all s e =
    over_if (course conn es) (subst (λ n. is_opened (course n es) ≡ true) (s.numbered d) (all i d s.within).meets.opened) e

close_given : (c : Course) (code : ℕ) → is_open (moved c (Gives (sending.Close code))) ≡ false
close_given Unopened code = refl
close_given (Open cs gs) code = refl
close_given (Over cs gs end) code = refl

close_come : (c : Course) (code : ℕ) → is_open (moved c (Comes (sending.Close code))) ≡ false
close_come Unopened code = refl
close_come (Open cs gs) code = refl
close_come (Over cs gs end) code = refl

loss_come : (c : Course) → is_open (moved c Loses) ≡ false
loss_come Unopened = refl
loss_come (Open cs gs) = refl
loss_come (Over cs gs end) = refl

pub not_open_given : (es : Events) (conn code : ℕ) → is_open (course conn (es ++ (conn, Gives (sending.Close code)) ∷ [])) ≡ false
not_open_given es conn code = ap is_open (after_one es conn (Gives (sending.Close code))) ∙ close_given (course conn es) code

pub not_open_come : (es : Events) (conn code : ℕ) → is_open (course conn (es ++ (conn, Comes (sending.Close code)) ∷ [])) ≡ false
not_open_come es conn code = ap is_open (after_one es conn (Comes (sending.Close code))) ∙ close_come (course conn es) code

pub not_open_lost : (es : Events) (conn : ℕ) → is_open (course conn (es ++ (conn, Loses) ∷ [])) ≡ false
not_open_lost es conn = ap is_open (after_one es conn Loses) ∙ loss_come (course conn es)

-- a link that was closed comes back
pub closes : (conn code : ℕ) (old : Holding) (links links' : List Held) (count i : ℕ) (d : Held) (now later : Option (List ReturnedLink)) → holding links count ≡ old → StandsAt i conn links
    → AllFollow ((conn, Gives (sending.Close code)) ∷ []) links links' → later ≡ with_more now (as_returned (get_or links' i d) ∷ [])
    → GoesBy ((conn, Gives (sending.Close code)) ∷ []) old now (holding (remove links' i) count) later
closes conn code old links links' count i d now later e s f told =
    let more : Events = (conn, Gives (sending.Close code)) ∷ [] in
    let s' = stands_kept links links' i conn f.conns s in
    subst (λ h. GoesBy more h now (holding (remove links' i) count) later) e
    (λ es before m.
    let m' = meets_more more (holding links count) (holding links' count) refl refl f es before now m in
    given_back (es ++ more) links' count before now later i conn d m' (over_held (es ++ more) conn i links' d m'.held s' (not_open_given es conn code)) s' told)

-- the link of a connection that has ended comes back
pub ends : (conn : ℕ) (old : Holding) (links : List Held) (count i : ℕ) (d : Held) (now later : Option (List ReturnedLink)) → holding links count ≡ old → StandsAt i conn links
    → later ≡ with_more now (as_returned (get_or links i d) ∷ []) → EndsBy conn old now (holding (remove links i) count) later
ends conn old links count i d now later e s told =
    subst (λ h. EndsBy conn h now (holding (remove links i) count) later) e
    (λ es before m over. given_back es links count before now later i conn d m over s told)

-- a link that was just given
pub opens : (old : Holding) (links links' : List Held) (count : ℕ) (l : Held) → holding links count ≡ old → AreNumbered links count → links' ≡ links ++ l ∷ [] → l.conn ≡ count → IsNewLink l.tale l.faults → l.done ≡ false
    → MovesBy ((count, Opens) ∷ []) old (holding links' (count + 1))
opens old links links' count l e h same conn new done =
    subst (λ o. MovesBy ((count, Opens) ∷ []) o (holding links' (count + 1))) e
    (subst (λ ls. MovesBy ((count, Opens) ∷ []) (holding links count) (holding ls (count + 1))) (sym same) (let_in links count l h conn new done))
