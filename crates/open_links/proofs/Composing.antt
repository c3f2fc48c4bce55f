-- What callers know of open links over many events.
use Rattle.std.proofs.Common.{◌≡◌, ℕ, ◌<◌, List, [], ◌∷◌, ◌++◌, Bool, true, false, ◌||◌, Option, length, refl, sym, ap, ◌∙◌, subst, arith, append_assoc, append-nil}
use Rattle.std.specs.Prelude.{◌==◌, All}
use Rattle.std.proofs.lemmas.Bool.{eqb-true}
use Rattle.std.proofs.lemmas.List.Elements.{All-head, All-tail, All-nil}
use Rattle.gate_outside.specs.declared.sending.Sending.TheVariants as sending
use Rattle.gate_outside.specs.Doors.{DoorTale}
use Rattle.gate_outside.specs.Links.{ReturnedLink}
use Rattle.open_links.specs.declared.heard.Word.TheVariants as word
use Rattle.open_links.specs.Courses.{Events, Comes, Loses, course, is_over, only_gives}
use Rattle.open_links.specs.Links.{Held, no_held, Holding, no_links, is_among, has_conn, MeetsHeld, Meets, AllMeet}
use Rattle.open_links.specs.Calls.{GoesBy, MovesBy, Says, IsSameDoor, is_done}
use Rattle.open_links.specs.Steps.{AllMeetHeld}
use Rattle.open_links.proofs.Losing.{done_stands, done_follows}
use Rattle.open_links.proofs.Happened.{gives_open_none, gives_in_place}
use Rattle.open_links.proofs.Meeting.{with_none, meets_more}
use Rattle.open_links.proofs.Fields.{over_held, not_open_come, not_open_lost}

-- what happens goes on by what happens next
pub goes_by_append : (first then_more : Events) (a b c : Holding) (x y z : Option (List ReturnedLink)) → GoesBy first a x b y → GoesBy then_more b y c z → GoesBy (first ++ then_more) a x c z
goes_by_append first then_more a b c x y z f g = λ es before m.
    subst (λ es. Meets es c before z) (append_assoc es first then_more) (g (es ++ first) before (f es before m))

pub goes_by_nothing : (a : Holding) (x : Option (List ReturnedLink)) → GoesBy [] a x a x
goes_by_nothing a x = λ es before m. subst (λ es. Meets es a before x) (sym (append-nil es)) m

pub goes_by_moves : (more : Events) (a b : Holding) (x : Option (List ReturnedLink)) → MovesBy more a b → GoesBy more a x b x
goes_by_moves more a b x f = λ es before m. f es before x m

-- before the first link nothing has happened
pub meets_first : (before : Option (List ReturnedLink)) → Meets [] no_links before before
meets_first before = record {
  in_place = tt;
  held = All-nil (λ (l : Held). MeetsHeld (course l.conn []) l);
  ascend = tt;
  conns = [];
  back = record { links = []; told = sym (with_none before); meet = tt };
  over = All-nil (λ conn. is_over (course conn []) ≡ true);
  each = λ conn lt. absurd (omega arith);
  once = refl;
  later = λ conn le. refl;
}

-- a connection whose link is done with may be lost, and has ended then
pub done_is_lost : (es : Events) (h : Holding) (before now : Option (List ReturnedLink)) (conn : ℕ) → is_done conn h.links ≡ true → Meets es h before now → Meets (es ++ (conn, Loses) ∷ []) h before now
done_is_lost es h before now conn d m = meets_more ((conn, Loses) ∷ []) h h refl refl (done_follows conn h.links m.ascend d) es before now m

pub lost_is_over : (es : Events) (h : Holding) (before now : Option (List ReturnedLink)) (conn : ℕ) → is_done conn h.links ≡ true → Meets es h before now → is_over (course conn (es ++ (conn, Loses) ∷ [])) ≡ true
lost_is_over es h before now conn d m =
    let at = done_stands conn h.links d in
    over_held (es ++ (conn, Loses) ∷ []) conn at.0 h.links no_held (done_is_lost es h before now conn d m).held at.1.stands (not_open_lost es conn)

-- a connection has ended whose client closed it
pub closed_is_over : (es : Events) (old new : Holding) (before now : Option (List ReturnedLink)) (conn code : ℕ) → Says conn (word.Closed code) old new → Meets es old before now
    → is_over (course conn (es ++ (conn, Comes (sending.Close code)) ∷ [])) ≡ true
closed_is_over es old new before now conn code s m =
    let at = done_stands conn new.links s.1 in
    over_held (es ++ (conn, Comes (sending.Close code)) ∷ []) conn at.0 new.links no_held (s.0 es before now m).held at.1.stands (not_open_come es conn code)

-- without open links nothing matters that is given out
pub none_moves : (more : Events) (h : Holding) → h.links ≡ [] → only_gives more ≡ true → MovesBy more h h
none_moves more h e gives = meets_more more h h (gives_open_none more gives) refl (record {
  conns = refl;
  in_place = λ es all. gives_in_place es more gives;
  meet = λ es all. subst (λ (ls : List Held). AllMeetHeld (es ++ more) ls) (sym e) (All-nil (λ (l : Held). MeetsHeld (course l.conn (es ++ more)) l));
})

among_here : (P : ℕ → Type 0) (conn c : ℕ) (rest b : Bool) → (c == conn) ≡ b → P c → (rest ≡ true → P conn) → (b || rest) ≡ true → P conn
among_here P conn c rest true e here later h = subst P (eqb-true c conn e) here
among_here P conn c rest false e here later h = later h

among_all : (P : ℕ → Type 0) (conn : ℕ) (conns : List ℕ) → All P conns → is_among conn conns ≡ true → P conn
among_all P conn [] all h = absurd (cc)
among_all P conn (c ∷ conns) all h =
    among_here P conn c (is_among conn conns) (c == conn) refl (All-head P c conns all) (among_all P conn conns (All-tail P c conns all)) h

or_none : (b : Bool) → (b || false) ≡ true → b ≡ true
or_none true h = refl
or_none false h = h

all_returned : (es : Events) (h : Holding) (before now : Option (List ReturnedLink)) → h.links ≡ [] → (m : Meets es h before now) → (conn : ℕ) → conn < h.count → is_among conn m.conns ≡ true
all_returned es h before now e m conn lt = or_none (is_among conn m.conns) (subst (λ ls. (is_among conn m.conns || has_conn conn ls) ≡ true) e (m.each conn lt))

-- and all connections have ended
pub none_all_over : (es : Events) (h : Holding) (before now : Option (List ReturnedLink)) → h.links ≡ [] → Meets es h before now → (conn : ℕ) → conn < h.count → is_over (course conn es) ≡ true
none_all_over es h before now e m conn lt = among_all (λ conn. is_over (course conn es) ≡ true) conn m.conns m.over (all_returned es h before now e m conn lt)

-- and all links came back
pub none_all_meet : (es : Events) (h : Holding) (before now : Option (List ReturnedLink)) → h.links ≡ [] → Meets es h before now → AllMeet es h.count before now
none_all_meet es h before now e m = record {
  in_place = m.in_place;
  conns = m.conns;
  back = m.back;
  each = all_returned es h before now e m;
  once = omega (arith, m.once, ap length e);
  later = m.later;
}

-- ---- doors that take links back

pub same_door : (d : DoorTale) → IsSameDoor d d
same_door d = record { given = refl; ended = refl; accepts = refl; waits = refl }

pub same_doors : (a b c : DoorTale) → IsSameDoor a b → IsSameDoor b c → IsSameDoor a c
same_doors a b c first later = record {
  given = later.given ∙ first.given;
  ended = later.ended ∙ first.ended;
  accepts = later.accepts ∙ first.accepts;
  waits = later.waits ∙ first.waits;
}
