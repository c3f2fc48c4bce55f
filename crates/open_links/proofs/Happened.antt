-- Courses after more has happened.
use Rattle.std.proofs.Common.{◌≡◌, ℕ, List, [], ◌∷◌, ◌++◌, Bool, true, false, ◌||◌, map, if◌then◌else◌, refl, sym, ap, subst, ◌∙◌, eq-eqb, append_assoc, append-nil}
use Rattle.std.specs.Prelude.{◌==◌}
use Rattle.std.specs.List.{list_any}
use Rattle.std.proofs.lemmas.Bool.{and_parts, or_parts}
use Rattle.open_links.specs.Courses.{Event, Events, Opens, Comes, Loses, Gives, Course, Unopened, Open, Over, is_over, is_giving, only_gives, moved, moved_by, moved_all, course, is_in_place, EachPasses}
use Rattle.open_links.specs.Steps.{moved_on, AreInPlaceFrom}

abbrev pub is_opening : Event → Bool
is_opening Opens = true
is_opening (Comes x) = false
is_opening Loses = false
is_opening (Gives x) = false

-- whether a connection opens by one of these events
abbrev pub opens_any : Events → Bool
opens_any es = list_any (λ (e : ℕ × Event). is_opening e.1) es

-- more that happens to one connection
abbrev pub of_conn : ℕ → List Event → Events
of_conn conn more = map (λ e. (conn, e)) more

alike : {A : Type 0} (b : Bool) (x : A) → (if b then x else x) ≡ x
alike true x = refl
alike false x = refl

taken : {A : Type 0} (b : Bool) (x y : A) → b ≡ true → (if b then x else y) ≡ x
taken true x y e = refl
taken false x y e = absurd (cc)

passed : {A : Type 0} (b : Bool) (x y : A) → b ≡ false → (if b then x else y) ≡ y
passed true x y e = absurd (cc)
passed false x y e = refl

pub moved_all-append : (conn : ℕ) (c : Course) (es more : Events) → moved_all conn c (es ++ more) ≡ moved_all conn (moved_all conn c es) more
moved_all-append conn c [] more = refl
moved_all-append conn c (e ∷ es) more = moved_all-append conn (moved_by conn c e) es more

pub course-append : (conn : ℕ) (es more : Events) → course conn (es ++ more) ≡ moved_all conn (course conn es) more
course-append conn es more = moved_all-append conn Unopened es more

pub over_stays : (conn : ℕ) (c : Course) (more : Events) → is_over c ≡ true → moved_all conn c more ≡ c
over_stays conn Unopened more h = absurd (cc)
over_stays conn (Open cs gs) more h = absurd (cc)
over_stays conn (Over cs gs end) [] h = refl
over_stays conn (Over cs gs end) (e ∷ more) h =
    ap (λ c. moved_all conn c more) (alike (e.0 == conn) (Over cs gs end)) ∙ over_stays conn (Over cs gs end) more h

-- what happens to one connection moves its course
pub moves_own : (conn : ℕ) (c : Course) (more : List Event) → moved_all conn c (of_conn conn more) ≡ moved_on c more
moves_own conn c [] = refl
moves_own conn c (e ∷ more) =
    ap (λ d. moved_all conn d (of_conn conn more)) (taken (conn == conn) (moved c e) c (eq-eqb conn conn refl)) ∙ moves_own conn (moved c e) more

-- and no other
pub leaves_other : (other conn : ℕ) (c : Course) (more : List Event) → (other == conn) ≡ false → moved_all conn c (of_conn other more) ≡ c
leaves_other other conn c [] ne = refl
leaves_other other conn c (e ∷ more) ne =
    ap (λ d. moved_all conn d (of_conn other more)) (passed (other == conn) (moved c e) c ne) ∙ leaves_other other conn c more ne

unopened_by : (e : Event) → is_opening e ≡ false → moved Unopened e ≡ Unopened
unopened_by Opens h = absurd (cc)
unopened_by (Comes x) h = refl
unopened_by Loses h = refl
unopened_by (Gives x) h = refl

unopened_if : (b : Bool) (c : Course) → c ≡ Unopened → (if b then c else Unopened) ≡ Unopened
unopened_if true c e = e
unopened_if false c e = refl

-- a connection stays unopened while none opens
pub unopened_stays : (conn : ℕ) (more : Events) → opens_any more ≡ false → moved_all conn Unopened more ≡ Unopened
unopened_stays conn [] h = refl
unopened_stays conn (e ∷ more) h =
    let none = or_parts (is_opening e.1) (opens_any more) h in
    ap (λ c. moved_all conn c more) (unopened_if (e.0 == conn) (moved Unopened e.1) (unopened_by e.1 none.0)) ∙ unopened_stays conn more none.1

-- ---- one event more

pub after_one : (es : Events) (conn : ℕ) (e : Event) → course conn (es ++ (conn, e) ∷ []) ≡ moved (course conn es) e
after_one es conn e = course-append conn es ((conn, e) ∷ []) ∙ moves_own conn (course conn es) (e ∷ [])

-- ---- events in place

pub passes_join : (test : Course → Event → Bool) (before es more : Events) → EachPasses test before es → EachPasses test (before ++ es) more → EachPasses test before (es ++ more)
passes_join test before [] more first later = subst (λ b. EachPasses test b more) (append-nil before) later
passes_join test before (e ∷ es) more first later =
    (first.0, passes_join test (before ++ e ∷ []) es more first.1 (subst (λ b. EachPasses test b more) (sym (append_assoc before (e ∷ []) es)) later))

-- what happens to one connection, by its course
pub in_place_own : (es : Events) (conn : ℕ) (more : List Event) → AreInPlaceFrom (course conn es) more → EachPasses is_in_place es (of_conn conn more)
in_place_own es conn [] h = tt
in_place_own es conn (e ∷ more) h = (h.0, in_place_own (es ++ (conn, e) ∷ []) conn more (subst (λ c. AreInPlaceFrom c more) (sym (after_one es conn e)) h.1))

-- ---- what the worker gives out

given_no_opening : (e : Event) → is_giving e ≡ true → is_opening e ≡ false
given_no_opening Opens h = absurd (cc)
given_no_opening (Comes x) h = refl
given_no_opening Loses h = refl
given_no_opening (Gives x) h = refl

given_in_place : (c : Course) (e : Event) → is_giving e ≡ true → is_in_place c e ≡ true
given_in_place c Opens h = absurd (cc)
given_in_place c (Comes x) h = absurd (cc)
given_in_place c Loses h = refl
given_in_place c (Gives x) h = refl

-- it opens no connection
pub gives_open_none : (more : Events) → only_gives more ≡ true → opens_any more ≡ false
gives_open_none [] h = refl
gives_open_none (e ∷ more) h =
    let all = and_parts (is_giving e.1) (only_gives more) h in
    ap (λ b. b || opens_any more) (given_no_opening e.1 all.0) ∙ gives_open_none more all.1

-- and is in place
pub gives_in_place : (es more : Events) → only_gives more ≡ true → EachPasses is_in_place es more
gives_in_place es [] h = tt
gives_in_place es (e ∷ more) h =
    let all = and_parts (is_giving e.1) (only_gives more) h in
    (given_in_place (course e.0 es) e.1 all.0, gives_in_place (es ++ e ∷ []) more all.1)
