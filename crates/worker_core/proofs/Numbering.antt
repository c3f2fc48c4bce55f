-- The session of a number, and what a call leaves that sends to it.
use Rattle.std.proofs.Common.{◌≡◌, ℕ, ◌+◌, ◌-◌, ◌^◌, ◌<◌, not, List, [], ◌∷◌, ◌++◌, suc, Bool, true, false, Option, Some, None, if◌then◌else◌, length, map, refl, sym, ap, subst, ◌∙◌, arith, eqb-true, nat_eq}
use Rattle.std.specs.Prelude.{◌==◌, ◌&&◌, cond, flat_map, min, nat_lt, position, slice_get, IfSome, option_map}
use Rattle.std.specs.Option.{option_map_or}
use Rattle.std.specs.List.{position_or_len, IsDistinct, AllByRecursion}
use Rattle.std.proofs.lemmas.Bool.Decides.{nat_tests}
use Rattle.std.proofs.lemmas.Option.{none-some, same_Some}
use Rattle.std.proofs.lemmas.Map.Keys.{IsDistinct-head, IsDistinct-tail}
use Rattle.serde_json.specs.Written.{compact_text}
use Rattle.event_json.specs.Text.{data_of}
use Rattle.dispatch_types.specs.declared.viewer.Viewer.{Viewer}
use Rattle.dispatch_types.specs.declared.dispatch.Dispatch.{Dispatch}
use Rattle.replay_ring.specs.Replay.{Replay}
use Rattle.session_core.specs.declared.holder.Holder.{Holder}
use Rattle.session_core.specs.State.{State, Session, is_live, attached, session_number, AreNumberedOnce}
use Rattle.session_core.specs.Holders.{holder_of, viewer_for}
use Rattle.session_core.specs.Pushes.{next_number, number_after, further_by, further_if, pushed_at, pushed_to}
use Rattle.dispatch_types.specs.declared.ready.Ready.{Ready as Greeted}
use Rattle.dispatch_types.specs.declared.dispatch.Dispatch.TheVariants.{Ready}
use Rattle.gateway_frames.specs.declared.frame.Ask.{Ask}
use Rattle.session_core.specs.Resume.{session_id}
use Rattle.world_law.specs.Greeting.{greeting_of, ready}
use Rattle.world_law.specs.Keeping.{record_at}
use Rattle.world_law.specs.Wants.{answer_to, answered_by, change_first, is_numbered, numbered}
use Rattle.guild_replica.specs.Replicas.{GuildCopy}
use Rattle.worker_core.specs.InCode.{in_code, KeptMachine, KeptWorker}
use Rattle.worker_core.specs.Replies.{greeted}
use Rattle.worker_core.specs.declared.io.Output.{Output as Written}
use Rattle.worker_core.specs.declared.io.StepFault.TheVariants.{Spent}
use Rattle.worker_core.specs.Recipients.{viewer_of}
use Rattle.worker_core.specs.Telling.{FailsAt, TellsAt, further, sent_to}
use Rattle.worker_core.proofs.Telling.{fails_one, pushed_is, tells_one}
use Rattle.worker_core.proofs.Wanting.{first_at, greeted_at, none_at, there_at}

-- ---- the index of the session of a number

-- a list in which one item has another in its place that passes a test as it does
place_swap : {A : Type 0} (p : A → Bool) (front : List A) (x y : A) (back : List A) → p y ≡ p x → position_or_len p (front ++ y ∷ back) ≡ position_or_len p (front ++ x ∷ back)
place_swap p [] x y back same = ap (λ b. cond (not b) (1 + position_or_len p back) 0) same
place_swap p (f ∷ front) x y back same = ap (λ m. cond (not (p f)) (1 + m) 0) (place_swap p front x y back same)

many_swap : {A : Type 0} (front : List A) (x y : A) (back : List A) → length (front ++ y ∷ back) ≡ length (front ++ x ∷ back)
many_swap [] x y back = refl
many_swap (f ∷ front) x y back = ap suc (many_swap front x y back)

position_swap : {A : Type 0} (p : A → Bool) (front : List A) (x y : A) (back : List A) → p y ≡ p x → position p (front ++ y ∷ back) ≡ position p (front ++ x ∷ back)
position_swap p front x y back same =
    ap (λ m. cond (nat_lt m (length (front ++ y ∷ back))) (Some m) None) (place_swap p front x y back same)
    ∙ ap (λ k. cond (nat_lt (position_or_len p (front ++ x ∷ back)) k) (Some (position_or_len p (front ++ x ∷ back))) None) (many_swap front x y back)

-- what was sent to the session of a number leaves it at its index
pub still_at : (n index : ℕ) (ds : List Dispatch) (old mid : State Replay) (before out : List Written) → position (is_numbered n) old.sessions ≡ Some index
    → TellsAt index (λ x. ds) old mid before out → position (is_numbered n) mid.sessions ≡ Some index
still_at n index ds old mid before out is told =
    let first = first_at (is_numbered n) old.sessions index is in
    ap (λ (s : State Replay). position (is_numbered n) s.sessions) (told first.front first.back first.item (first.whole, first.index)).0
    ∙ (position_swap (is_numbered n) first.front first.item (further ds first.item) first.back refl
    ∙ (ap (position (is_numbered n)) (sym first.whole) ∙ is))

-- ---- each number once

abbrev Differ : ℕ → List (Session Replay) → Type 0
Differ m xs = AllByRecursion (λ y. nat_eq m y ≡ false) (map session_number xs)

other : (n m k : ℕ) → (m == n) ≡ true → nat_eq m k ≡ false → (k == n) ≡ false
other n m k same apart = grind (arith, nat_tests, same, apart)

number_is : (live same : Bool) → (live && same) ≡ true → same ≡ true
number_is true same e = e
number_is false same e = absurd (cc e)

none_ended : (live same : Bool) → same ≡ false → (live && same) ≡ false
none_ended true same e = e
none_ended false same e = refl

-- none of these is changed
unchanged : (n m : ℕ) (text : List ℕ) (xs : List (Session Replay)) → (m == n) ≡ true → Differ m xs → map (further_if n text) xs ≡ xs
unchanged n m text [] same differ = refl
unchanged n m text (x ∷ xs) same differ =
    let past : is_numbered n x ≡ false = none_ended (is_live x.condition) (x.number == n) (other n m x.number same differ.0) in
    ap (λ b. (if b then further_by text x else x) ∷ map (further_if n text) xs) past ∙ ap (λ ys. x ∷ ys) (unchanged n m text xs same differ.1)

first_changes : (n : ℕ) (text : List ℕ) (xs : List (Session Replay)) → IsDistinct nat_eq (map session_number xs)
    → map (further_if n text) xs ≡ change_first (is_numbered n) (further_by text) xs
first_changes n text [] once = refl
first_changes n text (x ∷ xs) once = by_test (is_numbered n x) refl (first_changes n text xs (IsDistinct-tail nat_eq x.number (map session_number xs) once))
  where
    by_test : (b : Bool) → is_numbered n x ≡ b → map (further_if n text) xs ≡ change_first (is_numbered n) (further_by text) xs
        → (if b then further_by text x else x) ∷ map (further_if n text) xs ≡ (if b then further_by text x ∷ xs else x ∷ change_first (is_numbered n) (further_by text) xs)
    by_test true same rest =
        ap (λ ys. further_by text x ∷ ys) (unchanged n x.number text xs (number_is (is_live x.condition) (x.number == n) same) (IsDistinct-head nat_eq x.number (map session_number xs) once))
    by_test false past rest = ap (λ ys. x ∷ ys) rest

-- one text kept for the session of a number
pushed_there : (n index : ℕ) (text : List ℕ) (old : State Replay) → AreNumberedOnce old → position (is_numbered n) old.sessions ≡ Some index → pushed_to n text old ≡ pushed_at index text old
pushed_there n index text old once is =
    let first = first_at (is_numbered n) old.sessions index is in
    ap (λ xs. record old { sessions = xs }) (first_changes n text old.sessions once ∙ first.changes (further_by text))
    ∙ sym (pushed_is index text first.front first.item first.back old (first.whole, first.index))

-- of a list with each number once the last has a number
last_place : (n : ℕ) (front : List (Session Replay)) (x : Session Replay) → is_numbered n x ≡ true → IsDistinct nat_eq (map session_number (front ++ x ∷ []))
    → position_or_len (is_numbered n) (front ++ x ∷ []) ≡ length front
last_place n [] x same once = ap (λ b. cond (not b) 1 0) same
last_place n (f ∷ front) x same once =
    let differ : (f.number == n) ≡ false = not_last front (IsDistinct-head nat_eq f.number (map session_number (front ++ x ∷ [])) once) in
    ap (λ b. cond (not b) (1 + position_or_len (is_numbered n) (front ++ x ∷ [])) 0) (none_ended (is_live f.condition) (f.number == n) differ)
    ∙ (ap (λ m. 1 + m) (last_place n front x same (IsDistinct-tail nat_eq f.number (map session_number (front ++ x ∷ [])) once)) ∙ one_more (length front))
  where
    one_more : (m : ℕ) → 1 + m ≡ suc m
    one_more m = omega arith

    not_last : (ys : List (Session Replay)) → Differ f.number (ys ++ x ∷ []) → (f.number == n) ≡ false
    not_last [] differ = apart (number_is (is_live x.condition) (x.number == n) same) differ.0
      where
        apart : (x.number == n) ≡ true → nat_eq f.number x.number ≡ false → (f.number == n) ≡ false
        apart own differs = grind (arith, nat_tests, own, differs)
    not_last (y ∷ ys) differ = not_last ys differ.1

within : {A : Type 0} (front : List A) (x : A) → nat_lt (length front) (length (front ++ x ∷ [])) ≡ true
within [] x = refl
within (f ∷ front) x = within_more (length front) (length (front ++ x ∷ [])) (within front x)
  where
    within_more : (a b : ℕ) → nat_lt a b ≡ true → nat_lt (suc a) (suc b) ≡ true
    within_more a b lt = grind (arith, nat_tests, lt)

pub last_index : (n : ℕ) (front : List (Session Replay)) (x : Session Replay) (s : State Replay) → s.sessions ≡ front ++ x ∷ [] → is_numbered n x ≡ true → AreNumberedOnce s
    → position (is_numbered n) s.sessions ≡ Some (length front)
last_index n front x s is same once =
    let each : IsDistinct nat_eq (map session_number (front ++ x ∷ [])) = subst (λ (xs : List (Session Replay)). IsDistinct nat_eq (map session_number xs)) is once in
    ap (position (is_numbered n)) is
    ∙ (ap (λ m. cond (nat_lt m (length (front ++ x ∷ []))) (Some m) None) (last_place n front x same each)
    ∙ ap (λ b. cond b (Some (length front)) None) (within front x))

-- ---- one dispatch to the session of a number

next_is : (last number : ℕ) → min (last + 1) (2 ^ 64 - 1) ≡ number → last < 2 ^ 64 - 1 → (last + 1 ≡ number) × (number < 2 ^ 64)
next_is last number is room = (grind (arith, nat_tests, is, room), grind (arith, nat_tests, is, room))

abbrev attached_of : Session Replay → Option ℕ
attached_of x = attached x.condition

abbrev last_of : Session Replay → ℕ
last_of x = x.sent.last

pub not_there : (n index : ℕ) (old : State Replay) → position (is_numbered n) old.sessions ≡ Some index → None ≡ option_map number_after (numbered n old.sessions) → ⊥
not_there n index old is none =
    let found = (first_at (is_numbered n) old.sessions index is).found in
    absurd (cc (none, found))

pub tells_next : (n index : ℕ) (d : Dispatch) (old new : State Replay) (number : ℕ) (conn : Option ℕ) (text : List ℕ) (before out : List Written)
    → AreNumberedOnce old → position (is_numbered n) old.sessions ≡ Some index → Some number ≡ option_map number_after (numbered n old.sessions)
    → IfSome (numbered n old.sessions) (λ (x : Session Replay). x.sent.last < 2 ^ 64 - 1) → option_map attached_of (numbered n old.sessions) ≡ Some conn
    → text ≡ compact_text (data_of d number) → new ≡ pushed_to n text old → out ≡ before ++ sent_to conn text → TellsAt index (λ x. d ∷ []) old new before out
tells_next n index d old new number conn text before out once is next room goes whole kept sent =
    let first = first_at (is_numbered n) old.sessions index is in
    let found : numbered n old.sessions ≡ Some first.item = first.found in
    let at : slice_get old.sessions index ≡ Some first.item = there_at (is_numbered n) old.sessions index is ∙ found in
    let small : first.item.sent.last < 2 ^ 64 - 1 = subst (λ (o : Option (Session Replay)). IfSome o (λ (x : Session Replay). x.sent.last < 2 ^ 64 - 1)) found room in
    let after : min (first.item.sent.last + 1) (2 ^ 64 - 1) ≡ number = cc (sym (next ∙ ap (option_map number_after) found)) in
    let both = next_is first.item.sent.last number after small in
    tells_one index d old new number conn text before out (ap (option_map next_number) at ∙ ap (λ m. Some m) both.0) both.1
    (ap (option_map attached_of) at ∙ (sym (ap (option_map attached_of) found) ∙ goes)) whole (kept ∙ pushed_there n index text old once is) sent

pub fails_next : (n index : ℕ) (d : Dispatch) (old : State Replay) → position (is_numbered n) old.sessions ≡ Some index → option_map last_of (numbered n old.sessions) ≡ Some (2 ^ 64 - 1)
    → FailsAt index (λ x. d ∷ []) old Spent
fails_next n index d old is last = fails_one index d old (ap (option_map last_of) (there_at (is_numbered n) old.sessions index is) ∙ last)

-- ---- whom the session of a number is for

pub viewers_held : (worker : ℕ) (o : Option (Session Replay)) (h : Option Holder) → h ≡ option_map (holder_of worker) o → option_map viewer_for h ≡ option_map viewer_of o
viewers_held worker None h is = ap (option_map viewer_for) is
viewers_held worker (Some x) h is = ap (option_map viewer_for) is

pub number_found : (n : ℕ) (xs : List (Session Replay)) (x : Session Replay) → numbered n xs ≡ Some x → is_numbered n x ≡ true
number_found n [] x found = absurd (cc found)
number_found n (y ∷ ys) x found = by_test (is_numbered n y) refl found (number_found n ys x)
  where
    by_test : (b : Bool) → is_numbered n y ≡ b → (if b then Some y else numbered n ys) ≡ Some x → (numbered n ys ≡ Some x → is_numbered n x ≡ true) → is_numbered n x ≡ true
    by_test true same found later = ap (is_numbered n) (sym (same_Some y x found)) ∙ same
    by_test false past found later = later found

-- the session of a number, which has a viewer
pub record Seen (n : ℕ) (xs : List (Session Replay)) (v : Viewer) : Type 0 where
  pub item : Session Replay
  pub index : ℕ
  pub found : numbered n xs ≡ Some item
  pub at : position (is_numbered n) xs ≡ Some index
  pub viewed : item.viewer ≡ v

pub seen : (n : ℕ) (xs : List (Session Replay)) (v : Viewer) → option_map viewer_of (numbered n xs) ≡ Some v → Seen n xs v
seen n xs v is = by_item (numbered n xs) refl is
  where
    by_index : (x : Session Replay) → numbered n xs ≡ Some x → x.viewer ≡ v → (o : Option ℕ) → position (is_numbered n) xs ≡ o → Seen n xs v
    by_index x found viewed None at = absurd (none-some x (sym (none_at (is_numbered n) xs at) ∙ found))
    by_index x found viewed (Some index) at = record { item = x; index = index; found = found; at = at; viewed = viewed }

    by_item : (o : Option (Session Replay)) → numbered n xs ≡ o → option_map viewer_of o ≡ Some v → Seen n xs v
    by_item None found is = absurd (cc is)
    by_item (Some x) found is = by_index x found (same_Some x.viewer v is) (position (is_numbered n) xs) refl

-- the count of chunks moves no session
pub still_counted : (k k1 : KeptWorker) (n count index : ℕ) → k1 ≡ record k { machine = record k.machine { chunks = count } } → position (is_numbered n) k.machine.core.sessions ≡ Some index
    → position (is_numbered n) k1.machine.core.sessions ≡ Some index
still_counted k k1 n count index counted is = ap (λ (h : KeptWorker). position (is_numbered n) h.machine.core.sessions) counted ∙ is

pub answered_at : (k : KeptMachine) (n : ℕ) (ask : Ask) (v : Viewer) (list : List Dispatch) (here : Seen n k.core.sessions v) → list ≡ answered_by v ask (record_at in_code k.logs ask.guild)
    → option_map_or (answer_to in_code k ask) (slice_get k.core.sessions here.index) [] ≡ list
answered_at k n ask v list here is =
    ap (λ o. option_map_or (answer_to in_code k ask) o []) (there_at (is_numbered n) k.core.sessions here.index here.at ∙ here.found)
    ∙ (ap (λ w. answered_by w ask (record_at in_code k.logs ask.guild)) here.viewed ∙ sym is)

-- ---- the first dispatches of the session of a number

module _ (k : KeptMachine) (n : ℕ) where
  pub nobody_held : None ≡ option_map (holder_of k.core.worker) (numbered n k.core.sessions) → option_map_or (greeted k n) (numbered n k.core.sessions) [] ≡ []
  nobody_held none = by_item (numbered n k.core.sessions) none
    where
      by_item : (o : Option (Session Replay)) → None ≡ option_map (holder_of k.core.worker) o → option_map_or (greeted k n) o [] ≡ []
      by_item None none = refl
      by_item (Some x) none = absurd (cc none)

  pub greeted_held : (h : Holder) (r : Greeted) (v : Viewer) (start pushed list : List Dispatch) → Some h ≡ option_map (holder_of k.core.worker) (numbered n k.core.sessions) → v ≡ viewer_for h
      → ((m : ℕ) → h.id ≡ session_id k.core.worker m → r ≡ ready in_code k (viewer_for h) h.name m) → start ≡ [] → pushed ≡ start ++ Ready r ∷ []
      → list ≡ pushed ++ flat_map (λ (r : GuildCopy). greeting_of v r.guild) k.logs → option_map_or (greeted k n) (numbered n k.core.sessions) [] ≡ list
  greeted_held h r v start pushed list held viewed made empty one all = by_item (numbered n k.core.sessions) refl held
    where
      by_item : (o : Option (Session Replay)) → numbered n k.core.sessions ≡ o → Some h ≡ option_map (holder_of k.core.worker) o → option_map_or (greeted k n) o [] ≡ list
      by_item None found held = absurd (cc held)
      by_item (Some x) found held =
          let is : h ≡ holder_of k.core.worker x = same_Some h (holder_of k.core.worker x) held in
          let own : x.number ≡ n = eqb-true x.number n (number_is (is_live x.condition) (x.number == n) (number_found n k.core.sessions x found)) in
          let id : h.id ≡ session_id k.core.worker n = ap (λ (g : Holder). g.id) is ∙ ap (session_id k.core.worker) own in
          greeted_at k n (Some x) v h.name r start pushed list (ap (λ w. Some w) (sym (viewed ∙ ap viewer_for is))) (ap (λ (g : Holder). Some g.name) (sym is))
          (made n id ∙ ap (λ w. ready in_code k w h.name n) (sym viewed)) empty one all
