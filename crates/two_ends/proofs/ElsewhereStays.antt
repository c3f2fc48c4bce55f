-- Sessions that stay on a connection, and what goes out for others.
use Rattle.std.proofs.Common.{◌≡◌, ℕ, List, [], ◌∷◌, ◌++◌, Bool, true, false, Option, Some, None, if◌then◌else◌, map, refl, sym, ap, ◌∙◌, ◌⊎◌, inl, inr}
use Rattle.std.specs.Prelude.{◌==◌, ◌&&◌, flat_map}
use Rattle.std.specs.List.{find}
use Rattle.std.proofs.lemmas.Bool.{eqb-true, true≢false}
use Rattle.std.proofs.lemmas.Option.{same_Some}
use Rattle.std.proofs.lemmas.Grind.{flat_map-append}
use Rattle.guild_model.specs.Record.{Record}
use Rattle.guild_model.specs.declared.presence.Status.{Status}
use Rattle.dispatch_types.specs.declared.viewer.Viewer.{Viewer}
use Rattle.edit_apply.specs.declared.Edit.{Edit}
use Rattle.gateway_frames.specs.declared.out.Out.{Out}
use Rattle.gateway_frames.specs.declared.frame.VoiceAsk.{VoiceAsk}
use Rattle.wishes.specs.Wishes.{presence_wish, voice_wish}
use Rattle.session_core.specs.State.{State, Session, Condition, Attached, Detached, Ended, is_on, is_live, released, gone}
use Rattle.session_core.specs.Resume.{joined, resumed}
use Rattle.session_core.specs.Ends.{all_gone}
use Rattle.world_law.specs.Keeping.{Cursors}
use Rattle.world_law.specs.Outputs.{Says, Sends, Closes}
use Rattle.world_law.specs.Sent.{Sent, ended_at}
use Rattle.world_law.specs.Wants.{change_first, wished, presence_wishes, voice_wishes}
use Rattle.world_law.specs.Frames.{older_sends}
use Rattle.world_law.specs.Sends.{IsOff, AreOff, IsAlone}
use Rattle.two_ends.specs.Flights.{Flight, Text, Close, said, flights, flight}
use Rattle.two_ends.proofs.Among.{IsAmong, off_among, among_here, among_part}

-- ---- lists of sessions

off_each : (conn : ℕ) (xs : List (Session Sent)) → ((x : Session Sent) → IsAmong x xs → IsOff conn x) → AreOff conn xs
off_each conn [] each = tt
off_each conn (x ∷ xs) each = (each x (inl refl), off_each conn xs (λ y among. each y (inr among)))

-- beside the session of a connection no other is on it
pub alone_split : (conn : ℕ) (front : List (Session Sent)) (x : Session Sent) (back : List (Session Sent)) → IsAlone conn (front ++ x ∷ back) → is_on conn x.condition ≡ true → AreOff conn front × AreOff conn back
alone_split conn [] x back alone on = (tt, alone.0 on)
alone_split conn (y ∷ front) x back alone on = by_test (is_on conn y.condition) refl (alone_split conn front x back alone.1 on)
  where
    by_test : (b : Bool) → is_on conn y.condition ≡ b → AreOff conn front × AreOff conn back → AreOff conn (y ∷ front) × AreOff conn back
    by_test true other rest = absurd (true≢false (sym on ∙ off_among conn x (front ++ x ∷ back) (alone.0 other) (among_here x front back)))
    by_test false off rest = ((off, rest.0), rest.1)

-- the session of a connection, among others
pub record IsOne (conn : ℕ) (xs : List (Session Sent)) : Type 0 where
  pub session : Session Sent
  pub front : List (Session Sent)
  pub back : List (Session Sent)
  pub split : xs ≡ front ++ session ∷ back
  pub on : is_on conn session.condition ≡ true
  pub front_off : AreOff conn front
  pub back_off : AreOff conn back

pub one_or_off : (conn : ℕ) (xs : List (Session Sent)) → IsAlone conn xs → AreOff conn xs ⊎ IsOne conn xs
one_or_off conn [] alone = inl tt
one_or_off conn (x ∷ xs) alone = by_test (is_on conn x.condition) refl (one_or_off conn xs alone.1)
  where
    by_test : (b : Bool) → is_on conn x.condition ≡ b → AreOff conn xs ⊎ IsOne conn xs → AreOff conn (x ∷ xs) ⊎ IsOne conn (x ∷ xs)
    by_test true on rest = inr (record { session = x; front = []; back = xs; split = refl; on = on; front_off = tt; back_off = alone.0 on })
    by_test false off (inl rest) = inl (off, rest)
    by_test false off (inr one) = inr (record {
      session = one.session;
      front = x ∷ one.front;
      back = one.back;
      split = ap (λ zs. x ∷ zs) one.split;
      on = one.on;
      front_off = (off, one.front_off);
      back_off = one.back_off;
    })

-- the first item that passes a test, before and after it is changed
pub record IsFound (f : Session Sent → Session Sent) (xs : List (Session Sent)) (x : Session Sent) (ys : List (Session Sent)) : Type 0 where
  pub front : List (Session Sent)
  pub back : List (Session Sent)
  pub before : xs ≡ front ++ x ∷ back
  pub after : ys ≡ front ++ f x ∷ back

module _ (p : Session Sent → Bool) (f : Session Sent → Session Sent) where
  pub found_split : (xs : List (Session Sent)) (x : Session Sent) → find p xs ≡ Some x → IsFound f xs x (change_first p f xs)
  found_split [] x found = absurd (cc found)
  found_split (y ∷ xs) x found = by_test (p y) found (λ later. found_split xs x later)
    where
      by_test : (b : Bool) → (if b then Some y else find p xs) ≡ Some x → (find p xs ≡ Some x → IsFound f xs x (change_first p f xs))
          → IsFound f (y ∷ xs) x (if b then f y ∷ xs else y ∷ change_first p f xs)
      by_test true found rest =
          let same : y ≡ x = same_Some y x found in
          record { front = []; back = xs; before = ap (λ (z : Session Sent). z ∷ xs) same; after = ap (λ (z : Session Sent). f z ∷ xs) same }
      by_test false found rest =
          let later : IsFound f xs x (change_first p f xs) = rest found in
          record { front = y ∷ later.front; back = later.back; before = ap (λ zs. y ∷ zs) later.before; after = ap (λ zs. y ∷ zs) later.after }

  pub none_changed : (xs : List (Session Sent)) → find p xs ≡ None → change_first p f xs ≡ xs
  none_changed [] lacks = refl
  none_changed (y ∷ xs) lacks = by_test (p y) lacks (λ later. none_changed xs later)
    where
      by_test : (b : Bool) → (if b then Some y else find p xs) ≡ None → (find p xs ≡ None → change_first p f xs ≡ xs) → (if b then f y ∷ xs else y ∷ change_first p f xs) ≡ y ∷ xs
      by_test true lacks rest = absurd (cc lacks)
      by_test false lacks rest = ap (λ zs. y ∷ zs) (rest lacks)

-- ---- a connection

pub differs : (c conn : ℕ) → ¬ (c ≡ conn) → (c == conn) ≡ false
differs c conn other = by_test (c == conn) refl
  where
    by_test : (b : Bool) → (c == conn) ≡ b → (c == conn) ≡ false
    by_test true same = absurd (other (eqb-true c conn same))
    by_test false apart = apart

pub on_is : (conn : ℕ) (condition : Condition) → is_on conn condition ≡ true → condition ≡ Attached conn
on_is conn (Attached c) on = ap Attached (eqb-true c conn on)
on_is conn (Detached since) on = absurd (true≢false (sym on))
on_is conn Ended on = absurd (true≢false (sym on))

not_on : (conn : ℕ) (y x : Session Sent) → y ≡ x → IsOff conn x → is_on conn y.condition ≡ true → ⊥
not_on conn y x same off on = true≢false (sym on ∙ (ap (λ (z : Session Sent). is_on conn z.condition) same ∙ off))

pub none_if : (b : Bool) (f : Flight) (fs : List Flight) → b ≡ false → (if b then f ∷ [] else []) ++ fs ≡ fs
none_if b f fs e = ap (λ (b : Bool). (if b then f ∷ [] else []) ++ fs) e

module _ (conn : ℕ) where
  -- ---- sessions that stay on it

  -- each session on it was there before
  abbrev pub Stays : List (Session Sent) → List (Session Sent) → Type 0
  Stays xs ys = (y : Session Sent) → IsAmong y ys → is_on conn y.condition ≡ true → IsAmong y xs

  pub same_stays : (xs : List (Session Sent)) → Stays xs xs
  same_stays xs = λ y among on. among

  pub stays_on : (xs ys zs : List (Session Sent)) → Stays xs ys → Stays ys zs → Stays xs zs
  stays_on xs ys zs first later = λ y among on. first y (later y among on) on

  pub off_stays : (xs ys : List (Session Sent)) → AreOff conn xs → Stays xs ys → AreOff conn ys
  off_stays xs ys off stays = off_each conn ys (λ y among. by_test y among (is_on conn y.condition) refl)
    where
      by_test : (y : Session Sent) → IsAmong y ys → (b : Bool) → is_on conn y.condition ≡ b → is_on conn y.condition ≡ false
      by_test y among true on = absurd (true≢false (sym on ∙ off_among conn y xs off (stays y among on)))
      by_test y among false apart = apart

  pub each_stays : (f : Session Sent → List (Session Sent)) → ((x y : Session Sent) → IsAmong y (f x) → is_on conn y.condition ≡ true → y ≡ x) → (xs : List (Session Sent)) → Stays xs (flat_map f xs)
  each_stays f own [] = λ y among on. absurd among
  each_stays f own (x ∷ xs) = λ y among on. elim (among_part y (f x) (flat_map f xs) among) [
    | inl here ↦ inl (own x y here on)
    | inr there ↦ inr (each_stays f own xs y there on)
  ]

  pub map_stays : (f : Session Sent → Session Sent) → ((x : Session Sent) → is_on conn (f x).condition ≡ true → f x ≡ x) → (xs : List (Session Sent)) → Stays xs (map f xs)
  map_stays f own [] = λ y among on. absurd among
  map_stays f own (x ∷ xs) = λ y among on. elim among [
    | inl same ↦ inl (same ∙ own x (sym (ap (λ (z : Session Sent). is_on conn z.condition) same) ∙ on))
    | inr later ↦ inr (map_stays f own xs y later on)
  ]

  -- one that begins elsewhere
  pub more_stays : (xs : List (Session Sent)) (x : Session Sent) → IsOff conn x → Stays xs (xs ++ x ∷ [])
  more_stays xs x off = λ y among on. elim (among_part y xs (x ∷ []) among) [
    | inl here ↦ here
    | inr last ↦ elim last [
      | inl same ↦ absurd (not_on conn y x same off on)
      | inr never ↦ absurd never
    ]
  ]

  -- one that is changed elsewhere
  pub other_stays : (front : List (Session Sent)) (x z : Session Sent) (back : List (Session Sent)) → IsOff conn z → Stays (front ++ x ∷ back) (front ++ z ∷ back)
  other_stays [] x z back off = λ y among on. elim among [
    | inl same ↦ absurd (not_on conn y z same off on)
    | inr later ↦ inr later
  ]
  other_stays (v ∷ front) x z back off = λ y among on. elim among [
    | inl same ↦ inl same
    | inr later ↦ inr (other_stays front x z back off y later on)
  ]

  pub released_own : (c now : ℕ) (x : Session Sent) → is_on conn (released c (Detached now) x).condition ≡ true → released c (Detached now) x ≡ x
  released_own c now x = by_test (is_on c x.condition)
    where
      by_test : (b : Bool) → let y : Session Sent = if b then record x { condition = Detached now } else x in is_on conn y.condition ≡ true → y ≡ x
      by_test true on = absurd (true≢false (sym on))
      by_test false on = refl

  joined_own : (c number : ℕ) → (c == conn) ≡ false → (x : Session Sent) → is_on conn (joined c number x).condition ≡ true → joined c number x ≡ x
  joined_own c number differ x = by_test (is_live x.condition && (x.number == number))
    where
      by_test : (b : Bool) → let y : Session Sent = if b then record x { condition = Attached c } else x in is_on conn y.condition ≡ true → y ≡ x
      by_test true on = absurd (true≢false (sym on ∙ differ))
      by_test false on = refl

  pub ending_own : (last : Cursors) (p : Session Sent → Bool) (x y : Session Sent) → IsAmong y (if p x then ended_at last x else x ∷ []) → is_on conn y.condition ≡ true → y ≡ x
  ending_own last p x y among on = by_test (p x) among
    where
      by_test : (b : Bool) → IsAmong y (if b then ended_at last x else x ∷ []) → y ≡ x
      by_test true among = elim among [
        | inl same ↦ absurd (not_on conn y (record x { condition = Ended; sent = record x.sent { end = Some last } }) same refl on)
        | inr never ↦ absurd never
      ]
      by_test false among = elim among [
        | inl same ↦ same
        | inr never ↦ absurd never
      ]

  pub gone_stays : (conns : List ℕ) (now : ℕ) (s : State Sent) → Stays s.sessions (all_gone conns now s).sessions
  gone_stays [] now s = same_stays s.sessions
  gone_stays (c ∷ conns) now s =
      stays_on s.sessions (map (released c (Detached now)) s.sessions) (all_gone conns now (gone c (Detached now) s)).sessions
      (map_stays (released c (Detached now)) (released_own c now) s.sessions) (gone_stays conns now (gone c (Detached now) s))

  pub resumed_stays : (c now number : ℕ) → (c == conn) ≡ false → (older : Option ℕ) (s : State Sent) → Stays s.sessions (resumed c now number older s).sessions
  resumed_stays c now number differ None s = map_stays (joined c number) (joined_own c number differ) s.sessions
  resumed_stays c now number differ (Some d) s =
      stays_on s.sessions (map (released d (Detached now)) s.sessions) (map (joined c number) (map (released d (Detached now)) s.sessions))
      (map_stays (released d (Detached now)) (released_own d now) s.sessions) (map_stays (joined c number) (joined_own c number differ) (map (released d (Detached now)) s.sessions))

  -- ---- what is on its way to it

  -- nothing but closes, and no session that was not there before
  pub record IsPlain (xs ys : List (Session Sent)) (fs : List Flight) : Type 0 where
    pub codes : List ℕ
    pub shut : fs ≡ map Close codes
    pub stays : Stays xs ys

  pub plainly : (xs ys : List (Session Sent)) (fs : List Flight) → fs ≡ [] → Stays xs ys → IsPlain xs ys fs
  plainly xs ys fs lacks stays = record { codes = []; shut = lacks; stays = stays }

  pub closes_flights : (conns : List ℕ) → (codes : List ℕ) × (flights conn (map (λ (c : ℕ). Closes c 4000) conns) ≡ map Close codes)
  closes_flights [] = ([], refl)
  closes_flights (c ∷ conns) = by_test (c == conn) (closes_flights conns)
    where
      by_test : (b : Bool) → (codes : List ℕ) × (flights conn (map (λ (c : ℕ). Closes c 4000) conns) ≡ map Close codes)
          → (codes : List ℕ) × ((if b then Close 4000 ∷ [] else []) ++ flights conn (map (λ (c : ℕ). Closes c 4000) conns) ≡ map Close codes)
      by_test true rest = (4000 ∷ rest.0, ap (λ fs. Close 4000 ∷ fs) rest.1)
      by_test false rest = rest

  pub older_flights : (older : Option ℕ) → (codes : List ℕ) × (flights conn (older_sends older) ≡ map Close codes)
  older_flights None = ([], refl)
  older_flights (Some d) = closes_flights (d ∷ [])

  pub texts_off : (c : ℕ) → (c == conn) ≡ false → (texts : List (List ℕ)) (out : Out) → flights conn (map (λ (t : List ℕ). Sends c t) texts ++ Says c out ∷ []) ≡ []
  texts_off c differ [] out = none_if (c == conn) (Text (said out)) [] differ
  texts_off c differ (t ∷ texts) out = none_if (c == conn) (Text t) (flights conn (map (λ (t : List ℕ). Sends c t) texts ++ Says c out ∷ [])) differ ∙ texts_off c differ texts out

  wished_off : (g : ℕ) (o : Option Edit) → flights conn (wished g o) ≡ []
  wished_off g None = refl
  wished_off g (Some e) = refl

  pub wishes_off : (viewer : Viewer) (status : Status) (records : List Record) → flights conn (presence_wishes viewer status records) ≡ []
  wishes_off viewer status [] = refl
  wishes_off viewer status (s ∷ records) =
      flat_map-append (flight conn) (wished s.id (presence_wish s viewer status)) (presence_wishes viewer status records)
      ∙ (ap (λ fs. fs ++ flights conn (presence_wishes viewer status records)) (wished_off s.id (presence_wish s viewer status)) ∙ wishes_off viewer status records)

  pub voice_off : (viewer : Viewer) (ask : VoiceAsk) (o : Option Record) → flights conn (voice_wishes viewer ask o) ≡ []
  voice_off viewer ask None = refl
  voice_off viewer ask (Some s) = wished_off s.id (voice_wish s viewer ask)
