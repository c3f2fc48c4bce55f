-- How a client's mind goes on, item by item.
use Rattle.std.proofs.Common.{◌≡◌, ℕ, zero, suc, ◌+◌, ◌≤◌, List, [], ◌∷◌, ◌++◌, true, false, Some, None, if◌then◌else◌, length, take, refl, sym, ap, subst, ◌∙◌, arith, append_assoc, inl, inr}
use Rattle.std.specs.Prelude.{All}
use Rattle.std.proofs.lemmas.List.{length-append}
use Rattle.std.proofs.lemmas.Option.{same_Some}
use Rattle.dispatch_types.specs.declared.dispatch.Dispatch.{Dispatch}
use Rattle.dispatch_types.specs.declared.dispatch.Dispatch.TheVariants.{Ready, Resumed as ResumedDispatch}
use Rattle.dispatch_types.specs.declared.ready.Ready.{Ready as Greeted}
use Rattle.dispatch_types.specs.Fold.{Held, fold, folded, nothing, purge}
use Rattle.gateway_frames.specs.declared.out.Out.TheVariants.{Hello, Ack, Invalid, Reconnect, Resumed}
use Rattle.session_core.specs.State.{Session, Attached}
use Rattle.session_core.specs.Resume.{session_id}
use Rattle.client_session.specs.declared.session.Session.{Session as ClientSession}
use Rattle.client_session.specs.Table.{begun, session_after}
use Rattle.world_law.specs.Outputs.{sends}
use Rattle.world_law.specs.Sent.{Sent, dispatches}
use Rattle.world_law.proofs.Folds.{fold_join, same_id}
use Rattle.world_law.proofs.Lists.{all_at, append_none}
use Rattle.two_ends.specs.Flights.{Text, flights}
use Rattle.two_ends.proofs.Among.{IsAmong, all_among}
use Rattle.two_ends.proofs.Minds.{Item, Said, Told, Shut, all_flown, told_items, Mind, with_dispatch, minded, all_minded, Grows, Grown, Keeps, SessionKeeps, At, Known, Knows, IsGreeting, Comes, Fine, Good}
use Rattle.two_ends.proofs.Growing.{grown_among}

-- ---- lists

pub flown_told : (text : ℕ → Dispatch → List ℕ) (n : ℕ) (ds : List Dispatch) (conn : ℕ) → flights conn (sends text (Attached conn) n ds) ≡ all_flown text (told_items n ds)
flown_told text n [] conn = refl
flown_told text n (d ∷ ds) conn =
    ap (λ b. (if b then Text (text (n + 1) d) ∷ [] else []) ++ flights conn (sends text (Attached conn) (n + 1) ds)) (same_id conn)
    ∙ ap (λ fs. Text (text (n + 1) d) ∷ fs) (flown_told text (n + 1) ds conn)

pub minded_join : (m : Mind) (is js : List Item) → all_minded m (is ++ js) ≡ all_minded (all_minded m is) js
minded_join m [] js = refl
minded_join m (i ∷ is) js = minded_join (minded m i) is js

one_more : (front : List Dispatch) (d : Dispatch) → length (front ++ d ∷ []) ≡ length front + 1
one_more front d = omega (arith, length-append front (d ∷ []))

abbrev pub Advances : Mind → Mind → Type 0
Advances m n = (s t : ClientSession) → m.session ≡ Some s → n.session ≡ Some t → t.id ≡ s.id → s.number ≤ t.number

pub advances_same : (m : Mind) → Advances m m
advances_same m s t is at id = let same : s ≡ t = same_Some s t (sym is ∙ at) in subst (λ (u : ClientSession). s.number ≤ u.number) same (omega arith)

module _ (intents worker : ℕ) where
  -- ---- what is held

  fold_more : (g : ℕ) (kept : List Dispatch) (d : Dispatch) → fold intents g (kept ++ d ∷ []) ≡ folded intents g (fold intents g kept) d
  fold_more g kept d = fold_join intents g nothing kept (d ∷ [])

  ready_anew : (g : ℕ) (h : Held) (r : Greeted) → folded intents g h (Ready r) ≡ folded intents g nothing (Ready r)
  unfolding folded
  ready_anew g h r = refl

  resumed_purges : (g : ℕ) (h : Held) → folded intents g h ResumedDispatch ≡ purge intents g h
  unfolding folded
  resumed_purges g h = refl

  -- ---- a dispatch

  pub at_next : (m : Mind) (x : Session Sent) (front : List Dispatch) (d : Dispatch) → At intents worker m x front → Keeps (session_id worker x.number) d
      → At intents worker (with_dispatch m d (length front + 1)) x (front ++ d ∷ [])
  at_next m x front d at keeps =
      let next = keeps (length front + 1) at.session at.id in
      record {
        session = next.0;
        is = ap (session_after (begun d (length front + 1)) (length front + 1)) at.is ∙ next.1.0;
        id = next.1.1.0;
        number = next.1.1.1 ∙ sym (one_more front d);
        intents = at.intents;
        folds = λ g. fold_more g m.kept d ∙ (ap (λ h. folded intents g h d) (at.folds g) ∙ sym (fold_more g front d));
      }

  pub at_first : (m : Mind) (x : Session Sent) (front : List Dispatch) (d : Dispatch) → IsGreeting intents worker m x front d
      → At intents worker (with_dispatch m d (length front + 1)) x (front ++ d ∷ [])
  at_first m x front d greeting =
      subst (λ (front : List Dispatch). At intents worker (with_dispatch m d (length front + 1)) x (front ++ d ∷ [])) (sym greeting.first) (record {
        session = record { id = greeting.ready.session; url = greeting.ready.url; number = 1 };
        is = ap (λ d. session_after (begun d 1) 1 m.session) greeting.is;
        id = greeting.id;
        number = refl;
        intents = greeting.intents;
        folds = λ g. fold_more g m.kept d ∙ (ap (folded intents g (fold intents g m.kept)) greeting.is ∙ (ready_anew g (fold intents g m.kept) greeting.ready ∙ ap (folded intents g nothing) (sym greeting.is)));
      })

  pub at_resumed : (m : Mind) (x : Session Sent) (front : List Dispatch) (n : ℕ) → At intents worker m x front → n ≡ length front
      → ((g : ℕ) → purge intents g (fold intents g front) ≡ fold intents g front) → At intents worker (with_dispatch m ResumedDispatch n) x front
  at_resumed m x front n at number still = record {
    session = record at.session { number = n };
    is = ap (session_after None n) at.is;
    id = at.id;
    number = number;
    intents = at.intents;
    folds = λ g. fold_more g m.kept ResumedDispatch ∙ (resumed_purges g (fold intents g m.kept) ∙ (ap (purge intents g) (at.folds g) ∙ still g));
  }

  comes_at : (xs : List (Session Sent)) (m : Mind) (n : ℕ) (d : Dispatch) → All (SessionKeeps worker) xs → (comes : Comes intents worker xs m n d)
      → At intents worker (with_dispatch m d n) comes.session (comes.front ++ d ∷ [])
  comes_at xs m n d keeps comes =
      let own : SessionKeeps worker comes.session = all_among (SessionKeeps worker) comes.session xs keeps comes.among in
      let Own : Dispatch → Type 0 = Keeps (session_id worker comes.session.number) in
      let kept : Own d = all_at Own comes.front d comes.back (subst (λ (ds : List Dispatch). All Own ds) comes.split own) in
      subst (λ n. At intents worker (with_dispatch m d n) comes.session (comes.front ++ d ∷ [])) (sym comes.number) (elim comes.next [
        | inl at ↦ at_next m comes.session comes.front d at kept
        | inr greeting ↦ at_first m comes.session comes.front d greeting
      ])

  -- ---- an item

  pub knows_item : (xs : List (Session Sent)) (m : Mind) (i : Item) → All (SessionKeeps worker) xs → Knows intents worker xs m → Fine intents worker xs m i → Knows intents worker xs (minded m i)
  knows_item xs m (Said (Hello interval_ms)) keeps knows fine = knows
  knows_item xs m (Said Ack) keeps knows fine = knows
  knows_item xs m (Said (Invalid true)) keeps knows fine = knows
  knows_item xs m (Said (Invalid false)) keeps knows fine = λ s is. absurd (cc is)
  knows_item xs m (Said Reconnect) keeps knows fine = knows
  knows_item xs m (Said (Resumed n)) keeps knows fine = λ s is. record {
    session = fine.session;
    among = fine.among;
    front = fine.front;
    back = fine.back;
    split = fine.split;
    at = at_resumed m fine.session fine.front n fine.at fine.number fine.still;
  }
  knows_item xs m (Told n d) keeps knows fine = λ s is. record {
    session = fine.session;
    among = fine.among;
    front = fine.front ++ d ∷ [];
    back = fine.back;
    split = fine.split ∙ sym (append_assoc fine.front (d ∷ []) fine.back);
    at = comes_at xs m n d keeps fine;
  }
  knows_item xs m (Shut code) keeps knows fine = knows

  pub advances_item : (xs : List (Session Sent)) (m : Mind) (i : Item) → All (SessionKeeps worker) xs → Fine intents worker xs m i → Advances m (minded m i)
  advances_item xs m (Said (Hello interval_ms)) keeps fine = advances_same m
  advances_item xs m (Said Ack) keeps fine = advances_same m
  advances_item xs m (Said (Invalid true)) keeps fine = advances_same m
  advances_item xs m (Said (Invalid false)) keeps fine = λ s t is at id. absurd (cc at)
  advances_item xs m (Said Reconnect) keeps fine = advances_same m
  advances_item xs m (Said (Resumed n)) keeps fine = λ s t is at id.
      let was : fine.at.session ≡ s = same_Some fine.at.session s (sym fine.at.is ∙ is) in
      let new : At intents worker (with_dispatch m ResumedDispatch n) fine.session fine.front = at_resumed m fine.session fine.front n fine.at fine.number fine.still in
      let now : new.session ≡ t = same_Some new.session t (sym new.is ∙ at) in
      omega (arith, ap (λ (s : ClientSession). s.number) was, ap (λ (s : ClientSession). s.number) now, fine.at.number, new.number)
  advances_item xs m (Told n d) keeps fine = λ s t is at id.
      let new : At intents worker (with_dispatch m d n) fine.session (fine.front ++ d ∷ []) = comes_at xs m n d keeps fine in
      let now : new.session ≡ t = same_Some new.session t (sym new.is ∙ at) in
      elim fine.next [
        | inl old ↦
            let was : old.session ≡ s = same_Some old.session s (sym old.is ∙ is) in
            omega (arith, ap (λ (s : ClientSession). s.number) was, ap (λ (s : ClientSession). s.number) now, old.number, new.number, one_more fine.front d)
        | inr greeting ↦ absurd (greeting.other s is (sym id ∙ (ap (λ (s : ClientSession). s.id) (sym now) ∙ new.id)))
      ]
  advances_item xs m (Shut code) keeps fine = advances_same m

  -- ---- sessions that grow

  pub at_grown : (m : Mind) (x y : Session Sent) (front : List Dispatch) → Grows x y → At intents worker m x front → At intents worker m y front
  at_grown m x y front grows at = record {
    session = at.session;
    is = at.is;
    id = at.id ∙ ap (session_id worker) (sym grows.number);
    number = at.number;
    intents = ap (λ v. v.intents) grows.viewer ∙ at.intents;
    folds = at.folds;
  }

  greeting_grown : (m : Mind) (x y : Session Sent) (front : List Dispatch) (d : Dispatch) → Grows x y → IsGreeting intents worker m x front d → IsGreeting intents worker m y front d
  greeting_grown m x y front d grows greeting = record {
    first = greeting.first;
    ready = greeting.ready;
    is = greeting.is;
    id = greeting.id ∙ ap (session_id worker) (sym grows.number);
    intents = ap (λ v. v.intents) grows.viewer ∙ greeting.intents;
    other = λ s is same. greeting.other s is (same ∙ ap (session_id worker) grows.number);
  }

  split_grown : (x y : Session Sent) (front back : List Dispatch) → (grows : Grows x y) → dispatches x.sent ≡ front ++ back → dispatches y.sent ≡ front ++ (back ++ grows.more)
  split_grown x y front back grows split = grows.dispatches ∙ (ap (λ ds. ds ++ grows.more) split ∙ append_assoc front back grows.more)

  pub fine_grown : (xs ys : List (Session Sent)) → Grown xs ys → (m : Mind) (i : Item) → Fine intents worker xs m i → Fine intents worker ys m i
  fine_grown xs ys grown m (Said (Hello interval_ms)) fine = fine
  fine_grown xs ys grown m (Said Ack) fine = fine
  fine_grown xs ys grown m (Said (Invalid resumable)) fine = fine
  fine_grown xs ys grown m (Said Reconnect) fine = fine
  fine_grown xs ys grown m (Said (Resumed n)) fine =
      let grew = grown_among fine.session xs ys grown fine.among in
      record {
        session = grew.0;
        among = grew.1.0;
        front = fine.front;
        back = fine.back ++ grew.1.1.more;
        split = split_grown fine.session grew.0 fine.front fine.back grew.1.1 fine.split;
        number = fine.number;
        at = at_grown m fine.session grew.0 fine.front grew.1.1 fine.at;
        still = fine.still;
      }
  fine_grown xs ys grown m (Told n d) fine =
      let grew = grown_among fine.session xs ys grown fine.among in
      record {
        session = grew.0;
        among = grew.1.0;
        front = fine.front;
        back = fine.back ++ grew.1.1.more;
        split = split_grown fine.session grew.0 fine.front (d ∷ fine.back) grew.1.1 fine.split;
        number = fine.number;
        next = elim fine.next [
          | inl at ↦ inl (at_grown m fine.session grew.0 fine.front grew.1.1 at)
          | inr greeting ↦ inr (greeting_grown m fine.session grew.0 fine.front d grew.1.1 greeting)
        ];
      }
  fine_grown xs ys grown m (Shut code) fine = fine

  pub good_grown : (xs ys : List (Session Sent)) → Grown xs ys → (m : Mind) (is : List Item) → Good intents worker xs m is → Good intents worker ys m is
  good_grown xs ys grown m [] good = tt
  good_grown xs ys grown m (i ∷ is) good = (fine_grown xs ys grown m i good.0, good_grown xs ys grown (minded m i) is good.1)

  pub knows_grown : (xs ys : List (Session Sent)) → Grown xs ys → (m : Mind) → Knows intents worker xs m → Knows intents worker ys m
  knows_grown xs ys grown m knows s is =
      let known : Known intents worker xs m = knows s is in
      let grew = grown_among known.session xs ys grown known.among in
      record {
        session = grew.0;
        among = grew.1.0;
        front = known.front;
        back = known.back ++ grew.1.1.more;
        split = split_grown known.session grew.0 known.front known.back grew.1.1 known.split;
        at = at_grown m known.session grew.0 known.front grew.1.1 known.at;
      }

  -- ---- lists of items

  pub good_join : (xs : List (Session Sent)) (m : Mind) (is js : List Item) → Good intents worker xs m is → Good intents worker xs (all_minded m is) js → Good intents worker xs m (is ++ js)
  good_join xs m [] js first later = later
  good_join xs m (i ∷ is) js first later = (first.0, good_join xs (minded m i) is js first.1 later)

  pub good_take : (xs : List (Session Sent)) (m : Mind) (n : ℕ) (is : List Item) → Good intents worker xs m is → Good intents worker xs m (take n is)
  good_take xs m zero is good = tt
  good_take xs m (suc n) [] good = tt
  good_take xs m (suc n) (i ∷ is) good = (good.0, good_take xs (minded m i) n is good.1)

  told_from : (xs : List (Session Sent)) (x : Session Sent) (front ds back : List Dispatch) (n : ℕ) → n ≡ length front → IsAmong x xs → dispatches x.sent ≡ front ++ (ds ++ back) → SessionKeeps worker x
      → (m : Mind) → At intents worker m x front → Good intents worker xs m (told_items n ds) × At intents worker (all_minded m (told_items n ds)) x (front ++ ds)
  told_from xs x front [] back n is among split keeps m at = (tt, subst (At intents worker m x) (sym (append_none front)) at)
  told_from xs x front (d ∷ ds) back n is among split keeps m at =
      let Own : Dispatch → Type 0 = Keeps (session_id worker x.number) in
      let kept : Own d = all_at Own front d (ds ++ back) (subst (λ (ds : List Dispatch). All Own ds) split keeps) in
      let now : At intents worker (with_dispatch m d (n + 1)) x (front ++ d ∷ []) = subst (λ k. At intents worker (with_dispatch m d (k + 1)) x (front ++ d ∷ [])) (sym is) (at_next m x front d at kept) in
      let rest = told_from xs x (front ++ d ∷ []) ds back (n + 1) (omega (arith, is, one_more front d)) among (split ∙ sym (append_assoc front (d ∷ []) (ds ++ back))) keeps (with_dispatch m d (n + 1)) now in (
        (record { session = x; among = among; front = front; back = ds ++ back; split = split; number = ap (λ k. k + 1) is; next = inl at }, rest.0),
        subst (At intents worker (all_minded (with_dispatch m d (n + 1)) (told_items (n + 1) ds)) x) (append_assoc front (d ∷ []) ds) rest.1,
      )

  -- dispatches that follow those that the client holds
  pub told_good : (xs : List (Session Sent)) (x : Session Sent) (front ds back : List Dispatch) → IsAmong x xs → dispatches x.sent ≡ front ++ (ds ++ back) → SessionKeeps worker x
      → (m : Mind) → At intents worker m x front → Good intents worker xs m (told_items (length front) ds) × At intents worker (all_minded m (told_items (length front) ds)) x (front ++ ds)
  told_good xs x front ds back among split keeps m at = told_from xs x front ds back (length front) refl among split keeps m at
