-- The masks that are kept are those of the users who have sessions.
use Rattle.std.proofs.Common.{◌≡◌, ℕ, zero, suc, ◌+◌, ◌<◌, ◌≤◌, List, [], ◌∷◌, ◌++◌, Bool, true, false, Option, Some, None, if◌then◌else◌, length, get_or, map, take, refl, sym, ap, subst, ◌∙◌, append-nil, append_assoc, arith}
use Rattle.std.specs.Prelude.{◌==◌, ◌&&◌, ◌||◌, slice_get, option_map, is_some, flat_map, IfSome, IsSome}
use Rattle.std.specs.List.{list_all, list_any}
use Rattle.std.specs.Option.{option_map_or}
use Rattle.std.proofs.lemmas.Bool.{eqb-true}
use Rattle.std.proofs.lemmas.Bool.Decides.{nat_tests}
use Rattle.std.proofs.lemmas.List.{length-append, length-map}
use Rattle.collections.specs.ById.{AllAbove, IsById, find_id, has_id, put_id}
use Rattle.collections.proofs.Finds.{find-put, key-found}
use Rattle.collections.proofs.Ids.{IsById-put}
use Rattle.guild_model.specs.declared.member.Member.{Member}
use Rattle.guild_model.specs.Record.{Record, member_id}
use Rattle.dispatch_types.specs.Fold.{contains}
use Rattle.dispatch_types.specs.Serves.{in_shard, serves}
use Rattle.dispatch_types.specs.declared.viewer.Viewer.{Viewer}
use Rattle.mask_cache.specs.Masks.{UserMasks, MasksOf}
use Rattle.replay_ring.specs.Replay.{Replay}
use Rattle.session_core.specs.State.{State, Session, Condition, Attached, Detached, Ended, is_live}
use Rattle.guild_replica.specs.Replicas.{GuildCopy}
use Rattle.world_law.specs.Keeping.{record_at}
use Rattle.world_law.specs.Sent.{Sent}
use Rattle.world_law.specs.Model.{Worker}
use Rattle.world_law.proofs.Folds.{same_id}
use Rattle.worker_core.specs.InCode.{KeptWorker, bare, guild_of, replica_id, wire_model}
use Rattle.worker_core.specs.Masks.{AllKeep, Lends, has_kept_session, has_session, has_users, is_served, keep_masks, keeps_masks}
use Rattle.worker_core.specs.Recipients.{IsLonger, Picks, viewer_of}
use Rattle.worker_core.specs.Represents.{Represents, kept_session}
use Rattle.worker_core.proofs.Picking.{Item}
use Rattle.worker_core.proofs.Records.{find_guild}
use Rattle.worker_core.proofs.Representing.{found_kept}
use Rattle.worker_core.proofs.Telling.{last_taken, split_at}

-- ---- tests of lists

both : (a b : Bool) → a ≡ true → b ≡ true → (a && b) ≡ true
both a b first later = ap (λ c. c && b) first ∙ later

first_of : (a b : Bool) → (a && b) ≡ true → a ≡ true
first_of true b all = refl
first_of false b all = absurd (cc all)

second_of : (a b : Bool) → (a && b) ≡ true → b ≡ true
second_of true b all = all
second_of false b all = absurd (cc all)

module _ {A : Type 0} (p : A → Bool) where
  all_at : (xs : List A) (i : ℕ) (x : A) → list_all p xs ≡ true → slice_get xs i ≡ Some x → p x ≡ true
  all_at [] zero x all found = absurd (cc)
  all_at [] (suc i) x all found = absurd (cc)
  all_at (y ∷ xs) zero x all found = let same : y ≡ x = cc in ap p (sym same) ∙ first_of (p y) (list_all p xs) all
  all_at (y ∷ xs) (suc i) x all found = all_at xs i x (second_of (p y) (list_all p xs) all) found

  all_more : (xs : List A) (x : A) → list_all p xs ≡ true → p x ≡ true → list_all p (xs ++ x ∷ []) ≡ true
  all_more [] x all one = both (p x) true one refl
  all_more (y ∷ xs) x all one = both (p y) (list_all p (xs ++ x ∷ [])) (first_of (p y) (list_all p xs) all) (all_more xs x (second_of (p y) (list_all p xs) all) one)

  pub any_more : (xs : List A) (x : A) → list_any p xs ≡ false → p x ≡ false → list_any p (xs ++ x ∷ []) ≡ false
  any_more [] x none one = ap (λ b. b || false) one
  any_more (y ∷ xs) x none one = by_test (p y) none (any_more xs x)
    where
      by_test : (b : Bool) → (b || list_any p xs) ≡ false → (list_any p xs ≡ false → p x ≡ false → list_any p (xs ++ x ∷ []) ≡ false) → (b || list_any p (xs ++ x ∷ [])) ≡ false
      by_test true none rest = absurd (cc none)
      by_test false none rest = rest none one

  pub any_at : (xs : List A) (i : ℕ) (x : A) → slice_get xs i ≡ Some x → p x ≡ true → list_any p xs ≡ true
  any_at [] zero x found one = absurd (cc)
  any_at [] (suc i) x found one = absurd (cc)
  any_at (y ∷ xs) zero x found one = let same : y ≡ x = cc in ap (λ b. b || list_any p xs) (ap p same ∙ one)
  any_at (y ∷ xs) (suc i) x found one = by_test (p y) (any_at xs i x found one)
    where
      by_test : (b : Bool) → list_any p xs ≡ true → (b || list_any p xs) ≡ true
      by_test true rest = refl
      by_test false rest = rest

all_weaker : {A : Type 0} (p q : A → Bool) → ((x : A) → p x ≡ true → q x ≡ true) → (xs : List A) → list_all p xs ≡ true → list_all q xs ≡ true
all_weaker p q so [] all = refl
all_weaker p q so (x ∷ xs) all =
    both (q x) (list_all q xs) (so x (first_of (p x) (list_all p xs) all)) (all_weaker p q so xs (second_of (p x) (list_all p xs) all))

contains_at : (us : List ℕ) (i u : ℕ) → slice_get us i ≡ Some u → contains u us ≡ true
contains_at [] zero u found = absurd (cc)
contains_at [] (suc i) u found = absurd (cc)
contains_at (v ∷ us) zero u found = let same : v ≡ u = cc in ap (λ b. b || contains u us) (ap (λ n. n == u) same ∙ same_id u)
contains_at (v ∷ us) (suc i) u found = by_test (v == u) (contains_at us i u found)
  where
    by_test : (b : Bool) → contains u us ≡ true → (b || contains u us) ≡ true
    by_test true rest = refl
    by_test false rest = rest

contains_longer : (us more : List ℕ) (u : ℕ) → contains u us ≡ true → contains u (us ++ more) ≡ true
contains_longer [] more u there = absurd (cc there)
contains_longer (v ∷ us) more u there = by_test (v == u) there (contains_longer us more u)
  where
    by_test : (b : Bool) → (b || contains u us) ≡ true → (contains u us ≡ true → contains u (us ++ more) ≡ true) → (b || contains u (us ++ more)) ≡ true
    by_test true there rest = refl
    by_test false there rest = rest there

-- ---- the users of viewers

longer_has : (us us' : List ℕ) (vs : List Viewer) → IsLonger us us' → has_users us vs ≡ true → has_users us' vs ≡ true
longer_has us us' vs longer has =
    all_weaker (λ (v : Viewer). contains v.user us) (λ (v : Viewer). contains v.user us')
    (λ v there. ap (contains v.user) longer.1 ∙ contains_longer us longer.0 v.user there) vs has

pub next_has : (us us' : List ℕ) (vs : List Viewer) (i : ℕ) (here : Item vs i) (k u : ℕ) → i < length vs → has_users us (take i vs) ≡ true → IsLonger us us'
    → slice_get us' k ≡ Some u → u ≡ here.item.user → has_users us' (take (i + 1) vs) ≡ true
next_has us us' vs i here k u lt has longer at is =
    ap (has_users us') (last_taken vs i here.item lt here.read)
    ∙ all_more (λ (v : Viewer). contains v.user us') (take i vs) here.item (longer_has us us' (take i vs) longer has)
    (ap (λ n. contains n us') (sym is) ∙ contains_at us' k u at)

-- viewers' users are those of the sessions that are picked by them
pub picked_users : (vs : List Viewer) (us ks : List ℕ) (xs : List (Session Replay)) → Picks vs ks (map viewer_of xs) → has_users us vs ≡ true
    → list_all (λ (x : Session Replay). contains x.viewer.user us) xs ≡ true
picked_users vs us [] [] picks has = refl
picked_users vs us [] (x ∷ xs) picks has = absurd (cc)
picked_users vs us (k ∷ ks) [] picks has = absurd (cc)
picked_users vs us (k ∷ ks) (x ∷ xs) picks has =
    let at : slice_get vs k ≡ Some x.viewer = cc in
    let rest : Picks vs ks (map viewer_of xs) = cc in
    both (contains x.viewer.user us) (list_all (λ (y : Session Replay). contains y.viewer.user us) xs)
    (all_at (λ (v : Viewer). contains v.user us) vs k x.viewer has at) (picked_users vs us ks xs rest has)

-- ---- copies, one after another

above_here : (k : ℕ) (front back : List GuildCopy) (r : GuildCopy) → AllAbove replica_id k (front ++ r ∷ back) → k < replica_id r
above_here k [] back r above = above.0
above_here k (f ∷ front) back r above = above_here k front back r above.1

pub find_here : (front back : List GuildCopy) (r : GuildCopy) → IsById replica_id (front ++ r ∷ back) → find_id replica_id (replica_id r) (front ++ r ∷ back) ≡ Some r
find_here [] back r ascend = ap (λ b. if b then Some r else find_id replica_id (replica_id r) back) (same_id (replica_id r))
find_here (f ∷ front) back r ascend =
    let below : replica_id f < replica_id r = above_here (replica_id f) front back r ascend.0 in
    let rest = find_here front back r ascend.1 in
    grind (arith, nat_tests, below, rest)

pub put_here : (front back : List GuildCopy) (r x : GuildCopy) → IsById replica_id (front ++ r ∷ back) → replica_id x ≡ replica_id r
    → put_id replica_id x (front ++ r ∷ back) ≡ front ++ x ∷ back
put_here [] back r x ascend same = grind (arith, nat_tests, same)
put_here (f ∷ front) back r x ascend same =
    let below : replica_id f < replica_id r = above_here (replica_id f) front back r ascend.0 in
    let rest = put_here front back r x ascend.1 same in
    grind (arith, nat_tests, below, same, rest)

read_at : (front back : List GuildCopy) (r d : GuildCopy) → get_or (front ++ r ∷ back) (length front) d ≡ r
read_at [] back r d = refl
read_at (f ∷ front) back r d = read_at front back r d

-- what is read at a place stands there
pub stands_at : (rs front back : List GuildCopy) (r x : GuildCopy) (place : ℕ) → rs ≡ front ++ r ∷ back → length front ≡ place → x ≡ get_or rs place x → x ≡ r
stands_at rs front back r x place whole at read =
    read ∙ (ap (λ ys. get_or ys place x) whole ∙ (ap (λ n. get_or (front ++ r ∷ back) n x) (sym at) ∙ read_at front back r x))

-- and is found by its id
pub is_there : (rs : List GuildCopy) (place : ℕ) (x e : GuildCopy) → place < length rs → IsById replica_id rs → x ≡ get_or rs place x → replica_id e ≡ replica_id x
    → IsSome (find_id replica_id (replica_id e) rs)
is_there rs place x e lt ascend read own =
    let split = split_at rs place lt in
    let is : x ≡ split.item = stands_at rs split.front split.back split.item x place split.whole (sym split.index) read in
    let found : find_id replica_id (replica_id split.item) rs ≡ Some split.item =
    ap (λ ys. find_id replica_id (replica_id split.item) ys) split.whole ∙ find_here split.front split.back split.item (subst (λ ys. IsById replica_id ys) split.whole ascend) in
    ap (λ n. is_some (find_id replica_id n rs)) (own ∙ ap replica_id is) ∙ ap is_some found

-- one that is put in its place is found too
pub still_there : (rs mid : List GuildCopy) (e x k : GuildCopy) → find_id replica_id (replica_id e) rs ≡ Some x → mid ≡ put_id replica_id e rs → replica_id k ≡ replica_id x
    → IsSome (find_id replica_id (replica_id k) mid)
still_there rs mid e x k found put own =
    let same : replica_id x ≡ replica_id e = key-found replica_id (replica_id e) rs x found in
    ap (λ n. is_some (find_id replica_id n mid)) (own ∙ same)
    ∙ (ap (λ ys. is_some (find_id replica_id (replica_id e) ys)) put
    ∙ ap is_some (find-put replica_id e (replica_id e) rs ∙ ap (λ b. if b then Some e else find_id replica_id (replica_id e) rs) (same_id (replica_id e))))

-- its masks are those of these users
pub same_users : (front back : List GuildCopy) (r x : GuildCopy) (us : List ℕ) → x ≡ r → x.users ≡ us → front ++ r ∷ back ≡ front ++ record r { users = us } ∷ back
same_users front back r x us is same = ap (λ (k : GuildCopy). front ++ k ∷ back) (ap (λ ns. record r { users = ns }) (ap (λ (k : GuildCopy). k.users) (sym is) ∙ same))

-- the copy at a place, taken out, changed and put back
module _ (front back : List GuildCopy) (r : GuildCopy) (us : List ℕ) (ascend : IsById replica_id (front ++ r ∷ back)) where
  pub put_back : (empty taken kept : GuildCopy) (mid new : List GuildCopy) → replica_id empty ≡ replica_id r
      → find_id replica_id (replica_id empty) (front ++ r ∷ back) ≡ Some taken → mid ≡ put_id replica_id empty (front ++ r ∷ back)
      → kept ≡ record taken { users = us } → new ≡ put_id replica_id kept mid → new ≡ front ++ record r { users = us } ∷ back
  put_back empty taken kept mid new own found out is put =
      let there : find_id replica_id (replica_id empty) (front ++ r ∷ back) ≡ Some r = ap (λ n. find_id replica_id n (front ++ r ∷ back)) own ∙ find_here front back r ascend in
      let same : taken ≡ r = cc (found, there) in
      let whole : kept ≡ record r { users = us } = is ∙ ap (λ (t : GuildCopy). record t { users = us }) same in
      let emptied : mid ≡ front ++ empty ∷ back = out ∙ put_here front back r empty ascend own in
      let ascends : IsById replica_id (front ++ empty ∷ back) =
      subst (λ rs. IsById replica_id rs) (put_here front back r empty ascend own) (IsById-put replica_id empty (front ++ r ∷ back) ascend) in
      put ∙ (ap (λ rs. put_id replica_id kept rs) emptied
      ∙ (put_here front back empty kept ascends (ap replica_id whole ∙ sym own) ∙ ap (λ (k : GuildCopy). front ++ k ∷ back) whole))

  pub same_bare : map bare (front ++ record r { users = us } ∷ back) ≡ map bare (front ++ r ∷ back)
  same_bare = by_front front
    where
      by_front : (fs : List GuildCopy) → map bare (fs ++ record r { users = us } ∷ back) ≡ map bare (fs ++ r ∷ back)
      by_front [] = refl
      by_front (f ∷ fs) = ap (λ rs. bare f ∷ rs) (by_front fs)

-- the masks of these users are kept with the first copies
pub record AreKept (old now : List GuildCopy) (us : List ℕ) (place : ℕ) : Type 0 where
  pub done : List GuildCopy
  pub rest : List GuildCopy
  pub whole : now ≡ done ++ rest
  pub many : length done ≡ place
  pub same : map bare now ≡ map bare old
  pub kept : AllKeep us done

pub none_kept : (rs : List GuildCopy) (us : List ℕ) → AreKept rs rs us 0
none_kept rs us = record { done = []; rest = rs; whole = refl; many = refl; same = refl; kept = tt }

pub as_many : (xs ys : List GuildCopy) → map bare xs ≡ map bare ys → length xs ≡ length ys
as_many xs ys same = sym (length-map xs bare) ∙ (ap length same ∙ length-map ys bare)

kept_more : (us : List ℕ) (rs : List GuildCopy) (r : GuildCopy) → AllKeep us rs → r.users ≡ us → AllKeep us (rs ++ r ∷ [])
kept_more us [] r all one = (one, tt)
kept_more us (x ∷ rs) r all one = (all.0, kept_more us rs r all.1 one)

-- what is left of copies of which some are done
pub record Next (rs done rest : List GuildCopy) : Type 0 where
  pub item : GuildCopy
  pub back : List GuildCopy
  pub whole : rs ≡ done ++ item ∷ back
  pub is : rest ≡ item ∷ back

pub next_of : (rs done rest : List GuildCopy) → rs ≡ done ++ rest → length done < length rs → Next rs done rest
next_of rs done [] whole lt = absurd (omega (arith, lt, ap length (whole ∙ append-nil done)))
next_of rs done (r ∷ rest) whole lt = record { item = r; back = rest; whole = whole; is = refl }

pub next_kept : (old now new : List GuildCopy) (us : List ℕ) (place : ℕ) (k : AreKept old now us place) (n : Next now k.done k.rest) → IsById replica_id now
    → new ≡ k.done ++ record n.item { users = us } ∷ n.back → AreKept old new us (place + 1)
next_kept old now new us place k n ascend is = record {
  done = k.done ++ record n.item { users = us } ∷ [];
  rest = n.back;
  whole = is ∙ sym (append_assoc k.done (record n.item { users = us } ∷ []) n.back);
  many = omega (arith, length-append k.done (record n.item { users = us } ∷ []), k.many);
  same = ap (map bare) is ∙ (same_bare k.done n.back n.item us (subst (λ rs. IsById replica_id rs) n.whole ascend) ∙ (ap (map bare) (sym n.whole) ∙ k.same));
  kept = kept_more us k.done (record n.item { users = us }) k.kept refl;
}

pub all_kept : (old now : List GuildCopy) (us : List ℕ) (place : ℕ) → AreKept old now us place → length old ≤ place → AllKeep us now
all_kept old now us place k end = by_rest k.rest k.whole
  where
    by_rest : (rest : List GuildCopy) → now ≡ k.done ++ rest → AllKeep us now
    by_rest [] whole = subst (AllKeep us) (sym (whole ∙ append-nil k.done)) k.kept
    by_rest (r ∷ rest) whole = absurd (omega (arith, k.many, end, as_many now old k.same, ap length whole, length-append k.done (r ∷ rest)))

pub keeps_all : (us : List ℕ) (xs : List (Session Replay)) (rs : List GuildCopy) → list_all (λ (x : Session Replay). contains x.viewer.user us) xs ≡ true
    → AllKeep us rs → keep_masks rs xs ≡ true
keeps_all us xs [] has all = refl
keeps_all us xs (r ∷ rs) has all =
    both (keeps_masks xs r) (keep_masks rs xs) (ap (λ ns. list_all (λ (x : Session Replay). contains x.viewer.user ns) xs) all.0 ∙ has) (keeps_all us xs rs has all.1)

pub no_session : (rs : List GuildCopy) → keep_masks rs [] ≡ true
no_session [] = refl
no_session (r ∷ rs) = no_session rs

-- ---- what is lent

found_keeps : (xs : List (Session Replay)) (g : ℕ) (rs : List GuildCopy) (r : GuildCopy) → keep_masks rs xs ≡ true → find_id replica_id g rs ≡ Some r → keeps_masks xs r ≡ true
found_keeps xs g [] r all found = absurd (cc found)
found_keeps xs g (x ∷ rs) r all found = by_test (replica_id x == g) found (found_keeps xs g rs r (second_of (keeps_masks xs x) (keep_masks rs xs) all))
  where
    by_test : (b : Bool) → (if b then Some x else find_id replica_id g rs) ≡ Some r → (find_id replica_id g rs ≡ Some r → keeps_masks xs r ≡ true) → keeps_masks xs r ≡ true
    by_test true found rest = let same : x ≡ r = cc found in ap (keeps_masks xs) (sym same) ∙ first_of (keeps_masks xs x) (keep_masks rs xs) all
    by_test false found rest = rest found

served_member : (s : Record) (user : ℕ) (v : Viewer) → is_served s user v ≡ true → (s.opened && has_id member_id user s.members) ≡ true
served_member s user v is =
    let own : v.user ≡ user = eqb-true v.user user (first_of (v.user == user) (serves v s) is) in
    subst (λ n. (s.opened && has_id member_id n s.members) ≡ true) own
    (by_tests s.opened (in_shard v.shard s.id) (find_id member_id v.user s.members) (second_of (v.user == user) (serves v s) is))
  where
    by_tests : (opened within : Bool) (o : Option Member) → is_some (if opened && within then o else None) ≡ true → (opened && is_some o) ≡ true
    by_tests true true o there = there
    by_tests true false o there = absurd (cc there)
    by_tests false within o there = absurd (cc there)

any_served : (xs : List (Session Replay)) (s : Record) (user : ℕ) (r : GuildCopy) → has_kept_session xs user s ≡ true → keeps_masks xs r ≡ true
    → ((s.opened && has_id member_id user s.members) && contains user r.users) ≡ true
any_served [] s user r any all = absurd (cc any)
any_served (x ∷ xs) s user r any all = by_test (is_served s user x.viewer) refl any (any_served xs s user r)
  where
    by_test : (b : Bool) → is_served s user x.viewer ≡ b → (b || has_kept_session xs user s) ≡ true
        → (has_kept_session xs user s ≡ true → keeps_masks xs r ≡ true → ((s.opened && has_id member_id user s.members) && contains user r.users) ≡ true)
        → ((s.opened && has_id member_id user s.members) && contains user r.users) ≡ true
    by_test true is any rest =
        let own : x.viewer.user ≡ user = eqb-true x.viewer.user user (first_of (x.viewer.user == user) (serves x.viewer s) is) in
        both (s.opened && has_id member_id user s.members) (contains user r.users) (served_member s user x.viewer is)
        (ap (λ n. contains n r.users) (sym own) ∙ first_of (contains x.viewer.user r.users) (keeps_masks xs r) all)
    by_test false is any rest = rest any (second_of (contains x.viewer.user r.users) (keeps_masks xs r) all)

live_served : (s : Record) (user : ℕ) (xs : List (Session Sent)) → has_kept_session (flat_map kept_session xs) user s ≡ list_any (λ (x : Session Sent). is_live x.condition && is_served s user x.viewer) xs
live_served s user [] = refl
live_served s user (x ∷ xs) = by_condition x.condition (live_served s user xs)
  where
    rest_any : Bool
    rest_any = list_any (λ (y : Session Sent). is_live y.condition && is_served s user y.viewer) xs

    by_condition : (condition : Condition) → has_kept_session (flat_map kept_session xs) user s ≡ rest_any
        → has_kept_session (kept_session (record x { condition = condition }) ++ flat_map kept_session xs) user s ≡ ((is_live condition && is_served s user x.viewer) || rest_any)
    by_condition (Attached c) rest = ap (λ b. is_served s user x.viewer || b) rest
    by_condition (Detached since) rest = ap (λ b. is_served s user x.viewer || b) rest
    by_condition Ended rest = rest

module _ (k : KeptWorker) (w : Worker) (stands : Represents k w) (g user : ℕ) where
  session_is : (s : Record) → has_session w user s ≡ has_kept_session k.machine.core.sessions user s
  session_is s = sym (ap (λ (c : State Replay). has_kept_session c.sessions user s) stands.machine.core ∙ live_served s user w.core.sessions)

  record_is : (o : Option GuildCopy) → find_id replica_id g k.machine.logs ≡ option_map bare o → record_at wire_model w.logs g ≡ option_map guild_of o
  record_is o found = sym (found_kept k.machine w stands.machine g) ∙ (find_guild g k.machine.logs ∙ (ap (option_map guild_of) found ∙ by_found o))
    where
      by_found : (o : Option GuildCopy) → option_map guild_of (option_map bare o) ≡ option_map guild_of o
      by_found None = refl
      by_found (Some r) = refl

  pub lends_none : find_id replica_id g k.machine.logs ≡ None → Lends w g user None
  lends_none none = ap (λ o. option_map_or (has_session w user) o false) (record_is None none)

  module _ (r : GuildCopy) (found : find_id replica_id g k.machine.logs ≡ Some (bare r)) where
    pub lends_without : has_kept_session k.machine.core.sessions user r.guild ≡ false → Lends w g user None
    lends_without without = ap (λ o. option_map_or (has_session w user) o false) (record_is (Some r) found) ∙ (session_is r.guild ∙ without)

    pub lends_masks : find_id replica_id g k.copies ≡ Some r → has_kept_session k.machine.core.sessions user r.guild ≡ true
        → {B : Type 0} (masks_of : B → UserMasks) (o : Option B) → IfSome o (λ b. MasksOf r.guild user (masks_of b))
        → is_some o ≡ ((r.guild.opened && has_id member_id user r.guild.members) && contains user r.users) → Lends w g user (option_map masks_of o)
    lends_masks here any masks_of None is there =
        absurd (cc (there, any_served k.machine.core.sessions r.guild user r any (found_keeps k.machine.core.sessions g k.copies r stands.keeps here)))
    lends_masks here any masks_of (Some b) is there = (r.guild, record_is (Some r) found, session_is r.guild ∙ any, is)
