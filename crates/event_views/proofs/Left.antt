-- What a client holds of the threads of a user that leaves them all.
use Rattle.std.proofs.Common.{◌≡◌, ℕ, Bool, true, false, ◌&&◌, List, [], ◌∷◌, ◌++◌, map, Option, Some, None, if◌then◌else◌, refl, sym, ap, subst, ◌∙◌, eq-eqb, arith}
use Rattle.std.specs.Prelude.{◌==◌, All, filter, flat_map, cond, is_some, option_map}
use Rattle.std.proofs.lemmas.Bool.{eqb-true}
use Rattle.std.proofs.lemmas.Bool.Decides.{nat_tests}
use Rattle.std.proofs.lemmas.List.Elements.{All-nil}
use Rattle.collections.specs.ById.{find_id, put_id, put_all, without_id, or_else, IsById}
use Rattle.collections.proofs.Ids.{IsById-put, find_above}
use Rattle.collections.proofs.Finds.{same_by_id, find-put, find-map, find-put_all, IsById-map, IsById-put_all}
use Rattle.collections.proofs.Filters.{put-same}
use Rattle.perm_bits.specs.Bits.{has_bit}
use Rattle.intent_set.specs.Intents.{guilds}
use Rattle.guild_model.specs.declared.member.Member.{Member}
use Rattle.guild_model.specs.declared.thread.Thread.{Thread}
use Rattle.guild_model.specs.declared.thread.ThreadMember.{ThreadMember}
use Rattle.guild_model.specs.Record.{Record, thread_id, thread_member_id}
use Rattle.guild_model.specs.Sight.{is_in, member_sees}
use Rattle.dispatch_types.specs.declared.viewer.Viewer.{Viewer}
use Rattle.dispatch_types.specs.declared.dispatch.Dispatch.{Dispatch}
use Rattle.dispatch_types.specs.declared.dispatch.Dispatch.TheVariants.{ThreadMembersUpdate}
use Rattle.dispatch_types.specs.Projection.{is_active}
use Rattle.dispatch_types.specs.Fold.{Held, fold_from}
use Rattle.event_views.specs.Has.{Has}
use Rattle.event_views.specs.Threads.{members_update, thread_leaves, threads_left, user_leaves}
use Rattle.event_views.proofs.Steps.{IsOf, asked-of, append-of, fold-append}
use Rattle.event_views.proofs.Threads.{without_member, follows-thread_left, left_unseen}

-- those of a list that has none of an id
module _ {T : Type 0} (key : T → ℕ) where
  without-none : (id : ℕ) (xs : List T) → find_id key id xs ≡ None → without_id key id xs ≡ xs
  without-none id [] none = refl
  without-none id (x ∷ xs) none = grind (arith, nat_tests, without-none id xs)

  -- what is found behind the first is not the first
  found_behind : (x y : T) (xs : List T) (id : ℕ) → IsById key (x ∷ xs) → find_id key id xs ≡ Some y → (key x == id) ≡ false
  found_behind x y xs id order found = by_test (key x == id) refl
    where
      by_test : (b : Bool) → (key x == id) ≡ b → b ≡ false
      by_test true here =
          let at : key x ≡ id = eqb-true (key x) id here in
          let none : find_id key id xs ≡ None = find_above key id (key x) xs (omega arith) order.0 in
          absurd (cc)
      by_test false here = refl

nobody : (o : Option ThreadMember) → is_some o ≡ false → o ≡ None
nobody None e = refl
nobody (Some m) e = absurd (cc)

all_three : (a b c : Bool) → (a && (b && c)) ≡ true → (a ≡ true) × (c ≡ true)
all_three true true true e = (refl, refl)
all_three true true false e = absurd (cc)
all_three true false c e = absurd (cc)
all_three false b c e = absurd (cc)

without_second : (a b c : Bool) → b ≡ true → (a && (b && c)) ≡ false → (a && c) ≡ false
without_second a true c here e = e
without_second a false c here e = absurd (cc)

-- whether a thread is one that a user leaves before the viewer's eyes
abbrev is_left : Record → Member → ℕ → Thread → Bool
is_left s me user t = is_active t && (is_in user t && member_sees s me t)

-- one test after another
left_among : (s : Record) (me : Member) (user : ℕ) (ts : List Thread)
    → filter (is_left s me user) ts ≡ filter (is_in user) (filter (λ (t : Thread). is_active t && member_sees s me t) ts)
left_among s me user [] = refl
left_among s me user (x ∷ ts) = by_tests (is_active x) (is_in user x) (member_sees s me x) refl (left_among s me user ts)
  where
    by_tests : (a b c : Bool) → is_in user x ≡ b → filter (is_left s me user) ts ≡ filter (is_in user) (filter (λ (t : Thread). is_active t && member_sees s me t) ts)
        → cond (a && (b && c)) (x ∷ filter (is_left s me user) ts) (filter (is_left s me user) ts)
        ≡ filter (is_in user) (cond (a && c) (x ∷ filter (λ (t : Thread). is_active t && member_sees s me t) ts) (filter (λ (t : Thread). is_active t && member_sees s me t) ts))
    by_tests true true true inside rest =
        ap (λ ts. x ∷ ts) rest
        ∙ sym (ap (λ b. cond b (x ∷ filter (is_in user) (filter (λ (t : Thread). is_active t && member_sees s me t) ts)) (filter (is_in user) (filter (λ (t : Thread). is_active t && member_sees s me t) ts))) inside)
    by_tests true false true inside rest =
        rest
        ∙ sym (ap (λ b. cond b (x ∷ filter (is_in user) (filter (λ (t : Thread). is_active t && member_sees s me t) ts)) (filter (is_in user) (filter (λ (t : Thread). is_active t && member_sees s me t) ts))) inside)
    by_tests true true false inside rest = rest
    by_tests true false false inside rest = rest
    by_tests false b c inside rest = rest

module _ (v : Viewer) (me : Member) (user : ℕ) (own : me.user.id ≡ v.user) (asks : has_bit v.intents guilds ≡ true) where
  abbrev leaving : Thread → Thread
  leaving = without_member user

  -- what is told of one thread
  abbrev told_left : Record → Thread → List Dispatch
  told_left s x = if is_left s me user x then thread_leaves s.id v user (Some (leaving x)) else []

  pub follows-left : (s : Record) (h : Held) (x : Thread) → IsById thread_id s.threads → find_id thread_id x.id s.threads ≡ Some x
      → Has s v me h → Has (record s { threads = put_id thread_id (leaving x) s.threads }) v me (fold_from v.intents s.id h (told_left s x))
  follows-left s h x ascends found has = by_test (is_left s me user x) refl
    where
      after : Record
      after = record s { threads = put_id thread_id (leaving x) s.threads }

      by_user : (b : Bool) → is_in user x ≡ b → is_left s me user x ≡ false → Has after v me h
      by_user true inside e = left_unseen s v h me own asks ascends x found has.bot user (without_second (is_active x) (is_in user x) (member_sees s me x) inside e) has
      by_user false outside e =
          let stays : leaving x ≡ x = ap (λ (ms : List ThreadMember). record x { members = ms }) (without-none thread_member_id user x.members (nobody (find_id thread_member_id user x.members) outside)) in
          let same : put_id thread_id (leaving x) s.threads ≡ s.threads = ap (λ (t : Thread). put_id thread_id t s.threads) stays ∙ put-same thread_id x s.threads ascends found in
          subst (λ (ts : List Thread). Has (record s { threads = ts }) v me h) (sym same) (record { bot = has.bot; view = has.view })

      by_test : (b : Bool) → is_left s me user x ≡ b → Has after v me (fold_from v.intents s.id h (if b then thread_leaves s.id v user (Some (leaving x)) else []))
      by_test true e =
          let both = all_three (is_active x) (is_in user x) (member_sees s me x) e in
          follows-thread_left s v h me own asks ascends x found has.bot user both.0 both.1 has
      by_test false e = by_user (is_in user x) refl e

  -- one thread after another
  each_left : (back : List Thread) (s : Record) (h : Held) → IsById thread_id s.threads → IsById thread_id back
      → ((id : ℕ) (y : Thread) → find_id thread_id id back ≡ Some y → find_id thread_id id s.threads ≡ Some y)
      → Has s v me h → Has (record s { threads = put_all thread_id s.threads (map leaving back) }) v me (fold_from v.intents s.id h (flat_map (told_left s) back))
  each_left [] s h ascends order there has = record { bot = has.bot; view = has.view }
  each_left (x ∷ back) s h ascends order there has =
      let first : Record = record s { threads = put_id thread_id (leaving x) s.threads } in
      let told : Held = fold_from v.intents s.id h (told_left s x) in
      let at : find_id thread_id x.id s.threads ≡ Some x = there x.id x (ap (λ b. if b then Some x else find_id thread_id x.id back) (eq-eqb x.id x.id refl)) in
      let rest = each_left back first told (IsById-put thread_id (leaving x) s.threads ascends) order.1
      (λ id y e. let behind = found_behind thread_id x y back id order e in
      find-put thread_id (leaving x) id s.threads
      ∙ (ap (λ b. if b then Some (leaving x) else find_id thread_id id s.threads) behind
      ∙ there id y (ap (λ b. if b then Some x else find_id thread_id id back) behind ∙ e)))
      (follows-left s h x ascends at has) in
      subst (λ (k : Held). Has (record s { threads = put_all thread_id s.threads (map leaving (x ∷ back)) }) v me k) (sym (fold-append v.intents s.id h (told_left s x) (flat_map (told_left s) back)))
      (record { bot = rest.bot; view = rest.view })

  -- the same list by the ids of the threads that are told
  by_ids : (s : Record) (after ts : List Thread) → IsById thread_id ts → ((id : ℕ) (y : Thread) → find_id thread_id id ts ≡ Some y → find_id thread_id id after ≡ Some (leaving y))
      → flat_map (told_left s) ts ≡ user_leaves s.id v user after (map thread_id (filter (is_left s me user) ts))
  by_ids s after [] order there = refl
  by_ids s after (x ∷ ts) order there =
      let at : find_id thread_id x.id after ≡ Some (leaving x) = there x.id x (ap (λ b. if b then Some x else find_id thread_id x.id ts) (eq-eqb x.id x.id refl)) in
      by_test (is_left s me user x) at
      (by_ids s after ts order.1
      (λ id y e. there id y (ap (λ b. if b then Some x else find_id thread_id id ts) (found_behind thread_id x y ts id order e) ∙ e)))
    where
      by_test : (b : Bool) → find_id thread_id x.id after ≡ Some (leaving x)
          → flat_map (told_left s) ts ≡ user_leaves s.id v user after (map thread_id (filter (is_left s me user) ts))
          → (if b then thread_leaves s.id v user (Some (leaving x)) else []) ++ flat_map (told_left s) ts
          ≡ user_leaves s.id v user after (map thread_id (cond b (x ∷ filter (is_left s me user) ts) (filter (is_left s me user) ts)))
      by_test true at rest =
          ap (λ (o : Option Thread). thread_leaves s.id v user o ++ flat_map (told_left s) ts) (sym at)
          ∙ ap (λ ds. thread_leaves s.id v user (find_id thread_id x.id after) ++ ds) rest
      by_test false at rest = rest

  pub follows-user_left : (s : Record) (h : Held) → IsById thread_id s.threads
      → Has s v me h → Has (record s { threads = map leaving s.threads }) v me (fold_from v.intents s.id h (user_leaves s.id v user (map leaving s.threads) (threads_left s me user)))
  follows-user_left s h ascends has =
      subst (λ (ts : List Thread). Has (record s { threads = ts }) v me (fold_from v.intents s.id h (user_leaves s.id v user (map leaving s.threads) (threads_left s me user)))) all_put
      (subst (λ (ds : List Dispatch). Has (record s { threads = put_all thread_id s.threads (map leaving s.threads) }) v me (fold_from v.intents s.id h ds))
      (by_ids s (map leaving s.threads) s.threads ascends (λ id y e. finds id ∙ ap (option_map leaving) e)
      ∙ ap (λ (ts : List Thread). user_leaves s.id v user (map leaving s.threads) (map thread_id ts)) (left_among s me user s.threads))
      (each_left s.threads s h ascends ascends (λ id y e. e) has))
    where
      finds : (id : ℕ) → find_id thread_id id (map leaving s.threads) ≡ option_map leaving (find_id thread_id id s.threads)
      finds id = find-map thread_id thread_id leaving (λ t. refl) id s.threads

      left_by_id : IsById thread_id (map leaving s.threads)
      left_by_id = IsById-map thread_id thread_id leaving (λ t. refl) s.threads ascends

      once : (o : Option Thread) → or_else (option_map leaving o) o ≡ option_map leaving o
      once None = refl
      once (Some t) = refl

      all_put : put_all thread_id s.threads (map leaving s.threads) ≡ map leaving s.threads
      all_put =
          same_by_id thread_id _ _ (IsById-put_all thread_id s.threads (map leaving s.threads) ascends) left_by_id
          (λ id. find-put_all thread_id id s.threads (map leaving s.threads) left_by_id
          ∙ (ap (λ o. or_else o (find_id thread_id id s.threads)) (finds id) ∙ (once (find_id thread_id id s.threads) ∙ sym (finds id))))

leaves-of : (guild : ℕ) (v : Viewer) (user : ℕ) (o : Option Thread) → All (IsOf guild) (thread_leaves guild v user o)
leaves-of guild v user None = All-nil (IsOf guild)
leaves-of guild v user (Some t) = asked-of guild v (user == v.user) (ThreadMembersUpdate (members_update guild t [] (user ∷ []))) refl

pub user_leaves-of : (guild : ℕ) (v : Viewer) (user : ℕ) (after : List Thread) (ids : List ℕ) → All (IsOf guild) (user_leaves guild v user after ids)
user_leaves-of guild v user after [] = All-nil (IsOf guild)
user_leaves-of guild v user after (id ∷ ids) =
    append-of guild (thread_leaves guild v user (find_id thread_id id after)) (user_leaves guild v user after ids) (leaves-of guild v user (find_id thread_id id after)) (user_leaves-of guild v user after ids)
