-- Masks that are kept from one record to the next.
use Rattle.std.proofs.Common.{◌≡◌, ◌<◌, ◌≤◌, ◌+◌, ℕ, zero, suc, Bool, true, false, not, List, [], ◌∷◌, ◌++◌, Option, Some, None, length, take, drop, get_or, refl, sym, ap, subst, ◌∙◌, arith, Bor}
use Rattle.std.specs.Prelude.{◌==◌, ◌&&◌, ◌||◌, cond, is_some, IfSome, nat_lt, position, option_map, slice_get}
use Rattle.std.specs.List.{position_or_len}
use Rattle.std.specs.Option.{is_none, option_copied}
use Rattle.std.proofs.Math.Seq.{take-suc}
use Rattle.std.proofs.lemmas.Bool.{eqb-true}
use Rattle.std.proofs.lemmas.Bool.Decides.{nat_tests}
use Rattle.std.proofs.lemmas.Option.{slice_get-get_or}
use Rattle.std.proofs.lemmas.List.Quantifiers.{position-Some}
use Rattle.collections.specs.ById.{find_id, has_id}
use Rattle.guild_model.specs.declared.member.Member.{Member}
use Rattle.guild_model.specs.declared.user.User.{User}
use Rattle.guild_model.specs.declared.verdict.Verdict.{Verdict}
use Rattle.guild_model.specs.Record.{Record, member_id}
use Rattle.message_edit.specs.declared.MessageEdit.{MessageEdit}
use Rattle.message_edit.specs.declared.MessageEdit.TheVariants.{MessageCreate, MessageUpdate, MessageDelete, ReactionAdd, ReactionRemove, Typing}
use Rattle.message_edit.specs.declared.message_create.MessageCreate.{MessageCreate as Writing}
use Rattle.message_edit.specs.Messages.{member_user, written_by}
use Rattle.message_edit.specs.MessageEdits.{message_applied}
use Rattle.dispatch_types.specs.Fold.{contains}
use Rattle.edit_apply.specs.declared.Edit.{Edit}
use Rattle.edit_apply.specs.declared.Edit.TheVariants as edit
use Rattle.edit_apply.specs.Edits.{verdict, accepts, applied, after_verdict}
use Rattle.mask_cache.specs.declared.mask_change.MaskChange.TheVariants.{Nothing}
use Rattle.mask_cache.specs.Masks.{UserMasks, MasksOf}
use Rattle.mask_cache.specs.Law.{Follows}
use Rattle.mask_cache.proofs.Mended.{none-changed}
use Rattle.mask_cache.proofs.Stay.{left}
use Rattle.guild_replica.specs.Replicas.{AreKept, EachKept, is_served}

-- masks are those of the record before an accepted edit that made this one
abbrev pub AreKeptBefore : Record → Edit → List ℕ → List (Option UserMasks) → Type 0
AreKeptBefore after e users list = (before : Record) × (accepts before e ≡ true) × (after ≡ applied before e) × EachKept before users list

pub both : (a b : Bool) → (a && b) ≡ true → (a ≡ true) × (b ≡ true)
both true true is = (refl, refl)
both true false is = absurd (cc is)
both false b is = absurd (cc is)

pub none-left : {A : Type 0} (xs : List A) → length xs ≤ 0 → xs ≡ []
none-left [] le = refl
none-left (x ∷ xs) le = absurd (omega (arith, le))

-- ---- lists of users and masks in step

module _ (s : Record) where
  pub push-kept : (users : List ℕ) (list : List (Option UserMasks)) (user : ℕ) (one : Option UserMasks) → EachKept s users list → AreKept s user one → EachKept s (users ++ user ∷ []) (list ++ one ∷ [])
  push-kept [] [] user one each is = (is, tt)
  push-kept [] (o ∷ list) user one each is = absurd each
  push-kept (u ∷ users) [] user one each is = absurd each
  push-kept (u ∷ users) (o ∷ list) user one each is = (each.0, push-kept users list user one each.1 is)

  -- the first of those that are left
  pub head-kept : (users : List ℕ) (n : ℕ) (one : Option UserMasks) (list : List (Option UserMasks)) → EachKept s (drop n users) (one ∷ list)
      → (n < length users) × ((d : ℕ) → AreKept s (get_or users n d) one) × EachKept s (drop (suc n) users) list
  head-kept [] zero one list each = absurd each
  head-kept [] (suc n) one list each = absurd each
  head-kept (u ∷ users) zero one list each = (omega arith, λ d. each.0, each.1)
  head-kept (u ∷ users) (suc n) one list each =
      let rest = head-kept users n one list each in
      (omega (arith, rest.0), rest.1, rest.2)

  -- none is left
  pub all-kept : (users : List ℕ) (n : ℕ) → EachKept s (drop n users) [] → take n users ≡ users
  all-kept [] zero each = refl
  all-kept [] (suc n) each = refl
  all-kept (u ∷ users) zero each = absurd each
  all-kept (u ∷ users) (suc n) each = ap (λ us. u ∷ us) (all-kept users n each)

  -- what is kept of one after the others
  pub next-kept : (users : List ℕ) (n d : ℕ) (list : List (Option UserMasks)) (one : Option UserMasks) → n < length users → EachKept s (take n users) list → AreKept s (get_or users n d) one
      → EachKept s (take (suc n) users) (list ++ one ∷ [])
  next-kept users n d list one lt each is =
      subst (λ (us : List ℕ). EachKept s us (list ++ one ∷ [])) (sym (take-suc users n d lt)) (push-kept (take n users) list (get_or users n d) one each is)

  -- what stands in a list of masks
  pub kept-at : (users : List ℕ) (list : List (Option UserMasks)) (index user : ℕ) (one : Option UserMasks) → EachKept s users list → slice_get users index ≡ Some user → slice_get list index ≡ Some one → AreKept s user one
  kept-at [] list index user one each there found = absurd (cc there)
  kept-at (u ∷ users) [] index user one each there found = absurd each
  kept-at (u ∷ users) (o ∷ list) zero user one each there found =
      let whose : u ≡ user = cc there in
      let is : o ≡ one = cc found in
      subst (λ (o : Option UserMasks). AreKept s user o) is (subst (λ (u : ℕ). AreKept s u o) whose each.0)
  kept-at (u ∷ users) (o ∷ list) (suc index) user one each there found = kept-at users list index user one each.1 there found

  pub kept-past : (users : List ℕ) (list : List (Option UserMasks)) (index user : ℕ) → EachKept s users list → slice_get users index ≡ Some user → slice_get list index ≡ None → ⊥
  kept-past [] list index user each there past = absurd (cc there)
  kept-past (u ∷ users) [] index user each there past = each
  kept-past (u ∷ users) (o ∷ list) zero user each there past = absurd (cc past)
  kept-past (u ∷ users) (o ∷ list) (suc index) user each there past = kept-past users list index user each.1 there past

  pub user-at : (users : List ℕ) (list : List (Option UserMasks)) (index : ℕ) (m : UserMasks) → EachKept s users list → slice_get list index ≡ Some (Some m) → MasksOf s m.user m
  user-at [] [] index m each found = absurd (cc found)
  user-at [] (o ∷ list) index m each found = absurd each
  user-at (u ∷ users) [] index m each found = absurd (cc found)
  user-at (u ∷ users) (o ∷ list) zero m each found =
      let is : o ≡ Some m = cc found in
      let kept : AreKept s u (Some m) = subst (λ (o : Option UserMasks). AreKept s u o) is each.0 in
      subst (λ (u : ℕ). MasksOf s u m) (sym kept.1.whose) kept.1
  user-at (u ∷ users) (o ∷ list) (suc index) m each found = user-at users list index m each.1 found

-- ---- the first place of a user

module _ (user : ℕ) where
  pub is_there : (users : List ℕ) (index : ℕ) → position (λ one. one == user) users ≡ Some index → slice_get users index ≡ Some user
  is_there users index is =
      let first = position-Some (λ one. one == user) users index user is in
      slice_get-get_or users index user first.0 ∙ ap (λ u. Some u) (eqb-true (get_or users index user) user first.1)

  pub is_among : (users : List ℕ) (index : ℕ) → slice_get users index ≡ Some user → contains user users ≡ true
  is_among [] index there = absurd (cc there)
  is_among (u ∷ users) zero there =
      let same : u ≡ user = cc there in
      grind (arith, nat_tests, same)
  is_among (u ∷ users) (suc index) there =
      let rest = is_among users index there in
      by_test (u == user) rest
    where
      by_test : (b : Bool) → contains user users ≡ true → (b || contains user users) ≡ true
      by_test true rest = refl
      by_test false rest = rest

  none_before : (users : List ℕ) → length users ≤ position_or_len (λ one. one == user) users → contains user users ≡ false
  none_before [] le = refl
  none_before (u ∷ users) le = by_test (u == user) le (none_before users)
    where
      by_test : (b : Bool) → suc (length users) ≤ cond (not b) (1 + position_or_len (λ one. one == user) users) 0 → (length users ≤ position_or_len (λ one. one == user) users → contains user users ≡ false)
          → (b || contains user users) ≡ false
      by_test true le rest = absurd (omega (arith, le))
      by_test false le rest = rest (omega (arith, le))

  pub is_none_of : (users : List ℕ) → position (λ one. one == user) users ≡ None → contains user users ≡ false
  is_none_of users is = by_test (nat_lt (position_or_len (λ one. one == user) users) (length users)) refl is
    where
      by_test : (b : Bool) → nat_lt (position_or_len (λ one. one == user) users) (length users) ≡ b → cond b (Some (position_or_len (λ one. one == user) users)) None ≡ None → contains user users ≡ false
      by_test true lt is = absurd (cc is)
      by_test false past is = none_before users (grind (arith, nat_tests, past))

-- ---- an edit of messages leaves the members, and the guild open

abbrev SameMembers : Record → Record → Type 0
SameMembers s t = (t.members ≡ s.members) × (t.opened ≡ s.opened)

written-leaves : (s : Record) (create : Writing) (author : Option User) → SameMembers s (written_by s create author)
written-leaves s create None = (refl, refl)
written-leaves s create (Some author) = (refl, refl)

message-leaves : (s : Record) (e : MessageEdit) → SameMembers s (message_applied s e)
message-leaves s (MessageCreate e) = written-leaves s e (option_map member_user (find_id member_id e.author s.members))
message-leaves s (MessageUpdate e) = (refl, refl)
message-leaves s (MessageDelete e) = (refl, refl)
message-leaves s (ReactionAdd e) = (refl, refl)
message-leaves s (ReactionRemove e) = (refl, refl)
message-leaves s (Typing e) = (refl, refl)

-- so the same users are served
same-served : (s t : Record) (user : ℕ) → SameMembers s t → is_served t user ≡ is_served s user
same-served s t user same =
    ap (λ b. b && has_id member_id user t.members) same.1
    ∙ ap (λ (ms : List Member). s.opened && has_id member_id user ms) same.0

module _ (s : Record) (e : MessageEdit) (accepted : accepts s (edit.Message e) ≡ true) where
  refused-none : (v : Option Verdict) → is_none v ≡ true → v ≡ None
  refused-none None is = refl
  refused-none (Some v) is = absurd (cc)

  passes : verdict s (edit.Message e) ≡ None
  passes = refused-none (verdict s (edit.Message e)) accepted

  kept-then : (user : ℕ) (m : UserMasks) → AreKept s user (Some m) → AreKept (message_applied s e) user (Some m)
  kept-then user m is =
      let same = message-leaves s e in
      let served = both s.opened (has_id member_id user s.members) is.0 in
      let member : has_id member_id user (message_applied s e).members ≡ true = ap (λ (ms : List Member). has_id member_id user ms) same.0 ∙ served.1 in
      let follows : Follows s (edit.Message e) (message_applied s e) user = record {
        consistent = λ body made. absurd (cc);
        opened = served.0;
        accepted = passes;
        after = sym (ap (λ v. after_verdict v s (edit.Message e)) passes);
        was_member = served.1;
        is_member = member;
      } in (
        same-served s (message_applied s e) user same ∙ is.0,
        none-changed s (message_applied s e) user m is.1 (left s (edit.Message e) (message_applied s e) user Nothing refl follows),
      )

  one-then : (user : ℕ) (one : Option UserMasks) → AreKept s user one → AreKept (message_applied s e) user one
  one-then user None is = same-served s (message_applied s e) user (message-leaves s e) ∙ is
  one-then user (Some m) is = kept-then user m is

  pub each-then : (users : List ℕ) (list : List (Option UserMasks)) → EachKept s users list → EachKept (message_applied s e) users list
  each-then [] [] each = tt
  each-then [] (one ∷ list) each = absurd each
  each-then (user ∷ users) [] each = absurd each
  each-then (user ∷ users) (one ∷ list) each = (one-then user one each.0, each-then users list each.1)

-- ---- what is lent

module _ (s : Record) (users : List ℕ) (user : ℕ) where
  pub not-lent : contains user users ≡ false → false ≡ (is_served s user && contains user users)
  not-lent none = sym (ap (λ b. is_served s user && b) none ∙ never (is_served s user))
    where
      never : (b : Bool) → (b && false) ≡ false
      never true = refl
      never false = refl

  pub lent-if : (one : Option UserMasks) → AreKept s user one → contains user users ≡ true → is_some one ≡ (is_served s user && contains user users)
  lent-if None is among = sym (ap (λ b. b && contains user users) is)
  lent-if (Some m) is among = sym (ap (λ b. b && contains user users) is.0 ∙ among)

pub lent-of : (s : Record) (user : ℕ) (one : Option UserMasks) → AreKept s user one → IfSome one (MasksOf s user)
lent-of s user None is = tt
lent-of s user (Some m) is = is.1

-- what holds of a value holds of what a reference to it lends
pub if-lent : {A : Type 0} (P : A → Type 0) (o : Option (Bor A)) → IfSome (option_copied o) P → IfSome o (λ r. P r.now)
if-lent P None is = tt
if-lent P (Some r) is = is
