-- The logs of the guilds, by what was taken of the senders.
use Rattle.std.proofs.Common.{◌≡◌, ℕ, ◌+◌, ◌<◌, Option, Some, List, [], ◌∷◌, ◌++◌, map, length, get_or, slice_get, sym, refl, ap, ap₂, ◌∙◌, subst, arith}
use Rattle.std.specs.Prelude.{IfSome, IsSomeAnd}
use Rattle.std.specs.List.{All, range_with_len}
use Rattle.std.proofs.lemmas.List.{length-map, get_or-map}
use Rattle.std.proofs.lemmas.List.Elements.{All-nil, All-cons, All-head, All-tail, All-map, All-same, All-weaker}
use Rattle.std.proofs.lemmas.Option.{slice_get-get_or}
use Rattle.edit_apply.specs.declared.Edit.{Edit}
use Rattle.edit_post.specs.Merge.{Merge}
use Rattle.edit_post.specs.Post.{PostId, Sender, Taker, new_sender, after_end, ended_lists}
use Rattle.edit_post.specs.Requests.{requests_of}
use Rattle.guild_hub.specs.Writes.{Publishing}
use Rattle.guild_actor.specs.Acts.{edits_of, sealed_log}
use Rattle.guild_posts.specs.Posts.{edits_by, sent_all, post_of}
use Rattle.guild_posts.proofs.Sent.{sent_at, sent_length, sent_sender, sent_posts}
use Rattle.load_settle.specs.Passes.{IsTakenWhole}
use Rattle.run_ends.specs.Lists.{woven}
use Rattle.run_ends.specs.Senders.{edits_for, new_passes, HasSent, HaveSent, HasMark, HaveEnded, AreTakenWhole}
use Rattle.run_ends.specs.Logs.{IsMergedLog, IsOfActor}
use Rattle.run_ends.proofs.Sendings.{sent_for, by_one_pass}

abbrev Sending : Type 0
Sending = ℕ × Edit

-- what was taken of the sender of this number, of a guild of the taker's actor
pub taken_for : (posts : List PostId) (guilds : List ℕ) (number : ℕ) (ws : List Sending) (passes : List Sender) (takers : List Taker) (t : Taker) (q guild : ℕ)
    → HasSent posts guilds number ws passes → AreTakenWhole takers passes → slice_get takers q ≡ Some t → q < length posts → IsOfActor guilds (length posts) q guild
    → edits_of guild (requests_of number t.taken) ≡ edits_for guild ws
taken_for posts guilds number ws passes takers t q guild has whole is lt of =
    let first = new_passes posts number in
    let many : length first ≡ length posts = length-map posts (λ post. new_sender post number) in
    let d : Sender = new_sender t.post number in
    let begun : Sender = new_sender (get_or posts q t.post) number in
    let lt' : q < length first = omega (arith, lt, many) in
    let many_sent : length has.sent ≡ length first = sent_length guilds ws first has.sent has.are in
    let lt'' : q < length has.sent = omega (arith, lt', many_sent) in
    let es = edits_by guilds (length first) q ws in
    let one : get_or has.sent q d ≡ sent_all begun es =
    sent_at guilds ws first has.sent has.are q d lt'
    ∙ ap (λ s. sent_all s es) (get_or-map (λ post. new_sender post number) posts q t.post d lt) in
    let y : Sender = after_end (sent_all begun es) in
    let at_place : slice_get passes q ≡ Some y =
    ap (λ l. slice_get l q) has.ended
    ∙ slice_get-get_or (map after_end has.sent) q d (omega (arith, lt'', length-map has.sent after_end))
    ∙ ap Some (get_or-map after_end has.sent q d d lt'' ∙ ap after_end one) in
    let taken : IsTakenWhole takers (q, y) = subst (λ o. IfSome o (λ (s : Sender). IsTakenWhole takers (q, s))) at_place (whole q) in
    let of_this : requests_of y.sender t.taken ≡ y.sent = subst (λ (o : Option Taker). IsSomeAnd o (λ (u : Taker). requests_of y.sender u.taken ≡ y.sent)) is taken in
    let same : y.sender ≡ number = sent_sender begun es in
    let way : IsOfActor guilds (length first) q guild = subst (λ n. IsOfActor guilds n q guild) (sym many) of in
    ap (λ n. edits_of guild (requests_of n t.taken)) (sym same)
    ∙ ap (edits_of guild) of_this
    ∙ sent_for guild begun es
    ∙ by_one_pass guilds (length first) q guild way.0 way.1 way.2 ws

module _ (posts : List PostId) (guilds : List ℕ) (takers : List Taker) (t : Taker) (q : ℕ) (is : slice_get takers q ≡ Some t) (lt : q < length posts) where
  -- lists that were taken, sender by sender
  lists : (guild : ℕ) → IsOfActor guilds (length posts) q guild → (k : ℕ) (senders : List (List Sending)) (passes : List (List Sender)) → HaveSent posts guilds k senders passes → All (AreTakenWhole takers) passes
      → map (edits_of guild) (map (λ sender. requests_of sender t.taken) (range_with_len k (length senders))) ≡ map (edits_for guild) senders
  lists guild of k [] [] have whole = refl
  lists guild of k [] (ps ∷ pss) have whole = elim have [ ]
  lists guild of k (ws ∷ wss) [] have whole = elim have [ ]
  lists guild of k (ws ∷ wss) (ps ∷ pss) have whole =
      ap₂ (λ x xs. x ∷ xs)
      (taken_for posts guilds k ws ps takers t q guild have.0 (All-head (AreTakenWhole takers) ps pss whole) is lt of)
      (lists guild of (k + 1) wss pss have.1 (All-tail (AreTakenWhole takers) ps pss whole))

  module _ (senders : List (List Sending)) (passes : List (List Sender)) (have : HaveSent posts guilds 0 senders passes) (whole : All (AreTakenWhole takers) passes) (all : t.senders ≡ length senders) where
    merged : (guild : ℕ) → IsOfActor guilds (length posts) q guild → Merge (map (edits_of guild) (ended_lists t)) (edits_of guild t.taken) → Merge (map (edits_for guild) senders) (edits_of guild t.taken)
    merged guild of merge =
        subst (λ ls. Merge ls (edits_of guild t.taken))
        (ap (λ n. map (edits_of guild) (map (λ sender. requests_of sender t.taken) (range_with_len 0 n))) all ∙ lists guild of 0 senders passes have whole)
        merge

    -- the logs of an actor
    pub logs_of_actor : ((guild : ℕ) → Merge (map (edits_of guild) (ended_lists t)) (edits_of guild t.taken)) → (writers : List (ℕ × Publishing))
        → All (λ (w : ℕ × Publishing). IsOfActor guilds (length posts) q w.0) writers → All (IsMergedLog senders) (map (sealed_log t.taken) writers)
    logs_of_actor merge writers of =
        All-map (IsMergedLog senders) (sealed_log t.taken) writers
        (All-weaker (λ (w : ℕ × Publishing). IsOfActor guilds (length posts) q w.0) (λ w. IsMergedLog senders (sealed_log t.taken w)) (λ w one. record {
          merged = edits_of w.0 t.taken;
          merge = merged w.0 one (merge w.0);
          entries = refl;
          sealed = refl;
        }) writers of)

-- passes that have sent have ended
pub ended : (posts : List PostId) (guilds : List ℕ) (number : ℕ) (ws : List Sending) (passes : List Sender) → HasSent posts guilds number ws passes → HaveEnded posts passes
ended posts guilds number ws passes has = record {
  posts_are = ap (map post_of) has.ended ∙ same_posts has.sent ∙ sent_posts guilds ws (new_passes posts number) has.sent has.are ∙ posts_of posts;
  ended = All-same HasMark passes (map after_end has.sent) has.ended (All-map HasMark after_end has.sent (λ k d less e. absurd (omega (arith, e))));
}
  where
    same_posts : (xs : List Sender) → map post_of (map after_end xs) ≡ map post_of xs
    same_posts [] = refl
    same_posts (x ∷ xs) = ap (λ l. x.post ∷ l) (same_posts xs)

    posts_of : (ps : List PostId) → map post_of (new_passes ps number) ≡ ps
    posts_of [] = refl
    posts_of (p ∷ ps) = ap (λ l. p ∷ l) (posts_of ps)

pub all_ended : (posts : List PostId) (guilds : List ℕ) (number : ℕ) (senders : List (List Sending)) (passes : List (List Sender)) → HaveSent posts guilds number senders passes → All (HaveEnded posts) passes
all_ended posts guilds number [] [] have = All-nil (HaveEnded posts)
all_ended posts guilds number [] (ps ∷ pss) have = elim have [ ]
all_ended posts guilds number (ws ∷ wss) [] have = elim have [ ]
all_ended posts guilds number (ws ∷ wss) (ps ∷ pss) have = All-cons (HaveEnded posts) ps pss (ended posts guilds number ws ps have.0) (all_ended posts guilds (number + 1) wss pss have.1)

-- senders after senders
pub sent_after : (posts : List PostId) (guilds : List ℕ) (k n : ℕ) (a b : List (List Sending)) (p q : List (List Sender)) → n ≡ k + length a → HaveSent posts guilds k a p → HaveSent posts guilds n b q → HaveSent posts guilds k (a ++ b) (p ++ q)
sent_after posts guilds k n [] b [] q e first later = subst (λ m. HaveSent posts guilds m b q) (e ∙ omega arith) later
sent_after posts guilds k n [] b (ps ∷ pss) q e first later = elim first [ ]
sent_after posts guilds k n (ws ∷ wss) b [] q e first later = elim first [ ]
sent_after posts guilds k n (ws ∷ wss) b (ps ∷ pss) q e first later = (first.0, sent_after posts guilds (k + 1) n wss b pss q (omega (arith, e)) first.1 later)

-- what holds of all in both lists
pub All-woven : {T : Type 0} (P : T → Type 0) (xs ys : List T) → All P xs → All P ys → All P (woven xs ys)
All-woven P [] ys a b = b
All-woven P (x ∷ xs) [] a b = a
All-woven P (x ∷ xs) (y ∷ ys) a b =
    All-cons P x (y ∷ woven xs ys) (All-head P x xs a) (All-cons P y (woven xs ys) (All-head P y ys b) (All-woven P xs ys (All-tail P x xs a) (All-tail P y ys b)))
