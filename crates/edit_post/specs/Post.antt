-- What a clause sees of a post and of its passes.
use Rattle.std.specs.Prelude.{◌≡◌, ℕ, ◌<◌, ◌+◌, ◌==◌, true, List, [], ◌∷◌, ◌++◌, map, length, slice_index}
use Rattle.std.specs.List.{filter, range_with_len}
use Rattle.std.specs.Global.{Global}
use Rattle.atomic_table.specs.Seated.{TableId}
use Rattle.crossbeam_queue.specs.SegTies.{SegId}
use Rattle.edit_post.specs.declared.request.Request.{Request}
use Rattle.edit_post.specs.declared.queue_view.QueueView.{QueueView}
use Rattle.edit_post.specs.Requests.{requests_of}
use Rattle.edit_post.specs.declared.mark_view.MarkView.{MarkView}
use Rattle.edit_post.specs.QueueRule.{WasEmpty}
use Rattle.edit_post.specs.MarkRule.{WasUnstored}

-- which post it is
pub record PostId : Type 0 where
  pub queue : SegId Global
  pub marks : TableId

-- what a sender's pass knows: its post, its number there, what it sent, and the mark that it stored, 0 before its end
pub record Sender : Type 0 where
  pub post : PostId
  pub sender : ℕ
  pub sent : List Request
  pub mark : ℕ

-- what the taker's pass knows: its post, how many senders there are, what it took, how many of its takes found nothing, the mark that it found of each sender, 0 for none, and each look at a mark: the sender, and what stood there
pub record Taker : Type 0 where
  pub post : PostId
  pub senders : ℕ
  pub taken : List Request
  pub empty_takes : ℕ
  pub found : List ℕ
  pub looks : List (ℕ × ℕ)

abbrev pub new_sender : PostId → ℕ → Sender
new_sender post sender = record { post = post; sender = sender; sent = []; mark = 0 }

abbrev pub new_taker : PostId → ℕ → Taker
new_taker post senders = record {
  post = post;
  senders = senders;
  taken = [];
  empty_takes = 0;
  found = 0 ∷ 0 ∷ 0 ∷ 0 ∷ 0 ∷ 0 ∷ 0 ∷ 0 ∷ 0 ∷ 0 ∷ 0 ∷ 0 ∷ 0 ∷ 0 ∷ 0 ∷ 0 ∷ [];
  looks = [];
}

-- the mark of a sender: how many requests it sent, and one more
abbrev pub mark_of : List Request → ℕ
mark_of sent = length sent + 1

abbrev pub after_send : Sender → Request → Sender
after_send s request = record { post = s.post; sender = s.sender; sent = s.sent ++ request ∷ []; mark = s.mark }

abbrev pub after_end : Sender → Sender
after_end s = record { post = s.post; sender = s.sender; sent = s.sent; mark = mark_of s.sent }

abbrev pub after_take : Taker → Request → Taker
after_take t request = record { post = t.post; senders = t.senders; taken = t.taken ++ request ∷ []; empty_takes = t.empty_takes; found = t.found; looks = t.looks }

-- the taker after a take that found nothing
abbrev pub after_empty_take : Taker → Taker
after_empty_take t = record { post = t.post; senders = t.senders; taken = t.taken; empty_takes = t.empty_takes + 1; found = t.found; looks = t.looks }

-- the looks at the first n senders' marks, in order, at those alone that were not found before, and what stood there, which is the mark now
abbrev pub looked : ℕ → List ℕ → List ℕ → List (ℕ × ℕ)
looked n before now = map (λ sender. (sender, slice_index now sender)) (filter (λ sender. slice_index before sender == 0) (range_with_len 0 n))

-- the taker after looks at the marks that it had not found, where these marks are found now
abbrev pub after_looks : Taker → List ℕ → Taker
after_looks t now = record { post = t.post; senders = t.senders; taken = t.taken; empty_takes = t.empty_takes; found = now; looks = t.looks ++ looked t.senders t.found now }

-- The mark of every sender was found, and as many requests were taken of each as its mark names.
abbrev pub HasEnded : Taker → Type 0
HasEnded t = (sender : ℕ) → sender < t.senders → slice_index t.found sender ≡ mark_of (requests_of sender t.taken)

-- Where the post has ended: what each sender had sent when it ended, sender by sender.
abbrev pub ended_lists : Taker → List (List Request)
ended_lists t = map (λ sender. requests_of sender t.taken) (range_with_len 0 t.senders)

-- At one step the queue was empty, and the taker had then taken what it has now and counted the take that finds nothing. A take counts itself before it looks, so this is a step of that very call.
abbrev pub FoundEmpty : Taker → Type 0
FoundEmpty t = (view : QueueView) × (view.takes ≡ true) × (view.taken ≡ t.taken) × (view.empty_takes ≡ t.empty_takes) × WasEmpty view

-- At one step the mark of the sender was not stored, and these were the taker's looks. The last of them is a look at that mark, so this is a step of the call that made it.
abbrev pub NotStored : ℕ → List (ℕ × ℕ) → Type 0
NotStored sender looks = (view : MarkView) × (view.takes ≡ true) × (view.looks ≡ looks) × WasUnstored sender view

-- the taker of a post with one sender more
abbrev pub with_one : Taker → Taker
with_one t = record { post = t.post; senders = t.senders + 1; taken = t.taken; empty_takes = t.empty_takes; found = t.found; looks = t.looks }
