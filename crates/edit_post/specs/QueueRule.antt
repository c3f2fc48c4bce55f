-- The rule of the queue: what was taken of each sender, and then what the queue holds of it, is what it sent.
use Rattle.std.specs.Prelude.{◌≡◌, ℕ, ◌<◌, ◌≤◌, ◌+◌, ◌-◌, Bool, true, false, List, [], ◌∷◌, ◌++◌}
use mathlib.Core.Option.{some}
use lib.ListN.{get_elem?}
use Rattle.edit_post.specs.declared.request.Request.{Request}
use Rattle.edit_post.specs.declared.queue_view.QueueView.{QueueView}
use Rattle.edit_post.specs.Requests.{requests_of}

abbrev pub view_of : Bool → ℕ → List Request → Bool → ℕ → List Request → ℕ → QueueView
view_of sends sender sent takes made taken empty_takes = record {
  sends = sends;
  sender = sender;
  sent = sent;
  takes = takes;
  made = made;
  taken = taken;
  empty_takes = empty_takes;
}

-- the taker before there is a sender
abbrev pub opening : QueueView
opening = view_of false 0 [] true 0 [] 0

-- a pass that has ended
abbrev pub spent : QueueView
spent = view_of false 0 [] false 0 [] 0

-- the taker and the sender after the taker made a pass for the next sender
abbrev pub with_sender : QueueView → QueueView
with_sender v = view_of v.sends v.sender v.sent v.takes (v.made + 1) v.taken v.empty_takes

abbrev pub new_sender : QueueView → QueueView
new_sender v = view_of true v.made [] false 0 [] 0

abbrev pub put : QueueView → Request → QueueView
put v request = view_of v.sends v.sender (v.sent ++ request ∷ []) v.takes v.made v.taken v.empty_takes

abbrev pub took : QueueView → Request → QueueView
took v request = view_of v.sends v.sender v.sent v.takes v.made (v.taken ++ request ∷ []) v.empty_takes

-- the taker with one more take that finds nothing, which it counts before it looks
abbrev pub with_empty_take : QueueView → QueueView
with_empty_take v = view_of v.sends v.sender v.sent v.takes v.made v.taken (v.empty_takes + 1)

-- the taker with one such take less, where a request came after all
abbrev pub without_empty_take : QueueView → QueueView
without_empty_take v = view_of v.sends v.sender v.sent v.takes v.made v.taken (v.empty_takes - 1)

-- the taker, which knows now what the sender sent
abbrev pub joined : QueueView → QueueView → QueueView
joined taker sender = view_of sender.sends sender.sender sender.sent taker.takes taker.made taker.taken taker.empty_takes

-- what was taken of a sender, and then what the queue holds of it
abbrev pub all_of : ℕ → List Request → List Request → List Request
all_of sender taken items = requests_of sender taken ++ requests_of sender items

-- the numbers go up by one from n
abbrev pub NumberedFrom : ℕ → List Request → Type 0
NumberedFrom n [] = Unit {0}
NumberedFrom n (r ∷ rs) = (r.number ≡ n) × NumberedFrom (n + 1) rs

-- Each pass has a place in `views`: the one taker has the place `taker_at`, the sender p has the place `sender_at p`.
pub record KeepsOrder (items : List Request) (views : List QueueView) : Type 0 where
  pub taker_at : ℕ
  pub sender_at : ℕ → ℕ
  pub made : ℕ
  pub taken : List Request
  pub numbered : (p : ℕ) → NumberedFrom 1 (all_of p taken items)
  pub unmade : (p : ℕ) → made ≤ p → all_of p taken items ≡ []
  pub senders : (j : ℕ) (v : QueueView) → get_elem? views j ≡ some v → v.sends ≡ true → (sender_at v.sender ≡ j) × (v.sent ≡ all_of v.sender taken items) × (v.sender < made)
  pub taker : (j : ℕ) (v : QueueView) → get_elem? views j ≡ some v → v.takes ≡ true → (j ≡ taker_at) × (v.taken ≡ taken) × (v.made ≡ made)

-- at one step the queue was empty, and this pass knew this
abbrev pub WasEmpty : QueueView → Type 0
WasEmpty v = (views : List QueueView) × (port : ℕ) × KeepsOrder [] views × (get_elem? views port ≡ some v)

-- what was taken of any sender is a prefix of what it sent, and the queue holds the rest
abbrev pub TakesInOrder : List Request → List QueueView → Type 0
TakesInOrder items views =
    (j k : ℕ) (taker sender : QueueView) → get_elem? views j ≡ some taker → taker.takes ≡ true → get_elem? views k ≡ some sender → sender.sends ≡ true
    → sender.sent ≡ requests_of sender.sender taker.taken ++ requests_of sender.sender items
