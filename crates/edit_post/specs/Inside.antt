-- internal: cited by private functions only. What the fields of the passes say.
use Rattle.std.specs.Prelude.{◌≡◌, ◌≢◌, ℕ, ◌<◌, ◌≤◌, ◌+◌, true, false, [], length, slice_index, All, None}
use Rattle.edit_post.specs.declared.request.Request.{Request}
use Rattle.edit_post.specs.declared.send_pass.SendPass.TheInside as send
use Rattle.edit_post.specs.declared.take_pass.TakePass.TheInside as take
use Rattle.edit_post.specs.Requests.{requests_of}
use Rattle.edit_post.specs.QueueRule.{view_of}
use Rattle.edit_post.specs.MarkRule.{mark}
use Rattle.edit_post.specs.Post.{Sender, Taker}

abbrev pub sender_of : send.Inside → Sender
sender_of s = record { post = record { queue = record { web = s.pass.web; heap = s.pass.heap }; marks = s.seat.table_id }; sender = s.sender; sent = s.pass.me.view.client.sent; mark = s.seat.me.0.stored }

pub record IsSender (s : send.Inside) : Type 0 where
  pub empty : (s.pass.me.hand ≡ None) × (s.pass.me.spare ≡ None)
  pub view : s.pass.me.view.client ≡ view_of true s.sender s.pass.me.view.client.sent false 0 [] 0
  pub mark : s.seat.me ≡ (mark true s.sender s.seat.me.0.stored false 0 [] [], [])
  pub last : s.seat.me.0.stored ≢ 0 → s.seat.me.0.stored ≡ s.next
  pub next : s.next ≡ length s.pass.me.view.client.sent + 1
  pub sixteen : s.sender < 16

abbrev pub taker_of : take.Inside → Taker
taker_of t = record {
  post = record { queue = record { web = t.pass.web; heap = t.pass.heap }; marks = t.seat.table_id };
  senders = t.senders;
  taken = t.pass.me.view.client.taken;
  empty_takes = t.pass.me.view.client.empty_takes;
  found = t.found;
  looks = t.seat.me.0.looks;
}

pub record IsTaker (t : take.Inside) : Type 0 where
  pub empty : (t.pass.me.hand ≡ None) × (t.pass.me.spare ≡ None)
  pub takes : t.pass.me.view.client.takes ≡ true
  pub made : t.pass.me.view.client.made ≡ t.senders
  pub counts : (p : ℕ) → p < 16 → slice_index t.counts p ≡ length (requests_of p t.pass.me.view.client.taken)
  pub low : All (λ (r : Request). r.sender < t.senders) t.pass.me.view.client.taken
  pub marks : (t.seat.me.0.takes ≡ true) × (t.seat.me.0.made ≡ t.senders) × (t.seat.me.1 ≡ [])
  pub found : t.seat.me.0.found ≡ t.found
  pub sixteen : t.senders ≤ 16
