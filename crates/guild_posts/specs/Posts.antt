-- Edits of guilds, as they go to the posts of the actors.
use Rattle.std.specs.Prelude.{◌≡◌, ℕ, ◌+◌, ◌%◌, ◌^◌, List, [], ◌∷◌, Bool, true, ◌==◌, nat_le, option_map, position, length, filter, map, slice_get, All}
use Rattle.std.specs.List.{list_any}
use Rattle.std.specs.Option.{option_map_or}
use Rattle.edit_apply.specs.declared.Edit.{Edit}
use Rattle.edit_post.specs.declared.request.Request.{Request}
use Rattle.edit_post.specs.Post.{PostId, Sender, after_send}
use Rattle.edit_post.specs.declared.send_refused.SendRefused.{SendRefused}
use Rattle.edit_post.specs.declared.send_refused.SendRefused.TheVariants.{Spent, Memory}

-- the guild at place p of the list goes by the pass at place p modulo the number of passes, and any other by the first
abbrev pub pass_of_guild : List ℕ → ℕ → ℕ → ℕ
pass_of_guild guilds count guild = option_map_or (λ place. place % count) (position (λ g. guild == g) guilds) 0

abbrev pub goes_by : List ℕ → ℕ → ℕ → ℕ × Edit → Bool
goes_by guilds count q edit = pass_of_guild guilds count edit.0 == q

abbrev pub edits_by : List ℕ → ℕ → ℕ → List (ℕ × Edit) → List (ℕ × Edit)
edits_by guilds count q edits = filter (goes_by guilds count q) edits

-- the sender's next request
abbrev pub request_of : Sender → ℕ × Edit → Request
request_of s edit = record { sender = s.sender; number = length s.sent + 1; guild = edit.0; edit = edit.1 }

-- the sender after it has sent these edits, in order
abbrev pub sent_all : Sender → List (ℕ × Edit) → Sender
sent_all s [] = s
sent_all s (edit ∷ edits) = sent_all (after_send s (request_of s edit)) edits

-- each pass has sent the edits that go by it, in order
abbrev pub AreSent : List ℕ → List (ℕ × Edit) → List Sender → List Sender → Type 0
AreSent guilds edits old new = (q : ℕ) → slice_get new q ≡ option_map (λ s. sent_all s (edits_by guilds (length old) q edits)) (slice_get old q)

abbrev pub post_of : Sender → PostId
post_of s = s.post

abbrev pub IsUnended : Sender → Type 0
IsUnended s = s.mark ≡ 0

-- a pass of each post, in order, of which none has ended
pub record ArePasses (posts : List PostId) (passes : List Sender) : Type 0 where
  pub posts_are : map post_of passes ≡ posts
  pub unended : All IsUnended passes

-- whether a pass has sent as many requests as it can number
abbrev pub has_sent_all : Sender → Bool
has_sent_all s = nat_le (2 ^ 57) (length s.sent)

-- why some of these passes refuses a request: `Spent` only if it has sent all that it can number, and `Memory`
abbrev pub IsRefusedBySome : List Sender → SendRefused → Type 0
IsRefusedBySome passes Spent = list_any has_sent_all passes ≡ true
IsRefusedBySome passes Memory = Unit {0}
