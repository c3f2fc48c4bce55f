-- What the edits of a guild become on their way through a post.
use Rattle.std.proofs.Common.{◌≡◌, ℕ, ◌%◌, ◌==◌, Bool, true, false, cond, Option, Some, List, [], ◌∷◌, ◌++◌, map, sym, refl, ap, ◌∙◌, append-nil, append_assoc}
use Rattle.std.specs.List.{filter, position}
use Rattle.std.specs.Option.{option_map_or}
use Rattle.std.proofs.lemmas.List.{map-append}
use Rattle.std.proofs.lemmas.List.Elements.{filter-append}
use Rattle.std.proofs.lemmas.Bool.{false≢true}
use Rattle.std.proofs.lemmas.Bool.Decides.{Decides-eqb}
use Rattle.edit_apply.specs.declared.Edit.{Edit}
use Rattle.edit_post.specs.declared.request.Request.{Request}
use Rattle.edit_post.specs.Post.{Sender, after_send}
use Rattle.guild_actor.specs.Acts.{edits_of}
use Rattle.guild_posts.specs.Posts.{pass_of_guild, goes_by, edits_by, request_of, sent_all}
use Rattle.run_ends.specs.Senders.{edits_for}

abbrev Sending : Type 0
Sending = ℕ × Edit

abbrev is_of : ℕ → Request → Bool
is_of guild r = r.guild == guild

abbrev edit_of : Request → Edit
edit_of r = r.edit

abbrev is_for : ℕ → Sending → Bool
is_for guild w = w.0 == guild

abbrev edit_for : Sending → Edit
edit_for w = w.1

more : (guild : ℕ) (rs : List Request) (r : Request) → edits_of guild (rs ++ r ∷ []) ≡ edits_of guild rs ++ edits_of guild (r ∷ [])
more guild rs r = ap (map edit_of) (filter-append (is_of guild) rs (r ∷ [])) ∙ map-append edit_of (filter (is_of guild) rs) (filter (is_of guild) (r ∷ []))

one : (guild : ℕ) (s : Sender) (w : Sending) (ws : List Sending) → edits_of guild (request_of s w ∷ []) ++ edits_for guild ws ≡ edits_for guild (w ∷ ws)
one guild s w ws = by_test (is_for guild w)
  where
    by_test : (b : Bool) → map edit_of (cond b (request_of s w ∷ []) []) ++ edits_for guild ws ≡ map edit_for (cond b (w ∷ filter (is_for guild) ws) (filter (is_for guild) ws))
    by_test true = refl
    by_test false = refl

-- the edits of a guild among the requests by which these were sent
pub sent_for : (guild : ℕ) (s : Sender) (ws : List Sending) → edits_of guild (sent_all s ws).sent ≡ edits_of guild s.sent ++ edits_for guild ws
sent_for guild s [] = sym (append-nil (edits_of guild s.sent))
sent_for guild s (w ∷ ws) =
    let r = request_of s w in
    sent_for guild (after_send s r) ws
    ∙ ap (λ l. l ++ edits_for guild ws) (more guild s.sent r)
    ∙ append_assoc (edits_of guild s.sent) (edits_of guild (r ∷ [])) (edits_for guild ws)
    ∙ ap (λ l. edits_of guild s.sent ++ l) (one guild s w ws)

module _ (guilds : List ℕ) (count q guild place : ℕ) (at : position (λ g. guild == g) guilds ≡ Some place) (here : (place % count == q) ≡ true) where
  goes : (w : Sending) → w.0 ≡ guild → goes_by guilds count q w ≡ true
  goes w own =
      ap (λ (n : ℕ). pass_of_guild guilds count n == q) own
      ∙ ap (λ (o : Option ℕ). option_map_or (λ (p : ℕ). p % count) o 0 == q) at
      ∙ here

  kept : (w : Sending) (b c : Bool) (left right : List Sending) → (c ≡ true → b ≡ true) → map edit_for (filter (is_for guild) left) ≡ map edit_for (filter (is_for guild) right)
      → is_for guild w ≡ c → map edit_for (filter (is_for guild) (cond b (w ∷ left) left)) ≡ map edit_for (cond c (w ∷ filter (is_for guild) right) (filter (is_for guild) right))
  kept w true true left right goes same is = ap (λ d. map edit_for (cond d (w ∷ filter (is_for guild) left) (filter (is_for guild) left))) is ∙ ap (λ l. w.1 ∷ l) same
  kept w true false left right goes same is = ap (λ d. map edit_for (cond d (w ∷ filter (is_for guild) left) (filter (is_for guild) left))) is ∙ same
  kept w false true left right goes same is = absurd (false≢true (goes refl))
  kept w false false left right goes same is = same

  -- all edits of a guild go by the pass of its actor
  pub by_one_pass : (ws : List Sending) → edits_for guild (edits_by guilds count q ws) ≡ edits_for guild ws
  by_one_pass [] = refl
  by_one_pass (w ∷ ws) =
      kept w (goes_by guilds count q w) (is_for guild w) (edits_by guilds count q ws) ws
      (λ own. goes w ((Decides-eqb w.0 guild).0 own)) (by_one_pass ws) refl
