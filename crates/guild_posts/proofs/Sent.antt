-- What passes have sent, edits after edits.
use Rattle.std.proofs.Common.{◌≡◌, ℕ, suc, ◌<◌, Option, Some, None, List, [], ◌∷◌, ◌++◌, map, length, get_or, slice_get, option_map, sym, refl, ap, ap₂, ◌∙◌, arith}
use Rattle.std.specs.List.{All}
use Rattle.std.proofs.lemmas.List.Elements.{filter-append}
use Rattle.std.proofs.lemmas.Option.{same_Some, slice_get-get_or, none-some}
use Rattle.edit_apply.specs.declared.Edit.{Edit}
use Rattle.edit_post.specs.Post.{PostId, Sender, after_send}
use Rattle.guild_posts.specs.Posts.{goes_by, edits_by, request_of, sent_all, AreSent, post_of, IsUnended, ArePasses}

-- each pass of the second list comes from the pass at its place in the first
abbrev ComesBy : (ℕ → Sender → Sender) → List Sender → List Sender → Type 0
ComesBy f a b = (q : ℕ) → slice_get b q ≡ option_map (f q) (slice_get a q)

same_length : (f : ℕ → Sender → Sender) (a b : List Sender) → ComesBy f a b → length b ≡ length a
same_length f [] [] h = refl
same_length f [] (y ∷ ys) h = absurd (none-some y (sym (h 0)))
same_length f (x ∷ xs) [] h = absurd (none-some (f 0 x) (h 0))
same_length f (x ∷ xs) (y ∷ ys) h = ap suc (same_length (λ q. f (suc q)) xs ys (λ q. h (suc q)))

same_map : {X : Type 0} (g : Sender → X) (f : ℕ → Sender → Sender) → ((q : ℕ) (s : Sender) → g (f q s) ≡ g s) → (a b : List Sender) → ComesBy f a b → map g b ≡ map g a
same_map g f keeps [] [] h = refl
same_map g f keeps [] (y ∷ ys) h = absurd (none-some y (sym (h 0)))
same_map g f keeps (x ∷ xs) [] h = absurd (none-some (f 0 x) (h 0))
same_map g f keeps (x ∷ xs) (y ∷ ys) h =
    ap₂ (λ z zs. z ∷ zs) (ap g (same_Some y (f 0 x) (h 0)) ∙ keeps 0 x) (same_map g (λ q. f (suc q)) (λ q. keeps (suc q)) xs ys (λ q. h (suc q)))

-- one after another
pub sent_more : (s : Sender) (ws vs : List (ℕ × Edit)) → sent_all s (ws ++ vs) ≡ sent_all (sent_all s ws) vs
sent_more s [] vs = refl
sent_more s (w ∷ ws) vs = sent_more (after_send s (request_of s w)) ws vs

pub sent_post : (s : Sender) (ws : List (ℕ × Edit)) → (sent_all s ws).post ≡ s.post
sent_post s [] = refl
sent_post s (w ∷ ws) = sent_post (after_send s (request_of s w)) ws

pub sent_sender : (s : Sender) (ws : List (ℕ × Edit)) → (sent_all s ws).sender ≡ s.sender
sent_sender s [] = refl
sent_sender s (w ∷ ws) = sent_sender (after_send s (request_of s w)) ws

pub sent_mark : (s : Sender) (ws : List (ℕ × Edit)) → (sent_all s ws).mark ≡ s.mark
sent_mark s [] = refl
sent_mark s (w ∷ ws) = sent_mark (after_send s (request_of s w)) ws

module _ (guilds : List ℕ) where
  abbrev step : List (ℕ × Edit) → ℕ → ℕ → Sender → Sender
  step ws n q s = sent_all s (edits_by guilds n q ws)

  same : (o : Option Sender) → o ≡ option_map (λ s. sent_all s []) o
  same None = refl
  same (Some s) = refl

  -- nothing sent
  pub sent_none : (a : List Sender) → AreSent guilds [] a a
  sent_none a q = same (slice_get a q)

  twice : (ws vs : List (ℕ × Edit)) (n q : ℕ) (o : Option Sender) → option_map (step vs n q) (option_map (step ws n q) o) ≡ option_map (step (ws ++ vs) n q) o
  twice ws vs n q None = refl
  twice ws vs n q (Some s) = ap Some (sym (ap (λ l. sent_all s l) (filter-append (goes_by guilds n q) ws vs) ∙ sent_more s (edits_by guilds n q ws) (edits_by guilds n q vs)))

  module _ (ws : List (ℕ × Edit)) (a b : List Sender) (sent : AreSent guilds ws a b) where
    pub sent_length : length b ≡ length a
    sent_length = same_length (step ws (length a)) a b sent

    pub sent_posts : map post_of b ≡ map post_of a
    sent_posts = same_map post_of (step ws (length a)) (λ q s. sent_post s (edits_by guilds (length a) q ws)) a b sent

    pub sent_senders : map (λ (s : Sender). s.sender) b ≡ map (λ (s : Sender). s.sender) a
    sent_senders = same_map (λ (s : Sender). s.sender) (step ws (length a)) (λ q s. sent_sender s (edits_by guilds (length a) q ws)) a b sent

    pub sent_marks : map (λ (s : Sender). s.mark) b ≡ map (λ (s : Sender). s.mark) a
    sent_marks = same_map (λ (s : Sender). s.mark) (step ws (length a)) (λ q s. sent_mark s (edits_by guilds (length a) q ws)) a b sent

    -- the pass at a place
    pub sent_at : (k : ℕ) (d : Sender) → k < length a → get_or b k d ≡ sent_all (get_or a k d) (edits_by guilds (length a) k ws)
    sent_at k d lt =
        same_Some (get_or b k d) (step ws (length a) k (get_or a k d))
        (sym (slice_get-get_or b k d (omega (arith, lt, sent_length))) ∙ sent k ∙ ap (option_map (step ws (length a) k)) (slice_get-get_or a k d lt))

    pub sent_unended : All IsUnended a → All IsUnended b
    sent_unended un k d lt =
        let lt' : k < length a = omega (arith, lt, sent_length) in
        ap (λ (s : Sender). s.mark) (sent_at k d lt') ∙ sent_mark (get_or a k d) (edits_by guilds (length a) k ws) ∙ un k d lt'

    pub sent_passes : (posts : List PostId) → ArePasses posts a → ArePasses posts b
    sent_passes posts p = record { posts_are = sent_posts ∙ p.posts_are; unended = sent_unended p.unended }

  -- edits after edits
  pub sent_on : (ws vs : List (ℕ × Edit)) (a b c : List Sender) → AreSent guilds ws a b → AreSent guilds vs b c → AreSent guilds (ws ++ vs) a c
  sent_on ws vs a b c first later q =
      later q ∙ ap (λ n. option_map (step vs n q) (slice_get b q)) (sent_length ws a b first) ∙ ap (option_map (step vs (length a) q)) (first q) ∙ twice ws vs (length a) q (slice_get a q)
