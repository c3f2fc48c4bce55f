-- Each move of the queue keeps its rule.
use Rattle.std.proofs.Common.{◌≡◌, ◌≢◌, ℕ, ◌+◌, ◌<◌, ◌≤◌, ◌==◌, Bool, true, false, cond, eqb, List, [], ◌∷◌, ◌++◌, length, set, sym, refl, ap, ◌∙◌, subst, ⊎_elim, lt_of_not-le, append_assoc, arith}
use Rattle.std.proofs.lemmas.List.Elements.{filter-append}
use Rattle.std.proofs.lemmas.List.{append-nil}
use Rattle.std.proofs.lemmas.Bool.Decides.{Decides-eqb, eqb_tells}
use mathlib.Core.Logic.{dite}
use native.Mathlib.Decide.{dec_le}
use mathlib.Core.Option.{some}
use lib.ListN.{get_elem?}
use Rattle.crossbeam_queue.specs.Fifo.{Pushes, Pops, Forks, Merges, Learns}
use Rattle.crossbeam_queue.proofs.Lists.{at_set}
use Rattle.edit_post.proofs.Views.{Each, each_none, each_set, each_snoc, no, at_new, at_old}
use Rattle.edit_post.specs.declared.request.Request.{Request}
use Rattle.edit_post.specs.declared.queue_view.QueueView.{QueueView}
use Rattle.edit_post.specs.Requests.{requests_of}
use Rattle.edit_post.specs.QueueRule.{view_of, all_of, NumberedFrom, opening, spent, with_sender, new_sender, put, took, joined, KeepsOrder, TakesInOrder}

-- the test of `of`
abbrev is_by : ℕ → Request → Bool
is_by p r = r.sender == p

one : (b : Bool) (x : Request) → b ≡ true → cond b (x ∷ []) [] ≡ x ∷ []
one b x e = ap (λ c. cond c (x ∷ []) []) e

none_of : (b : Bool) (x : Request) → b ≡ false → cond b (x ∷ []) [] ≡ []
none_of b x e = ap (λ c. cond c (x ∷ []) []) e

own : (p : ℕ) (x : Request) → x.sender ≡ p → requests_of p (x ∷ []) ≡ x ∷ []
own p x e = one (is_by p x) x ((Decides-eqb x.sender p).1 e)

other : (p : ℕ) (x : Request) → x.sender ≢ p → requests_of p (x ∷ []) ≡ []
other p x n = none_of (is_by p x) x (⊎_elim (λ t. absurd (n t.1)) (λ t. t.0) (eqb_tells x.sender p))

-- a request that joins at the back
added : (p : ℕ) (taken items : List Request) (x : Request) → all_of p taken (items ++ x ∷ []) ≡ all_of p taken items ++ requests_of p (x ∷ [])
added p taken items x = ap (λ l. requests_of p taken ++ l) (filter-append (is_by p) items (x ∷ [])) ∙ sym (append_assoc (requests_of p taken) (requests_of p items) (requests_of p (x ∷ [])))

-- a request that moves from the queue to the taker
moved : (p : ℕ) (taken items : List Request) (x : Request) → all_of p (taken ++ x ∷ []) items ≡ all_of p taken (x ∷ items)
moved p taken items x =
    ap (λ l. l ++ requests_of p items) (filter-append (is_by p) taken (x ∷ []))
    ∙ append_assoc (requests_of p taken) (requests_of p (x ∷ [])) (requests_of p items)
    ∙ ap (λ l. requests_of p taken ++ l) (sym (filter-append (is_by p) (x ∷ []) items))

abbrev Sends : ℕ → (ℕ → ℕ) → List Request → List Request → ℕ → QueueView → Type 0
Sends made sender_at taken items j v = v.sends ≡ true → (sender_at v.sender ≡ j) × (v.sent ≡ all_of v.sender taken items) × (v.sender < made)

abbrev Takes : ℕ → ℕ → List Request → ℕ → QueueView → Type 0
Takes taker_at made taken j v = v.takes ≡ true → (j ≡ taker_at) × (v.taken ≡ taken) × (v.made ≡ made)

numbered_snoc : (n : ℕ) (l : List Request) (x : Request) → NumberedFrom n l → x.number ≡ n + length l → NumberedFrom n (l ++ x ∷ [])
numbered_snoc n [] x h e = (omega arith, tt)
numbered_snoc n (y ∷ ys) x h e = (h.0, numbered_snoc (n + 1) ys x h.1 (omega arith))

numbered_at : (n : ℕ) (l r : List Request) (x : Request) → NumberedFrom n (l ++ x ∷ r) → x.number ≡ n + length l
numbered_at n [] r x h = omega (arith, h.0)
numbered_at n (y ∷ ys) r x h = let e = numbered_at (n + 1) ys r x h.1 in omega arith

pub opens : KeepsOrder [] (opening ∷ [])
opens = record {
  taker_at = 0;
  made = 0;
  sender_at = λ p. 0;
  taken = [];
  numbered = λ p. tt;
  unmade = λ p _. refl;
  senders = each_snoc (Sends 0 (λ p. 0) [] []) [] opening (no refl) (each_none _);
  taker = each_snoc (Takes 0 0 []) [] opening (λ _. (refl, refl, refl)) (each_none _);
}

pub forks : (port : ℕ) (v : QueueView) → v.takes ≡ true → Forks KeepsOrder port v (with_sender v) (new_sender v)
forks port v takes items views d at =
    let mine = d.taker port v at takes in
    let cut : List QueueView = set views port (with_sender v) in
    let sender_at : ℕ → ℕ = λ p. cond (p == d.made) (length cut) (d.sender_at p) in
    let F : ℕ → QueueView → Type 0 = Sends (d.made + 1) sender_at d.taken items in
    let G : ℕ → QueueView → Type 0 = Takes d.taker_at (d.made + 1) d.taken in record {
      taker_at = d.taker_at;
      made = d.made + 1;
      sender_at = sender_at;
      taken = d.taken;
      numbered = d.numbered;
      unmade = λ p le. d.unmade p (omega arith);
      senders = each_snoc F cut (new_sender v)
          (λ _. (at_new v.made d.made (length cut) (d.sender_at v.made) mine.2, sym (d.unmade v.made (omega (arith, mine.2))), omega (arith, mine.2)))
          (each_set F views port (with_sender v)
          (λ sends. let own = d.senders port v at sends in
          (at_old v.sender d.made (length cut) (d.sender_at v.sender) (λ same. let low = own.2 in absurd (omega arith)) ∙ own.0, own.1, let low = own.2 in omega arith))
          (λ j u far e sends. let own = d.senders j u e sends in
          (at_old u.sender d.made (length cut) (d.sender_at u.sender) (λ same. let low = own.2 in absurd (omega arith)) ∙ own.0, own.1, let low = own.2 in omega arith)));
      taker = each_snoc G cut (new_sender v) (no refl)
          (each_set G views port (with_sender v) (λ _. (mine.0, mine.1, ap (λ n. n + 1) mine.2)) (λ j u far e takes'. absurd (far ((d.taker j u e takes').0 ∙ sym mine.0))));
    }

-- the taker with any count of its takes that found nothing
abbrev with_count : ℕ → QueueView → QueueView
with_count n v = view_of v.sends v.sender v.sent v.takes v.made v.taken n

-- the taker changes its count
pub counts : (n port : ℕ) (v : QueueView) → v.takes ≡ true → Forks KeepsOrder port v (with_count n v) spent
counts n port v takes items views d at =
    let mine = d.taker port v at takes in
    let cut : List QueueView = set views port (with_count n v) in
    let F : ℕ → QueueView → Type 0 = Sends d.made d.sender_at d.taken items in
    let G : ℕ → QueueView → Type 0 = Takes d.taker_at d.made d.taken in record {
      taker_at = d.taker_at;
      made = d.made;
      sender_at = d.sender_at;
      taken = d.taken;
      numbered = d.numbered;
      unmade = d.unmade;
      senders = each_snoc F cut spent (no refl) (each_set F views port (with_count n v) (λ sends. d.senders port v at sends) (λ j u far e. d.senders j u e));
      taker = each_snoc G cut spent (no refl) (each_set G views port (with_count n v) (λ _. mine) (λ j u far e. d.taker j u e));
    }

numbered_push : (taken items : List Request) (x : Request) → ((p : ℕ) → NumberedFrom 1 (all_of p taken items)) → x.number ≡ 1 + length (all_of x.sender taken items) → (p : ℕ) → NumberedFrom 1 (all_of p taken (items ++ x ∷ []))
numbered_push taken items x h next p = ⊎_elim
    (λ (t : (eqb x.sender p ≡ true) × (x.sender ≡ p)). subst (λ (l : List Request). NumberedFrom 1 l) (sym (added p taken items x ∙ ap (λ l. all_of p taken items ++ l) (own p x t.1)))
    (numbered_snoc 1 (all_of p taken items) x (h p) (next ∙ ap (λ q. 1 + length (all_of q taken items)) t.1)))
    (λ (t : (eqb x.sender p ≡ false) × (x.sender ≢ p)). subst (λ (l : List Request). NumberedFrom 1 l) (sym (added p taken items x ∙ ap (λ l. all_of p taken items ++ l) (other p x t.1) ∙ append-nil (all_of p taken items))) (h p))
    (eqb_tells x.sender p)

pub pushes : (n port : ℕ) (v : QueueView) (x : Request) → v.sends ≡ true → v.takes ≡ false → x.sender ≡ v.sender → x.number ≡ length v.sent + 1 → Pushes KeepsOrder n port v x (λ w. w ≡ put v x)
pushes n port v x may apart by next items views _ d at =
    let mine = d.senders port v at may in
    let w : QueueView = put v x in (
      w,
      record {
        taker_at = d.taker_at;
        made = d.made;
        sender_at = d.sender_at;
        taken = d.taken;
        numbered = numbered_push d.taken items x d.numbered (omega (arith, next, ap (length {A = Request}) mine.1, ap (λ p. length (all_of p d.taken items)) by));
        unmade = λ p le. added p d.taken items x ∙ ap (λ l. l ++ requests_of p (x ∷ [])) (d.unmade p le) ∙ other p x (λ e. let low = mine.2 in absurd (omega arith));
        senders = each_set (Sends d.made d.sender_at d.taken (items ++ x ∷ [])) views port w
            (λ _. (mine.0, ap (λ l. l ++ x ∷ []) mine.1 ∙ ap (λ l. all_of v.sender d.taken items ++ l) (sym (own v.sender x by)) ∙ sym (added v.sender d.taken items x), mine.2))
            (λ j u far e sends. let theirs = d.senders j u e sends in
            let strange : x.sender ≢ u.sender = λ same. far (sym theirs.0 ∙ ap d.sender_at (sym same ∙ by) ∙ mine.0) in
            (theirs.0, theirs.1 ∙ sym (append-nil (all_of u.sender d.taken items)) ∙ ap (λ l. all_of u.sender d.taken items ++ l) (sym (other u.sender x strange)) ∙ sym (added u.sender d.taken items x), theirs.2));
        taker = each_set (Takes d.taker_at d.made d.taken) views port w (no apart) (λ j u far e. d.taker j u e);
      },
      refl,
    )

nonempty : (xs ys : List Request) (x : Request) → xs ++ (x ∷ ys) ≡ [] → ⊥
nonempty [] ys x e = cc
nonempty (z ∷ zs) ys x e = cc

-- a request in the queue is of a sender that was made
low_sender : (made : ℕ) (taken items : List Request) (x : Request) (n : ℕ) → n ≡ made → ((p : ℕ) → made ≤ p → all_of p taken (x ∷ items) ≡ []) → x.sender < n
low_sender made taken items x n is unmade = dite (dec_le n x.sender)
    (λ (t : n ≤ x.sender). absurd (nonempty (requests_of x.sender taken) (requests_of x.sender items) x (sym (ap (λ l. requests_of x.sender taken ++ l) (filter-append (is_by x.sender) (x ∷ []) items ∙ ap (λ l. l ++ requests_of x.sender items) (own x.sender x refl))) ∙ unmade x.sender (omega arith))))
    (λ t. lt_of_not-le t)

-- the first in the queue of its sender
at_front : (taken items : List Request) (x : Request) → all_of x.sender taken (x ∷ items) ≡ requests_of x.sender taken ++ (x ∷ requests_of x.sender items)
at_front taken items x = ap (λ l. requests_of x.sender taken ++ l) (filter-append (is_by x.sender) (x ∷ []) items ∙ ap (λ l. l ++ requests_of x.sender items) (own x.sender x refl))

next_number : (taken items : List Request) (x : Request) → ((p : ℕ) → NumberedFrom 1 (all_of p taken (x ∷ items))) → x.number ≡ length (requests_of x.sender taken) + 1
next_number taken items x h =
    let e = numbered_at 1 (requests_of x.sender taken) (requests_of x.sender items) x (subst (λ (l : List Request). NumberedFrom 1 l) (at_front taken items x) (h x.sender)) in omega arith

pub pops : (port : ℕ) (v : QueueView) → v.takes ≡ true → Pops KeepsOrder port v (λ x w. (w ≡ took v x) × (x.sender < v.made) × (x.number ≡ length (requests_of x.sender v.taken) + 1))
pops port v takes x items views d at =
    let mine = d.taker port v at takes in
    let w : QueueView = took v x in
    let taken : List Request = d.taken ++ x ∷ [] in (
      w,
      record {
        taker_at = d.taker_at;
        made = d.made;
        sender_at = d.sender_at;
        taken = taken;
        numbered = λ p. subst (λ (l : List Request). NumberedFrom 1 l) (sym (moved p d.taken items x)) (d.numbered p);
        unmade = λ p le. moved p d.taken items x ∙ d.unmade p le;
        senders = each_set (Sends d.made d.sender_at taken items) views port w
            (λ sends. let own = d.senders port v at sends in (own.0, own.1 ∙ sym (moved v.sender d.taken items x), own.2))
            (λ j u far e sends. let own = d.senders j u e sends in (own.0, own.1 ∙ sym (moved u.sender d.taken items x), own.2));
        taker = each_set (Takes d.taker_at d.made taken) views port w (λ _. (mine.0, ap (λ l. l ++ x ∷ []) mine.1, mine.2))
            (λ j u far e takes'. absurd (far ((d.taker j u e takes').0 ∙ sym mine.0)));
      },
      (refl, low_sender d.made d.taken items x v.made mine.2 d.unmade, next_number d.taken items x d.numbered ∙ ap (λ l. length (requests_of x.sender l) + 1) (sym mine.1)),
    )

pub merges : (port : ℕ) (v : QueueView) (from : ℕ) (u : QueueView) → v.takes ≡ true → u.sends ≡ true → Merges KeepsOrder port v from u (joined v u) spent
merges port v from u takes sends items views d at apart at' =
    let mine = d.taker port v at takes in
    let both : QueueView = joined v u in
    let mid : List QueueView = set views port both in
    let was : get_elem? views from ≡ some u = ⊎_elim (λ x. absurd (apart x.0)) (λ x. x.1) (at_set views port from both u at') in
    let theirs = d.senders from u was sends in
    let sender_at : ℕ → ℕ = λ p. cond (p == u.sender) port (d.sender_at p) in
    let F : ℕ → QueueView → Type 0 = Sends d.made sender_at d.taken items in
    let G : ℕ → QueueView → Type 0 = Takes d.taker_at d.made d.taken in
    let H : ℕ → QueueView → Type 0 = λ j y. j ≢ from → F j y in
    let now : Each H mid = each_set H views port both
    (λ _ _. (at_new u.sender u.sender port (d.sender_at u.sender) refl, theirs.1, theirs.2))
    (λ j y far e else sends'. let own = d.senders j y e sends' in
    (at_old y.sender u.sender port (d.sender_at y.sender) (λ same. else (sym own.0 ∙ ap d.sender_at same ∙ theirs.0)) ∙ own.0, own.1, own.2)) in record {
      taker_at = d.taker_at;
      made = d.made;
      sender_at = sender_at;
      taken = d.taken;
      numbered = d.numbered;
      unmade = d.unmade;
      senders = each_set F mid from spent (no refl) (λ j y else e. now j y e else);
      taker = each_set G mid from spent (no refl) (λ j y else e. each_set G views port both (λ _. mine) (λ k z far e' takes'. d.taker k z e' takes') j y e);
    }

pub learns : (port : ℕ) (v : QueueView) → v.takes ≡ true → v.sends ≡ true → Learns KeepsOrder port v (λ items. (requests_of v.sender v.taken ++ requests_of v.sender items ≡ v.sent) × (v.sender < v.made))
learns port v takes sends items views d at = (ap (λ l. requests_of v.sender l ++ requests_of v.sender items) (d.taker port v at takes).1 ∙ sym (d.senders port v at sends).1, omega (arith, (d.senders port v at sends).2, (d.taker port v at takes).2))

pub sees : (port : ℕ) (v : QueueView) → Learns KeepsOrder port v (λ items. (views : List QueueView) × (port : ℕ) × KeepsOrder items views × (get_elem? views port ≡ some v))
sees port v items views d at = (views, port, d, at)

pub in_order : (items : List Request) (views : List QueueView) → KeepsOrder items views → TakesInOrder items views
in_order items views d j k taker sender taker_there takes sender_there sends =
    (d.senders k sender sender_there sends).1 ∙ ap (λ l. requests_of sender.sender l ++ requests_of sender.sender items) (sym (d.taker j taker taker_there takes).1)
