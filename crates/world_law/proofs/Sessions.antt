-- What was sent to a session still holds after more was sent.
use Rattle.std.proofs.Common.{◌≡◌, ℕ, ◌≤◌, List, [], ◌∷◌, ◌++◌, length, take, refl, sym, ap, subst, ◌∙◌, append_assoc, arith, ◌⊎◌, inl, inr}
use Rattle.std.specs.Prelude.{All}
use Rattle.std.proofs.lemmas.List.Elements.{All-append, All-map, All-weaker}
use Rattle.std.proofs.Math.Seq.{take-length}
use Rattle.dispatch_types.specs.declared.viewer.Viewer.{Viewer}
use Rattle.dispatch_types.specs.declared.dispatch.Dispatch.{Dispatch}
use Rattle.edit_apply.specs.Edits.{state}
use Rattle.edit_apply.specs.declared.Edit.{Edit}
use Rattle.edit_events.specs.Law.{Agrees}
use Rattle.session_core.specs.declared.reply.Mark.{Mark}
use Rattle.world_law.specs.Keeping.{Cursors}
use Rattle.world_law.specs.Folds.{Holds, IsSettled, Rises, held, until_next}
use Rattle.world_law.specs.Model.{Seen, cursors}
use Rattle.world_law.specs.Sent.{SentDispatch, told}
use Rattle.world_law.proofs.Lists.{all_at, append_none, by_split}

-- a dispatch of one batch
told_at : (mark : Mark) (b a : Cursors) (ds : List Dispatch) (front : List SentDispatch) (t : SentDispatch) (rest : List SentDispatch) → told mark b a ds ≡ front ++ t ∷ rest → (t.mark ≡ mark) × (t.after ≡ a)
told_at mark b a [] [] t rest e = absurd (cc)
told_at mark b a [] (f ∷ front) t rest e = absurd (cc)
told_at mark b a (d ∷ ds) [] t rest e = (cc, cc)
told_at mark b a (d ∷ ds) (f ∷ front) t rest e = told_at mark b a ds front t rest (cc)

-- what holds of all that was sent to a viewer, by what was looked at and its last cursors
pub record Meets (seen : Seen) (last : Cursors) (v : Viewer) (sent : List SentDispatch) : Type 0 where
  pub folds : Holds seen last v sent
  pub rises : Rises last sent
  pub within : (g : ℕ) → last g ≤ length (seen g)
  pub past : All (λ t. (g : ℕ) → t.before g ≤ last g) sent
  pub current : (g : ℕ) → Agrees (state g (take (last g) (seen g))) v (held v g sent)

module _ (last : Cursors) (sent : List SentDispatch) (past : All (λ t. (g : ℕ) → t.before g ≤ last g) sent) (earlier : List SentDispatch) (t : SentDispatch) (g p : ℕ) where
  -- a span ends before the last cursors
  pub span_within : (later : List SentDispatch) → sent ≡ earlier ++ t ∷ later → p ≤ until_next last later g → p ≤ last g
  span_within [] e high = high
  span_within (next ∷ later) e high =
      let whole : sent ≡ (earlier ++ t ∷ []) ++ next ∷ later = e ∙ sym (append_assoc earlier (t ∷ []) (next ∷ later)) in
      let here : next.before g ≤ last g = all_at (λ (u : SentDispatch). (h : ℕ) → u.before h ≤ last h) (earlier ++ t ∷ []) next later (subst (λ (ts : List SentDispatch). All (λ u. (h : ℕ) → u.before h ≤ last h) ts) whole past) g in
      omega arith

-- logs that have grown say the same of the prefixes that they had
pub grown : (was is : Seen) (last : Cursors) (v : Viewer) (sent : List SentDispatch)
    → ((g p : ℕ) → p ≤ last g → take p (is g) ≡ take p (was g)) → ((g : ℕ) → last g ≤ length (is g))
    → Meets was last v sent → Meets is last v sent
grown was is last v sent same within old = record {
  folds = λ earlier t later e settled g p low high.
      subst (λ (es : List Edit). Agrees (state g es) v (held v g (earlier ++ t ∷ []))) (sym (same g p (span_within last sent old.past earlier t g p later e high)))
      (old.folds earlier t later e settled g p low high);
  rises = old.rises;
  within = within;
  past = old.past;
  current = λ g. subst (λ (es : List Edit). Agrees (state g es) v (held v g sent)) (sym (same g (last g) (omega arith))) (old.current g);
}

settled_front : (t : SentDispatch) (mid rest : List SentDispatch) → IsSettled t (mid ++ rest) → IsSettled t mid
settled_front t [] rest s = tt
settled_front t (m ∷ mid) rest s = s

by_span : (C : Type 0) (last now : Cursors) (mark : Mark) (ds : List Dispatch) (mid : List SentDispatch) (g p : ℕ)
    → p ≤ until_next now (mid ++ told mark last now ds) g
    → (p ≤ until_next last mid g → C) → (mid ≡ [] → ds ≡ [] → p ≤ now g → C) → C
by_span C last now mark [] [] g p high left right = right refl refl high
by_span C last now mark (d ∷ ds) [] g p high left right = left high
by_span C last now mark ds (m ∷ mid) g p high left right = left high

rises_batch : (mark : Mark) (last now : Cursors) (ds : List Dispatch) → Rises now (told mark last now ds)
rises_batch mark last now [] = tt
rises_batch mark last now (d ∷ []) = λ g. omega arith
rises_batch mark last now (d ∷ e ∷ ds) = (λ g. omega arith, rises_batch mark last now (e ∷ ds))

rises_more : (mark : Mark) (last now : Cursors) → ((g : ℕ) → last g ≤ now g) → (ds : List Dispatch) (sent : List SentDispatch) → Rises last sent → Rises now (sent ++ told mark last now ds)
rises_more mark last now up ds [] r = rises_batch mark last now ds
rises_more mark last now up [] (t ∷ []) r = λ g. omega (arith, r g, up g)
rises_more mark last now up (d ∷ ds) (t ∷ []) r = (λ g. omega (arith, r g, up g), rises_batch mark last now (d ∷ ds))
rises_more mark last now up ds (t ∷ next ∷ later) r = (r.0, rises_more mark last now up ds (next ∷ later) r.1)

-- more was sent, for one entry or at the start
module _ (was is : Seen) (v : Viewer) (sent : List SentDispatch) (mark : Mark) (ds : List Dispatch)
    (same : (g p : ℕ) → p ≤ length (was g) → take p (is g) ≡ take p (was g))
    (up : (g : ℕ) → length (was g) ≤ length (is g))
    (near : (g p : ℕ) → p ≤ length (is g) → (p ≤ length (was g)) ⊎ (p ≡ length (is g)))
    (folds : Holds was (cursors was) v sent)
    (rises : Rises (cursors was) sent)
    (past : All (λ t. (g : ℕ) → t.before g ≤ cursors was g) sent)
    (current : (g : ℕ) → Agrees (state g (is g)) v (held v g (sent ++ told mark (cursors was) (cursors is) ds)))
  where
    abbrev batch : List SentDispatch
    batch = told mark (cursors was) (cursors is) ds

    module _ (earlier : List SentDispatch) (t : SentDispatch) (later : List SentDispatch) (settled : IsSettled t later) (g p : ℕ) (low : t.after g ≤ p) (high : p ≤ until_next (cursors is) later g) where
      abbrev Claim : Type 0
      Claim = Agrees (state g (take p (is g))) v (held v g (earlier ++ t ∷ []))

      abbrev AtPrefix : List Edit → Type 0
      AtPrefix es = Agrees (state g es) v (held v g (earlier ++ t ∷ []))

      -- where all that was sent is folded, and the prefix is all that was looked at
      whole : earlier ++ t ∷ [] ≡ sent ++ batch → p ≡ length (is g) → Claim
      whole e last =
          let all : AtPrefix (is g) = subst (λ (ts : List SentDispatch). Agrees (state g (is g)) v (held v g ts)) (sym e) (current g) in
          subst AtPrefix (sym (ap (λ n. take n (is g)) last ∙ take-length (is g))) all

      before : (mid : List SentDispatch) → IsSettled t mid → sent ≡ earlier ++ t ∷ mid → p ≤ until_next (cursors was) mid g → Claim
      before mid s e below = subst AtPrefix (sym (same g p (span_within (cursors was) sent past earlier t g p mid e below))) (folds earlier t mid e s g p low below)

      last_one : (mid : List SentDispatch) → sent ≡ earlier ++ t ∷ mid → mid ≡ [] → ds ≡ [] → p ≤ length (is g) → Claim
      last_one mid e none nothing at_most = elim (near g p at_most) [
        | inl below ↦ before [] tt (e ∙ ap (λ ts. earlier ++ t ∷ ts) none) below
        | inr top ↦ whole (sym (ap (λ xs. sent ++ told mark (cursors was) (cursors is) xs) nothing ∙ (append_none sent ∙ (e ∙ ap (λ ts. earlier ++ t ∷ ts) none)))) top
      ]

      in_sent : (mid : List SentDispatch) → later ≡ mid ++ batch → sent ≡ earlier ++ t ∷ mid → Claim
      in_sent mid a e = by_span Claim (cursors was) (cursors is) mark ds mid g p
          (subst (λ (ts : List SentDispatch). p ≤ until_next (cursors is) ts g) a high)
          (before mid (settled_front t mid batch (subst (λ (ts : List SentDispatch). IsSettled t ts) a settled)) e)
          (last_one mid e)

      in_batch : (mid : List SentDispatch) → earlier ≡ sent ++ mid → (rest : List SentDispatch) → later ≡ rest → batch ≡ mid ++ t ∷ rest → Claim
      in_batch mid a [] none b =
          let at_end : t.after ≡ cursors is = (told_at mark (cursors was) (cursors is) ds mid t [] b).1 in
          let from : t.after g ≡ length (is g) = ap (λ (c : Cursors). c g) at_end in
          let upto : p ≤ length (is g) = subst (λ (ts : List SentDispatch). p ≤ until_next (cursors is) ts g) none high in
          whole (ap (λ ts. ts ++ t ∷ []) a ∙ (append_assoc sent mid (t ∷ []) ∙ ap (λ ts. sent ++ ts) (sym b))) (omega arith)
      in_batch mid a (next ∷ rest) more b =
          let one : t.mark ≡ mark = (told_at mark (cursors was) (cursors is) ds mid t (next ∷ rest) b).0 in
          let other : next.mark ≡ mark = (told_at mark (cursors was) (cursors is) ds (mid ++ t ∷ []) next rest (b ∙ sym (append_assoc mid (t ∷ []) (next ∷ rest)))).0 in
          let apart : ¬ (t.mark ≡ next.mark) = subst (λ (ts : List SentDispatch). IsSettled t ts) more settled in
          absurd (apart (one ∙ sym other))

    pub more_sent : Meets is (cursors is) v (sent ++ batch)
    more_sent = record {
      folds = λ earlier t later e settled g p low high.
          by_split (Claim earlier t later settled g p low high) sent batch earlier t later e
          (in_sent earlier t later settled g p low high)
          (λ mid a b. in_batch earlier t later settled g p low high mid a later refl b);
      rises = rises_more mark (cursors was) (cursors is) up ds sent rises;
      within = λ g. omega arith;
      past = All-append (λ t. (g : ℕ) → t.before g ≤ cursors is g) sent batch
          (All-weaker (λ t. (g : ℕ) → t.before g ≤ cursors was g) (λ t. (g : ℕ) → t.before g ≤ cursors is g) (λ t h g. omega (arith, h g, up g)) sent past)
          (All-map (λ t. (g : ℕ) → t.before g ≤ cursors is g) (λ d. record { mark = mark; dispatch = d; before = cursors was; after = cursors is }) ds (λ k d h g. up g));
      current = λ g. subst (λ (es : List Edit). Agrees (state g es) v (held v g (sent ++ batch))) (sym (take-length (is g))) (current g);
    }
