-- The edits of a guild when one request more was taken.
use Rattle.std.proofs.Common.{◌≡◌, ◌≢◌, ℕ, ◌+◌, ◌<◌, ◌==◌, Bool, true, false, List, [], ◌∷◌, ◌++◌, map, take, length, cond, eqb, sym, ap, ◌∙◌, ⊎_elim, arith, length-append, length-take, take_all, append-nil}
use Rattle.std.specs.List.{filter}
use Rattle.std.proofs.lemmas.List.{map-append, take-append-le}
use Rattle.std.proofs.lemmas.List.Elements.{filter-append}
use Rattle.std.proofs.lemmas.Bool.Decides.{Decides-eqb, eqb_tells}
use Rattle.edit_apply.specs.declared.Edit.{Edit}
use Rattle.edit_post.specs.declared.request.Request.{Request}
use Rattle.guild_actor.specs.Acts.{edits_of, entries_of, refused_of, most}

abbrev is_of : ℕ → Request → Bool
is_of guild r = r.guild == guild

abbrev edit_of : Request → Edit
edit_of r = r.edit

one : (b : Bool) (r : Request) → b ≡ true → map edit_of (cond b (r ∷ []) []) ≡ r.edit ∷ []
one b r e = ap (λ c. map edit_of (cond c (r ∷ []) [])) e

none_of : (b : Bool) (r : Request) → b ≡ false → map edit_of (cond b (r ∷ []) []) ≡ []
none_of b r e = ap (λ c. map edit_of (cond c (r ∷ []) [])) e

more : (guild : ℕ) (rs : List Request) (r : Request) → edits_of guild (rs ++ r ∷ []) ≡ edits_of guild rs ++ edits_of guild (r ∷ [])
more guild rs r = ap (map edit_of) (filter-append (is_of guild) rs (r ∷ [])) ∙ map-append edit_of (filter (is_of guild) rs) (filter (is_of guild) (r ∷ []))

pub edits_own : (guild : ℕ) (rs : List Request) (r : Request) → guild ≡ r.guild → edits_of guild (rs ++ r ∷ []) ≡ edits_of guild rs ++ r.edit ∷ []
edits_own guild rs r e = more guild rs r ∙ ap (λ l. edits_of guild rs ++ l) (one (is_of guild r) r ((Decides-eqb r.guild guild).1 (sym e)))

pub edits_other : (guild : ℕ) (rs : List Request) (r : Request) → guild ≢ r.guild → edits_of guild (rs ++ r ∷ []) ≡ edits_of guild rs
edits_other guild rs r n =
    more guild rs r
    ∙ ap (λ l. edits_of guild rs ++ l) (none_of (is_of guild r) r (⊎_elim (λ (t : (eqb r.guild guild ≡ true) × (r.guild ≡ guild)). absurd (n (sym t.1))) (λ (t : (eqb r.guild guild ≡ false) × (r.guild ≢ guild)). t.0) (eqb_tells r.guild guild)))
    ∙ append-nil (edits_of guild rs)

module _ {E : Type 0} (n : ℕ) (xs : List E) (x : E) where
  short : length (take n xs) < n → length xs < n
  short lt = omega (arith, length-take n xs, lt)

  room : length (take n xs) < n → take n (xs ++ x ∷ []) ≡ take n xs ++ x ∷ []
  room lt =
      take_all n (xs ++ x ∷ []) (omega (arith, length-append xs (x ∷ []), short lt))
      ∙ ap (λ l. l ++ x ∷ []) (sym (take_all n xs (omega (arith, short lt))))

  no_room : length (take n xs) ≡ n → take n (xs ++ x ∷ []) ≡ take n xs
  no_room e = take-append-le n xs (x ∷ []) (omega (arith, length-take n xs, e))

module _ (guild : ℕ) (rs : List Request) (r : Request) (own : guild ≡ r.guild) where
  -- a log with room has the edit after the request
  pub entries_room : length (entries_of guild rs) < most → entries_of guild (rs ++ r ∷ []) ≡ entries_of guild rs ++ r.edit ∷ []
  entries_room lt = ap (take most) (edits_own guild rs r own) ∙ room most (edits_of guild rs) r.edit lt

  pub refused_room : length (entries_of guild rs) < most → refused_of guild (rs ++ r ∷ []) ≡ refused_of guild rs
  refused_room lt =
      let many : length (edits_of guild (rs ++ r ∷ [])) ≡ length (edits_of guild rs) + 1 = ap length (edits_own guild rs r own) ∙ length-append (edits_of guild rs) (r.edit ∷ []) in
      omega (arith, many, short most (edits_of guild rs) r.edit lt)

  -- a full log stays as it was
  pub entries_full : length (entries_of guild rs) ≡ most → entries_of guild (rs ++ r ∷ []) ≡ entries_of guild rs
  entries_full e = ap (take most) (edits_own guild rs r own) ∙ no_room most (edits_of guild rs) r.edit e

  pub refused_full : length (entries_of guild rs) ≡ most → refused_of guild (rs ++ r ∷ []) ≡ refused_of guild rs + 1
  refused_full e =
      let many : length (edits_of guild (rs ++ r ∷ [])) ≡ length (edits_of guild rs) + 1 = ap length (edits_own guild rs r own) ∙ length-append (edits_of guild rs) (r.edit ∷ []) in
      omega (arith, many, length-take most (edits_of guild rs), e)
