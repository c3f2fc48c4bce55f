-- Records that agree are counted one after another.
use Rattle.std.proofs.Common.{◌≡◌, ◌↔◌, ℕ, suc, ◌+◌, ◌<◌, ◌≤◌, Bool, false, true≢false, List, map, length, slice_index_or, drop, IsTrue, sym, refl, subst, ◌∙◌, inl, inr, arith}
use Rattle.std.proofs.lemmas.List.{drop_more, drop_all}
use Rattle.guild_model.specs.Record.{Record}
use Rattle.dispatch_types.specs.declared.viewer.Viewer.{Viewer}
use Rattle.client_cache.specs.Cached.{Cached}
use Rattle.load_client.specs.Agreement.{Agrees, AgreeSo}

-- a test that is false
pub not_so : {P : Type 0} (b : Bool) → (IsTrue b ↔ P) → b ≡ false → P → ⊥
not_so b exact no_test holds = true≢false (sym (exact.1 holds) ∙ no_test)

from_none : (m : ℕ) → m ≡ 0 + m
from_none m = omega arith

to_none : (n : ℕ) → n + 0 ≡ n
to_none n = omega arith

one_on : (n m : ℕ) → n + suc m ≡ n + 1 + m
one_on n m = omega arith

module _ {B : Type 0} (now : B → Record) (v : Viewer) (c : Cached) where
  -- so many agree before a place, if with those that agree from there on they are all that do
  abbrev pub CountsTo : List B → ℕ → ℕ → Type 0
  CountsTo rs i n = (m : ℕ) → AgreeSo v c (map now (drop i rs)) m → AgreeSo v c (map now rs) (n + m)

  pub counts_none : (rs : List B) → CountsTo rs 0 0
  counts_none rs m all = subst (λ k. AgreeSo v c (map now rs) k) (from_none m) all

  pub counts_one : (rs : List B) (i : ℕ) (r : B) (n : ℕ) → i < length rs → slice_index_or rs i r ≡ r → Agrees v c (now r) → CountsTo rs i n → CountsTo rs (i + 1) (n + 1)
  counts_one rs i r n below at agrees counts m rest =
      let from_here : AgreeSo v c (map now (drop i rs)) (suc m) = rw (drop_more rs i r below, at) (m, (rest, inl (agrees, refl))) in
      subst (λ k. AgreeSo v c (map now rs) k) (one_on n m) (counts (suc m) from_here)

  pub counts_past : (rs : List B) (i : ℕ) (r : B) (n : ℕ) → i < length rs → slice_index_or rs i r ≡ r → (Agrees v c (now r) → ⊥) → CountsTo rs i n → CountsTo rs (i + 1) n
  counts_past rs i r n below at differs counts m rest =
      counts m (rw (drop_more rs i r below, at) (m, (rest, inr (differs, refl))))

  pub counts_all : (rs : List B) (i n : ℕ) → length rs ≤ i → CountsTo rs i n → AgreeSo v c (map now rs) n
  counts_all rs i n over counts = subst (λ k. AgreeSo v c (map now rs) k) (to_none n) (counts 0 (rw (drop_all i rs over) refl))
