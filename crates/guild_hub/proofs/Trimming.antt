-- An entry more leaves what is shown trimmed.
use Rattle.std.proofs.Common.{◌≡◌, ◌≤◌, ◌<◌, ◌+◌, ℕ, Bool, true, false, List, [], ◌∷◌, ◌++◌, length, take, drop, nat_lt, sym, refl, ap, ◌∙◌, take-add, arith}
use Rattle.std.proofs.lemmas.List.{length-append, length-drop, take-append-le, take-append-drop, drop-append-le, drop-drop}
use Rattle.std.proofs.lemmas.Bool.Decides.{nat_tests}
use Rattle.guild_model.specs.Record.{Record}
use Rattle.edit_apply.specs.declared.Edit.{Edit}
use Rattle.edit_apply.specs.Edits.{after, state_from, state}
use Rattle.guild_hub.specs.Logs.{with_entry, base_of, whole_record, accepted, accepted_from}
use Rattle.guild_hub.specs.Trims.{over, pushed, IsTrimmed}
use Rattle.guild_hub.specs.declared.shown.Spine.{Spine}

-- the record after some entries and then others
pub state_join : (g : Record) (xs ys : List Edit) → state_from g (xs ++ ys) ≡ state_from (state_from g xs) ys
state_join g [] ys = refl
state_join g (x ∷ xs) ys = state_join (after g x) xs ys

pub accepted_join : (g : Record) (xs ys : List Edit) → accepted_from g (xs ++ ys) ≡ accepted_from g xs + accepted_from (state_from g xs) ys
accepted_join g [] ys = omega arith
accepted_join g (x ∷ xs) ys = omega (arith, accepted_join (after g x) xs ys)

-- what all entries of a log come to, by what is shown of it
pub comes_to : (x : Spine) → IsTrimmed x → (state_from x.basis x.entries ≡ whole_record x.note) × (x.accepted + accepted_from x.basis x.entries ≡ accepted x.note)
comes_to x t =
    let es = x.note.entries in
    let b = base_of x.note in
    let g = state x.note.hub.guild [] in
    let whole : take b es ++ drop b es ≡ es = take-append-drop b es in (
      rw (t.basis, t.entries) (sym (state_join g (take b es) (drop b es)) ∙ ap (state_from g) whole),
      rw (t.basis, t.entries, t.accepted) (sym (accepted_join g (take b es) (drop b es)) ∙ ap (accepted_from g) whole),
    )

shift : (x : Spine) (e : Edit) (k : ℕ) → base_of (with_entry x.note e) ≡ base_of x.note + k → base_of x.note + k ≤ length x.note.entries
    → IsTrimmed x → IsTrimmed (record { basis = state_from x.basis (take k x.entries); accepted = x.accepted + accepted_from x.basis (take k x.entries); entries = drop k x.entries ++ e ∷ []; note = with_entry x.note e })
shift x e k base within t =
    let es = x.note.entries in
    let b = base_of x.note in
    let g = x.note.hub.guild in
    let first : take (b + k) (es ++ e ∷ []) ≡ take b es ++ take k (drop b es) = take-append-le (b + k) es (e ∷ []) within ∙ take-add b k es in
    let last : drop (b + k) (es ++ e ∷ []) ≡ drop k (drop b es) ++ e ∷ [] = drop-append-le (b + k) es (e ∷ []) within ∙ ap (λ l. l ++ e ∷ []) (sym (drop-drop k b es)) in record {
      basis = rw (base, first, t.basis, t.entries) (sym (state_join (state g []) (take b es) (take k (drop b es))));
      accepted = rw (base, first, t.accepted, t.basis, t.entries) (sym (accepted_join (state g []) (take b es) (take k (drop b es))));
      entries = rw (base, last, t.entries) refl;
    }

by_room : (x : Spine) (e : Edit) (c : Bool) → nat_lt (length x.entries) 4096 ≡ c → IsTrimmed x → IsTrimmed (pushed x e (with_entry x.note e))
by_room x e true is t =
    let len = ap length t.entries ∙ length-drop (base_of x.note) x.note.entries in
    let few : length x.entries < 4096 = grind (arith, nat_tests) in
    let none : over (length x.entries) ≡ 0 = rw is refl in
    rw none (shift x e 0 (omega (arith, len, few, length-append x.note.entries (e ∷ []))) (omega (arith, len, few)) t)
by_room x e false is t =
    let len = ap length t.entries ∙ length-drop (base_of x.note) x.note.entries in
    let many : 4096 ≤ length x.entries = grind (arith, nat_tests) in
    let one : over (length x.entries) ≡ 1 = rw is refl in
    rw one (shift x e 1 (omega (arith, len, many, length-append x.note.entries (e ∷ []))) (omega (arith, len, many)) t)

pub pushed_trimmed : (x : Spine) (e : Edit) → IsTrimmed x → IsTrimmed (pushed x e (with_entry x.note e))
pushed_trimmed x e t = by_room x e (nat_lt (length x.entries) 4096) refl t
