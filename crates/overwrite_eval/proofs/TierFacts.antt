-- The masks of a tier with no overwrite, and of one with one.
use Rattle.std.proofs.Common.{◌≡◌, ◌≤◌, ℕ, Bool, false, List, [], ◌∷◌, Some, None, refl, sym, ap, ◌∙◌, arith}
use Rattle.std.specs.Prelude.{◌&&◌}
use Rattle.std.specs.List.{list_any}
use Rattle.std.specs.Option.{option_map_or}
use Rattle.std.proofs.lemmas.Bool.Decides.{nat_tests}
use Rattle.collections.specs.ById.{find_id, IsById, AllAbove}
use Rattle.perm_bits.specs.Bits.{has_bit}
use Rattle.perm_bits.proofs.BitSets.{has_bit-none}
use Rattle.guild_model.specs.declared.channel.Overwrite.{Overwrite}
use Rattle.guild_model.specs.Record.{overwrite_id}
use Rattle.guild_model.specs.Permissions.{is_of}
use Rattle.overwrite_eval.specs.Tiers.{Unites}

pub unites_none : (belongs : Overwrite → Bool) → Unites belongs [] (record { allow = 0; deny = 0 })
unites_none belongs = record { allow = has_bit-none; deny = has_bit-none }

-- of overwrites that ascend, only the one of the id can be of it
any_above : (id k : ℕ) (p : Overwrite → Bool) (os : List Overwrite) → AllAbove overwrite_id k os → id ≤ k → list_any (λ o. is_of id o && p o) os ≡ false
any_above id k p [] h le = refl
any_above id k p (o ∷ os) h le = grind (arith, nat_tests, h.0, any_above id k p os h.1 le)

pub any_found : (id : ℕ) (p : Overwrite → Bool) (os : List Overwrite) → IsById overwrite_id os → list_any (λ o. is_of id o && p o) os ≡ option_map_or p (find_id overwrite_id id os) false
any_found id p [] h = refl
any_found id p (o ∷ os) h =
    let rest = any_found id p os h.1 in
    let above : id ≤ overwrite_id o → list_any (λ o. is_of id o && p o) os ≡ false = λ le. any_above id (overwrite_id o) p os h.0 le in
    grind (arith, nat_tests, rest, above)

pub unites_found : (id : ℕ) (os : List Overwrite) (o : Overwrite) → IsById overwrite_id os → find_id overwrite_id id os ≡ Some o → Unites (is_of id) os (record { allow = o.allow; deny = o.deny })
unites_found id os o h found = record {
  allow = λ b. sym (any_found id (λ x. has_bit x.allow b) os h ∙ ap (λ f. option_map_or (λ (x : Overwrite). has_bit x.allow b) f false) found);
  deny = λ b. sym (any_found id (λ x. has_bit x.deny b) os h ∙ ap (λ f. option_map_or (λ (x : Overwrite). has_bit x.deny b) f false) found);
}

pub unites_missing : (id : ℕ) (os : List Overwrite) → IsById overwrite_id os → find_id overwrite_id id os ≡ None → Unites (is_of id) os (record { allow = 0; deny = 0 })
unites_missing id os h missing = record {
  allow = λ b. has_bit-none b ∙ sym (any_found id (λ x. has_bit x.allow b) os h ∙ ap (λ f. option_map_or (λ (x : Overwrite). has_bit x.allow b) f false) missing);
  deny = λ b. has_bit-none b ∙ sym (any_found id (λ x. has_bit x.deny b) os h ∙ ap (λ f. option_map_or (λ (x : Overwrite). has_bit x.deny b) f false) missing);
}
