-- Users in any order are known by the same ids when they are put in order.
use Rattle.std.proofs.Common.{◌≡◌, ℕ, Bool, true, false, ◌||◌, List, [], ◌∷◌, Some, None, if◌then◌else◌, refl, ap, ◌∙◌}
use Rattle.std.specs.Prelude.{◌==◌, filter, is_some, Option}
use Rattle.std.proofs.Math.Bool.{or-false}
use Rattle.collections.specs.ById.{IsById, find_id, has_id, put_id, put_all}
use Rattle.collections.proofs.Has.{has-put}
use Rattle.collections.proofs.Mapped.{filter-same}
use Rattle.guild_model.specs.declared.member.Member.{Member}
use Rattle.guild_model.specs.Record.{own_id, member_id}
use Rattle.dispatch_types.specs.Projection.{is_known}

either_way : (here : Bool) (y : ℕ) (found : Option ℕ) (others : Bool) → (is_some found || (here || others)) ≡ (is_some (if here then Some y else found) || others)
either_way true y None others = refl
either_way true y (Some x) others = refl
either_way false y found others = refl

has-put_all : (id : ℕ) (xs ys : List ℕ) → has_id own_id id (put_all own_id xs ys) ≡ (has_id own_id id ys || has_id own_id id xs)
has-put_all id xs [] = refl
has-put_all id xs (y ∷ ys) =
    has-put_all id (put_id own_id y xs) ys
    ∙ (ap (λ b. has_id own_id id ys || b) (has-put own_id y id xs)
    ∙ either_way (y == id) y (find_id own_id id ys) (has_id own_id id xs))

pub known-in_order : (known : List ℕ) (ms : List Member) → IsById member_id ms → filter (is_known (put_all own_id [] known)) ms ≡ filter (is_known known) ms
known-in_order known ms h =
    filter-same member_id _ _ ms h (λ id (m : Member) found. has-put_all m.user.id [] known ∙ or-false (has_id own_id m.user.id known))
