-- Whom a message mentions.
use Rattle.std.proofs.Common.{◌≡◌, ℕ, Bool, true, false, List, [], ◌∷◌, Option, Some, None, refl, sym, ap, ◌∙◌, arith}
use Rattle.std.specs.Prelude.{◌&&◌, ◌||◌, ◌==◌, option_map, is_some}
use Rattle.std.specs.Option.{option_to_list}
use Rattle.std.specs.List.{list_any}
use Rattle.std.proofs.Math.Bool.{and-or_distrib_right}
use Rattle.std.proofs.lemmas.Bool.Decides.{nat_tests}
use Rattle.std.proofs.lemmas.List.Folds.{list_any-append}
use Rattle.collections.specs.ById.{find_id, has_id}
use Rattle.collections.proofs.Finds.{key-found}
use Rattle.guild_model.specs.declared.member.Member.{Member}
use Rattle.guild_model.specs.declared.user.User.{User}
use Rattle.guild_model.specs.Record.{Record, member_id}
use Rattle.message_edit.specs.Messages.{member_user}
use Rattle.message_gate.specs.Redacted.{mentions}
use Rattle.message_events.specs.Dispatches.{user_of, mentioned}

module _ (s : Record) (user : ℕ) where
  -- what is found under an id is the user of that id, or nobody
  found-mentions : (one : ℕ) (o : Option Member) → find_id member_id one s.members ≡ o → mentions (option_to_list (option_map member_user o)) user ≡ ((one == user) && is_some o)
  found-mentions one None found = grind (arith, nat_tests)
  found-mentions one (Some m) found = let same : m.user.id ≡ one = key-found member_id one s.members m found in grind (arith, nat_tests)

  -- a user that is named is the member that it is
  named-mentions : (one : ℕ) → mentions (option_to_list (user_of s one)) user ≡ ((one == user) && has_id member_id user s.members)
  named-mentions one = found-mentions one (find_id member_id one s.members) refl ∙ by_test (one == user) refl
    where
      by_test : (b : Bool) → (one == user) ≡ b → (b && has_id member_id one s.members) ≡ (b && has_id member_id user s.members)
      by_test true same = let same : one ≡ user = grind (arith, nat_tests) in ap (λ id. has_id member_id id s.members) same
      by_test false other = refl

  -- a message mentions a user exactly if it names it and the user is a member
  pub mentions_member : (users : List ℕ) → mentions (mentioned s users) user ≡ (list_any (λ one. one == user) users && has_id member_id user s.members)
  mentions_member [] = refl
  mentions_member (one ∷ users) =
      list_any-append (λ (mentioned : User). mentioned.id == user) (option_to_list (user_of s one)) (mentioned s users)
      ∙ (ap (λ b. b || mentions (mentioned s users) user) (named-mentions one)
      ∙ (ap (λ b. ((one == user) && has_id member_id user s.members) || b) (mentions_member users)
      ∙ sym (and-or_distrib_right (one == user) (list_any (λ one. one == user) users) (has_id member_id user s.members))))
