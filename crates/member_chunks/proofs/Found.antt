-- What holds of each member holds of those that are found, and of each chunk of them.
use Rattle.std.proofs.Common.{◌≡◌, ℕ, ◌≤◌, ◌*◌, List, [], ◌∷◌, drop, Option, Some, None, refl, arith}
use Rattle.std.specs.Prelude.{All, filter, filter_map, unwrap_or}
use Rattle.std.specs.List.{cons_option}
use Rattle.std.proofs.lemmas.Bool.Decides.{nat_tests}
use Rattle.std.proofs.lemmas.List.Elements.{All-nil, All-cons, All-take, All-drop, All-filter, All-weaker}
use Rattle.collections.specs.ById.{find_id, IsById}
use Rattle.collections.proofs.Ids.{find_above}
use Rattle.collections.proofs.Has.{All-found}
use Rattle.guild_model.specs.declared.member.Member.{Member}
use Rattle.guild_model.specs.Record.{Record, member_id}
use Rattle.gateway_frames.specs.declared.frame.Find.{Find}
use Rattle.gateway_frames.specs.declared.frame.Find.TheVariants.{Query, Users}
use Rattle.member_chunks.specs.Answered.{most, at_most, is_named, each_once, found, part}

module _ (s : Record) (P : Member → Type 0) (all : All P s.members) where
  of_users : (ids : List ℕ) → All P (filter_map (λ id. find_id member_id id s.members) ids)
  of_users [] = All-nil P
  of_users (id ∷ ids) = by_found (find_id member_id id s.members) refl (of_users ids)
    where
      by_found : (o : Option Member) → find_id member_id id s.members ≡ o → All P (filter_map (λ id. find_id member_id id s.members) ids) → All P (cons_option o (filter_map (λ id. find_id member_id id s.members) ids))
      by_found None e rest = rest
      by_found (Some m) e rest = All-cons P m (filter_map (λ id. find_id member_id id s.members) ids) (All-found member_id P id s.members m all e) rest

  of_most : (n : Option ℕ) (ms : List Member) → All P ms → All P (at_most n ms)
  of_most None ms h = h
  of_most (Some n) ms h = All-take P n ms h

  pub of_found : (find : Find) → All P (found s find)
  of_found (Query query limit) = of_most (most query (unwrap_or limit 0)) (filter (is_named query) s.members) (All-filter (is_named query) P s.members all)
  of_found (Users ids) = of_users (each_once ids)

pub of_part : (P : Member → Type 0) (ms : List Member) (index : ℕ) → All P ms → All P (part ms index)
of_part P ms index h = All-take P 1000 (drop (index * 1000) ms) (All-drop P (index * 1000) ms h)

-- each member of a list is found in it
pub each_there : (xs : List Member) → IsById member_id xs → All (λ (m : Member). find_id member_id m.user.id xs ≡ Some m) xs
each_there [] h = All-nil (λ (m : Member). find_id member_id m.user.id [] ≡ Some m)
each_there (x ∷ xs) h =
    All-cons (λ (m : Member). find_id member_id m.user.id (x ∷ xs) ≡ Some m) x xs here
    (All-weaker (λ (m : Member). find_id member_id m.user.id xs ≡ Some m) (λ (m : Member). find_id member_id m.user.id (x ∷ xs) ≡ Some m) further xs (each_there xs h.1))
  where
    here : find_id member_id x.user.id (x ∷ xs) ≡ Some x
    here = grind (arith, nat_tests)

    further : (m : Member) → find_id member_id m.user.id xs ≡ Some m → find_id member_id m.user.id (x ∷ xs) ≡ Some m
    further m found = let above : m.user.id ≤ x.user.id → find_id member_id m.user.id xs ≡ None = λ le. find_above member_id m.user.id x.user.id xs le h.0 in grind (arith, nat_tests, above, found)
