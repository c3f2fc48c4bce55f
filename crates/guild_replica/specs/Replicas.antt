-- A copy of a guild, and the masks that are kept with it.
use Rattle.std.specs.Prelude.{◌≡◌, ◌&&◌, ℕ, Bool, true, false, List, [], ◌∷◌, Option, Some, None}
use Rattle.collections.specs.ById.{has_id}
use Rattle.guild_model.specs.Record.{Record, member_id}
use Rattle.role_member_edit.specs.declared.RoleMemberEdit.TheVariants.{RoleCreate}
use Rattle.edit_apply.specs.declared.Edit.{Edit}
use Rattle.edit_apply.specs.declared.Edit.TheVariants.{RoleMember}
use Rattle.mask_cache.specs.Masks.{UserMasks, MasksOf}

-- what a copy means: the record, and the users whose masks are kept where they are members
pub record GuildCopy : Type 0 where
  pub guild : Record
  pub users : List ℕ

-- ---- internal: cited by private functions only

-- the guild is open, and the user is a member of it
abbrev pub is_served : Record → ℕ → Bool
is_served s user = s.opened && has_id member_id user s.members

-- what is kept for a user are its masks if it is served, and nothing if it is not
abbrev pub AreKept : Record → ℕ → Option UserMasks → Type 0
AreKept s user None = is_served s user ≡ false
AreKept s user (Some m) = (is_served s user ≡ true) × MasksOf s user m

-- the same of each of these users, by its index
abbrev pub EachKept : Record → List ℕ → List (Option UserMasks) → Type 0
EachKept s [] [] = Unit {0}
EachKept s [] (one ∷ more) = ⊥
EachKept s (user ∷ users) [] = ⊥
EachKept s (user ∷ users) (one ∷ more) = AreKept s user one × EachKept s users more

abbrev pub creates_role : Edit → Bool
creates_role (RoleMember (RoleCreate body)) = true
creates_role e = false
