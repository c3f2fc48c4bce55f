-- What an edit leaves of a user's masks, and what it takes to mend the rest.
use Rattle.std.specs.Prelude.{◌≡◌, ℕ, ◌+◌, ◌==◌, Bool, true, false, None}
use Rattle.std.specs.List.{sum_by}
use Rattle.collections.specs.ById.{has_id}
use Rattle.guild_model.specs.declared.channel.Channel.{Channel}
use Rattle.guild_model.specs.Record.{Record, member_id, channel_id}
use Rattle.guild_model.specs.Consistent.{IsConsistent}
use Rattle.guild_model.specs.Permissions.{base as base_has, grants}
use Rattle.overwrite_eval.specs.Looks.{looks_of, role_looks, overwrite_looks}
use Rattle.role_member_edit.specs.declared.role_body.RoleBody.{RoleBody}
use Rattle.role_member_edit.specs.declared.RoleMemberEdit.TheVariants.{RoleCreate}
use Rattle.edit_apply.specs.declared.Edit.{Edit}
use Rattle.edit_apply.specs.declared.Edit.TheVariants as edit
use Rattle.edit_apply.specs.Edits.{verdict, after}
use Rattle.mask_cache.specs.declared.mask_change.MaskChange.{MaskChange}
use Rattle.mask_cache.specs.declared.mask_change.MaskChange.TheVariants.{Nothing, Gone, InChannel, All}
use Rattle.mask_cache.specs.Changes.{mask_change}

-- an accepted edit takes one record to the other; the guild is open, and the user is a member before
-- and after; where a role is created, members hold only roles that exist
pub record Follows (s : Record) (e : Edit) (t : Record) (user : ℕ) : Type 0 where
  pub consistent : (body : RoleBody) → e ≡ edit.RoleMember (RoleCreate body) → IsConsistent s
  pub opened : s.opened ≡ true
  pub accepted : verdict s e ≡ None
  pub after : t ≡ after s e
  pub was_member : has_id member_id user s.members ≡ true
  pub is_member : has_id member_id user t.members ≡ true

-- the mask in a channel is what it was
pub record SameIn (s t : Record) (user channel : ℕ) : Type 0 where
  pub there : has_id channel_id channel t.channels ≡ has_id channel_id channel s.channels
  pub grants : (b : ℕ) → grants t user channel b ≡ grants s user channel b

-- all masks are what they were, but those in some channels
pub record SameElsewhere (changed : ℕ → Bool) (s t : Record) (user : ℕ) : Type 0 where
  pub base : (b : ℕ) → base_has t user b ≡ base_has s user b
  pub channels : (channel : ℕ) → changed channel ≡ false → SameIn s t user channel

-- what an edit leaves that may change these masks
abbrev pub Leaves : MaskChange → Record → Record → ℕ → Type 0
Leaves Nothing s t user = SameElsewhere (λ id. false) s t user
Leaves (Gone channel) s t user =
    SameElsewhere (λ id. channel == id) s t user × (has_id channel_id channel t.channels ≡ false)
Leaves (InChannel channel) s t user =
    SameElsewhere (λ id. channel == id) s t user × (has_id channel_id channel t.channels ≡ true)
Leaves All s t user = Unit {0}

-- THE LAW OF MASKS: no other mask changes than those that an edit may change
abbrev pub OthersStay : Type 0
OthersStay = (s : Record) (e : Edit) (t : Record) (user : ℕ) → Follows s e t user
    → Leaves (mask_change user e) s t user

-- the overwrites of all channels
abbrev pub all_overwrites : Record → ℕ
all_overwrites g = sum_by (λ (c : Channel). looks_of c.overwrites) g.channels

-- how many roles and overwrites there are to look at for the masks that an edit may change
abbrev pub looks_for : Record → ℕ → MaskChange → ℕ
looks_for g user Nothing = 0
looks_for g user (Gone channel) = 0
looks_for g user (InChannel channel) = overwrite_looks g channel
looks_for g user All = role_looks g user + all_overwrites g

abbrev pub mend_looks : Record → ℕ → Edit → ℕ
mend_looks g user e = looks_for g user (mask_change user e)
