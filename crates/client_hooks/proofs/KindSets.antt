-- Kinds by their places, and sets of them.
use Rattle.std.proofs.Common.{◌≡◌, ℕ, Bool, false, slice_index_or, ◌-◌, ◌^◌, ◌<◌, true, IsTrue, ◌↔◌, refl, sym, ap, ◌∙◌, arith, inl, inr}
use Rattle.std.specs.Prelude.{◌⊎◌, ◌||◌}
use Rattle.std.specs.Int.RustNames.{bit_or}
use Rattle.std.proofs.lemmas.Bool.{cases_eq, false≢true}
use Rattle.std.proofs.lemmas.Nat.Bits.{bit_at_ones}
use Rattle.perm_bits.specs.Bits.{has_bit}
use Rattle.perm_bits.proofs.BitSets.{has_bit-or, has_bit-same, has_bit-other}
use Rattle.intent_set.specs.declared.kind.Kind.{Kind}
use Rattle.intent_set.specs.declared.kind.Kind.TheVariants.{Ready, Resumed, GuildCreate, GuildUpdate, GuildDelete, GuildRoleCreate, GuildRoleUpdate, GuildRoleDelete, ChannelCreate, ChannelUpdate, ChannelDelete, ThreadCreate, ThreadUpdate, ThreadDelete, ThreadListSync, ThreadMembersUpdate, GuildMemberAdd, GuildMemberUpdate, GuildMemberRemove, GuildMembersChunk, VoiceStateUpdate, PresenceUpdate, MessageCreate, MessageUpdate, MessageDelete, MessageReactionAdd, MessageReactionRemove, TypingStart}
use Rattle.intent_set.specs.Kind.{kinds}
use Rattle.client_hooks.specs.Kinds.{place, holds}

-- the kind at a place
abbrev kind_at : ℕ → Kind
kind_at n = slice_index_or kinds n Ready

kind_at-place : (kind : Kind) → kind_at (place kind) ≡ kind
kind_at-place Ready = refl
kind_at-place Resumed = refl
kind_at-place GuildCreate = refl
kind_at-place GuildUpdate = refl
kind_at-place GuildDelete = refl
kind_at-place GuildRoleCreate = refl
kind_at-place GuildRoleUpdate = refl
kind_at-place GuildRoleDelete = refl
kind_at-place ChannelCreate = refl
kind_at-place ChannelUpdate = refl
kind_at-place ChannelDelete = refl
kind_at-place ThreadCreate = refl
kind_at-place ThreadUpdate = refl
kind_at-place ThreadDelete = refl
kind_at-place ThreadListSync = refl
kind_at-place ThreadMembersUpdate = refl
kind_at-place GuildMemberAdd = refl
kind_at-place GuildMemberUpdate = refl
kind_at-place GuildMemberRemove = refl
kind_at-place GuildMembersChunk = refl
kind_at-place VoiceStateUpdate = refl
kind_at-place PresenceUpdate = refl
kind_at-place MessageCreate = refl
kind_at-place MessageUpdate = refl
kind_at-place MessageDelete = refl
kind_at-place MessageReactionAdd = refl
kind_at-place MessageReactionRemove = refl
kind_at-place TypingStart = refl

same_kind : (k kind : Kind) → place k ≡ place kind → k ≡ kind
same_kind k kind same = sym (kind_at-place k) ∙ ap kind_at same ∙ kind_at-place kind

place-below : (kind : Kind) → place kind < 28
place-below Ready = omega arith
place-below Resumed = omega arith
place-below GuildCreate = omega arith
place-below GuildUpdate = omega arith
place-below GuildDelete = omega arith
place-below GuildRoleCreate = omega arith
place-below GuildRoleUpdate = omega arith
place-below GuildRoleDelete = omega arith
place-below ChannelCreate = omega arith
place-below ChannelUpdate = omega arith
place-below ChannelDelete = omega arith
place-below ThreadCreate = omega arith
place-below ThreadUpdate = omega arith
place-below ThreadDelete = omega arith
place-below ThreadListSync = omega arith
place-below ThreadMembersUpdate = omega arith
place-below GuildMemberAdd = omega arith
place-below GuildMemberUpdate = omega arith
place-below GuildMemberRemove = omega arith
place-below GuildMembersChunk = omega arith
place-below VoiceStateUpdate = omega arith
place-below PresenceUpdate = omega arith
place-below MessageCreate = omega arith
place-below MessageUpdate = omega arith
place-below MessageDelete = omega arith
place-below MessageReactionAdd = omega arith
place-below MessageReactionRemove = omega arith
place-below TypingStart = omega arith

has_bit-ones : (i : ℕ) → i < 28 → has_bit (2 ^ 28 - 1) i ≡ true
unfolding has_bit
has_bit-ones i below = let e = bit_at_ones 28 i below in rw e refl

-- the number with the lowest 28 bits is the set of all kinds
pub holds-all : (kind : Kind) → holds (2 ^ 28 - 1) kind ≡ true
holds-all kind = has_bit-ones (place kind) (place-below kind)

only : (k kind : Kind) → IsTrue (has_bit (2 ^ place kind) (place k)) → k ≡ kind
only k kind here = elim (cases_eq (place k) (place kind)) [
  | inl same ↦ same_kind k kind same
  | inr differ ↦ absurd (false≢true (sym (has_bit-other (place kind) (place k) differ) ∙ here))
]

-- a power of two at a kind's place is the set of that kind
pub holds-one : (k kind : Kind) → IsTrue (holds (2 ^ place kind) k) ↔ (k ≡ kind)
holds-one k kind = (only k kind, (λ same. rw same (has_bit-same (place kind))))

one_more : (a b : Bool) {P : Type 0} → IsTrue b ↔ P → IsTrue (a || b) ↔ (IsTrue a ⊎ P)
one_more true b same = ((λ _. inl refl), (λ _. refl))
one_more false b same = (
  (λ here. inr (same.0 here)),
  elim [
    | inl false_is ↦ absurd (false≢true false_is)
    | inr p ↦ same.1 p
  ],
)

-- a set and one kind more
pub holds-with : (kinds : ℕ) (k kind : Kind) → IsTrue (holds (bit_or kinds (2 ^ place kind)) k) ↔ (IsTrue (holds kinds k) ⊎ (k ≡ kind))
holds-with kinds k kind =
    rw (has_bit-or kinds (2 ^ place kind) (place k)) (one_more (holds kinds k) (holds (2 ^ place kind) k) (holds-one k kind))
