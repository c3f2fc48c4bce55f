-- What is seen by masks is what is seen by the record.
use Rattle.std.proofs.Common.{◌≡◌, ℕ, ◌<◌, Bool, false, Option, Some, None, arith, refl, subst, ap, sym, ◌∙◌}
use Rattle.std.specs.Prelude.{◌&&◌, ◌||◌, not, is_some, IfSome}
use Rattle.std.specs.Option.{option_map_or}
use Rattle.collections.specs.ById.{find_id, has_id}
use Rattle.collections.proofs.Finds.{key-found}
use Rattle.perm_bits.specs.Bits.{has_bit}
use Rattle.perm_bits.specs.Permissions.{view_channel, manage_threads}
use Rattle.guild_model.specs.declared.channel.Channel.{Channel}
use Rattle.guild_model.specs.declared.member.Member.{Member}
use Rattle.guild_model.specs.declared.thread.Thread.{Thread}
use Rattle.guild_model.specs.Record.{Record, member_id, channel_id, thread_member_id}
use Rattle.guild_model.specs.Permissions.{grants, grants_of}
use Rattle.guild_model.specs.Sight.{Standing, granted, sees_channel, is_private, member_sees}
use Rattle.overwrite_eval.specs.MaskIn.{IsMaskIn, sees_as}
use Rattle.overwrite_eval.specs.Stands.{IsStandingOf}
use Rattle.overwrite_eval.proofs.Grants.{granted_user, granted_member}

-- without an answer the channel is not there, and nobody is granted anything in it
no_channel : (g : Record) (m : Option Member) (c : Option Channel) (b : ℕ) → is_some c ≡ false → grants_of g m c b ≡ false
no_channel g None c b e = refl
no_channel g (Some m) None b e = refl
no_channel g (Some m) (Some c) b e = absurd (cc)

abbrev pub bit_in : Option ℕ → ℕ → Bool
bit_in None b = false
bit_in (Some mask) b = has_bit mask b

-- the bits of an answer are those that the user is granted
pub granted_by : (s : Record) (user channel : ℕ) (answer : Option ℕ) (b : ℕ) → b < 53 → IsMaskIn s user channel answer → bit_in answer b ≡ grants s user channel b
granted_by s user channel None b below is = sym (no_channel s (find_id member_id user s.members) (find_id channel_id channel s.channels) b (sym is.there))
granted_by s user channel (Some mask) b below is = is.bits mask refl b below

pub seen_by : (s : Record) (user channel : ℕ) (answer : Option ℕ) → IsMaskIn s user channel answer → sees_channel s user channel ≡ bit_in answer view_channel
seen_by s user channel answer is = granted_user s user channel view_channel ∙ sym (granted_by s user channel answer view_channel (omega arith) is)

-- a thread is seen by what is granted in its parent
abbrev by_grants : Record → ℕ → Thread → Bool
by_grants s user t = grants s user t.parent view_channel && (not (is_private t.kind) || has_id thread_member_id user t.members || grants s user t.parent manage_threads)

as_granted : (s : Record) (user : ℕ) (t : Thread) (m : Option Member) → find_id member_id user s.members ≡ m
    → option_map_or (λ (m : Member). member_sees s m t) m false ≡ by_grants s user t
as_granted s user t None found = rw found refl
as_granted s user t (Some m) found =
    rw (granted_member s user t.parent m view_channel found, granted_member s user t.parent m manage_threads found, key-found member_id user s.members m found) refl

pub thread_seen_by : (s : Record) (user : ℕ) (t : Thread) (answer : Option ℕ) → IsMaskIn s user t.parent answer
    → sees_as s user t ≡ (bit_in answer view_channel && (not (is_private t.kind) || has_id thread_member_id user t.members || bit_in answer manage_threads))
thread_seen_by s user t answer is =
    rw (granted_by s user t.parent answer view_channel (omega arith) is, granted_by s user t.parent answer manage_threads (omega arith) is)
    (as_granted s user t (find_id member_id user s.members) refl)

if_some : (P : ℕ → Type 0) (o : Option ℕ) → IfSome o P → (x : ℕ) → o ≡ Some x → P x
if_some P None holds x e = absurd (cc)
if_some P (Some y) holds x e = let same : y ≡ x = cc in subst P same holds

-- a standing answers the masks of its own member
pub stands_so : (s : Record) (user channel : ℕ) (st : Standing) (answer : Option ℕ) → IsStandingOf s user st
    → is_some answer ≡ has_id channel_id channel st.channels → IfSome answer (λ mask. (b : ℕ) → b < 53 → has_bit mask b ≡ granted st channel b)
    → IsMaskIn s user channel answer
stands_so s user channel st answer is there bits = record {
  there = there ∙ ap (λ (st : Standing). has_id channel_id channel st.channels) is.is;
  bits = λ mask answered b below.
      if_some (λ mask. (b : ℕ) → b < 53 → has_bit mask b ≡ granted st channel b) answer bits mask answered b below
      ∙ (ap (λ (st : Standing). granted st channel b) is.is ∙ granted_member s user channel is.me b is.found);
}
