-- Kinds and their names.
use Rattle.std.proofs.Common.{◌≡◌, ℕ, Bool, true, false, cond, List, [], ◌∷◌, Option, Some, refl}
use Rattle.std.specs.List.{find}
use Rattle.std.specs.Str.{bytes_eq}
use Rattle.std.proofs.lemmas.Slice.Eq.{bytes_eq-Decides}
use Rattle.intent_set.specs.declared.kind.Kind.{Kind}
use Rattle.intent_set.specs.declared.kind.Kind.TheVariants.{Ready, Resumed, GuildCreate, GuildUpdate, GuildDelete, GuildRoleCreate, GuildRoleUpdate, GuildRoleDelete, ChannelCreate, ChannelUpdate, ChannelDelete, ThreadCreate, ThreadUpdate, ThreadDelete, ThreadListSync, ThreadMembersUpdate, GuildMemberAdd, GuildMemberUpdate, GuildMemberRemove, GuildMembersChunk, VoiceStateUpdate, PresenceUpdate, MessageCreate, MessageUpdate, MessageDelete, MessageReactionAdd, MessageReactionRemove, TypingStart}
use Rattle.intent_set.specs.Kind.{name_of, kinds, kind_of}

-- a kind's name is read back as that kind
pub kind_of-name_of : (k : Kind) → kind_of (name_of k) ≡ Some k
unfolding kind_of
kind_of-name_of Ready = refl
kind_of-name_of Resumed = refl
kind_of-name_of GuildCreate = refl
kind_of-name_of GuildUpdate = refl
kind_of-name_of GuildDelete = refl
kind_of-name_of GuildRoleCreate = refl
kind_of-name_of GuildRoleUpdate = refl
kind_of-name_of GuildRoleDelete = refl
kind_of-name_of ChannelCreate = refl
kind_of-name_of ChannelUpdate = refl
kind_of-name_of ChannelDelete = refl
kind_of-name_of ThreadCreate = refl
kind_of-name_of ThreadUpdate = refl
kind_of-name_of ThreadDelete = refl
kind_of-name_of ThreadListSync = refl
kind_of-name_of ThreadMembersUpdate = refl
kind_of-name_of GuildMemberAdd = refl
kind_of-name_of GuildMemberUpdate = refl
kind_of-name_of GuildMemberRemove = refl
kind_of-name_of GuildMembersChunk = refl
kind_of-name_of VoiceStateUpdate = refl
kind_of-name_of PresenceUpdate = refl
kind_of-name_of MessageCreate = refl
kind_of-name_of MessageUpdate = refl
kind_of-name_of MessageDelete = refl
kind_of-name_of MessageReactionAdd = refl
kind_of-name_of MessageReactionRemove = refl
kind_of-name_of TypingStart = refl

first_passes : (p : Kind → Bool) (x y : Kind) (rest : Option Kind) (b : Bool) → p y ≡ b → cond b (Some y) rest ≡ Some x → (rest ≡ Some x → p x ≡ true) → p x ≡ true
first_passes p x y rest true passes found later = cc
first_passes p x y rest false fails found later = later found

find_passes : (p : Kind → Bool) (ks : List Kind) (x : Kind) → find p ks ≡ Some x → p x ≡ true
find_passes p [] x found = cc
find_passes p (y ∷ ks) x found = first_passes p x y (find p ks) (p y) refl found (find_passes p ks x)

-- a text that is read as a kind is its name
pub name_of-kind_of : (name : List ℕ) (k : Kind) → kind_of name ≡ Some k → name ≡ name_of k
unfolding kind_of
name_of-kind_of name k found =
    (bytes_eq-Decides name (name_of k)).0 (find_passes (λ k. bytes_eq name (name_of k)) kinds k found)
