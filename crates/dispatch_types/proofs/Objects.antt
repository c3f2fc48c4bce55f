-- What is sent of a part of a record brings that part back.
use Rattle.std.proofs.Common.{◌≡◌, ℕ, List, [], ◌++◌, map, refl, ap, ◌∙◌}
use Rattle.std.specs.Prelude.{All}
use Rattle.std.specs.List.{filter_map}
use Rattle.std.proofs.lemmas.List.{append-nil}
use Rattle.std.proofs.lemmas.List.Elements.{filter_map-append, All-weaker}
use Rattle.collections.specs.ById.{put_all, IsById}
use Rattle.collections.proofs.Mapped.{put_all-nil, map-undone, filter_map-undone, filter_map-none}
use Rattle.guild_model.specs.declared.channel.Channel.{Channel}
use Rattle.guild_model.specs.declared.channel.Overwrite.{Overwrite}
use Rattle.guild_model.specs.declared.channel.Overwrites.{Overwrites}
use Rattle.guild_model.specs.declared.member.Member.{Member}
use Rattle.guild_model.specs.declared.voice.Voice.{Voice}
use Rattle.guild_model.specs.declared.presence.Presence.{Presence}
use Rattle.guild_model.specs.Record.{own_id, overwrite_id}
use Rattle.guild_model.specs.Ascending.{HasOrderedOverwrites, HoldsInOrder}
use Rattle.guild_model.specs.declared.channel.OverwriteKind.TheVariants as overwrite
use Rattle.dispatch_types.specs.Objects.{overwrite_object, overwrite_objects, role_overwrite, member_overwrite, overwrites_of, channel_object, channel_of, member_object, member_of, voice_object, voice_of, presence_object, presence_of}

-- overwrites and channels
role-overwrites-back : (rs ms : List Overwrite) → filter_map role_overwrite (map (overwrite_object overwrite.Role) rs ++ map (overwrite_object overwrite.Member) ms) ≡ rs
role-overwrites-back rs ms =
    let own : filter_map role_overwrite (map (overwrite_object overwrite.Role) rs) ≡ rs = filter_map-undone (overwrite_object overwrite.Role) role_overwrite (λ o. refl) rs in
    let none : filter_map role_overwrite (map (overwrite_object overwrite.Member) ms) ≡ [] = filter_map-none (overwrite_object overwrite.Member) role_overwrite (λ o. refl) ms in
    filter_map-append role_overwrite (map (overwrite_object overwrite.Role) rs) (map (overwrite_object overwrite.Member) ms) ∙ rw (own, none) (append-nil rs)

member-overwrites-back : (rs ms : List Overwrite) → filter_map member_overwrite (map (overwrite_object overwrite.Role) rs ++ map (overwrite_object overwrite.Member) ms) ≡ ms
member-overwrites-back rs ms =
    let none : filter_map member_overwrite (map (overwrite_object overwrite.Role) rs) ≡ [] = filter_map-none (overwrite_object overwrite.Role) member_overwrite (λ o. refl) rs in
    let own : filter_map member_overwrite (map (overwrite_object overwrite.Member) ms) ≡ ms = filter_map-undone (overwrite_object overwrite.Member) member_overwrite (λ o. refl) ms in
    filter_map-append member_overwrite (map (overwrite_object overwrite.Role) rs) (map (overwrite_object overwrite.Member) ms) ∙ rw (none, own) refl

pub overwrites-back : (os : Overwrites) → IsById overwrite_id os.roles → IsById overwrite_id os.members → overwrites_of (overwrite_objects os) ≡ os
overwrites-back os roles members =
    let rs : put_all overwrite_id [] (filter_map role_overwrite (overwrite_objects os)) ≡ os.roles = ap (put_all overwrite_id []) (role-overwrites-back os.roles os.members) ∙ put_all-nil overwrite_id os.roles roles in
    let ms : put_all overwrite_id [] (filter_map member_overwrite (overwrite_objects os)) ≡ os.members = ap (put_all overwrite_id []) (member-overwrites-back os.roles os.members) ∙ put_all-nil overwrite_id os.members members in
    let both : List Overwrite → List Overwrite → Overwrites = λ r m. record { roles = r; members = m } in
    ap (λ r. both r (put_all overwrite_id [] (filter_map member_overwrite (overwrite_objects os)))) rs ∙ ap (λ m. both os.roles m) ms

pub channel-back : (guild : ℕ) (c : Channel) → HasOrderedOverwrites c → channel_of (channel_object guild c) ≡ c
channel-back guild c h = ap (λ (os : Overwrites). record c { overwrites = os }) (overwrites-back c.overwrites h.roles h.members)

pub channels-back : (guild : ℕ) (cs : List Channel) → All HasOrderedOverwrites cs → map channel_of (map (channel_object guild) cs) ≡ cs
channels-back guild cs h = map-undone (channel_object guild) channel_of cs (All-weaker HasOrderedOverwrites (λ c. channel_of (channel_object guild c) ≡ c) (channel-back guild) cs h)

-- members
pub member-back : (m : Member) → IsById own_id m.roles → member_of (member_object m) ≡ m
member-back m h = ap (λ (roles : List ℕ). record m { roles = roles }) (put_all-nil own_id m.roles h)

pub members-back : (ms : List Member) → All HoldsInOrder ms → map member_of (map member_object ms) ≡ ms
members-back ms h = map-undone member_object member_of ms (All-weaker HoldsInOrder (λ m. member_of (member_object m) ≡ m) member-back ms h)

-- voice states and presences
pub voices-back : (vs : List Voice) → filter_map voice_of (map voice_object vs) ≡ vs
voices-back = filter_map-undone voice_object voice_of (λ v. refl)

pub presences-back : (guild : ℕ) (ps : List Presence) → filter_map presence_of (map (presence_object guild) ps) ≡ ps
presences-back guild = filter_map-undone (presence_object guild) presence_of (λ p. refl)
