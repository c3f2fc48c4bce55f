-- Every record that edits make is well.
use Rattle.std.proofs.Common.{◌≡◌, ℕ, Bool, true, false, not, List, [], ◌∷◌, Option, Some, None, if◌then◌else◌, refl, sym, subst, arith}
use Rattle.std.specs.Prelude.{◌==◌}
use Rattle.std.proofs.lemmas.Bool.Decides.{nat_tests}
use Rattle.std.proofs.lemmas.List.Elements.{All-nil, All-cons}
use Rattle.collections.specs.ById.{has_id}
use Rattle.guild_model.specs.declared.member.Member.{Member}
use Rattle.guild_model.specs.declared.verdict.Verdict.{Verdict}
use Rattle.guild_model.specs.declared.verdict.Verdict.TheVariants.{NotOpen, AlreadyOpen, Unavailable, UnknownMember}
use Rattle.guild_model.specs.Record.{Record, closed, own_id, member_id}
use Rattle.guild_model.specs.Consistent.{IsConsistent}
use Rattle.guild_model.specs.Ascending.{IsAscending, HasOrderedOverwrites, IsWell, HasInOrder, HoldsInOrder}
use Rattle.guild_model.specs.Tests.{refused_if, first_of, too_long, unknown_member}
use Rattle.guild_model.proofs.Tests.{first_passes, not_refused, passed}
use Rattle.guild_model.proofs.Kept.{renamed, in_outage, withheld, owned}
use Rattle.role_member_edit.specs.Members.{new_member}
use Rattle.role_member_edit.proofs.Well.{well as role_member_well}
use Rattle.channel_edit.specs.ChannelEdits.{channel_verdict}
use Rattle.channel_edit.proofs.Well.{well as channel_well}
use Rattle.thread_edit.specs.ThreadEdits.{thread_verdict}
use Rattle.thread_edit.proofs.Well.{well as thread_well}
use Rattle.voice_presence.specs.VoicePresence.{voice_presence_verdict}
use Rattle.voice_presence.proofs.Well.{well as voice_presence_well}
use Rattle.message_edit.specs.MessageEdits.{message_verdict}
use Rattle.message_edit.proofs.Well.{well as message_well}
use Rattle.role_member_edit.specs.RoleMember.{role_member_verdict}
use Rattle.edit_apply.specs.declared.Edit.{Edit}
use Rattle.edit_apply.specs.declared.Edit.TheVariants as edit
use Rattle.edit_apply.specs.declared.guild.GuildEdit.{GuildEdit}
use Rattle.edit_apply.specs.declared.guild.GuildEdit.TheVariants.{GuildOpen, GuildRename, GuildOwner, GuildOutage, GuildBack, GuildPrivate}
use Rattle.edit_apply.specs.declared.guild.GuildOpen as guild_open
use Rattle.edit_apply.specs.Guilds.{out_of_service, guild_opened, guild_verdict, guild_applied}
use Rattle.edit_apply.specs.Edits.{verdict, applied, after, after_verdict, state_from, KeepsWell, StaysWell}

-- a guild that has just opened
module _ (guild : ℕ) (opens : guild_open.GuildOpen) where
  abbrev first_member : Member
  first_member = new_member opens.owner opens.owner_name false opens.at

  holds_none : (b : Bool) (m : Member) (role : ℕ) → (if b then Some first_member else None) ≡ Some m → has_id own_id role m.roles ≡ true → ⊥
  holds_none true m role e holds =
      let same : first_member ≡ m = cc in
      let none : has_id own_id role first_member.roles ≡ true = subst (λ (m : Member). has_id own_id role m.roles ≡ true) (sym same) holds in
      absurd (cc none)
  holds_none false m role e holds = absurd (cc)

  opened_consistent : IsConsistent (guild_opened (closed guild) opens)
  opened_consistent = record {
    empty = λ e. absurd (cc);
    everyone = λ _. grind (arith, nat_tests);
    owner = λ _. grind (arith, nat_tests);
    held = λ user role m found holds. absurd (holds_none (opens.owner == user) m role found holds);
    overwritten = λ channel role c found there. absurd (cc);
    voices = λ user v found. absurd (cc);
    presences = λ user there. absurd (cc);
    parents = λ thread t found. absurd (cc);
    joined = λ thread user t found there. absurd (cc);
    apart = λ id there. refl;
    message_channels = All-nil _;
  }

  opened_ascending : IsAscending (guild_opened (closed guild) opens)
  opened_ascending = record {
    roles = (tt, tt);
    members = (tt, tt);
    channels = tt;
    threads = tt;
    voices = tt;
    presences = tt;
    held = All-cons HoldsInOrder first_member [] tt (All-nil _);
    overwrites = All-nil HasOrderedOverwrites;
    joined = All-nil HasInOrder;
    messages = record { apart = tt; few = omega arith };
  }

opened_well : (g : Record) (opens : guild_open.GuildOpen) → g.opened ≡ false → IsWell g → IsWell (guild_opened g opens)
opened_well g opens shut w =
    let same : closed g.id ≡ g = sym (w.consistent.empty shut) in
    subst (λ (g : Record). IsWell (guild_opened g opens)) same (record { ascending = opened_ascending g.id opens; consistent = opened_consistent g.id opens })

-- an edit that only a guild in service accepts
in_service_open : (g : Record) (tests : List (Option Verdict)) → first_of (out_of_service g ∷ tests) ≡ None → g.opened ≡ true
in_service_open g tests e = passed g.opened NotOpen (first_passes (refused_if (not g.opened) NotOpen) (refused_if g.outage Unavailable ∷ []) (first_passes (out_of_service g) tests e).0).0

-- the lists are the same
same_lists : (g : Record) (opened outage private : Bool) (name : List ℕ) (owner : ℕ) → IsAscending g → IsAscending (record g { opened = opened; outage = outage; private = private; name = name; owner = owner })
same_lists g opened outage private name owner a = record {
  roles = a.roles;
  members = a.members;
  channels = a.channels;
  threads = a.threads;
  voices = a.voices;
  presences = a.presences;
  held = a.held;
  overwrites = a.overwrites;
  joined = a.joined;
  messages = a.messages;
}

guild_well : (g : Record) (edit : GuildEdit) → IsWell g → guild_verdict g edit ≡ None → IsWell (guild_applied g edit)
guild_well g (GuildOpen opens) w e =
    let first = first_passes (refused_if g.opened AlreadyOpen) (too_long 100 opens.name ∷ too_long 100 opens.owner_name ∷ []) e in
    opened_well g opens (not_refused g.opened AlreadyOpen first.0) w
guild_well g (GuildRename name) w e =
    let is_open = in_service_open g (too_long 100 name ∷ []) e in
    record { ascending = same_lists g g.opened g.outage g.private name g.owner w.ascending; consistent = renamed g is_open w.consistent name }
guild_well g (GuildOwner user) w e =
    let is_open = in_service_open g (unknown_member g user ∷ []) e in
    let rest = first_passes (unknown_member g user) [] (first_passes (out_of_service g) (unknown_member g user ∷ []) e).1 in
    let there = passed (has_id member_id user g.members) UnknownMember rest.0 in
    record { ascending = same_lists g g.opened g.outage g.private g.name user w.ascending; consistent = owned g is_open w.consistent user there }
guild_well g GuildOutage w e =
    let is_open = passed g.opened NotOpen (first_passes (refused_if (not g.opened) NotOpen) (refused_if g.outage Unavailable ∷ []) e).0 in
    record { ascending = same_lists g g.opened true g.private g.name g.owner w.ascending; consistent = in_outage g is_open w.consistent true }
guild_well g GuildBack w e =
    let is_open = passed g.opened NotOpen (first_passes (refused_if (not g.opened) NotOpen) (refused_if (not g.outage) AlreadyOpen ∷ []) e).0 in
    record { ascending = same_lists g g.opened false g.private g.name g.owner w.ascending; consistent = in_outage g is_open w.consistent false }
guild_well g (GuildPrivate private) w e =
    let is_open = passed g.opened NotOpen (first_passes (refused_if (not g.opened) NotOpen) (refused_if g.outage Unavailable ∷ []) e).0 in
    record { ascending = same_lists g g.opened g.outage private g.name g.owner w.ascending; consistent = withheld g is_open w.consistent private }

-- an edit that is not refused
passes : (g : Record) (v : Option Verdict) → first_of (out_of_service g ∷ v ∷ []) ≡ None → (g.opened ≡ true) × (v ≡ None)
passes g v accepted =
    let rest = first_passes v [] (first_passes (out_of_service g) (v ∷ []) accepted).1 in
    (in_service_open g (v ∷ []) accepted, rest.0)

accepted_well : (g : Record) (e : Edit) → IsWell g → verdict g e ≡ None → IsWell (applied g e)
accepted_well g (edit.Guild e) w accepted = guild_well g e w accepted
accepted_well g (edit.RoleMember e) w accepted = let p = passes g (role_member_verdict g e) accepted in role_member_well g e p.0 w p.1
accepted_well g (edit.Channel e) w accepted = let p = passes g (channel_verdict g e) accepted in channel_well g e p.0 w p.1
accepted_well g (edit.Thread e) w accepted = let p = passes g (thread_verdict g e) accepted in thread_well g e p.0 w p.1
accepted_well g (edit.VoicePresence e) w accepted = let p = passes g (voice_presence_verdict g e) accepted in voice_presence_well g e p.0 w p.1
accepted_well g (edit.Message e) w accepted = let p = passes g (message_verdict g e) accepted in message_well g e p.0 w p.1

by_verdict : (g : Record) (edit : Edit) → IsWell g → (v : Option Verdict) → verdict g edit ≡ v → IsWell (after_verdict v g edit)
by_verdict g edit w None e = accepted_well g edit w e
by_verdict g edit w (Some v) e = w

closed_well : (guild : ℕ) → IsWell (closed guild)
closed_well guild = record {
  ascending = record {
    roles = tt;
    members = tt;
    channels = tt;
    threads = tt;
    voices = tt;
    presences = tt;
    held = All-nil HoldsInOrder;
    overwrites = All-nil HasOrderedOverwrites;
    joined = All-nil HasInOrder;
    messages = record { apart = tt; few = omega arith };
  };
  consistent = record {
    empty = λ _. refl;
    everyone = λ e. absurd (cc);
    owner = λ e. absurd (cc);
    held = λ user role m found holds. absurd (cc);
    overwritten = λ channel role c found there. absurd (cc);
    voices = λ user v found. absurd (cc);
    presences = λ user there. absurd (cc);
    parents = λ thread t found. absurd (cc);
    joined = λ thread user t found there. absurd (cc);
    apart = λ id there. refl;
    message_channels = All-nil _;
  };
}

pub keeps : KeepsWell
keeps g edit w = by_verdict g edit w (verdict g edit) refl

stays_from : (g : Record) (edits : List Edit) → IsWell g → IsWell (state_from g edits)
stays_from g [] w = w
stays_from g (edit ∷ edits) w = stays_from (after g edit) edits (keeps g edit w)

pub stays : StaysWell
stays guild edits = stays_from (closed guild) edits (closed_well guild)
