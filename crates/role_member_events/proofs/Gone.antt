-- A member that is removed: its presence, its voice state, its threads and itself, one after another.
use Rattle.std.proofs.Common.{◌≡◌, ℕ, Bool, true, false, not, List, [], ◌∷◌, ◌++◌, map, Option, Some, None, if◌then◌else◌, refl, sym, ap, subst, ◌∙◌}
use Rattle.std.specs.Prelude.{◌==◌, is_some, cond}
use Rattle.collections.specs.ById.{find_id, has_id, without_id}
use Rattle.collections.proofs.Finds.{key-found}
use Rattle.perm_bits.specs.Bits.{has_bit}
use Rattle.intent_set.specs.Intents.{guilds}
use Rattle.guild_model.specs.declared.member.Member.{Member}
use Rattle.guild_model.specs.declared.voice.Voice.{Voice}
use Rattle.guild_model.specs.declared.presence.Presence.{Presence}
use Rattle.guild_model.specs.Record.{Record, member_id, voice_id, presence_id}
use Rattle.guild_model.specs.Ascending.{IsAscending}
use Rattle.dispatch_types.specs.declared.viewer.Viewer.{Viewer}
use Rattle.dispatch_types.specs.declared.dispatch.Dispatch.{Dispatch}
use Rattle.dispatch_types.specs.declared.dispatch.Dispatch.TheVariants.{GuildMemberRemove}
use Rattle.dispatch_types.specs.Fold.{Held, fold_from}
use Rattle.role_member_edit.specs.Members.{without_user, member_removed}
use Rattle.event_views.specs.Asked.{asked}
use Rattle.event_views.specs.Has.{Has}
use Rattle.event_views.specs.Threads.{threads_left, user_leaves}
use Rattle.event_views.proofs.Steps.{fold-append}
use Rattle.event_views.proofs.Voices.{follows-voice_gone}
use Rattle.event_views.proofs.Left.{follows-user_left}
use Rattle.voice_presence_events.proofs.Follows.{follows-presence}
use Rattle.role_member_events.specs.Dispatches.{presence_ended, voice_ended, member_ended}
use Rattle.role_member_events.proofs.Membership.{follows-member_gone}

-- a list without one that is not there
without-absent : {T : Type 0} (key : T → ℕ) (id : ℕ) (xs : List T) → find_id key id xs ≡ None → without_id key id xs ≡ xs
without-absent key id [] none = refl
without-absent key id (x ∷ xs) none = by_head (key x == id) none (λ e. without-absent key id xs e)
  where
    by_head : (b : Bool) → (if b then Some x else find_id key id xs) ≡ None → (find_id key id xs ≡ None → without_id key id xs ≡ xs) → cond (not b) (x ∷ without_id key id xs) (without_id key id xs) ≡ x ∷ xs
    by_head true e rest = absurd (cc)
    by_head false e rest = ap (λ ys. x ∷ ys) (rest e)

module _ (s : Record) (v : Viewer) (me x : Member) (ascends : IsAscending s) (own : me.user.id ≡ v.user) (asks : has_bit v.intents guilds ≡ true) where
  abbrev user : ℕ
  user = x.user.id

  abbrev offline : Record
  offline = record s { presences = without_id presence_id user s.presences }

  abbrev silent : Record
  silent = record offline { voices = without_id voice_id user s.voices }

  abbrev outside : Record
  outside = record silent { threads = map (without_user user) s.threads }

  goes-offline : (h : Held) (o : Option Presence) → find_id presence_id user s.presences ≡ o → Has s v me h → Has offline v me (fold_from v.intents s.id h (presence_ended s v user (is_some o)))
  goes-offline h None none has =
      subst (λ (ps : List Presence). Has (record s { presences = ps }) v me h) (sym (without-absent presence_id user s.presences none)) (record { bot = has.bot; view = has.view })
  goes-offline h (Some p) found has = follows-presence s v h me user None has

  leaves-voice : (h : Held) (o : Option Voice) → find_id voice_id user s.voices ≡ o → Has offline v me h → Has silent v me (fold_from v.intents s.id h (voice_ended s v o))
  leaves-voice h None none has =
      subst (λ (vs : List Voice). Has (record offline { voices = vs }) v me h) (sym (without-absent voice_id user s.voices none)) (record { bot = has.bot; view = has.view })
  leaves-voice h (Some voice) found has =
      subst (λ (u : ℕ). Has (record offline { voices = without_id voice_id u s.voices }) v me (fold_from v.intents s.id h (voice_ended s v (Some voice)))) (key-found voice_id user s.voices voice found)
      (follows-voice_gone offline v h me voice false has)

  module _ (after : IsAscending (member_removed s user)) where
    outside-ascends : IsAscending outside
    outside-ascends = record {
      roles = ascends.roles;
      members = ascends.members;
      channels = ascends.channels;
      threads = after.threads;
      voices = after.voices;
      presences = after.presences;
      held = ascends.held;
      overwrites = ascends.overwrites;
      joined = after.joined;
      messages = ascends.messages;
    }

    pub follows-gone : (h : Held) → find_id member_id user s.members ≡ Some x → Has s v me h
        → Has (member_removed s user) v me (fold_from v.intents s.id h (member_ended s me (member_removed s user) v (Some x)))
    follows-gone h found has =
        let first : List Dispatch = presence_ended s v user (has_id presence_id user s.presences) in
        let second : List Dispatch = voice_ended s v (find_id voice_id user s.voices) in
        let third : List Dispatch = user_leaves s.id v user (map (without_user user) s.threads) (threads_left s me user) in
        let last : List Dispatch = asked v (user == v.user) (GuildMemberRemove (record { guild = s.id; user = x.user })) in
        let h1 : Held = fold_from v.intents s.id h first in
        let h2 : Held = fold_from v.intents s.id h1 second in
        let h3 : Held = fold_from v.intents s.id h2 third in
        let has1 : Has offline v me h1 = goes-offline h (find_id presence_id user s.presences) refl has in
        let has2 : Has silent v me h2 = leaves-voice h1 (find_id voice_id user s.voices) refl has1 in
        let has3 : Has outside v me h3 = follows-user_left v me user own asks silent h2 ascends.threads has2 in
        let has4 : Has (member_removed s user) v me (fold_from v.intents s.id h3 last) = follows-member_gone outside v h3 me x x.user outside-ascends found (user == v.user) has3 in
        let all : fold_from v.intents s.id h (first ++ (second ++ (third ++ last))) ≡ fold_from v.intents s.id h3 last =
        fold-append v.intents s.id h first (second ++ (third ++ last))
        ∙ (fold-append v.intents s.id h1 second (third ++ last)
        ∙ fold-append v.intents s.id h2 third last) in
        subst (λ (held : Held). Has (member_removed s user) v me held) (sym all) has4
