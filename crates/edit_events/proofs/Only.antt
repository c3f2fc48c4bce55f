-- Nothing is told of a channel that is not shown.
use Rattle.std.proofs.Common.{◌≡◌, ℕ, Bool, true, false, not, ◌&&◌, ◌||◌, List, [], ◌∷◌, map, Option, Some, None, if◌then◌else◌, refl, sym, ap, subst, ◌∙◌}
use Rattle.std.specs.Prelude.{All, filter, flat_map}
use Rattle.std.specs.Option.{is_none}
use Rattle.std.proofs.lemmas.Bool.{and_parts, eqb-true}
use Rattle.std.proofs.lemmas.List.Elements.{All-nil, All-cons, All-head, All-tail, All-append, All-filter, All-map, All-weaker}
use Rattle.collections.specs.ById.{has_id}
use Rattle.perm_bits.specs.Bits.{has_bit}
use Rattle.intent_set.specs.Intents.{guild_voice_states}
use Rattle.guild_model.specs.declared.channel.Channel.{Channel}
use Rattle.guild_model.specs.declared.member.Member.{Member}
use Rattle.guild_model.specs.declared.verdict.Verdict.{Verdict}
use Rattle.guild_model.specs.declared.voice.Voice.{Voice}
use Rattle.guild_model.specs.Record.{Record, channel_id, speaks_in}
use Rattle.guild_model.specs.Sight.{standing}
use Rattle.dispatch_types.specs.declared.channels.ChannelObject.{ChannelObject}
use Rattle.dispatch_types.specs.declared.presences.VoiceStateUpdate.{VoiceStateUpdate as VoiceUpdate}
use Rattle.dispatch_types.specs.declared.viewer.Viewer.{Viewer}
use Rattle.dispatch_types.specs.declared.dispatch.Dispatch.{Dispatch}
use Rattle.dispatch_types.specs.declared.dispatch.Dispatch.TheVariants as dispatch
use Rattle.dispatch_types.specs.Objects.{channel_object, voice_object}
use Rattle.dispatch_types.specs.Serves.{served}
use Rattle.edit_apply.specs.declared.Edit.{Edit}
use Rattle.edit_apply.specs.declared.Edit.TheVariants as edit
use Rattle.edit_apply.specs.declared.guild.GuildEdit.TheVariants.{GuildOutage, GuildBack}
use Rattle.edit_apply.specs.Edits.{verdict, applied, after_verdict}
use Rattle.message_events.specs.Messages.{is_message}
use Rattle.message_events.specs.Notes.{message_note}
use Rattle.message_events.proofs.Of.{IsMessageOf, all-messages}
use Rattle.whole_events.specs.Dispatches.{whole_dispatches}
use Rattle.guild_model.specs.Shown.{is_shown, channel_shown, voice_shown, shown_channels}
use Rattle.channel_privacy.specs.Withheld.{Showing, left_voice, told_voice, told_shown, is_lost, is_gained, lost, voice_there, gained, is_sync, is_no_sync, withheld}
use Rattle.channel_privacy.specs.Law.{showing}
use Rattle.channel_privacy.proofs.Asked.{asked-all}
use Rattle.channel_privacy.proofs.Follows.{All-passes}
use Rattle.channel_privacy.proofs.Lost.{has-kept}
use Rattle.edit_events.specs.Greeting.{whole_greeting, greeting}
use Rattle.edit_events.specs.Due.{guild_gone, guild_comes, told_of, dispatches, due_to, due_of_accepted, due}
use Rattle.edit_events.specs.Privacy.{IsInOne, TellsOnly, shown_to, EditTellsOnly, GreetingTellsOnly}
use Rattle.edit_events.proofs.Owed.{IsOwed, owed}

-- ---- GUILD_CREATE
pub greeting_tells_only : GreetingTellsOnly
unfolding whole_greeting
greeting_tells_only s v me = (
  All-map (λ (o : ChannelObject). shown o.id ≡ true) (channel_object s.id) (shown_channels s.private s me) (All-passes (channel_shown s.private s me) s.channels),
  by_bit (has_bit v.intents guild_voice_states),
)
  where
    shown : ℕ → Bool
    shown = is_shown s.private (standing s me)

    each : All (IsInOne shown) (map voice_object (filter (voice_shown s.private s me) s.voices))
    each =
        All-map (IsInOne shown) voice_object (filter (voice_shown s.private s me) s.voices)
        (All-weaker (λ (z : Voice). voice_shown s.private s me z ≡ true) (λ (z : Voice). IsInOne shown (voice_object z))
        (λ z is channel at. let same : z.channel ≡ channel = cc in subst (λ (id : ℕ). shown id ≡ true) same is) (filter (voice_shown s.private s me) s.voices) (All-passes (voice_shown s.private s me) s.voices))

    by_bit : (b : Bool) → All (IsInOne shown) (map voice_object (if b then filter (voice_shown s.private s me) s.voices else []))
    by_bit true = each
    by_bit false = All-nil (IsInOne shown)

-- ---- a list where channels are withheld
module _ (s t : Record) (v : Viewer) (x : Showing) (shown : ℕ → Bool) (first : (id : ℕ) → x.before id ≡ true → shown id ≡ true) (then_on : (id : ℕ) → x.after id ≡ true → shown id ≡ true) where
  abbrev P : Dispatch → Type 0
  P = TellsOnly shown

  one-if : (b : Bool) (d : Dispatch) → (b ≡ true → P d) → All P (if b then d ∷ [] else [])
  one-if true d is = All-cons P d [] (is refl) (All-nil P)
  one-if false d is = All-nil P

  voice-only : (u : VoiceUpdate) (o : Option ℕ) → u.voice.channel ≡ o → All P (told_voice x u o)
  voice-only u None none = one-if (x.in_voice u.voice.user) (dispatch.VoiceStateUpdate u) (λ e channel at. absurd (cc))
  voice-only u (Some c) in_one = by_test (x.after c) refl
    where
      by_test : (b : Bool) → x.after c ≡ b → All P (if b then dispatch.VoiceStateUpdate u ∷ [] else (if x.in_voice u.voice.user then left_voice u ∷ [] else []))
      by_test true e = All-cons P (dispatch.VoiceStateUpdate u) [] (λ channel at. let same : c ≡ channel = cc in subst (λ (id : ℕ). shown id ≡ true) same (then_on c e)) (All-nil P)
      by_test false e = one-if (x.in_voice u.voice.user) (left_voice u) (λ f channel at. absurd (cc))

  told-only : (d : Dispatch) → IsOwed d → All P (told_shown x d)
  told-only (dispatch.GuildCreate create) free = absurd (cc)
  told-only (dispatch.ChannelCreate o) free = one-if (x.after o.id) (dispatch.ChannelCreate o) (then_on o.id)
  told-only (dispatch.ChannelUpdate o) free = one-if (x.before o.id && x.after o.id) (dispatch.ChannelUpdate o) (λ e. first o.id (and_parts (x.before o.id) (x.after o.id) e).0)
  told-only (dispatch.ChannelDelete o) free = one-if (x.before o.id) (dispatch.ChannelDelete o) (first o.id)
  told-only (dispatch.VoiceStateUpdate u) free = voice-only u u.voice.channel refl
  told-only d free = All-cons P d [] tt (All-nil P)

  all-told : (ds : List Dispatch) → All IsOwed ds → All P (flat_map (told_shown x) ds)
  all-told [] free = All-nil P
  all-told (d ∷ ds) free = All-append P (told_shown x d) (flat_map (told_shown x) ds) (told-only d (All-head IsOwed d ds free)) (all-told ds (All-tail IsOwed d ds free))

  -- each of some that pass a test
  passing : {T : Type 0} (f : T → List Dispatch) (p : T → Bool) → ((x : T) → p x ≡ true → All P (f x)) → (xs : List T) → All P (flat_map f (filter p xs))
  passing f p fits xs = over (filter p xs) (All-passes p xs)
    where
      over : (ys : List _) → All (λ y. p y ≡ true) ys → All P (flat_map f ys)
      over [] all = All-nil P
      over (y ∷ ys) all = All-append P (f y) (flat_map f ys) (fits y (All-head (λ y. p y ≡ true) y ys all)) (over ys (All-tail (λ y. p y ≡ true) y ys all))

  lost-only : (c : Channel) → is_lost s t x c.id ≡ true → All P (lost s.id v c)
  lost-only c is = asked-all P v false (dispatch.ChannelDelete (channel_object s.id c)) (first c.id (second_first (has_id channel_id c.id s.channels && has_id channel_id c.id t.channels) (x.before c.id) (not (x.after c.id)) is))
    where
      second_first : (a b c : Bool) → (a && (b && c)) ≡ true → b ≡ true
      second_first true true c e = refl
      second_first true false c e = absurd (cc)
      second_first false b c e = absurd (cc)

  gained-only : (c : Channel) → is_gained s t x c.id ≡ true → All P (gained t v c)
  gained-only c is =
      let now : x.after c.id ≡ true = last (has_id channel_id c.id s.channels && has_id channel_id c.id t.channels) (not (x.before c.id)) (x.after c.id) is in
      All-append P _ _ (asked-all P v false (dispatch.ChannelCreate (channel_object t.id c)) (then_on c.id now))
      (passing (voice_there t v) (speaks_in c.id) (λ z there. asked-all P v false (dispatch.VoiceStateUpdate (record { guild = t.id; voice = voice_object z }))
      (λ channel at. let same : z.channel ≡ channel = cc in let here : z.channel ≡ c.id = eqb-true z.channel c.id there in
      subst (λ (id : ℕ). shown id ≡ true) (sym here ∙ same) (then_on c.id now))) t.voices)
    where
      last : (a b c : Bool) → (a && (b && c)) ≡ true → c ≡ true
      last true true true e = refl
      last true true false e = absurd (cc)
      last true false c e = absurd (cc)
      last false b c e = absurd (cc)

  pub withheld-only : (ds : List Dispatch) → All IsOwed ds → All P (withheld s t x v ds)
  withheld-only ds free =
      All-append P _ _ (all-told (filter is_no_sync ds) (All-filter is_no_sync IsOwed ds free))
      (All-append P _ _ (passing (lost s.id v) (λ (c : Channel). is_lost s t x c.id) lost-only s.channels)
      (All-append P _ _ (passing (gained t v) (λ (c : Channel). is_gained s t x c.id) gained-only t.channels) (only_syncs ds)))
    where
      only_syncs : (ds : List Dispatch) → All P (filter is_sync ds)
      only_syncs [] = All-nil P
      only_syncs (d ∷ ds) = by_kind d (only_syncs ds)
        where
          by_kind : (d : Dispatch) → All P (filter is_sync ds) → All P (filter is_sync (d ∷ ds))
          by_kind (dispatch.ThreadListSync sync) rest = All-cons P (dispatch.ThreadListSync sync) (filter is_sync ds) tt rest
          by_kind d rest = rest

-- ---- what is due
or-left : (a b : Bool) → a ≡ true → (a || b) ≡ true
or-left true b e = refl
or-left false b e = absurd (cc)

or-right : (a b : Bool) → b ≡ true → (a || b) ≡ true
or-right true b e = refl
or-right false b e = e

-- more channels may be told of
more : (p q : ℕ → Bool) → ((id : ℕ) → p id ≡ true → q id ≡ true) → (d : Dispatch) → TellsOnly p d → TellsOnly q d
more p q passes (dispatch.GuildCreate create) tells = (All-weaker (λ (o : ChannelObject). p o.id ≡ true) (λ (o : ChannelObject). q o.id ≡ true) (λ o is. passes o.id is) create.channels tells.0, All-weaker (IsInOne p) (IsInOne q) (λ z is channel at. passes channel (is channel at)) create.voices tells.1)
more p q passes (dispatch.ChannelCreate o) tells = passes o.id tells
more p q passes (dispatch.ChannelUpdate o) tells = passes o.id tells
more p q passes (dispatch.ChannelDelete o) tells = passes o.id tells
more p q passes (dispatch.VoiceStateUpdate u) tells = λ channel at. passes channel (tells channel at)
more p q passes d tells = tt

-- a channel that is told of as shown before is
was-shown : (private : Bool) (s : Record) (me : Member) (id : ℕ) → has_id channel_id id (shown_channels private s me) ≡ true → is_shown private (standing s me) id ≡ true
was-shown private s me id e = (and_parts (has_id channel_id id s.channels) (is_shown private (standing s me) id) (sym (has-kept (is_shown private (standing s me)) s.channels id) ∙ e)).1

module _ (s t : Record) (v : Viewer) where
  abbrev either : Option Member → Option Member → ℕ → Bool
  either o o' channel = shown_to s o channel || shown_to t o' channel

  list-only : (me me' : Member) (ds : List Dispatch) → All IsOwed ds → All (TellsOnly (either (Some me) (Some me'))) (withheld s t (showing s.private s me t.private t me') v ds)
  list-only me me' ds free =
      withheld-only s t v (showing s.private s me t.private t me') (either (Some me) (Some me'))
      (λ id e. or-left (is_shown s.private (standing s me) id) (is_shown t.private (standing t me') id) (was-shown s.private s me id e))
      (λ id e. or-right (is_shown s.private (standing s me) id) (is_shown t.private (standing t me') id) e) ds free

  comes-only : (o : Option Member) (me' : Member) → All (TellsOnly (either o (Some me'))) (guild_comes t v me')
  comes-only o me' =
      asked-all (TellsOnly (either o (Some me'))) v false (dispatch.GuildCreate (greeting t v me'))
      (more (is_shown t.private (standing t me')) (either o (Some me')) (λ id e. or-right (shown_to s o id) (is_shown t.private (standing t me') id) e) (dispatch.GuildCreate (greeting t v me')) (greeting_tells_only t v me'))

  gone-only : (o o' : Option Member) (unavailable : Bool) → All (TellsOnly (either o o')) (guild_gone t.id v unavailable)
  gone-only o o' unavailable = asked-all (TellsOnly (either o o')) v false (dispatch.GuildDelete (record { id = t.id; unavailable = unavailable })) tt

  -- where nothing is withheld, all channels are shown
  whole-only : (me me' : Member) (ds : List Dispatch) → All IsOwed ds → s.private ≡ false → All (TellsOnly (either (Some me) (Some me'))) ds
  whole-only me me' ds free shows = All-weaker IsOwed (TellsOnly (either (Some me) (Some me'))) each ds free
    where
      all : (id : ℕ) → either (Some me) (Some me') id ≡ true
      all id = ap (λ b. is_shown b (standing s me) id || is_shown t.private (standing t me') id) shows

      each : (d : Dispatch) → IsOwed d → TellsOnly (either (Some me) (Some me')) d
      each (dispatch.GuildCreate create) free = absurd (cc)
      each (dispatch.ChannelCreate o) free = all o.id
      each (dispatch.ChannelUpdate o) free = all o.id
      each (dispatch.ChannelDelete o) free = all o.id
      each (dispatch.VoiceStateUpdate u) free = λ channel at. all channel
      each d free = tt

  told-only-of : (me me' : Member) (ds : List Dispatch) → All IsOwed ds → (b : Bool) → (s.private || t.private) ≡ b → All (TellsOnly (either (Some me) (Some me'))) (told_of s me t me' v b ds)
  told-only-of me me' ds free true is = list-only me me' ds free
  told-only-of me me' ds free false is = whole-only me me' ds free (first s.private is)
    where
      first : (a : Bool) → (a || t.private) ≡ false → a ≡ false
      first true e = absurd (cc)
      first false e = refl

  -- of messages none tells of a channel
  message-only : (shown : ℕ → Bool) (d : Dispatch) → is_message d ≡ true → TellsOnly shown d
  message-only shown (dispatch.GuildCreate create) is = absurd (cc)
  message-only shown (dispatch.ChannelCreate o) is = absurd (cc)
  message-only shown (dispatch.ChannelUpdate o) is = absurd (cc)
  message-only shown (dispatch.ChannelDelete o) is = absurd (cc)
  message-only shown (dispatch.VoiceStateUpdate u) is = absurd (cc)
  message-only shown d is = tt

  dispatches-only : (me me' : Member) (e : Edit) → All (TellsOnly (either (Some me) (Some me'))) (dispatches s me t me' v e)
  dispatches-only me me' (edit.Guild GuildBack) = comes-only (Some me) me'
  dispatches-only me me' (edit.Guild GuildOutage) = gone-only (Some me) (Some me') true
  dispatches-only me me' (edit.Message e) =
      All-weaker (IsMessageOf t.id) (TellsOnly (either (Some me) (Some me'))) (λ d is. message-only (either (Some me) (Some me')) d is.message) (whole_dispatches s me t me' v (edit.Message e)) (all-messages t v (message_note s e) e)
  dispatches-only me me' e = told-only-of me me' (whole_dispatches s me t me' v e) (owed s me t me' v e tt) (s.private || t.private) refl

  pub due-only : (o o' : Option Member) (e : Edit) → All (TellsOnly (either o o')) (due_to s o t o' v e)
  due-only None None e = All-nil (TellsOnly (either None None))
  due-only None (Some me') e = comes-only None me'
  due-only (Some me) None e = gone-only (Some me) None false
  due-only (Some me) (Some me') e = dispatches-only me me' e

pub edit_tells_only : EditTellsOnly
unfolding due
edit_tells_only s e v = by_verdict (verdict s e)
  where
    by_verdict : (o : Option Verdict) → All (TellsOnly (λ channel. shown_to s (served v s) channel || shown_to (after_verdict o s e) (served v (after_verdict o s e)) channel)) (if is_none o then due_of_accepted s e v else [])
    by_verdict None = due-only s (applied s e) v (served v s) (served v (applied s e)) e
    by_verdict (Some x) = All-nil (TellsOnly (λ channel. shown_to s (served v s) channel || shown_to s (served v s) channel))
