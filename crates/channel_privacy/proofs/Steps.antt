-- A dispatch that tells of shown channels alone, to one that holds the part that stands in them; and one that is
-- not told, since it is of a channel that is not shown.
use Rattle.std.proofs.Common.{◌≡◌, ℕ, Bool, true, false, not, List, Option, Some, None, if◌then◌else◌, refl, sym, ap, ◌∙◌}
use Rattle.std.specs.Prelude.{◌==◌, filter, option_map}
use Rattle.std.proofs.lemmas.Bool.{eqb-true}
use Rattle.collections.specs.ById.{find_id, put_id, keep_if}
use Rattle.collections.proofs.Finds.{key-found}
use Rattle.collections.proofs.Filters.{filter-put_hidden, filter-without_hidden}
use Rattle.collections.proofs.Mapped.{filter-all}
use Rattle.guild_model.specs.declared.channel.Channel.{Channel}
use Rattle.guild_model.specs.declared.voice.Voice.{Voice}
use Rattle.guild_model.specs.Record.{channel_id, voice_id}
use Rattle.dispatch_types.specs.declared.channels.ChannelObject.{ChannelObject}
use Rattle.dispatch_types.specs.declared.presences.VoiceObject.{VoiceObject}
use Rattle.dispatch_types.specs.declared.presences.VoiceStateUpdate.{VoiceStateUpdate as VoiceUpdate}
use Rattle.dispatch_types.specs.declared.dispatch.Dispatch.{Dispatch}
use Rattle.dispatch_types.specs.declared.dispatch.Dispatch.TheVariants.{GuildCreate, GuildDelete, ChannelCreate, ChannelUpdate, ChannelDelete, VoiceStateUpdate}
use Rattle.dispatch_types.specs.declared.view.GuildView.{GuildView}
use Rattle.dispatch_types.specs.declared.view.GuildView.TheVariants.{Open}
use Rattle.dispatch_types.specs.declared.view.OpenView.{OpenView}
use Rattle.dispatch_types.specs.declared.view.ThreadView.{ThreadView}
use Rattle.dispatch_types.specs.Objects.{channel_of, voice_in, voice_of}
use Rattle.dispatch_types.specs.GuildOf.{guild_of}
use Rattle.dispatch_types.specs.Fold.{Held, on_open, set_channel, drop_channel, set_voice, open_after, view_after, known_after, after, leaves_over, purged, purge, folded}
use Rattle.dispatch_types.proofs.Folds.{folded-here, folded-over}
use Rattle.channel_privacy.proofs.Only.{shows_channel, shows_voice, shows_thread, only, held_only}
use Rattle.channel_privacy.proofs.Filters.{filter-either, put-unseen}
use Rattle.channel_privacy.proofs.Part.{IsOrdered, purged-only}
use Rattle.channel_privacy.proofs.Tells.{TellsShown, ordered-after, open-only, end-voice}

-- a dispatch that changes an open view, and neither brings nor takes one
abbrev pub changes : Dispatch → Bool
changes (GuildCreate create) = false
changes (GuildDelete delete) = false
changes d = true

-- what a list is left when a test takes away none of what another lets through
filter-needless : {T : Type 0} (p q : T → Bool) → ((x : T) → p x ≡ true → q x ≡ true) → (xs : List T) → filter p (filter q xs) ≡ filter p xs
filter-needless p q passes xs = filter-either p q (λ x. true) passes xs ∙ filter-all (λ x. true) (λ x. refl) (filter p xs)

-- what is not shown is not the one that is
not-same : (shown : ℕ → Bool) (hidden id : ℕ) → shown hidden ≡ false → shown id ≡ true → not (id == hidden) ≡ true
not-same shown hidden id hides shows = by_test (id == hidden) refl
  where
    by_test : (b : Bool) → (id == hidden) ≡ b → not b ≡ true
    by_test true e = let at : id ≡ hidden = eqb-true id hidden e in absurd (cc)
    by_test false e = refl

module _ (intents g : ℕ) where
  -- what a dispatch of the guild makes of an open view
  abbrev pub stepped : ℕ → Dispatch → OpenView → OpenView
  stepped bot d v = if leaves_over d then open_after intents bot d v else purged intents g (open_after intents bot d v)

  changed-view : (bot : ℕ) (d : Dispatch) (o : Option GuildView) → changes d ≡ true → view_after intents bot d o ≡ on_open (open_after intents bot d) o
  changed-view bot (GuildCreate create) o is = absurd (cc)
  changed-view bot (GuildDelete delete) o is = absurd (cc)
  changed-view bot d o is = refl

  pub folded-open : (h : Held) (v : OpenView) (d : Dispatch) → h.view ≡ Some (Open v) → guild_of d ≡ Some g → changes d ≡ true
      → folded intents g h d ≡ record { bot = h.bot; view = Some (Open (stepped h.bot d v)); known = known_after d h.known }
  folded-open h v d holds of is = by_purge (leaves_over d) refl
    where
      turned : after intents d h ≡ record { bot = h.bot; view = Some (Open (open_after intents h.bot d v)); known = known_after d h.known }
      turned = ap (λ (o : Option GuildView). record { bot = h.bot; view = o; known = known_after d h.known }) (changed-view h.bot d h.view is ∙ ap (on_open (open_after intents h.bot d)) holds)

      by_purge : (b : Bool) → leaves_over d ≡ b → folded intents g h d ≡ record { bot = h.bot; view = Some (Open (if b then open_after intents h.bot d v else purged intents g (open_after intents h.bot d v))); known = known_after d h.known }
      by_purge true e = folded-over intents g h d of e ∙ turned
      by_purge false e = folded-here intents g h d of e ∙ ap (purge intents g) turned

  module _ (shown : ℕ → Bool) where
    stepped-only : (bot : ℕ) (d : Dispatch) (v : OpenView) → IsOrdered v → TellsShown shown v d → only shown (stepped bot d v) ≡ stepped bot d (only shown v)
    stepped-only bot d v order told = by_purge (leaves_over d)
      where
        by_purge : (b : Bool) → only shown (if b then open_after intents bot d v else purged intents g (open_after intents bot d v)) ≡ (if b then open_after intents bot d (only shown v) else purged intents g (open_after intents bot d (only shown v)))
        by_purge true = open-only intents bot shown v order d told
        by_purge false = purged-only intents g shown (open_after intents bot d v) (ordered-after intents bot v order d) ∙ ap (purged intents g) (open-only intents bot shown v order d told)

    -- the part of what is held after a dispatch is what the part becomes
    pub folded-only : (h : Held) (v : OpenView) (d : Dispatch) → h.view ≡ Some (Open v) → IsOrdered v → TellsShown shown v d → guild_of d ≡ Some g → changes d ≡ true
        → held_only shown (folded intents g h d) ≡ folded intents g (held_only shown h) d
    folded-only h v d holds order told of is =
        ap (held_only shown) (folded-open h v d holds of is)
        ∙ (ap (λ (w : OpenView). record { bot = h.bot; view = Some (Open w); known = known_after d h.known }) (stepped-only h.bot d v order told)
        ∙ sym (folded-open (held_only shown h) (only shown v) d (ap (on_open (only shown)) holds) of is))

    -- ---- what is not shown changes nothing of the part

    -- the purge takes nothing of the part
    abbrev pub IsSettled : OpenView → Type 0
    IsSettled v = purged intents g (only shown v) ≡ only shown v

    unseen : (v w : OpenView) → IsOrdered w → IsSettled v → only shown w ≡ only shown v → only shown (purged intents g w) ≡ only shown v
    unseen v w order settled same = purged-only intents g shown w order ∙ (ap (purged intents g) same ∙ settled)

    module _ (bot : ℕ) (v : OpenView) (order : IsOrdered v) (settled : IsSettled v) where
      hidden-channel : (c : Channel) → shown c.id ≡ false → only shown (record v { channels = put_id channel_id c v.channels }) ≡ only shown v
      hidden-channel c hides =
          ap (λ (cs : List Channel). record (only shown v) { channels = cs })
          (filter-put_hidden channel_id (shows_channel shown) c v.channels order.channels hides (none (find_id channel_id c.id v.channels) (λ x e. key-found channel_id c.id v.channels x e)))
        where
          none : (o : Option Channel) → ((x : Channel) → o ≡ Some x → x.id ≡ c.id) → keep_if (shows_channel shown) o ≡ None
          none None at = refl
          none (Some x) at = ap (λ b. if b then Some x else None) (ap shown (at x refl) ∙ hides)

      pub unseen-created : (o : ChannelObject) → shown o.id ≡ false → only shown (stepped bot (ChannelCreate o) v) ≡ only shown v
      unseen-created o hides = unseen v (set_channel o v) (ordered-after intents bot v order (ChannelCreate o)) settled (hidden-channel (channel_of o) hides)

      pub unseen-updated : (o : ChannelObject) → shown o.id ≡ false → only shown (stepped bot (ChannelUpdate o) v) ≡ only shown v
      unseen-updated o hides = unseen v (set_channel o v) (ordered-after intents bot v order (ChannelUpdate o)) settled (hidden-channel (channel_of o) hides)

      pub unseen-deleted : (o : ChannelObject) → shown o.id ≡ false → only shown (stepped bot (ChannelDelete o) v) ≡ only shown v
      unseen-deleted o hides =
          unseen v (drop_channel o.id v) (ordered-after intents bot v order (ChannelDelete o)) settled
          (three (filter-needless (shows_channel shown) (λ c. not (c.id == o.id)) (λ c is. not-same shown o.id c.id hides is) v.channels)
          (filter-needless (shows_voice shown) (λ x. not (x.channel == o.id)) (λ x is. not-same shown o.id x.channel hides is) v.voices)
          (filter-needless (shows_thread shown) (λ t. not (t.parent == o.id)) (λ t is. not-same shown o.id t.parent hides is) v.threads))
        where
          three : {cs cs' : List Channel} {xs xs' : List Voice} {ts ts' : List ThreadView} → cs ≡ cs' → xs ≡ xs' → ts ≡ ts'
              → record v { channels = cs; voices = xs; threads = ts } ≡ record v { channels = cs'; voices = xs'; threads = ts' }
          three {cs = cs} {cs' = cs'} {xs = xs} {xs' = xs'} {ts = ts} {ts' = ts'} a b c =
              ap (λ z. record v { channels = z; voices = xs; threads = ts }) a
              ∙ (ap (λ z. record v { channels = cs'; voices = z; threads = ts }) b
              ∙ ap (λ z. record v { channels = cs'; voices = xs'; threads = z }) c)

      -- a voice state that was not shown and is not
      pub unseen-voice : (o : VoiceObject) → ((c : ℕ) → o.channel ≡ Some c → shown c ≡ false) → keep_if (shows_voice shown) (find_id voice_id o.user v.voices) ≡ None
          → only shown (set_voice o.user (voice_of o) v) ≡ only shown v
      unseen-voice o hides was = by_channel o.channel refl
        where
          by_channel : (c : Option ℕ) → o.channel ≡ c → only shown (set_voice o.user (option_map (voice_in o) c) v) ≡ only shown v
          by_channel None e = ap (λ (xs : List Voice). record (only shown v) { voices = xs }) (filter-without_hidden voice_id (shows_voice shown) o.user v.voices order.voices was)
          by_channel (Some c) e = ap (λ (xs : List Voice). record (only shown v) { voices = xs }) (filter-put_hidden voice_id (shows_voice shown) (voice_in o c) v.voices order.voices (hides c e) was)

      pub unseen-moved : (u : VoiceUpdate) → ((c : ℕ) → u.voice.channel ≡ Some c → shown c ≡ false) → keep_if (shows_voice shown) (find_id voice_id u.voice.user v.voices) ≡ None
          → only shown (stepped bot (VoiceStateUpdate u) v) ≡ only shown v
      unseen-moved u hides was = unseen v (set_voice u.voice.user (voice_of u.voice) v) (ordered-after intents bot v order (VoiceStateUpdate u)) settled (unseen-voice u.voice hides was)

      -- a voice state that was shown and is not: to the part it has ended
      pub seen-ended : (u : VoiceUpdate) (c : ℕ) → u.voice.channel ≡ Some c → shown c ≡ false
          → only shown (set_voice u.voice.user (voice_of u.voice) v) ≡ set_voice u.voice.user None (only shown v)
      seen-ended u c is hides =
          ap (λ (o : Option ℕ). only shown (set_voice u.voice.user (option_map (voice_in u.voice) o) v)) is
          ∙ (ap (λ (xs : List Voice). record (only shown v) { voices = xs }) (put-unseen voice_id (shows_voice shown) (voice_in u.voice c) v.voices order.voices hides)
          ∙ end-voice intents bot shown v order u.voice.user)
