-- Channels that are gained: a client is told each, and the voice states in it.
use Rattle.std.proofs.Common.{◌≡◌, ℕ, Bool, true, false, ◌||◌, List, [], ◌∷◌, ◌++◌, Some, if◌then◌else◌, refl, sym, ap, ◌∙◌, arith}
use Rattle.std.specs.Prelude.{◌==◌, All, filter, flat_map}
use Rattle.std.proofs.lemmas.Bool.Decides.{nat_tests}
use Rattle.std.proofs.lemmas.List.Elements.{All-head, All-tail, All-weaker}
use Rattle.collections.specs.ById.{find_id, has_id, put_id, put_all}
use Rattle.perm_bits.specs.Bits.{has_bit}
use Rattle.intent_set.specs.Intents.{guilds, guild_voice_states}
use Rattle.guild_model.specs.declared.channel.Channel.{Channel}
use Rattle.guild_model.specs.declared.voice.Voice.{Voice}
use Rattle.guild_model.specs.Record.{Record, channel_id, voice_id, speaks_in}
use Rattle.guild_model.specs.Ascending.{HasOrderedOverwrites}
use Rattle.dispatch_types.specs.declared.viewer.Viewer.{Viewer}
use Rattle.dispatch_types.specs.declared.dispatch.Dispatch.{Dispatch}
use Rattle.dispatch_types.specs.declared.dispatch.Dispatch.TheVariants.{ChannelCreate, VoiceStateUpdate}
use Rattle.dispatch_types.specs.declared.view.GuildView.TheVariants.{Open}
use Rattle.dispatch_types.specs.declared.view.OpenView.{OpenView}
use Rattle.dispatch_types.specs.declared.view.ThreadView.{ThreadView}
use Rattle.dispatch_types.specs.Objects.{channel_object, voice_object}
use Rattle.dispatch_types.specs.Projection.{listed}
use Rattle.dispatch_types.specs.Fold.{Held, purged, folded, fold_from}
use Rattle.dispatch_types.proofs.Objects.{channel-back}
use Rattle.event_views.proofs.Steps.{fold-append}
use Rattle.channel_privacy.proofs.Only.{shows_channel, shows_voice, shows_thread, only}
use Rattle.channel_privacy.specs.Withheld.{voice_there, gained}
use Rattle.channel_privacy.proofs.Filters.{filter-alike_in, put-also, put_all-also}
use Rattle.channel_privacy.proofs.Part.{IsOrdered, purged-only}
use Rattle.channel_privacy.proofs.Steps.{folded-open}
use Rattle.channel_privacy.proofs.Lost.{same-lists}

-- these channels besides
abbrev pub also : (ℕ → Bool) → ℕ → ℕ → Bool
also shown channel id = shown id || (id == channel)

abbrev pub plus : (ℕ → Bool) → List Channel → ℕ → Bool
plus shown [] = shown
plus shown (c ∷ cs) = plus (also shown c.id) cs

pub plus-has : (shown : ℕ → Bool) (cs : List Channel) (id : ℕ) → plus shown cs id ≡ (shown id || has_id channel_id id cs)
plus-has shown [] id = grind arith
plus-has shown (c ∷ cs) id = let rest = plus-has (also shown c.id) cs id in grind (arith, nat_tests, rest)

-- a channel of the view, with its overwrites in order
pub record IsOfView (y : OpenView) (c : Channel) : Type 0 where
  pub there : find_id channel_id c.id y.channels ≡ Some c
  pub overwrites : HasOrderedOverwrites c

module _ (t : Record) (v : Viewer) where
  -- voice states are put one by one
  speaks : (xs : List Voice) (h : Held) (w : OpenView) → has_bit v.intents guild_voice_states ≡ true → h.view ≡ Some (Open w) → purged v.intents t.id w ≡ w
      → fold_from v.intents t.id h (flat_map (voice_there t v) xs) ≡ record h { view = Some (Open (record w { voices = put_all voice_id w.voices xs })) }
  speaks [] h w asks holds settled = ap (λ o. record h { view = o }) holds
  speaks (x ∷ xs) h w asks holds settled =
      ap (λ (b : Bool). fold_from v.intents t.id h ((if b then update ∷ [] else []) ++ flat_map (voice_there t v) xs)) asks
      ∙ (ap (λ k. fold_from v.intents t.id k (flat_map (voice_there t v) xs)) put
      ∙ speaks xs (record h { view = Some (Open (record w { voices = put_id voice_id x w.voices })) }) (record w { voices = put_id voice_id x w.voices }) asks refl stays)
    where
      update : Dispatch
      update = VoiceStateUpdate (record { guild = t.id; voice = voice_object x })

      stays : purged v.intents t.id (record w { voices = put_id voice_id x w.voices }) ≡ record w { voices = put_id voice_id x w.voices }
      stays = ap (λ (z : OpenView). record z { voices = put_id voice_id x w.voices }) settled

      put : folded v.intents t.id h update ≡ record h { view = Some (Open (record w { voices = put_id voice_id x w.voices })) }
      put = folded-open v.intents t.id h w update holds refl refl ∙ ap (λ (z : OpenView). record h { view = Some (Open z) }) stays

  module _ (y : OpenView) (asks : has_bit v.intents guilds ≡ true) (order : IsOrdered y) (settled : purged v.intents t.id y ≡ y) (voices : y.voices ≡ listed v.intents guild_voice_states t.voices) where
    -- a channel with no thread that is held under it
    module _ (shown : ℕ → Bool) (c : Channel) (of_view : IsOfView y c) (bare : All (λ (x : ThreadView). (x.parent == c.id) ≡ false) y.threads) where
      abbrev told : Dispatch
      told = ChannelCreate (channel_object t.id c)

      -- with the channel, and before the voice states in it
      abbrev mid : OpenView
      mid = record (only (also shown c.id) y) { voices = filter (shows_voice shown) y.voices }

      settled_mid : purged v.intents t.id mid ≡ mid
      settled_mid = ap (λ (z : OpenView). record z { voices = filter (shows_voice shown) y.voices }) (sym (purged-only v.intents t.id (also shown c.id) y order) ∙ ap (only (also shown c.id)) settled)

      threads : filter (shows_thread shown) y.threads ≡ filter (shows_thread (also shown c.id)) y.threads
      threads =
          filter-alike_in (shows_thread shown) (shows_thread (also shown c.id)) y.threads
          (All-weaker (λ (x : ThreadView). (x.parent == c.id) ≡ false) (λ x. shown x.parent ≡ (shown x.parent || (x.parent == c.id))) (λ x e. grind (arith, e)) y.threads bare)

      comes : (h : Held) → folded v.intents t.id (record h { view = Some (Open (only shown y)) }) told ≡ record h { view = Some (Open mid) }
      comes h =
          folded-open v.intents t.id (record h { view = Some (Open (only shown y)) }) (only shown y) told refl refl refl
          ∙ ap (λ (z : OpenView). record h { view = Some (Open z) }) (ap (purged v.intents t.id) (same-lists y (ap (λ x. put_id channel_id x (filter (shows_channel shown) y.channels)) (channel-back t.id c of_view.overwrites) ∙ put-also channel_id (shows_channel shown) c y.channels order.channels of_view.there) refl threads) ∙ settled_mid)

      all_voices : (h : Held) (b : Bool) → has_bit v.intents guild_voice_states ≡ b
          → fold_from v.intents t.id (record h { view = Some (Open mid) }) (flat_map (voice_there t v) (filter (speaks_in c.id) t.voices)) ≡ record h { view = Some (Open (only (also shown c.id) y)) }
      all_voices h true e =
          speaks (filter (speaks_in c.id) t.voices) (record h { view = Some (Open mid) }) mid e refl settled_mid
          ∙ ap (λ (xs : List Voice). record h { view = Some (Open (record (only (also shown c.id) y) { voices = xs })) })
          (ap (λ (xs : List Voice). put_all voice_id (filter (shows_voice shown) y.voices) (filter (speaks_in c.id) xs)) (sym (voices ∙ ap (λ b. if b then t.voices else []) e))
          ∙ put_all-also voice_id (shows_voice shown) (speaks_in c.id) y.voices order.voices)
      all_voices h false e =
          silent (filter (speaks_in c.id) t.voices) ∙ ap (λ (xs : List Voice). record h { view = Some (Open (record (only (also shown c.id) y) { voices = xs })) }) (none y.voices (voices ∙ ap (λ b. if b then t.voices else []) e))
        where
          silent : (xs : List Voice) → fold_from v.intents t.id (record h { view = Some (Open mid) }) (flat_map (voice_there t v) xs) ≡ record h { view = Some (Open mid) }
          silent [] = refl
          silent (x ∷ xs) = ap (λ (b : Bool). fold_from v.intents t.id (record h { view = Some (Open mid) }) ((if b then VoiceStateUpdate (record { guild = t.id; voice = voice_object x }) ∷ [] else []) ++ flat_map (voice_there t v) xs)) e ∙ silent xs

          none : (xs : List Voice) → xs ≡ [] → filter (shows_voice shown) xs ≡ filter (shows_voice (also shown c.id)) xs
          none [] e = refl
          none (x ∷ xs) e = absurd (cc)

      gains-one : (h : Held) → fold_from v.intents t.id (record h { view = Some (Open (only shown y)) }) (gained t v c) ≡ record h { view = Some (Open (only (also shown c.id) y)) }
      gains-one h =
          ap (λ (b : Bool). fold_from v.intents t.id (record h { view = Some (Open (only shown y)) }) ((if b then told ∷ [] else []) ++ flat_map (voice_there t v) (filter (speaks_in c.id) t.voices))) asks
          ∙ (ap (λ k. fold_from v.intents t.id k (flat_map (voice_there t v) (filter (speaks_in c.id) t.voices))) (comes h)
          ∙ all_voices h (has_bit v.intents guild_voice_states) refl)

    pub gains-all : (cs : List Channel) (shown : ℕ → Bool) (h : Held) → All (IsOfView y) cs → All (λ (x : ThreadView). has_id channel_id x.parent cs ≡ false) y.threads
        → fold_from v.intents t.id (record h { view = Some (Open (only shown y)) }) (flat_map (gained t v) cs) ≡ record h { view = Some (Open (only (plus shown cs) y)) }
    gains-all [] shown h of_view bare = refl
    gains-all (c ∷ cs) shown h of_view bare =
        fold-append v.intents t.id (record h { view = Some (Open (only shown y)) }) (gained t v c) (flat_map (gained t v) cs)
        ∙ (ap (λ k. fold_from v.intents t.id k (flat_map (gained t v) cs))
        (gains-one shown c (All-head (IsOfView y) c cs of_view) (All-weaker (λ (x : ThreadView). has_id channel_id x.parent (c ∷ cs) ≡ false) (λ x. (x.parent == c.id) ≡ false) first y.threads bare) h)
        ∙ gains-all cs (also shown c.id) h (All-tail (IsOfView y) c cs of_view) (All-weaker (λ (x : ThreadView). has_id channel_id x.parent (c ∷ cs) ≡ false) (λ x. has_id channel_id x.parent cs ≡ false) others y.threads bare))
      where
        first : (x : ThreadView) → has_id channel_id x.parent (c ∷ cs) ≡ false → (x.parent == c.id) ≡ false
        first x e = grind (arith, nat_tests, e)

        others : (x : ThreadView) → has_id channel_id x.parent (c ∷ cs) ≡ false → has_id channel_id x.parent cs ≡ false
        others x e = grind (arith, nat_tests, e)
