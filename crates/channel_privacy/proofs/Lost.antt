-- Channels that are lost: a client drops them, with all that stands in them.
use Rattle.std.proofs.Common.{◌≡◌, ℕ, Bool, true, false, not, ◌&&◌, List, [], ◌∷◌, ◌++◌, Some, if◌then◌else◌, refl, sym, ap, ◌∙◌, arith}
use Rattle.std.specs.Prelude.{◌==◌, filter, flat_map, cond, is_some}
use Rattle.std.proofs.lemmas.Bool.{eqb-true}
use Rattle.std.proofs.lemmas.Bool.Decides.{nat_tests}
use Rattle.collections.specs.ById.{find_id, has_id}
use Rattle.collections.proofs.Finds.{IsById-filter}
use Rattle.collections.proofs.Mapped.{filter-all}
use Rattle.perm_bits.specs.Bits.{has_bit}
use Rattle.intent_set.specs.Intents.{guilds}
use Rattle.guild_model.specs.declared.channel.Channel.{Channel}
use Rattle.guild_model.specs.declared.voice.Voice.{Voice}
use Rattle.guild_model.specs.Record.{Record, channel_id, voice_id}
use Rattle.dispatch_types.specs.declared.viewer.Viewer.{Viewer}
use Rattle.dispatch_types.specs.declared.dispatch.Dispatch.{Dispatch}
use Rattle.dispatch_types.specs.declared.dispatch.Dispatch.TheVariants.{ChannelDelete}
use Rattle.dispatch_types.specs.declared.view.GuildView.TheVariants.{Open}
use Rattle.dispatch_types.specs.declared.view.OpenView.{OpenView}
use Rattle.dispatch_types.specs.declared.view.ThreadView.{ThreadView}
use Rattle.dispatch_types.specs.Objects.{channel_object}
use Rattle.dispatch_types.specs.Fold.{Held, thread_view_id, on_open, purged, folded, fold_from}
use Rattle.event_views.specs.Asked.{asked}
use Rattle.channel_privacy.proofs.Only.{shows_channel, shows_voice, shows_thread, only, held_only}
use Rattle.channel_privacy.specs.Withheld.{Showing, is_lost, losses}
use Rattle.thread_sync.proofs.Lists.{filter-alike}
use Rattle.channel_privacy.proofs.Filters.{filter-both}
use Rattle.channel_privacy.proofs.Part.{IsOrdered, purged-only}
use Rattle.channel_privacy.proofs.Steps.{folded-open}

-- views that differ in what stands in channels
pub same-lists : (w : OpenView) {cs cs' : List Channel} {xs xs' : List Voice} {ts ts' : List ThreadView} → cs ≡ cs' → xs ≡ xs' → ts ≡ ts'
    → record w { channels = cs; voices = xs; threads = ts } ≡ record w { channels = cs'; voices = xs'; threads = ts' }
same-lists w {cs = cs} {cs' = cs'} {xs = xs} {xs' = xs'} {ts = ts} {ts' = ts'} a b c =
    ap (λ z. record w { channels = z; voices = xs; threads = ts }) a
    ∙ (ap (λ z. record w { channels = cs'; voices = z; threads = ts }) b
    ∙ ap (λ z. record w { channels = cs'; voices = xs'; threads = z }) c)

-- one part of another
pub only-both : (shown also : ℕ → Bool) (v : OpenView) → only also (only shown v) ≡ only (λ id. shown id && also id) v
only-both shown also v =
    same-lists v (filter-both (shows_channel also) (shows_channel shown) v.channels) (filter-both (shows_voice also) (shows_voice shown) v.voices) (filter-both (shows_thread also) (shows_thread shown) v.threads)

-- the same part
pub only-same : (shown also : ℕ → Bool) → ((id : ℕ) → shown id ≡ also id) → (v : OpenView) → only shown v ≡ only also v
only-same shown also same v =
    same-lists v (filter-alike (shows_channel shown) (shows_channel also) (λ c. same c.id) v.channels) (filter-alike (shows_voice shown) (shows_voice also) (λ x. same x.channel) v.voices) (filter-alike (shows_thread shown) (shows_thread also) (λ t. same t.parent) v.threads)

-- all channels but these
abbrev pub but : List Channel → ℕ → Bool
but [] id = true
but (c ∷ cs) id = not (id == c.id) && but cs id

but-has : (cs : List Channel) (id : ℕ) → but cs id ≡ not (has_id channel_id id cs)
but-has [] id = refl
but-has (c ∷ cs) id = let rest = but-has cs id in grind (arith, nat_tests, rest)

pub has-kept : (p : ℕ → Bool) (cs : List Channel) (id : ℕ) → has_id channel_id id (filter (λ (c : Channel). p c.id) cs) ≡ (has_id channel_id id cs && p id)
has-kept p [] id = refl
has-kept p (c ∷ cs) id = by_tests (c.id == id) (p c.id) (λ e. ap p (eqb-true c.id id e)) refl refl (has-kept p cs id)
  where
    by_tests : (a b : Bool) → ((c.id == id) ≡ true → p c.id ≡ p id) → (c.id == id) ≡ a → p c.id ≡ b
        → has_id channel_id id (filter (λ (c : Channel). p c.id) cs) ≡ (has_id channel_id id cs && p id)
        → has_id channel_id id (cond b (c ∷ filter (λ (c : Channel). p c.id) cs) (filter (λ (c : Channel). p c.id) cs)) ≡ (is_some (if a then Some c else find_id channel_id id cs) && p id)
    by_tests true true at e f rest = ap (λ o. is_some (if o then Some c else find_id channel_id id (filter (λ (c : Channel). p c.id) cs))) e ∙ sym (sym (at e) ∙ f)
    by_tests true false at e f rest = rest ∙ (ap (λ b. has_id channel_id id cs && b) (sym (at e) ∙ f) ∙ (false-and (has_id channel_id id cs) ∙ sym (sym (at e) ∙ f)))
      where
        false-and : (b : Bool) → (b && false) ≡ false
        false-and true = refl
        false-and false = refl
    by_tests false true at e f rest = ap (λ o. is_some (if o then Some c else find_id channel_id id (filter (λ (c : Channel). p c.id) cs))) e ∙ rest
    by_tests false false at e f rest = rest

module _ (s : Record) (v : Viewer) (asks : has_bit v.intents guilds ≡ true) where
  -- one that drops each of these holds what stands in the others
  drops : (cs : List Channel) (h : Held) (w : OpenView) → h.view ≡ Some (Open w) → IsOrdered w → purged v.intents s.id w ≡ w
      → fold_from v.intents s.id h (flat_map (λ (c : Channel). asked v false (ChannelDelete (channel_object s.id c))) cs) ≡ record h { view = Some (Open (only (but cs) w)) }
  drops [] h w holds order settled =
      ap (λ o. record h { view = o }) (holds ∙ ap (λ (z : OpenView). Some (Open z)) (sym (only-all w)))
    where
      only-all : (w : OpenView) → only (λ id. true) w ≡ w
      only-all w = same-lists w (filter-all (λ c. true) (λ c. refl) w.channels) (filter-all (λ x. true) (λ x. refl) w.voices) (filter-all (λ t. true) (λ t. refl) w.threads)
  drops (c ∷ cs) h w holds order settled =
      ap (λ (b : Bool). fold_from v.intents s.id h ((if b then delete ∷ [] else []) ++ rest)) asks
      ∙ (ap (λ k. fold_from v.intents s.id k rest) dropped
      ∙ (drops cs (record h { view = Some (Open (only others w)) }) (only others w) refl ordered stays
      ∙ ap (λ (z : OpenView). record h { view = Some (Open z) }) (only-both others (but cs) w)))
    where
      delete : Dispatch
      delete = ChannelDelete (channel_object s.id c)

      rest : List Dispatch
      rest = flat_map (λ (c : Channel). asked v false (ChannelDelete (channel_object s.id c))) cs

      others : ℕ → Bool
      others id = not (id == c.id)

      ordered : IsOrdered (only others w)
      ordered = record {
        channels = IsById-filter channel_id (shows_channel others) w.channels order.channels;
        voices = IsById-filter voice_id (shows_voice others) w.voices order.voices;
        threads = IsById-filter thread_view_id (shows_thread others) w.threads order.threads;
      }

      stays : purged v.intents s.id (only others w) ≡ only others w
      stays = sym (purged-only v.intents s.id others w order) ∙ ap (only others) settled

      dropped : folded v.intents s.id h delete ≡ record h { view = Some (Open (only others w)) }
      dropped = folded-open v.intents s.id h w delete holds refl refl ∙ ap (λ (z : OpenView). record h { view = Some (Open z) }) stays

  module _ (t : Record) (x : Showing) where
    pub loses : (h : Held) (w : OpenView) → h.view ≡ Some (Open w) → IsOrdered w → purged v.intents s.id w ≡ w
        → fold_from v.intents s.id h (losses s t x v) ≡ held_only (λ id. not (is_lost s t x id)) h
    loses h w holds order settled =
        drops (filter (λ (c : Channel). is_lost s t x c.id) s.channels) h w holds order settled
        ∙ (ap (λ (z : OpenView). record h { view = Some (Open z) }) (only-same (but (filter (λ (c : Channel). is_lost s t x c.id) s.channels)) (λ id. not (is_lost s t x id)) gone w)
        ∙ sym (ap (λ o. record h { view = on_open (only (λ id. not (is_lost s t x id))) o }) holds))
      where
        gone : (id : ℕ) → but (filter (λ (c : Channel). is_lost s t x c.id) s.channels) id ≡ not (is_lost s t x id)
        gone id = but-has (filter (λ (c : Channel). is_lost s t x c.id) s.channels) id ∙ ap (λ b. not b) (has-kept (is_lost s t x) s.channels id ∙ stood (has_id channel_id id s.channels) (has_id channel_id id t.channels) (x.before id && not (x.after id)))
          where
            stood : (a b c : Bool) → (a && ((a && b) && c)) ≡ ((a && b) && c)
            stood true b c = refl
            stood false b c = refl
