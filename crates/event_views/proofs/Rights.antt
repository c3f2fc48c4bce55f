-- A change of permissions: the plain event, and the sync where one is due.
use Rattle.std.proofs.Common.{◌≡◌, ℕ, true, false, List, [], ◌∷◌, Some, if◌then◌else◌, refl, sym, ap, subst, ◌∙◌}
use Rattle.std.specs.Prelude.{All, option_to_list}
use Rattle.std.proofs.lemmas.List.Elements.{All-nil}
use Rattle.perm_bits.specs.Bits.{has_bit}
use Rattle.intent_set.specs.Intents.{guilds}
use Rattle.guild_model.specs.declared.member.Member.{Member}
use Rattle.guild_model.specs.Record.{Record}
use Rattle.guild_model.specs.Ascending.{IsWell}
use Rattle.dispatch_types.specs.declared.viewer.Viewer.{Viewer}
use Rattle.dispatch_types.specs.declared.view.GuildView.TheVariants.{Open}
use Rattle.dispatch_types.specs.declared.view.OpenView.{OpenView}
use Rattle.dispatch_types.specs.declared.dispatch.Dispatch.{Dispatch}
use Rattle.dispatch_types.specs.Projection.{open_view}
use Rattle.dispatch_types.specs.Fold.{Held, on_open, purged, folded, fold_from}
use Rattle.dispatch_types.proofs.Views.{purged-open}
use Rattle.thread_sync.specs.Shown.{Shown, shown_to}
use Rattle.thread_sync.specs.Sync.{threads_in, listing, listing_if_any, gained_parents, list_sync, uncovered_to}
use Rattle.thread_sync.specs.Law.{ChangesRights, told_plainly}
use Rattle.thread_sync.proofs.Synced.{sync_restores}
use Rattle.event_views.specs.Asked.{told_if}
use Rattle.event_views.specs.Synced.{synced}
use Rattle.event_views.specs.Has.{Has}
use Rattle.event_views.proofs.Steps.{turned, IsOf, asked-of}

-- a viewer with GUILDS is told each sync
pub told-sync_if : (before now : Shown) (t : Record) (v : Viewer) (user : ℕ) → has_bit v.intents guilds ≡ true → told_if v (list_sync before now t user) ≡ option_to_list (list_sync before now t user)
told-sync_if before now t v user asks = by_parents (gained_parents before now t)
  where
    by_parents : (ps : List ℕ) → told_if v (listing_if_any now t user ps) ≡ option_to_list (listing_if_any now t user ps)
    by_parents [] = refl
    by_parents (p ∷ ps) = ap (λ b. if b then listing t.id user (p ∷ ps) (threads_in now (p ∷ ps) t.threads) ∷ [] else []) asks

pub sync-of : (before now : Shown) (t : Record) (v : Viewer) (user : ℕ) → All (IsOf t.id) (told_if v (list_sync before now t user))
sync-of before now t v user = by_parents (gained_parents before now t)
  where
    by_parents : (ps : List ℕ) → All (IsOf t.id) (told_if v (listing_if_any now t user ps))
    by_parents [] = All-nil (IsOf t.id)
    by_parents (p ∷ ps) = asked-of t.id v false (listing t.id user (p ∷ ps) (threads_in now (p ∷ ps) t.threads)) refl

module _ (s t : Record) (v : Viewer) (h : Held) (me me' : Member) (well : IsWell s) (rights : ChangesRights s t) (user : me'.user.id ≡ me.user.id) (asks : has_bit v.intents guilds ≡ true) where
  -- what is held after the plain event, whatever told it
  after_sync : (k : Held) → k.bot ≡ v.user → k.view ≡ Some (Open (purged v.intents s.id (told_plainly s me t me' v.intents k.known)))
      → Has t v me' (fold_from v.intents s.id k (synced s me t me' v))
  after_sync k bot view =
      let plain : k.view ≡ Some (Open (purged v.intents t.id (told_plainly s me t me' v.intents k.known))) = view ∙ ap (λ g. Some (Open (purged v.intents g (told_plainly s me t me' v.intents k.known)))) (sym rights.id) in
      let all : fold_from v.intents s.id k (synced s me t me' v) ≡ record k { view = Some (Open (open_view t v.intents k.known me')) } =
      ap (fold_from v.intents s.id k) (told-sync_if (shown_to s me) (shown_to t me') t v me'.user.id asks)
      ∙ (ap (λ g. fold_from v.intents g k (option_to_list (uncovered_to (shown_to s me) t me'))) (sym rights.id)
      ∙ sync_restores s t me me' v.intents k well rights user plain) in
      subst (λ (held : Held). Has t v me' held) (sym all) (record { bot = bot; view = refl })

  -- the event is told
  pub follows-rights : (d : Dispatch) (f : OpenView → OpenView) (k : List ℕ → List ℕ) → folded v.intents s.id h d ≡ turned v.intents s.id f k h
      → f (open_view s v.intents h.known me) ≡ told_plainly s me t me' v.intents (k h.known)
      → Has s v me h → Has t v me' (fold_from v.intents s.id (folded v.intents s.id h d) (synced s me t me' v))
  follows-rights d f k makes turns has =
      subst (λ (held : Held). Has t v me' (fold_from v.intents s.id held (synced s me t me' v))) (sym makes)
      (after_sync (turned v.intents s.id f k h) has.bot
      (ap (λ o. on_open (purged v.intents s.id) (on_open f o)) has.view ∙ ap (λ (w : OpenView). Some (Open (purged v.intents s.id w))) turns))

  -- it is not told, and changes nothing of what is held but the threads
  pub follows-unsaid : open_view s v.intents h.known me ≡ told_plainly s me t me' v.intents h.known
      → Has s v me h → Has t v me' (fold_from v.intents s.id h (synced s me t me' v))
  follows-unsaid turns has =
      after_sync h has.bot
      (has.view ∙ (ap (λ (w : OpenView). Some (Open w)) (sym (purged-open s v.intents h.known me)) ∙ ap (λ (w : OpenView). Some (Open (purged v.intents s.id w))) turns))
