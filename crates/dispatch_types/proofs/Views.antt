-- The view of a record is left as it is by the purge.
use Rattle.std.proofs.Common.{◌≡◌, ℕ, Bool, true, false, List, Option, Some, None, if◌then◌else◌, refl, sym, ap, ◌∙◌}
use Rattle.std.specs.Prelude.{◌&&◌}
use Rattle.std.proofs.lemmas.Bool.{and_parts}
use Rattle.collections.proofs.Mapped.{filter-mapped}
use Rattle.perm_bits.specs.Bits.{has_bit}
use Rattle.intent_set.specs.Intents.{guilds}
use Rattle.guild_model.specs.declared.member.Member.{Member}
use Rattle.guild_model.specs.declared.thread.Thread.{Thread}
use Rattle.guild_model.specs.Record.{Record}
use Rattle.guild_model.specs.Sight.{member_sees}
use Rattle.guild_model.specs.Shown.{shown_part}
use Rattle.dispatch_types.specs.declared.viewer.Viewer.{Viewer}
use Rattle.dispatch_types.specs.declared.view.GuildView.{GuildView}
use Rattle.dispatch_types.specs.declared.view.GuildView.TheVariants.{Unavailable, Open}
use Rattle.dispatch_types.specs.declared.view.OpenView.{OpenView}
use Rattle.dispatch_types.specs.declared.view.ThreadView.{ThreadView}
use Rattle.dispatch_types.specs.Serves.{served}
use Rattle.dispatch_types.specs.Projection.{is_active, thread_view, open_view, shown_view, view_as, projection}
use Rattle.dispatch_types.specs.Fold.{Held, on_open, view_sees, purged, purge}

pub purged-open : (s : Record) (intents : ℕ) (known : List ℕ) (me : Member) → purged intents s.id (open_view s intents known me) ≡ open_view s intents known me
purged-open s intents known me =
    let view : OpenView = open_view s intents known me in
    ap (λ (threads : List ThreadView). record view { threads = threads }) (filter-mapped (thread_view intents me.user.id) (λ t. is_active t && member_sees s me t) (view_sees intents s.id view) seen s.threads)
  where
    seen : (t : Thread) → (is_active t && member_sees s me t) ≡ true → view_sees intents s.id (open_view s intents known me) (thread_view intents me.user.id t) ≡ true
    seen t e = (and_parts (is_active t) (member_sees s me t) e).1

pub purged-projection : (s : Record) (v : Viewer) (known : List ℕ) → on_open (purged v.intents s.id) (projection s v known) ≡ projection s v known
unfolding projection
purged-projection s v known = by_intents (has_bit v.intents guilds)
  where
    by_outage : (me : Member) (outage : Bool) → on_open (purged v.intents s.id) (Some (if outage then Unavailable else Open (shown_view s v.intents known me))) ≡ Some (if outage then Unavailable else Open (shown_view s v.intents known me))
    by_outage me true = refl
    by_outage me false = ap (λ (view : OpenView). Some (Open view)) (purged-open (shown_part s me) v.intents known me)

    by_member : (me : Option Member) → on_open (purged v.intents s.id) (view_as s v.intents known me) ≡ view_as s v.intents known me
    by_member None = refl
    by_member (Some me) = by_outage me s.outage

    by_intents : (asked : Bool) → on_open (purged v.intents s.id) (if asked then view_as s v.intents known (served v s) else None) ≡ (if asked then view_as s v.intents known (served v s) else None)
    by_intents true = by_member (served v s)
    by_intents false = refl

-- what agrees with the record stays
pub purge-stays : (s : Record) (v : Viewer) (h : Held) → h.view ≡ projection s v h.known → purge v.intents s.id h ≡ h
purge-stays s v h agrees =
    let stays : on_open (purged v.intents s.id) h.view ≡ h.view = ap (on_open (purged v.intents s.id)) agrees ∙ (purged-projection s v h.known ∙ sym agrees) in
    ap (λ (view : Option GuildView). record h { view = view }) stays

-- a viewer without GUILDS, or that is not served, holds nothing; one that is served an available guild holds it
module _ (s : Record) (v : Viewer) (known : List ℕ) where
  pub projection-blind : has_bit v.intents guilds ≡ false → projection s v known ≡ None
  unfolding projection
  projection-blind blind = ap (λ b. if b then view_as s v.intents known (served v s) else None) blind

  pub projection-unserved : served v s ≡ None → projection s v known ≡ None
  unfolding projection
  projection-unserved none = ap (λ me. if has_bit v.intents guilds then view_as s v.intents known me else None) none ∙ either (has_bit v.intents guilds)
    where
      nothing : Option GuildView
      nothing = None

      either : (b : Bool) → (if b then nothing else nothing) ≡ nothing
      either true = refl
      either false = refl

  pub projection-open : (me : Member) → has_bit v.intents guilds ≡ true → served v s ≡ Some me → s.outage ≡ false → projection s v known ≡ Some (Open (shown_view s v.intents known me))
  unfolding projection
  projection-open me asks is_served available =
      ap (λ b. if b then view_as s v.intents known (served v s) else None) asks
      ∙ (ap (view_as s v.intents known) is_served ∙ ap (λ b. Some (if b then Unavailable else Open (shown_view s v.intents known me))) available)

  -- in an outage no more than that
  pub projection-out : (me : Member) → has_bit v.intents guilds ≡ true → served v s ≡ Some me → s.outage ≡ true → projection s v known ≡ Some Unavailable
  unfolding projection
  projection-out me asks is_served out =
      ap (λ b. if b then view_as s v.intents known (served v s) else None) asks
      ∙ (ap (view_as s v.intents known) is_served ∙ ap (λ b. Some (if b then Unavailable else Open (shown_view s v.intents known me))) out)
