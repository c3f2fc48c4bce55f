-- A look at one hub, as a part of a turn.
use Rattle.std.proofs.Common.{◌≡◌, ℕ, List, [], ◌∷◌, true, Option, slice_get, All, inl, inr, sym, ap, subst, refl, ◌∙◌}
use Rattle.std.specs.List.{list_all, list_any}
use Rattle.gate_outside.specs.Clocks.{ClockTale}
use Rattle.gate_outside.specs.Links.{ReturnedLink}
use Rattle.guild_hub.specs.Sights.{Seeing, has_quit}
use Rattle.worker_core.specs.declared.io.Input.{Input as Given}
use Rattle.worker_run.specs.declared.looks.Seen.{Seen}
use Rattle.worker_run.specs.declared.fault.WorkFault.{WorkFault}
use Rattle.worker_run.specs.declared.fault.WorkFault.TheVariants as fault
use Rattle.worker_run.specs.Histories.{History, Took, inputs}
use Rattle.worker_run.specs.Hubs.{AllRead, IsReader}
use Rattle.guild_places.specs.Places.{guilds_of}
use Rattle.worker_run.specs.Turns.{is_loss}
use Rattle.worker_run.specs.Moves.{Serving, Now, now, IsLookOf, IsLookOfOrNone, Handles, HandlesNot}
use Rattle.worker_run.specs.Parts.{Sees}
use Rattle.worker_run.proofs.Shapes.{one_look}
use Rattle.worker_run.proofs.Turning.{goes_still, halts_after, still_seen, comes_seen, links_seen}
use Rattle.worker_run.proofs.Readying.{goes_handled, stops_handled}
use Rattle.worker_run.proofs.Composing.{Went, Stopped}

module _ (s t : Serving) (same : t ≡ record s { readers = t.readers }) (back : Option (List ReturnedLink)) (noted : Option (List Given)) (clock : ClockTale) where
  abbrev unseen : Now
  unseen = now s back noted clock

  abbrev seen_now : Now
  seen_now = now t back noted clock

  -- memory ran out before anything was seen
  pub look_fails : (guild : Option ℕ) → AllRead [] s.readers t.readers → Stopped (IsLookOfOrNone guild) fault.Memory unseen seen_now
  look_fails guild read = ([], (halts_after [] unseen seen_now (goes_still unseen seen_now (still_seen s t same back noted clock read)), inr refl))

  module _ (place : ℕ) (seen : Seen) (sees : Sees place seen s.readers t.readers) (readers : All IsReader t.readers) (c : Now) where
    abbrev guild : Option ℕ
    guild = slice_get (guilds_of s.readers) place

    shape : (h : History) → list_all is_loss (inputs h) ≡ true → IsLookOf guild (Took sees.input ∷ h)
    shape h losses = one_look sees.input h sees.guild sees.about losses ∙ ap (λ (o : Option ℕ). o ∷ []) (sym sees.at_place)

    pub look_goes : (h : History) → Handles sees.input h seen_now c → Went (IsLookOf guild) unseen c
    look_goes h does =
        goes_handled (IsLookOf guild) sees.input unseen seen_now c (comes_seen s t same back noted clock sees.input sees.guild sees.about sees.reads)
        (links_seen s t same back noted clock sees.input sees.guild sees.about) readers shape h does

    pub look_stops : (f : WorkFault) (h : History) → HandlesNot sees.input h f seen_now c → Stopped (IsLookOfOrNone guild) f unseen c
    look_stops f h does =
        let stopped : Stopped (IsLookOf guild) f unseen c =
        stops_handled (IsLookOf guild) sees.input unseen seen_now c (comes_seen s t same back noted clock sees.input sees.guild sees.about sees.reads)
        (links_seen s t same back noted clock sees.input sees.guild sees.about) readers shape f h does in
        (stopped.0, (stopped.1.0, inl stopped.1.1))

    -- the log ended without a seal
    pub look_quits : seen.quit ≡ true → (h : History) → Handles sees.input h seen_now c → Stopped (IsLookOfOrNone guild) fault.Quit unseen c
    look_quits quit h does =
        let went : Went (IsLookOf guild) unseen c = look_goes h does in
        (went.0, ((went.1.0, subst (λ (rs : List (ℕ × Seeing)). list_any (λ (r : ℕ × Seeing). has_quit r.1) rs ≡ true) (sym does.outside.readers) (sees.quit quit)), inl went.1.1))
