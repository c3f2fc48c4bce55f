-- The world of a server, step by step.
use Rattle.std.proofs.Common.{◌≡◌, ℕ, List, [], ◌∷◌, ◌++◌, Bool, true, false, Some, None, if◌then◌else◌, length, map, refl, ap, ◌∙◌}
use Rattle.std.specs.Prelude.{◌==◌}
use Rattle.edit_apply.specs.declared.Edit.{Edit}
use Rattle.world_law.specs.Model.{Worker}
use Rattle.world_law.specs.World.{World, Step, Edits, Looks, Opens, Frames, Loses, Leaves, Ticks, look_at, stepped, run}
use Rattle.world_law.specs.Inputs.{Input, Open, Frame, Lost, Closed, Tick, taken}
use Rattle.worker_core.specs.InCode.{wire_text, wire_model}
use Rattle.scenario.specs.Server.{Server, world, given, with_step}
use Rattle.scenario.specs.Represents.{moved, all_moved, all_sends, any_spends}

pub run_more : (ss : List Step) (m : World) (s : Step) → run wire_text m (ss ++ s ∷ []) ≡ stepped wire_text (run wire_text m ss) s
run_more [] m s = refl
run_more (x ∷ ss) m s = run_more ss (stepped wire_text m x) s

moved_if : (b : Bool) (i : Input) (w : Worker) → (if b then taken wire_model w i else w) ≡ moved w (if b then Some i else None)
moved_if true i w = refl
moved_if false i w = refl

map_same : (f g : Worker → Worker) → ((w : Worker) → f w ≡ g w) → (ws : List Worker) → map f ws ≡ map g ws
map_same f g h [] = refl
map_same f g h (w ∷ ws) = ap (λ v. v ∷ map f ws) (h w) ∙ ap (λ vs. g w ∷ vs) (map_same f g h ws)

unmoved : (ws : List Worker) → ws ≡ map (λ w. w) ws
unmoved [] = refl
unmoved (w ∷ ws) = ap (λ vs. w ∷ vs) (unmoved ws)

-- a step gives each worker what is given to it
pub stepped_workers : (s : Step) (m : World) → (stepped wire_text m s).workers ≡ all_moved (given m s) m.workers
stepped_workers (Edits g e) m = unmoved m.workers
stepped_workers (Looks n g) m = map_same _ _ (λ w. moved_if (w.core.worker == n) (look_at g (m.logs g) (length (w.logs.seen g))) w) m.workers
stepped_workers (Opens n conn) m = map_same _ _ (λ w. moved_if (w.core.worker == n) (Open conn) w) m.workers
stepped_workers (Frames n conn text) m = map_same _ _ (λ w. moved_if (w.core.worker == n) (Frame conn text) w) m.workers
stepped_workers (Loses n conn) m = map_same _ _ (λ w. moved_if (w.core.worker == n) (Lost conn) w) m.workers
stepped_workers (Leaves n conn code) m = map_same _ _ (λ w. moved_if (w.core.worker == n) (Closed conn code) w) m.workers
stepped_workers (Ticks n now) m = map_same _ _ (λ w. moved_if (w.core.worker == n) (Tick now) w) m.workers

-- the world after one more step
pub world_step : (p : Server) (s : Step) → world (with_step (Some s) p) ≡ stepped wire_text (world p) s
world_step p s = run_more p.steps _ s

-- an edit gives nothing to a worker
pub edit_sends : (g : ℕ) (e : Edit) (m : World) (ws : List Worker) → all_sends (given m (Edits g e)) ws ≡ []
edit_sends g e m [] = refl
edit_sends g e m (w ∷ ws) = edit_sends g e m ws

pub edit_spends : (g : ℕ) (e : Edit) (m : World) (ws : List Worker) → any_spends (given m (Edits g e)) ws ≡ false
edit_spends g e m [] = refl
edit_spends g e m (w ∷ ws) = edit_spends g e m ws
