-- What was sent to each session of a worker holds after each input.
use Rattle.std.proofs.Common.{◌≡◌, ℕ, List, Option, Some, None, refl}
use Rattle.std.specs.Prelude.{max}
use Rattle.guild_model.specs.Record.{Record}
use Rattle.dispatch_types.specs.declared.dispatch.Dispatch.{Dispatch}
use Rattle.session_core.specs.Frames.{Want, Members, Presence, Voice, Move, Nothing, Answers, ClosesWith, Begins, Denies, Resumes, Wants}
use Rattle.session_core.specs.Frames.{framed as with_frame}
use Rattle.world_law.specs.Inputs.{Closed, Frame, Input, Look, Lost, Open, Rebase, Tick, taken}
use Rattle.world_law.proofs.Workers.{Follows, begun_follows, closed_follows, gone_follows, looked_follows, lost_follows, opened_follows, rebased_follows, resumed_follows, ticked_follows}
use Rattle.world_law.specs.TheLaw.{IsOf}
use Rattle.world_law.specs.Model.{Seen, Worker, in_model}
use Rattle.world_law.specs.Wants.{after_want}
use Rattle.world_law.proofs.Chunks.{asked_follows}
use Rattle.world_law.specs.Greeting.{begins_with}
use Rattle.world_law.proofs.Found.{found_here}
use Rattle.world_law.specs.Frames.{framed, move_at}
use Rattle.world_law.specs.Looks.{looked_by, rebased_by}
use Rattle.world_law.specs.Keeping.{record_at}

want_follows : (text : ℕ → Dispatch → List ℕ) (number : ℕ) (want : Want) (w : Worker) → Follows w → Follows (after_want (in_model text) number want w)
want_follows text number (Members ask) w old = asked_follows text w ask number old
want_follows text number (Presence status) w old = old
want_follows text number (Voice ask) w old = old

framed_follows : (text : ℕ → Dispatch → List ℕ) (w : Worker) (conn : ℕ) (move : Move) → Follows w → Follows (framed (in_model text) w conn move)
framed_follows text w conn Nothing old = record { sessions = old.sessions; strangers = old.strangers }
framed_follows text w conn Answers old = record { sessions = old.sessions; strangers = old.strangers }
framed_follows text w conn (ClosesWith code) old = let after = gone_follows w conn old in record { sessions = after.sessions; strangers = after.strangers }
framed_follows text w conn Denies old = record { sessions = old.sessions; strangers = old.strangers }
framed_follows text w conn (Resumes number older seq held) old = let after = resumed_follows w conn number older old in record { sessions = after.sessions; strangers = after.strangers }
framed_follows text w conn (Begins bot viewer) old = let after = begun_follows text w conn bot viewer old in record { sessions = after.sessions; strangers = after.strangers }
framed_follows text w conn (Wants number want) old =
    want_follows text number want (record w { core = with_frame conn w.now (begins_with (in_model text) w) (Wants number want) w.core }) (record { sessions = old.sessions; strangers = old.strangers })

pub taken_follows : (text : ℕ → Dispatch → List ℕ) (logs : Seen) (i : Input) (w : Worker) → IsOf logs w i → Follows w → Follows (taken (in_model text) w i)
taken_follows text logs (Look g es) w is old = by_found (record_at (in_model text) w.logs g) refl
  where
    by_found : (o : Option Record) → record_at (in_model text) w.logs g ≡ o → Follows (looked_by (in_model text) o w g es)
    by_found None e = old
    by_found (Some s) e = let here = found_here text w.logs g s e in looked_follows text es w g s here.1 here.0 old
taken_follows text logs (Rebase g log) w is old = by_found (record_at (in_model text) w.logs g) refl
  where
    by_found : (o : Option Record) → record_at (in_model text) w.logs g ≡ o → Follows (rebased_by (in_model text) o w g log)
    by_found None e = old
    by_found (Some s) e = rebased_follows text w g s log is.0 is.1.1.0 (found_here text w.logs g s e).0 old
taken_follows text logs (Open conn) w is old = opened_follows w conn old
taken_follows text logs (Frame conn frame) w is old = framed_follows text w conn (move_at (in_model text) w conn frame) old
taken_follows text logs (Lost conn) w is old = lost_follows w conn old
taken_follows text logs (Closed conn code) w is old = closed_follows w conn code old
taken_follows text logs (Tick now) w is old = ticked_follows text w (max w.now now) old
