-- The law of two ends: what a client holds of its session, whatever is lost and however it connects again.
use Rattle.std.specs.Prelude.{◌≡◌, ℕ, ◌≤◌, List, ◌∷◌, Some, length, take, All, Contains}
use Rattle.dispatch_types.specs.declared.dispatch.Dispatch.{Dispatch}
use Rattle.dispatch_types.specs.Fold.{fold}
use Rattle.edit_apply.specs.declared.Edit.{Edit}
use Rattle.session_core.specs.declared.bot.Bot.{Bot}
use Rattle.session_core.specs.State.{Session}
use Rattle.session_core.specs.Resume.{session_id}
use Rattle.client_session.specs.declared.session.Session.{Session as ClientSession}
use Rattle.client_session.specs.Law.{Model as Client}
use Rattle.world_law.specs.Folds.{SessionHolds}
use Rattle.world_law.specs.Inputs.{Frame, outputs}
use Rattle.world_law.specs.Model.{Worker, in_model, cursors}
use Rattle.world_law.specs.Outputs.{Output, Says, Sends, Closes, Wishes}
use Rattle.world_law.specs.Sent.{Sent, dispatches}
use Rattle.two_ends.specs.Flights.{ReadsBack}
use Rattle.two_ends.specs.Ends.{Ends, first_ends, worker_at}
use Rattle.two_ends.specs.Events.{Event, after, after_all, MayHappen, MayAllHappen}

-- the session that a client has is one of its worker, whose dispatches it holds through its number
pub record SessionIsHeld (logs : ℕ → List Edit) (w : Worker) (c : Client) (s : ClientSession) : Type 0 where
  pub session : Session Sent
  pub among : Contains w.core.sessions session
  pub id : s.id ≡ session_id w.core.worker session.number
  pub intents : session.viewer.intents ≡ c.intents
  -- no number beyond the last
  pub within : s.number ≤ length (dispatches session.sent)
  -- what is held of each guild is the fold of the dispatches up to this number
  pub folds : (g : ℕ) → fold c.intents g c.kept ≡ fold c.intents g (take s.number (dispatches session.sent))
  -- which is at a settled number the projection of one prefix of the guild's log
  pub holds : SessionHolds logs (cursors w.logs.seen) session

-- an output closes no connection as one whose number is beyond the last
abbrev pub IsNotBeyond : Output → Type 0
IsNotBeyond (Says conn out) = Unit {0}
IsNotBeyond (Sends conn text) = Unit {0}
IsNotBeyond (Closes conn code) = ¬ (code ≡ 4007)
IsNotBeyond (Wishes g e) = Unit {0}

module _ (text : ℕ → Dispatch → List ℕ) where
  pub record EndsHold (e : Ends) : Type 0 where
    -- a client that has a session
    pub session : (w : Worker) (s : ClientSession) → worker_at e.worker e.world ≡ Some w → e.client.session ≡ Some s → SessionIsHeld e.world.logs w e.client s
    -- it does not go back within a session
    pub advances : (event : Event) (s next : ClientSession) → MayHappen e event → e.client.session ≡ Some s → (after text e event).client.session ≡ Some next
        → next.id ≡ s.id → s.number ≤ next.number
    -- and no resume of it is refused for its number
    pub resumes : (w : Worker) (conn : ℕ) (t : List ℕ) (later : List (List ℕ)) → worker_at e.worker e.world ≡ Some w → e.conn ≡ Some conn → e.to_worker ≡ t ∷ later
        → All IsNotBeyond (outputs (in_model text) w (Frame conn t))

-- of whatever worlds, clients and events
unfoldable pub TwoEnds : Type 0
TwoEnds = (text : ℕ → Dispatch → List ℕ) → ReadsBack text
    → (bots : List Bot) (guilds : List ℕ) (places : List (ℕ × List ℕ)) (worker : ℕ) (token : List ℕ) (intents : ℕ) (events : List Event)
    → let first = first_ends bots guilds places worker token intents in MayAllHappen text first events → EndsHold text (after_all text first events)
