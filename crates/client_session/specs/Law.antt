-- Over any run, what a client holds of a guild is the fold of all dispatches that it has read, in
-- order.
use Rattle.std.specs.Prelude.{◌≡◌, ℕ, List, [], ◌++◌, option_to_list}
use Rattle.dispatch_types.specs.declared.dispatch.Dispatch.{Dispatch}
use Rattle.dispatch_types.specs.Fold.{fold}
use Rattle.client_cache.specs.Cached.{Cached, held_of}
use Rattle.client_session.specs.declared.act.Act.{Act}
use Rattle.client_session.specs.State.{ClientState, new_client, empty_cache}
use Rattle.client_session.specs.Step.{Event, after, acts, dispatch_of, StepsTo}

-- a client that keeps all dispatches that it reads
abbrev pub Model : Type 0
Model = ClientState (List Dispatch)

abbrev pub taken : Model → Event → Model
taken c event = record (after c event) { kept = c.kept ++ option_to_list (dispatch_of event) }

-- what a client's value is of one that keeps all
pub record Represents (k : ClientState Cached) (c : Model) : Type 0 where
  pub token : k.token ≡ c.token
  pub intents : k.intents ≡ c.intents
  pub session : k.session ≡ c.session
  pub heartbeat : k.heartbeat ≡ c.heartbeat
  pub held : (g : ℕ) → held_of k.kept g ≡ fold c.intents g c.kept

-- a new client represents the new one that keeps all
unfoldable pub NewRepresents : Type 0
NewRepresents = (token : List ℕ) (intents : ℕ)
    → Represents (new_client token intents (empty_cache intents)) (new_client token intents [])

-- and each step keeps that, with the same acts
unfoldable pub StepsRepresent : Type 0
StepsRepresent = (old new : ClientState Cached) (c : Model) (event : Event) (done : List Act)
    → Represents old c → StepsTo old event new done
    → Represents new (taken c event) × (done ≡ acts c event)
