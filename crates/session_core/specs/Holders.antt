-- Whom a session is for.
use Rattle.std.specs.Prelude.{ℕ, List}
use Rattle.dispatch_types.specs.declared.viewer.Viewer.{Viewer}
use Rattle.session_core.specs.declared.holder.Holder.{Holder}
use Rattle.session_core.specs.State.{Session}
use Rattle.session_core.specs.Resume.{session_id}

-- the session of a number at a worker, whose bot has a name: its id, its bot's user, and what the bot has asked for
abbrev pub new_holder : (worker number : ℕ) (name : List ℕ) → Viewer → Holder
new_holder worker number name viewer =
    record {
      id = session_id worker number;
      user = viewer.user;
      name = name;
      intents = viewer.intents;
      shard = viewer.shard;
      threshold = viewer.threshold;
    }

-- whom a session of a worker is for
abbrev pub holder_of : {A : Type 0} → ℕ → Session A → Holder
holder_of worker x = new_holder worker x.number x.name x.viewer

-- the viewer of its dispatches
abbrev pub viewer_for : Holder → Viewer
viewer_for h = record { user = h.user; intents = h.intents; shard = h.shard; threshold = h.threshold }
