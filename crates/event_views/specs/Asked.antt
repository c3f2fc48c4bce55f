-- A dispatch goes only to a viewer whose intents ask for it (Gateway, Gateway Intents).
use Rattle.std.specs.Prelude.{List, [], ◌∷◌, Bool, false, Option, Some, None, if◌then◌else◌}
use Rattle.intent_set.specs.Asks.{asks}
use Rattle.dispatch_types.specs.declared.viewer.Viewer.{Viewer}
use Rattle.dispatch_types.specs.declared.dispatch.Dispatch.{Dispatch}
use Rattle.dispatch_types.specs.Kinds.{kind_of}

-- `own`: it is about the viewer's own bot
abbrev pub asked : Viewer → Bool → Dispatch → List Dispatch
asked v own d = if asks v.intents (kind_of d) own then d ∷ [] else []

-- a dispatch that may be missing, and is about nobody's own bot
abbrev pub told_if : Viewer → Option Dispatch → List Dispatch
told_if v None = []
told_if v (Some d) = asked v false d
