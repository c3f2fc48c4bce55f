-- The viewers of sessions, and what is picked from a list by indexes.
use Rattle.std.specs.Prelude.{◌≡◌, ℕ, List, ◌++◌, Bool, true, Option, Some, None, map, slice_get}
use Rattle.dispatch_types.specs.declared.viewer.Viewer.{Viewer}
use Rattle.session_core.specs.State.{Session}
use Rattle.replay_ring.specs.Replay.{Replay}

abbrev pub viewer_of : Session Replay → Viewer
viewer_of x = x.viewer

-- each of these stands in a list at its index
abbrev pub Picks : {A : Type 0} → List A → List ℕ → List A → Type 0
Picks items indexes picked = map (slice_get items) indexes ≡ map (λ x. Some x) picked

-- where it is known, these are the viewers of the sessions
abbrev pub AreKnown : Bool → List Viewer → List ℕ → List (Session Replay) → Type 0
AreKnown known viewers whose xs = known ≡ true → Picks viewers whose (map viewer_of xs)

-- a list with more at its end
abbrev pub IsLonger : {A : Type 0} → List A → List A → Type 0
IsLonger old new = (more : List _) × (new ≡ old ++ more)

-- what stands in a list at the index that stands in another
abbrev pub picked_by : {A : Type 0} → List A → Option ℕ → Option A
picked_by items None = None
picked_by items (Some index) = slice_get items index

-- two viewers of one user in one shard: both are served, with the same member, or neither is (Gateway, Sharding)
abbrev pub AreServedAlike : Viewer → Viewer → Type 0
AreServedAlike v w = (v.user ≡ w.user) × (v.shard ≡ w.shard)

-- an index that stands in a list at the place of a viewer that is served alike
abbrev pub IsOfAlike : List Viewer → List ℕ → Viewer → ℕ → Type 0
IsOfAlike viewers indexes v index = (place : ℕ) × (w : Viewer) × (slice_get indexes place ≡ Some index) × (slice_get viewers place ≡ Some w) × AreServedAlike w v
