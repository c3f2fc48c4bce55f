-- What a text that comes on a connection makes of a worker, and what goes out (Gateway, Sending Events).
use Rattle.std.specs.Prelude.{ℕ, ◌+◌, List, [], ◌∷◌, ◌++◌, false, Option, Some, None, map}
use Rattle.std.specs.Option.{option_map_or}
use Rattle.gateway_frames.specs.declared.out.Out.TheVariants.{Ack, Invalid, Resumed}
use Rattle.replay_ring.specs.Replay.{texts_after}
use Rattle.session_core.specs.State.{Attached}
use Rattle.session_core.specs.Frames.{Move, Nothing, Answers, ClosesWith, Begins, Denies, Resumes, Wants, move_of, framed as with_frame}
use Rattle.world_law.specs.Keeping.{Keeping, Machine}
use Rattle.world_law.specs.Outputs.{Output, Says, Sends, Closes, sends}
use Rattle.world_law.specs.Greeting.{first_dispatches, begins_with}
use Rattle.world_law.specs.Wants.{numbered, want_sends, after_want}

-- the connection that a resumed session had
abbrev pub older_sends : Option ℕ → List Output
older_sends None = []
older_sends (Some conn) = Closes conn 4000 ∷ []

module _ {A R : Type 0} (keeping : Keeping A R) where
  -- what a text does on a connection
  abbrev pub move_at : Machine A R → ℕ → List ℕ → Move
  move_at w conn text = move_of keeping.replay w.core w.now conn text

  -- the sessions have moved, and a request is answered
  abbrev pub after_move : Move → Machine A R → Machine A R
  after_move Nothing w = w
  after_move Answers w = w
  after_move (ClosesWith code) w = w
  after_move (Begins bot viewer) w = w
  after_move Denies w = w
  after_move (Resumes number older seq held) w = w
  after_move (Wants number want) w = after_want keeping number want w

  abbrev pub framed : Machine A R → ℕ → Move → Machine A R
  framed w conn move = after_move move (record w { core = with_frame conn w.now (begins_with keeping w) move w.core })

  abbrev pub frame_sends : Machine A R → ℕ → Move → List Output
  frame_sends w conn Nothing = []
  frame_sends w conn Answers = Says conn Ack ∷ []
  frame_sends w conn (ClosesWith code) = Closes conn code ∷ []
  frame_sends w conn (Begins bot viewer) = sends keeping.text (Attached conn) 0 (first_dispatches keeping w viewer bot.name (w.core.made + 1))
  frame_sends w conn Denies = Says conn (Invalid false) ∷ []
  frame_sends w conn (Resumes number older seq held) =
      older_sends older ++ (map (λ text. Sends conn text) (texts_after held seq) ++ Says conn (Resumed held.last) ∷ [])
  frame_sends w conn (Wants number want) = option_map_or (want_sends keeping w want) (numbered number w.core.sessions) []
