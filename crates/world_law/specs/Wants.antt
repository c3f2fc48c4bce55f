-- What a session's client asks for: members of a guild, a status, or a voice channel (Gateway Events).
use Rattle.std.specs.Prelude.{ℕ, ◌+◌, List, [], ◌∷◌, Bool, ◌==◌, ◌&&◌, Option, Some, None, if◌then◌else◌, length, flat_map}
use Rattle.std.specs.List.{find}
use Rattle.std.specs.Option.{option_map_or}
use Rattle.guild_model.specs.Record.{Record}
use Rattle.guild_model.specs.declared.presence.Status.{Status}
use Rattle.dispatch_types.specs.declared.viewer.Viewer.{Viewer}
use Rattle.dispatch_types.specs.declared.dispatch.Dispatch.{Dispatch}
use Rattle.edit_apply.specs.declared.Edit.{Edit}
use Rattle.gateway_frames.specs.declared.frame.Ask.{Ask}
use Rattle.gateway_frames.specs.declared.frame.VoiceAsk.{VoiceAsk}
use Rattle.member_chunks.specs.Answered.{answered}
use Rattle.wishes.specs.Wishes.{presence_wish, voice_wish}
use Rattle.session_core.specs.State.{Session, is_live}
use Rattle.session_core.specs.Frames.{Want, Members, Presence, Voice}
use Rattle.world_law.specs.Keeping.{Keeping, Machine, record_at, with_sessions}
use Rattle.world_law.specs.Outputs.{Output, Wishes, sends}

-- the live session of a number
abbrev pub is_numbered : {A : Type 0} → ℕ → Session A → Bool
is_numbered number x = is_live x.condition && (x.number == number)

abbrev pub numbered : {A : Type 0} → ℕ → List (Session A) → Option (Session A)
numbered number xs = find (is_numbered number) xs

-- a list with its first item that passes a test changed
abbrev pub change_first : {A : Type 0} → (A → Bool) → (A → A) → List A → List A
change_first p f [] = []
change_first p f (x ∷ xs) = if p x then f x ∷ xs else x ∷ change_first p f xs

-- the chunks that answer a question for members, if the worker follows the guild (Gateway Events, Request Guild Members)
abbrev pub answered_by : Viewer → Ask → Option Record → List Dispatch
answered_by viewer ask None = []
answered_by viewer ask (Some s) = answered s viewer ask

-- the edit that a client asks for, if there is one
abbrev pub wished : ℕ → Option Edit → List Output
wished g None = []
wished g (Some e) = Wishes g e ∷ []

-- a status, in each guild (Gateway Events, Update Presence)
abbrev pub presence_wishes : Viewer → Status → List Record → List Output
presence_wishes viewer status records = flat_map (λ s. wished s.id (presence_wish s viewer status)) records

-- a voice channel of a guild, if the worker follows it (Gateway Events, Update Voice State)
abbrev pub voice_wishes : Viewer → VoiceAsk → Option Record → List Output
voice_wishes viewer ask None = []
voice_wishes viewer ask (Some s) = wished s.id (voice_wish s viewer ask)

module _ {A R : Type 0} (keeping : Keeping A R) (w : Machine A R) where
  abbrev pub answer_to : Ask → Session A → List Dispatch
  answer_to ask x = answered_by x.viewer ask (record_at keeping w.logs ask.guild)

  abbrev pub after_answer : Ask → Session A → Session A
  after_answer ask x = record x { sent = keeping.answers w.chunks (keeping.cursors w.logs) (answer_to ask x) x.sent }

  -- the session of a number is sent the answer
  abbrev pub asked : Ask → ℕ → Machine A R
  asked ask number = record w {
    chunks = w.chunks + option_map_or (λ x. length (answer_to ask x)) (numbered number w.core.sessions) 0;
    core = with_sessions (change_first (is_numbered number) (after_answer ask) w.core.sessions) w.core;
  }

  -- what goes out to a session's client, or for it
  abbrev pub want_sends : Want → Session A → List Output
  want_sends (Members ask) x = sends keeping.text x.condition (keeping.last x.sent) (answer_to ask x)
  want_sends (Presence status) x = presence_wishes x.viewer status (keeping.records w.logs)
  want_sends (Voice ask) x = voice_wishes x.viewer ask (record_at keeping w.logs ask.guild)

module _ {A R : Type 0} (keeping : Keeping A R) where
  abbrev pub after_want : ℕ → Want → Machine A R → Machine A R
  after_want number (Members ask) w = asked keeping w ask number
  after_want number (Presence status) w = w
  after_want number (Voice ask) w = w
