-- Who may begin a session (Gateway Events, Identify; Gateway, Opcodes and Status Codes).
use Rattle.std.specs.Prelude.{ℕ, List, Bool, false, not, ◌||◌, ◌&&◌, ◌==◌, nat_lt, min, max, bit_and, ◌^◌, sum, map, Option, Some, None, Result, Ok, Err, if◌then◌else◌, length}
use Rattle.std.specs.List.{find, list_any}
use Rattle.std.specs.Str.{bytes_eq}
use Rattle.perm_bits.specs.Bits.{has_bit}
use Rattle.intent_set.specs.Intents.{privileged_bits, intent_bits}
use Rattle.dispatch_types.specs.declared.viewer.Viewer.{Viewer}
use Rattle.gateway_frames.specs.declared.frame.Identify.{Identify}
use Rattle.session_core.specs.declared.bot.Bot.{Bot}
use Rattle.session_core.specs.State.{State, live}

-- the bot with this token
abbrev pub bot_of : List ℕ → List Bot → Option Bot
bot_of token bots = find (λ (b : Bot). bytes_eq b.token token) bots

-- every bit is an intent's
unfoldable pub are_intents : ℕ → Bool
are_intents bits = bit_and bits (sum (map (λ b. 2 ^ b) intent_bits)) == bits

-- a shard is one of at least one, counted from 0
abbrev pub is_no_shard : Option (ℕ × ℕ) → Bool
is_no_shard None = false
is_no_shard (Some shard) = (shard.1 == 0) || not (nat_lt shard.0 shard.1)

-- a privileged intent that the bot may not ask for
abbrev pub goes_beyond : ℕ → ℕ → Bool
goes_beyond intents privileged = list_any (λ b. has_bit intents b && not (has_bit privileged b)) privileged_bits

-- the set of these bits, if it is one of intents
abbrev pub intents_if : ℕ → Option ℕ
intents_if bits = if are_intents bits then Some bits else None

-- the shard, or none where none is given, if it is one
abbrev pub shard_if : Option (ℕ × ℕ) → Option (Option (ℕ × ℕ))
shard_if shard = if is_no_shard shard then None else Some shard

-- 50 where none is given, and from 50 to 250
abbrev pub threshold_of : Option ℕ → ℕ
threshold_of None = 50
threshold_of (Some n) = min 250 (max 50 n)

-- whom the dispatches of the session will be for
abbrev pub viewer_of : Bot → Identify → Viewer
viewer_of bot i = record { user = bot.user; intents = i.intents; shard = i.shard; threshold = threshold_of i.large_threshold }

-- the first test that fails gives the code; a worker has at most 64 live sessions
abbrev pub authorized : (sessions : ℕ) → Identify → Bot → Result Bot ℕ
authorized sessions i bot =
    if not (are_intents i.intents) then Err 4013
    else (if is_no_shard i.shard then Err 4010
    else (if goes_beyond i.intents bot.privileged then Err 4014
    else (if nat_lt sessions 64 then Ok bot
    else Err 4000)))

abbrev pub authorized_of : (sessions : ℕ) → Identify → Option Bot → Result Bot ℕ
authorized_of sessions i None = Err 4004
authorized_of sessions i (Some bot) = authorized sessions i bot

abbrev pub viewer_as : Identify → Result Bot ℕ → Result Viewer ℕ
viewer_as i (Ok bot) = Ok (viewer_of bot i)
viewer_as i (Err code) = Err code

-- the bot with its viewer
abbrev pub start_as : Identify → Result Bot ℕ → Result (Bot × Viewer) ℕ
start_as i (Ok bot) = Ok (bot, viewer_of bot i)
start_as i (Err code) = Err code

-- the bot that may begin a session, or the code by which it may not
unfoldable pub identified : {A : Type 0} → State A → Identify → Result Bot ℕ
identified s i = authorized_of (length (live s)) i (bot_of i.token s.bots)
