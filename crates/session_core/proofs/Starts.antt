-- A bot that is found fit begins a session as itself.
use Rattle.std.proofs.Common.{◌≡◌, ℕ, Bool, true, false, not, nat_lt, if◌then◌else◌, Result, Ok, Err, refl}
use Rattle.dispatch_types.specs.declared.viewer.Viewer.{Viewer}
use Rattle.gateway_frames.specs.declared.frame.Identify.{Identify}
use Rattle.session_core.specs.declared.bot.Bot.{Bot}
use Rattle.session_core.specs.Identify.{are_intents, is_no_shard, goes_beyond, authorized, viewer_as, start_as, viewer_of}

abbrev first_fault : Bool → Bool → Bool → Bool → Bot → Result Bot ℕ
first_fault fit no_shard beyond room bot =
    if not fit then Err 4013 else (if no_shard then Err 4010 else (if beyond then Err 4014 else (if room then Ok bot else Err 4000)))

same_start : (fit no_shard beyond room : Bool) (i : Identify) (bot : Bot) (v : Viewer)
    → Ok v ≡ viewer_as i (first_fault fit no_shard beyond room bot) → Ok (bot, v) ≡ start_as i (first_fault fit no_shard beyond room bot)
same_start false no_shard beyond room i bot v is = cc
same_start true true beyond room i bot v is = cc
same_start true false true room i bot v is = cc
same_start true false false true i bot v is = let same : v ≡ viewer_of bot i = cc in rw same refl
same_start true false false false i bot v is = cc

pub start_as-judged : (sessions : ℕ) (i : Identify) (bot : Bot) (v : Viewer) → Ok v ≡ viewer_as i (authorized sessions i bot) → Ok (bot, v) ≡ start_as i (authorized sessions i bot)
start_as-judged sessions i bot v is = same_start (are_intents i.intents) (is_no_shard i.shard) (goes_beyond i.intents bot.privileged) (nat_lt sessions 64) i bot v is
