-- The shape of `d` by opcode (Gateway Events, Send Events).
use Rattle.std.specs.Prelude.{ℕ, List, [], ◌∷◌, Bool, false, nat_lt, if◌then◌else◌, Option, Some, None, unwrap_or, option_and_then, Result, Ok, Err, codes}
use Rattle.std.specs.Option.{ok_or}
use Rattle.serde_json.specs.Data.{Data, Items, no_items, item}
use Rattle.serde_json.specs.Find.{get, as_bool, as_str, as_array}
use Rattle.serde_json.specs.Events.{items_len}
use Rattle.json_view.specs.Fields.{and_then, field, given, whole, number_field, text_field, id_field, id_value}
use Rattle.guild_model.specs.declared.presence.Status.{Status}
use Rattle.guild_model.specs.Statuses.{status_named}
use Rattle.gateway_frames.specs.declared.fault.FrameFault.{FrameFault}
use Rattle.gateway_frames.specs.declared.fault.FrameFault.TheVariants.{BadShape}
use Rattle.gateway_frames.specs.declared.frame.Frame.{Frame}
use Rattle.gateway_frames.specs.declared.frame.Frame.TheVariants.{Heartbeat}
use Rattle.gateway_frames.specs.declared.frame.Identify.{Identify}
use Rattle.gateway_frames.specs.declared.frame.VoiceAsk.{VoiceAsk}
use Rattle.gateway_frames.specs.declared.frame.Resume.{Resume}
use Rattle.gateway_frames.specs.declared.frame.Ask.{Ask}
use Rattle.gateway_frames.specs.declared.frame.Find.{Find}
use Rattle.gateway_frames.specs.declared.frame.Find.TheVariants.{Query, Users}
use Rattle.gateway_frames.specs.Fault.{shaped}

-- ---- fields

abbrev pub text_at : List ℕ → Data → Result (List ℕ) FrameFault
text_at name d = shaped (text_field name d)

abbrev pub whole_at : List ℕ → Data → Result ℕ FrameFault
whole_at name d = shaped (number_field name d)

abbrev pub id_at : List ℕ → Data → Result ℕ FrameFault
id_at name d = shaped (id_field name d)

-- what reads a value, or nothing if there is none
abbrev pub optional : {A : Type 0} → (Data → Result A FrameFault) → Option Data → Result (Option A) FrameFault
optional read None = Ok None
optional read (Some v) = and_then (read v) (λ a. Ok (Some a))

-- an id or null, which has to be there
abbrev pub nullable_id_at : List ℕ → Data → Result (Option ℕ) FrameFault
nullable_id_at name d = and_then (shaped (field name d)) (λ _. optional (λ v. shaped (id_value v)) (given name d))

abbrev pub optional_whole : List ℕ → Data → Result (Option ℕ) FrameFault
optional_whole name d = optional (λ v. ok_or (whole v) BadShape) (given name d)

abbrev pub optional_flag : List ℕ → Data → Result (Option Bool) FrameFault
optional_flag name d = optional (λ v. ok_or (as_bool v) BadShape) (given name d)

abbrev pub flag_or_false : List ℕ → Data → Result Bool FrameFault
flag_or_false name d = and_then (optional_flag name d) (λ flag. Ok (unwrap_or flag false))

-- a list of two whole numbers
abbrev pub pair_from : Items → Result (ℕ × ℕ) FrameFault
pair_from no_items = Err BadShape
pair_from (item a no_items) = Err BadShape
pair_from (item a (item b no_items)) = and_then (ok_or (whole a) BadShape) (λ m. and_then (ok_or (whole b) BadShape) (λ n. Ok (m, n)))
pair_from (item a (item b (item c rest))) = Err BadShape

abbrev pub optional_pair : List ℕ → Data → Result (Option (ℕ × ℕ)) FrameFault
optional_pair name d = optional (λ v. and_then (ok_or (as_array v) BadShape) pair_from) (given name d)

-- ---- Heartbeat: the number of the last dispatch, or null

abbrev pub heartbeat_from : Data → Result Frame FrameFault
heartbeat_from frame = and_then (optional_whole (codes "d") frame) (λ n. Ok (Heartbeat n))

-- ---- Identify: `properties` and `presence` are not read

abbrev pub identify_from : Data → Result Identify FrameFault
identify_from d =
    and_then (text_at (codes "token") d) (λ token.
    and_then (whole_at (codes "intents") d) (λ intents.
    and_then (optional_flag (codes "compress") d) (λ compress.
    and_then (optional_whole (codes "large_threshold") d) (λ threshold.
    and_then (optional_pair (codes "shard") d) (λ shard.
    Ok (record { token = token; intents = intents; large_threshold = threshold; shard = shard }))))))

-- ---- Update Presence: `since`, `activities` and `afk` are not read

abbrev pub status_from : List ℕ → Result Status FrameFault
status_from s = ok_or (status_named s) BadShape

abbrev pub presence_from : Data → Result Status FrameFault
presence_from d = and_then (text_at (codes "status") d) status_from

-- ---- Update Voice State

abbrev pub voice_from : Data → Result VoiceAsk FrameFault
voice_from d =
    and_then (id_at (codes "guild_id") d) (λ guild.
    and_then (nullable_id_at (codes "channel_id") d) (λ channel.
    and_then (flag_or_false (codes "self_mute") d) (λ mute.
    and_then (flag_or_false (codes "self_deaf") d) (λ deaf.
    Ok (record { guild = guild; channel = channel; self_mute = mute; self_deaf = deaf })))))

-- ---- Resume

abbrev pub resume_from : Data → Result Resume FrameFault
resume_from d =
    and_then (text_at (codes "token") d) (λ token.
    and_then (text_at (codes "session_id") d) (λ session.
    and_then (whole_at (codes "seq") d) (λ seq.
    Ok (record { token = token; session = session; seq = seq }))))

-- ---- Request Guild Members

abbrev pub ids_from : Items → Result (List ℕ) FrameFault
ids_from no_items = Ok []
ids_from (item d ds) = and_then (shaped (id_value d)) (λ id. and_then (ids_from ds) (λ ids. Ok (id ∷ ids)))

abbrev pub one_id : Data → Result (List ℕ) FrameFault
one_id d = and_then (shaped (id_value d)) (λ id. Ok (id ∷ []))

abbrev pub users_in : Option Items → Data → Result (List ℕ) FrameFault
users_in None d = one_id d
users_in (Some ds) d = if nat_lt 100 (items_len ds) then Err BadShape else ids_from ds

-- an id, or a list of at most 100 ids
abbrev pub users_from : Data → Result (List ℕ) FrameFault
users_from d = users_in (as_array d) d

abbrev pub query_from : Data → Result Find FrameFault
query_from d =
    and_then (text_at (codes "query") d) (λ query.
    and_then (optional_whole (codes "limit") d) (λ limit.
    Ok (Query query limit)))

abbrev pub find_in : Option Data → Data → Result Find FrameFault
find_in None d = query_from d
find_in (Some users) d = and_then (users_from users) (λ ids. Ok (Users ids))

-- `user_ids` where they are given, and then `query` and `limit` are not read
abbrev pub find_from : Data → Result Find FrameFault
find_from d = find_in (given (codes "user_ids") d) d

-- the nonce, if it is a text
abbrev pub nonce_from : Data → Option (List ℕ)
nonce_from d = option_and_then as_str (get (codes "nonce") d)

abbrev pub ask_from : Data → Result Ask FrameFault
ask_from d =
    and_then (id_at (codes "guild_id") d) (λ guild.
    and_then (find_from d) (λ find.
    and_then (optional_flag (codes "presences") d) (λ presences.
    Ok (record { guild = guild; find = find; presences = presences; nonce = nonce_from d }))))
