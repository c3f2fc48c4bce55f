-- Frames as a client writes them: keys in byte order, optional keys without a value left out.
use Rattle.std.specs.Prelude.{◌≤◌, ℕ, List, [], ◌∷◌, length, map, Option, Some, None, option_map, codes, decimal}
use Rattle.serde_json.specs.Data.{Data, null, boolean, number, unsigned, string, array, object, Members, no_members, member, put}
use Rattle.serde_json.specs.View.{items_of}
use Rattle.guild_model.specs.declared.presence.Status.{Status}
use Rattle.guild_model.specs.Statuses.{status_name}
use Rattle.gateway_frames.specs.declared.frame.Frame.{Frame}
use Rattle.gateway_frames.specs.declared.frame.Frame.TheVariants as frame
use Rattle.gateway_frames.specs.declared.frame.Identify.{Identify}
use Rattle.gateway_frames.specs.declared.frame.VoiceAsk.{VoiceAsk}
use Rattle.gateway_frames.specs.declared.frame.Resume.{Resume}
use Rattle.gateway_frames.specs.declared.frame.Ask.{Ask}
use Rattle.gateway_frames.specs.declared.frame.Find.{Find}
use Rattle.gateway_frames.specs.declared.frame.Find.TheVariants.{Query, Users}

abbrev pub count : ℕ → Data
count n = number (unsigned n)

-- an id is written as a text
abbrev pub id_data : ℕ → Data
id_data id = string (decimal id)

abbrev pub nullable_id_data : Option ℕ → Data
nullable_id_data None = null
nullable_id_data (Some id) = id_data id

abbrev pub nullable_count : Option ℕ → Data
nullable_count None = null
nullable_count (Some n) = count n

-- the members with this key, or as they are if it has no value
abbrev pub put_given : List ℕ → Option Data → Members → Members
put_given name None ms = ms
put_given name (Some d) ms = put name d ms

abbrev pub put_all_given : Members → List (List ℕ × Option Data) → Members
put_all_given ms [] = ms
put_all_given ms (f ∷ fs) = put_all_given (put_given f.0 f.1 ms) fs

-- the object of those keys that have a value
abbrev pub object_given : List (List ℕ × Option Data) → Data
object_given fields = object (put_all_given no_members fields)

-- ---- Identify

abbrev pub pair_data : ℕ × ℕ → Data
pair_data p = array (items_of (count p.0 ∷ count p.1 ∷ []))

abbrev pub identify_data : Identify → Data
identify_data i =
    object_given ((codes "intents", Some (count i.intents)) ∷ (codes "large_threshold", option_map count i.large_threshold)
    ∷ (codes "properties", Some (object no_members)) ∷ (codes "shard", option_map pair_data i.shard) ∷ (codes "token", Some (string i.token)) ∷ [])

-- ---- Update Presence

abbrev pub presence_data : Status → Data
presence_data s = object (member (codes "status") (string (status_name s)) no_members)

-- ---- Update Voice State

abbrev pub voice_data : VoiceAsk → Data
voice_data v =
    object (member (codes "channel_id") (nullable_id_data v.channel) (member (codes "guild_id") (id_data v.guild)
    (member (codes "self_deaf") (boolean v.self_deaf) (member (codes "self_mute") (boolean v.self_mute) no_members))))

-- ---- Resume

abbrev pub resume_data : Resume → Data
resume_data r =
    object (member (codes "seq") (count r.seq) (member (codes "session_id") (string r.session) (member (codes "token") (string r.token) no_members)))

-- ---- Request Guild Members

abbrev pub limit_in : Find → Option Data
limit_in (Query query limit) = option_map count limit
limit_in (Users ids) = None

abbrev pub query_in : Find → Option Data
query_in (Query query limit) = Some (string query)
query_in (Users ids) = None

abbrev pub ids_data : List ℕ → Data
ids_data ids = array (items_of (map id_data ids))

abbrev pub users_in : Find → Option Data
users_in (Query query limit) = None
users_in (Users ids) = Some (ids_data ids)

abbrev pub ask_data : Ask → Data
ask_data a =
    object_given ((codes "guild_id", Some (id_data a.guild)) ∷ (codes "limit", limit_in a.find) ∷ (codes "nonce", option_map string a.nonce)
    ∷ (codes "presences", option_map boolean a.presences) ∷ (codes "query", query_in a.find) ∷ (codes "user_ids", users_in a.find) ∷ [])

-- ---- frames

abbrev pub payload_data : ℕ → Data → Data
payload_data op d = object (member (codes "d") d (member (codes "op") (count op) no_members))

abbrev pub frame_data : Frame → Data
frame_data (frame.Heartbeat n) = payload_data 1 (nullable_count n)
frame_data (frame.Identify i) = payload_data 2 (identify_data i)
frame_data (frame.Presence s) = payload_data 3 (presence_data s)
frame_data (frame.Voice v) = payload_data 4 (voice_data v)
frame_data (frame.Resume r) = payload_data 6 (resume_data r)
frame_data (frame.Ask a) = payload_data 8 (ask_data a)

-- ---- which frames a client may send: those that name at most 100 ids

abbrev pub MayFind : Find → Type 0
MayFind (Query query limit) = Unit {0}
MayFind (Users ids) = length ids ≤ 100

abbrev pub MaySend : Frame → Type 0
MaySend (frame.Heartbeat n) = Unit {0}
MaySend (frame.Identify i) = Unit {0}
MaySend (frame.Presence s) = Unit {0}
MaySend (frame.Voice v) = Unit {0}
MaySend (frame.Resume r) = Unit {0}
MaySend (frame.Ask a) = MayFind a.find
