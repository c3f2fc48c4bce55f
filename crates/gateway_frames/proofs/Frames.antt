-- What a frame is written as reads as that frame, nests little and has no float.
use Rattle.std.proofs.Common.{◌≡◌, ℕ, ◌≤◌, List, [], ◌∷◌, map, length, Bool, false, Option, Some, None, Ok, refl, arith}
use Rattle.std.specs.Prelude.{nat_lt}
use Rattle.std.proofs.lemmas.Bool.Decides.{nat_tests}
use Rattle.serde_json.specs.Data.{Data, depth, items_depth}
use Rattle.serde_json.specs.Events.{items_len}
use Rattle.serde_json.specs.View.{items_of}
use Rattle.serde_json.specs.Written.{has_float, items_have_float}
use Rattle.serde_json.proofs.OnLiterals.{serde_json_on_literals}
use Rattle.snowflake_id.proofs.Texts.{id_of_decimal}
use Rattle.guild_model.specs.declared.presence.Status.{Status}
use Rattle.guild_model.proofs.Statuses.{status_back}
use Rattle.gateway_frames.specs.declared.frame.Frame.{Frame}
use Rattle.gateway_frames.specs.declared.frame.Frame.TheVariants as frame
use Rattle.gateway_frames.specs.declared.frame.Identify.{Identify}
use Rattle.gateway_frames.specs.declared.frame.VoiceAsk.{VoiceAsk}
use Rattle.gateway_frames.specs.declared.frame.Resume.{Resume}
use Rattle.gateway_frames.specs.declared.frame.Ask.{Ask}
use Rattle.gateway_frames.specs.declared.frame.Find.{Find}
use Rattle.gateway_frames.specs.declared.frame.Find.TheVariants.{Query, Users}
use Rattle.gateway_frames.specs.Shape.{identify_from, presence_from, voice_from, resume_from, ids_from, users_from, ask_from}
use Rattle.gateway_frames.specs.Read.{frame_from}
use Rattle.gateway_frames.specs.Written.{id_data, ids_data, nullable_count, identify_data, presence_data, voice_data, resume_data, ask_data, payload_data, frame_data, MayFind, MaySend}
use Rattle.gateway_frames.specs.Fits.{IdFits, IdsFit, ChannelFits, FindFits, FrameFits}

-- ---- lists of ids

ids_back : (ids : List ℕ) → IdsFit ids → ids_from (items_of (map id_data ids)) ≡ Ok ids
ids_back [] h = refl
ids_back (id ∷ ids) h = rw (id_of_decimal id h.0, ids_back ids h.1) refl

ids_len : (ids : List ℕ) → items_len (items_of (map id_data ids)) ≡ length ids
ids_len [] = refl
ids_len (id ∷ ids) = rw (ids_len ids) refl

at_most : (n : ℕ) → n ≤ 100 → nat_lt 100 n ≡ false
at_most n h = grind (arith, nat_tests)

users_back : (ids : List ℕ) → IdsFit ids → length ids ≤ 100 → users_from (ids_data ids) ≡ Ok ids
users_back ids h short = rw (ids_len ids, at_most (length ids) short) (ids_back ids h)

ids_depth : (ids : List ℕ) → items_depth (items_of (map id_data ids)) ≡ 0
ids_depth [] = refl
ids_depth (id ∷ ids) = rw (ids_depth ids) refl

ids_float : (ids : List ℕ) → items_have_float (items_of (map id_data ids)) ≡ false
ids_float [] = refl
ids_float (id ∷ ids) = ids_float ids

-- ---- the payloads

abbrev pub Plain : Data → Type 0
Plain d = (depth d ≤ 9) × (has_float d ≡ false)

identify_back : (token : List ℕ) (intents : ℕ) (threshold : Option ℕ) (shard : Option (ℕ × ℕ)) →
    let i : Identify = record { token = token; intents = intents; large_threshold = threshold; shard = shard } in
    (identify_from (identify_data i) ≡ Ok i) × Plain (identify_data i)
unfolding serde_json_on_literals
identify_back token intents None None = (refl, (omega arith, refl))
identify_back token intents None (Some p) = (refl, (omega arith, refl))
identify_back token intents (Some t) None = (refl, (omega arith, refl))
identify_back token intents (Some t) (Some p) = (refl, (omega arith, refl))

presence_back : (s : Status) → (presence_from (presence_data s) ≡ Ok s) × Plain (presence_data s)
unfolding serde_json_on_literals
presence_back s = (rw (status_back s) refl, (omega arith, refl))

voice_back : (guild : ℕ) (channel : Option ℕ) (mute deaf : Bool) → IdFits guild → ChannelFits channel →
    let v : VoiceAsk = record { guild = guild; channel = channel; self_mute = mute; self_deaf = deaf } in
    voice_from (voice_data v) ≡ Ok v
unfolding serde_json_on_literals
voice_back guild None mute deaf h k = rw (id_of_decimal guild h) refl
voice_back guild (Some id) mute deaf h k = rw (id_of_decimal guild h, id_of_decimal id k) refl

resume_back : (r : Resume) → (resume_from (resume_data r) ≡ Ok r) × Plain (resume_data r)
unfolding serde_json_on_literals
resume_back r = (refl, (omega arith, refl))

query_back : (guild : ℕ) (query : List ℕ) (limit : Option ℕ) (presences : Option Bool) (nonce : Option (List ℕ)) → IdFits guild →
    let a : Ask = record { guild = guild; find = Query query limit; presences = presences; nonce = nonce } in
    ask_from (ask_data a) ≡ Ok a
unfolding serde_json_on_literals
query_back guild query None None None h = rw (id_of_decimal guild h) refl
query_back guild query None None (Some x) h = rw (id_of_decimal guild h) refl
query_back guild query None (Some b) None h = rw (id_of_decimal guild h) refl
query_back guild query None (Some b) (Some x) h = rw (id_of_decimal guild h) refl
query_back guild query (Some n) None None h = rw (id_of_decimal guild h) refl
query_back guild query (Some n) None (Some x) h = rw (id_of_decimal guild h) refl
query_back guild query (Some n) (Some b) None h = rw (id_of_decimal guild h) refl
query_back guild query (Some n) (Some b) (Some x) h = rw (id_of_decimal guild h) refl

users_ask_back : (guild : ℕ) (ids : List ℕ) (presences : Option Bool) (nonce : Option (List ℕ)) → IdFits guild → IdsFit ids → length ids ≤ 100 →
    let a : Ask = record { guild = guild; find = Users ids; presences = presences; nonce = nonce } in
    ask_from (ask_data a) ≡ Ok a
unfolding serde_json_on_literals
users_ask_back guild ids None None h k short = rw (id_of_decimal guild h, users_back ids k short) refl
users_ask_back guild ids None (Some x) h k short = rw (id_of_decimal guild h, users_back ids k short) refl
users_ask_back guild ids (Some b) None h k short = rw (id_of_decimal guild h, users_back ids k short) refl
users_ask_back guild ids (Some b) (Some x) h k short = rw (id_of_decimal guild h, users_back ids k short) refl

users_ask_plain : (guild : ℕ) (ids : List ℕ) (presences : Option Bool) (nonce : Option (List ℕ)) →
    let a : Ask = record { guild = guild; find = Users ids; presences = presences; nonce = nonce } in
    Plain (ask_data a)
unfolding serde_json_on_literals
users_ask_plain guild ids None None = (omega (arith, ids_depth ids), rw (ids_float ids) refl)
users_ask_plain guild ids None (Some x) = (omega (arith, ids_depth ids), rw (ids_float ids) refl)
users_ask_plain guild ids (Some b) None = (omega (arith, ids_depth ids), rw (ids_float ids) refl)
users_ask_plain guild ids (Some b) (Some x) = (omega (arith, ids_depth ids), rw (ids_float ids) refl)

voice_plain : (guild : ℕ) (channel : Option ℕ) (mute deaf : Bool) →
    let v : VoiceAsk = record { guild = guild; channel = channel; self_mute = mute; self_deaf = deaf } in Plain (voice_data v)
unfolding serde_json_on_literals
voice_plain guild None mute deaf = (omega arith, refl)
voice_plain guild (Some id) mute deaf = (omega arith, refl)

query_plain : (guild : ℕ) (query : List ℕ) (limit : Option ℕ) (presences : Option Bool) (nonce : Option (List ℕ)) →
    let a : Ask = record { guild = guild; find = Query query limit; presences = presences; nonce = nonce } in Plain (ask_data a)
unfolding serde_json_on_literals
query_plain guild query None None None = (omega arith, refl)
query_plain guild query None None (Some x) = (omega arith, refl)
query_plain guild query None (Some b) None = (omega arith, refl)
query_plain guild query None (Some b) (Some x) = (omega arith, refl)
query_plain guild query (Some n) None None = (omega arith, refl)
query_plain guild query (Some n) None (Some x) = (omega arith, refl)
query_plain guild query (Some n) (Some b) None = (omega arith, refl)
query_plain guild query (Some n) (Some b) (Some x) = (omega arith, refl)

-- ---- the frames

framed_plain : (op : ℕ) (d : Data) → Plain d → (depth (payload_data op d) ≤ 10) × (has_float (payload_data op d) ≡ false)
framed_plain op d h = (omega (arith, h.0), rw h.1 refl)

framed_identify : (d : Data) (x : Identify) → identify_from d ≡ Ok x → frame_from (payload_data 2 d) ≡ Ok (frame.Identify x)
unfolding serde_json_on_literals
framed_identify d x e = rw e refl

framed_presence : (d : Data) (x : Status) → presence_from d ≡ Ok x → frame_from (payload_data 3 d) ≡ Ok (frame.Presence x)
unfolding serde_json_on_literals
framed_presence d x e = rw e refl

framed_voice : (d : Data) (x : VoiceAsk) → voice_from d ≡ Ok x → frame_from (payload_data 4 d) ≡ Ok (frame.Voice x)
unfolding serde_json_on_literals
framed_voice d x e = rw e refl

framed_resume : (d : Data) (x : Resume) → resume_from d ≡ Ok x → frame_from (payload_data 6 d) ≡ Ok (frame.Resume x)
unfolding serde_json_on_literals
framed_resume d x e = rw e refl

framed_ask : (d : Data) (x : Ask) → ask_from d ≡ Ok x → frame_from (payload_data 8 d) ≡ Ok (frame.Ask x)
unfolding serde_json_on_literals
framed_ask d x e = rw e refl

heartbeat_back : (n : Option ℕ) → frame_from (payload_data 1 (nullable_count n)) ≡ Ok (frame.Heartbeat n)
unfolding serde_json_on_literals
heartbeat_back None = refl
heartbeat_back (Some n) = refl

ask_back : (guild : ℕ) (find : Find) (presences : Option Bool) (nonce : Option (List ℕ)) → IdFits guild → FindFits find → MayFind find →
    let a : Ask = record { guild = guild; find = find; presences = presences; nonce = nonce } in
    ask_from (ask_data a) ≡ Ok a
ask_back guild (Query query limit) presences nonce h k m = query_back guild query limit presences nonce h
ask_back guild (Users ids) presences nonce h k m = users_ask_back guild ids presences nonce h k m

ask_plain : (guild : ℕ) (find : Find) (presences : Option Bool) (nonce : Option (List ℕ)) →
    let a : Ask = record { guild = guild; find = find; presences = presences; nonce = nonce } in
    Plain (ask_data a)
ask_plain guild (Query query limit) presences nonce = query_plain guild query limit presences nonce
ask_plain guild (Users ids) presences nonce = users_ask_plain guild ids presences nonce

pub frame_back : (f : Frame) → FrameFits f → MaySend f → frame_from (frame_data f) ≡ Ok f
frame_back (frame.Heartbeat n) h m = heartbeat_back n
frame_back (frame.Identify i) h m = framed_identify (identify_data i) i (identify_back i.token i.intents i.large_threshold i.shard).0
frame_back (frame.Presence s) h m = framed_presence (presence_data s) s (presence_back s).0
frame_back (frame.Voice v) h m = framed_voice (voice_data v) v (voice_back v.guild v.channel v.self_mute v.self_deaf h.0 h.1)
frame_back (frame.Resume r) h m = framed_resume (resume_data r) r (resume_back r).0
frame_back (frame.Ask a) h m = framed_ask (ask_data a) a (ask_back a.guild a.find a.presences a.nonce h.0 h.1 m)

count_plain : (n : Option ℕ) → Plain (nullable_count n)
count_plain None = (omega arith, refl)
count_plain (Some n) = (omega arith, refl)

pub frame_plain : (f : Frame) → (depth (frame_data f) ≤ 10) × (has_float (frame_data f) ≡ false)
frame_plain (frame.Heartbeat n) = framed_plain 1 (nullable_count n) (count_plain n)
frame_plain (frame.Identify i) = framed_plain 2 (identify_data i) (identify_back i.token i.intents i.large_threshold i.shard).1
frame_plain (frame.Presence s) = framed_plain 3 (presence_data s) (presence_back s).1
frame_plain (frame.Voice v) = framed_plain 4 (voice_data v) (voice_plain v.guild v.channel v.self_mute v.self_deaf)
frame_plain (frame.Resume r) = framed_plain 6 (resume_data r) (resume_back r).1
frame_plain (frame.Ask a) = framed_plain 8 (ask_data a) (ask_plain a.guild a.find a.presences a.nonce)
