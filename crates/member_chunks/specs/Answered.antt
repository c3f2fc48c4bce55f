-- What a request for members of a guild is answered with (Gateway Events, Request Guild Members;
-- Guild Members Chunk).
use Rattle.std.specs.Prelude.{ℕ, ◌*◌, min, max, List, [], map, filter, filter_map, length, take, drop, Bool, true, false, not, ◌&&◌, ◌||◌, ◌==◌, nat_lt, Option, Some, None, unwrap_or, option_map, if◌then◌else◌}
use Rattle.std.specs.List.{starts_with, range_with_len}
use Rattle.std.specs.Int.{div_ceil}
use Rattle.collections.specs.ById.{find_id, has_id, put_all, keep_if}
use Rattle.perm_bits.specs.Bits.{has_bit}
use Rattle.intent_set.specs.Intents.{guild_members, guild_presences}
use Rattle.guild_model.specs.declared.member.Member.{Member}
use Rattle.guild_model.specs.Record.{Record, own_id, member_id, presence_id}
use Rattle.gateway_frames.specs.declared.frame.Ask.{Ask}
use Rattle.gateway_frames.specs.declared.frame.Find.{Find}
use Rattle.gateway_frames.specs.declared.frame.Find.TheVariants.{Query, Users}
use Rattle.dispatch_types.specs.declared.viewer.Viewer.{Viewer}
use Rattle.dispatch_types.specs.declared.presences.PresenceObject.{PresenceObject}
use Rattle.dispatch_types.specs.declared.members.MembersChunk.{MembersChunk}
use Rattle.dispatch_types.specs.declared.dispatch.Dispatch.{Dispatch}
use Rattle.dispatch_types.specs.declared.dispatch.Dispatch.TheVariants.{GuildMembersChunk}
use Rattle.dispatch_types.specs.Objects.{member_object, presence_object}
use Rattle.dispatch_types.specs.Serves.{serves}

-- ---- whether it is answered

abbrev pub wants_presences : Ask → Bool
wants_presences ask = unwrap_or ask.presences false

-- an empty query needs GUILD_MEMBERS, whatever its limit
abbrev pub may_find : Viewer → Find → Bool
may_find v (Query query limit) = not (length query == 0) || has_bit v.intents guild_members
may_find v (Users ids) = true

-- presences need GUILD_PRESENCES
abbrev pub may_ask : Viewer → Ask → Bool
may_ask v ask =
    may_find v ask.find && (not (wants_presences ask) || has_bit v.intents guild_presences)

-- the guild is the one asked for, it is served and available, and the viewer has the intents
abbrev pub is_answered : Record → Viewer → Ask → Bool
is_answered s v ask = ask.guild == s.id && (serves v s && (not s.outage && may_ask v ask))

-- ---- who is asked for

-- how many a query finds at most: its limit and 100; without a limit 100, and all where it is empty
abbrev pub most : List ℕ → ℕ → Option ℕ
most query limit =
    if limit == 0 then (if length query == 0 then None else Some 100) else Some (min limit 100)

abbrev pub at_most : {T : Type 0} → Option ℕ → List T → List T
at_most None xs = xs
at_most (Some n) xs = take n xs

-- the user's name begins with these bytes
abbrev pub is_named : List ℕ → Member → Bool
is_named query m = starts_with (λ a b. a == b) m.user.name query

-- user ids, each once and ascending
abbrev pub each_once : List ℕ → List ℕ
each_once ids = put_all own_id [] ids

-- the members that are asked for, in order of id
abbrev pub found : Record → Find → List Member
found s (Query query limit) =
    at_most (most query (unwrap_or limit 0)) (filter (is_named query) s.members)
found s (Users ids) = filter_map (λ id. find_id member_id id s.members) (each_once ids)

-- the user ids that are asked for and are no members'
abbrev pub not_found : Record → Find → List ℕ
not_found s (Query query limit) = []
not_found s (Users ids) = filter (λ id. not (has_id member_id id s.members)) (each_once ids)

-- ---- the chunks

-- a list in chunks of 1,000, the last of which may be shorter; an empty list is one empty chunk
abbrev pub chunk_count : {T : Type 0} → List T → ℕ
chunk_count xs = max 1 (div_ceil (length xs) 1000)

abbrev pub part : {T : Type 0} → List T → ℕ → List T
part xs index = take 1000 (drop (index * 1000) xs)

-- a nonce of more than 32 bytes is ignored
abbrev pub given_back : Option (List ℕ) → Option (List ℕ)
given_back nonce = keep_if (λ bytes. not (nat_lt 32 (length bytes))) nonce

-- the presence of a member, where it has one
abbrev pub presence_told : Record → Member → Option PresenceObject
presence_told s m = option_map (presence_object s.id) (find_id presence_id m.user.id s.presences)

-- presences stand in a chunk where they are asked for
abbrev pub presences_told : Record → Ask → List Member → Option (List PresenceObject)
presences_told s ask ms =
    if wants_presences ask then Some (filter_map (presence_told s) ms) else None

-- the chunk with this number, from 0, of an answer with these members
abbrev pub chunk : Record → Ask → List Member → ℕ → MembersChunk
chunk s ask ms index = record {
  guild = s.id;
  members = map member_object (part ms index);
  index = index;
  count = chunk_count ms;
  nonce = given_back ask.nonce;
  not_found = not_found s ask.find;
  presences = presences_told s ask (part ms index);
}

abbrev pub chunks : Record → Ask → List Member → List Dispatch
chunks s ask ms =
    map (λ index. GuildMembersChunk (chunk s ask ms index)) (range_with_len 0 (chunk_count ms))

-- nothing where it is not answered
unfoldable pub answered : Record → Viewer → Ask → List Dispatch
answered s v ask = if is_answered s v ask then chunks s ask (found s ask.find) else []
