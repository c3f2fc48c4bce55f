-- The text of a framed body.
use Rattle.std.proofs.Common.{◌≡◌, ℕ, List, ◌∷◌, [], ◌++◌, Some, append_assoc, refl, ap, sym, ◌∙◌, codes, decimal, arith}
use Rattle.std.proofs.lemmas.Fmt.{decimal_digit}
use Rattle.json.specs.Print.{escape}
use Rattle.serde_json.specs.Data.{Data}
use Rattle.serde_json.specs.Written.{compact_text}
use Rattle.serde_json.proofs.OnLiterals.{serde_json_on_literals}
use Rattle.intent_set.specs.declared.kind.Kind.{Kind}
use Rattle.intent_set.specs.declared.kind.Kind.TheVariants.{Ready, Resumed, GuildCreate, GuildUpdate, GuildDelete, GuildRoleCreate, GuildRoleUpdate, GuildRoleDelete, ChannelCreate, ChannelUpdate, ChannelDelete, ThreadCreate, ThreadUpdate, ThreadDelete, ThreadListSync, ThreadMembersUpdate, GuildMemberAdd, GuildMemberUpdate, GuildMemberRemove, GuildMembersChunk, VoiceStateUpdate, PresenceUpdate, MessageCreate, MessageUpdate, MessageDelete, MessageReactionAdd, MessageReactionRemove, TypingStart}
use Rattle.intent_set.specs.Kind.{name_of}
use Rattle.dispatch_types.specs.declared.dispatch.Dispatch.{Dispatch}
use Rattle.dispatch_types.specs.Kinds.{kind_of}
use Rattle.payload_text.specs.Around.{text_around}
use Rattle.event_json.specs.Body.{body_data}
use Rattle.event_json.specs.Text.{framed, data_of, tail_of, envelope_of}

-- the text of a framed body, piece by piece
abbrev framed_text : List ℕ → ℕ → List ℕ → List ℕ
framed_text body number name =
    codes "{\"d\":" ++ (body ++ (codes ",\"op\":0,\"s\":" ++ (decimal number ++ (codes ",\"t\":\"" ++ (name ++ codes "\"}")))))

plain_frame : (body : Data) (number : ℕ) (name : List ℕ) → escape name ≡ name → framed_text (compact_text body) number name ≡ compact_text (framed body number name)
unfolding serde_json_on_literals
plain_frame body number name plain =
    let close : name ++ codes "\"}" ≡ (escape name ++ 34 ∷ []) ++ 125 ∷ [] = rw plain (sym (append_assoc name (34 ∷ []) (125 ∷ []))) in
    let rest = codes ",\"t\":\"" ++ ((escape name ++ 34 ∷ []) ++ 125 ∷ []) in
    ap (λ t. codes "{\"d\":" ++ (compact_text body ++ (codes ",\"op\":0,\"s\":" ++ (decimal number ++ (codes ",\"t\":\"" ++ t))))) close
    ∙ ap (λ z. codes "{\"d\":" ++ (compact_text body ++ (codes ",\"op\":" ++ (z ++ (codes ",\"s\":" ++ (decimal number ++ rest)))))) (sym (decimal_digit 0 (omega arith)))

-- no name has a character that is escaped
plain_name : (k : Kind) → escape (name_of k) ≡ name_of k
unfolding serde_json_on_literals
plain_name Ready = refl
plain_name Resumed = refl
plain_name GuildCreate = refl
plain_name GuildUpdate = refl
plain_name GuildDelete = refl
plain_name GuildRoleCreate = refl
plain_name GuildRoleUpdate = refl
plain_name GuildRoleDelete = refl
plain_name ChannelCreate = refl
plain_name ChannelUpdate = refl
plain_name ChannelDelete = refl
plain_name ThreadCreate = refl
plain_name ThreadUpdate = refl
plain_name ThreadDelete = refl
plain_name ThreadListSync = refl
plain_name ThreadMembersUpdate = refl
plain_name GuildMemberAdd = refl
plain_name GuildMemberUpdate = refl
plain_name GuildMemberRemove = refl
plain_name GuildMembersChunk = refl
plain_name VoiceStateUpdate = refl
plain_name PresenceUpdate = refl
plain_name MessageCreate = refl
plain_name MessageUpdate = refl
plain_name MessageDelete = refl
plain_name MessageReactionAdd = refl
plain_name MessageReactionRemove = refl
plain_name TypingStart = refl

pub framed_is : (body : Data) (number : ℕ) (k : Kind) → framed_text (compact_text body) number (name_of k) ≡ compact_text (framed body number (name_of k))
framed_is body number k = plain_frame body number (name_of k) (plain_name k)

-- with a number in it, what stands round the number is the text
pub numbered_is : (d : Dispatch) (number : ℕ) → text_around (envelope_of d) (Some number) ≡ compact_text (data_of d number)
numbered_is d number =
    let body = compact_text (body_data d) in
    let later = decimal number ++ tail_of (name_of (kind_of d)) in
    append_assoc (codes "{\"d\":") (body ++ codes ",\"op\":0,\"s\":") later
    ∙ (ap (λ t. codes "{\"d\":" ++ t) (append_assoc body (codes ",\"op\":0,\"s\":") later)
    ∙ framed_is (body_data d) number (kind_of d))
