-- Which edits owe a dispatch about messages, reactions or typing: those of messages alone.
use Rattle.std.proofs.Common.{◌≡◌, ℕ, Bool, true, false, List, [], ◌∷◌, ◌++◌, Option, Some, None, if◌then◌else◌, ◌⊎◌, inl, inr, refl}
use Rattle.std.specs.Prelude.{All, ◌&&◌, not, flat_map, map}
use Rattle.std.specs.List.{range_with_len}
use Rattle.std.proofs.lemmas.List.Elements.{All-nil, All-cons, All-append, All-weaker}
use Rattle.perm_bits.specs.Bits.{has_bit}
use Rattle.intent_set.specs.Asks.{asks}
use Rattle.intent_set.specs.Intents.{guilds}
use Rattle.guild_model.specs.declared.channel.Channel.{Channel}
use Rattle.guild_model.specs.declared.member.Member.{Member}
use Rattle.guild_model.specs.declared.thread.Thread.{Thread}
use Rattle.guild_model.specs.Record.{Record}
use Rattle.dispatch_types.specs.declared.viewer.Viewer.{Viewer}
use Rattle.dispatch_types.specs.declared.dispatch.Dispatch.{Dispatch}
use Rattle.dispatch_types.specs.declared.dispatch.Dispatch.TheVariants.{GuildCreate, GuildDelete, GuildMembersChunk, MessageCreate, MessageUpdate, MessageDelete, MessageReactionAdd, MessageReactionRemove, TypingStart}
use Rattle.dispatch_types.specs.Kinds.{kind_of}
use Rattle.dispatch_types.specs.Serves.{served}
use Rattle.gateway_frames.specs.declared.frame.Ask.{Ask}
use Rattle.member_chunks.specs.Answered.{answered, chunk, chunk_count, chunks, found, is_answered}
use Rattle.message_edit.specs.declared.MessageEdit.{MessageEdit}
use Rattle.event_views.specs.Asked.{asked}
use Rattle.edit_apply.specs.declared.Edit.{Edit}
use Rattle.edit_apply.specs.declared.Edit.TheVariants as edit
use Rattle.edit_apply.specs.declared.guild.GuildEdit.TheVariants.{GuildOutage, GuildBack}
use Rattle.edit_apply.specs.Edits.{accepts, applied}
use Rattle.whole_events.specs.Dispatches.{whole_dispatches}
use Rattle.edit_events.specs.Due.{withholds, dispatches, due, due_of_accepted, due_to}
use Rattle.edit_events.proofs.Owed.{IsOther, IsOwed, owed, told-owed}
use Rattle.edit_events.specs.Greeting.{greeting}
use Rattle.world_law.specs.Greeting.{greeting_for, greeting_of}
use Rattle.world_law.specs.Wants.{answered_by}
use Rattle.world_law.specs.Entries.{about_messages}

-- a dispatch that is not about messages
abbrev pub IsQuiet : Dispatch → Type 0
IsQuiet d = about_messages d ≡ false

-- no dispatch of these is about messages
abbrev pub AreQuiet : List Dispatch → Type 0
AreQuiet ds = All IsQuiet ds

none : AreQuiet []
none = All-nil IsQuiet

one_if : (b : Bool) (d : Dispatch) → IsQuiet d → AreQuiet (if b then d ∷ [] else [])
one_if true d quiet = All-cons IsQuiet d [] quiet none
one_if false d quiet = none

asked-quiet : (v : Viewer) (own : Bool) (d : Dispatch) → IsQuiet d → AreQuiet (asked v own d)
asked-quiet v own d quiet = one_if (asks v.intents (kind_of d) own) d quiet

both : (ds es : List Dispatch) → AreQuiet ds → AreQuiet es → AreQuiet (ds ++ es)
both ds es first second = All-append IsQuiet ds es first second

each : {T : Type 0} (f : T → List Dispatch) → ((x : T) → AreQuiet (f x)) → (xs : List T) → AreQuiet (flat_map f xs)
each f quiet [] = none
each f quiet (x ∷ xs) = both (f x) (flat_map f xs) (quiet x) (each f quiet xs)

-- ---- what an edit owes

abbrev pub IsOfMessage : Edit → Type 0
IsOfMessage e = (m : MessageEdit) × (e ≡ edit.Message m)

pub by_kind : (e : Edit) → IsOfMessage e ⊎ IsOther e
by_kind (edit.Guild e) = inr tt
by_kind (edit.RoleMember e) = inr tt
by_kind (edit.Channel e) = inr tt
by_kind (edit.Thread e) = inr tt
by_kind (edit.VoicePresence e) = inr tt
by_kind (edit.Message m) = inl (m, refl)

-- what an edit of no messages owes is quiet
owed-quiet : (d : Dispatch) → IsOwed d → IsQuiet d
owed-quiet (MessageCreate message) is = absurd (cc)
owed-quiet (MessageUpdate message) is = absurd (cc)
owed-quiet (MessageDelete delete) is = absurd (cc)
owed-quiet (MessageReactionAdd reaction) is = absurd (cc)
owed-quiet (MessageReactionRemove reaction) is = absurd (cc)
owed-quiet (TypingStart typing) is = absurd (cc)
owed-quiet d is = refl

dispatches-quiet : (before : Record) (me : Member) (after : Record) (me' : Member) (v : Viewer) (e : Edit) → IsOther e → AreQuiet (dispatches before me after me' v e)
dispatches-quiet before me after me' v (edit.Guild GuildOutage) other = asked-quiet v false (GuildDelete (record { id = after.id; unavailable = true })) refl
dispatches-quiet before me after me' v (edit.Guild GuildBack) other = asked-quiet v false (GuildCreate (greeting after v me')) refl
dispatches-quiet before me after me' v e other =
    All-weaker IsOwed IsQuiet owed-quiet (dispatches before me after me' v e) (told-owed before me after me' v (withholds before after e) (whole_dispatches before me after me' v e) (owed before me after me' v e other))

due_to-quiet : (before : Record) (o : Option Member) (after : Record) (o' : Option Member) (v : Viewer) (e : Edit) → IsOther e → AreQuiet (due_to before o after o' v e)
due_to-quiet before None after None v e other = none
due_to-quiet before None after (Some me') v e other = asked-quiet v false (GuildCreate (greeting after v me')) refl
due_to-quiet before (Some me) after None v e other = asked-quiet v false (GuildDelete (record { id = after.id; unavailable = false })) refl
due_to-quiet before (Some me) after (Some me') v e other = dispatches-quiet before me after me' v e other

pub due-quiet : (s : Record) (e : Edit) (v : Viewer) → IsOther e → AreQuiet (due s e v)
unfolding due
due-quiet s e v other = by_verdict (accepts s e)
  where
    by_verdict : (b : Bool) → AreQuiet (if b then due_of_accepted s e v else [])
    by_verdict true = due_to-quiet s (served v s) (applied s e) (served v (applied s e)) v e other
    by_verdict false = none

-- ---- what no entry made

greeting-quiet : (v : Viewer) (s : Record) (o : Option Member) → AreQuiet (greeting_for v s o)
greeting-quiet v s None = none
greeting-quiet v s (Some me) = one_if (has_bit v.intents guilds && not s.outage) (GuildCreate (greeting s v me)) refl

pub greetings_quiet : (v : Viewer) (records : List Record) → AreQuiet (flat_map (greeting_of v) records)
greetings_quiet v records = each (greeting_of v) (λ s. greeting-quiet v s (served v s)) records

answered-quiet : (s : Record) (v : Viewer) (ask : Ask) → AreQuiet (answered s v ask)
unfolding answered
answered-quiet s v ask = by_answer (is_answered s v ask)
  where
    by_index : (ms : List Member) (ns : List ℕ) → AreQuiet (map (λ index. GuildMembersChunk (chunk s ask ms index)) ns)
    by_index ms [] = none
    by_index ms (n ∷ ns) = All-cons IsQuiet (GuildMembersChunk (chunk s ask ms n)) _ refl (by_index ms ns)

    by_answer : (b : Bool) → AreQuiet (if b then chunks s ask (found s ask.find) else [])
    by_answer true = by_index (found s ask.find) (range_with_len 0 (chunk_count (found s ask.find)))
    by_answer false = none

pub answer_quiet : (v : Viewer) (ask : Ask) (o : Option Record) → AreQuiet (answered_by v ask o)
answer_quiet v ask None = none
answer_quiet v ask (Some s) = answered-quiet s v ask
