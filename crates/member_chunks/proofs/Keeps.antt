-- A client that is told an answer still holds the projection.
use Rattle.std.proofs.Common.{◌≡◌, ℕ, Bool, true, false, not, ◌&&◌, List, [], ◌∷◌, map, Option, Some, None, if◌then◌else◌, refl, sym, ap, subst, ◌∙◌}
use Rattle.std.specs.Prelude.{◌==◌, All, filter, is_some}
use Rattle.std.specs.List.{range_with_len, slice_index_or}
use Rattle.std.proofs.lemmas.List.Elements.{All-nil, All-cons, All-head, All-tail, All-map}
use Rattle.collections.specs.ById.{find_id, put_id, put_all, IsById}
use Rattle.collections.proofs.Filters.{put-same}
use Rattle.collections.proofs.Mapped.{map-after}
use Rattle.perm_bits.specs.Bits.{has_bit}
use Rattle.intent_set.specs.Intents.{guilds, guild_members}
use Rattle.guild_model.specs.declared.member.Member.{Member}
use Rattle.guild_model.specs.Record.{Record, own_id, member_id}
use Rattle.guild_model.specs.Ascending.{IsWell}
use Rattle.guild_model.specs.Shown.{shown_part}
use Rattle.gateway_frames.specs.declared.frame.Ask.{Ask}
use Rattle.dispatch_types.specs.declared.viewer.Viewer.{Viewer}
use Rattle.dispatch_types.specs.declared.view.OpenView.{OpenView}
use Rattle.dispatch_types.specs.declared.view.GuildView.{GuildView}
use Rattle.dispatch_types.specs.declared.view.GuildView.TheVariants.{Open}
use Rattle.dispatch_types.specs.declared.dispatch.Dispatch.{Dispatch}
use Rattle.dispatch_types.specs.declared.dispatch.Dispatch.TheVariants.{GuildMembersChunk}
use Rattle.dispatch_types.specs.Objects.{member_object, member_of}
use Rattle.dispatch_types.specs.Serves.{served, serves}
use Rattle.dispatch_types.specs.Projection.{listed, is_known, open_view, projection}
use Rattle.dispatch_types.specs.GuildOf.{guild_of}
use Rattle.dispatch_types.specs.Fold.{Held, user_id, on_open, set_members, purged, purge, folded, fold_from}
use Rattle.dispatch_types.proofs.Objects.{members-back}
use Rattle.dispatch_types.proofs.Views.{purged-open, projection-blind, projection-open}
use Rattle.dispatch_types.proofs.Folds.{folded-here, fold-elsewhere}
use Rattle.event_views.proofs.Steps.{turned}
use Rattle.event_views.proofs.Lists.{known-put, listed-again}
use Rattle.member_chunks.specs.Answered.{is_answered, may_ask, found, part, chunk_count, chunk, chunks, answered}
use Rattle.member_chunks.specs.Law.{AnswerKeeps, chunk_told, EachChunkKeeps, EachChunkStays}
use Rattle.member_chunks.proofs.Found.{of_found, of_part, each_there}

-- a client that has begun with a bot and holds the projection
record Holds (s : Record) (v : Viewer) (user : ℕ) (h : Held) : Type 0 where
  pub bot : h.bot ≡ user
  pub view : h.view ≡ projection s v h.known

-- a member as it stands in the record
record Stands (s : Record) (m : Member) : Type 0 where
  pub there : find_id member_id m.user.id s.members ≡ Some m
  pub roles : IsById own_id m.roles

-- members that are told are known, and held as they stand
known-more : (known : List ℕ) (xs ms : List Member) → IsById member_id xs → All (λ (m : Member). find_id member_id m.user.id xs ≡ Some m) ms
    → put_all member_id (filter (is_known known) xs) ms ≡ filter (is_known (put_all own_id known (map member_id ms))) xs
known-more known xs [] h there = refl
known-more known xs (m ∷ ms) h there =
    let put : put_id member_id m xs ≡ xs = put-same member_id m xs h (All-head (λ (m : Member). find_id member_id m.user.id xs ≡ Some m) m ms there) in
    ap (λ ys. put_all member_id ys ms) (known-put m known xs h ∙ ap (filter (is_known (put_id own_id m.user.id known))) put)
    ∙ known-more (put_id own_id m.user.id known) xs ms h (All-tail (λ (m : Member). find_id member_id m.user.id xs ≡ Some m) m ms there)

view-more : (s : Record) (intents : ℕ) (known : List ℕ) (me : Member) (ms : List Member) → IsById member_id s.members → All (λ (m : Member). find_id member_id m.user.id s.members ≡ Some m) ms
    → set_members intents ms (open_view s intents known me) ≡ open_view s intents (put_all own_id known (map member_id ms)) me
view-more s intents known me ms h there =
    ap (λ (xs : List Member). record (open_view s intents known me) { members = xs })
    (listed-again intents guild_members (λ xs. put_all member_id xs ms) (filter (is_known known) s.members)
    ∙ ap (listed intents guild_members) (known-more known s.members ms h there))

module _ (s : Record) (v : Viewer) (me : Member) (well : IsWell s) (is_served : served v s ≡ Some me) (available : s.outage ≡ false) (user : ℕ) where
  -- members of the record, where the viewer is served it
  abbrev after : List Member → Held → Held
  after ms h = turned v.intents s.id (set_members v.intents ms) (λ known. put_all own_id known (map member_id ms)) h

  view-after : (ms : List Member) (h : Held) → All (Stands s) ms → h.view ≡ projection s v h.known
      → on_open (purged v.intents s.id) (on_open (set_members v.intents ms) h.view) ≡ projection s v (put_all own_id h.known (map member_id ms))
  view-after ms h stand view = by_guilds (has_bit v.intents guilds) refl
    where
      known : List ℕ
      known = put_all own_id h.known (map member_id ms)

      change : Option GuildView → Option GuildView
      change o = on_open (purged v.intents s.id) (on_open (set_members v.intents ms) o)

      by_guilds : (b : Bool) → has_bit v.intents guilds ≡ b → change h.view ≡ projection s v known
      by_guilds true asks =
          ap change (view ∙ projection-open s v h.known me asks is_served available)
          ∙ (ap (λ (w : OpenView). Some (Open (purged v.intents s.id w))) (view-more (shown_part s me) v.intents h.known me ms well.ascending.members there)
          ∙ (ap (λ (w : OpenView). Some (Open w)) (purged-open (shown_part s me) v.intents known me)
          ∙ sym (projection-open s v known me asks is_served available)))
        where
          there : All (λ (m : Member). find_id member_id m.user.id s.members ≡ Some m) ms
          there = λ k d lt. (stand k d lt).there
      by_guilds false lacks = ap change (view ∙ projection-blind s v h.known lacks) ∙ sym (projection-blind s v known lacks)

  holds-after : (ms : List Member) (h : Held) → All (Stands s) ms → Holds s v user h → Holds s v user (after ms h)
  holds-after ms h stand holds = record { bot = holds.bot; view = view-after ms h stand holds.view }

  one : (ask : Ask) (ms : List Member) (index : ℕ) (h : Held) → All (Stands s) ms → Holds s v user h → Holds s v user (folded v.intents s.id h (GuildMembersChunk (chunk s ask ms index)))
  one ask ms index h stand holds =
      let ps : List Member = part ms index in
      let stand_here : All (Stands s) ps = of_part (Stands s) ms index stand in
      let back : map member_of (map member_object ps) ≡ ps = members-back ps (λ k d lt. (stand_here k d lt).roles) in
      let ids : map user_id (map member_object ps) ≡ map member_id ps = map-after member_object user_id member_id (λ m. refl) ps in
      let makes : folded v.intents s.id h (GuildMembersChunk (chunk s ask ms index)) ≡ after ps h =
      folded-here v.intents s.id h (GuildMembersChunk (chunk s ask ms index)) refl refl
      ∙ (ap (λ (xs : List Member). turned v.intents s.id (set_members v.intents xs) (λ known. put_all own_id known (map user_id (map member_object ps))) h) back
      ∙ ap (λ (us : List ℕ). turned v.intents s.id (set_members v.intents ps) (λ known. put_all own_id known us) h) ids) in
      subst (λ (held : Held). Holds s v user held) (sym makes) (holds-after ps h stand_here holds)

  each : (ask : Ask) (ms : List Member) (indices : List ℕ) (h : Held) → All (Stands s) ms → Holds s v user h
      → Holds s v user (fold_from v.intents s.id h (map (λ index. GuildMembersChunk (chunk s ask ms index)) indices))
  each ask ms [] h stand holds = holds
  each ask ms (index ∷ indices) h stand holds =
      each ask ms indices (folded v.intents s.id h (GuildMembersChunk (chunk s ask ms index))) stand (one ask ms index h stand holds)

-- who is answered is served an available guild
both : (a b : Bool) → (a && b) ≡ true → (a ≡ true) × (b ≡ true)
both true true e = (refl, refl)
both true false e = absurd (cc)
both false b e = absurd (cc)

is_no : (b : Bool) → not b ≡ true → b ≡ false
is_no true e = absurd (cc)
is_no false e = refl

each-stands : (s : Record) → IsWell s → All (Stands s) s.members
each-stands s well = λ k d lt. record { there = each_there s.members well.ascending.members k d lt; roles = well.ascending.held k d lt }

pub answer_keeps : AnswerKeeps
unfolding answered
answer_keeps s v ask h well view = by_answer (is_answered s v ask) refl
  where
    chunked : List Dispatch
    chunked = chunks s ask (found s ask.find)

    by_member : (o : Option Member) → served v s ≡ o → is_some o ≡ true → s.outage ≡ false → Holds s v h.bot (fold_from v.intents s.id h chunked)
    by_member None e some available = absurd (cc)
    by_member (Some me) e some available =
        each s v me well e available h.bot ask (found s ask.find) (range_with_len 0 (chunk_count (found s ask.find))) h
        (of_found s (Stands s) (each-stands s well) ask.find) (record { bot = refl; view = view })

    by_answer : (b : Bool) → is_answered s v ask ≡ b
        → ((fold_from v.intents s.id h (if b then chunked else [])).bot ≡ h.bot)
        × ((fold_from v.intents s.id h (if b then chunked else [])).view ≡ projection s v (fold_from v.intents s.id h (if b then chunked else [])).known)
    by_answer false e = (refl, view)
    by_answer true e =
        let here = both (ask.guild == s.id) (serves v s && (not s.outage && may_ask v ask)) e in
        let serving = both (serves v s) (not s.outage && may_ask v ask) here.1 in
        let able = both (not s.outage) (may_ask v ask) serving.1 in
        let holds = by_member (served v s) refl serving.0 (is_no s.outage able.0) in
        (holds.bot, holds.view)

abbrev Keeps : Record → Viewer → Dispatch → Type 0
Keeps s v d = (h : Held) → h.view ≡ projection s v h.known → ((chunk_told s v h d).bot ≡ h.bot) × ((chunk_told s v h d).view ≡ projection s v (chunk_told s v h d).known)

pub each_chunk_keeps : EachChunkKeeps
unfolding answered
each_chunk_keeps s v ask well = by_answer (is_answered s v ask) refl
  where
    ms : List Member
    ms = found s ask.find

    by_member : (o : Option Member) → served v s ≡ o → is_some o ≡ true → s.outage ≡ false → (index : ℕ) → Keeps s v (GuildMembersChunk (chunk s ask ms index))
    by_member None e some available = absurd (cc)
    by_member (Some me) e some available = λ index h view.
        let holds = one s v me well e available h.bot ask ms index h (of_found s (Stands s) (each-stands s well) ask.find) (record { bot = refl; view = view }) in
        (holds.bot, holds.view)

    by_answer : (b : Bool) → is_answered s v ask ≡ b → All (Keeps s v) (if b then chunks s ask ms else [])
    by_answer false e = All-nil (Keeps s v)
    by_answer true e =
        let here = both (ask.guild == s.id) (serves v s && (not s.outage && may_ask v ask)) e in
        let serving = both (serves v s) (not s.outage && may_ask v ask) here.1 in
        let able = both (not s.outage) (may_ask v ask) serving.1 in
        let each = by_member (served v s) refl serving.0 (is_no s.outage able.0) in
        All-map (Keeps s v) (λ index. GuildMembersChunk (chunk s ask ms index)) (range_with_len 0 (chunk_count ms)) (λ k index lt. each (slice_index_or (range_with_len 0 (chunk_count ms)) k index))

abbrev Stays : Record → Viewer → ℕ → Dispatch → Type 0
Stays s v g d = (h : Held) → purge v.intents g h ≡ h → folded v.intents g h d ≡ h

pub each_chunk_stays : EachChunkStays
unfolding answered
each_chunk_stays s v ask g other = by_answer (is_answered s v ask)
  where
    ms : List Member
    ms = found s ask.find

    one_stays : (index : ℕ) → Stays s v g (GuildMembersChunk (chunk s ask ms index))
    one_stays index h stays =
        let own : All (λ (d : Dispatch). guild_of d ≡ Some s.id) (GuildMembersChunk (chunk s ask ms index) ∷ []) =
        All-cons (λ (d : Dispatch). guild_of d ≡ Some s.id) (GuildMembersChunk (chunk s ask ms index)) [] refl (All-nil (λ (d : Dispatch). guild_of d ≡ Some s.id)) in
        fold-elsewhere v.intents g h s.id (GuildMembersChunk (chunk s ask ms index) ∷ []) own other stays

    by_answer : (b : Bool) → All (Stays s v g) (if b then chunks s ask ms else [])
    by_answer true = All-map (Stays s v g) (λ index. GuildMembersChunk (chunk s ask ms index)) (range_with_len 0 (chunk_count ms)) (λ k index lt. one_stays (slice_index_or (range_with_len 0 (chunk_count ms)) k index))
    by_answer false = All-nil (Stays s v g)
