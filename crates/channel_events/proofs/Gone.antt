-- A channel that is deleted, with the voice states in it, and what a client then holds: one dispatch after
-- another, over the records between.
use Rattle.std.proofs.Common.{◌≡◌, ℕ, Bool, true, false, not, List, [], ◌∷◌, ◌++◌, map, Option, Some, None, if◌then◌else◌, refl, sym, ap, subst, ◌∙◌, arith}
use Rattle.std.specs.Prelude.{◌==◌, filter, flat_map, is_some, option_map}
use Rattle.std.proofs.lemmas.Bool.{eqb-true}
use Rattle.std.proofs.lemmas.Bool.Decides.{nat_tests}
use Rattle.collections.specs.ById.{find_id, has_id, put_id, without_id, keep_if, or_else, IsById}
use Rattle.collections.proofs.Ids.{IsById-put}
use Rattle.collections.proofs.Finds.{key-found, same_by_id, find-put, find-without, find-filter, find-map, IsById-filter, IsById-map, IsById-without}
use Rattle.collections.proofs.Filters.{filter-filter}
use Rattle.collections.proofs.Has.{All-found}
use Rattle.perm_bits.specs.Bits.{has_bit}
use Rattle.intent_set.specs.Intents.{guilds, guild_voice_states}
use Rattle.guild_model.specs.declared.member.Member.{Member}
use Rattle.guild_model.specs.declared.channel.Channel.{Channel}
use Rattle.guild_model.specs.declared.thread.Thread.{Thread}
use Rattle.guild_model.specs.declared.voice.Voice.{Voice}
use Rattle.guild_model.specs.Record.{Record, own_id, channel_id, voice_id, speaks_in}
use Rattle.guild_model.specs.Ascending.{IsAscending, HasOrderedOverwrites}
use Rattle.guild_model.specs.Sight.{standing}
use Rattle.channel_edit.specs.ChannelEnd.{orphaned, speaks_outside, channel_deleted}
use Rattle.channel_edit.proofs.Ascends
use Rattle.dispatch_types.specs.declared.viewer.Viewer.{Viewer}
use Rattle.dispatch_types.specs.declared.view.ThreadView.{ThreadView}
use Rattle.dispatch_types.specs.declared.dispatch.Dispatch.{Dispatch}
use Rattle.dispatch_types.specs.declared.dispatch.Dispatch.TheVariants.{ChannelUpdate, ChannelDelete}
use Rattle.dispatch_types.specs.Objects.{channel_object}
use Rattle.dispatch_types.specs.Projection.{listed, thread_view, open_view}
use Rattle.dispatch_types.specs.Fold.{Held, drop_channel, fold_from}
use Rattle.dispatch_types.proofs.Folds.{folded-here}
use Rattle.thread_sync.specs.Sight.{KeepsGrants}
use Rattle.thread_sync.proofs.Grants.{overwrites_in, granted-channels}
use Rattle.thread_sync.proofs.Sights.{same-sight, channel-gone}
use Rattle.event_views.specs.Has.{Has}
use Rattle.event_views.proofs.Steps.{same, whole, by_guilds, fold-append}
use Rattle.event_views.proofs.Voices.{follows-voice_gone}
use Rattle.channel_events.specs.Dispatches.{is_child, voices_in, children_of, told_of, updated, gone, deleted}
use Rattle.event_views.specs.Ended.{voice_ends}
use Rattle.channel_events.proofs.Puts.{with_channels, follows-channel_changed}

-- ---- the voice states in it, one after another

abbrev with_voices : Record → List Voice → Record
with_voices s vs = record s { voices = vs }

abbrev without_voices : List Voice → List Voice → List Voice
without_voices [] vs = vs
without_voices (x ∷ xs) vs = without_voices xs (without_id voice_id x.user vs)

without_voices-ascend : (xs vs : List Voice) → IsById voice_id vs → IsById voice_id (without_voices xs vs)
without_voices-ascend [] vs h = h
without_voices-ascend (x ∷ xs) vs h = without_voices-ascend xs (without_id voice_id x.user vs) (IsById-without voice_id x.user vs h)

find-without_voices : (id : ℕ) (xs vs : List Voice) → find_id voice_id id (without_voices xs vs) ≡ (if has_id voice_id id xs then None else find_id voice_id id vs)
find-without_voices id [] vs = refl
find-without_voices id (x ∷ xs) vs = grind (arith, nat_tests, find-without_voices id xs (without_id voice_id x.user vs), find-without voice_id x.user id vs)

-- without those in a channel the others stay
voices-left : (channel : ℕ) (vs : List Voice) → IsById voice_id vs → without_voices (filter (speaks_in channel) vs) vs ≡ filter (speaks_outside channel) vs
voices-left channel vs h =
    same_by_id voice_id _ _ (without_voices-ascend (filter (speaks_in channel) vs) vs h) (IsById-filter voice_id (speaks_outside channel) vs h)
    (λ id. find-without_voices id (filter (speaks_in channel) vs) vs
    ∙ (ap (λ o. if is_some o then None else find_id voice_id id vs) (find-filter voice_id (speaks_in channel) id vs h)
    ∙ (at (find_id voice_id id vs) ∙ sym (find-filter voice_id (speaks_outside channel) id vs h))))
  where
    at : (o : Option Voice) → (if is_some (keep_if (speaks_in channel) o) then None else o) ≡ keep_if (speaks_outside channel) o
    at None = refl
    at (Some x) = grind arith

follows-voices : (s : Record) (v : Viewer) (h : Held) (me : Member) (xs vs : List Voice) → Has (with_voices s vs) v me h
    → Has (with_voices s (without_voices xs vs)) v me (fold_from v.intents s.id h (flat_map (voice_ends s.id v) xs))
follows-voices s v h me [] vs has = has
follows-voices s v h me (x ∷ xs) vs has =
    let one : Has (with_voices s (without_id voice_id x.user vs)) v me (fold_from v.intents s.id h (voice_ends s.id v x)) = follows-voice_gone (with_voices s vs) v h me x false has in
    subst (λ (k : Held). Has (with_voices s (without_voices (x ∷ xs) vs)) v me k) (sym (fold-append v.intents s.id h (voice_ends s.id v x) (flat_map (voice_ends s.id v) xs)))
    (follows-voices s v (fold_from v.intents s.id h (voice_ends s.id v x)) me xs (without_id voice_id x.user vs) one)

-- ---- its children, one after another: each is put as it is after the edit

module _ (s : Record) (channel : ℕ) (ascends : IsAscending s) where
  abbrev after : Record
  after = channel_deleted s channel

  abbrev quiet : Record
  quiet = with_voices s (filter (speaks_outside channel) s.voices)

  abbrev put_found : Option Channel → List Channel → List Channel
  put_found None cs = cs
  put_found (Some c) cs = put_id channel_id c cs

  abbrev put_each : List ℕ → List Channel → List Channel
  put_each [] cs = cs
  put_each (id ∷ ids) cs = put_each ids (put_found (find_id channel_id id after.channels) cs)

  find-after : (id : ℕ) → find_id channel_id id after.channels ≡ option_map (orphaned channel) (if channel == id then None else find_id channel_id id s.channels)
  find-after id = find-map channel_id channel_id (orphaned channel) (λ c. refl) id (without_id channel_id channel s.channels) ∙ ap (option_map (orphaned channel)) (find-without channel_id channel id s.channels)

  -- with its overwrites
  abbrev Alike : List Channel → Type 0
  Alike cs = (id : ℕ) → option_map overwrites_in (find_id channel_id id cs) ≡ option_map overwrites_in (find_id channel_id id s.channels)

  found-before : (id : ℕ) (c : Channel) → find_id channel_id id after.channels ≡ Some c → option_map overwrites_in (find_id channel_id id s.channels) ≡ Some c.overwrites
  found-before id c found = by_case (channel == id) (find_id channel_id id s.channels) (sym (find-after id) ∙ found)
    where
      by_case : (b : Bool) (o : Option Channel) → option_map (orphaned channel) (if b then None else o) ≡ Some c → option_map overwrites_in o ≡ Some c.overwrites
      by_case true o e = absurd (cc)
      by_case false None e = absurd (cc)
      by_case false (Some x) e = let is : orphaned channel x ≡ c = cc in ap (λ (y : Channel). Some y.overwrites) is

  alike-put : (cs : List Channel) (id : ℕ) (c : Channel) → find_id channel_id id after.channels ≡ Some c → Alike cs → Alike (put_id channel_id c cs)
  alike-put cs id c found alike other =
      ap (option_map overwrites_in) (find-put channel_id c other cs) ∙ by_case (c.id == other) refl
    where
      by_case : (b : Bool) → (c.id == other) ≡ b → option_map overwrites_in (if b then Some c else find_id channel_id other cs) ≡ option_map overwrites_in (find_id channel_id other s.channels)
      by_case true is =
          let here : id ≡ other = sym (key-found channel_id id after.channels c found) ∙ eqb-true c.id other is in
          sym (subst (λ k. option_map overwrites_in (find_id channel_id k s.channels) ≡ Some c.overwrites) here (found-before id c found))
      by_case false is = alike other

  keeps : (me : Member) (cs ds : List Channel) → Alike cs → Alike ds → KeepsGrants (with_channels quiet cs) me (with_channels quiet ds) me
  keeps me cs ds before now id b thread found = granted-channels (standing (with_channels quiet cs) me) ds thread.parent b (now thread.parent ∙ sym (before thread.parent))

  module _ (v : Viewer) (me : Member) (asks : has_bit v.intents guilds ≡ true) where
    follows-child : (h : Held) (id : ℕ) (cs : List Channel) (o : Option Channel) → find_id channel_id id after.channels ≡ o → Alike cs
        → Has (with_channels quiet cs) v me h → Alike (put_found o cs) × Has (with_channels quiet (put_found o cs)) v me (fold_from v.intents s.id h (told_of after v ChannelUpdate o))
    follows-child h id cs None is alike has = (alike, has)
    follows-child h id cs (Some c) is alike has =
        let ordered : HasOrderedOverwrites c = All-found channel_id HasOrderedOverwrites id after.channels c (Ascends.channel_gone s ascends channel).overwrites is in
        let now : Alike (put_id channel_id c cs) = alike-put cs id c is alike in
        (now, follows-channel_changed (with_channels quiet cs) v h me c (put_id channel_id c cs) refl ordered ascends.threads (keeps me cs (put_id channel_id c cs) alike now) asks has)

    follows-children : (h : Held) (ids : List ℕ) (cs : List Channel) → Alike cs
        → Has (with_channels quiet cs) v me h → Alike (put_each ids cs) × Has (with_channels quiet (put_each ids cs)) v me (fold_from v.intents s.id h (flat_map (updated after v) ids))
    follows-children h [] cs alike has = (alike, has)
    follows-children h (id ∷ ids) cs alike has =
        let one = follows-child h id cs (find_id channel_id id after.channels) refl alike has in
        let rest = follows-children (fold_from v.intents s.id h (updated after v id)) ids (put_found (find_id channel_id id after.channels) cs) one.0 one.1 in
        (rest.0, subst (λ (k : Held). Has (with_channels quiet (put_each (id ∷ ids) cs)) v me k) (sym (fold-append v.intents s.id h (updated after v id) (flat_map (updated after v) ids))) rest.1)

  -- what is found once they are put
  find-put_found : (id at : ℕ) (cs : List Channel) → find_id channel_id id (put_found (find_id channel_id at after.channels) cs) ≡ (if at == id then or_else (find_id channel_id id after.channels) (find_id channel_id id cs) else find_id channel_id id cs)
  find-put_found id at cs = by_found (find_id channel_id at after.channels) refl
    where
      by_found : (o : Option Channel) → find_id channel_id at after.channels ≡ o → find_id channel_id id (put_found o cs) ≡ (if at == id then or_else (find_id channel_id id after.channels) (find_id channel_id id cs) else find_id channel_id id cs)
      by_found None is = here (at == id) refl
        where
          here : (b : Bool) → (at == id) ≡ b → find_id channel_id id cs ≡ (if b then or_else (find_id channel_id id after.channels) (find_id channel_id id cs) else find_id channel_id id cs)
          here true e = sym (ap (λ o. or_else o (find_id channel_id id cs)) (subst (λ k. find_id channel_id k after.channels ≡ None) (eqb-true at id e) is))
          here false e = refl
      by_found (Some c) is =
          find-put channel_id c id cs
          ∙ (ap (λ k. if k == id then Some c else find_id channel_id id cs) (key-found channel_id at after.channels c is) ∙ here (at == id) refl)
        where
          here : (b : Bool) → (at == id) ≡ b → (if b then Some c else find_id channel_id id cs) ≡ (if b then or_else (find_id channel_id id after.channels) (find_id channel_id id cs) else find_id channel_id id cs)
          here true e = sym (ap (λ o. or_else o (find_id channel_id id cs)) (subst (λ k. find_id channel_id k after.channels ≡ Some c) (eqb-true at id e) is))
          here false e = refl

  find-put_each : (id : ℕ) (ids : List ℕ) (cs : List Channel) → find_id channel_id id (put_each ids cs) ≡ (if has_id own_id id ids then or_else (find_id channel_id id after.channels) (find_id channel_id id cs) else find_id channel_id id cs)
  find-put_each id [] cs = refl
  find-put_each id (at ∷ ids) cs =
      find-put_each id ids (put_found (find_id channel_id at after.channels) cs)
      ∙ (ap (λ o. if has_id own_id id ids then or_else (find_id channel_id id after.channels) o else o) (find-put_found id at cs)
      ∙ either (at == id) (find_id own_id id ids) (find_id channel_id id after.channels) (find_id channel_id id cs))
    where
      either : (b : Bool) (rest : Option ℕ) (now was : Option Channel) → (if is_some rest then or_else now (if b then or_else now was else was) else (if b then or_else now was else was)) ≡ (if is_some (if b then Some at else rest) then or_else now was else was)
      either b rest None was = grind arith
      either b rest (Some c) was = grind arith

  put_each-ascends : (ids : List ℕ) (cs : List Channel) → IsById channel_id cs → IsById channel_id (put_each ids cs)
  put_each-ascends [] cs h = h
  put_each-ascends (id ∷ ids) cs h = put_each-ascends ids (put_found (find_id channel_id id after.channels) cs) (one (find_id channel_id id after.channels))
    where
      one : (o : Option Channel) → IsById channel_id (put_found o cs)
      one None = h
      one (Some c) = IsById-put channel_id c cs h

  -- without the channel itself they are the channels after the edit
  channels-left : without_id channel_id channel (put_each (children_of s channel) s.channels) ≡ after.channels
  channels-left =
      same_by_id channel_id _ _
      (IsById-filter channel_id (λ (c : Channel). not (c.id == channel)) _ (put_each-ascends (children_of s channel) s.channels ascends.channels))
      (IsById-map channel_id channel_id (orphaned channel) (λ c. refl) (without_id channel_id channel s.channels) (IsById-filter channel_id (λ (c : Channel). not (c.id == channel)) s.channels ascends.channels))
      (λ id. find-without channel_id channel id (put_each (children_of s channel) s.channels)
      ∙ (ap (λ o. if channel == id then None else o) (find-put_each id (children_of s channel) s.channels
      ∙ (ap (λ o. if is_some o then or_else (find_id channel_id id after.channels) (find_id channel_id id s.channels) else find_id channel_id id s.channels)
      (find-map channel_id own_id channel_id (λ c. refl) id (filter (is_child channel) s.channels) ∙ ap (option_map channel_id) (find-filter channel_id (is_child channel) id s.channels ascends.channels))
      ∙ ap (λ o. if is_some (option_map channel_id (keep_if (is_child channel) (find_id channel_id id s.channels))) then or_else o (find_id channel_id id s.channels) else find_id channel_id id s.channels) (find-after id)))
      ∙ (at (channel == id) (find_id channel_id id s.channels) ∙ sym (find-after id))))
    where
      -- one that is no child is left as it was
      no_child : (c : Channel) → is_child channel c ≡ false → orphaned channel c ≡ c
      no_child c other = ap (λ (parent : Option ℕ). record c { parent = parent }) (by_parent c.parent other)
        where
          by_parent : (o : Option ℕ) → is_child channel (record c { parent = o }) ≡ false → keep_if (λ parent. not (parent == channel)) o ≡ o
          by_parent None e = refl
          by_parent (Some parent) e = grind arith

      at : (b : Bool) (o : Option Channel)
          → (if b then None else (if is_some (option_map channel_id (keep_if (is_child channel) o)) then or_else (option_map (orphaned channel) (if b then None else o)) o else o)) ≡ option_map (orphaned channel) (if b then None else o)
      at true o = refl
      at false None = refl
      at false (Some c) = by_child (is_child channel c) refl
        where
          by_child : (k : Bool) → is_child channel c ≡ k → (if is_some (option_map channel_id (if k then Some c else None)) then Some (orphaned channel c) else Some c) ≡ Some (orphaned channel c)
          by_child true e = refl
          by_child false e = ap (λ (y : Channel). Some y) (sym (no_child c e))

-- ---- the channel itself

pub follows-gone : (s : Record) (v : Viewer) (h : Held) (me : Member) (c : Channel) → IsAscending s → has_bit v.intents guilds ≡ true
    → Has s v me h → Has (channel_deleted s c.id) v me (fold_from v.intents s.id h (deleted s (channel_deleted s c.id) v (Some c)))
follows-gone s v h me c ascends asks has =
    subst (λ (k : Held). Has t v me k) (sym (fold-append v.intents s.id h silenced (orphans ++ gone t v c) ∙ fold-append v.intents s.id told_left orphans (gone t v c)))
    (by_guilds t v s.id told_orphans me false (ChannelDelete (channel_object s.id c)) asks refl
    (whole (with_channels quiet_now cs) t v told_orphans me me (ChannelDelete (channel_object s.id c)) (drop_channel c.id) same refl (folded-here v.intents s.id told_orphans (ChannelDelete (channel_object s.id c)) refl refl) turns without_children.1))
  where
    t : Record
    t = channel_deleted s c.id

    quiet_now : Record
    quiet_now = quiet s c.id ascends

    silenced : List Dispatch
    silenced = flat_map (voice_ends t.id v) (voices_in s c.id)

    orphans : List Dispatch
    orphans = flat_map (updated t v) (children_of s c.id)

    told_left : Held
    told_left = fold_from v.intents s.id h silenced

    told_orphans : Held
    told_orphans = fold_from v.intents s.id told_left orphans

    cs : List Channel
    cs = put_each s c.id ascends (children_of s c.id) s.channels

    without_voice : Has quiet_now v me told_left
    without_voice = subst (λ (vs : List Voice). Has (with_voices s vs) v me told_left) (voices-left c.id s.voices ascends.voices) (follows-voices s v h me (voices_in s c.id) s.voices has)

    without_children : Alike s c.id ascends cs × Has (with_channels quiet_now cs) v me told_orphans
    without_children = follows-children s c.id ascends v me asks told_left (children_of s c.id) s.channels (λ id. refl) without_voice

    threads : (known : List ℕ) → filter (λ (x : ThreadView). not (x.parent == c.id)) (open_view (with_channels quiet_now cs) v.intents known me).threads ≡ (open_view t v.intents known me).threads
    threads known =
        ap (λ (xs : List Thread). filter (λ (x : ThreadView). not (x.parent == c.id)) (map (thread_view v.intents me.user.id) xs))
        (same-sight s (with_channels quiet_now cs) me me ascends.threads refl refl (λ id b thread found. granted-channels (standing s me) cs thread.parent b (without_children.0 thread.parent)))
        ∙ sym (channel-gone s me c.id v.intents (orphaned c.id) t.voices t.messages (λ x. refl) (λ x. refl) ascends.threads)

    -- their ends were told before, so that none is left in it
    voices : filter (speaks_outside c.id) (listed v.intents guild_voice_states t.voices) ≡ listed v.intents guild_voice_states t.voices
    voices = by_bit (has_bit v.intents guild_voice_states)
      where
        by_bit : (b : Bool) → filter (speaks_outside c.id) (if b then t.voices else []) ≡ (if b then t.voices else [])
        by_bit true = filter-filter voice_id (speaks_outside c.id) (speaks_outside c.id) s.voices ascends.voices (λ id x found outside. outside)
        by_bit false = refl

    turns : drop_channel c.id (open_view (with_channels quiet_now cs) v.intents told_orphans.known me) ≡ open_view t v.intents told_orphans.known me
    turns =
        ap (λ (xs : List Channel). record (open_view t v.intents told_orphans.known me) {
          channels = xs;
          threads = filter (λ (x : ThreadView). not (x.parent == c.id)) (open_view (with_channels quiet_now cs) v.intents told_orphans.known me).threads;
          voices = filter (speaks_outside c.id) (listed v.intents guild_voice_states t.voices);
        }) (channels-left s c.id ascends)
        ∙ (ap (λ (xs : List ThreadView). record (open_view t v.intents told_orphans.known me) { threads = xs; voices = filter (speaks_outside c.id) (listed v.intents guild_voice_states t.voices) }) (threads told_orphans.known)
        ∙ ap (λ (xs : List Voice). record (open_view t v.intents told_orphans.known me) { voices = xs }) voices)
