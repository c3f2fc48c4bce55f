-- The guilds that the purge can leave out.
use Rattle.std.proofs.Common.{◌≡◌, ℕ, Bool, true, false, ◌||◌, List, [], ◌∷◌, map, Option, Some, None, Result, Ok, Err, OnOk, OnErr, if◌then◌else◌, refl, sym, ap, subst, ◌∙◌, eqb-true}
use Rattle.std.specs.Prelude.{◌==◌, filter, cond, is_some, option_map, unwrap_or}
use Rattle.collections.specs.ById.{IsById, find_id, has_id, put_id, put_all, changed_id}
use Rattle.collections.proofs.Ids.{IsById-changed}
use Rattle.collections.proofs.Finds.{same_by_id, key-found, find-changed, find-map, IsById-map}
use Rattle.collections.proofs.Has.{has-put}
use Rattle.perm_bits.specs.Bits.{has_bit}
use Rattle.intent_set.specs.Intents.{guilds}
use Rattle.guild_model.specs.declared.voice.Voice.{Voice}
use Rattle.guild_model.specs.declared.presence.Presence.{Presence}
use Rattle.guild_model.specs.Record.{own_id}
use Rattle.dispatch_types.specs.declared.dispatch.Dispatch.{Dispatch}
use Rattle.dispatch_types.specs.declared.dispatch.Dispatch.TheVariants.{GuildMemberAdd, GuildMemberRemove, GuildMembersChunk, VoiceStateUpdate, PresenceUpdate, MessageCreate, MessageUpdate, MessageDelete, MessageReactionAdd, MessageReactionRemove, TypingStart}
use Rattle.dispatch_types.specs.declared.view.GuildView.{GuildView}
use Rattle.dispatch_types.specs.declared.view.GuildView.TheVariants.{Unavailable, Open}
use Rattle.dispatch_types.specs.declared.view.OpenView.{OpenView}
use Rattle.dispatch_types.specs.declared.view.ThreadView.{ThreadView}
use Rattle.dispatch_types.specs.Objects.{member_of, voice_of, presence_of}
use Rattle.dispatch_types.specs.Fold.{Held, contains, on_open, view_after, add_member, remove_member, set_members, set_voice, set_presence, view_sees, purged}
use Rattle.client_cache.specs.declared.held.HeldGuild.{HeldGuild}
use Rattle.client_cache.specs.Cached.{held_id, held_by, held_in, empty_entry, entry_of, entry_after, entry_purged, unavailable_entry}
use Rattle.client_cache.specs.Settled.{may_hide, purged_at, AreSettled}
use Rattle.client_cache.proofs.Entries.{all-purged, entry-put, entry-id, unavailable-held, others-either}

filter-again : {T : Type 0} (p : T → Bool) (xs : List T) → filter p (filter p xs) ≡ filter p xs
filter-again p [] = refl
filter-again p (x ∷ xs) = by_test (p x) refl (filter-again p xs)
  where
    by_test : (b : Bool) → p x ≡ b → filter p (filter p xs) ≡ filter p xs → filter p (cond b (x ∷ filter p xs) (filter p xs)) ≡ cond b (x ∷ filter p xs) (filter p xs)
    by_test true is rest = ap (λ c. cond c (x ∷ filter p (filter p xs)) (filter p (filter p xs))) is ∙ ap (λ ys. x ∷ ys) rest
    by_test false is rest = rest

module _ (g : ℕ) where
  -- a purge of what is purged
  again : (view : Option GuildView) → on_open (purged 0 g) (on_open (purged 0 g) view) ≡ on_open (purged 0 g) view
  again None = refl
  again (Some Unavailable) = refl
  again (Some (Open v)) = ap (λ (threads : List ThreadView). Some (Open (record v { threads = threads }))) (filter-again (view_sees 0 g v) v.threads)

  threads_stay : (v : OpenView) → purged 0 g v ≡ v → filter (view_sees 0 g v) v.threads ≡ v.threads
  threads_stay v stays = ap (λ (w : OpenView). w.threads) stays

  -- a change that leaves what the sight rests on
  opened : (f : OpenView → OpenView) → ((v : OpenView) → purged 0 g v ≡ v → purged 0 g (f v) ≡ f v) → (view : Option GuildView) → on_open (purged 0 g) view ≡ view → on_open (purged 0 g) (on_open f view) ≡ on_open f view
  opened f keeps None stays = refl
  opened f keeps (Some Unavailable) stays = refl
  opened f keeps (Some (Open v)) stays = let e : purged 0 g v ≡ v = cc in ap (λ (w : OpenView). Some (Open w)) (keeps v e)

  voice_stays : (user : ℕ) (voice : Option Voice) (v : OpenView) → purged 0 g v ≡ v → purged 0 g (set_voice user voice v) ≡ set_voice user voice v
  voice_stays user None v stays = ap (λ (threads : List ThreadView). record (set_voice user None v) { threads = threads }) (threads_stay v stays)
  voice_stays user (Some voice) v stays = ap (λ (threads : List ThreadView). record (set_voice user (Some voice) v) { threads = threads }) (threads_stay v stays)

  presence_stays : (user : ℕ) (presence : Option Presence) (v : OpenView) → purged 0 g v ≡ v → purged 0 g (set_presence user presence v) ≡ set_presence user presence v
  presence_stays user None v stays = ap (λ (threads : List ThreadView). record (set_presence user None v) { threads = threads }) (threads_stay v stays)
  presence_stays user (Some p) v stays = ap (λ (threads : List ThreadView). record (set_presence user (Some p) v) { threads = threads }) (threads_stay v stays)

  module _ (intents bot : ℕ) where
    -- such a dispatch leaves what the bot sees
    pub view-stays : (d : Dispatch) → may_hide d ≡ false → (view : Option GuildView) → on_open (purged 0 g) view ≡ view → on_open (purged 0 g) (view_after intents bot d view) ≡ view_after intents bot d view
    view-stays (GuildMemberAdd add) shows view stays = opened (add_member intents (member_of add.member)) (λ v e. ap (λ (threads : List ThreadView). record (add_member intents (member_of add.member) v) { threads = threads }) (threads_stay v e)) view stays
    view-stays (GuildMemberRemove remove) shows view stays = opened (remove_member remove.user.id) (λ v e. ap (λ (threads : List ThreadView). record (remove_member remove.user.id v) { threads = threads }) (threads_stay v e)) view stays
    view-stays (GuildMembersChunk chunk) shows view stays = opened (set_members intents (map member_of chunk.members)) (λ v e. ap (λ (threads : List ThreadView). record (set_members intents (map member_of chunk.members) v) { threads = threads }) (threads_stay v e)) view stays
    view-stays (VoiceStateUpdate update) shows view stays = opened (set_voice update.voice.user (voice_of update.voice)) (voice_stays update.voice.user (voice_of update.voice)) view stays
    view-stays (PresenceUpdate presence) shows view stays = opened (set_presence presence.user (presence_of presence)) (presence_stays presence.user (presence_of presence)) view stays
    view-stays (MessageCreate message) shows view stays = opened (λ v. v) (λ v e. e) view stays
    view-stays (MessageUpdate message) shows view stays = opened (λ v. v) (λ v e. e) view stays
    view-stays (MessageDelete delete) shows view stays = opened (λ v. v) (λ v e. e) view stays
    view-stays (MessageReactionAdd reaction) shows view stays = opened (λ v. v) (λ v e. e) view stays
    view-stays (MessageReactionRemove reaction) shows view stays = opened (λ v. v) (λ v e. e) view stays
    view-stays (TypingStart typing) shows view stays = opened (λ v. v) (λ v e. e) view stays
    view-stays _ shows view stays = absurd (cc)

purge_again : (h : HeldGuild) → entry_purged (entry_purged h) ≡ entry_purged h
purge_again h = ap (λ (v : Option GuildView). record h { view = v }) (again h.id h.view)

both_ways : (here others : Bool) (o : Option HeldGuild) → (if others then option_map entry_purged (if here then option_map entry_purged o else o) else (if here then option_map entry_purged o else o)) ≡ (if (here || others) then option_map entry_purged o else o)
both_ways true true None = refl
both_ways true true (Some h) = ap (λ (k : HeldGuild). Some k) (purge_again h)
both_ways true false o = refl
both_ways false others o = refl

in_list : (a g : ℕ) (ids : List ℕ) → ((a == g) || has_id own_id g ids) ≡ has_id own_id g (a ∷ ids)
in_list a g ids = by_test (a == g)
  where
    by_test : (b : Bool) → (b || has_id own_id g ids) ≡ is_some (if b then Some a else find_id own_id g ids)
    by_test true = refl
    by_test false = refl

purged_found : (g : ℕ) (ids : List ℕ) (es : List HeldGuild) → find_id held_id g (purged_at ids es) ≡ (if has_id own_id g ids then option_map entry_purged (find_id held_id g es) else find_id held_id g es)
purged_found g [] es = refl
purged_found g (a ∷ ids) es =
    purged_found g ids (changed_id held_id a entry_purged es)
    ∙ (ap (λ (o : Option HeldGuild). if has_id own_id g ids then option_map entry_purged o else o) (find-changed held_id a entry_purged (λ h. refl) g es)
    ∙ (both_ways (a == g) (has_id own_id g ids) (find_id held_id g es)
    ∙ ap (λ (b : Bool). if b then option_map entry_purged (find_id held_id g es) else find_id held_id g es) (in_list a g ids)))

purged_ordered : (ids : List ℕ) (es : List HeldGuild) → IsById held_id es → IsById held_id (purged_at ids es)
purged_ordered [] es h = h
purged_ordered (a ∷ ids) es h = purged_ordered ids (changed_id held_id a entry_purged es) (IsById-changed held_id a entry_purged es (λ h. refl) h)

-- an entry whose threads are all seen
settled_entry : (g : ℕ) (o : Option HeldGuild) → ((h : HeldGuild) → o ≡ Some h → h.id ≡ g) → on_open (purged 0 g) (held_by 0 o).view ≡ (held_by 0 o).view → o ≡ option_map entry_purged o
settled_entry g None is stays = refl
settled_entry g (Some h) is stays =
    ap (λ (v : Option GuildView). Some (record h { view = v })) (sym (ap (λ (n : ℕ). on_open (purged 0 n) h.view) (is h refl) ∙ stays))

-- the purge of the others is that of all
pub all-settled : (ids : List ℕ) (es : List HeldGuild) → IsById held_id es → AreSettled ids es → purged_at ids es ≡ map entry_purged es
all-settled ids es h are =
    same_by_id held_id _ _ (purged_ordered ids es h) (IsById-map held_id held_id entry_purged (λ h. refl) es h)
    (λ g. purged_found g ids es ∙ (at g (has_id own_id g ids) refl ∙ sym (find-map held_id held_id entry_purged (λ h. refl) g es)))
  where
    at : (g : ℕ) (b : Bool) → has_id own_id g ids ≡ b → (if b then option_map entry_purged (find_id held_id g es) else find_id held_id g es) ≡ option_map entry_purged (find_id held_id g es)
    at g true is = refl
    at g false is = settled_entry g (find_id held_id g es) (λ h e. key-found held_id g es h e) (are g is)

-- after a purge each thread that is held is seen
pub none-unsettled : (es : List HeldGuild) → AreSettled [] (map entry_purged es)
none-unsettled es g is = ap (λ (h : Held). on_open (purged 0 g) h.view) (all-purged 0 0 es g) ∙ (again g (held_in 0 es g).view ∙ sym (ap (λ (h : Held). h.view) (all-purged 0 0 es g)))

neither : (a b : Bool) → (a || b) ≡ false → (a ≡ false) × (b ≡ false)
neither true b e = absurd (cc)
neither false b e = (refl, e)

-- a guild that has changed is among the others
pub still-settled : (guild : ℕ) (ids : List ℕ) (old new : List HeldGuild) → AreSettled ids old → ((g : ℕ) → (guild == g) ≡ false → held_in 0 new g ≡ held_in 0 old g) → AreSettled (put_id own_id guild ids) new
still-settled guild ids old new are same g is =
    let out = neither (guild == g) (has_id own_id g ids) (sym (has-put own_id guild g ids) ∙ is) in
    let e : held_in 0 new g ≡ held_in 0 old g = same g out.0 in
    ap (λ (h : Held). on_open (purged 0 g) h.view) e ∙ (are g out.1 ∙ sym (ap (λ (h : Held). h.view) e))

entry_view : (a g : ℕ) (es : List HeldGuild) → (a == g) ≡ true → (entry_of a es).view ≡ (held_in 0 es g).view
entry_view a g es is = either (find_id held_id a es) ∙ ap (λ (n : ℕ). (held_in 0 es n).view) (eqb-true a g is)
  where
    either : (o : Option HeldGuild) → (unwrap_or o (empty_entry a)).view ≡ (held_by 0 o).view
    either None = refl
    either (Some e) = refl

-- a dispatch that hides nothing leaves the others as they were
pub shown-settled : (intents bot guild : ℕ) (d : Dispatch) (ids : List ℕ) (old : List HeldGuild) → may_hide d ≡ false → AreSettled ids old → AreSettled ids (put_id held_id (entry_after intents bot d (entry_of guild old)) old)
shown-settled intents bot guild d ids old shows are g is =
    let now : HeldGuild = entry_after intents bot d (entry_of guild old) in
    let put = entry-put 0 now old g in
    ap (λ (h : Held). on_open (purged 0 g) h.view) put
    ∙ (ap (λ (n : ℕ). on_open (purged 0 g) (if n == g then held_by 0 (Some now) else held_in 0 old g).view) (entry-id guild old)
    ∙ (at (guild == g) refl
    ∙ (ap (λ (n : ℕ). (if n == g then held_by 0 (Some now) else held_in 0 old g).view) (sym (entry-id guild old))
    ∙ sym (ap (λ (h : Held). h.view) put))))
  where
    at : (b : Bool) → (guild == g) ≡ b → on_open (purged 0 g) (if b then held_by 0 (Some (entry_after intents bot d (entry_of guild old))) else held_in 0 old g).view ≡ (if b then held_by 0 (Some (entry_after intents bot d (entry_of guild old))) else held_in 0 old g).view
    at true here =
        let e : (entry_of guild old).view ≡ (held_in 0 old g).view = entry_view guild g old here in
        view-stays g intents bot d shows (entry_of guild old).view (ap (on_open (purged 0 g)) e ∙ (are g is ∙ sym e))
    at false here = are g is

-- the guild of a dispatch is among the others where the bot may see less of it
pub unsettled-after : {A E : Type 0} (intents bot guild : ℕ) (d : Dispatch) (ids list : List ℕ) (old new : List HeldGuild) → AreSettled ids old → list ≡ (if may_hide d then put_id own_id guild ids else ids) → (r : Result A E) → OnOk r (new ≡ put_id held_id (entry_after intents bot d (entry_of guild old)) old) → OnErr r (new ≡ old) → AreSettled list new
unsettled-after {A} {E} intents bot guild d ids list old new are is r ok err = subst (λ (l : List ℕ). AreSettled l new) (sym is) (at (may_hide d) refl)
  where
    by_result : may_hide d ≡ false → (r : Result A E) → OnOk r (new ≡ put_id held_id (entry_after intents bot d (entry_of guild old)) old) → OnErr r (new ≡ old) → AreSettled ids new
    by_result shows (Ok x) ok err = subst (λ (es : List HeldGuild). AreSettled ids es) (sym ok) (shown-settled intents bot guild d ids old shows are)
    by_result shows (Err x) ok err = subst (λ (es : List HeldGuild). AreSettled ids es) (sym err) are

    at : (b : Bool) → may_hide d ≡ b → AreSettled (if b then put_id own_id guild ids else ids) new
    at true hides = still-settled guild ids old new are (others-either guild (entry_after intents bot d (entry_of guild old)) old new (entry-id guild old) r ok err)
    at false shows = by_result shows r ok err

-- more guilds may be among the others
pub more-unsettled : (guild : ℕ) (hides : Bool) (ids list : List ℕ) (es : List HeldGuild) → AreSettled ids es → list ≡ (if hides then put_id own_id guild ids else ids) → AreSettled list es
more-unsettled guild hides ids list es are is = subst (λ (l : List ℕ). AreSettled l es) (sym is) (either hides)
  where
    either : (b : Bool) → AreSettled (if b then put_id own_id guild ids else ids) es
    either true = still-settled guild ids es es are (λ g other. refl)
    either false = are

-- a guild that is unavailable holds no thread
pub unavailable-settled : (intents : ℕ) (others ids : List ℕ) → AreSettled others (put_all held_id [] (map (unavailable_entry intents) ids))
unavailable-settled intents others ids g is =
    ap (λ (h : Held). on_open (purged 0 g) h.view) (unavailable-held intents 0 g ids)
    ∙ (either (contains g ids) (has_bit intents guilds) ∙ sym (ap (λ (h : Held). h.view) (unavailable-held intents 0 g ids)))
  where
    either : (there told_of : Bool) → on_open (purged 0 g) (if there then (if told_of then Some Unavailable else None) else None) ≡ (if there then (if told_of then Some Unavailable else None) else None)
    either true true = refl
    either true false = refl
    either false b = refl

pub none-kept : (ids : List ℕ) → filter (λ (id : ℕ). false) ids ≡ []
none-kept [] = refl
none-kept (id ∷ ids) = none-kept ids
