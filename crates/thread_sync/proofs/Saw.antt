-- What was seen, by the lists of what was seen; and that what is seen now was seen before, but under a gained parent.
use Rattle.std.proofs.Common.{◌≡◌, ℕ, Bool, true, false, not, ◌&&◌, ◌||◌, Option, Some, None, if◌then◌else◌, refl, sym, ap, subst, ◌∙◌, arith, eq-eqb}
use Rattle.std.specs.Prelude.{map, ◌==◌, filter, is_some, option_map}
use Rattle.std.proofs.lemmas.Bool.{and_parts}
use Rattle.collections.specs.ById.{find_id, IsById, keep_if}
use Rattle.collections.proofs.Finds.{key-found, find-map, find-filter}
use Rattle.perm_bits.specs.Permissions.{view_channel, manage_threads}
use Rattle.guild_model.specs.declared.member.Member.{Member}
use Rattle.guild_model.specs.declared.channel.Channel.{Channel}
use Rattle.guild_model.specs.declared.thread.Thread.{Thread}
use Rattle.guild_model.specs.Record.{Record, own_id, channel_id, thread_id}
use Rattle.guild_model.specs.Consistent.{has_threads, is_parent}
use Rattle.guild_model.specs.Ascending.{IsWell}
use Rattle.guild_model.specs.Sight.{Standing, standing, granted, sees, is_private, is_in, member_sees}
use Rattle.overwrite_eval.proofs.Grants.{granted_missing}
use Rattle.dispatch_types.specs.Projection.{is_active}
use Rattle.thread_sync.specs.Shown.{Shown, shown_to}
use Rattle.thread_sync.specs.Seen.{is_among, shows_channel, visible_to}
use Rattle.thread_sync.specs.Sync.{is_new, uncovers, is_gained, gained_parents}
use Rattle.thread_sync.specs.Law.{kind_in, ChangesRights}
use Rattle.thread_sync.proofs.Lists.{unless, none-passes, has-passed, among-kept}

-- a channel is among those that are seen exactly where it is seen
pub among-seen : (s : Standing) (channel : ℕ) → IsById channel_id s.channels → is_among (map channel_id (filter (shows_channel s) s.channels)) channel ≡ sees s channel
among-seen s channel h =
    ap (λ o. is_some o) (find-map channel_id own_id channel_id (λ c. refl) channel (filter (shows_channel s) s.channels) ∙ ap (option_map channel_id) (find-filter channel_id (shows_channel s) channel s.channels h))
    ∙ by_case (find_id channel_id channel s.channels) refl
  where
    by_sight : (c : Channel) (b : Bool) → is_some (option_map channel_id (if b then Some c else None)) ≡ b
    by_sight c true = refl
    by_sight c false = refl

    by_case : (o : Option Channel) → find_id channel_id channel s.channels ≡ o → is_some (option_map channel_id (keep_if (shows_channel s) o)) ≡ sees s channel
    by_case None none = sym (granted_missing s channel view_channel none)
    by_case (Some c) there = by_sight c (shows_channel s c) ∙ ap (sees s) (key-found channel_id channel s.channels c there)

-- a thread that the member saw is an active one that it sees
pub saw-thread : (s : Record) (me : Member) (id : ℕ) (x : Thread) → IsById thread_id s.threads → find_id thread_id id s.threads ≡ Some x → is_among (visible_to s me).threads id ≡ (is_active x && member_sees s me x)
saw-thread s me id x h found = among-kept thread_id (λ (x : Thread). is_active x && member_sees s me x) id x s.threads h found

-- a parent before is one after
parent-stays : (o p : Option Channel) → option_map kind_in p ≡ option_map kind_in o → is_parent o ≡ true → (c : Channel) × (p ≡ Some c) × (has_threads c.kind ≡ true)
parent-stays None p same is = absurd (cc)
parent-stays (Some c) None same is = absurd (cc)
parent-stays (Some c) (Some d) same is = (d, refl, (let kind : d.kind ≡ c.kind = cc in ap has_threads kind ∙ is))

-- an active thread that is seen now and stands under no gained parent was seen before
pub saw-before : (s t : Record) (me me' : Member) → IsWell s → ChangesRights s t → (id : ℕ) (x : Thread) → find_id thread_id id s.threads ≡ Some x
    → (is_active x && member_sees t me' x) ≡ true → is_among (gained_parents (shown_to s me) (shown_to t me') t) x.parent ≡ false → (is_active x && member_sees s me x) ≡ true
saw-before s t me me' well changes id x found shown not_listed =
    let before : Shown = shown_to s me in
    let now : Shown = shown_to t me' in
    let hides : ℕ → Bool = uncovers before now t.threads in
    let parent = parent-stays (find_id channel_id x.parent s.channels) (find_id channel_id x.parent t.channels) (changes.channels x.parent) (well.consistent.parents id x found) in
    let is : parent.0.id ≡ x.parent = key-found channel_id x.parent t.channels parent.0 parent.1 in
    let not_gained : is_gained before now hides parent.0 ≡ false = unless _ (λ gained. absurd (cc (has-passed channel_id (is_gained before now hides) x.parent parent.0 t.channels parent.1 gained))) in
    let views : sees (standing t me') parent.0.id ≡ true = ap (sees (standing t me')) is ∙ (and_parts _ _ (and_parts _ _ shown).1).0 in
    let parts = missed (has_threads parent.0.kind) (sees (standing t me') parent.0.id) (sees (standing s me) parent.0.id) (hides parent.0.id) parent.2 views not_gained in
    let viewed : sees (standing s me) x.parent ≡ true = ap (sees (standing s me)) (sym is) ∙ parts.0 in
    let there : find_id thread_id id t.threads ≡ Some x = subst (λ ts. find_id thread_id id ts ≡ Some x) (sym changes.threads) found in
    let none = none-passes thread_id (λ (x : Thread). x.parent == parent.0.id && (now.thread x && is_new before x)) id x t.threads parts.1 there in
    conclude (x.parent == parent.0.id) (is_active x && member_sees t me' x) (is_active x) (is_private x.kind) (sees (standing s me) x.parent) (is_in me.user.id x) (granted (standing s me) x.parent manage_threads)
    (eq-eqb x.parent parent.0.id (sym is)) shown (and_parts _ _ shown).0 viewed none
  where
    missed : (threads sees saw uncovers : Bool) → threads ≡ true → sees ≡ true → (threads && (sees && (not saw || uncovers))) ≡ false → (saw ≡ true) × (uncovers ≡ false)
    missed true true true uncovers e k none = (refl, none)
    missed true true false uncovers e k none = absurd (cc)
    missed true false saw uncovers e k none = absurd (cc)
    missed false sees saw uncovers e k none = absurd (cc)

    conclude : (same shown active private views joined manages : Bool) → same ≡ true → shown ≡ true → active ≡ true → views ≡ true
        → (same && (shown && (private && not (active && (views && (not private || joined || manages)))))) ≡ false → (active && (views && (not private || joined || manages))) ≡ true
    conclude same shown active true views joined manages e k a v none = grind arith
    conclude same shown active false views joined manages e k a v none = grind arith
