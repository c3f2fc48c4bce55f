-- The client's own losses and the gains of the sync are the whole difference.
use Rattle.std.proofs.Common.{◌≡◌, ℕ, Bool, true, false, not, ◌&&◌, ◌||◌, List, [], ◌∷◌, map, Option, Some, None, if◌then◌else◌, refl, sym, ap, subst, ◌∙◌, arith}
use Rattle.std.specs.Prelude.{◌==◌, filter, is_some, option_map, option_and_then, option_to_list}
use Rattle.std.specs.List.{filter_map, find}
use Rattle.collections.specs.ById.{find_id, put_all, IsById, keep_if, or_else}
use Rattle.collections.proofs.Finds.{key-found, same_by_id, find-map, find-filter, find-put_all, find-parts, IsById-filter, IsById-map, IsById-put_all}
use Rattle.collections.proofs.Mapped.{map-after}
use Rattle.guild_model.specs.declared.member.Member.{Member}
use Rattle.guild_model.specs.declared.thread.Thread.{Thread}
use Rattle.guild_model.specs.declared.thread.ThreadMember.{ThreadMember}
use Rattle.guild_model.specs.Record.{Record, own_id, thread_id, thread_member_id}
use Rattle.guild_model.specs.Ascending.{IsWell}
use Rattle.guild_model.specs.Sight.{member_sees}
use Rattle.dispatch_types.specs.declared.threads.ThreadMemberObject.{ThreadMemberObject}
use Rattle.dispatch_types.specs.declared.threads.ThreadListSync.{ThreadListSync as ListSync}
use Rattle.dispatch_types.specs.declared.view.GuildView.{GuildView}
use Rattle.dispatch_types.specs.declared.view.GuildView.TheVariants.{Open}
use Rattle.dispatch_types.specs.declared.view.OpenView.{OpenView}
use Rattle.dispatch_types.specs.declared.view.ThreadView.{ThreadView}
use Rattle.dispatch_types.specs.declared.dispatch.Dispatch.TheVariants.{ThreadListSync}
use Rattle.dispatch_types.specs.Objects.{thread_object, thread_member_object, thread_member_of}
use Rattle.dispatch_types.specs.Projection.{is_active, thread_view, seen_threads, open_view}
use Rattle.dispatch_types.specs.Fold.{Held, thread_view_id, contains, thread_of, synced_thread, sync_threads, on_open, view_sees, purged, folded, fold_from}
use Rattle.dispatch_types.proofs.Folds.{folded-here}
use Rattle.thread_sync.specs.Shown.{Shown, shown_to}
use Rattle.thread_sync.specs.Seen.{is_among}
use Rattle.thread_sync.specs.Sync.{gained_parents, threads_in, own_membership, listed_sync, listing_if_any}
use Rattle.thread_sync.specs.Law.{ChangesRights, told_plainly, SyncRestores}
use Rattle.thread_sync.proofs.Lists.{filter-both, filter-map, map-same, find-first}
use Rattle.thread_sync.proofs.Saw.{saw-before}

-- the client's word and the sync's for an id among some
contains-among : (id : ℕ) (ids : List ℕ) → contains id ids ≡ is_among ids id
contains-among id [] = refl
contains-among id (x ∷ xs) = by_test (x == id) (contains-among id xs)
  where
    by_test : (b : Bool) → contains id xs ≡ is_among xs id → (b || contains id xs) ≡ is_some (if b then Some x else find_id own_id id xs)
    by_test true rest = refl
    by_test false rest = rest

-- a listed thread comes with the own membership that it has in the record
module _ (guild intents user : ℕ) (ts : List Thread) (ascends : IsById thread_id ts) where
  abbrev pub in_thread : ThreadMemberObject → ℕ
  in_thread m = m.thread

  its_thread : (x : Thread) (m : ThreadMemberObject) → own_membership user x ≡ Some m → in_thread m ≡ thread_id x
  its_thread x m e = by_member (find_id thread_member_id user x.members) e
    where
      by_member : (o : Option ThreadMember) → option_map (thread_member_object x.id) o ≡ Some m → m.thread ≡ x.id
      by_member None e = absurd (cc)
      by_member (Some own) e = let same : thread_member_object x.id own ≡ m = cc in ap (λ (m : ThreadMemberObject). m.thread) (sym same)

  own-listed : (id : ℕ) (x : Thread) → find_id thread_id id ts ≡ Some x → option_map thread_member_of (find (λ (m : ThreadMemberObject). m.thread == x.id) (filter_map (own_membership user) ts)) ≡ find_id thread_member_id user x.members
  own-listed id x found =
      ap (option_map thread_member_of) (find-first in_thread x.id (filter_map (own_membership user) ts)
      ∙ (find-parts thread_id (own_membership user) in_thread its_thread x.id ts ascends ∙ ap (option_and_then (own_membership user)) there))
      ∙ back (find_id thread_member_id user x.members)
    where
      there : find_id thread_id x.id ts ≡ Some x
      there = subst (λ k. find_id thread_id k ts ≡ Some x) (sym (key-found thread_id id ts x found)) found

      back : (o : Option ThreadMember) → option_map thread_member_of (option_map (thread_member_object x.id) o) ≡ o
      back None = refl
      back (Some own) = refl

  synced-back : map (synced_thread intents (filter_map (own_membership user) ts)) (map (thread_object guild) ts) ≡ map (thread_view intents user) ts
  synced-back =
      map-after (thread_object guild) (synced_thread intents (filter_map (own_membership user) ts)) listed (λ x. refl) ts
      ∙ map-same thread_id thread_view_id listed (thread_view intents user) (λ x. refl) (λ x. refl) ts ascends
      (λ id x found. ap (λ mine. thread_of intents mine (thread_object guild x)) (own-listed id x found))
    where
      listed : Thread → ThreadView
      listed x = synced_thread intents (filter_map (own_membership user) ts) (thread_object guild x)

-- threads that a client holds, and those that it comes to hold: `vs` is its own test, which shows what is seen now
module _ (intents user : ℕ) (saw sees : Thread → Bool) (vs : ThreadView → Bool) (shows : (x : Thread) → vs (thread_view intents user x) ≡ sees x) (xs : List Thread) (ascends : IsById thread_id xs) where
  abbrev pub tv : Thread → ThreadView
  tv x = thread_view intents user x

  abbrev pub was_seen : Thread → Bool
  was_seen x = is_active x && saw x

  abbrev pub is_seen : Thread → Bool
  is_seen x = is_active x && sees x

  -- the client's own losses leave what is seen now, where all of it was seen before
  lost : ((id : ℕ) (x : Thread) → find_id thread_id id xs ≡ Some x → is_seen x ≡ true → was_seen x ≡ true) → filter vs (map tv (filter was_seen xs)) ≡ map tv (filter is_seen xs)
  lost covers =
      filter-map tv vs (filter was_seen xs)
      ∙ ap (map tv) (same_by_id thread_id _ _ (IsById-filter thread_id shown _ (IsById-filter thread_id was_seen xs ascends)) (IsById-filter thread_id is_seen xs ascends)
      (λ id. find-filter thread_id shown id _ (IsById-filter thread_id was_seen xs ascends) ∙ (ap (keep_if shown) (find-filter thread_id was_seen id xs ascends) ∙ (at id (find_id thread_id id xs) (covers id) ∙ sym (find-filter thread_id is_seen id xs ascends)))))
    where
      shown : Thread → Bool
      shown x = vs (tv x)

      at : (id : ℕ) (o : Option Thread) → ((x : Thread) → o ≡ Some x → is_seen x ≡ true → was_seen x ≡ true) → keep_if shown (keep_if was_seen o) ≡ keep_if is_seen o
      at id None covers = refl
      at id (Some x) covers = let step = covers x refl in grind (arith, step, shows x)

  -- with those that the sync lists put anew
  regained : (parents : List ℕ) → ((id : ℕ) (x : Thread) → find_id thread_id id xs ≡ Some x → is_seen x ≡ true → is_among parents x.parent ≡ false → was_seen x ≡ true)
      → filter vs (put_all thread_view_id (filter (λ (t : ThreadView). not (contains t.parent parents)) (filter vs (map tv (filter was_seen xs)))) (map tv (filter (λ (x : Thread). is_among parents x.parent) (filter is_seen xs)))) ≡ map tv (filter is_seen xs)
  regained parents covers =
      same_by_id thread_view_id _ _ (IsById-filter thread_view_id vs _ all) (IsById-map thread_id thread_view_id tv (λ x. refl) _ seen)
      (λ id. cc (
        find-filter thread_view_id vs id _ all,
        find-put_all thread_view_id id left come come_by,
        find-map thread_id thread_view_id tv (λ x. refl) id (filter listed (filter is_seen xs)),
        find-filter thread_id listed id _ seen,
        find-filter thread_id is_seen id xs ascends,
        find-filter thread_view_id others id _ held_by,
        find-filter thread_view_id vs id _ had_by,
        find-map thread_id thread_view_id tv (λ x. refl) id (filter was_seen xs),
        find-filter thread_id was_seen id xs ascends,
        find-map thread_id thread_view_id tv (λ x. refl) id (filter is_seen xs),
        at id (find_id thread_id id xs) (covers id),
      ))
    where
      others : ThreadView → Bool
      others t = not (contains t.parent parents)

      listed : Thread → Bool
      listed x = is_among parents x.parent

      seen : IsById thread_id (filter is_seen xs)
      seen = IsById-filter thread_id is_seen xs ascends

      had_by : IsById thread_view_id (map tv (filter was_seen xs))
      had_by = IsById-map thread_id thread_view_id tv (λ x. refl) _ (IsById-filter thread_id was_seen xs ascends)

      held_by : IsById thread_view_id (filter vs (map tv (filter was_seen xs)))
      held_by = IsById-filter thread_view_id vs _ had_by

      left : List ThreadView
      left = filter others (filter vs (map tv (filter was_seen xs)))

      come : List ThreadView
      come = map tv (filter listed (filter is_seen xs))

      come_by : IsById thread_view_id come
      come_by = IsById-map thread_id thread_view_id tv (λ x. refl) _ (IsById-filter thread_id listed _ seen)

      all : IsById thread_view_id (put_all thread_view_id left come)
      all = IsById-put_all thread_view_id left come (IsById-filter thread_view_id others _ held_by)

      at : (id : ℕ) (o : Option Thread) → ((x : Thread) → o ≡ Some x → is_seen x ≡ true → listed x ≡ false → was_seen x ≡ true)
          → keep_if vs (or_else (option_map tv (keep_if listed (keep_if is_seen o))) (keep_if others (keep_if vs (option_map tv (keep_if was_seen o))))) ≡ option_map tv (keep_if is_seen o)
      at id None covers = refl
      at id (Some x) covers = let step = covers x refl in let among = contains-among x.parent parents in grind (arith, step, shows x, among)

-- what a client holds then is the view of the record after the change
module _ (s t : Record) (me me' : Member) (intents : ℕ) (known : List ℕ) (well : IsWell s) (changes : ChangesRights s t) (user : me'.user.id ≡ me.user.id) where
  abbrev pub before : Shown
  before = shown_to s me

  abbrev pub now : Shown
  now = shown_to t me'

  abbrev pub saw : Thread → Bool
  saw x = member_sees s me x

  abbrev pub sees : Thread → Bool
  sees x = member_sees t me' x

  abbrev pub shown : ThreadView → Bool
  shown x = view_sees intents t.id (open_view t intents known me') x

  abbrev pub with_threads : List ThreadView → OpenView
  with_threads threads = record (open_view t intents known me') { threads = threads }

  abbrev pub views : List Thread → List ThreadView
  views xs = map (thread_view intents me'.user.id) xs

  held-before : map (thread_view intents me.user.id) (seen_threads s me) ≡ views (seen_threads s me)
  held-before = ap (λ u. map (thread_view intents u) (seen_threads s me)) (sym user)

  seen-after : views (filter (λ (x : Thread). is_active x && sees x) s.threads) ≡ views (seen_threads t me')
  seen-after = ap (λ xs. views (filter (λ (x : Thread). is_active x && sees x) xs)) (sym changes.threads)

  -- where no parent is gained, the client's own losses are all
  pub without-sync : gained_parents before now t ≡ [] → purged intents t.id (told_plainly s me t me' intents known) ≡ open_view t intents known me'
  without-sync none =
      ap with_threads
      (ap (filter shown) held-before
      ∙ (lost intents me'.user.id saw sees shown (λ x. refl) s.threads well.ascending.threads
      (λ id x found shown. saw-before s t me me' well changes id x found shown (ap (λ parents. is_among parents x.parent) none))
      ∙ seen-after))

  pub with-sync : (parents : List ℕ) → gained_parents before now t ≡ parents
      → purged intents t.id (sync_threads intents (listed_sync t.id me'.user.id parents (threads_in now parents t.threads)) (purged intents t.id (told_plainly s me t me' intents known))) ≡ open_view t intents known me'
  with-sync parents is =
      ap (λ ts. purged intents t.id (sync_threads intents (listed_sync t.id me'.user.id parents ts) (purged intents t.id (told_plainly s me t me' intents known)))) (sym (filter-both listed now.thread t.threads))
      ∙ ap with_threads
      (ap (λ threads. filter shown (put_all thread_view_id (filter others (filter shown (map (thread_view intents me.user.id) (seen_threads s me)))) threads)) (synced-back t.id intents me'.user.id (filter listed (seen_threads t me')) ascends)
      ∙ (ap (λ threads. filter shown (put_all thread_view_id (filter others (filter shown threads)) (views (filter listed (seen_threads t me'))))) held-before
      ∙ (ap (λ xs. filter shown (put_all thread_view_id (filter others (filter shown (views (seen_threads s me)))) (views (filter listed (filter (λ (x : Thread). is_active x && sees x) xs))))) changes.threads
      ∙ (regained intents me'.user.id saw sees shown (λ x. refl) s.threads well.ascending.threads parents
      (λ id x found shown other. saw-before s t me me' well changes id x found shown (ap (λ parents. is_among parents x.parent) is ∙ other))
      ∙ seen-after))))
    where
      others : ThreadView → Bool
      others x = not (contains x.parent parents)

      listed : Thread → Bool
      listed x = is_among parents x.parent

      ascends : IsById thread_id (filter listed (seen_threads t me'))
      ascends = IsById-filter thread_id listed _ (subst (λ xs. IsById thread_id (filter (λ (x : Thread). is_active x && sees x) xs)) (sym changes.threads) (IsById-filter thread_id (λ (x : Thread). is_active x && sees x) s.threads well.ascending.threads))

-- what a client makes of a sync
folded-sync : (intents : ℕ) (h : Held) (guild : ℕ) (sync : ListSync) → sync.guild ≡ guild
    → folded intents guild h (ThreadListSync sync) ≡ record h { view = on_open (purged intents guild) (on_open (sync_threads intents sync) h.view) }
folded-sync intents h guild sync of = folded-here intents guild h (ThreadListSync sync) (ap Some of) refl

pub sync_restores : SyncRestores
sync_restores s t me me' intents h well changes user held = by_parents (gained_parents (shown_to s me) (shown_to t me') t) refl
  where
    by_parents : (parents : List ℕ) → gained_parents (shown_to s me) (shown_to t me') t ≡ parents → fold_from intents t.id h (option_to_list (listing_if_any (shown_to t me') t me'.user.id parents)) ≡ record h { view = Some (Open (open_view t intents h.known me')) }
    by_parents [] is = ap (λ (view : Option GuildView). record h { view = view }) (held ∙ ap (λ (v : OpenView). Some (Open v)) (without-sync s t me me' intents h.known well changes user is))
    by_parents (p ∷ ps) is =
        let sync : ListSync = listed_sync t.id me'.user.id (p ∷ ps) (threads_in (shown_to t me') (p ∷ ps) t.threads) in
        folded-sync intents h t.id sync refl
        ∙ (ap (λ (view : Option GuildView). record h { view = on_open (purged intents t.id) (on_open (sync_threads intents sync) view) }) held
        ∙ ap (λ (v : OpenView). record h { view = Some (Open v) }) (with-sync s t me me' intents h.known well changes user (p ∷ ps) is))
