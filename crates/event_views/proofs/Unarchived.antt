-- What a client holds of a thread that is active again: THREAD_UPDATE brings it without the viewer's own
-- membership, which the next dispatch brings.
use Rattle.std.proofs.Common.{◌≡◌, ℕ, Bool, true, false, ◌&&◌, ◌||◌, List, [], ◌∷◌, ◌++◌, map, Option, Some, None, if◌then◌else◌, refl, sym, ap, subst, ◌∙◌, eq-eqb}
use Rattle.std.specs.Prelude.{◌==◌, option_map}
use Rattle.std.specs.Option.{option_or}
use Rattle.collections.specs.ById.{find_id, put_id, IsById, keep_if}
use Rattle.collections.proofs.Ids.{IsById-put}
use Rattle.collections.proofs.Finds.{key-found, find-put}
use Rattle.collections.proofs.Filters.{put-put}
use Rattle.perm_bits.specs.Bits.{has_bit}
use Rattle.intent_set.specs.Intents.{guilds, guild_members}
use Rattle.guild_model.specs.declared.member.Member.{Member}
use Rattle.guild_model.specs.declared.thread.Thread.{Thread}
use Rattle.guild_model.specs.declared.thread.ThreadMember.{ThreadMember}
use Rattle.guild_model.specs.Record.{Record, thread_id, thread_member_id}
use Rattle.guild_model.specs.Sight.{member_sees}
use Rattle.dispatch_types.specs.declared.viewer.Viewer.{Viewer}
use Rattle.dispatch_types.specs.declared.view.OpenView.{OpenView}
use Rattle.dispatch_types.specs.declared.view.ThreadView.{ThreadView}
use Rattle.dispatch_types.specs.declared.view.GuildView.TheVariants.{Open}
use Rattle.dispatch_types.specs.declared.threads.ThreadMembersUpdate.{ThreadMembersUpdate as MembersUpdate}
use Rattle.dispatch_types.specs.declared.dispatch.Dispatch.{Dispatch}
use Rattle.dispatch_types.specs.declared.dispatch.Dispatch.TheVariants.{ThreadUpdate, ThreadMembersUpdate}
use Rattle.dispatch_types.specs.Objects.{thread_object, thread_member_object, thread_member_of}
use Rattle.dispatch_types.specs.Projection.{is_active}
use Rattle.dispatch_types.specs.Fold.{Held, thread_view_id, mine_of, members_updated, update_members, purged, folded, fold_from}
use Rattle.dispatch_types.proofs.Folds.{folded-here}
use Rattle.event_views.specs.Has.{Has}
use Rattle.event_views.specs.Threads.{membership, members_update, thread_updates, member_comes, thread_joins}
use Rattle.event_views.proofs.Shown.{IsById-shown, shown-put, shown-hidden, mapped-put}
use Rattle.event_views.proofs.Threads.{shows, views, with_threads, viewing, stays_silent, as_view, tested, hidden_there, held_there, updates, sets}

module _ (s : Record) (v : Viewer) (h : Held) (me : Member) (own : me.user.id ≡ v.user) (asks : has_bit v.intents guilds ≡ true) (ascends : IsById thread_id s.threads)
    (x : Thread) (found : find_id thread_id x.id s.threads ≡ Some x) (archived : is_active x ≡ false) where
  abbrev again : Thread
  again = record x { archived = false }

  abbrev after : Record
  after = with_threads s v h me (put_id thread_id again s.threads)

  -- the thread without the own membership, and the client that holds it so
  abbrev bare : ThreadView
  bare = record (as_view s v h me own asks ascends again) { mine = None }

  abbrev views_before : List ThreadView
  views_before = views s v h me s.threads

  abbrev between : OpenView
  between = viewing s v h me (put_id thread_view_id bare views_before)

  abbrev holding : Held
  holding = record h { view = Some (Open between) }

  no_view : shows s v h me x ≡ false
  no_view = ap (λ b. b && member_sees s me x) archived

  comes_bare : Has s v me h → folded v.intents s.id h (ThreadUpdate (thread_object s.id again)) ≡ holding
  comes_bare has =
      updates s v h me own asks ascends (thread_object s.id again) refl between
      (sets s v h me own asks ascends (thread_object s.id again) None refl
      (ap mine_of (held_there s v h me own asks ascends x found ∙ ap (λ b. if b then Some (as_view s v h me own asks ascends x) else None) no_view))) has

  module _ (has : Has s v me h) (seen : member_sees s me x ≡ true) where
    whole_view : (o : Option ThreadMember) → membership v.user again ≡ o → record bare { mine = o } ≡ as_view s v h me own asks ascends again
    whole_view o e = ap (λ (m : Option ThreadMember). record bare { mine = m }) (sym e ∙ ap (λ (u : ℕ). membership u again) (sym own))

    set_again : put_id thread_view_id (as_view s v h me own asks ascends again) views_before ≡ views s v h me (put_id thread_id again s.threads)
    set_again = shown-put thread_id thread_view_id (as_view s v h me own asks ascends) (λ t. refl) (shows s v h me) again s.threads ascends seen

    without_membership : membership v.user again ≡ None → Has after v me holding
    without_membership e =
        record {
          bot = has.bot;
          view = ap (λ (ts : List ThreadView). Some (Open (viewing s v h me ts))) (ap (λ (t : ThreadView). put_id thread_view_id t views_before) (whole_view None e) ∙ set_again);
        }

    module _ (m : ThreadMember) (mine : membership v.user again ≡ Some m) where
      abbrev update : MembersUpdate
      update = members_update s.id again (thread_member_object x.id m ∷ []) []

      abbrev d : Dispatch
      d = ThreadMembersUpdate update

      abbrev change : ThreadView → ThreadView
      change = members_updated v.intents h.bot update

      is_own : (m.user == v.user) ≡ true
      is_own = eq-eqb m.user v.user (key-found thread_member_id v.user again.members m mine)

      changes_bare : change bare ≡ as_view s v h me own asks ascends again
      changes_bare =
          ap (λ (b : Bool). record bare { mine = option_or (option_map thread_member_of (if b then Some (thread_member_object x.id m) else None)) None }) (ap (λ u. m.user == u) has.bot ∙ is_own)
          ∙ whole_view (Some m) mine

      before_by_id : IsById thread_view_id views_before
      before_by_id = IsById-shown thread_id thread_view_id (as_view s v h me own asks ascends) (λ t. refl) (shows s v h me) s.threads ascends

      changed_threads : map (λ (t : ThreadView). if t.id == x.id then change t else t) (put_id thread_view_id bare views_before) ≡ put_id thread_view_id (as_view s v h me own asks ascends again) views_before
      changed_threads =
          mapped-put thread_view_id x.id change bare (put_id thread_view_id bare views_before) (IsById-put thread_view_id bare views_before before_by_id) (λ t. refl)
          (find-put thread_view_id bare x.id views_before ∙ ap (λ b. if b then Some bare else find_id thread_view_id x.id views_before) (eq-eqb x.id x.id refl))
          ∙ (put-put thread_view_id (change bare) bare views_before before_by_id refl
          ∙ ap (λ (t : ThreadView). put_id thread_view_id t views_before) changes_bare)

      purged-after : purged v.intents s.id (update_members v.intents h.bot update between) ≡ viewing s v h me (views s v h me (put_id thread_id again s.threads))
      purged-after =
          ap (λ (ts : List ThreadView). purged v.intents s.id (viewing s v h me ts)) changed_threads
          ∙ ap (viewing s v h me) (tested s v h me own asks ascends again refl)

      with_membership : Has after v me (folded v.intents s.id holding d)
      with_membership =
          subst (λ (k : Held). Has after v me k) (sym (folded-here v.intents s.id holding d refl refl))
          (record { bot = has.bot; view = ap (λ (w : OpenView). Some (Open w)) purged-after })

      told_own : Has after v me (fold_from v.intents s.id holding (member_comes s.id v again (Some m)))
      told_own =
          subst (λ (b : Bool). Has after v me (fold_from v.intents s.id holding (if (has_bit v.intents guilds && (b || has_bit v.intents guild_members)) then d ∷ [] else []))) (sym is_own)
          (subst (λ (b : Bool). Has after v me (fold_from v.intents s.id holding (if (b && (true || has_bit v.intents guild_members)) then d ∷ [] else []))) (sym asks) with_membership)

    by_mine : (o : Option ThreadMember) → membership v.user again ≡ o → Has after v me (fold_from v.intents s.id holding (member_comes s.id v again o))
    by_mine None e = without_membership e
    by_mine (Some m) e = told_own m e

    told_both : Has after v me (fold_from v.intents s.id h (thread_updates s.id v (Some again) ++ thread_joins s.id v v.user (Some again)))
    told_both =
        subst (λ (b : Bool). Has after v me (fold_from v.intents s.id h ((if b then ThreadUpdate (thread_object s.id again) ∷ [] else []) ++ thread_joins s.id v v.user (Some again)))) (sym asks)
        (subst (λ (k : Held). Has after v me (fold_from v.intents s.id k (thread_joins s.id v v.user (Some again)))) (sym (comes_bare has)) (by_mine (membership v.user again) refl))

  pub follows-thread_unarchived : Has s v me h
      → Has after v me (fold_from v.intents s.id h (thread_updates s.id v (keep_if (member_sees s me) (Some again)) ++ thread_joins s.id v v.user (keep_if (member_sees s me) (Some again))))
  follows-thread_unarchived has = by_sight (member_sees s me x) refl
    where
      by_sight : (b : Bool) → member_sees s me x ≡ b
          → Has after v me (fold_from v.intents s.id h (thread_updates s.id v (if b then Some again else None) ++ thread_joins s.id v v.user (if b then Some again else None)))
      by_sight true seen = told_both has seen
      by_sight false hidden =
          stays_silent s v h me (put_id thread_id again s.threads) (shown-hidden thread_id thread_view_id (as_view s v h me own asks ascends) (λ t. refl) (shows s v h me) again s.threads ascends hidden (hidden_there s v h me own asks ascends x found no_view)) has
