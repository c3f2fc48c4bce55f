-- READY and the guilds that follow it bring the projection of every guild.
use Rattle.edit_events.proofs.Keeps.{greeting_holds}
use Rattle.edit_events.proofs.Others.{projection_stays, greeting_stays}
use Rattle.std.proofs.Common.{◌≡◌, ℕ, List, [], ◌∷◌, map, Bool, true, false, not, Option, Some, None, if◌then◌else◌, refl, sym, ap, subst, ◌∙◌, arith}
use Rattle.std.specs.Prelude.{◌==◌, ◌&&◌, ◌||◌, filter, flat_map}
use Rattle.std.proofs.lemmas.Bool.{eqb-true}
use Rattle.perm_bits.specs.Bits.{has_bit}
use Rattle.intent_set.specs.Intents.{guilds}
use Rattle.guild_model.specs.Record.{Record}
use Rattle.guild_model.specs.declared.member.Member.{Member}
use Rattle.dispatch_types.specs.declared.viewer.Viewer.{Viewer}
use Rattle.dispatch_types.specs.declared.view.GuildView.{GuildView}
use Rattle.dispatch_types.specs.declared.view.GuildView.TheVariants.{Unavailable}
use Rattle.dispatch_types.specs.declared.dispatch.Dispatch.{Dispatch}
use Rattle.dispatch_types.specs.declared.dispatch.Dispatch.TheVariants.{Ready, GuildCreate}
use Rattle.dispatch_types.specs.Serves.{served, serves}
use Rattle.dispatch_types.specs.Fold.{Held, nothing, contains, if_unavailable, purge, folded, fold_from}
use Rattle.dispatch_types.specs.Projection.{projection}
use Rattle.edit_apply.specs.Edits.{state}
use Rattle.edit_apply.specs.declared.Edit.{Edit}
use Rattle.edit_events.specs.Greeting.{greeting}
use Rattle.edit_events.specs.Law.{Agrees}
use Rattle.world_law.specs.Model.{Worker, in_model, record_of, records_of}
use Rattle.world_law.specs.Greeting.{first_dispatches, greeting_for, greeting_of, listed_guilds, ready}
use Rattle.world_law.proofs.Folds.{fold_join}
use Rattle.world_law.specs.Keeping.{record_id}
use Rattle.world_law.proofs.Logs.{state_id, state_is_well}

module _ (text : ℕ → Dispatch → List ℕ) (w : Worker) (v : Viewer) (h : ℕ) where
  abbrev here : Record
  here = state h (w.logs.seen h)

  -- one guild's dispatch, at this guild
  own_brings : (o : Option Member) (hd : Held) → served v here ≡ o → hd.bot ≡ v.user
      → (greeting_for v here o ≡ [] → Agrees here v hd) → Agrees here v (fold_from v.intents h hd (greeting_for v here o))
  own_brings None hd s bot otherwise = otherwise refl
  own_brings (Some me) hd s bot otherwise = by_tests (has_bit v.intents guilds) here.outage refl refl otherwise
    where
      by_tests : (b c : Bool) → has_bit v.intents guilds ≡ b → here.outage ≡ c
          → ((if b && not c then GuildCreate (greeting here v me) ∷ [] else []) ≡ [] → Agrees here v hd)
          → Agrees here v (fold_from v.intents h hd (if b && not c then GuildCreate (greeting here v me) ∷ [] else []))
      by_tests true false g out otherwise =
          let P : ℕ → Type 0 = λ n. Agrees here v (folded v.intents n hd (GuildCreate (greeting here v me))) in
          subst P (state_id h (w.logs.seen h)) (greeting_holds here v hd me (state_is_well h (w.logs.seen h)) s out g bot)
      by_tests true true g out otherwise = otherwise refl
      by_tests false c g out otherwise = otherwise refl

  -- another guild's dispatch leaves what a purge leaves
  other_stays : (g : ℕ) (hd : Held) → (g == h) ≡ false → purge v.intents h hd ≡ hd → fold_from v.intents h hd (greeting_of v (record_of w.logs.seen g)) ≡ hd
  other_stays g hd differ still = by_member (served v (state g (w.logs.seen g)))
    where
      by_tests : (me : Member) (b : Bool) → fold_from v.intents h hd (if b then GuildCreate (greeting (state g (w.logs.seen g)) v me) ∷ [] else []) ≡ hd
      by_tests me true = greeting_stays (state g (w.logs.seen g)) v h hd me (ap (λ n. n == h) (state_id g (w.logs.seen g)) ∙ differ) still
      by_tests me false = refl

      by_member : (o : Option Member) → fold_from v.intents h hd (greeting_for v (state g (w.logs.seen g)) o) ≡ hd
      by_member None = refl
      by_member (Some me) = by_tests me (has_bit v.intents guilds && not (state g (w.logs.seen g)).outage)

  abbrev after_all : Held → List ℕ → Held
  after_all hd gs = fold_from v.intents h hd (flat_map (greeting_of v) (map (record_of w.logs.seen) gs))

  next_guild : (g : ℕ) (gs : List ℕ) (hd : Held) → after_all hd (g ∷ gs) ≡ after_all (fold_from v.intents h hd (greeting_of v (record_of w.logs.seen g))) gs
  next_guild g gs hd = fold_join v.intents h hd (greeting_of v (record_of w.logs.seen g)) (flat_map (greeting_of v) (map (record_of w.logs.seen) gs))

  -- where the client holds the projection, what is still to come leaves that so
  agrees_on : (gs : List ℕ) (hd : Held) → Agrees here v hd → Agrees here v (after_all hd gs)
  agrees_on [] hd old = old
  agrees_on (g ∷ gs) hd old = subst (λ (hd : Held). Agrees here v hd) (sym (next_guild g gs hd)) (agrees_on gs (fold_from v.intents h hd (greeting_of v (record_of w.logs.seen g))) (by_id (g == h) refl))
    where
      still : purge v.intents h hd ≡ hd
      still = subst (λ (n : ℕ). purge v.intents n hd ≡ hd) (state_id h (w.logs.seen h)) (projection_stays here v hd (state_is_well h (w.logs.seen h)) old)

      by_id : (b : Bool) → (g == h) ≡ b → Agrees here v (fold_from v.intents h hd (greeting_of v (record_of w.logs.seen g)))
      by_id true same = subst (λ (n : ℕ). Agrees here v (fold_from v.intents h hd (greeting_of v (record_of w.logs.seen n)))) (sym (eqb-true g h same)) (own_brings (served v here) hd refl old.bot (λ none. old))
      by_id false differ = subst (λ (hd : Held). Agrees here v hd) (sym (other_stays g hd differ still)) old

  -- the guilds bring this one's projection
  brings : (gs : List ℕ) (hd : Held) → hd.bot ≡ v.user → purge v.intents h hd ≡ hd → (greeting_of v here ≡ [] → Agrees here v hd) → contains h gs ≡ true → Agrees here v (after_all hd gs)
  brings [] hd bot still otherwise there = absurd (cc there)
  brings (g ∷ gs) hd bot still otherwise there = subst (λ (hd : Held). Agrees here v hd) (sym (next_guild g gs hd)) (by_id (g == h) refl there (brings gs hd bot still otherwise))
    where
      by_id : (b : Bool) → (g == h) ≡ b → (b || contains h gs) ≡ true → (contains h gs ≡ true → Agrees here v (after_all hd gs)) → Agrees here v (after_all (fold_from v.intents h hd (greeting_of v (record_of w.logs.seen g))) gs)
      by_id true same there rest = subst (λ (n : ℕ). Agrees here v (after_all (fold_from v.intents h hd (greeting_of v (record_of w.logs.seen n))) gs)) (sym (eqb-true g h same))
          (agrees_on gs (fold_from v.intents h hd (greeting_of v here)) (own_brings (served v here) hd refl bot otherwise))
      by_id false differ there rest = subst (λ (hd : Held). Agrees here v (after_all hd gs)) (sym (other_stays g hd differ still)) (rest there)

  -- the other guilds leave this one as it is
  all_stay : (gs : List ℕ) (hd : Held) → purge v.intents h hd ≡ hd → contains h gs ≡ false → after_all hd gs ≡ hd
  all_stay [] hd still none = refl
  all_stay (g ∷ gs) hd still none = next_guild g gs hd ∙ by_id (g == h) refl none (all_stay gs hd still)
    where
      by_id : (b : Bool) → (g == h) ≡ b → (b || contains h gs) ≡ false → (contains h gs ≡ false → after_all hd gs ≡ hd) → after_all (fold_from v.intents h hd (greeting_of v (record_of w.logs.seen g))) gs ≡ hd
      by_id true same none rest = absurd (cc none)
      by_id false differ none rest = ap (λ hd. after_all hd gs) (other_stays g hd differ still) ∙ rest none

  -- READY lists the served guilds
  contains_where : (p : Record → Bool) (gs : List ℕ) → contains h (map record_id (filter p (map (record_of w.logs.seen) gs))) ≡ (contains h gs && p here)
  contains_where p [] = refl
  contains_where p (g ∷ gs) = by_tests (p (record_of w.logs.seen g)) (g == h) refl refl (contains_where p gs)
    where
      by_tests : (b c : Bool) → p (record_of w.logs.seen g) ≡ b → (g == h) ≡ c → contains h (map record_id (filter p (map (record_of w.logs.seen) gs))) ≡ (contains h gs && p here)
          → contains h (map record_id (if b then record_of w.logs.seen g ∷ filter p (map (record_of w.logs.seen) gs) else filter p (map (record_of w.logs.seen) gs))) ≡ ((c || contains h gs) && p here)
      by_tests true true passes same rest =
          let there : p here ≡ true = ap (λ n. p (record_of w.logs.seen n)) (sym (eqb-true g h same)) ∙ passes in
          let at : ((record_of w.logs.seen g).id == h) ≡ true = ap (λ n. n == h) (state_id g (w.logs.seen g)) ∙ same in
          ap (λ b. b || contains h (map record_id (filter p (map (record_of w.logs.seen) gs)))) at ∙ sym there
      by_tests true false passes differ rest =
          let at : ((record_of w.logs.seen g).id == h) ≡ false = ap (λ n. n == h) (state_id g (w.logs.seen g)) ∙ differ in
          ap (λ b. b || contains h (map record_id (filter p (map (record_of w.logs.seen) gs)))) at ∙ rest
      by_tests false true fails same rest = let there : p here ≡ false = ap (λ n. p (record_of w.logs.seen n)) (sym (eqb-true g h same)) ∙ fails in grind (arith, there, rest)
      by_tests false false fails differ rest = rest

  abbrev first_view : Held
  first_view = record { bot = v.user; view = if_unavailable v.intents (contains h (listed_guilds v (records_of w.logs))); known = [] }

  still_first : purge v.intents h first_view ≡ first_view
  still_first = by_tests (contains h (listed_guilds v (records_of w.logs))) (has_bit v.intents guilds)
    where
      by_tests : (b c : Bool) → let view : Option GuildView = if b then (if c then Some Unavailable else None) else None in
          purge v.intents h (record { bot = v.user; view = view; known = [] }) ≡ record { bot = v.user; view = view; known = [] }
      by_tests true true = refl
      by_tests true false = refl
      by_tests false c = refl

  ready_held : (name : List ℕ) (n : ℕ) → folded v.intents h nothing (Ready (ready (in_model text) w v name n)) ≡ first_view
  unfolding folded
  ready_held name n = still_first

  contains_listed : contains h (listed_guilds v (records_of w.logs)) ≡ (has_bit v.intents guilds && (contains h w.logs.guilds && serves v here))
  contains_listed = by_bit (has_bit v.intents guilds)
    where
      by_bit : (b : Bool) → contains h (if b then map record_id (filter (λ s. serves v s) (records_of w.logs)) else []) ≡ (b && (contains h w.logs.guilds && serves v here))
      by_bit true = contains_where (λ s. serves v s) w.logs.guilds
      by_bit false = refl

  -- where no GUILD_CREATE comes, READY says all
  ready_says : (b there : Bool) (o : Option Member) (c : Bool) → has_bit v.intents guilds ≡ b → contains h w.logs.guilds ≡ there → served v here ≡ o → here.outage ≡ c
      → (there ≡ true → (if b && not c then false else true) ≡ false → o ≡ None) → (there ≡ false → o ≡ None)
      → if_unavailable v.intents (contains h (listed_guilds v (records_of w.logs))) ≡ projection here v []
  unfolding projection
  ready_says false there o c g t s out greeted strange = simp g refl
  ready_says true true None c g t s out greeted strange =
      let e : contains h (listed_guilds v (records_of w.logs)) ≡ false = contains_listed ∙ simp (g, t, s) refl in
      ap (λ x. if_unavailable v.intents x) e ∙ simp (g, s) refl
  ready_says true true (Some me) true g t s out greeted strange =
      let e : contains h (listed_guilds v (records_of w.logs)) ≡ true = contains_listed ∙ simp (g, t, s) refl in
      ap (λ x. if_unavailable v.intents x) e ∙ simp (g, s, out) refl
  ready_says true true (Some me) false g t s out greeted strange = absurd (cc (greeted refl refl))
  ready_says true false None c g t s out greeted strange =
      let e : contains h (listed_guilds v (records_of w.logs)) ≡ false = contains_listed ∙ simp (g, t) refl in
      ap (λ x. if_unavailable v.intents x) e ∙ simp (g, s) refl
  ready_says true false (Some me) c g t s out greeted strange = absurd (cc (strange refl))

  first_says : greeting_of v here ≡ [] → contains h w.logs.guilds ≡ true → Agrees here v first_view
  first_says none there = record {
    bot = refl;
    view = ready_says (has_bit v.intents guilds) true (served v here) here.outage refl there refl refl
        (λ t. by_tests (has_bit v.intents guilds) (served v here) here.outage refl refl refl none) (λ f. absurd (cc f));
  }
    where
      by_tests : (b : Bool) (o : Option Member) (c : Bool) → has_bit v.intents guilds ≡ b → served v here ≡ o → here.outage ≡ c
          → greeting_for v here o ≡ [] → (if b && not c then false else true) ≡ false → o ≡ None
      by_tests b None c g s out none due = refl
      by_tests true (Some me) false g s out none due = absurd (cc (simp (g, out) at none))
      by_tests true (Some me) true g s out none due = absurd (cc due)
      by_tests false (Some me) c g s out none due = absurd (cc due)

  -- of a guild that the worker does not have there is nothing
  strange_says : w.logs.seen h ≡ [] → contains h w.logs.guilds ≡ false → Agrees here v first_view
  strange_says unseen none = record {
    bot = refl;
    view = ready_says (has_bit v.intents guilds) false (served v here) here.outage refl none refl refl (λ t. absurd (cc t))
        (λ f. subst (λ (es : List Edit). served v (state h es) ≡ None) (sym unseen) refl);
  }

  pub first_agrees : (name : List ℕ) (n : ℕ) → (contains h w.logs.guilds ≡ false → w.logs.seen h ≡ []) → Agrees here v (fold_from v.intents h nothing (first_dispatches (in_model text) w v name n))
  first_agrees name n strangers = subst (λ (hd : Held). Agrees here v (after_all hd w.logs.guilds)) (sym (ready_held name n)) (by_there (contains h w.logs.guilds) refl)
    where
      by_there : (b : Bool) → contains h w.logs.guilds ≡ b → Agrees here v (after_all first_view w.logs.guilds)
      by_there true there = brings w.logs.guilds first_view refl still_first (λ none. first_says none there) there
      by_there false none = subst (λ (hd : Held). Agrees here v hd) (sym (all_stay w.logs.guilds first_view still_first none)) (strange_says (strangers none) none)
