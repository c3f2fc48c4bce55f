-- The law of a worker that takes its inputs from readers of hubs: each is of the logs as the readers know them.
use Rattle.std.proofs.Common.{◌≡◌, ℕ, Bool, true, false, ◌||◌, List, [], ◌∷◌, ◌++◌, if◌then◌else◌, Some, take, append_assoc, append-nil, refl, sym, ap, subst, ◌∙◌}
use Rattle.std.specs.Prelude.{◌==◌, All}
use Rattle.std.specs.List.{find}
use Rattle.std.specs.Option.{option_map_or}
use Rattle.std.proofs.lemmas.Bool.{eqb-true, true≢false}
use Rattle.std.proofs.lemmas.List.Elements.{All-head, All-tail}
use mathlib.Core.List.{IsPrefix}
use Rattle.collections.specs.ById.{has_id, put_all, put_id}
use Rattle.collections.proofs.Has.{has-put, has-kept}
use Rattle.guild_model.specs.Record.{Record, own_id}
use Rattle.edit_apply.specs.Edits.{after}
use Rattle.edit_apply.specs.declared.Edit.{Edit}
use Rattle.guild_hub.specs.Sights.{Seeing, end_of}
use Rattle.session_core.specs.declared.bot.Bot.{Bot}
use Rattle.session_core.specs.Frames.{Members, Presence, Voice, Move, Nothing, Answers, ClosesWith, Begins, Denies, Resumes, Wants}
use Rattle.world_law.specs.Keeping.{record_at}
use Rattle.world_law.specs.Looks.{entered, looked, looked_by, rebased_by}
use Rattle.world_law.specs.Frames.{framed, move_at}
use Rattle.world_law.specs.Model.{Worker, first_worker, record_of}
use Rattle.world_law.specs.Inputs.{Input, Look, Rebase, Open, Frame, Lost, Closed, Tick, taken}
use Rattle.world_law.specs.TheLaw.{IsOf, AreOf, all_taken, WorkerHolds, EachWorkerHolds}
use Rattle.world_law.proofs.Found.{contains_found, here_found}
use Rattle.worker_core.specs.InCode.{wire_text, wire_model}
use Rattle.worker_run.specs.Turns.{AreTurns}
use Rattle.worker_run.specs.Hubs.{handled_by, AreInOrder, passed, AllRead, logs_of, IsUnread, IsAmong, IsAbout}
use Rattle.guild_places.specs.Places.{guilds_of, has_guild}
use Rattle.worker_run.proofs.Hubs.{front_on, same_then}
use Rattle.worker_run.proofs.About.{about_all}

-- ---- what a worker has handled of the logs that it follows

-- the worker follows the log of the guild
abbrev pub Follows : Worker → ℕ → Type 0
Follows w g = has_id own_id g w.logs.guilds ≡ true

record_found : (w : Worker) (g : ℕ) → Follows w g → record_at wire_model w.logs g ≡ Some (record_of w.logs.seen g)
record_found w g there = here_found wire_text w.logs g (contains_found g w.logs.guilds ∙ there)

looked_seen : (es : List Edit) (w : Worker) (g : ℕ) (s : Record) (h : ℕ) → (looked wire_model w g s es).logs.seen h ≡ (if g == h then w.logs.seen h ++ es else w.logs.seen h)
looked_seen [] w g s h = by_id (g == h)
  where
    by_id : (b : Bool) → w.logs.seen h ≡ (if b then w.logs.seen h ++ [] else w.logs.seen h)
    by_id true = sym (append-nil (w.logs.seen h))
    by_id false = refl
looked_seen (e ∷ es) w g s h = looked_seen es (entered wire_model w g s e) g (after s e) h ∙ by_id (g == h)
  where
    by_id : (b : Bool) → (if b then (if b then w.logs.seen h ++ e ∷ [] else w.logs.seen h) ++ es else (if b then w.logs.seen h ++ e ∷ [] else w.logs.seen h)) ≡ (if b then w.logs.seen h ++ e ∷ es else w.logs.seen h)
    by_id true = append_assoc (w.logs.seen h) (e ∷ []) es
    by_id false = refl

looked_guilds : (es : List Edit) (w : Worker) (g : ℕ) (s : Record) → (looked wire_model w g s es).logs.guilds ≡ w.logs.guilds
looked_guilds [] w g s = refl
looked_guilds (e ∷ es) w g s = looked_guilds es (entered wire_model w g s e) g (after s e)

framed_logs : (w : Worker) (conn : ℕ) (move : Move) → (framed wire_model w conn move).logs ≡ w.logs
framed_logs w conn Nothing = refl
framed_logs w conn Answers = refl
framed_logs w conn (ClosesWith code) = refl
framed_logs w conn (Begins bot viewer) = refl
framed_logs w conn Denies = refl
framed_logs w conn (Resumes number older seq held) = refl
framed_logs w conn (Wants number (Members ask)) = refl
framed_logs w conn (Wants number (Presence status)) = refl
framed_logs w conn (Wants number (Voice ask)) = refl

module _ (guilds : List ℕ) where
  -- after an input about a log that it follows, it has handled what the input says
  taken_seen : (w : Worker) (i : Input) (h : ℕ) → ((g : ℕ) → IsAmong guilds g → Follows w g) → IsAbout guilds i → (taken wire_model w i).logs.seen h ≡ handled_by h (w.logs.seen h) i
  taken_seen w (Look g es) h follows about =
      ap (λ o. (looked_by wire_model o w g es).logs.seen h) (record_found w g (follows g about)) ∙ looked_seen es w g (record_of w.logs.seen g) h
  taken_seen w (Rebase g log) h follows about = ap (λ o. (rebased_by wire_model o w g log).logs.seen h) (record_found w g (follows g about))
  taken_seen w (Open conn) h follows about = refl
  taken_seen w (Frame conn text) h follows about = ap (λ logs. logs.seen h) (framed_logs w conn (move_at wire_model w conn text))
  taken_seen w (Lost conn) h follows about = refl
  taken_seen w (Closed conn code) h follows about = refl
  taken_seen w (Tick now) h follows about = refl

  taken_guilds : (w : Worker) (i : Input) → ((g : ℕ) → IsAmong guilds g → Follows w g) → IsAbout guilds i → (taken wire_model w i).logs.guilds ≡ w.logs.guilds
  taken_guilds w (Look g es) follows about =
      ap (λ o. (looked_by wire_model o w g es).logs.guilds) (record_found w g (follows g about)) ∙ looked_guilds es w g (record_of w.logs.seen g)
  taken_guilds w (Rebase g log) follows about = ap (λ o. (rebased_by wire_model o w g log).logs.guilds) (record_found w g (follows g about))
  taken_guilds w (Open conn) follows about = refl
  taken_guilds w (Frame conn text) follows about = ap (λ logs. logs.guilds) (framed_logs w conn (move_at wire_model w conn text))
  taken_guilds w (Lost conn) follows about = refl
  taken_guilds w (Closed conn code) follows about = refl
  taken_guilds w (Tick now) follows about = refl

-- ---- the inputs are of the logs

-- what inputs in order begin with is a front of the log
front_of : (g : ℕ) (done : List Edit) (is : List Input) (log : List Edit) → AreInOrder g done is log → IsPrefix done log
front_of g done [] log order = order
front_of g done (i ∷ is) log order = front_on done (handled_by g done i) log order.0 (front_of g (handled_by g done i) is log order.1)

is_of : (logs : ℕ → List Edit) (guilds : List ℕ) (w : Worker) (i : Input) (is : List Input)
    → ((g : ℕ) → IsAmong guilds g → AreInOrder g (w.logs.seen g) (i ∷ is) (logs g)) → IsAbout guilds i → IsOf logs w i
is_of logs guilds w (Look g es) is order about =
    let seen : List Edit = w.logs.seen g in
    let front : IsPrefix (seen ++ es) (logs g) = subst (λ l. IsPrefix l (logs g)) (same_then g (seen ++ es) seen) (front_of g (handled_by g seen (Look g es)) is (logs g) (order g about).1) in
    (front.0, sym front.1 ∙ append_assoc seen es front.0)
is_of logs guilds w (Rebase g log) is order about =
    let seen : List Edit = w.logs.seen g in
    let front : IsPrefix log (logs g) = subst (λ l. IsPrefix l (logs g)) (same_then g log seen) (front_of g (handled_by g seen (Rebase g log)) is (logs g) (order g about).1) in
    let missed : IsPrefix seen log = subst (λ l. IsPrefix seen l) (same_then g log seen) (order g about).0 in
    (missed.0, (front.0, (sym missed.1, sym front.1)))
is_of logs guilds w (Open conn) is order about = tt
is_of logs guilds w (Frame conn text) is order about = tt
is_of logs guilds w (Lost conn) is order about = tt
is_of logs guilds w (Closed conn code) is order about = tt
is_of logs guilds w (Tick now) is order about = tt

are_of : (logs : ℕ → List Edit) (guilds : List ℕ) (is : List Input) (w : Worker) → ((g : ℕ) → IsAmong guilds g → Follows w g)
    → ((g : ℕ) → IsAmong guilds g → AreInOrder g (w.logs.seen g) is (logs g)) → All (IsAbout guilds) is → AreOf wire_text logs w is
are_of logs guilds [] w follows order about = tt
are_of logs guilds (i ∷ is) w follows order about =
    let here : IsAbout guilds i = All-head (IsAbout guilds) i is about in (
      is_of logs guilds w i is order here,
      are_of logs guilds is (taken wire_model w i)
          (λ g among. ap (λ gs. has_id own_id g gs) (taken_guilds guilds w i follows here) ∙ follows g among)
          (λ g among. subst (λ done. AreInOrder g done is (logs g)) (sym (taken_seen guilds w i g follows here)) (order g among).1)
          (All-tail (IsAbout guilds) i is about),
    )

-- ---- the first worker and the first readers

put_stays : (g : ℕ) (xs ys : List ℕ) → has_id own_id g xs ≡ true → has_id own_id g (put_all own_id xs ys) ≡ true
put_stays g xs [] there = there
put_stays g xs (y ∷ ys) there = put_stays g (put_id own_id y xs) ys (has-kept own_id y g xs there)

put_there : (g : ℕ) (xs ys : List ℕ) → IsAmong ys g → has_id own_id g (put_all own_id xs ys) ≡ true
put_there g xs [] among = absurd (true≢false (sym among))
put_there g xs (y ∷ ys) among = by_id (y == g) refl (put_there g (put_id own_id y xs) ys)
  where
    by_id : (b : Bool) → (y == g) ≡ b → (IsAmong ys g → has_id own_id g (put_all own_id (put_id own_id y xs) ys) ≡ true) → has_id own_id g (put_all own_id (put_id own_id y xs) ys) ≡ true
    by_id true same others = put_stays g (put_id own_id y xs) ys (has-put own_id y g xs ∙ ap (λ b. b || has_id own_id g xs) same)
    by_id false differ others = others (sym (ap (λ b. b || has_guild g ys) differ) ∙ among)

-- a reader that has not looked has passed over nothing
none_passed : (r : ℕ × Seeing) → IsUnread r → passed r.1 ≡ []
none_passed r unread = ap (λ s. take (end_of s) r.1.log.entries) unread

-- the inputs of each guild are in order, up to the log as its reader knows it
in_order : (is : List Input) (olds news : List (ℕ × Seeing)) → AllRead is olds news → All IsUnread olds → (g : ℕ) → IsAmong (guilds_of olds) g → AreInOrder g [] is (logs_of news g)
in_order is [] [] all unread g among = absurd (true≢false (sym among))
in_order is [] (r ∷ news) all unread g among = absurd all
in_order is (o ∷ olds) [] all unread g among = absurd all
in_order is (o ∷ olds) (r ∷ news) all unread g among = by_id (o.0 == g) refl (in_order is olds news all.1 (All-tail IsUnread o olds unread) g)
  where
    own : (o.0 == g) ≡ true → AreInOrder g [] is (option_map_or (λ (x : ℕ × Seeing). x.1.log.entries) (Some r) [])
    own same =
        let one : o.0 ≡ g = eqb-true o.0 g same in
        subst (λ n. AreInOrder n [] is r.1.log.entries) one (subst (λ l. AreInOrder o.0 l is r.1.log.entries) (none_passed o (All-head IsUnread o olds unread)) all.0.order)

    found : (b : Bool) → (o.0 == g) ≡ b → (r.0 == g) ≡ b
    found b e = ap (λ n. n == g) all.0.guild ∙ e

    by_id : (b : Bool) → (o.0 == g) ≡ b → (IsAmong (guilds_of olds) g → AreInOrder g [] is (logs_of news g)) → AreInOrder g [] is (logs_of (r ∷ news) g)
    by_id true same others = subst (λ b. AreInOrder g [] is (option_map_or (λ (x : ℕ × Seeing). x.1.log.entries) (if b then Some r else find (λ (x : ℕ × Seeing). x.0 == g) news) [])) (sym (found true same)) (own same)
    by_id false differ others =
        subst (λ b. AreInOrder g [] is (option_map_or (λ (x : ℕ × Seeing). x.1.log.entries) (if b then Some r else find (λ (x : ℕ × Seeing). x.0 == g) news) [])) (sym (found false differ))
        (others (sym (ap (λ b. b || has_guild g (guilds_of olds)) differ) ∙ among))

among_all : (gs guilds : List ℕ) → All (IsAmong guilds) gs → (g : ℕ) → IsAmong gs g → IsAmong guilds g
among_all [] guilds all g among = absurd (true≢false (sym among))
among_all (h ∷ gs) guilds all g among = by_id (h == g) refl (among_all gs guilds (All-tail (IsAmong guilds) h gs all) g)
  where
    by_id : (b : Bool) → (h == g) ≡ b → (IsAmong gs g → IsAmong guilds g) → IsAmong guilds g
    by_id true same others = subst (IsAmong guilds) (eqb-true h g same) (All-head (IsAmong guilds) h gs all)
    by_id false differ others = others (sym (ap (λ b. b || has_guild g gs) differ) ∙ among)

-- ---- the law

opened : EachWorkerHolds → (bots : List Bot) (guilds : List ℕ) (number : ℕ) (url : List ℕ) (logs : ℕ → List Edit) (is : List Input)
    → AreOf wire_text logs (first_worker bots guilds number url) is → WorkerHolds logs (all_taken wire_text (first_worker bots guilds number url) is)
unfolding EachWorkerHolds
opened law bots guilds number url logs is are = law wire_text bots guilds number url logs is are

module _ (bots : List Bot) (guilds : List ℕ) (number : ℕ) (url : List ℕ) (is : List Input) (olds news : List (ℕ × Seeing)) (all : AllRead is olds news)
    (about : All (IsAbout (guilds_of olds)) is) (unread : All IsUnread olds) (among : All (IsAmong guilds) (guilds_of olds)) where
  -- the inputs are of the logs as the readers know them
  pub inputs_are_of : AreOf wire_text (logs_of news) (first_worker bots guilds number url) is
  inputs_are_of =
      are_of (logs_of news) (guilds_of olds) is (first_worker bots guilds number url)
      (λ g here. put_there g [] guilds (among_all (guilds_of olds) guilds among g here))
      (λ g here. in_order is olds news all unread g here)
      about

  -- so the law holds, by its clause on one worker
  pub meets_law : EachWorkerHolds → (w : Worker) → w ≡ first_worker bots guilds number url → WorkerHolds (logs_of news) (all_taken wire_text w is)
  meets_law law w first =
      subst (λ (v : Worker). WorkerHolds (logs_of news) (all_taken wire_text v is)) (sym first) (opened law bots guilds number url (logs_of news) is inputs_are_of)

-- the same of turns, as the loop says it
pub law_is_met : EachWorkerHolds → (is : List Input) (olds news : List (ℕ × Seeing)) → AreTurns (guilds_of olds) is → AllRead is olds news
    → (w : Worker) (bots : List Bot) (guilds : List ℕ) (number : ℕ) (url : List ℕ) → w ≡ first_worker bots guilds number url
    → All IsUnread olds → All (IsAmong guilds) (guilds_of olds) → WorkerHolds (logs_of news) (all_taken wire_text w is)
law_is_met law is olds news turns read w bots guilds number url first unread among =
    meets_law bots guilds number url is olds news read (about_all (guilds_of olds) is turns) unread among law w first
