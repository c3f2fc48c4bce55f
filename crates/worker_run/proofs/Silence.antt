-- What a worker takes after its last connection.
use Rattle.std.proofs.Common.{◌≡◌, ℕ, List, [], ◌∷◌, ◌++◌, true, false, ◌&&◌, Option, Some, All, inl, inr, slice_get, refl, sym, ap, subst, ◌∙◌, append-nil}
use Rattle.std.specs.List.{list_all, list_any}
use Rattle.std.proofs.lemmas.Bool.{and_parts, false≢true}
use Rattle.std.proofs.lemmas.List.Folds.{list_all-append}
use Rattle.edit_apply.specs.declared.Edit.{Edit}
use Rattle.edit_post.specs.Post.{Sender}
use Rattle.gate_outside.specs.Clocks.{ClockTale}
use Rattle.gate_outside.specs.Links.{ReturnedLink}
use Rattle.guild_hub.specs.Sights.{Seeing, has_quit}
use Rattle.open_links.specs.Courses.{Event, Events, is_giving, only_gives}
use Rattle.open_links.specs.Links.{Holding}
use Rattle.open_links.specs.Calls.{GoesBy}
use Rattle.open_links.proofs.Composing.{goes_by_moves, none_moves}
use Rattle.world_law.specs.Inputs.{Input, Look, Rebase, Open, Frame, Lost, Closed, Tick}
use Rattle.worker_core.specs.declared.io.Input.{Input as Given}
use Rattle.worker_core.specs.declared.io.Output.{Output as Written}
use Rattle.worker_core.specs.declared.io.Output.TheVariants.{Send, Close, Wish}
use Rattle.worker_core.specs.InCode.{KeptWorker}
use Rattle.worker_run.specs.declared.looks.Seen.{Seen}
use Rattle.worker_run.specs.declared.fault.WorkFault.{WorkFault}
use Rattle.worker_run.specs.declared.fault.WorkFault.TheVariants as fault
use Rattle.worker_run.specs.Histories.{History, Took, given_out, inputs, event_taken, events, wishes}
use Rattle.worker_run.specs.Hubs.{AllRead, IsReader}
use Rattle.guild_places.specs.Places.{guilds_of}
use Rattle.worker_run.specs.Notes.{AreNoted}
use Rattle.worker_run.specs.Parts.{Sees}
use Rattle.worker_run.specs.Running.{IsSilent, IsQuiet, Quietly, TakesQuietly}
use Rattle.worker_run.specs.Stopping.{TakesNot}
use Rattle.worker_run.specs.Turns.{is_loss, looked_at}
use Rattle.guild_posts.specs.Posts.{AreSent}
use Rattle.worker_run.specs.Workers.{FollowsAll}
use Rattle.worker_run.specs.Moves.{Serving, Now, now, LeavesOutside, Handles, IsLookOf, IsLookOfOrNone}
use Rattle.worker_run.proofs.Composing.{Went, Stopped}
use Rattle.worker_run.proofs.Hubs.{readers_kept}
use Rattle.worker_run.proofs.Histories.{inputs_given, events_join, wishes_join}
use Rattle.worker_run.proofs.Moves.{handles_not_taken}
use Rattle.worker_run.proofs.Quiet.{is_frame, but_wishes, but_wishes-quiet, follows_quiet}
use Rattle.worker_run.proofs.Shapes.{one_look}
use Rattle.worker_run.proofs.Turning.{Comes, halts_after, goes_still, still_seen, comes_seen, links_seen, handled, handled_not}
use Rattle.guild_posts.proofs.Sent.{sent_none}
use Rattle.worker_run.proofs.Workers.{follows_given}

-- ---- quiet histories

gives_join : (xs ys : Events) → only_gives (xs ++ ys) ≡ (only_gives xs && only_gives ys)
gives_join xs ys = list_all-append (λ (e : ℕ × Event). is_giving e.1) xs ys

pub quiet_none : IsQuiet []
quiet_none = record { gives = refl; wishes = refl }

pub quiet_on : (h k : History) → IsQuiet h → IsQuiet k → IsQuiet (h ++ k)
quiet_on h k first second = record {
  gives =
      ap (λ (es : Events). only_gives es) (events_join h k)
      ∙ (gives_join (events h) (events k) ∙ (ap (λ b. b && only_gives (events k)) first.gives ∙ second.gives));
  wishes = wishes_join h k ∙ (ap (λ (ws : List (ℕ × Edit)). ws ++ wishes k) first.wishes ∙ second.wishes);
}

-- the same of shapes
pub quietly_on : (P Q R : History → Type 0) (h k : History) → (P h → Q k → R (h ++ k)) → Quietly P h → Quietly Q k → Quietly R (h ++ k)
quietly_on P Q R h k joins first second = (quiet_on h k first.0 second.0, joins first.1 second.1)

-- ---- an input that comes over no connection

silent_is_no_frame : (i : Input) → IsSilent i → is_frame i ≡ false
silent_is_no_frame (Look g es) silent = refl
silent_is_no_frame (Rebase g log) silent = refl
silent_is_no_frame (Tick now) silent = refl
silent_is_no_frame (Open conn) silent = absurd (false≢true silent)
silent_is_no_frame (Frame conn text) silent = absurd (false≢true silent)
silent_is_no_frame (Lost conn) silent = absurd (false≢true silent)
silent_is_no_frame (Closed conn code) silent = absurd (false≢true silent)

silent_gives : (i : Input) (h : History) → IsSilent i → only_gives (events h) ≡ true → only_gives (events (Took i ∷ h)) ≡ true
silent_gives (Look g es) h silent gives = gives
silent_gives (Rebase g log) h silent gives = gives
silent_gives (Tick now) h silent gives = gives
silent_gives (Open conn) h silent gives = absurd (false≢true silent)
silent_gives (Frame conn text) h silent gives = absurd (false≢true silent)
silent_gives (Lost conn) h silent gives = absurd (false≢true silent)
silent_gives (Closed conn code) h silent gives = absurd (false≢true silent)

quiet_one : (i : Input) → IsSilent i → IsQuiet (Took i ∷ [])
quiet_one i silent = record { gives = silent_gives i [] silent refl; wishes = refl }

pub look_is_silent : (i : Input) (g : ℕ) → looked_at i ≡ Some g → IsSilent i
look_is_silent (Look h es) g about = refl
look_is_silent (Rebase h log) g about = refl
look_is_silent (Tick now) g about = refl
look_is_silent (Open conn) g about = cc
look_is_silent (Frame conn text) g about = cc
look_is_silent (Lost conn) g about = cc
look_is_silent (Closed conn code) g about = cc

outputs_give : (out : List Written) → only_gives (events (given_out out)) ≡ true
outputs_give [] = refl
outputs_give (Send conn text ∷ out) = outputs_give out
outputs_give (Close conn code ∷ out) = outputs_give out
outputs_give (Wish g e ∷ out) = outputs_give out

-- the worker takes it, and owes no wish for it
module _ (i : Input) (out : List Written) (old new : KeptWorker) (silent : IsSilent i) (follows : FollowsAll old (Took i ∷ []) out new) where
  pub takes_quietly : (before now : Option (List Given)) → AreNoted (i ∷ []) before now → TakesQuietly i (given_out (but_wishes out)) old new before now
  takes_quietly before now noted = record {
    worker = follows_given old new (Took i ∷ []) (but_wishes out) []
        (subst (λ (o : List Written). FollowsAll old (Took i ∷ []) o new) (sym (append-nil (but_wishes out))) (follows_quiet old new i out (silent_is_no_frame i silent) follows));
    quiet = record {
      gives = silent_gives i (given_out (but_wishes out)) silent (outputs_give (but_wishes out));
      wishes = but_wishes-quiet out;
    };
    outputs = inputs_given (but_wishes out);
    notes = noted;
  }

-- ---- no link is open

-- so what the worker takes is handled
module _ (i : Input) (clock : ClockTale) (t u : Serving) (back : Option (List ReturnedLink)) (m n : Option (List Given))
    (same : u ≡ record t { worker = u.worker }) (none : t.links.links ≡ []) where
  abbrev given : Now
  given = now t back m clock

  abbrev taken : Now
  taken = now u back n clock

  leaves_quietly : (h : History) → TakesQuietly i h t.worker u.worker m n → LeavesOutside h given taken
  leaves_quietly h takes =
      let gives : only_gives (events h) ≡ true = (and_parts (only_gives (event_taken i)) (only_gives (events h)) (sym (gives_join (event_taken i) (events h)) ∙ takes.quiet.gives)).1 in
      record {
        links = subst (λ (o : Holding). GoesBy (events h) t.links back o back) (sym (ap (λ (s : Serving). s.links) same))
            (goes_by_moves (events h) t.links t.links back (none_moves (events h) t.links none gives));
        count = ap (λ (s : Serving). s.links.count) same;
        readers = ap (λ (s : Serving). s.readers) same;
        passes = subst (λ (ws : List (ℕ × Edit)). AreSent (guilds_of t.readers) ws t.passes u.passes) (sym takes.quiet.wishes)
            (subst (λ (ps : List Sender). AreSent (guilds_of t.readers) [] t.passes ps) (sym (ap (λ (s : Serving). s.passes) same)) (sent_none (guilds_of t.readers) t.passes));
        ended = ap (λ (s : Serving). s.ended) same;
        clock = refl;
        losses = ap (λ (is : List Input). list_all is_loss is) takes.outputs;
      }

  handles_quietly : (h : History) → TakesQuietly i h t.worker u.worker m n → Handles i h given taken
  handles_quietly h takes = record {
    outside = leaves_quietly h takes;
    worker = takes.worker;
    notes = subst (λ (is : List Input). AreNoted (i ∷ is) m n) (sym takes.outputs) takes.notes;
  }

  -- after the outside has told of it
  module _ (P : History → Type 0) (a : Now) (comes : Comes i a given) (links : GoesBy (event_taken i) a.serving.links a.returned t.links back)
      (readers : All IsReader t.readers) (shape : (h : History) → list_all is_loss (inputs h) ≡ true → P (Took i ∷ h)) where
    pub goes_quietly : (h : History) → TakesQuietly i h t.worker u.worker m n → Went (Quietly P) a taken
    goes_quietly h takes =
        let does : Handles i h given taken = handles_quietly h takes in
        (Took i ∷ h, (handled i h a given taken comes readers links does, (takes.quiet, shape h does.outside.losses)))

    pub stops_quietly : IsSilent i → (f : WorkFault) → TakesNot i t.worker m n f → Stopped (Quietly P) f a taken
    stops_quietly silent f not =
        (Took i ∷ [], (handled_not i [] a given taken comes readers f links (handles_not_taken i clock t u back m n same f not), (quiet_one i silent, shape [] refl)))

-- ---- a look

-- the readers stay readers
pub readers_took : (is : List Input) (old : List (ℕ × Seeing)) (t u : Serving) → u ≡ record t { worker = u.worker } → AllRead is old t.readers → All IsReader old → All IsReader u.readers
readers_took is old t u took read readers =
    subst (λ (rs : List (ℕ × Seeing)). All IsReader rs) (sym (ap (λ (v : Serving). v.readers) took)) (readers_kept is old t.readers read readers)

module _ (s t : Serving) (same : t ≡ record s { readers = t.readers }) (back : Option (List ReturnedLink)) (m : Option (List Given)) (clock : ClockTale) where
  abbrev unseen : Now
  unseen = now s back m clock

  abbrev seen_now : Now
  seen_now = now t back m clock

  -- memory ran out before anything was seen
  pub quiet_look_fails : (guild : Option ℕ) → AllRead [] s.readers t.readers → Stopped (Quietly (IsLookOfOrNone guild)) fault.Memory unseen seen_now
  quiet_look_fails guild read = ([], (halts_after [] unseen seen_now (goes_still unseen seen_now (still_seen s t same back m clock read)), (quiet_none, inr refl)))

  module _ (place : ℕ) (seen : Seen) (sees : Sees place seen s.readers t.readers) (readers : All IsReader t.readers) (none : s.links.links ≡ [])
      (u : Serving) (n : Option (List Given)) (took : u ≡ record t { worker = u.worker }) where
    abbrev looked_now : Now
    looked_now = now u back n clock

    abbrev guild : Option ℕ
    guild = slice_get (guilds_of s.readers) place

    none_now : t.links.links ≡ []
    none_now = ap (λ (v : Serving). v.links.links) same ∙ none

    comes : Comes sees.input unseen seen_now
    comes = comes_seen s t same back m clock sees.input sees.guild sees.about sees.reads

    links : GoesBy (event_taken sees.input) s.links back t.links back
    links = links_seen s t same back m clock sees.input sees.guild sees.about

    shape : (h : History) → list_all is_loss (inputs h) ≡ true → IsLookOf guild (Took sees.input ∷ h)
    shape h losses = one_look sees.input h sees.guild sees.about losses ∙ ap (λ (o : Option ℕ). o ∷ []) (sym sees.at_place)

    pub quiet_look_goes : (h : History) → TakesQuietly sees.input h t.worker u.worker m n → Went (Quietly (IsLookOf guild)) unseen looked_now
    quiet_look_goes h takes = goes_quietly sees.input clock t u back m n took none_now (IsLookOf guild) unseen comes links readers shape h takes

    pub quiet_look_stops : (f : WorkFault) → TakesNot sees.input t.worker m n f → Stopped (Quietly (IsLookOfOrNone guild)) f unseen looked_now
    quiet_look_stops f not =
        stops_quietly sees.input clock t u back m n took none_now (IsLookOfOrNone guild) unseen comes links readers (λ h losses. inl (shape h losses))
        (look_is_silent sees.input sees.guild sees.about) f not

    -- the log ended without a seal
    pub quiet_look_quits : seen.quit ≡ true → (h : History) → TakesQuietly sees.input h t.worker u.worker m n → Stopped (Quietly (IsLookOfOrNone guild)) fault.Quit unseen looked_now
    quiet_look_quits quit h takes =
        let went : Went (Quietly (IsLookOf guild)) unseen looked_now = quiet_look_goes h takes in
        let quits : list_any (λ (r : ℕ × Seeing). has_quit r.1) u.readers ≡ true =
        subst (λ (rs : List (ℕ × Seeing)). list_any (λ (r : ℕ × Seeing). has_quit r.1) rs ≡ true) (sym (ap (λ (v : Serving). v.readers) took)) (sees.quit quit) in
        (went.0, ((went.1.0, quits), (went.1.1.0, inl went.1.1.1)))
