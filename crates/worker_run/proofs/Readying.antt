-- What holds between the parts of a turn, and how the parts of a turn answer.
use Rattle.std.proofs.Common.{◌≡◌, ℕ, ◌≤◌, List, [], ◌∷◌, true, None, Result, Ok, Err, MatchResult, OnOk, All, refl, sym, ap, subst, ◌∙◌, arith}
use Rattle.std.specs.List.{list_all}
use Rattle.gate_outside.specs.declared.faults.Fault.{Fault}
use Rattle.gate_outside.specs.declared.faults.Fault.TheVariants as outside
use Rattle.gate_outside.specs.Causes.{FaultHasCause, Rose}
use Rattle.gate_outside.specs.Clocks.{ClockTale}
use Rattle.gate_outside.specs.Doors.{DoorTale}
use Rattle.open_links.specs.Links.{Holding}
use Rattle.open_links.specs.Calls.{GoesBy}
use Rattle.guild_hub.specs.Sights.{Seeing}
use Rattle.edit_post.specs.Post.{PostId, Sender}
use Rattle.world_law.specs.Inputs.{Input}
use Rattle.worker_core.specs.InCode.{KeptWorker}
use Rattle.worker_run.specs.Histories.{History, Took, inputs, event_taken}
use Rattle.worker_run.specs.Hubs.{AllRead, IsReader}
use Rattle.guild_places.specs.Places.{AreDistinct}
use Rattle.guild_posts.specs.Posts.{ArePasses}
use Rattle.worker_run.specs.Turns.{is_loss}
use Rattle.worker_run.specs.Faults.{by_door, DoorFails}
use Rattle.worker_run.specs.Moves.{Serving, Now, IsReady, CountsLinks, MayStop, Goes, Stops, GoesOrStops, Handles, HandlesNot}
use Rattle.worker_run.specs.declared.fault.WorkFault.{WorkFault}
use Rattle.worker_run.specs.declared.fault.WorkFault.TheVariants as fault
use Rattle.worker_run.proofs.Hubs.{readers_kept, same_guilds, all_read_none}
use Rattle.worker_run.proofs.Turning.{Comes, handled, handled_not}

-- ---- what holds before and after

pub ready_on : (posts : List PostId) (is : List Input) (a b : Serving) (d e : DoorTale) → b.passes ≡ a.passes → AllRead is a.readers b.readers → b.links.count ≤ e.given
    → (b.ended ≡ true → e.ended ≡ true) → IsReady posts a d → IsReady posts b e
ready_on posts is a b d e passes read within ended ready = record {
  some = ready.some;
  passes = subst (λ (ps : List Sender). ArePasses posts ps) (sym passes) ready.passes;
  readers = readers_kept is a.readers b.readers read ready.readers;
  distinct = subst (λ (gs : List ℕ). AreDistinct gs) (sym (same_guilds is a.readers b.readers read)) ready.distinct;
  within = within;
  ended = ended;
}

-- by a look at a hub
pub ready_seen : (posts : List PostId) (is : List Input) (s t : Serving) (d : DoorTale) → t ≡ record s { readers = t.readers } → AllRead is s.readers t.readers → IsReady posts s d → IsReady posts t d
ready_seen posts is s t d same read ready =
    ready_on posts is s t d d (ap (λ (v : Serving). v.passes) same) read
    (subst (λ (o : Holding). o.count ≤ d.given) (sym (ap (λ (v : Serving). v.links) same)) ready.within)
    (λ over. ready.ended (sym (ap (λ (v : Serving). v.ended) same) ∙ over)) ready

-- by a question to a link
pub ready_asked : (posts : List PostId) (s t : Serving) (d : DoorTale) → t ≡ record s { links = t.links } → t.links.count ≡ s.links.count → IsReady posts s d → IsReady posts t d
ready_asked posts s t d same count ready =
    ready_on posts [] s t d d (ap (λ (v : Serving). v.passes) same)
    (subst (λ (rs : List (ℕ × Seeing)). AllRead [] s.readers rs) (sym (ap (λ (v : Serving). v.readers) same)) (all_read_none s.readers ready.readers))
    (omega (arith, count, ready.within))
    (λ over. ready.ended (sym (ap (λ (v : Serving). v.ended) same) ∙ over)) ready

pub counts_same : (a b : Serving) (d e : DoorTale) → b.links.count ≡ a.links.count → e.given ≡ d.given → CountsLinks a b d e
counts_same a b d e count given = omega (arith, count, given)

pub counts_on : (a b c : Serving) (d e f : DoorTale) → CountsLinks a b d e → CountsLinks b c e f → CountsLinks a c d f
counts_on a b c d e f first second = omega (arith, first, second)

-- ---- the count of a door's faults

-- only a fault of the door raises its count
abbrev pub Fails : ℕ → ℕ → WorkFault → Type 0
Fails before after fault.Door = Rose before after
Fails before after fault.Quit = after ≡ before
Fails before after fault.Spent = after ≡ before
Fails before after fault.Memory = after ≡ before

-- a fault that no door has
pub no_door : (h : History) (k : KeptWorker) (passes : List Sender) (f : WorkFault) (before after : ℕ) → MayStop h k passes f → after ≡ before → Fails before after f
no_door h k passes fault.Spent before after why same = same
no_door h k passes fault.Memory before after why same = same
no_door h k passes fault.Door before after why same = absurd why
no_door h k passes fault.Quit before after why same = absurd why

pub door_fails : {T : Type 0} (r : Result T Fault) (f : Fault) (before after : ℕ) → r ≡ Err f → FaultHasCause before after r → Fails before after (by_door f)
door_fails r outside.Failed before after is cause = cause.failed is
door_fails r outside.Memory before after is cause = cause.memory is

-- the count rises in the last of several parts alone
pub fails_on : (first mid last : ℕ) (f : WorkFault) → mid ≡ first → Fails mid last f → Fails first last f
fails_on first mid last f same fails = subst (λ (n : ℕ). Fails n last f) same fails

pub fails_at : {T : Type 0} (before after : ℕ) (f : WorkFault) (r : Result T WorkFault) → r ≡ Err f → DoorFails before after r → Fails before after f
fails_at before after fault.Door r is fails = subst (λ s. DoorFails before after s) is fails
fails_at before after fault.Quit r is fails = subst (λ s. DoorFails before after s) is fails
fails_at before after fault.Spent r is fails = subst (λ s. DoorFails before after s) is fails
fails_at before after fault.Memory r is fails = subst (λ s. DoorFails before after s) is fails

pub fails_of : {T : Type 0} (before after : ℕ) (f : WorkFault) (r : Result T WorkFault) → r ≡ Err f → Fails before after f → DoorFails before after r
fails_of before after fault.Door r is fails = subst (λ s. DoorFails before after s) (sym is) fails
fails_of before after fault.Quit r is fails = subst (λ s. DoorFails before after s) (sym is) fails
fails_of before after fault.Spent r is fails = subst (λ s. DoorFails before after s) (sym is) fails
fails_of before after fault.Memory r is fails = subst (λ s. DoorFails before after s) (sym is) fails

-- ---- what a part answers

-- a fault that was passed on
pub passed_on : {T : Type 0} (r : Result T WorkFault) (y f : WorkFault) → r ≡ Err y → y ≡ f → r ≡ Err f
passed_on r y f is by = subst (λ (x : WorkFault). r ≡ Err x) by is

pub stops_by : {T : Type 0} (P Q : History → Type 0) (r : Result T WorkFault) (f : WorkFault) (a b : Now) → r ≡ Err f → (h : History) × (Stops h f a b × Q h) → GoesOrStops P Q r a b
stops_by P Q r f a b is stopped = subst (λ s. GoesOrStops P Q s a b) (sym is) stopped

pub on_err : {T : Type 0} (P : Type 0) (r : Result T WorkFault) (f : WorkFault) → r ≡ Err f → OnOk r P
on_err P r f is = subst (λ s. OnOk s P) (sym is) tt

-- an input of which the outside has told, and which is handled or stops the worker
module _ (P : History → Type 0) (i : Input) (a b c : Now) (comes : Comes i a b) (links : GoesBy (event_taken i) a.serving.links a.returned b.serving.links b.returned)
    (readers : All IsReader b.serving.readers) (shape : (h : History) → list_all is_loss (inputs h) ≡ true → P (Took i ∷ h)) where
  pub goes_handled : (h : History) → Handles i h b c → (k : History) × (Goes k a c × P k)
  goes_handled h does = (Took i ∷ h, (handled i h a b c comes readers links does, shape h does.outside.losses))

  pub stops_handled : (f : WorkFault) (h : History) → HandlesNot i h f b c → (k : History) × (Stops k f a c × P k)
  stops_handled f h does = (Took i ∷ h, (handled_not i h a b c comes readers f links does, shape h does.outside.losses))

  -- whatever it answers
  pub handling : {T : Type 0} (r : Result T WorkFault) → MatchResult r (λ _. (h : History) × Handles i h b c) (λ f. (h : History) × HandlesNot i h f b c) → GoesOrStops P P r a c
  handling (Ok x) does = goes_handled does.0 does.1
  handling (Err f) does = stops_handled f does.0 does.1

module _ (i : Input) (b c : Now) where
  pub handling_counts : {T : Type 0} (r : Result T WorkFault) → MatchResult r (λ _. (h : History) × Handles i h b c) (λ f. (h : History) × HandlesNot i h f b c) → c.serving.links.count ≡ b.serving.links.count
  handling_counts (Ok x) does = does.1.outside.count
  handling_counts (Err f) does = does.1.outside.count

  pub handling_fails : {T : Type 0} (r : Result T WorkFault) (before after : ℕ) → MatchResult r (λ _. (h : History) × Handles i h b c) (λ f. (h : History) × HandlesNot i h f b c) → after ≡ before → DoorFails before after r
  handling_fails (Ok x) before after does same = same
  handling_fails {T} (Err f) before after does same = fails_of {T = T} before after f (Err f) refl (no_door (Took i ∷ does.0) b.serving.worker c.serving.passes f before after does.1.why same)

-- some clock, where none is asked
abbrev pub any_clock : ClockTale
any_clock = record { latest = 0; moments = None }
