-- What the parts of a turn do, one after another.
use Rattle.std.proofs.Common.{◌≡◌, ℕ, List, [], ◌∷◌, ◌++◌, Bool, true, ◌&&◌, ◌||◌, false, Option, Result, Ok, Err, inl, inr, refl, sym, ap, subst, ◌∙◌, append_assoc, append-nil, arith}
use Rattle.std.specs.List.{list_all, All}
use Rattle.std.specs.Result.{MatchResult}
use Rattle.gate_outside.specs.Links.{ReturnedLink}
use Rattle.gate_outside.specs.Clocks.{ClockTale}
use Rattle.gate_outside.specs.Doors.{DoorTale}
use Rattle.open_links.specs.Courses.{Events, Loses as LosesEvent}
use Rattle.open_links.specs.Links.{Holding, Meets}
use Rattle.open_links.specs.Calls.{GoesBy, IsSameDoor, is_done, EndsBy as EndsLink}
use Rattle.open_links.proofs.Composing.{goes_by_nothing, goes_by_append, done_is_lost, lost_is_over}
use Rattle.guild_hub.specs.Sights.{Seeing}
use Rattle.edit_post.specs.Post.{PostId, Sender}
use Rattle.edit_apply.specs.declared.Edit.{Edit}
use Rattle.world_law.specs.Inputs.{Input, Lost}
use Rattle.worker_core.specs.declared.io.Input.{Input as Given}
use Rattle.worker_core.specs.declared.io.Output.{Output as Written}
use Rattle.worker_core.specs.declared.io.Output.TheVariants.{Wish}
use Rattle.worker_core.specs.InCode.{KeptWorker}
use Rattle.worker_run.specs.Histories.{History, Took, Gave, given_out, inputs, events, wishes}
use Rattle.worker_run.specs.Workers.{FollowsAll, IsFront}
use Rattle.worker_run.specs.Hubs.{IsReader}
use Rattle.guild_places.specs.Places.{AreDistinct, guilds_of}
use Rattle.worker_run.specs.Notes.{AreNoted, AreNotedButLast}
use Rattle.worker_run.specs.Stopping.{TakesNot}
use Rattle.worker_run.specs.Faults.{IsRefused}
use Rattle.guild_posts.specs.Posts.{AreSent}
use Rattle.worker_run.specs.Turns.{is_loss}
use Rattle.worker_run.specs.Moves.{Serving, Now, now, IsReady, Gives, GivesNot, GivesFront, LeavesOutside, Handles, HandlesNot, MayStop, EndsOutside, EndsBy, EndsNot, Loses, LosesNot}
use Rattle.worker_run.specs.declared.fault.WorkFault.{WorkFault}
use Rattle.worker_run.specs.declared.fault.WorkFault.TheVariants as fault
use Rattle.worker_run.proofs.Histories.{inputs_join, events_join, wishes_join, given_join, inputs_given}
use Rattle.worker_run.proofs.Notes.{noted_none, noted_more, noted_whole, noted_but_last}
use Rattle.worker_run.proofs.Workers.{follows_none, follows_more, front_more, spends_more, follows_given, front_given, front_took}
use Rattle.guild_posts.proofs.Sent.{sent_none, sent_on, sent_passes}

-- ---- links

-- by one history, and then by another
pub links_on : (h k : History) (a : Holding) (x : Option (List ReturnedLink)) (b : Holding) (y : Option (List ReturnedLink)) (c : Holding) (z : Option (List ReturnedLink))
    → GoesBy (events h) a x b y → GoesBy (events k) b y c z → GoesBy (events (h ++ k)) a x c z
links_on h k a x b y c z first later =
    subst (λ (l : Events). GoesBy l a x c z) (sym (events_join h k)) (goes_by_append (events h) (events k) a b c x y z first later)

-- ---- outputs

-- wishes of one history, and then of another
pub sent_after : (h k : History) (gs hs : List ℕ) (a b c : List Sender) → hs ≡ gs → AreSent gs (wishes h) a b → AreSent hs (wishes k) b c → AreSent gs (wishes (h ++ k)) a c
sent_after h k gs hs a b c same first later =
    subst (λ (ws : List (ℕ × Edit)). AreSent gs ws a c) (sym (wishes_join h k))
    (sent_on gs (wishes h) (wishes k) a b c first (subst (λ (l : List ℕ). AreSent l (wishes k) b c) same later))

pub gives_none : (s : Serving) (back : Option (List ReturnedLink)) → Gives [] s s back back
gives_none s back = record {
  worker = refl;
  readers = refl;
  ended = refl;
  count = refl;
  links = goes_by_nothing s.links back;
  passes = sent_none (guilds_of s.readers) s.passes;
}

pub gives_more : (h k : History) (a b c : Serving) (x y z : Option (List ReturnedLink)) → Gives h a b x y → Gives k b c y z → Gives (h ++ k) a c x z
gives_more h k a b c x y z first later = record {
  worker = later.worker ∙ first.worker;
  readers = later.readers ∙ first.readers;
  ended = later.ended ∙ first.ended;
  count = later.count ∙ first.count;
  links = links_on h k a.links x b.links y c.links z first.links later.links;
  passes = sent_after h k (guilds_of a.readers) (guilds_of b.readers) a.passes b.passes c.passes (ap guilds_of first.readers) first.passes later.passes;
}

-- the passes alone have moved
pub gives_wish : (guild : ℕ) (edit : Edit) (keys : List ℕ) (a b : Serving) (back : Option (List ReturnedLink)) → b ≡ record a { passes = b.passes } → keys ≡ guilds_of a.readers
    → AreSent keys ((guild, edit) ∷ []) a.passes b.passes → Gives (Gave (Wish guild edit) ∷ []) a b back back
gives_wish guild edit keys a b back same index sent = record {
  worker = ap (λ (s : Serving). s.worker) same;
  readers = ap (λ (s : Serving). s.readers) same;
  ended = ap (λ (s : Serving). s.ended) same;
  count = ap (λ (s : Serving). s.links.count) same;
  links = subst (λ (o : Holding). GoesBy [] a.links back o back) (sym (ap (λ (s : Serving). s.links) same)) (goes_by_nothing a.links back);
  passes = subst (λ (ks : List ℕ). AreSent ks ((guild, edit) ∷ []) a.passes b.passes) index sent;
}

-- nothing has moved
pub gives_not : (f : WorkFault) (a b : Serving) (back : Option (List ReturnedLink)) → b ≡ record a { passes = b.passes } → b.passes ≡ a.passes → IsRefused b.passes f → GivesNot f a b back back
gives_not f a b back same passes why = record {
  gives = record {
    worker = ap (λ (s : Serving). s.worker) same;
    readers = ap (λ (s : Serving). s.readers) same;
    ended = ap (λ (s : Serving). s.ended) same;
    count = ap (λ (s : Serving). s.links.count) same;
    links = subst (λ (o : Holding). GoesBy [] a.links back o back) (sym (ap (λ (s : Serving). s.links) same)) (goes_by_nothing a.links back);
    passes = subst (λ (ps : List Sender). AreSent (guilds_of a.readers) [] a.passes ps) (sym passes) (sent_none (guilds_of a.readers) a.passes);
  };
  why = why;
}

-- one output more
pub gives_next : (front : List Written) (output : Written) (a b c : Serving) (x y z : Option (List ReturnedLink)) → Gives (given_out front) a b x y → Gives (Gave output ∷ []) b c y z
    → Gives (given_out (front ++ output ∷ [])) a c x z
gives_next front output a b c x y z first later =
    subst (λ (h : History). Gives h a c x z) (sym (given_join front (output ∷ []))) (gives_more (given_out front) (Gave output ∷ []) a b c x y z first later)

-- the next one did not go out
pub gives_front : (outputs front rest : List Written) (f : WorkFault) (a b c : Serving) (x y z : Option (List ReturnedLink)) → outputs ≡ front ++ rest → Gives (given_out front) a b x y → GivesNot f b c y z
    → GivesFront outputs f a c x z
gives_front outputs front rest f a b c x y z parts first later = record {
  front = front;
  rest = rest;
  parts = parts;
  gives = subst (λ (h : History). Gives h a c x z) (append-nil (given_out front)) (gives_more (given_out front) [] a b c x y z first later.gives);
  why = later.why;
}

-- ---- what holds before and after

pub ready_after : (posts : List PostId) (h : History) (a b : Serving) (x y : Option (List ReturnedLink)) (d e : DoorTale) → Gives h a b x y → IsSameDoor d e → IsReady posts a d → IsReady posts b e
ready_after posts h a b x y d e gives same ready = record {
  some = ready.some;
  passes = sent_passes (guilds_of a.readers) (wishes h) a.passes b.passes gives.passes posts ready.passes;
  readers = subst (λ (rs : List (ℕ × Seeing)). All IsReader rs) (sym gives.readers) ready.readers;
  distinct = subst (λ (rs : List (ℕ × Seeing)). AreDistinct (guilds_of rs)) (sym gives.readers) ready.distinct;
  within = omega (arith, gives.count, same.given, ready.within);
  ended = λ over. same.ended ∙ ready.ended (sym gives.ended ∙ over);
}

-- whether an output went out or not
pub ready_given : (r : Result (Unit {0}) WorkFault) (posts : List PostId) (h : History) (a b : Serving) (x y : Option (List ReturnedLink)) (d e : DoorTale)
    → MatchResult r (λ _. Gives h a b x y) (λ f. GivesNot f a b x y) → IsSameDoor d e → IsReady posts a d → IsReady posts b e
ready_given (Ok v) posts h a b x y d e gives same ready = ready_after posts h a b x y d e gives same ready
ready_given (Err f) posts h a b x y d e not same ready = ready_after posts [] a b x y d e not.gives same ready

-- the worker alone has moved
pub ready_taken : (posts : List PostId) (a b : Serving) (d : DoorTale) → b ≡ record a { worker = b.worker } → IsReady posts a d → IsReady posts b d
ready_taken posts a b d same ready =
    subst (λ (s : Serving). IsReady posts s d) (sym same)
    (record { some = ready.some; passes = ready.passes; readers = ready.readers; distinct = ready.distinct; within = ready.within; ended = ready.ended })

-- the links alone have moved
pub ready_ended : (posts : List PostId) (a b : Serving) (d e : DoorTale) → b ≡ record a { links = b.links } → b.links.count ≡ a.links.count → IsSameDoor d e → IsReady posts a d → IsReady posts b e
ready_ended posts a b d e same count door ready =
    subst (λ (s : Serving). IsReady posts s e) (sym same)
    (record {
      some = ready.some;
      passes = ready.passes;
      readers = ready.readers;
      distinct = ready.distinct;
      within = omega (arith, count, door.given, ready.within);
      ended = λ over. door.ended ∙ ready.ended over;
    })

-- ---- an input

refused_stops : (h : History) (k : KeptWorker) (passes : List Sender) (f : WorkFault) → IsRefused passes f → MayStop h k passes f
refused_stops h k passes fault.Spent why = inr why
refused_stops h k passes fault.Memory why = tt
refused_stops h k passes fault.Door why = why
refused_stops h k passes fault.Quit why = why

stops_not_taken : (i : Input) (k : KeptWorker) (passes : List Sender) (a b : Option (List Given)) (f : WorkFault) → TakesNot i k a b f → MayStop (Took i ∷ []) k passes f
stops_not_taken i k passes a b fault.Spent not = inl (λ w is. ap (λ s. s || false) (not.0 w is))
stops_not_taken i k passes a b fault.Memory not = tt
stops_not_taken i k passes a b fault.Door not = not
stops_not_taken i k passes a b fault.Quit not = not

notes_not_taken : (i : Input) (k : KeptWorker) (a b : Option (List Given)) (f : WorkFault) → TakesNot i k a b f → AreNotedButLast (i ∷ []) a b
notes_not_taken i k a b fault.Spent not = noted_whole (i ∷ []) a b not.1
notes_not_taken i k a b fault.Memory not = not
notes_not_taken i k a b fault.Door not = absurd not
notes_not_taken i k a b fault.Quit not = absurd not

-- a count is spent after a history, and so in the whole
stops_later : (h k : History) (a b : KeptWorker) (passes : List Sender) (f : WorkFault) → FollowsAll a h [] b → MayStop k b passes f → MayStop (h ++ k) a passes f
stops_later h k a b passes fault.Spent first why = elim why [ inl spent ↦ inl (spends_more a b h first k spent) | inr refused ↦ inr refused ]
stops_later h k a b passes fault.Memory first why = tt
stops_later h k a b passes fault.Door first why = why
stops_later h k a b passes fault.Quit first why = why

-- all that is owed for an input goes out
given_whole : (i : Input) (out : List Written) (a b c : KeptWorker) → FollowsAll a (Took i ∷ []) out b → c ≡ b → FollowsAll a (Took i ∷ given_out out) [] c
given_whole i out a b c takes same =
    subst (λ (k : KeptWorker). FollowsAll a (Took i ∷ given_out out) [] k) (sym same)
    (follows_given a b (Took i ∷ []) out [] (subst (λ (os : List Written). FollowsAll a (Took i ∷ []) os b) (sym (append-nil out)) takes))

-- a front of it does
given_front : (i : Input) (out front rest : List Written) (a b : KeptWorker) → FollowsAll a (Took i ∷ []) out b → out ≡ front ++ rest → IsFront a (Took i ∷ given_out front)
given_front i out front rest a b takes parts =
    front_given a b (Took i ∷ []) front rest (subst (λ (os : List Written). FollowsAll a (Took i ∷ []) os b) parts takes)

-- ---- connections that end

module _ (conn : ℕ) (i : Input) (c : ClockTale) (s0 s1 : Serving) (x : Option (List ReturnedLink)) (m n : Option (List Given)) (taken : s1 ≡ record s0 { worker = s1.worker }) where
  -- the worker has not taken the input by which it ends
  pub ends_not_taken : (f : WorkFault) → TakesNot i s0.worker m n f → EndsNot conn i [] f (now s0 x m c) (now s1 x n c)
  ends_not_taken f not = record {
    outside = record {
      links = λ es before meets over.
          subst (λ (l : Events). Meets l s1.links before x) (sym (append-nil es))
          (subst (λ (o : Holding). Meets es o before x) (sym (ap (λ (s : Serving). s.links) taken)) meets);
      count = ap (λ (s : Serving). s.links.count) taken;
      readers = ap (λ (s : Serving). s.readers) taken;
      passes = subst (λ (ps : List Sender). AreSent (guilds_of s0.readers) [] s0.passes ps) (sym (ap (λ (s : Serving). s.passes) taken)) (sent_none (guilds_of s0.readers) s0.passes);
      ended = ap (λ (s : Serving). s.ended) taken;
      clock = refl;
      outputs = refl;
    };
    worker = front_took s0.worker i;
    notes = notes_not_taken i s0.worker m n f not;
    why = stops_not_taken i s0.worker s1.passes m n f not;
  }

  module _ (s2 s3 : Serving) (y z : Option (List ReturnedLink)) (ended : s2 ≡ record s1 { links = s2.links }) (count : s2.links.count ≡ s1.links.count) (link : EndsLink conn s1.links x s2.links y) where
    -- outputs after the door has taken the link back
    ends_outside : (out : List Written) → Gives (given_out out) s2 s3 y z → EndsOutside conn (given_out out) (now s0 x m c) (now s3 z n c)
    ends_outside out gives =
        let links : s1.links ≡ s0.links = ap (λ (s : Serving). s.links) taken in
        let readers : s2.readers ≡ s0.readers = ap (λ (s : Serving). s.readers) ended ∙ ap (λ (s : Serving). s.readers) taken in
        let passes : s2.passes ≡ s0.passes = ap (λ (s : Serving). s.passes) ended ∙ ap (λ (s : Serving). s.passes) taken in
        record {
          links = λ es before meets over. gives.links es before (link es before (subst (λ (o : Holding). Meets es o before x) (sym links) meets) over);
          count = gives.count ∙ (count ∙ ap (λ (o : Holding). o.count) links);
          readers = gives.readers ∙ readers;
          passes =
              subst (λ (ps : List Sender). AreSent (guilds_of s0.readers) (wishes (given_out out)) ps s3.passes) passes
              (subst (λ (rs : List (ℕ × Seeing)). AreSent (guilds_of rs) (wishes (given_out out)) s2.passes s3.passes) readers gives.passes);
          ended = gives.ended ∙ (ap (λ (s : Serving). s.ended) ended ∙ ap (λ (s : Serving). s.ended) taken);
          clock = refl;
          outputs = inputs_given out;
        }

    module _ (out : List Written) (takes : FollowsAll s0.worker (Took i ∷ []) out s1.worker) (noted : AreNoted (i ∷ []) m n) where
      pub ends_by : Gives (given_out out) s2 s3 y z → EndsBy conn i (given_out out) (now s0 x m c) (now s3 z n c)
      ends_by gives = record {
        outside = ends_outside out gives;
        worker = given_whole i out s0.worker s1.worker s3.worker takes (gives.worker ∙ ap (λ (s : Serving). s.worker) ended);
        notes = noted;
      }

      pub ends_not : (f : WorkFault) (g : GivesFront out f s2 s3 y z) → EndsNot conn i (given_out g.front) f (now s0 x m c) (now s3 z n c)
      ends_not f g = record {
        outside = ends_outside g.front g.gives;
        worker = given_front i out g.front g.rest s0.worker s1.worker takes g.parts;
        notes = noted_whole (i ∷ []) m n noted;
        why = refused_stops (Took i ∷ given_out g.front) s0.worker s3.passes f g.why;
      }

-- ---- connections that are lost

-- losses, and then more
all_losses : (is js : List Input) → list_all is_loss is ≡ true → list_all is_loss js ≡ true → list_all is_loss (is ++ js) ≡ true
all_losses [] js first later = later
all_losses (i ∷ is) js first later = by_loss (is_loss i) (list_all is_loss is) (list_all is_loss (is ++ js)) first (λ rest. all_losses is js rest later)
  where
    by_loss : (b r s : Bool) → (b && r) ≡ true → (r ≡ true → s ≡ true) → (b && s) ≡ true
    by_loss true r s both more = more both
    by_loss false r s both more = both

leaves_none : (a : Now) → LeavesOutside [] a a
leaves_none a = record {
  links = goes_by_nothing a.serving.links a.returned;
  count = refl;
  readers = refl;
  passes = sent_none (guilds_of a.serving.readers) a.serving.passes;
  ended = refl;
  clock = refl;
  losses = refl;
}

leaves_more : (h k : History) (a b c : Now) → LeavesOutside h a b → LeavesOutside k b c → LeavesOutside (h ++ k) a c
leaves_more h k a b c first later = record {
  links = links_on h k a.serving.links a.returned b.serving.links b.returned c.serving.links c.returned first.links later.links;
  count = later.count ∙ first.count;
  readers = later.readers ∙ first.readers;
  passes = sent_after h k (guilds_of a.serving.readers) (guilds_of b.serving.readers) a.serving.passes b.serving.passes c.serving.passes (ap guilds_of first.readers) first.passes later.passes;
  ended = later.ended ∙ first.ended;
  clock = later.clock ∙ first.clock;
  losses = ap (list_all is_loss) (inputs_join h k) ∙ all_losses (inputs h) (inputs k) first.losses later.losses;
}

pub loses_none : (a : Now) → Loses [] a a
loses_none a = record { outside = leaves_none a; worker = follows_none a.serving.worker; notes = noted_none a.noted }

module _ (h k : History) (a b c : Now) (first : Loses h a b) where
  pub loses_more : Loses k b c → Loses (h ++ k) a c
  loses_more later = record {
    outside = leaves_more h k a b c first.outside later.outside;
    worker = follows_more a.serving.worker b.serving.worker h first.worker k [] c.serving.worker later.worker;
    notes = subst (λ (is : List Input). AreNoted is a.noted c.noted) (sym (inputs_join h k)) (noted_more (inputs h) (inputs k) a.noted b.noted c.noted first.notes later.notes);
  }

  pub loses_not_more : (f : WorkFault) → LosesNot k f b c → LosesNot (h ++ k) f a c
  loses_not_more f later = record {
    outside = leaves_more h k a b c first.outside later.outside;
    worker = front_more a.serving.worker b.serving.worker h first.worker k later.worker;
    notes = subst (λ (is : List Input). AreNotedButLast is a.noted c.noted) (sym (inputs_join h k)) (noted_but_last (inputs h) (inputs k) a.noted b.noted c.noted first.notes later.notes);
    why = stops_later h k a.serving.worker b.serving.worker c.serving.passes f first.worker later.why;
  }

-- one whose link is done with
module _ (conn : ℕ) (h : History) (a b : Now) (done : is_done conn a.serving.links.links ≡ true) where
  lost_outside : EndsOutside conn h a b → LeavesOutside (Took (Lost conn) ∷ h) a b
  lost_outside ends = record {
    links = λ es before meets.
        subst (λ (l : Events). Meets l b.serving.links before b.returned) (append_assoc es ((conn, LosesEvent) ∷ []) (events h))
        (ends.links (es ++ (conn, LosesEvent) ∷ []) before
        (done_is_lost es a.serving.links before a.returned conn done meets)
        (lost_is_over es a.serving.links before a.returned conn done meets));
    count = ends.count;
    readers = ends.readers;
    passes = ends.passes;
    ended = ends.ended;
    clock = ends.clock;
    losses = ap (list_all is_loss) ends.outputs;
  }

  pub loses_one : EndsBy conn (Lost conn) h a b → Loses (Took (Lost conn) ∷ h) a b
  loses_one ends = record {
    outside = lost_outside ends.outside;
    worker = ends.worker;
    notes = subst (λ (is : List Input). AreNoted (Lost conn ∷ is) a.noted b.noted) (sym ends.outside.outputs) ends.notes;
  }

  pub loses_not_one : (f : WorkFault) → EndsNot conn (Lost conn) h f a b → LosesNot (Took (Lost conn) ∷ h) f a b
  loses_not_one f ends = record {
    outside = lost_outside ends.outside;
    worker = ends.worker;
    notes = subst (λ (is : List Input). AreNotedButLast (Lost conn ∷ is) a.noted b.noted) (sym ends.outside.outputs) ends.notes;
    why = ends.why;
  }

-- ---- an input, and then the connections that are lost

module _ (i : Input) (c : ClockTale) (s0 s1 : Serving) (x : Option (List ReturnedLink)) (m n : Option (List Given)) (taken : s1 ≡ record s0 { worker = s1.worker }) where
  pub handles_not_taken : (f : WorkFault) → TakesNot i s0.worker m n f → HandlesNot i [] f (now s0 x m c) (now s1 x n c)
  handles_not_taken f not = record {
    outside = record {
      links = subst (λ (o : Holding). GoesBy [] s0.links x o x) (sym (ap (λ (s : Serving). s.links) taken)) (goes_by_nothing s0.links x);
      count = ap (λ (s : Serving). s.links.count) taken;
      readers = ap (λ (s : Serving). s.readers) taken;
      passes = subst (λ (ps : List Sender). AreSent (guilds_of s0.readers) [] s0.passes ps) (sym (ap (λ (s : Serving). s.passes) taken)) (sent_none (guilds_of s0.readers) s0.passes);
      ended = ap (λ (s : Serving). s.ended) taken;
      clock = refl;
      losses = refl;
    };
    worker = front_took s0.worker i;
    notes = notes_not_taken i s0.worker m n f not;
    why = stops_not_taken i s0.worker s1.passes m n f not;
  }

  module _ (s2 : Serving) (y : Option (List ReturnedLink)) where
    leaves_given : (out : List Written) → Gives (given_out out) s1 s2 x y → LeavesOutside (given_out out) (now s0 x m c) (now s2 y n c)
    leaves_given out gives =
        let readers : s1.readers ≡ s0.readers = ap (λ (s : Serving). s.readers) taken in
        let passes : s1.passes ≡ s0.passes = ap (λ (s : Serving). s.passes) taken in
        record {
          links = subst (λ (o : Holding). GoesBy (events (given_out out)) o x s2.links y) (ap (λ (s : Serving). s.links) taken) gives.links;
          count = gives.count ∙ ap (λ (s : Serving). s.links.count) taken;
          readers = gives.readers ∙ readers;
          passes =
              subst (λ (ps : List Sender). AreSent (guilds_of s0.readers) (wishes (given_out out)) ps s2.passes) passes
              (subst (λ (rs : List (ℕ × Seeing)). AreSent (guilds_of rs) (wishes (given_out out)) s1.passes s2.passes) readers gives.passes);
          ended = gives.ended ∙ ap (λ (s : Serving). s.ended) taken;
          clock = refl;
          losses = ap (list_all is_loss) (inputs_given out);
        }

    module _ (out : List Written) (takes : FollowsAll s0.worker (Took i ∷ []) out s1.worker) (noted : AreNoted (i ∷ []) m n) where
      pub handles_not_given : (f : WorkFault) (g : GivesFront out f s1 s2 x y) → HandlesNot i (given_out g.front) f (now s0 x m c) (now s2 y n c)
      handles_not_given f g = record {
        outside = leaves_given g.front g.gives;
        worker = given_front i out g.front g.rest s0.worker s1.worker takes g.parts;
        notes = subst (λ (is : List Input). AreNotedButLast (i ∷ is) m n) (sym (inputs_given g.front)) (noted_whole (i ∷ []) m n noted);
        why = refused_stops (Took i ∷ given_out g.front) s0.worker s2.passes f g.why;
      }

      module _ (gives : Gives (given_out out) s1 s2 x y) (h : History) (s3 : Serving) (z : Option (List ReturnedLink)) (l : Option (List Given)) where
        later_inputs : inputs (given_out out ++ h) ≡ inputs h
        later_inputs = inputs_join (given_out out) h ∙ ap (λ (is : List Input). is ++ inputs h) (inputs_given out)

        whole : FollowsAll s0.worker (Took i ∷ given_out out) [] s2.worker
        whole = given_whole i out s0.worker s1.worker s2.worker takes gives.worker

        pub handles_by : Loses h (now s2 y n c) (now s3 z l c) → Handles i (given_out out ++ h) (now s0 x m c) (now s3 z l c)
        handles_by loses = record {
          outside = leaves_more (given_out out) h (now s0 x m c) (now s2 y n c) (now s3 z l c) (leaves_given out gives) loses.outside;
          worker = follows_more s0.worker s2.worker (Took i ∷ given_out out) whole h [] s3.worker loses.worker;
          notes = subst (λ (is : List Input). AreNoted (i ∷ is) m l) (sym later_inputs) (noted_more (i ∷ []) (inputs h) m n l noted loses.notes);
        }

        pub handles_not_lost : (f : WorkFault) → LosesNot h f (now s2 y n c) (now s3 z l c) → HandlesNot i (given_out out ++ h) f (now s0 x m c) (now s3 z l c)
        handles_not_lost f loses = record {
          outside = leaves_more (given_out out) h (now s0 x m c) (now s2 y n c) (now s3 z l c) (leaves_given out gives) loses.outside;
          worker = front_more s0.worker s2.worker (Took i ∷ given_out out) whole h loses.worker;
          notes = subst (λ (is : List Input). AreNotedButLast (i ∷ is) m l) (sym later_inputs) (noted_but_last (i ∷ []) (inputs h) m n l noted loses.notes);
          why = stops_later (Took i ∷ given_out out) h s0.worker s2.worker s3.passes f whole loses.why;
        }
