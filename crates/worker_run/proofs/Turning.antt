-- Parts of turns, one after another, and an input that is handled.
use Rattle.std.proofs.Common.{◌≡◌, ℕ, List, [], ◌∷◌, ◌++◌, true, Option, Some, None, inl, inr, All, refl, sym, ap, subst, ◌∙◌}
use Rattle.std.specs.List.{list_all}
use Rattle.std.proofs.lemmas.Bool.{and_parts, false≢true}
use Rattle.edit_post.specs.Post.{Sender}
use Rattle.guild_hub.specs.Sights.{Seeing}
use Rattle.gate_outside.specs.Links.{ReturnedLink}
use Rattle.gate_outside.specs.Clocks.{ClockTale}
use Rattle.open_links.specs.Courses.{Events}
use Rattle.open_links.specs.Links.{Holding}
use Rattle.open_links.specs.Calls.{GoesBy}
use Rattle.open_links.proofs.Composing.{goes_by_nothing, goes_by_append}
use Rattle.world_law.specs.Inputs.{Input, Look, Rebase, Open, Frame, Lost, Closed, Tick}
use Rattle.worker_core.specs.declared.io.Input.{Input as Given}
use Rattle.worker_core.specs.InCode.{KeptWorker}
use Rattle.worker_run.specs.Histories.{History, Took, Gave, inputs, events, event_taken, ticks, tick_of, wishes}
use Rattle.worker_run.specs.Workers.{FollowsAll, IsFront}
use Rattle.worker_run.specs.Hubs.{AllRead, IsReader}
use Rattle.guild_places.specs.Places.{guilds_of}
use Rattle.worker_run.specs.Notes.{AreNoted, AreNotedButLast}
use Rattle.guild_posts.specs.Posts.{AreSent}
use Rattle.worker_run.specs.Turns.{is_loss, looked_at}
use Rattle.worker_run.specs.Works.{Ticked, IsSpent}
use Rattle.worker_run.specs.Moves.{Serving, Now, now, GoesOutside, Goes, Halts, Stops, MayStop, LeavesOutside, Handles, HandlesNot, EndsOutside, EndsBy, EndsNot, Loses, LosesNot}
use Rattle.worker_run.specs.declared.fault.WorkFault.{WorkFault}
use Rattle.worker_run.specs.declared.fault.WorkFault.TheVariants as fault
use Rattle.worker_run.proofs.Histories.{inputs_join, ticks_join}
use Rattle.worker_run.proofs.Moves.{links_on, sent_after}
use Rattle.worker_run.proofs.Workers.{follows_none, follows_more, front_more, front_follows, spends_more}
use Rattle.worker_run.proofs.Notes.{noted_none, noted_more, noted_whole, noted_but_last}
use Rattle.worker_run.proofs.Hubs.{all_read_none, all_read_join, all_read_without, same_guilds}
use Rattle.guild_posts.proofs.Sent.{sent_none}

-- ---- one after another

ticked_on : (xs ys : List ℕ) (a b c : ClockTale) → Ticked a xs b → Ticked b ys c → Ticked a (xs ++ ys) c
ticked_on [] ys a b c first second = subst (λ (t : ClockTale). Ticked t ys c) first second
ticked_on (x ∷ xs) ys a b c first second = (first.0, (first.1.0, ticked_on xs ys first.0 b c first.1.1 second))

outside_on : (h k : History) (a b c : Now) → GoesOutside h a b → GoesOutside k b c → GoesOutside (h ++ k) a c
outside_on h k a b c first second = record {
  links = links_on h k a.serving.links a.returned b.serving.links b.returned c.serving.links c.returned first.links second.links;
  readers = subst (λ (is : List Input). AllRead is a.serving.readers c.serving.readers) (sym (inputs_join h k))
      (all_read_join (inputs h) (inputs k) a.serving.readers b.serving.readers c.serving.readers first.readers second.readers);
  passes = sent_after h k (guilds_of a.serving.readers) (guilds_of b.serving.readers) a.serving.passes b.serving.passes c.serving.passes
      (same_guilds (inputs h) a.serving.readers b.serving.readers first.readers) first.passes second.passes;
  clock = subst (λ (ts : List ℕ). Ticked a.clock ts c.clock) (sym (ticks_join h k)) (ticked_on (ticks h) (ticks k) a.clock b.clock c.clock first.clock second.clock);
}

pub goes_on : (h k : History) (a b c : Now) → Goes h a b → Goes k b c → Goes (h ++ k) a c
goes_on h k a b c first second = record {
  outside = outside_on h k a b c first.outside second.outside;
  worker = follows_more a.serving.worker b.serving.worker h first.worker k [] c.serving.worker second.worker;
  notes = subst (λ (is : List Input). AreNoted is a.noted c.noted) (sym (inputs_join h k)) (noted_more (inputs h) (inputs k) a.noted b.noted c.noted first.notes second.notes);
}

halts_on : (h k : History) (a b c : Now) → Goes h a b → Halts k b c → Halts (h ++ k) a c
halts_on h k a b c first second = record {
  outside = outside_on h k a b c first.outside second.outside;
  worker = front_more a.serving.worker b.serving.worker h first.worker k second.worker;
  notes = subst (λ (is : List Input). AreNotedButLast is a.noted c.noted) (sym (inputs_join h k)) (noted_but_last (inputs h) (inputs k) a.noted b.noted c.noted first.notes second.notes);
}

spent_on : (h k : History) (a b : KeptWorker) (passes : List Sender) → FollowsAll a h [] b → IsSpent k b passes → IsSpent (h ++ k) a passes
spent_on h k a b passes first (inl spent) = inl (spends_more a b h first k spent)
spent_on h k a b passes first (inr refused) = inr refused

pub stops_on : (h k : History) (f : WorkFault) (a b c : Now) → Goes h a b → Stops k f b c → Stops (h ++ k) f a c
stops_on h k fault.Door a b c first second = goes_on h k a b c first second
stops_on h k fault.Quit a b c first second = (goes_on h k a b c first second.0, second.1)
stops_on h k fault.Spent a b c first second =
    (halts_on h k a b c first second.0, spent_on h k a.serving.worker b.serving.worker c.serving.passes first.worker second.1)
stops_on h k fault.Memory a b c first second = halts_on h k a b c first second

-- ---- nothing has come

-- no input has come, though links were asked and hubs were looked at
pub record IsStill (old new : Now) : Type 0 where
  pub worker : new.serving.worker ≡ old.serving.worker
  pub passes : new.serving.passes ≡ old.serving.passes
  pub noted : new.noted ≡ old.noted
  pub clock : new.clock ≡ old.clock
  pub links : GoesBy [] old.serving.links old.returned new.serving.links new.returned
  pub readers : AllRead [] old.serving.readers new.serving.readers

pub goes_still : (a b : Now) → IsStill a b → Goes [] a b
goes_still a b still = record {
  outside = record {
    links = still.links;
    readers = still.readers;
    passes = subst (λ (ps : List Sender). AreSent (guilds_of a.serving.readers) [] a.serving.passes ps) (sym still.passes) (sent_none (guilds_of a.serving.readers) a.serving.passes);
    clock = still.clock;
  };
  worker = subst (λ (k : KeptWorker). FollowsAll a.serving.worker [] [] k) (sym still.worker) (follows_none a.serving.worker);
  notes = subst (λ (o : Option (List Given)). AreNoted [] a.noted o) (sym still.noted) (noted_none a.noted);
}

pub goes_none : (a : Now) → All IsReader a.serving.readers → Goes [] a a
goes_none a readers = goes_still a a (record {
  worker = refl;
  passes = refl;
  noted = refl;
  clock = refl;
  links = goes_by_nothing a.serving.links a.returned;
  readers = all_read_none a.serving.readers readers;
})

-- memory ran out between two inputs
pub halts_after : (h : History) (a b : Now) → Goes h a b → Halts h a b
halts_after h a b goes = record {
  outside = goes.outside;
  worker = front_follows a.serving.worker b.serving.worker h [] goes.worker;
  notes = noted_whole (inputs h) a.noted b.noted goes.notes;
}

-- ---- losses alone

loss_is_no_look : (i : Input) → is_loss i ≡ true → looked_at i ≡ None
loss_is_no_look (Lost conn) e = refl
loss_is_no_look (Look g es) e = absurd (false≢true e)
loss_is_no_look (Rebase g log) e = absurd (false≢true e)
loss_is_no_look (Open conn) e = refl
loss_is_no_look (Frame conn text) e = refl
loss_is_no_look (Closed conn code) e = refl
loss_is_no_look (Tick now) e = refl

loss_is_no_tick : (i : Input) → is_loss i ≡ true → tick_of (Took i) ≡ []
loss_is_no_tick (Lost conn) e = refl
loss_is_no_tick (Look g es) e = refl
loss_is_no_tick (Rebase g log) e = refl
loss_is_no_tick (Open conn) e = refl
loss_is_no_tick (Frame conn text) e = refl
loss_is_no_tick (Closed conn code) e = refl
loss_is_no_tick (Tick now) e = absurd (false≢true e)

pub losses_read : (is : List Input) (rs : List (ℕ × Seeing)) → list_all is_loss is ≡ true → All IsReader rs → AllRead is rs rs
losses_read [] rs losses readers = all_read_none rs readers
losses_read (i ∷ is) rs losses readers =
    let each = and_parts (is_loss i) (list_all is_loss is) losses in
    all_read_join (i ∷ []) is rs rs rs (all_read_without i rs (loss_is_no_look i each.0) readers) (losses_read is rs each.1 readers)

losses_tick : (h : History) → list_all is_loss (inputs h) ≡ true → ticks h ≡ []
losses_tick [] losses = refl
losses_tick (Took i ∷ h) losses =
    let each = and_parts (is_loss i) (list_all is_loss (inputs h)) losses in
    ap (λ (ts : List ℕ). ts ++ ticks h) (loss_is_no_tick i each.0) ∙ losses_tick h each.1
losses_tick (Gave output ∷ h) losses = losses_tick h losses

-- ---- an input that is handled

-- what the outside has told of an input, but for the links
pub record Comes (i : Input) (old new : Now) : Type 0 where
  pub worker : new.serving.worker ≡ old.serving.worker
  pub passes : new.serving.passes ≡ old.serving.passes
  pub noted : new.noted ≡ old.noted
  pub readers : AllRead (i ∷ []) old.serving.readers new.serving.readers
  pub clock : Ticked old.clock (tick_of (Took i)) new.clock

-- an input that is about no log
pub comes_by : (i : Input) (a b : Now) → looked_at i ≡ None → All IsReader a.serving.readers → b.serving.worker ≡ a.serving.worker → b.serving.passes ≡ a.serving.passes → b.noted ≡ a.noted
    → b.serving.readers ≡ a.serving.readers → Ticked a.clock (tick_of (Took i)) b.clock → Comes i a b
comes_by i a b none readers worker passes noted same clock = record {
  worker = worker;
  passes = passes;
  noted = noted;
  readers = subst (λ (rs : List (ℕ × Seeing)). AllRead (i ∷ []) a.serving.readers rs) (sym same) (all_read_without i a.serving.readers none readers);
  clock = clock;
}

look_is_no_tick : (i : Input) (g : ℕ) → looked_at i ≡ Some g → tick_of (Took i) ≡ []
look_is_no_tick (Look h es) g about = refl
look_is_no_tick (Rebase h log) g about = refl
look_is_no_tick (Open conn) g about = refl
look_is_no_tick (Frame conn text) g about = refl
look_is_no_tick (Lost conn) g about = refl
look_is_no_tick (Closed conn code) g about = refl
look_is_no_tick (Tick now) g about = cc

look_is_no_event : (i : Input) (g : ℕ) → looked_at i ≡ Some g → event_taken i ≡ []
look_is_no_event (Look h es) g about = refl
look_is_no_event (Rebase h log) g about = refl
look_is_no_event (Open conn) g about = cc
look_is_no_event (Frame conn text) g about = cc
look_is_no_event (Lost conn) g about = cc
look_is_no_event (Closed conn code) g about = cc
look_is_no_event (Tick now) g about = refl

-- a look at a hub, and an input by it
module _ (s t : Serving) (same : t ≡ record s { readers = t.readers }) (back : Option (List ReturnedLink)) (noted : Option (List Given)) (clock : ClockTale) where
  same_links : GoesBy [] s.links back t.links back
  same_links = subst (λ (o : Holding). GoesBy [] s.links back o back) (sym (ap (λ (v : Serving). v.links) same)) (goes_by_nothing s.links back)

  pub still_seen : AllRead [] s.readers t.readers → IsStill (now s back noted clock) (now t back noted clock)
  still_seen read = record {
    worker = ap (λ (v : Serving). v.worker) same;
    passes = ap (λ (v : Serving). v.passes) same;
    noted = refl;
    clock = refl;
    links = same_links;
    readers = read;
  }

  pub comes_seen : (i : Input) (g : ℕ) → looked_at i ≡ Some g → AllRead (i ∷ []) s.readers t.readers → Comes i (now s back noted clock) (now t back noted clock)
  comes_seen i g about read = record {
    worker = ap (λ (v : Serving). v.worker) same;
    passes = ap (λ (v : Serving). v.passes) same;
    noted = refl;
    readers = read;
    clock = subst (λ (ts : List ℕ). Ticked clock ts clock) (sym (look_is_no_tick i g about)) refl;
  }

  pub links_seen : (i : Input) (g : ℕ) → looked_at i ≡ Some g → GoesBy (event_taken i) s.links back t.links back
  links_seen i g about = subst (λ (es : Events). GoesBy es s.links back t.links back) (sym (look_is_no_event i g about)) same_links

-- what the rest of its handling leaves, but for the links
record Rests (h : History) (old new : Now) : Type 0 where
  readers : new.serving.readers ≡ old.serving.readers
  passes : AreSent (guilds_of old.serving.readers) (wishes h) old.serving.passes new.serving.passes
  clock : new.clock ≡ old.clock
  losses : list_all is_loss (inputs h) ≡ true

module _ (i : Input) (h : History) (a b c : Now) (comes : Comes i a b) (readers : All IsReader b.serving.readers) where
  outside_after : GoesBy (events (Took i ∷ h)) a.serving.links a.returned c.serving.links c.returned → Rests h b c → GoesOutside (Took i ∷ h) a c
  outside_after links rests = record {
    links = links;
    readers = all_read_join (i ∷ []) (inputs h) a.serving.readers b.serving.readers c.serving.readers comes.readers
        (subst (λ (rs : List (ℕ × Seeing)). AllRead (inputs h) b.serving.readers rs) (sym rests.readers) (losses_read (inputs h) b.serving.readers rests.losses readers));
    passes = subst (λ (ps : List Sender). AreSent (guilds_of a.serving.readers) (wishes h) ps c.serving.passes) comes.passes
        (subst (λ (gs : List ℕ). AreSent gs (wishes h) b.serving.passes c.serving.passes) (same_guilds (i ∷ []) a.serving.readers b.serving.readers comes.readers) rests.passes);
    clock = ticked_on (tick_of (Took i)) (ticks h) a.clock b.clock c.clock comes.clock
        (subst (λ (ts : List ℕ). Ticked b.clock ts c.clock) (sym (losses_tick h rests.losses)) rests.clock);
  }

  goes_after : GoesOutside (Took i ∷ h) a c → FollowsAll b.serving.worker (Took i ∷ h) [] c.serving.worker → AreNoted (i ∷ inputs h) b.noted c.noted → Goes (Took i ∷ h) a c
  goes_after outside worker notes = record {
    outside = outside;
    worker = subst (λ (k : KeptWorker). FollowsAll k (Took i ∷ h) [] c.serving.worker) comes.worker worker;
    notes = subst (λ o. AreNoted (i ∷ inputs h) o c.noted) comes.noted notes;
  }

  stops_after : (f : WorkFault) → GoesOutside (Took i ∷ h) a c → IsFront b.serving.worker (Took i ∷ h) → AreNotedButLast (i ∷ inputs h) b.noted c.noted
      → MayStop (Took i ∷ h) b.serving.worker c.serving.passes f → Stops (Took i ∷ h) f a c
  stops_after f outside worker notes = why f
    where
      halts : Halts (Took i ∷ h) a c
      halts = record {
        outside = outside;
        worker = subst (λ (k : KeptWorker). IsFront k (Took i ∷ h)) comes.worker worker;
        notes = subst (λ o. AreNotedButLast (i ∷ inputs h) o c.noted) comes.noted notes;
      }

      why : (f : WorkFault) → MayStop (Took i ∷ h) b.serving.worker c.serving.passes f → Stops (Took i ∷ h) f a c
      why fault.Spent spent = (halts, subst (λ (k : KeptWorker). IsSpent (Took i ∷ h) k c.serving.passes) comes.worker spent)
      why fault.Memory any = halts
      why fault.Door no_way = absurd no_way
      why fault.Quit no_way = absurd no_way

  rests_of : LeavesOutside h b c → Rests h b c
  rests_of left = record { readers = left.readers; passes = left.passes; clock = left.clock; losses = left.losses }

  links_after : GoesBy (event_taken i) a.serving.links a.returned b.serving.links b.returned → LeavesOutside h b c
      → GoesBy (events (Took i ∷ h)) a.serving.links a.returned c.serving.links c.returned
  links_after links left = goes_by_append (event_taken i) (events h) a.serving.links b.serving.links c.serving.links a.returned b.returned c.returned links left.links

  pub handled : GoesBy (event_taken i) a.serving.links a.returned b.serving.links b.returned → Handles i h b c → Goes (Took i ∷ h) a c
  handled links does = goes_after (outside_after (links_after links does.outside) (rests_of does.outside)) does.worker does.notes

  pub handled_not : (f : WorkFault) → GoesBy (event_taken i) a.serving.links a.returned b.serving.links b.returned → HandlesNot i h f b c → Stops (Took i ∷ h) f a c
  handled_not f links does = stops_after f (outside_after (links_after links does.outside) (rests_of does.outside)) does.worker does.notes does.why

  rests_over : (conn : ℕ) → EndsOutside conn h b c → Rests h b c
  rests_over conn over = record { readers = over.readers; passes = over.passes; clock = over.clock; losses = ap (λ (is : List Input). list_all is_loss is) over.outputs }

  -- an input by which a connection has ended
  pub ended : (conn : ℕ) → GoesBy (events (Took i ∷ h)) a.serving.links a.returned c.serving.links c.returned → EndsBy conn i h b c → Goes (Took i ∷ h) a c
  ended conn links does =
      goes_after (outside_after links (rests_over conn does.outside)) does.worker
      (subst (λ (is : List Input). AreNoted (i ∷ is) b.noted c.noted) (sym does.outside.outputs) does.notes)

  pub ended_not : (conn : ℕ) (f : WorkFault) → GoesBy (events (Took i ∷ h)) a.serving.links a.returned c.serving.links c.returned → EndsNot conn i h f b c → Stops (Took i ∷ h) f a c
  ended_not conn f links does =
      stops_after f (outside_after links (rests_over conn does.outside)) does.worker
      (subst (λ (is : List Input). AreNotedButLast (i ∷ is) b.noted c.noted) (sym does.outside.outputs) does.notes) does.why

-- ---- connections that are lost alone

module _ (h : History) (a b : Now) (readers : All IsReader a.serving.readers) where
  outside_lost : LeavesOutside h a b → GoesOutside h a b
  outside_lost left = record {
    links = left.links;
    readers = subst (λ (rs : List (ℕ × Seeing)). AllRead (inputs h) a.serving.readers rs) (sym left.readers) (losses_read (inputs h) a.serving.readers left.losses readers);
    passes = left.passes;
    clock = subst (λ (ts : List ℕ). Ticked a.clock ts b.clock) (sym (losses_tick h left.losses)) left.clock;
  }

  pub lost : Loses h a b → Goes h a b
  lost does = record { outside = outside_lost does.outside; worker = does.worker; notes = does.notes }

  pub lost_not : (f : WorkFault) → LosesNot h f a b → Stops h f a b
  lost_not f does = why f does.why
    where
      halts : Halts h a b
      halts = record { outside = outside_lost does.outside; worker = does.worker; notes = does.notes }

      why : (f : WorkFault) → MayStop h a.serving.worker b.serving.passes f → Stops h f a b
      why fault.Spent spent = (halts, spent)
      why fault.Memory any = halts
      why fault.Door no_way = absurd no_way
      why fault.Quit no_way = absurd no_way
