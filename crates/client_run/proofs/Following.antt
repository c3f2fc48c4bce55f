-- Visits one after another, and what the client holds after them.
use Rattle.std.proofs.Common.{◌+◌, arith, length, ◌≡◌, ◌⊎◌, ℕ, ◌<◌, List, [], ◌∷◌, ◌++◌, map, Bool, true, false, Option, Some, None, refl, sym, ap, subst, ◌∙◌, append_assoc, append-nil, inl, inr}
use Rattle.std.specs.Prelude.{filter, ◌==◌, ◌&&◌, Result, Ok, Err, if◌then◌else◌, option_to_list}
use Rattle.std.specs.List.{list_all}
use Rattle.std.proofs.lemmas.List.{map-append, length-append}
use Rattle.std.proofs.lemmas.List.Folds.{list_all-append}
use Rattle.std.proofs.lemmas.Grind.{flat_map-append}
use Rattle.std.proofs.lemmas.List.Elements.{filter-append}
use Rattle.dispatch_types.specs.declared.dispatch.Dispatch.{Dispatch}
use Rattle.dispatch_types.specs.Fold.{fold}
use Rattle.gateway_frames.specs.declared.out.Out.TheVariants.{Hello, Ack, Invalid, Reconnect, Resumed}
use Rattle.gate_outside.specs.Links.{ReturnedLink}
use Rattle.open_links.specs.Links.{with_more}
use Rattle.open_links.proofs.Meeting.{with_two}
use Rattle.client_cache.specs.Cached.{Cached}
use Rattle.client_session.specs.declared.received.Received.TheVariants as payload
use Rattle.client_session.specs.State.{ClientState, new_client}
use Rattle.client_session.specs.Table.{is_final, is_due_at}
use Rattle.client_session.specs.Step.{Event, Receives, Loses, Asks, dispatch_of}
use Rattle.client_session.specs.Law.{Model, taken, Represents, NewRepresents, StepsRepresent}
use Rattle.client_session.proofs.Standing.{new_represents, steps_represent}
use Rattle.client_run.specs.declared.target.Target.{Target}
use Rattle.client_run.specs.declared.driven.Driven.{Driven}
use Rattle.client_run.specs.declared.driven.Driven.TheVariants as driven
use Rattle.client_run.specs.declared.fault.DriveFault.{DriveFault}
use Rattle.client_run.specs.declared.fault.DriveFault.TheVariants as fault
use Rattle.client_run.specs.Histories.{dropped, is_dropped, Told, Visit, Missed, Opened, events, lines, dispatches, url_of, told_of, all_told, left_to, is_left, StepsAll}
use Rattle.client_run.specs.Links.{AllMeet}
use Rattle.client_run.specs.Watched.{HasToldFront}
use Rattle.client_run.specs.Drives.{Seen, Sees, Outside, Goes, Leads, after_visit, EndsWith, IsFinished, IsStopped, IsOut, IsBadText, Answers, Drives, Folds}
use Rattle.client_run.proofs.Telling.{events_more}
use Rattle.client_run.proofs.Lines.{lines_more, front_more}
use Rattle.client_run.proofs.Turning.{sees_more}

-- ---- one after another

leads_more : (first : List ℕ) (target mid last : Target) (a b c : ClientState Cached) (vs us : List Visit) → Leads first target a vs mid b → Leads first mid b us last c → Leads first target a (vs ++ us) last c
leads_more first target mid last a b c [] us h k =
    subst (λ (x : Target). Leads first x a us last c) h.0 (subst (λ (x : ClientState Cached). Leads first mid x us last c) h.1 k)
leads_more first target mid last a b c (Missed url ∷ vs) us h k = (h.0, leads_more first target mid last a b c vs us h.1 k)
leads_more first target mid last a b c (Opened url ts end ∷ vs) us h k = (h.0, (h.1.0, (h.1.1.0, leads_more first (after_visit (left_to ts)) mid last h.1.0 b c vs us h.1.1.1 k)))

meet_more : (vs us : List Visit) (ls ms : List ReturnedLink) → AllMeet vs ls → AllMeet us ms → AllMeet (vs ++ us) (ls ++ ms)
meet_more [] us ls ms h k = subst (λ (l : List ReturnedLink). AllMeet us (l ++ ms)) (sym h) k
meet_more (Missed url ∷ vs) us ls ms h k = meet_more vs us ls ms h k
meet_more (Opened url ts end ∷ vs) us ls ms h k =
    (h.0, (h.1.0 ++ ms, (ap (λ (l : List ReturnedLink). l ++ ms) h.1.1.0, (h.1.1.1.0, meet_more vs us h.1.0 ms h.1.1.1.1 k))))

told_more : (vs us : List Visit) → all_told (vs ++ us) ≡ all_told vs ++ all_told us
told_more vs us = flat_map-append told_of vs us

pub goes_more : (first : List ℕ) (target mid last : Target) (vs us : List Visit) (a b c : Outside) → Goes first target vs mid a b → Goes first mid us last b c → Goes first target (vs ++ us) last a c
goes_more first target mid last vs us a b c h k = record {
  leads = leads_more first target mid last a.client b.client c.client vs us h.leads k.leads;
  urls = k.urls ∙ ap (λ (o : Option (List (List ℕ))). with_more o (map url_of us)) h.urls ∙ with_two a.dial.urls (map url_of vs) (map url_of us)
      ∙ ap (λ (l : List (List ℕ)). with_more a.dial.urls l) (sym (map-append url_of vs us));
  links = (
    h.links.0 ++ k.links.0,
    (
      k.links.1.0 ∙ ap (λ (o : Option (List ReturnedLink)). with_more o k.links.0) h.links.1.0 ∙ with_two a.dial.returned h.links.0 k.links.0,
      meet_more vs us h.links.0 k.links.0 h.links.1.1 k.links.1.1,
    ),
  );
  sees = subst (λ (es : List Event). Sees a.seen es c.seen) (sym (ap events (told_more vs us) ∙ events_more (all_told vs) (all_told us)))
      (sees_more a.seen b.seen c.seen (events (all_told vs)) (events (all_told us)) h.sees k.sees);
}

-- ---- how often a connection was dropped

pub none_dropped : (n : ℕ) → n ≡ n + 0
none_dropped n = omega arith

pub dropped_more : (n m k : ℕ) (vs us : List Visit) → m ≡ n + dropped vs → k ≡ m + dropped us → k ≡ n + dropped (vs ++ us)
dropped_more n m k vs us h e =
    let all : dropped (vs ++ us) ≡ dropped vs + dropped us = ap (λ (l : List Visit). length l) (filter-append is_dropped vs us) ∙ length-append (filter is_dropped vs) (filter is_dropped us) in
    omega (arith, h, e, all)

-- ---- how it ends

both_left : (vs us : List Visit) → list_all is_left vs ≡ true → list_all is_left us ≡ true → list_all is_left (vs ++ us) ≡ true
both_left vs us h k = list_all-append is_left vs us ∙ ap (λ (b : Bool). b && list_all is_left us) h ∙ k

pub left_more : (vs us : List Visit) → list_all is_left vs ≡ true → list_all is_left us ≡ true → list_all is_left (vs ++ us) ≡ true
left_more vs us h k = both_left vs us h k

ends_more : (P : Visit → Type 0) (vs us : List Visit) → list_all is_left vs ≡ true → EndsWith P us → EndsWith P (vs ++ us)
ends_more P vs us h k = record {
  front = vs ++ k.front;
  last = k.last;
  parts = ap (λ (l : List Visit). vs ++ l) k.parts ∙ sym (append_assoc vs k.front (k.last ∷ []));
  left = both_left vs k.front h k.left;
  ends = k.ends;
}

answers_more : (vs us : List Visit) (r : Result Driven DriveFault) → list_all is_left vs ≡ true → Answers us r → Answers (vs ++ us) r
answers_more vs us (Ok driven.Finished) h k = ends_more IsFinished vs us h k
answers_more vs us (Ok driven.Stopped) h (inl k) = inl (both_left vs us h k)
answers_more vs us (Ok driven.Stopped) h (inr k) = inr (ends_more IsStopped vs us h k)
answers_more vs us (Err (fault.Out code)) h k = ends_more (IsOut code) vs us h k
answers_more vs us (Err fault.BadText) h k = ends_more IsBadText vs us h k
answers_more vs us (Err fault.Dials) h k = tt
answers_more vs us (Err fault.Memory) h k = tt

module _ (vs us : List Visit) (a b c : Seen) (saw : Sees a (events (all_told vs)) b) where
  more_front : HasToldFront b.told (lines (events (all_told us))) c.told → HasToldFront a.told (lines (events (all_told (vs ++ us)))) c.told
  more_front h =
      subst (λ (ls : List (List ℕ)). HasToldFront a.told ls c.told) (sym (ap (λ (ts : List Told). lines (events ts)) (told_more vs us) ∙ ap lines (events_more (all_told vs) (all_told us)) ∙ lines_more (events (all_told vs)) (events (all_told us))))
      (front_more a.told b.told c.told (lines (events (all_told vs))) (lines (events (all_told us))) saw.told h)

  more_or : {P : Type 0} (t : Seen) → (P × HasToldFront b.told (lines (events (all_told us))) c.told) ⊎ (c ≡ t) → (P × HasToldFront a.told (lines (events (all_told (vs ++ us)))) c.told) ⊎ (c ≡ t)
  more_or t (inl e) = inl (e.0, more_front e.1)
  more_or t (inr e) = inr e

pub drives_more : (first : List ℕ) (target mid : Target) (vs us : List Visit) (a b c : Outside) (r : Result Driven DriveFault) → Goes first target vs mid a b → list_all is_left vs ≡ true → Drives first mid us b c r
    → Drives first target (vs ++ us) a c r
drives_more first target mid vs us a b c r h left k = record {
  last = k.last;
  seen = k.seen;
  goes = goes_more first target mid k.last vs us a b (record c { seen = k.seen }) h k.goes;
  time = more_or vs us a.seen b.seen c.seen h.sees k.seen k.time;
  dry_run = k.dry_run;
  answers = answers_more vs us r left k.answers;
}

-- the watcher stopped the client before a dial
pub drives_stop : (first : List ℕ) (target mid : Target) (vs : List Visit) (a b : Outside) → Goes first target vs mid a b → list_all is_left vs ≡ true → b.dial.dry_run < 9 → Drives first target vs a b (Ok driven.Stopped)
drives_stop first target mid vs a b h left dry = record { last = mid; seen = b.seen; goes = h; time = inr refl; dry_run = dry; answers = inl left }

-- ---- what the client holds

choice : (b : Bool) (x y : Model) (n : ℕ) → x.intents ≡ n → y.intents ≡ n → (if b then x else y).intents ≡ n
choice true x y n h k = h
choice false x y n h k = k

same_intents : (c : Model) (event : Event) → (taken c event).intents ≡ c.intents
same_intents c (Receives (payload.Dispatch dispatch number) now) = refl
same_intents c (Receives (payload.Other (Hello interval_ms)) now) = refl
same_intents c (Receives (payload.Other Ack) now) = refl
same_intents c (Receives (payload.Other (Invalid true)) now) = refl
same_intents c (Receives (payload.Other (Invalid false)) now) = refl
same_intents c (Receives (payload.Other Reconnect) now) = refl
same_intents c (Receives (payload.Other (Resumed number)) now) = refl
same_intents c (Loses None) = refl
same_intents c (Loses (Some code)) = choice (is_final code) _ _ c.intents refl (choice (code == 4007) _ _ c.intents refl refl)
same_intents c (Asks now) = choice (is_due_at c.heartbeat now) _ _ c.intents refl refl

-- it represents a client that keeps these dispatches
record Keeps (new : ClientState Cached) (intents : ℕ) (kept : List Dispatch) : Type 0 where
  model : Model
  represents : Represents new model
  intents_are : model.intents ≡ intents
  kept_are : model.kept ≡ kept

keeps_told : (old new : ClientState Cached) (intents : ℕ) (kept : List Dispatch) (ts : List Told) → Keeps old intents kept → StepsAll old ts new → Keeps new intents (kept ++ dispatches ts)
unfolding StepsRepresent
keeps_told old new intents kept [] k steps =
    subst (λ (x : ClientState Cached). Keeps x intents (kept ++ [])) (sym steps) (subst (λ (ds : List Dispatch). Keeps old intents ds) (sym (append-nil kept)) k)
keeps_told old new intents kept (t ∷ ts) k steps =
    let one : Keeps steps.0 intents (kept ++ option_to_list (dispatch_of t.event)) = record {
      model = taken k.model t.event;
      represents = (steps_represent old steps.0 k.model t.event t.acts k.represents steps.1.0).0;
      intents_are = same_intents k.model t.event ∙ k.intents_are;
      kept_are = ap (λ (ds : List Dispatch). ds ++ option_to_list (dispatch_of t.event)) k.kept_are;
    } in
    subst (λ (ds : List Dispatch). Keeps new intents ds) (append_assoc kept (option_to_list (dispatch_of t.event)) (dispatches ts)) (keeps_told steps.0 new intents (kept ++ option_to_list (dispatch_of t.event)) ts one steps.1.1)

dispatches_more : (ts us : List Told) → dispatches (ts ++ us) ≡ dispatches ts ++ dispatches us
dispatches_more ts us = flat_map-append (λ (t : Told). option_to_list (dispatch_of t.event)) ts us

keeps_all : (first : List ℕ) (target last : Target) (old new : ClientState Cached) (intents : ℕ) (kept : List Dispatch) (vs : List Visit) → Keeps old intents kept → Leads first target old vs last new
    → Keeps new intents (kept ++ dispatches (all_told vs))
keeps_all first target last old new intents kept [] k h =
    subst (λ (x : ClientState Cached). Keeps x intents (kept ++ [])) (sym h.1) (subst (λ (ds : List Dispatch). Keeps old intents ds) (sym (append-nil kept)) k)
keeps_all first target last old new intents kept (Missed url ∷ vs) k h = keeps_all first target last old new intents kept vs k h.1
keeps_all first target last old new intents kept (Opened url ts end ∷ vs) k h =
    subst (λ (ds : List Dispatch). Keeps new intents ds) (append_assoc kept (dispatches ts) (dispatches (all_told vs)) ∙ ap (λ (ds : List Dispatch). kept ++ ds) (sym (dispatches_more ts (all_told vs))))
    (keeps_all first (after_visit (left_to ts)) last h.1.0 new intents (kept ++ dispatches ts) vs (keeps_told old h.1.0 intents kept ts k h.1.1.0) h.1.1.1)

pub folds : (first : List ℕ) (target last : Target) (old new : ClientState Cached) (vs : List Visit) → Leads first target old vs last new → Folds old vs new
unfolding NewRepresents
folds first target last old new vs h token intents g is =
    let start : Keeps old intents [] = record {
      model = new_client token intents [];
      represents = subst (λ (x : ClientState Cached). Represents x (new_client token intents [])) (sym is) (new_represents token intents);
      intents_are = refl;
      kept_are = refl;
    } in
    let k = keeps_all first target last old new intents [] vs start h in
    k.represents.held g ∙ ap (λ (n : ℕ). fold n g k.model.kept) k.intents_are ∙ ap (λ (ds : List Dispatch). fold intents g ds) k.kept_are
