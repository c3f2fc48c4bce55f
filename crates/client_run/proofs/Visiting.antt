-- A visit: a dial, and the turns on its link.
use Rattle.std.proofs.Common.{◌≡◌, ◌⊎◌, ℕ, ◌<◌, ◌≤◌, List, [], ◌∷◌, Bool, true, false, Option, Some, None, refl, sym, ap, subst, ◌∙◌, arith, append-nil, inl, inr}
use Rattle.std.specs.Prelude.{◌==◌, ◌&&◌, nat_le, Result, Ok, Err, if◌then◌else◌, is_some}
use Rattle.std.proofs.lemmas.Bool.{leb-true, leb-false}
use Rattle.gate_outside.specs.declared.sending.Sending.{Sending}
use Rattle.gate_outside.specs.Causes.{one_more}
use Rattle.gate_outside.specs.Dials.{DialTale, HangsUp, dry_after_link}
use Rattle.gate_outside.specs.Links.{ReturnedLink, IsNewLink, returned_link}
use Rattle.gate_outside.specs.Told.{GrowsBy, IsEmptyIfTold}
use Rattle.open_links.specs.Links.{IsIfTold, IsFrontIfTold, with_more}
use Rattle.client_cache.specs.Cached.{Cached}
use Rattle.client_session.specs.State.{ClientState}
use Rattle.client_run.specs.declared.target.Target.{Target}
use Rattle.client_run.specs.declared.ending.Ending.{Ending}
use Rattle.client_run.specs.declared.ending.Ending.TheVariants as ending
use Rattle.client_run.specs.declared.driven.Driven.{Driven}
use Rattle.client_run.specs.declared.driven.Driven.TheVariants as driven
use Rattle.client_run.specs.declared.fault.DriveFault.{DriveFault}
use Rattle.client_run.specs.declared.fault.DriveFault.TheVariants as fault
use Rattle.client_run.specs.Histories.{Dropped, dropped, is_left, Told, End, Left, Finished, Stopped, Unread, Cut, Visit, Missed, Opened, events, lines, all_told, left_to, StepsAll}
use Rattle.client_run.specs.Links.{Gave}
use Rattle.client_run.specs.Drives.{Seen, Sees, outside, Goes, url_by, after_visit, EndsWith, IsFinished, IsStopped, IsOut, IsBadText, Answers, DryRun, Drives}
use Rattle.client_run.specs.Watched.{HasToldFront}
use Rattle.open_links.proofs.Meeting.{with_none}
use Rattle.client_run.proofs.Turning.{in_time, sees_none}
use Rattle.client_run.specs.Turns.{dropped_end, heads_to, Line, Meets, Ends, Visits, Way, Heads, settled, answer_by, Attempts}

-- ---- a link before its first call

gave_new : (o : Option (List Sending)) → IsEmptyIfTold o → Gave [] [] o
gave_new None h = tt
gave_new (Some xs) h = ([], (h, refl))

front_new : (o : Option (List Sending)) → IsEmptyIfTold o → IsFrontIfTold [] o
front_new None h = tt
front_new (Some xs) h = ([], append-nil xs ∙ h)

whole_new : (o : Option (List Sending)) → IsEmptyIfTold o → IsIfTold [] o
whole_new None h = tt
whole_new (Some xs) h = h

pub meets_new : (l : Line) → IsNewLink l.tale l.faults → Meets [] [] l
meets_new l new = record {
  turns = refl;
  gave = gave_new l.tale.gave new.gave;
  sent = record {
    front = front_new l.tale.sent new.sent;
    whole = λ sound. whole_new l.tale.sent new.sent;
    in_use = λ still. (new.sound, new.open_yet);
  };
}

-- ---- what is told

pub grows_with : {A : Type 0} (o now : Option (List A)) (x : A) → GrowsBy o now x → now ≡ with_more o (x ∷ [])
grows_with None now x h = h
grows_with (Some xs) None x h = absurd h
grows_with (Some xs) (Some ys) x h = ap Some h

-- the dry run does not pass nine
pub next_most : (n : ℕ) → n < 9 → one_more n ≤ 9
next_most n lt = omega (arith, lt)

before_most : (gave : Bool) (dry : ℕ) → dry < 9 → (if gave then 0 else dry) < 9
before_most true dry lt = omega arith
before_most false dry lt = lt

after_most : (sound : Bool) (before : ℕ) → before < 9 → (if sound then before else one_more before) ≤ 9
after_most true before lt = omega (arith, lt)
after_most false before lt = next_most before lt

pub dry_most : (dry : ℕ) (gave : Bool) (faults : ℕ) → dry < 9 → dry_after_link dry gave faults ≤ 9
dry_most dry gave faults lt = after_most (faults == 0) (if gave then 0 else dry) (before_most gave dry lt)

pub is_most : (n : ℕ) → n ≤ 9 → nat_le 9 n ≡ true → n ≡ 9
is_most n le h = let above = leb-true 9 n h in omega (arith, le, above)

pub is_less : (n : ℕ) → nat_le 9 n ≡ false → n < 9
is_less n h = let below = leb-false 9 n h in omega (arith, below)

-- ---- what a visit answers, by whether the dry run has reached nine

abbrev pub by_dry : Bool → Result Ending DriveFault → Result (Option Driven) DriveFault
by_dry high (Err fault.Memory) = Err fault.Memory
by_dry high (Err fault.Dials) = if high then Err fault.Dials else settled (Err fault.Dials)
by_dry high (Err fault.BadText) = if high then Err fault.Dials else settled (Err fault.BadText)
by_dry high (Err (fault.Out code)) = if high then Err fault.Dials else settled (Err (fault.Out code))
by_dry high (Ok e) = if high then Err fault.Dials else settled (Ok e)

by_dry_is : (dry : ℕ) (ended : Result Ending DriveFault) → by_dry (nat_le 9 dry) ended ≡ answer_by dry ended
by_dry_is dry (Err fault.Memory) = refl
by_dry_is dry (Err fault.Dials) = refl
by_dry_is dry (Err fault.BadText) = refl
by_dry_is dry (Err (fault.Out code)) = refl
by_dry_is dry (Ok e) = refl

not_late : {A P : Type 0} {f : DriveFault} → ((◌≡◌ {A = Result A DriveFault} (Err f) (Err fault.Memory)) → ⊥) → (later t : Seen) → ((◌≡◌ {A = Result A DriveFault} (Err f) (Err fault.Memory)) × P) ⊎ (later ≡ t) → later ≡ t
not_late other later t (inl e) = absurd (other e.0)
not_late other later t (inr e) = e

-- ---- a link that was used and came back

module _ (way : Way) (c0 c1 : ClientState Cached) (d0 d1 d2 : DialTale) (t0 t1 : Seen) (l : Line)
    (urls : GrowsBy d0.urls d1.urls (url_by way.first way.target c0.session)) (returned : d1.returned ≡ d0.returned) (hangs : HangsUp d1 d2 l.tale l.faults) where
  abbrev pub url : List ℕ
  url = url_by way.first way.target c0.session

  goes_visit : (ts : List Told) (end : End) (mid : Seen) → StepsAll c0 ts c1 → Sees t0 (events ts) mid → Ends ts end l
      → Goes way.first way.target (Opened url ts end ∷ []) (after_visit (left_to ts)) (outside c0 d0 t0) (outside c1 d2 mid)
  goes_visit ts end mid steps times ends = record {
    leads = (refl, (c1, (steps, (refl, refl))));
    urls = hangs.urls ∙ grows_with d0.urls d1.urls url urls;
    links = (
      returned_link l.tale l.faults ∷ [],
      (
        grows_with d1.returned d2.returned (returned_link l.tale l.faults) hangs.returned ∙ ap (λ (o : Option (List ReturnedLink)). with_more o (returned_link l.tale l.faults ∷ [])) returned,
        (returned_link l.tale l.faults, ([], (refl, (ends, refl)))),
      ),
    );
    sees = subst (λ (us : List Told). Sees t0 (events us) mid) (sym (append-nil ts)) times;
  }

  -- what the one visit tells is all
  of_visit : (ts : List Told) (end : End) (mid : Seen) (r : Result Driven DriveFault) → ((r ≡ Err fault.Memory) × HasToldFront t0.told (lines (events ts)) t1.told) ⊎ (t1 ≡ mid)
      → ((r ≡ Err fault.Memory) × HasToldFront t0.told (lines (events (all_told (Opened url ts end ∷ [])))) t1.told) ⊎ (t1 ≡ mid)
  of_visit ts end mid r (inl e) = inl (e.0, subst (λ (us : List Told). HasToldFront t0.told (lines (events us)) t1.told) (sym (append-nil ts)) e.1)
  of_visit ts end mid r (inr e) = inr e

  -- out of memory as the answer of the whole
  out_of_time : (ts : List Told) (mid : Seen) → ((◌≡◌ {A = Result Ending DriveFault} (Err fault.Memory) (Err fault.Memory)) × HasToldFront t0.told (lines (events ts)) t1.told) ⊎ (t1 ≡ mid)
      → ((◌≡◌ {A = Result Driven DriveFault} (Err fault.Memory) (Err fault.Memory)) × HasToldFront t0.told (lines (events ts)) t1.told) ⊎ (t1 ≡ mid)
  out_of_time ts mid (inl e) = inl (refl, e.1)
  out_of_time ts mid (inr e) = inr e

  drives_visit : (ts : List Told) (end : End) (mid : Seen) (r : Result Driven DriveFault) → StepsAll c0 ts c1 → Sees t0 (events ts) mid → Ends ts end l → ((r ≡ Err fault.Memory) × HasToldFront t0.told (lines (events ts)) t1.told) ⊎ (t1 ≡ mid) → DryRun d2.dry_run r
      → Answers (Opened url ts end ∷ []) r → Drives way.first way.target (Opened url ts end ∷ []) (outside c0 d0 t0) (outside c1 d2 t1) r
  drives_visit ts end mid r steps times ends time dry answers =
      record { last = after_visit (left_to ts); seen = mid; goes = goes_visit ts end mid steps times ends; time = of_visit ts end mid r time; dry_run = dry; answers = answers }

  only : (P : Visit → Type 0) (ts : List Told) (end : End) → P (Opened url ts end) → EndsWith P (Opened url ts end ∷ [])
  only P ts end h = record { front = []; last = Opened url ts end; parts = refl; left = refl; ends = h }

  module _ (way2 way3 : Way) (first2 : way2.first ≡ way.first) (dry2 : way2.dry_run ≡ d2.dry_run) (most : d2.dry_run ≤ 9) where
    abbrev pub Answered : Result Ending DriveFault → Result (Option Driven) DriveFault → Type 0
    Answered ended r = Heads way2 way3 ended r → (vs : List Visit) × (Attempts way way3 vs (outside c0 d0 t0) (outside c1 d2 t1) r × (dropped vs ≡ dropped_end ended))

    -- the dry run has reached nine
    dries : (ts : List Told) (end : End) (mid : Seen) (ended : Result Ending DriveFault) → dropped (Opened url ts end ∷ []) ≡ dropped_end ended → StepsAll c0 ts c1 → Sees t0 (events ts) mid → Ends ts end l → t1 ≡ mid → nat_le 9 d2.dry_run ≡ true → Answered ended (Err fault.Dials)
    dries ts end mid ended counts steps times ends time high heads =
        (Opened url ts end ∷ [], (drives_visit ts end mid (Err fault.Dials) steps times ends (inr time) (is_most d2.dry_run most high) tt, counts))

    -- the client connects again
    leaves : (ts : List Told) (end : End) (target : Target) (mid : Seen) (ended : Result Ending DriveFault) → heads_to ended ≡ Some target → is_left (Opened url ts end) ≡ is_some (left_to ts)
        → dropped (Opened url ts end ∷ []) ≡ dropped_end ended → StepsAll c0 ts c1 → Sees t0 (events ts) mid → Ends ts end l → left_to ts ≡ Some target → t1 ≡ mid → nat_le 9 d2.dry_run ≡ false → Answered ended (Ok None)
    leaves ts end target mid ended to is_one counts steps times ends left time low heads =
        let same : after_visit (left_to ts) ≡ way3.target = ap after_visit left ∙ sym (heads.1.1 target to refl) in
        let less : d2.dry_run < 9 = is_less d2.dry_run low in (
          Opened url ts end ∷ [],
          (
            (
              subst (λ (x : Target). Goes way.first way.target (Opened url ts end ∷ []) x (outside c0 d0 t0) (outside c1 d2 t1)) same
                  (subst (λ (x : Seen). Goes way.first way.target (Opened url ts end ∷ []) (after_visit (left_to ts)) (outside c0 d0 t0) (outside c1 d2 x)) (sym time) (goes_visit ts end mid steps times ends)),
              (ap (λ (b : Bool). b && true) (is_one ∙ ap (λ (o : Option Target). is_some o) left), (heads.0 ∙ first2, (heads.1.0 ∙ dry2, subst (λ (n : ℕ). n < 9) (sym (heads.1.0 ∙ dry2)) less))),
            ),
            counts,
          ),
        )

    -- whatever it ends with
    settles : (ended : Result Ending DriveFault) (high : Bool) → nat_le 9 d2.dry_run ≡ high → Visits c0 c1 t0 t1 ended l → Answered ended (by_dry high ended)
    settles (Ok (ending.Left target)) true e v = dries v.0 Left v.1.1.0.0 (Ok (ending.Left target)) refl v.1.0 v.1.1.0.1.0 v.1.1.1.0 (in_time t1 v.1.1.0.0 v.1.1.0.1.1) e
    settles (Ok (ending.Left target)) false e v = leaves v.0 Left target v.1.1.0.0 (Ok (ending.Left target)) refl refl refl v.1.0 v.1.1.0.1.0 v.1.1.1.0 v.1.1.1.1 (in_time t1 v.1.1.0.0 v.1.1.0.1.1) e
    settles (Ok (ending.Dropped target)) true e v = dries v.0 Dropped v.1.1.0.0 (Ok (ending.Dropped target)) refl v.1.0 v.1.1.0.1.0 v.1.1.1.0 (in_time t1 v.1.1.0.0 v.1.1.0.1.1) e
    settles (Ok (ending.Dropped target)) false e v = leaves v.0 Dropped target v.1.1.0.0 (Ok (ending.Dropped target)) refl refl refl v.1.0 v.1.1.0.1.0 v.1.1.1.0 v.1.1.1.1 (in_time t1 v.1.1.0.0 v.1.1.0.1.1) e
    settles (Ok ending.Finished) true e v = dries v.0 Finished v.1.1.0.0 (Ok ending.Finished) refl v.1.0 v.1.1.0.1.0 v.1.1.1 (in_time t1 v.1.1.0.0 v.1.1.0.1.1) e
    settles (Ok ending.Finished) false e v = λ heads.
        (Opened url v.0 Finished ∷ [], (drives_visit v.0 Finished v.1.1.0.0 (Ok driven.Finished) v.1.0 v.1.1.0.1.0 v.1.1.1 (inr (in_time t1 v.1.1.0.0 v.1.1.0.1.1)) (is_less d2.dry_run e) (only IsFinished v.0 Finished refl), refl))
    settles (Ok ending.Stopped) true e v = dries v.0 Stopped v.1.1.0.0 (Ok ending.Stopped) refl v.1.0 v.1.1.0.1.0 v.1.1.1 (in_time t1 v.1.1.0.0 v.1.1.0.1.1) e
    settles (Ok ending.Stopped) false e v = λ heads.
        (Opened url v.0 Stopped ∷ [], (drives_visit v.0 Stopped v.1.1.0.0 (Ok driven.Stopped) v.1.0 v.1.1.0.1.0 v.1.1.1 (inr (in_time t1 v.1.1.0.0 v.1.1.0.1.1)) (is_less d2.dry_run e) (inr (only IsStopped v.0 Stopped refl)), refl))
    settles (Err (fault.Out code)) true e v = dries v.0 Left v.1.1.0.0 (Err (fault.Out code)) refl v.1.0 v.1.1.0.1.0 v.1.1.1.0 (not_late (λ x. absurd (cc)) t1 v.1.1.0.0 v.1.1.0.1.1) e
    settles (Err (fault.Out code)) false e v = λ heads.
        (Opened url v.0 Left ∷ [], (drives_visit v.0 Left v.1.1.0.0 (Err (fault.Out code)) v.1.0 v.1.1.0.1.0 v.1.1.1.0 (inr (not_late (λ x. absurd (cc)) t1 v.1.1.0.0 v.1.1.0.1.1)) (is_less d2.dry_run e) (only (IsOut code) v.0 Left (refl, v.1.1.1.1)), refl))
    settles (Err fault.BadText) true e v = dries v.0 (Unread v.1.1.1.0) v.1.1.0.0 (Err fault.BadText) refl v.1.0 v.1.1.0.1.0 v.1.1.1.1.0 (not_late (λ x. absurd (cc)) t1 v.1.1.0.0 v.1.1.0.1.1) e
    settles (Err fault.BadText) false e v = λ heads.
        let text = v.1.1.1.0 in
        let answers = only IsBadText v.0 (Unread text) (text, (refl, v.1.1.1.1.1)) in
        let late = not_late (λ x. absurd (cc)) t1 v.1.1.0.0 v.1.1.0.1.1 in
        (Opened url v.0 (Unread text) ∷ [], (drives_visit v.0 (Unread text) v.1.1.0.0 (Err fault.BadText) v.1.0 v.1.1.0.1.0 v.1.1.1.1.0 (inr late) (is_less d2.dry_run e) answers, refl))
    settles (Err fault.Dials) high e v = absurd v.1.1.1
    settles (Err fault.Memory) high e v = λ heads.
        (Opened url v.0 (Cut v.1.1.1.0) ∷ [], (drives_visit v.0 (Cut v.1.1.1.0) v.1.1.0.0 (Err fault.Memory) v.1.0 v.1.1.0.1.0 v.1.1.1.1 (out_of_time v.0 v.1.1.0.0 v.1.1.0.1.1) tt tt, refl))

    pub attempted : (ended : Result Ending DriveFault) (r : Result (Option Driven) DriveFault) → r ≡ answer_by way2.dry_run ended → Heads way2 way3 ended r → Visits c0 c1 t0 t1 ended l
        → (vs : List Visit) × (Attempts way way3 vs (outside c0 d0 t0) (outside c1 d2 t1) r × (dropped vs ≡ dropped_end ended))
    attempted ended r e heads v =
        let is : r ≡ by_dry (nat_le 9 d2.dry_run) ended = e ∙ ap (λ (n : ℕ). answer_by n ended) dry2 ∙ sym (by_dry_is d2.dry_run ended) in
        subst (λ (x : Result (Option Driven) DriveFault). (vs : List Visit) × (Attempts way way3 vs (outside c0 d0 t0) (outside c1 d2 t1) x × (dropped vs ≡ dropped_end ended))) (sym is)
        (settles ended (nat_le 9 d2.dry_run) refl v (subst (λ (x : Result (Option Driven) DriveFault). Heads way2 way3 ended x) is heads))

-- ---- no link

-- the dial failed
pub missed : (way : Way) (c : ClientState Cached) (d d' : DialTale) (t : Seen) → GrowsBy d.urls d'.urls (url_by way.first way.target c.session) → d'.returned ≡ d.returned
    → Goes way.first way.target (Missed (url_by way.first way.target c.session) ∷ []) way.target (outside c d t) (outside c d' t)
missed way c d d' t urls back = record {
  leads = (refl, (refl, refl));
  urls = grows_with d.urls d'.urls (url_by way.first way.target c.session) urls;
  links = ([], (back ∙ sym (with_none d.returned), refl));
  sees = sees_none t;
}

-- nothing was done
pub goes_nowhere : (first : List ℕ) (target : Target) (c : ClientState Cached) (d d' : DialTale) (t : Seen) → d'.urls ≡ d.urls → d'.returned ≡ d.returned → Goes first target [] target (outside c d t) (outside c d' t)
goes_nowhere first target c d d' t urls back = record {
  leads = (refl, refl);
  urls = urls ∙ sym (with_none d.urls);
  links = ([], (back ∙ sym (with_none d.returned), refl));
  sees = sees_none t;
}
