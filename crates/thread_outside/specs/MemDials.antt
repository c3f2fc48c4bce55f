-- Dials in memory.
use Rattle.std.specs.Prelude.{◌≡◌, ℕ, List, [], ◌∷◌, ◌++◌, Result, Ok, Err, MatchBool}
use Rattle.std.specs.declared.option.Option.TheVariants.{Some}
use Rattle.gate_outside.specs.Causes.{one_more}
use Rattle.gate_outside.specs.FaultPlans.{Plan, fresh, fails, after_call, after_failed_call}
use Rattle.gate_outside.specs.declared.faults.Fault.{Fault}
use Rattle.gate_outside.specs.declared.faults.Fault.TheVariants.{Failed, Memory}
use Rattle.gate_outside.specs.Dials.{DialTale, dry_after_link}
use Rattle.gate_outside.specs.Links.{ReturnedLink}
use Rattle.thread_outside.specs.MemLinks.{ContentState, LinkState, new_link, kept_link}

-- the ends that are left, the URLs, the dry run, which dials fail, and what came back
pub record DialState : Type 0 where
  pub ends : List ContentState
  pub urls : List (List ℕ)
  pub dry_run : ℕ
  pub plan : Plan
  pub returned : List ReturnedLink

abbrev pub new_dial : List ContentState → List ℕ → DialState
new_dial ends failing = record {
  ends = ends;
  urls = [];
  dry_run = 0;
  plan = fresh failing;
  returned = [];
}

-- what a dial in memory tells
abbrev pub dial_tale : DialState → DialTale
dial_tale d = record {
  dry_run = d.dry_run;
  urls = Some d.urls;
  returned = Some d.returned;
}

-- the dial with one URL more
abbrev pub with_url : DialState → List ℕ → DialState
with_url d url = record d { urls = d.urls ++ url ∷ [] }

-- after a dial that failed
abbrev pub after_failed_dial : DialState → DialState
after_failed_dial d = record d {
  dry_run = one_more d.dry_run;
  plan = after_failed_call d.plan;
}

-- after a dial that reached an end, with these ends left
abbrev pub after_dial : DialState → List ContentState → DialState
after_dial d ends = record d {
  ends = ends;
  plan = after_call d.plan;
}

-- a dial that is not to fail opens a link to the next of these ends, and fails where none is left
abbrev pub OpensTo : List ContentState → DialState → DialState → Result LinkState Fault → Type 0
OpensTo [] old new result = (result ≡ Err Failed) × (new ≡ after_failed_dial old)
OpensTo (end ∷ more) old new result = (result ≡ Ok (new_link end.turns end.lane end.failing)) × (new ≡ after_dial old more)

-- the dial whose URL is listed
abbrev pub OpensNext : DialState → DialState → Result LinkState Fault → Type 0
OpensNext old new result = MatchBool (fails old.plan)
    ((result ≡ Err Failed) × (new ≡ after_failed_dial old))
    (OpensTo old.ends old new result)

-- a call of `dial`; out of memory leaves all as it was
abbrev pub Opens : DialState → DialState → List ℕ → Result LinkState Fault → Type 0
Opens old new url (Ok link) = OpensNext (with_url old url) new (Ok link)
Opens old new url (Err Failed) = OpensNext (with_url old url) new (Err Failed)
Opens old new url (Err Memory) = new ≡ old

-- after a link has come back
abbrev pub after_back : DialState → LinkState → DialState
after_back d link = record d {
  dry_run = dry_after_link d.dry_run link.gave_text link.plan.faults;
  returned = d.returned ++ kept_link link ∷ [];
}
