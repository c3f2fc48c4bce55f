-- The clients of a load that have finished.
use Rattle.std.proofs.Common.{ℕ, zero, suc, ◌+◌, List, [], ◌∷◌, map}
use Rattle.std.specs.List.{All, AllZip, range_with_len}
use Rattle.std.proofs.lemmas.List.Elements.{All-head, All-tail}
use Rattle.atomic_table.specs.Seated.{TableId}
use Rattle.guild_hub.specs.Logs.{Published, whole_record}
use Rattle.load_client.specs.declared.ended_client.EndedClient.{EndedClient}
use Rattle.load_run.specs.Ends.{HasFinished, AllAgreeSo}
use Rattle.load_run.specs.Joined.{ClientEnds}
use Rattle.load_run.specs.Loads.{ClientRan}

pub all_clients : (logs : List (ℕ × Published)) (flag : TableId) (k n : ℕ) (cs : List EndedClient) (ns : List ℕ) → AllZip (ClientEnds flag) (range_with_len k n) cs → All HasFinished cs
    → AllAgreeSo (map (λ (log : ℕ × Published). whole_record log.1) logs) k cs ns → AllZip (ClientRan logs) (range_with_len k n) ns
all_clients logs flag k zero [] [] ends finished agree = tt
all_clients logs flag k zero [] (m ∷ ms) ends finished agree = elim agree [ ]
all_clients logs flag k zero (c ∷ cs) ms ends finished agree = elim ends [ ]
all_clients logs flag k (suc n) [] ms ends finished agree = elim ends [ ]
all_clients logs flag k (suc n) (c ∷ cs) [] ends finished agree = elim agree [ ]
all_clients logs flag k (suc n) (c ∷ cs) (m ∷ ms) ends finished agree = (
  record {
    flag = flag;
    visits = ends.0.visits;
    dial = ends.0.dial;
    dial_after = ends.0.dial_after;
    clock = ends.0.clock;
    clock_after = ends.0.clock_after;
    ended = c;
    has_ended = ends.0.has_ended;
    finished = All-head HasFinished c cs finished;
    agrees = agree.0;
  },
  all_clients logs flag (k + 1) n cs ms ends.1 (All-tail HasFinished c cs finished) agree.1,
)
