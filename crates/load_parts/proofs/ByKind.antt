-- What the parts of a load gave, kind by kind.
use Rattle.std.proofs.Common.{◌≡◌, refl, sym, ap, subst, ◌∙◌, List, [], ◌∷◌, ◌++◌, map, append-nil}
use Rattle.std.specs.Prelude.{flat_map}
use Rattle.std.specs.List.{AllZip}
use Rattle.gate_outside.specs.Clocks.{ClockTale}
use Rattle.thread_outside.specs.DialledDoors.{DialledState}
use Rattle.thread_outside.specs.declared.kept_notes.KeptNotes.{KeptNotes}
use Rattle.worker_core.specs.declared.io.Input.{Input as Given}
use Rattle.gate_parts.specs.Actors.{ActorGives}
use Rattle.gate_parts.specs.Scripts.{ScriptGives}
use Rattle.gate_parts.specs.declared.actor_part.ActorPart.{ActorPart}
use Rattle.gate_parts.specs.declared.actor_part.ActorDone.{ActorDone}
use Rattle.gate_parts.specs.declared.script_part.ScriptPart.{ScriptPart}
use Rattle.gate_parts.specs.declared.script_part.ScriptDone.{ScriptDone}
use Rattle.gate_parts.specs.declared.worker_part.WorkerPart.{WorkerPart}
use Rattle.gate_parts.specs.declared.worker_part.WorkerDone.{WorkerDone}
use Rattle.load_parts.specs.declared.client_part.ClientPart.{ClientPart}
use Rattle.load_parts.specs.declared.client_part.ClientDone.{ClientDone}
use Rattle.load_parts.specs.declared.load_part.LoadPart.{LoadPart}
use Rattle.load_parts.specs.declared.load_part.LoadPart.TheVariants as part
use Rattle.load_parts.specs.declared.load_part.LoadDone.{LoadDone}
use Rattle.load_parts.specs.declared.load_part.LoadDone.TheVariants as done
use Rattle.load_parts.proofs.OneKind.{own, other, in_front}
use Rattle.load_parts.specs.Clients.{ClientGives}
use Rattle.load_parts.specs.Parts.{LoadGives, DoorWorkerGives}
use Rattle.load_parts.specs.Kinds.{actor_of, script_of, worker_of, client_of}
use Rattle.load_parts.specs.ByKind.{GaveByKind, SplitsByKind}

module _ {C R : Type 0} (clock_tale : C → ClockTale) where
  actor_fits : (p : ActorPart R) (d : LoadDone C R) → LoadGives clock_tale (part.Actor p) d → (e : ActorDone R) × (d ≡ done.Actor e) × ActorGives p e
  actor_fits p (done.Actor e) gave = (e, refl, gave)
  actor_fits p (done.Script e) gave = absurd gave
  actor_fits p (done.Worker e) gave = absurd gave
  actor_fits p (done.Client e) gave = absurd gave

  script_fits : (p : ScriptPart R) (d : LoadDone C R) → LoadGives clock_tale (part.Script p) d → (e : ScriptDone) × (d ≡ done.Script e) × ScriptGives p e
  script_fits p (done.Actor e) gave = absurd gave
  script_fits p (done.Script e) gave = (e, refl, gave)
  script_fits p (done.Worker e) gave = absurd gave
  script_fits p (done.Client e) gave = absurd gave

  worker_fits : (p : WorkerPart DialledState C (KeptNotes Given) R) (d : LoadDone C R) → LoadGives clock_tale (part.Worker p) d → (e : WorkerDone DialledState C (KeptNotes Given)) × (d ≡ done.Worker e) × DoorWorkerGives clock_tale p e
  worker_fits p (done.Actor e) gave = absurd gave
  worker_fits p (done.Script e) gave = absurd gave
  worker_fits p (done.Worker e) gave = (e, refl, gave)
  worker_fits p (done.Client e) gave = absurd gave

  client_fits : (p : ClientPart C R) (d : LoadDone C R) → LoadGives clock_tale (part.Client p) d → (e : ClientDone C) × (d ≡ done.Client e) × ClientGives clock_tale p e
  client_fits p (done.Actor e) gave = absurd gave
  client_fits p (done.Script e) gave = absurd gave
  client_fits p (done.Worker e) gave = absurd gave
  client_fits p (done.Client e) gave = (e, refl, gave)

  none_left : (ds : List (LoadDone C R)) → AllZip (LoadGives {C = C} {R = R} clock_tale) [] ds → ds ≡ []
  none_left [] gave = refl
  none_left (d ∷ ds) gave = absurd gave

-- what is found of each kind where the kinds stand one after another
module _ {C R : Type 0} (xs : List (ActorDone R)) (ss : List ScriptDone) (ws : List (WorkerDone DialledState C (KeptNotes Given))) (cs : List (ClientDone C)) where
  -- the clients, and nothing after them
  abbrev last : List (LoadDone C R)
  last = map done.Client cs ++ []

  abbrev after_scripts : List (LoadDone C R)
  after_scripts = map done.Worker ws ++ last

  abbrev after_actors : List (LoadDone C R)
  after_actors = map done.Script ss ++ after_scripts

  abbrev whole : List (LoadDone C R)
  whole = map done.Actor xs ++ after_actors

  of_actors : flat_map actor_of whole ≡ xs
  of_actors = own done.Actor actor_of (λ e. refl) xs after_actors ∙ ap (λ (l : List (ActorDone R)). xs ++ l) (
      other done.Script actor_of (λ e. refl) ss after_scripts ∙ (other done.Worker actor_of (λ e. refl) ws last ∙ other done.Client actor_of (λ e. refl) cs [])) ∙ append-nil xs

  of_scripts : flat_map script_of whole ≡ ss
  of_scripts = other done.Actor script_of (λ e. refl) xs after_actors ∙ (own done.Script script_of (λ e. refl) ss after_scripts ∙ ap (λ (l : List ScriptDone). ss ++ l) (
      other done.Worker script_of (λ e. refl) ws last ∙ other done.Client script_of (λ e. refl) cs []) ∙ append-nil ss)

  of_workers : flat_map worker_of whole ≡ ws
  of_workers = other done.Actor worker_of (λ e. refl) xs after_actors ∙ (other done.Script worker_of (λ e. refl) ss after_scripts ∙ (own done.Worker worker_of (λ e. refl) ws last
      ∙ ap (λ (l : List (WorkerDone DialledState C (KeptNotes Given))). ws ++ l) (other done.Client worker_of (λ e. refl) cs []) ∙ append-nil ws))

  of_clients : flat_map client_of whole ≡ cs
  of_clients = other done.Actor client_of (λ e. refl) xs after_actors ∙ (other done.Script client_of (λ e. refl) ss after_scripts ∙ (other done.Worker client_of (λ e. refl) ws last
      ∙ (own done.Client client_of (λ e. refl) cs [] ∙ append-nil cs)))

module _ {C R : Type 0} (clock_tale : C → ClockTale) where
  -- each kind gave what its parts may give, where the kinds stand one after another
  in_order : (actors : List (ActorPart R)) (scripts : List (ScriptPart R)) (workers : List (WorkerPart DialledState C (KeptNotes Given) R)) (clients : List (ClientPart C R)) (dones : List (LoadDone C R))
      (xs : List (ActorDone R)) (ss : List ScriptDone) (ws : List (WorkerDone DialledState C (KeptNotes Given))) (cs : List (ClientDone C))
      → dones ≡ whole xs ss ws cs → AllZip ActorGives actors xs → AllZip ScriptGives scripts ss → AllZip (DoorWorkerGives clock_tale) workers ws → AllZip (ClientGives clock_tale) clients cs
      → GaveByKind C R clock_tale actors scripts workers clients dones
  in_order actors scripts workers clients dones xs ss ws cs is a s w c = subst (GaveByKind C R clock_tale actors scripts workers clients) (sym is) (record {
    actors_gave = subst (AllZip ActorGives actors) (sym (of_actors xs ss ws cs)) a;
    scripts_gave = subst (AllZip ScriptGives scripts) (sym (of_scripts xs ss ws cs)) s;
    workers_gave = subst (AllZip (DoorWorkerGives clock_tale) workers) (sym (of_workers xs ss ws cs)) w;
    clients_gave = subst (AllZip (ClientGives clock_tale) clients) (sym (of_clients xs ss ws cs)) c;
  })

  pub by_kind : SplitsByKind C R clock_tale
  by_kind actors scripts workers clients dones gave =
      let a = in_front done.Actor (LoadGives clock_tale) ActorGives part.Actor (actor_fits clock_tale) actors (map part.Script scripts ++ (map part.Worker workers ++ map part.Client clients)) dones gave in
      let s = in_front done.Script (LoadGives clock_tale) ScriptGives part.Script (script_fits clock_tale) scripts (map part.Worker workers ++ map part.Client clients) a.1 a.4 in
      let w = in_front done.Worker (LoadGives clock_tale) (DoorWorkerGives clock_tale) part.Worker (worker_fits clock_tale) workers (map part.Client clients) s.1 s.4 in
      let clients_left : AllZip (LoadGives clock_tale) (map part.Client clients ++ []) w.1 = subst (λ (l : List (LoadPart C R)). AllZip (LoadGives clock_tale) l w.1) (sym (append-nil (map part.Client clients))) w.4 in
      let c = in_front done.Client (LoadGives clock_tale) (ClientGives clock_tale) part.Client (client_fits clock_tale) clients [] w.1 clients_left in
      let after_clients : w.1 ≡ last a.0 s.0 w.0 c.0 = c.2 ∙ ap (λ (l : List (LoadDone C R)). map done.Client c.0 ++ l) (none_left clock_tale c.1 c.4) in
      let after_workers : s.1 ≡ after_scripts a.0 s.0 w.0 c.0 = w.2 ∙ ap (λ (l : List (LoadDone C R)). map done.Worker w.0 ++ l) after_clients in
      let after_all_scripts : a.1 ≡ after_actors a.0 s.0 w.0 c.0 = s.2 ∙ ap (λ (l : List (LoadDone C R)). map done.Script s.0 ++ l) after_workers in
      in_order actors scripts workers clients dones a.0 s.0 w.0 c.0 (a.2 ∙ ap (λ (l : List (LoadDone C R)). map done.Actor a.0 ++ l) after_all_scripts) a.3 s.3 w.3 c.3
