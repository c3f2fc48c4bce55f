-- What the parts of a load that ended without a fault have left.
use Rattle.std.specs.Prelude.{◌≡◌, ℕ, ◌+◌, List, [], ◌∷◌, Ok}
use Rattle.guild_model.specs.Record.{Record}
use Rattle.client_run.specs.declared.driven.Driven.TheVariants.{Finished}
use Rattle.load_client.specs.Agreement.{AgreeSo}
use Rattle.load_client.specs.declared.ended_client.EndedClient.{EndedClient}
use Rattle.load_parts.specs.declared.load_part.LoadPart.{LoadPart}
use Rattle.load_parts.specs.declared.load_part.LoadPart.TheVariants as part
use Rattle.load_parts.specs.declared.load_part.LoadDone.{LoadDone}
use Rattle.load_parts.specs.declared.load_part.LoadDone.TheVariants as done
use Rattle.load_run.specs.Loads.{viewer_of}

module _ {C R : Type 0} where
  -- the clock of a part
  abbrev pub clock_of_part : LoadPart C R → List C
  clock_of_part (part.Actor p) = []
  clock_of_part (part.Script p) = []
  clock_of_part (part.Worker p) = p.clock ∷ []
  clock_of_part (part.Client p) = p.clock ∷ []

  abbrev pub clock_of_done : LoadDone C R → List C
  clock_of_done (done.Actor d) = []
  clock_of_done (done.Script d) = []
  clock_of_done (done.Worker d) = d.clock ∷ []
  clock_of_done (done.Client d) = d.clock ∷ []

abbrev pub HasFinished : EndedClient → Type 0
HasFinished c = c.driven ≡ Ok Finished

-- each of these clients, the first of which has this number, agrees with so many of the records
abbrev pub AllAgreeSo : List Record → ℕ → List EndedClient → List ℕ → Type 0
AllAgreeSo records number [] [] = Unit {0}
AllAgreeSo records number [] (n ∷ ns) = ⊥
AllAgreeSo records number (c ∷ cs) [] = ⊥
AllAgreeSo records number (c ∷ cs) (n ∷ ns) = AgreeSo (viewer_of number) c.client.kept records n × AllAgreeSo records (number + 1) cs ns
