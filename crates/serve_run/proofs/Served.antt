-- What is said of a run whose parts were lent.
use Rattle.std.proofs.Common.{◌≡◌, ℕ, suc, ◌+◌, List, [], ◌∷◌, length, map, All, Result, Err, inl, inr, refl, sym, ap, subst, ◌∙◌}
use Rattle.std.specs.List.{AllZip, AllByRecursion}
use Rattle.std.proofs.lemmas.List.{length-map}
use Rattle.std.proofs.lemmas.List.Elements.{All-map, All-from_recursion}
use Rattle.std.specs.declared.option.Option.{Option as Known}
use Rattle.gate_outside.specs.Clocks.{ClockTale, IsNewClock}
use Rattle.gate_outside.specs.Doors.{DoorTale, IsNewDoor}
use Rattle.gate_outside.specs.Houses.{returned_source, returned_door}
use Rattle.session_core.specs.declared.bot.Bot.{Bot as ABot}
use Rattle.house_loans.specs.Sources.{source_counts}
use Rattle.house_loans.specs.Doors.{door_counts}
use Rattle.serve_run.specs.Services.{Service, HasHead, file_tales, door_given, service}
use Rattle.serve_run.specs.declared.ends.Returned.{Returned}
use Rattle.serve_run.specs.declared.fault.ServeFault.{ServeFault}
use Rattle.serve_run.specs.declared.fault.ServeFault.TheVariants as fault
use Rattle.serve_heads.specs.Guilds.{each_once}
use Rattle.serve_heads.specs.Heads.{Head, IsBegun, HeadsAreRead}
use Rattle.serve_heads.specs.declared.script_file.ScriptFile.{ScriptFile}
use Rattle.serve_stage.specs.declared.lent.Lent.{Lent}
use Rattle.serve_run.specs.Causes.{HasServeCause, StartsParts}
use Rattle.serve_run.specs.Lent.{TellsLent, ReturnsAll}
use Rattle.serve_run.specs.Serves.{Serves}
use Rattle.gate_ends.proofs.Zips.{many_zip}
use Rattle.serve_run.specs.Begun.{AreBegun}
use Rattle.serve_run.specs.Parts.{AreAlike, AreNew, ServesOrNot, loans_of}
use Rattle.serve_run.specs.Serving.{SinkTale, TeamTale}
use Rattle.serve_run.proofs.ToldFiles.{failed_reads, told_all, tales_by}

-- as many files as sources whose heads were read
pub many_read : {S : Type 0} (left : S → Known (List ℕ)) (faults : S → ℕ) (sources : List S) (files : List (ScriptFile S)) (bots : List ABot) (guilds : List ℕ)
    → HeadsAreRead left faults sources files bots guilds → length files ≡ length sources
many_read left faults sources files bots guilds read =
    ap length read.files_are ∙ (length-map read.begun (λ b. b.0) ∙ many_zip _ sources read.begun read.each)

module _ {S D C : Type 0} (left : S → Known (List ℕ)) (source_faults : S → ℕ) (door_tale : D → DoorTale) (door_faults : D → ℕ) (clock_tale : C → ClockTale) where
  same_tales : (heads : List (List ℕ)) (files : List (ScriptFile S)) → file_tales left source_faults door_tale door_faults clock_tale heads files ≡ tales_by left source_faults heads files
  same_tales [] files = refl
  same_tales (head ∷ heads) [] = refl
  same_tales (head ∷ heads) (f ∷ files) = ap (λ tales. record { head = head; left = left f.source; faults = source_faults f.source; script = f.script } ∷ tales) (same_tales heads files)

  source_counts_are : (sources : List S) → source_counts (map (λ s. returned_source (left s) (source_faults s)) sources) ≡ map source_faults sources
  source_counts_are [] = refl
  source_counts_are (s ∷ sources) = ap (λ counts. source_faults s ∷ counts) (source_counts_are sources)

  door_counts_are : (doors : List D) → door_counts (map (λ d. returned_door (door_tale d) (door_faults d)) doors) ≡ map door_faults doors
  door_counts_are [] = refl
  door_counts_are (d ∷ doors) = ap (λ counts. door_faults d ∷ counts) (door_counts_are doors)

  -- bytes of the heads that were read, whatever the sources had failed before
  heads_of : (sources : List S) (begun : List (ScriptFile S × Head)) → AllZip (λ source b. IsBegun left source_faults source b.0 b.1) sources begun
      → (heads : List (List ℕ)) × ((length heads ≡ length (map (λ b. b.0) begun)) × AllByRecursion HasHead (file_tales left source_faults door_tale door_faults clock_tale heads (map (λ b. b.0) begun)))
  heads_of [] [] each = ([], (refl, tt))
  heads_of [] (b ∷ begun) each = absurd each
  heads_of (source ∷ sources) [] each = absurd each
  heads_of (source ∷ sources) (b ∷ begun) each =
      let more = heads_of sources begun each.1 in
      let one = each.0 in
      (one.bytes ∷ more.0, (ap suc more.1.0, (record { read = one.read; failed = failed_reads (source_faults source) b.0.script.first (source_faults b.0.source) one.cause }, more.1.1)))

  -- something is told of what was lent
  pub some_told : (port : ℕ) (sources : List S) (bots : List ABot) (guilds : List ℕ) (lent : Lent S D C) → HeadsAreRead left source_faults sources lent.files.items bots guilds
      → (s : Service) × TellsLent left source_faults door_tale door_faults clock_tale port bots guilds lent s
  some_told port sources bots guilds lent read =
      let found = heads_of sources read.begun read.each in
      let its = file_tales left source_faults door_tale door_faults clock_tale found.0 in (
        service left source_faults door_tale door_faults clock_tale port bots guilds found.0 lent,
        record {
          heads = found.0;
          alike = found.1.0 ∙ ap length (sym read.files_are);
          is = refl;
          heads_are = All-from_recursion HasHead (its lent.files.items) (subst (λ files. AllByRecursion HasHead (its files)) (sym read.files_are) found.1.1);
        },
      )

  module _ (R : Type 0) (port : ℕ) (p : Returned S D C) (bots : List ABot) (guilds : List ℕ) (lent : Lent S D C)
      (read : HeadsAreRead left source_faults p.sources.items lent.files.items bots guilds) (same_doors : lent.doors ≡ p.doors) (same_clocks : lent.clocks ≡ p.clocks) where
    abbrev Tells : Service → Type 0
    Tells s = TellsLent left source_faults door_tale door_faults clock_tale port bots guilds lent s

    -- what is told of the service, for sources that had these bytes
    record IsTold (accepts : ℕ) (owns : List (Known (List ℕ))) : Type 0 where
      s : Service
      tells : Tells s
      port_is : s.port ≡ port
      many : length owns ≡ length lent.files.items
      begun : AreBegun owns s
      doors_are : (length s.doors ≡ length p.doors.items) × All (λ d. IsNewDoor accepts d.tale d.faults) s.doors
      clocks_are : (length s.clocks ≡ length p.doors.items) × All IsNewClock s.clocks

    is_told : (accepts : ℕ) (owns : List (Known (List ℕ))) → length p.clocks.items ≡ length p.doors.items → AreNew left source_faults door_tale door_faults clock_tale accepts owns p → IsTold accepts owns
    is_told accepts owns paired fresh =
        let told = told_all left source_faults owns p.sources.items read.begun fresh.sources read.each in
        let s : Service = service left source_faults door_tale door_faults clock_tale port bots guilds told.heads lent in
        let tales : s.files ≡ map (λ b. b.0) told.tales =
        same_tales told.heads lent.files.items ∙ (ap (λ files. tales_by left source_faults told.heads files) read.files_are ∙ told.tales_are) in
        record {
          s = s;
          tells = record {
            heads = told.heads;
            alike = told.alike ∙ ap length (sym read.files_are);
            is = refl;
            heads_are = subst (λ files. All HasHead files) (sym tales) (All-from_recursion HasHead (map (λ b. b.0) told.tales) told.heads_are);
          };
          port_is = refl;
          many = told.as_many ∙ ap length (sym read.files_are);
          begun = record {
            begun = told.tales;
            each = told.each;
            files_are = tales;
            bots_are = read.bots_are ∙ told.bots_are;
            guilds_are = read.guilds_are ∙ ap each_once told.guilds_are;
          };
          doors_are = (
            length-map lent.doors.items _ ∙ ap (λ ds. length ds.items) same_doors,
            All-map (λ d. IsNewDoor accepts d.tale d.faults) (door_given left source_faults door_tale door_faults clock_tale) lent.doors.items
                (subst (λ ds. All (λ d. IsNewDoor accepts (door_tale d) (door_faults d)) ds.items) (sym same_doors) fresh.doors),
          );
          clocks_are = (
            length-map lent.clocks.items clock_tale ∙ (ap (λ cs. length cs.items) same_clocks ∙ paired),
            All-map IsNewClock clock_tale lent.clocks.items (subst (λ cs. All (λ c. IsNewClock (clock_tale c)) cs.items) (sym same_clocks) fresh.clocks),
          );
        }

    module _ (back : Returned S D C) (sink0 sink1 : SinkTale) (team0 team1 : TeamTale) (ended : Result (Unit {0}) ServeFault) where
      -- the run was served
      pub served_all : length p.clocks.items ≡ length p.doors.items → ReturnsAll lent back
          → ((s : Service) → Tells s → Serves s sink0.got sink1.got sink0.waits sink0.faults sink1.faults ended)
          → ((s : Service) → Tells s → HasServeCause R s team0.faults team1.faults sink0.faults sink1.faults (map source_faults back.sources.items) (map door_faults back.doors.items) ended)
          → StartsParts (2 + (length lent.files.items + length lent.doors.items)) team0.starts team1.starts ended
          → ServesOrNot left source_faults door_tale door_faults clock_tale R port p back sink0 sink1 team0 team1 ended
      served_all paired returns serves causes starts = record {
        alike = record {
          sources = returns.sources ∙ many_read left source_faults p.sources.items lent.files.items bots guilds read;
          doors = returns.doors ∙ ap (λ ds. length ds.items) same_doors;
          clocks = returns.clocks ∙ ap (λ cs. length cs.items) same_clocks;
        };
        serves = λ accepts owns fresh.
            let told = is_told accepts owns paired fresh in
            inr (record {
              service = told.s;
              port_is = told.port_is;
              files = told.begun;
              doors_are = told.doors_are;
              clocks_are = told.clocks_are;
              serves = serves told.s told.tells;
              cause = subst (λ ns. HasServeCause R told.s team0.faults team1.faults sink0.faults sink1.faults ns (door_counts (loans_of left source_faults door_tale door_faults clock_tale back).doors) ended)
                  (sym (source_counts_are back.sources.items))
                  (subst (λ ns. HasServeCause R told.s team0.faults team1.faults sink0.faults sink1.faults (map source_faults back.sources.items) ns ended)
                  (sym (door_counts_are back.doors.items)) (causes told.s told.tells));
              starts = subst (λ n. StartsParts (2 + (n + length p.doors.items)) team0.starts team1.starts ended) (sym told.many)
                  (subst (λ n. StartsParts (2 + (length lent.files.items + n)) team0.starts team1.starts ended) (ap (λ ds. length ds.items) same_doors) starts);
            });
      }

  -- nothing was served, for want of memory
  pub served_none : (R : Type 0) (port : ℕ) (p back : Returned S D C) (sink0 sink1 : SinkTale) (team0 team1 : TeamTale) (ended : Result (Unit {0}) ServeFault)
      → AreAlike p back → ended ≡ Err fault.Memory → sink1 ≡ sink0 → team1 ≡ team0 → ServesOrNot left source_faults door_tale door_faults clock_tale R port p back sink0 sink1 team0 team1 ended
  served_none R port p back sink0 sink1 team0 team1 ended alike ran_out same_sink same_team = record {
    alike = alike;
    serves = λ accepts owns fresh. inl (ran_out, (same_sink, same_team));
  }
