-- What the parts of a run have left, by what they were set up from.
use Rattle.std.proofs.Common.{◌≡◌, ℕ, zero, suc, ◌+◌, List, [], ◌∷◌, ◌++◌, map, length, Some, None, Result, refl, sym, ap, ap₂, ◌∙◌, subst, arith}
use Rattle.std.proofs.lemmas.List.{length-map}
use Rattle.std.specs.List.{All}
use Rattle.std.specs.declared.option.Option.{Option}
use Rattle.edit_post.specs.Post.{PostId, Sender, after_end}
use Rattle.file_script.specs.Sends.{HeadIsRead, SendsFile}
use Rattle.file_script.specs.declared.fault.ScriptFault.{ScriptFault}
use Rattle.gate_outside.specs.Clocks.{ClockTale}
use Rattle.gate_outside.specs.Doors.{DoorTale}
use Rattle.guild_hub.specs.Writes.{Publishing}
use Rattle.session_core.specs.declared.bot.Bot.{Bot}
use Rattle.thread_outside.specs.declared.quiet_notes.QuietNotes.{QuietNotes}
use Rattle.gate_parts.specs.Actors.{ActorGives}
use Rattle.gate_parts.specs.declared.actor_part.ActorPart.{ActorPart}
use Rattle.gate_parts.specs.declared.actor_part.ActorDone.{ActorDone}
use Rattle.gate_parts.specs.declared.ending.Ending.{Ending}
use Rattle.gate_parts.specs.declared.ending.Ending.TheVariants.{Ran, Stopped}
use Rattle.gate_parts.specs.declared.worker_part.WorkerPart.{WorkerPart}
use Rattle.gate_parts.specs.declared.worker_part.WorkerDone.{WorkerDone}
use Rattle.run_ends.specs.Senders.{new_passes}
use Rattle.run_stage.specs.Dealing.{IsAt}
use Rattle.run_stage.proofs.Numbered.{all_at}
use Rattle.serve_heads.specs.declared.script_file.ScriptFile.{ScriptFile}
use Rattle.serve_parts.specs.Files.{FileGives, SendsOrStops as PartSends}
use Rattle.serve_parts.specs.Parts.{DoorPartGives}
use Rattle.serve_parts.specs.declared.file_part.FilePart.{FilePart}
use Rattle.serve_parts.specs.declared.file_part.FileDone.{FileDone}
use Rattle.serve_stage.specs.Parts.{IsActor, IsScript, IsWorker, file_of}
use Rattle.serve_stage.specs.Stages.{senders_of}
use Rattle.serve_stage.specs.declared.lent.Lent.{Lent}
use Rattle.serve_run.specs.Ends.{FileEnds, WorkerEnds, SendsOrStops}
use Rattle.serve_run.specs.Services.{Service, FileTale, DoorGiven, HasHead, service, file_tales, ascending, senders}
use Rattle.serve_run.specs.Sorted.{file_end}
use Rattle.gate_ends.specs.Done.{worker_end}
use Rattle.gate_ends.specs.Ends.{ActorEnds}
use Rattle.gate_ends.proofs.Began.{actor_ends, worker_serves}

-- what was made of the item at a place
at_map : {X Y : Type 0} (f : X → Y) (xs : List X) (n : ℕ) (x : X) → IsAt xs n x → IsAt (map f xs) n (f x)
at_map f [] n x at = absurd (cc)
at_map f (y ∷ xs) zero x at =
    let same : y ≡ x = cc in
    ap (λ z. Some (f z)) same
at_map f (y ∷ xs) (suc n) x at = at_map f xs n x at

module _ {S D C : Type 0} (left : S → Option (List ℕ)) (source_faults : S → ℕ) (door_tale : D → DoorTale) (door_faults : D → ℕ) (clock_tale : C → ClockTale) where
  -- a file with the bytes of its head
  abbrev pub tale : List ℕ → ScriptFile S → FileTale
  tale head f = record { head = head; left = left f.source; faults = source_faults f.source; script = f.script }

  abbrev given : D → DoorGiven
  given d = record { tale = door_tale d; faults = door_faults d }

  abbrev pub tales : List (List ℕ) → List (ScriptFile S) → List FileTale
  tales heads files = file_tales left source_faults door_tale door_faults clock_tale heads files

  pub many_tales : (heads : List (List ℕ)) (files : List (ScriptFile S)) → length heads ≡ length files → length (tales heads files) ≡ length files
  many_tales [] [] e = refl
  many_tales [] (f ∷ files) e = absurd (omega (arith, e))
  many_tales (h ∷ heads) [] e = absurd (omega (arith, e))
  many_tales (h ∷ heads) (f ∷ files) e = ap suc (many_tales heads files (omega (arith, e)))

  pub tale_at : (heads : List (List ℕ)) (files : List (ScriptFile S)) (n : ℕ) (f : ScriptFile S) → length heads ≡ length files → IsAt files n f
      → (head : List ℕ) × IsAt (tales heads files) n (tale head f)
  tale_at [] [] n f e at = absurd (cc)
  tale_at [] (g ∷ files) n f e at = absurd (omega (arith, e))
  tale_at (h ∷ heads) [] n f e at = absurd (omega (arith, e))
  tale_at (h ∷ heads) (g ∷ files) zero f e at =
      let same : g ≡ f = cc in
      (h, ap (λ (file : ScriptFile S). Some (tale h file)) same)
  tale_at (h ∷ heads) (g ∷ files) (suc n) f e at = tale_at heads files n f (omega (arith, e)) at

  module _ (port : ℕ) (bots : List Bot) (guilds : List ℕ) (heads : List (List ℕ)) (lent : Lent S D C) (alike : length heads ≡ length lent.files.items) where
    abbrev pub told : Service
    told = service left source_faults door_tale door_faults clock_tale port bots guilds heads lent

    pub many_files : length told.files ≡ length lent.files.items
    many_files = many_tales heads lent.files.items alike

    pub many_doors : length told.doors ≡ length lent.doors.items
    many_doors = length-map lent.doors.items given

    module _ {R : Type 0} (posts : List PostId) (writers : List (ℕ × Publishing)) where
      pub one_actor : (n : ℕ) (p : ActorPart R) (d : ActorDone R) → IsActor posts (senders_of lent) writers n p → ActorGives p d → ActorEnds posts writers (senders told) n d
      one_actor n p d is gives =
          subst (λ (k : ℕ). ActorEnds posts writers k n d) (ap₂ (λ (a b : ℕ). a + b) (sym many_files) (sym many_doors))
          (actor_ends posts writers (senders_of lent) n p d is.pass_is is.writers_are gives)

      pub one_worker : (n : ℕ) (p : WorkerPart D C QuietNotes R) (d : WorkerDone D C QuietNotes) → IsWorker posts (length lent.files.items) writers bots (ascending guilds) port lent.doors.items lent.clocks.items n p
          → DoorPartGives door_tale door_faults clock_tale p d → WorkerEnds told posts writers n (worker_end d)
      one_worker n p d is gives = record {
        serves = worker_serves door_tale door_faults clock_tale (λ quiet. None) posts writers (length told.files + n) p d is.readers_are
            (is.passes_are ∙ ap (λ (k : ℕ). new_passes posts (k + n)) (sym many_files)) gives;
        is_new = is.worker_is;
        door = given p.door;
        door_is = at_map given lent.doors.items n p.door is.door_is;
        door_before = (refl, refl);
        clock_before = at_map clock_tale lent.clocks.items n p.clock is.clock_is;
      }

    module _ {R : Type 0} (posts : List PostId) (heads_are : All HasHead told.files) where
      -- the head of the file that a script has
      pub head_of : (n : ℕ) (p : FilePart S R) → IsScript posts (ascending guilds) lent.files.items n p
          → (head : List ℕ) × (IsAt told.files n (tale head (file_of p)) × HasHead (tale head (file_of p)))
      head_of n p is =
          let found = tale_at heads lent.files.items n (file_of p) alike is.file_is in
          (found.0, (found.1, all_at HasHead told.files n (tale found.0 (file_of p)) heads_are found.1))

      sent : (n : ℕ) (p : FilePart S R) (d : FileDone S) (head : List ℕ) → IsScript posts (ascending guilds) lent.files.items n p → HeadIsRead (left p.source) p.script head
          → (e : Ending (Result (Unit {0}) ScriptFault)) → PartSends left source_faults p d e → SendsOrStops (ascending guilds) (tale head (file_of p)) (new_passes posts n) e d.passes.items
      sent n p d head is read (Ran result) h =
          let it = h.0 head read in
          let by : SendsFile (ascending guilds) (left d.source) (head ++ it.0) (new_passes posts n) it.1 result =
          subst (λ (xs : List Sender). SendsFile (ascending guilds) (left d.source) (head ++ it.0) xs it.1 result) is.passes_are
          (subst (λ (gs : List ℕ). SendsFile gs (left d.source) (head ++ it.0) p.passes.items it.1 result) is.index_is it.3) in
          (it.0, left d.source, it.1, it.2, by, it.4)
      sent n p d head is read Stopped h = h.1 ∙ ap (map after_end) is.passes_are

      pub one_script : (n : ℕ) (p : FilePart S R) (d : FileDone S) → IsScript posts (ascending guilds) lent.files.items n p → FileGives left source_faults p d → FileEnds told posts n (file_end d)
      one_script n p d is gives =
          let found = head_of n p is in
          record {
            file = tale found.0 (file_of p);
            file_is = found.1.0;
            sends = sent n p d found.0 is found.1.1.read d.ending gives.sends;
          }
