-- What a house lends to a service, by how far it came.
use Rattle.std.proofs.Common.{◌≡◌, ℕ, ◌+◌, ◌-◌, ◌<◌, ◌≤◌, List, [], ◌∷◌, ◌++◌, length, map, replicate, min, nat_lt, All, Result, Ok, Err, refl, sym, ap, subst, ◌∙◌, arith}
use Rattle.std.specs.List.{AllZip}
use Rattle.std.specs.declared.option.Option.{Option as Known}
use Rattle.std.proofs.lemmas.Bool.{lt-ltb, le-ltb}
use Rattle.std.proofs.lemmas.List.{length-map, take_all}
use Rattle.std.proofs.lemmas.List.FromFn.{length-map-range_with_len}
use Rattle.gate_outside.specs.declared.asked.Asked.{Asked}
use Rattle.gate_outside.specs.declared.asked.Asked.TheVariants as asked
use Rattle.gate_outside.specs.declared.faults.Fault.{Fault}
use Rattle.gate_outside.specs.declared.faults.Fault.TheVariants.{Failed, Memory}
use Rattle.gate_outside.specs.Causes.{Rose, FaultHasCause}
use Rattle.gate_outside.specs.Clocks.{ClockTale, IsNewClock}
use Rattle.gate_outside.specs.Doors.{DoorTale}
use Rattle.gate_outside.specs.Houses.{HouseTale}
use Rattle.house_loans.specs.Clocks.{AsksClocks}
use Rattle.house_loans.specs.Doors.{LendsDoors, doors_from}
use Rattle.house_loans.specs.Loans.{AsksInOrder}
use Rattle.house_loans.specs.Sources.{IsOwnSource, LendsSources}
use Rattle.serve_run.specs.declared.ends.Returned.{Returned}
use Rattle.serve_run.specs.declared.fault.ServeFault.{ServeFault}
use Rattle.serve_run.specs.declared.fault.ServeFault.TheVariants as fault
use Rattle.serve_run.specs.Loans.{AreFirst, asks_for, refusal}
use Rattle.serve_run.specs.Parts.{LendsParts, loans_of, refused_by}
use Rattle.serve_run.proofs.Asked.{U, asks_on, asks_end, clocks_given, clocks_refused}

-- what holds of what a function makes of each place
zip_mapped : {A B C : Type 0} (R : B → C → Type 0) (f : A → B) (xs : List A) (ys : List C) → AllZip (λ x y. R (f x) y) xs ys → AllZip R (map f xs) ys
zip_mapped R f [] [] h = tt
zip_mapped R f [] (y ∷ ys) h = absurd h
zip_mapped R f (x ∷ xs) [] h = absurd h
zip_mapped R f (x ∷ xs) (y ∷ ys) h = (h.0, zip_mapped R f xs ys h.1)

abbrev answer : ServeFault → Result U ServeFault
answer f = Err f

-- the fault of a source is that of the first kind, and that of a door of the second
of_source : (f : Fault) (n files : ℕ) → n < files → refused_by f fault.Read ≡ refusal f (nat_lt n files)
of_source Failed n files less = ap (λ b. refusal Failed b) (sym (lt-ltb n files less))
of_source Memory n files less = refl

of_door : (f : Fault) (n files : ℕ) → files ≤ n → refused_by f fault.Door ≡ refusal f (nat_lt n files)
of_door Failed n files past = ap (λ b. refusal Failed b) (sym (le-ltb n files past))
of_door Memory n files past = refl

-- the count rose, if the fault is that of the kind
rose_by : (kind : ServeFault) (a b : ℕ) (f : Fault) → FaultHasCause {T = U} a b (Err f) → (kind ≡ fault.Memory → ⊥) → answer (refused_by f kind) ≡ answer kind → Rose a b
rose_by kind a b Failed cause other is = cause.failed refl
rose_by kind a b Memory cause other is = absurd (other cc)

not_by : (kind answered : ServeFault) (f : Fault) → (kind ≡ answered → ⊥) → (fault.Memory ≡ answered → ⊥) → answer (refused_by f kind) ≡ answer answered → ⊥
not_by kind answered Failed not_kind not_memory is = not_kind cc
not_by kind answered Memory not_kind not_memory is = not_memory cc

module _ {S D C : Type 0} (left : S → Known (List ℕ)) (source_faults : S → ℕ) (door_tale : D → DoorTale) (door_faults : D → ℕ) (clock_tale : C → ClockTale)
    (port workers accepts : ℕ) (files : List (List ℕ)) (old : HouseTale) (p : Returned S D C) where
  abbrev Lends : HouseTale → Result U ServeFault → Type 0
  Lends lent result = LendsParts left source_faults door_tale door_faults clock_tale port workers accepts files old lent p result

  abbrev sources : List Asked
  sources = map asked.Source files

  abbrev doors : List Asked
  doors = doors_from port workers accepts

  abbrev clocks : List Asked
  clocks = replicate workers asked.Clock

  counts : (n a b c : ℕ) → length p.sources.items ≡ a → length p.doors.items ≡ b → length p.clocks.items ≡ c
      → a ≡ min n (length files) → b ≡ min (n - length files) workers → c ≡ n - (length files + workers) → AreFirst n workers (length files) (loans_of left source_faults door_tale door_faults clock_tale p)
  counts n a b c sources_are doors_are clocks_are first second third = record {
    sources = length-map p.sources.items _ ∙ (sources_are ∙ first);
    doors = length-map p.doors.items _ ∙ (doors_are ∙ second);
    clocks = length-map p.clocks.items clock_tale ∙ (clocks_are ∙ third);
  }

  -- a source was not given
  pub no_source : (now : HouseTale) (f : Fault) → LendsSources left source_faults files old now p.sources.items (Err f) → p.doors.items ≡ [] → p.clocks.items ≡ [] → Lends now (Err (refused_by f fault.Read))
  no_source now f lends no_doors no_clocks =
      let n = length p.sources.items in
      let less : n < length files = omega (arith, lends.lends.fewer, length-map files asked.Source) in
      record {
        many = n;
        given = Err f;
        asks = asks_end sources (doors ++ clocks) n old now f lends.lends;
        first = counts n n 0 0 refl (ap length no_doors) (ap length no_clocks) (grind (arith, less)) (grind (arith, less)) (omega (arith, less));
        each = tt;
        sound = tt;
        refused = ap Err (of_source f n (length files) less);
        read = rose_by fault.Read old.source_faults now.source_faults f lends.cause (λ is. absurd cc);
        door = λ is. absurd (not_by fault.Read fault.Door f (λ is. absurd cc) (λ is. absurd cc) is);
      }

  module _ (with_sources : HouseTale) (lends : LendsSources left source_faults files old with_sources p.sources.items (Ok (tt {0}))) where
    each_file : length p.sources.items ≡ length files
    each_file = lends.lends.each ∙ length-map files asked.Source

    -- a door was not given
    pub no_door : (now : HouseTale) (f : Fault) → LendsDoors door_tale door_faults port workers accepts with_sources now p.doors.items (Err f) → p.clocks.items ≡ [] → Lends now (Err (refused_by f fault.Door))
    no_door now f lends_doors no_clocks =
        let n = length p.sources.items in
        let m = length p.doors.items in
        let less : m < workers = omega (arith, lends_doors.lends.fewer, length-map-range_with_len (λ at. asked.Door at accepts) port workers) in
        record {
          many = n + m;
          given = Err f;
          asks = asks_on sources (doors ++ clocks) n m old with_sources now (Err f) lends.lends (asks_end doors clocks m with_sources now f lends_doors.lends);
          first = counts (n + m) n m 0 refl refl (ap length no_clocks) (grind (arith, each_file)) (grind (arith, each_file, less)) (omega (arith, each_file, less));
          each = tt;
          sound = tt;
          refused = ap Err (of_door f (n + m) (length files) (omega (arith, each_file)));
          read = λ is. absurd (not_by fault.Door fault.Read f (λ is. absurd cc) (λ is. absurd cc) is);
          door = λ is. subst (λ count. Rose count now.door_faults) lends.door_faults (rose_by fault.Door with_sources.door_faults now.door_faults f lends_doors.cause (λ is. absurd cc) is);
        }

    module _ (with_doors : HouseTale) (lends_doors : LendsDoors door_tale door_faults port workers accepts with_sources with_doors p.doors.items (Ok (tt {0}))) (now : HouseTale) (asks : AsksClocks (length p.clocks.items) with_doors now) where
      each_door : length p.doors.items ≡ workers
      each_door = lends_doors.lends.each ∙ length-map-range_with_len (λ at. asked.Door at accepts) port workers

      abbrev many_lent : ℕ
      many_lent = length p.sources.items + (length p.doors.items + length p.clocks.items)

      all_counts : length p.clocks.items ≤ workers → AreFirst many_lent workers (length files) (loans_of left source_faults door_tale door_faults clock_tale p)
      all_counts within = counts many_lent (length p.sources.items) (length p.doors.items) (length p.clocks.items) refl refl refl
          (grind (arith, each_file)) (grind (arith, each_file, each_door)) (omega (arith, each_file, each_door))

      all_asks : (r : Result U Fault) → AsksInOrder {T = U} clocks (length p.clocks.items) with_doors now r → AsksInOrder {T = U} (asks_for port workers accepts files) many_lent old now r
      all_asks r last =
          asks_on sources (doors ++ clocks) (length p.sources.items) (length p.doors.items + length p.clocks.items) old with_sources now r lends.lends
          (asks_on doors clocks (length p.doors.items) (length p.clocks.items) with_sources with_doors now r lends_doors.lends last)

      -- memory ran out for a clock
      pub no_clock : length p.clocks.items < workers → Lends now (Err fault.Memory)
      no_clock less = record {
        many = many_lent;
        given = Err Memory;
        asks = all_asks (Err Memory) (clocks_refused workers (length p.clocks.items) with_doors now asks less);
        first = all_counts (omega (arith, less));
        each = tt;
        sound = tt;
        refused = refl;
        read = λ is. absurd cc;
        door = λ is. absurd cc;
      }

      -- all were given
      pub all_lent : length p.clocks.items ≡ workers → All (λ c. IsNewClock (clock_tale c)) p.clocks.items → Lends now (Ok (tt {0}))
      all_lent each_clock fresh = record {
        many = many_lent;
        given = Ok tt;
        asks = all_asks (Ok tt) (clocks_given workers (length p.clocks.items) with_doors now asks each_clock);
        first = all_counts (omega (arith, each_clock));
        each = (
          refl,
          record {
            sources = zip_mapped (λ own source. IsOwnSource left source_faults own source) old.contents files p.sources.items
                (subst (λ names. AllZip (λ name source. IsOwnSource left source_faults (old.contents name) source) names p.sources.items) (take_all (length p.sources.items) files (omega (arith, each_file))) lends.own);
            doors = lends_doors.fresh;
            clocks = fresh;
          },
        );
        sound = (asks.source_faults ∙ (lends_doors.source_faults ∙ lends.cause.ok), asks.door_faults ∙ (lends_doors.cause.ok ∙ lends.door_faults));
        refused = tt;
        read = λ is. absurd cc;
        door = λ is. absurd cc;
      }
