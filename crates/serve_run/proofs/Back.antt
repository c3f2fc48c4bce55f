-- What goes back to a house, and what is said of a run then.
use Rattle.std.proofs.Common.{◌≡◌, ℕ, zero, suc, ◌+◌, ◌-◌, ◌<◌, ◌≤◌, List, [], ◌∷◌, ◌++◌, length, map, min, replicate, nat_lt, Result, Ok, Err, IfErr, OnOk, inl, inr, refl, sym, ap₂, subst, ◌∙◌, arith}
use Rattle.std.specs.List.{sum}
use Rattle.std.proofs.lemmas.List.{length-append, length-map, length-replicate}
use Rattle.std.proofs.lemmas.List.FromFn.{length-map-range_with_len}
use Rattle.std.proofs.lemmas.List.Sums.{sum_by-cons}
use Rattle.std.specs.declared.option.Option.{Option as Known}
use Rattle.gate_outside.specs.declared.asked.Asked.TheVariants as asked
use Rattle.gate_outside.specs.declared.faults.Fault.{Fault}
use Rattle.gate_outside.specs.declared.faults.Fault.TheVariants.{Memory}
use Rattle.gate_outside.specs.Causes.{Rose}
use Rattle.gate_outside.specs.Clocks.{ClockTale}
use Rattle.gate_outside.specs.Doors.{DoorTale}
use Rattle.gate_outside.specs.Houses.{HouseTale, CountsFaults}
use Rattle.house_loans.specs.Clocks.{PutsClocks}
use Rattle.house_loans.specs.Doors.{PutsDoors, doors_from, door_counts}
use Rattle.house_loans.specs.Loans.{GrowsByAll, AsksInOrder}
use Rattle.house_loans.specs.Sources.{PutsSources, source_counts}
use Rattle.house_loans.proofs.Growing.{grows_none, keeps_none, counts_none}
use Rattle.serve_run.specs.declared.ends.Returned.{Returned}
use Rattle.serve_run.specs.declared.fault.ServeFault.{ServeFault}
use Rattle.serve_run.specs.declared.fault.ServeFault.TheVariants as fault
use Rattle.serve_run.specs.Causes.{HasFailed, HasServeCause}
use Rattle.serve_run.specs.Loans.{Loans, AreFirst, PutsAll, asks_for, refusal}
use Rattle.serve_run.specs.Parts.{AreAlike, AreNew, LendsParts, loans_of}
use Rattle.serve_run.specs.Serving.{SinkTale, TeamTale, ServesFiles, ServesIfLent}
use Rattle.serve_run.proofs.Asked.{U}

-- all kinds are put back, one after another
pub all_back : (l : Loans) (a b c d : HouseTale) → PutsSources l.sources a b → PutsDoors l.doors b c → PutsClocks l.clocks c d → PutsAll l a d
all_back l a b c d sources doors clocks = record {
  sources = subst (λ new. GrowsByAll a.sources new l.sources) (sym (clocks.sources ∙ doors.sources)) sources.sources;
  doors = subst (λ old. GrowsByAll old d.doors l.doors) sources.doors (subst (λ new. GrowsByAll b.doors new l.doors) (sym clocks.doors) doors.doors);
  clocks = subst (λ old. GrowsByAll old d.clocks l.clocks) (doors.clocks ∙ sources.clocks) clocks.clocks;
  source_count = subst (λ new. CountsFaults a.source_faults new (sum (source_counts l.sources))) (sym (clocks.source_faults ∙ doors.source_faults)) sources.count;
  door_count = subst (λ old. CountsFaults old d.door_faults (sum (door_counts l.doors))) sources.door_faults
      (subst (λ new. CountsFaults b.door_faults new (sum (door_counts l.doors))) (sym clocks.door_faults) doors.count);
  contents = clocks.contents ∙ (doors.contents ∙ sources.contents);
  asks = clocks.asks ∙ (doors.asks ∙ sources.asks);
}

-- one of these counts stands above 0
some_above : (counts : List ℕ) → HasFailed counts → 0 < sum counts
some_above [] has = absurd has
some_above (n ∷ counts) (inl here) = omega (arith, here, sum_by-cons (λ n. n) n counts)
some_above (n ∷ counts) (inr later) = omega (arith, some_above counts later, sum_by-cons (λ n. n) n counts)

rose_later : (a b c : ℕ) → Rose a b → b ≤ c → Rose a c
rose_later a b c rose later = omega (arith, rose, later)

many_asks : (port workers accepts : ℕ) (files : List (List ℕ)) → length (asks_for port workers accepts files) ≡ length files + (workers + workers)
many_asks port workers accepts files =
    length-append (map asked.Source files) (doors_from port workers accepts ++ replicate workers asked.Clock)
    ∙ ap₂ (λ n m. n + m) (length-map files asked.Source)
    (length-append (doors_from port workers accepts) (replicate workers asked.Clock)
    ∙ ap₂ (λ n m. n + m) (length-map-range_with_len (λ at. asked.Door at accepts) port workers) (length-replicate workers asked.Clock))

-- ---- nothing was asked for

none_back : (h : HouseTale) → PutsAll (record { sources = []; doors = []; clocks = [] }) h h
none_back h = record {
  sources = grows_none h.sources;
  doors = grows_none h.doors;
  clocks = grows_none h.clocks;
  source_count = counts_none h.source_faults;
  door_count = counts_none h.door_faults;
  contents = refl;
  asks = refl;
}

module _ (R : Type 0) (port workers accepts : ℕ) (files : List (List ℕ)) (sink : SinkTale) (team : TeamTale) where
  -- memory ran out before anything was asked for
  pub ran_out : (h : HouseTale) → ServesFiles R port workers accepts files h h sink sink team team (Err fault.Memory)
  ran_out h = by_length (length (asks_for port workers accepts files)) refl
    where
      by_length : (n : ℕ) → length (asks_for port workers accepts files) ≡ n → ServesFiles R port workers accepts files h h sink sink team team (Err fault.Memory)
      by_length zero none = record {
        many = 0;
        given = Ok tt;
        back = record { sources = []; doors = []; clocks = [] };
        lends = record {
          lent = h;
          asks = record { each = sym none; fewer = tt; asks = grows_none h.asks; parts = keeps_none h };
          sound = (refl, refl);
          as_many = record { sources = grind arith; doors = grind arith; clocks = grind arith };
          puts = none_back h;
        };
        refused = tt;
        served = inl (refl, (refl, refl));
        read = λ is. absurd cc;
        door = λ is. absurd cc;
      }
      by_length (suc n) some = record {
        many = 0;
        given = Err Memory;
        back = record { sources = []; doors = []; clocks = [] };
        lends = record {
          lent = h;
          asks = record { each = tt; fewer = omega (arith, some); asks = grows_none h.asks; parts = keeps_none h };
          sound = tt;
          as_many = record { sources = grind arith; doors = grind arith; clocks = grind arith };
          puts = none_back h;
        };
        refused = (refl, (refl, refl));
        served = tt;
        read = λ is. absurd cc;
        door = λ is. absurd cc;
      }

-- ---- what was lent went back

abbrev ended_well : Result U ServeFault
ended_well = Ok tt

abbrev ended_by : ServeFault → Result U ServeFault
ended_by f = Err f

-- as many parts as were given
first_alike : {S D C : Type 0} (left : S → Known (List ℕ)) (source_faults : S → ℕ) (door_tale : D → DoorTale) (door_faults : D → ℕ) (clock_tale : C → ClockTale)
    (many workers files : ℕ) (p back : Returned S D C) → AreAlike p back
    → AreFirst many workers files (loans_of left source_faults door_tale door_faults clock_tale p) → AreFirst many workers files (loans_of left source_faults door_tale door_faults clock_tale back)
first_alike left source_faults door_tale door_faults clock_tale many workers files p back alike first = record {
  sources = length-map back.sources.items _ ∙ (alike.sources ∙ (sym (length-map p.sources.items _) ∙ first.sources));
  doors = length-map back.doors.items _ ∙ (alike.doors ∙ (sym (length-map p.doors.items _) ∙ first.doors));
  clocks = length-map back.clocks.items clock_tale ∙ (alike.clocks ∙ (sym (length-map p.clocks.items clock_tale) ∙ first.clocks));
}

module _ {S D C : Type 0} (left : S → Known (List ℕ)) (source_faults : S → ℕ) (door_tale : D → DoorTale) (door_faults : D → ℕ) (clock_tale : C → ClockTale)
    (R : Type 0) (port workers accepts : ℕ) (files : List (List ℕ)) (old lent new : HouseTale) (p : Returned S D C) where
  abbrev Lent : Result U ServeFault → Type 0
  Lent result = LendsParts left source_faults door_tale door_faults clock_tale port workers accepts files old lent p result

  abbrev loans : Returned S D C → Loans
  loans p = loans_of left source_faults door_tale door_faults clock_tale p

  -- how much was lent, if all was
  pub counts_lent : Lent (Ok (tt {0})) → (length p.sources.items ≡ length files) × ((length p.doors.items ≡ workers) × (length p.clocks.items ≡ workers))
  counts_lent lends = by_given lends.given refl
    where
      by_given : (given : Result U Fault) → lends.given ≡ given → (length p.sources.items ≡ length files) × ((length p.doors.items ≡ workers) × (length p.clocks.items ≡ workers))
      by_given (Err why) is =
          let bad : ended_well ≡ Err (refusal why (nat_lt lends.many (length files))) = subst (λ r. IfErr r (λ fault. ended_well ≡ Err (refusal fault (nat_lt lends.many (length files))))) is lends.refused in
          absurd cc
      by_given (Ok u) is =
          let many : lends.many ≡ length (asks_for port workers accepts files) = subst (λ r. OnOk r (lends.many ≡ length (asks_for port workers accepts files))) is lends.asks.each in
          let all : lends.many ≡ length files + (workers + workers) = many ∙ many_asks port workers accepts files in
          let sources : length p.sources.items ≡ min lends.many (length files) = sym (length-map p.sources.items _) ∙ lends.first.sources in
          let doors : length p.doors.items ≡ min (lends.many - length files) workers = sym (length-map p.doors.items _) ∙ lends.first.doors in
          let clocks : length p.clocks.items ≡ lends.many - (length files + workers) = sym (length-map p.clocks.items clock_tale) ∙ lends.first.clocks in
          (grind (arith, sources, all), (grind (arith, doors, all), omega (arith, clocks, all)))

  -- not all was lent
  pub was_refused : (sink : SinkTale) (team : TeamTale) (f : ServeFault) → Lent (Err f) → PutsAll (loans p) lent new → ServesFiles R port workers accepts files old new sink sink team team (Err f)
  was_refused sink team f lends puts = by_given lends.given refl
    where
      by_given : (given : Result U Fault) → lends.given ≡ given → ServesFiles R port workers accepts files old new sink sink team team (Err f)
      by_given (Ok u) is =
          let each = subst (λ r. OnOk r ((ended_by f ≡ Ok tt) × AreNew left source_faults door_tale door_faults clock_tale accepts (map old.contents files) p)) is lends.each in
          let bad : ended_by f ≡ Ok tt = each.0 in
          absurd cc
      by_given (Err why) is = record {
        many = lends.many;
        given = Err why;
        back = loans p;
        lends = record {
          lent = lent;
          asks = subst (λ r. AsksInOrder {T = U} (asks_for port workers accepts files) lends.many old lent r) is lends.asks;
          sound = tt;
          as_many = lends.first;
          puts = puts;
        };
        refused = (subst (λ r. IfErr r (λ fault. ended_by f ≡ Err (refusal fault (nat_lt lends.many (length files))))) is lends.refused, (refl, refl));
        served = tt;
        read = λ is. rose_later old.source_faults lent.source_faults new.source_faults (lends.read is) puts.source_count.later;
        door = λ is. rose_later old.door_faults lent.door_faults new.door_faults (lends.door is) puts.door_count.later;
      }

  module _ (back : Returned S D C) (sink0 sink1 : SinkTale) (team0 team1 : TeamTale) (puts : PutsAll (loans back) lent new) where
    abbrev IfLent : Result U ServeFault → Type 0
    IfLent ended = ServesIfLent R port workers accepts sink0 sink1 team0 team1 (map old.contents files) (loans back) ended

    -- the fault of a source or a door shows at what goes back
    read_shows : lent.source_faults ≡ old.source_faults → (ended : Result U ServeFault) → IfLent ended → ended ≡ Err fault.Read → Rose old.source_faults new.source_faults
    read_shows same ended (inl none) is = absurd cc
    read_shows same ended (inr served) is =
        let cause = subst (λ r. HasServeCause R served.service team0.faults team1.faults sink0.faults sink1.faults (source_counts (loans back).sources) (door_counts (loans back).doors) r) is served.cause in
        subst (λ n. Rose n new.source_faults) same (puts.source_count.faulty (some_above (source_counts (loans back).sources) cause.1))

    door_shows : lent.door_faults ≡ old.door_faults → (ended : Result U ServeFault) → IfLent ended → ended ≡ Err fault.Door → Rose old.door_faults new.door_faults
    door_shows same ended (inl none) is = absurd cc
    door_shows same ended (inr served) is =
        let cause = subst (λ r. HasServeCause R served.service team0.faults team1.faults sink0.faults sink1.faults (source_counts (loans back).sources) (door_counts (loans back).doors) r) is served.cause in
        subst (λ n. Rose n new.door_faults) same (puts.door_count.faulty (some_above (door_counts (loans back).doors) cause.1))

    -- all was lent
    pub was_lent : (ended : Result U ServeFault) → Lent (Ok (tt {0})) → AreAlike p back → (AreNew left source_faults door_tale door_faults clock_tale accepts (map old.contents files) p → IfLent ended)
        → ServesFiles R port workers accepts files old new sink0 sink1 team0 team1 ended
    was_lent ended lends alike serves = by_given lends.given refl
      where
        by_given : (given : Result U Fault) → lends.given ≡ given → ServesFiles R port workers accepts files old new sink0 sink1 team0 team1 ended
        by_given (Err why) is =
            let bad : ended_well ≡ Err (refusal why (nat_lt lends.many (length files))) = subst (λ r. IfErr r (λ fault. ended_well ≡ Err (refusal fault (nat_lt lends.many (length files))))) is lends.refused in
            absurd cc
        by_given (Ok u) is =
            let each = subst (λ r. OnOk r ((ended_well ≡ Ok tt) × AreNew left source_faults door_tale door_faults clock_tale accepts (map old.contents files) p)) is lends.each in
            let sound = subst (λ r. OnOk r ((lent.source_faults ≡ old.source_faults) × (lent.door_faults ≡ old.door_faults))) is lends.sound in
            let served = serves each.1 in
            record {
              many = lends.many;
              given = Ok u;
              back = loans back;
              lends = record {
                lent = lent;
                asks = subst (λ r. AsksInOrder {T = U} (asks_for port workers accepts files) lends.many old lent r) is lends.asks;
                sound = sound;
                as_many = first_alike left source_faults door_tale door_faults clock_tale lends.many workers (length files) p back alike lends.first;
                puts = puts;
              };
              refused = tt;
              served = served;
              read = read_shows sound.0 ended served;
              door = door_shows sound.1 ended served;
            }
