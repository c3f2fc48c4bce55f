use Rattle.std.proofs.Common.{◌≡◌, ◌+◌, ◌∙◌, ◌++◌, [], None, length, flat_map, ap, sym, subst, arith}
use Rattle.std.proofs.lemmas.List.{length-append, append-nil}
use Rattle.std.specs.List.{AllZip}
use Rattle.std.specs.Vec.{vec_len}
use Rattle.load_parts.proofs.ByKind.{by_kind}
use Rattle.load_parts.specs.Parts.{LoadGives}
use Rattle.team_run.specs.Teams.{many_more}
use Rattle.gate_ends.proofs.Counts.{none_there, some_there}
use Rattle.gate_ends.proofs.Zips.{many_zip}
use Rattle.load_run.specs.Ends.{clock_of_part}
use Rattle.load_run.specs.Faults.{first_fault}
use Rattle.load_parts.specs.ByKind.{parts_of}
use Rattle.load_run.specs.Sorted.{HasRoom}
use Rattle.load_run.proofs.Joining.{counts, less_room, none_back, has_joined, clocks_back, fault_cause}
use Rattle.load_run.proofs.playing.play.Goals as goal

pub add_parts-requires : goal.add_parts-requires
add_parts-requires g c =
    let stage = c.requires.stage in
    let k = counts stage.0 stage.1.0 c.args.stage stage.1.1 in
    let none : length c.args.rooms.parts.items ≡ 0 = ap length c.requires.rooms.parts_none in
    record { room = omega (arith, k.actors, k.scripts, k.workers, k.clients, none, c.args.rooms.parts.ok.0, c.requires.rooms.parts_room) }

pub run_parts-dones-requires-clause-room : goal.run_parts-dones-requires-clause-room
run_parts-dones-requires-clause-room g c =
    let stage = c.requires.stage in
    let k = counts stage.0 stage.1.0 c.args.stage stage.1.1 in
    let all = c.add_parts.ensures ∙ ap (λ l. l ++ parts_of c.args.stage.actors.items c.args.stage.scripts.items c.args.stage.workers.items c.args.stage.clients.items) c.requires.rooms.parts_none in
    let many : length c.add_parts.new.parts.items ≡ 21 = ap length all ∙ k.parts in
    (omega (arith, many, c.add_parts.new.parts.ok.0, c.requires.started.1), omega (arith, many, c.add_parts.new.parts.ok.0, c.requires.rooms.dones_room))

-- the parts that were started and those that came back
parts_are : (g : _) (c : goal.After-drop-word g) → parts_of c.args.stage.actors.items c.args.stage.scripts.items c.args.stage.workers.items c.args.stage.clients.items ≡ c.run_parts-dones.ensures.front ++ c.run_parts-dones.result.back.items
parts_are g c =
    let parts = parts_of c.args.stage.actors.items c.args.stage.scripts.items c.args.stage.workers.items c.args.stage.clients.items in
    sym (c.add_parts.ensures ∙ ap (λ l. l ++ parts) c.requires.rooms.parts_none) ∙ c.run_parts-dones.ensures.parts

pub add_back-requires : goal.add_back-requires
add_back-requires g c =
    let stage = c.requires.stage in
    let k = counts stage.0 stage.1.0 c.args.stage stage.1.1 in
    let parts = parts_of c.args.stage.actors.items c.args.stage.scripts.items c.args.stage.workers.items c.args.stage.clients.items in
    let front = c.run_parts-dones.ensures.front in
    let back = c.run_parts-dones.result.back.items in
    let are = sym (c.add_parts.ensures ∙ ap (λ l. l ++ parts) c.requires.rooms.parts_none) ∙ c.run_parts-dones.ensures.parts in
    let many : 21 ≡ length front + length back = sym k.parts ∙ ap length are ∙ length-append front back in
    less_room (length back) 21 c.args.rooms.ends (omega (arith, many)) c.requires.rooms.ends_room

pub add_all-requires : goal.add_all-requires
add_all-requires g c =
    let stage = c.requires.stage in
    let k = counts stage.0 stage.1.0 c.args.stage stage.1.1 in
    let parts = parts_of c.args.stage.actors.items c.args.stage.scripts.items c.args.stage.workers.items c.args.stage.clients.items in
    let front = c.run_parts-dones.ensures.front in
    let back = c.run_parts-dones.result.back.items in
    let dones = c.run_parts-dones.result.dones.items in
    let are = sym (c.add_parts.ensures ∙ ap (λ l. l ++ parts) c.requires.rooms.parts_none) ∙ c.run_parts-dones.ensures.parts in
    let many : 21 ≡ length front + length back = sym k.parts ∙ ap length are ∙ length-append front back in
    let same : length dones ≡ length front = many_zip (LoadGives g.C.Clock.tale) front dones c.run_parts-dones.ensures.gave in
    let all : 21 ≡ length dones + length back = omega (arith, many, same) in
    c.add_back.ensures.room (length dones) (subst (λ n. HasRoom n c.args.rooms.ends) all c.requires.rooms.ends_room)

pub returns-clause-clocks : goal.returns-clause-clocks
returns-clause-clocks g c =
    let stage = c.requires.stage in
    let k = counts stage.0 stage.1.0 c.args.stage stage.1.1 in
    let front = c.run_parts-dones.ensures.front in
    let back = c.run_parts-dones.result.back.items in
    clocks_back g.C.Clock.tale front back c.run_parts-dones.result.dones.items c.args.rooms.ends c.add_back.new.self c.add_all.new.self c.run_parts-dones.ensures.gave c.requires.rooms.ends_none c.add_back.ensures.clocks c.add_all.ensures
    ∙ ap (λ l. length (flat_map clock_of_part l)) (sym (parts_are g c)) ∙ k.clock

-- with no fault none came back
all_there : (g : _) (c : goal.After-drop-word g) → c.first_fault-fault.result ≡ None → c.run_parts-dones.result.back.items ≡ []
all_there g c none = none_back c.run_parts-dones.result.back.items c.deref.result.now c.is_empty.result (sym c.first_fault-fault.ensures ∙ none)
    (λ is. let none = none_there (vec_len c.run_parts-dones.result.back) (sym c.is_empty.ensures ∙ is) in omega (arith, none, c.run_parts-dones.result.back.ok.0))

pub returns-clause-ended : goal.returns-clause-ended
returns-clause-ended g c = λ seed clocks is none.
    let stage = c.args.stage in
    let front = c.run_parts-dones.ensures.front in
    let dones = c.run_parts-dones.result.dones.items in
    let whole = parts_are g c ∙ ap (λ l. front ++ l) (all_there g c none) ∙ append-nil front in
    let gave = subst (λ l. AllZip (LoadGives g.C.Clock.tale) l dones) (sym whole) c.run_parts-dones.ensures.gave in
    has_joined g.C.Clock.tale seed clocks stage is dones (by_kind g.C.Clock.tale stage.actors.items stage.scripts.items stage.workers.items stage.clients.items dones gave)
    c.args.rooms.ends c.add_back.new.self c.add_all.new.self c.requires.rooms.ends_none c.add_back.ensures.same c.add_all.ensures

pub returns-clause-cause : goal.returns-clause-cause
returns-clause-cause g c = λ seed clocks is f some sink.
    let dones = c.run_parts-dones.result.dones.items in
    let back = c.run_parts-dones.result.back.items in
    fault_cause g.C.Clock.tale seed clocks c.args.stage is c.run_parts-dones.ensures.front back dones c.is_empty.result f (g.S.Spawner.faults c.args.team.now) (g.S.Spawner.faults c.run_parts-dones.new.team) sink
    (parts_are g c) c.run_parts-dones.ensures.gave (ap (first_fault c.is_empty.result) (sym c.deref.ensures.value) ∙ sym c.first_fault-fault.ensures ∙ some)
    (λ is_not. let some = some_there (vec_len c.run_parts-dones.result.back) (sym c.is_empty.ensures ∙ is_not) in c.run_parts-dones.ensures.rose (omega (arith, some, c.run_parts-dones.result.back.ok.0)))

pub returns-clause-whole : goal.returns-clause-whole
returns-clause-whole g c = λ none.
    let stage = c.requires.stage in
    let k = counts stage.0 stage.1.0 c.args.stage stage.1.1 in
    let parts = parts_of c.args.stage.actors.items c.args.stage.scripts.items c.args.stage.workers.items c.args.stage.clients.items in
    let empty = all_there g c none in
    let many : length c.add_parts.new.parts.items ≡ 21 = ap length (c.add_parts.ensures ∙ ap (λ l. l ++ parts) c.requires.rooms.parts_none) ∙ k.parts in
    (c.run_parts-dones.ensures.sound empty, c.run_parts-dones.ensures.asked empty ∙ ap (λ n. many_more n (g.S.Spawner.starts c.args.team.now).asked) many)
