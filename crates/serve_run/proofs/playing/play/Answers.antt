use Rattle.std.proofs.Common.{◌≡◌, ◌+◌, ◌∙◌, ◌++◌, true, [], length, map, flat_map, ap, sym, subst, arith}
use Rattle.std.proofs.lemmas.List.{length-append, length-map, nil_from_length}
use Rattle.std.specs.Vec.{vec_len}
use Rattle.gate_outside.specs.Causes.{Rose}
use Rattle.gate_outside.specs.Spawners.{Starts}
use Rattle.serve_parts.specs.ByKind.{parts_of}
use Rattle.serve_parts.specs.Kinds.{script_of}
use Rattle.serve_parts.specs.Parts.{ServeGives}
use Rattle.serve_run.specs.Faults.{first_fault}
use Rattle.serve_run.specs.Sorted.{file_end}
use Rattle.team_run.specs.Teams.{many_more}
use Rattle.gate_ends.proofs.Counts.{none_there, some_there}
use Rattle.serve_run.proofs.Assembled.{ends_so, shows_so}
use Rattle.serve_run.proofs.Counting.{two_actors, all_scripts, all_workers, many_parts, most_parts, returns_all, less_room, most_scripts, all_ended, fewer_started}
use Rattle.serve_run.proofs.Ranking.{may_have}
use Rattle.serve_run.proofs.playing.play.Goals as goal

pub add_parts-requires : goal.add_parts-requires
add_parts-requires g c =
    let from = c.requires.stage in
    let stage = c.args.ready.stage in
    let rooms = c.args.ready.rooms in
    let actors = two_actors from.0 from.1 from.2 from.3 stage from.5 in
    let scripts = all_scripts from.0 from.1 from.2 from.3 stage from.5 in
    let workers = all_workers from.0 from.1 from.2 from.3 stage from.5 in
    let none : length rooms.parts.items ≡ 0 = ap length c.requires.rooms.parts_none in
    record { room = omega (arith, actors, scripts, workers, from.4.files.1, from.4.doors.1, none, rooms.parts.ok.0, c.requires.rooms.parts_room) }

pub begin_all-started-requires-clause-room : goal.begin_all-started-requires-clause-room
begin_all-started-requires-clause-room g c =
    let from = c.requires.stage in
    let most = most_parts from.0 from.1 from.2 from.3 c.args.ready.stage from.5 from.4 c.args.ready.rooms.parts.items c.add_parts.new.parts.items c.add_parts.ensures c.requires.rooms.parts_none in
    omega (arith, most, c.add_parts.new.parts.ok.0, c.requires.started.1)

pub finish_all-dones-requires-clause-room : goal.finish_all-dones-requires-clause-room
finish_all-dones-requires-clause-room g c =
    let from = c.requires.stage in
    let most = most_parts from.0 from.1 from.2 from.3 c.args.ready.stage from.5 from.4 c.args.ready.rooms.parts.items c.add_parts.new.parts.items c.add_parts.ensures c.requires.rooms.parts_none in
    let begun = c.begin_all-started.result in
    let fewer = fewer_started g.T.Spawner.task_of c.add_parts.new.parts.items begun.started.items begun.back.items c.begin_all-started.ensures.parts in
    omega (arith, most, fewer, begun.started.ok.0, c.requires.rooms.dones_room)

pub add_back-requires : goal.add_back-requires
add_back-requires g c =
    let from = c.requires.stage in
    let most = most_parts from.0 from.1 from.2 from.3 c.args.ready.stage from.5 from.4 c.args.ready.rooms.parts.items c.add_parts.new.parts.items c.add_parts.ensures c.requires.rooms.parts_none in
    let begun = c.begin_all-started.result in
    let gives = ServeGives g.S.Source.left g.S.Source.faults g.D.Door.tale g.D.Door.faults g.C.Clock.tale in
    let all = all_ended g.T.Spawner.task_of gives c.add_parts.new.parts.items begun.started.items begun.back.items c.finish_all-dones.result.items c.begin_all-started.ensures.parts c.finish_all-dones.ensures.gives in
    less_room (length begun.back.items) 18 c.args.ready.rooms.ends (omega (arith, most, all)) c.requires.rooms.ends_room

pub add_all-requires : goal.add_all-requires
add_all-requires g c =
    let from = c.requires.stage in
    let most = most_parts from.0 from.1 from.2 from.3 c.args.ready.stage from.5 from.4 c.args.ready.rooms.parts.items c.add_parts.new.parts.items c.add_parts.ensures c.requires.rooms.parts_none in
    let begun = c.begin_all-started.result in
    let gives = ServeGives g.S.Source.left g.S.Source.faults g.D.Door.tale g.D.Door.faults g.C.Clock.tale in
    let dones = c.finish_all-dones.result.items in
    let all = all_ended g.T.Spawner.task_of gives c.add_parts.new.parts.items begun.started.items begun.back.items dones c.begin_all-started.ensures.parts c.finish_all-dones.ensures.gives in
    c.add_back.ensures.room (length dones) (less_room (length dones + length begun.back.items) 18 c.args.ready.rooms.ends (omega (arith, most, all)) c.requires.rooms.ends_room)

pub first_fault-fault-requires : goal.first_fault-fault-requires
first_fault-fault-requires g c =
    let from = c.requires.stage in
    let most = most_parts from.0 from.1 from.2 from.3 c.args.ready.stage from.5 from.4 c.args.ready.rooms.parts.items c.add_parts.new.parts.items c.add_parts.ensures c.requires.rooms.parts_none in
    let begun = c.begin_all-started.result in
    let gives = ServeGives g.S.Source.left g.S.Source.faults g.D.Door.tale g.D.Door.faults g.C.Clock.tale in
    let dones = c.finish_all-dones.result.items in
    let all = all_ended g.T.Spawner.task_of gives c.add_parts.new.parts.items begun.started.items begun.back.items dones c.begin_all-started.ensures.parts c.finish_all-dones.ensures.gives in
    let kept : length c.add_back.new.self.scripts.items ≡ 0 = ap (λ e. length e.scripts.items) c.add_back.ensures.same ∙ ap length c.requires.rooms.ends_none.scripts in
    let sorted = ap length c.add_all.ensures.scripts ∙ length-append c.add_back.new.self.scripts.items (map file_end (flat_map script_of dones)) in
    let same = length-map (flat_map script_of dones) file_end in
    let fewer = most_scripts dones in
    let shown = ap length c.deref-2.ensures.value in
    omega (arith, most, all, kept, sorted, same, fewer, shown)

-- all parts, in one list
parts_are : (g : _) (c : goal.After-drop-lines g) → c.add_parts.new.parts.items ≡ parts_of c.args.ready.stage.actors.items c.args.ready.stage.scripts.items c.args.ready.stage.workers.items
parts_are g c = c.add_parts.ensures ∙ ap (λ l. l ++ parts_of c.args.ready.stage.actors.items c.args.ready.stage.scripts.items c.args.ready.stage.workers.items) c.requires.rooms.parts_none

-- how many they are
many : (g : _) (c : goal.After-drop-lines g) → length c.add_parts.new.parts.items ≡ length c.args.ready.stage.actors.items + (length c.args.ready.stage.scripts.items + length c.args.ready.stage.workers.items)
many g c = ap length (parts_are g c) ∙ many_parts c.args.ready.stage.actors.items c.args.ready.stage.scripts.items c.args.ready.stage.workers.items

-- all were started if none came back
none_came : (g : _) (c : goal.After-drop-lines g) → c.is_empty-all.result ≡ true → c.begin_all-started.result.back.items ≡ []
none_came g c is =
    let back = c.begin_all-started.result.back in
    let none = none_there (vec_len back) (sym c.is_empty-all.ensures ∙ is) in
    nil_from_length back.items (omega (arith, none, back.ok.0))

pub returns-clause-starts : goal.returns-clause-starts
returns-clause-starts g c =
    let before = g.T.Spawner.starts c.args.team.now in
    let back = c.begin_all-started.result.back in
    record {
      late = λ none. ap (λ (s : Starts). s.late) c.finish_all-dones.ensures.starts ∙ c.begin_all-started.ensures.late none;
      asked = λ is. ap (λ (s : Starts). s.asked) c.finish_all-dones.ensures.starts ∙ c.begin_all-started.ensures.asked (none_came g c is) ∙ ap (λ n. many_more n before.asked) (many g c);
      sound = λ is. c.finish_all-dones.ensures.faults ∙ c.begin_all-started.ensures.sound (none_came g c is);
      rose = λ is_not.
          let some = some_there (vec_len back) (sym c.is_empty-all.ensures ∙ is_not) in
          subst (λ n. Rose (g.T.Spawner.faults c.args.team.now) n) (sym c.finish_all-dones.ensures.faults) (c.begin_all-started.ensures.rose (omega (arith, some, back.ok.0)));
    }

pub returns-clause-returned : goal.returns-clause-returned
returns-clause-returned g c = λ port bots guilds lent are is.
    returns_all port bots guilds lent c.args.ready.stage is g.S.Source.left g.S.Source.faults g.D.Door.tale g.D.Door.faults g.C.Clock.tale
    (map g.T.Spawner.task_of c.begin_all-started.result.started.items) c.begin_all-started.result.back.items c.finish_all-dones.result.items c.args.ready.rooms.ends c.add_back.new.self c.add_all.new.self
    are.clocks (sym (parts_are g c) ∙ c.begin_all-started.ensures.parts) c.finish_all-dones.ensures.gives c.requires.rooms.ends_none
    c.add_back.ensures.sources c.add_back.ensures.doors c.add_back.ensures.clocks c.add_all.ensures

pub returns-clause-may : goal.returns-clause-may
returns-clause-may g c = may_have c.is_empty-all.result c.deref.result.now c.deref-2.result.now c.deref-3.result.now c.first_fault-fault.result (sym c.first_fault-fault.ensures)

-- the first fault, by what was sorted
first : (g : _) (c : goal.After-drop-lines g) → first_fault c.is_empty-all.result c.add_all.new.self.actors.items c.add_all.new.self.scripts.items c.add_all.new.self.workers.items ≡ c.first_fault-fault.result
first g c =
    let all = c.is_empty-all.result in
    let sorted = c.add_all.new.self in
    ap (λ l. first_fault all l sorted.scripts.items sorted.workers.items) (sym c.deref.ensures.value)
    ∙ ap (λ l. first_fault all c.deref.result.now l sorted.workers.items) (sym c.deref-2.ensures.value)
    ∙ ap (λ l. first_fault all c.deref.result.now c.deref-2.result.now l) (sym c.deref-3.ensures.value) ∙ sym c.first_fault-fault.ensures

pub returns-clause-ends : goal.returns-clause-ends
returns-clause-ends g c = λ s of.
    ends_so g.S.Source.left g.S.Source.faults g.D.Door.tale g.D.Door.faults g.C.Clock.tale c.args.ready.stage
    (map g.T.Spawner.task_of c.begin_all-started.result.started.items) c.begin_all-started.result.back.items c.finish_all-dones.result.items (sym (parts_are g c) ∙ c.begin_all-started.ensures.parts)
    c.finish_all-dones.ensures.gives c.is_empty-all.result (none_came g c) c.args.ready.rooms.ends c.add_back.new.self c.add_all.new.self c.requires.rooms.ends_none c.add_back.ensures.same c.add_all.ensures
    c.first_fault-fault.result (first g c) s of

pub returns-clause-shows : goal.returns-clause-shows
returns-clause-shows g c = λ s of.
    shows_so g.S.Source.left g.S.Source.faults g.D.Door.tale g.D.Door.faults g.C.Clock.tale c.args.ready.stage
    (map g.T.Spawner.task_of c.begin_all-started.result.started.items) c.begin_all-started.result.back.items c.finish_all-dones.result.items (sym (parts_are g c) ∙ c.begin_all-started.ensures.parts)
    c.finish_all-dones.ensures.gives c.is_empty-all.result (none_came g c) c.args.ready.rooms.ends c.add_back.new.self c.add_all.new.self c.requires.rooms.ends_none c.add_back.ensures.same c.add_all.ensures
    c.first_fault-fault.result (first g c) s of
