use denote.Param.Send.{IsSend, sendable}
use Rattle.load_parts.specs.contracts.load_part.LoadDone
use Rattle.load_parts.specs.contracts.load_part.LoadPart
use Rattle.load_parts.specs.contracts.part_threads.with_part_threads as contract
use Rattle.load_parts.proofs.Sends.{part_sends, done_sends}
use Rattle.load_parts.proofs.part_threads.with_part_threads.Goals as goal

pub with_threads-requires-send-D : goal.with_threads-requires-send-D
with_threads-requires-send-D g c κs within =
    let C = contract.C-row g.row.C g.row.R g.row.W g.row.W-Answer in
    let R = contract.R-row g.row.C g.row.R g.row.W g.row.W-Answer in
    let b = c.type_bounds in
    let goes : IsSend (LoadDone.the_row C R) = done_sends R b.send-R b.sync-R C b.send-C in
    search sendable depth 20

pub with_threads-requires-send-T : goal.with_threads-requires-send-T
with_threads-requires-send-T g c κs within =
    let C = contract.C-row g.row.C g.row.R g.row.W g.row.W-Answer in
    let R = contract.R-row g.row.C g.row.R g.row.W g.row.W-Answer in
    let b = c.type_bounds in
    let goes : IsSend (LoadPart.the_row C R) = part_sends R b.send-R b.sync-R C b.send-C in
    search sendable depth 20
