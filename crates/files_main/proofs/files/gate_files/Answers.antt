use Rattle.std.proofs.Common.{map, string_bytes}
use Rattle.serve_words.specs.Words.{command_of}
use Rattle.files_main.proofs.Unread.{out_of_memory}
use Rattle.files_main.proofs.files.gate_files.Goals as goal

-- out of memory while the words are read
pub returns-in_default-clause-does : goal.returns-in_default-clause-does
returns-in_default-clause-does g c =
    out_of_memory (g.H.Dial.house_tale c.args.house.now) (g.H.Out.Sink.got c.args.sink.now) (g.H.Out.Sink.waits c.args.sink.now) (g.H.Out.Sink.faults c.args.sink.now)
    (command_of (map string_bytes c.args.words.now))
