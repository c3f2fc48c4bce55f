use Rattle.file_script.proofs.sending.send_file.Goals as goal

pub returns-clause-sends : goal.returns-clause-sends
returns-clause-sends g c bytes read =
    let sends = c.send_edits-sent.ensures.sends bytes read in
    (sends.0, c.send_edits-sent.new.passes.items, sends.1, sends.2, c.end_all.ensures)
