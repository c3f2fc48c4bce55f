use Rattle.load_client.proofs.load_client.LoadClient.run.Given as goal

-- the watcher begins with what the client has
abbrev pub ghosts-run_from : goal.ghosts-run_from
ghosts-run_from g a = record { seat = a.load_client.seat; goal = a.load_client.goal }
