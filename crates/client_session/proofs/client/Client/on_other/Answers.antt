use Rattle.client_session.proofs.client.Client.on_other.Goals as goal

pub returns-in-Resumed : goal.returns-in-Resumed
returns-in-Resumed c = rw c.in-Resumed.is (c.on_dispatch.ensures c.args.now)
