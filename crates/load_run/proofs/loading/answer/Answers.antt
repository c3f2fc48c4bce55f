use Rattle.load_run.proofs.loading.answer.Goals as goal

pub finish-requires-clause-senders : goal.finish-requires-clause-senders
finish-requires-clause-senders g c = (c.requires c.in-None.is).0

pub finish-requires-clause-clients : goal.finish-requires-clause-clients
finish-requires-clause-clients g c = (c.requires c.in-None.is).1
