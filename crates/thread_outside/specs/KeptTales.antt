-- internal: cited by private functions only. What is kept of what a link gave and was sent.
use Rattle.std.specs.Prelude.{List}
use Rattle.gate_outside.specs.declared.sending.Sending.{Sending}
use Rattle.thread_outside.specs.declared.kept_tale.Told.{Told}
use Rattle.thread_outside.specs.declared.kept_tale.Told.TheVariants.{Lists, Passes}

abbrev pub gave_in : Told → List Sending
gave_in (Lists gave sent) = gave.items
gave_in (Passes takes puts) = takes.me.view.client.taken

abbrev pub sent_in : Told → List Sending
sent_in (Lists gave sent) = sent.items
sent_in (Passes takes puts) = puts.me.view.client.put
