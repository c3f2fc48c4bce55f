use Rattle.std.proofs.Common.{sym, ◌∙◌}
use Rattle.std.proofs.lemmas.List.{length-map}
use Rattle.session_core.specs.Kept.{session_of}
use Rattle.session_core.proofs.Entries.{live-kept}
use Rattle.session_core.proofs.sessions.Sessions.len.Goals as goal

pub returns-clause-live : goal.returns-clause-live
returns-clause-live c =
    rw (← c.self.view_is, live-kept c.self.inside.sessions.entries) (c.len.ensures.len ∙ sym (length-map c.self.inside.sessions.entries session_of))
