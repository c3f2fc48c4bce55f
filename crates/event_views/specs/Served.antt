-- To whom an edit is told.
use Rattle.guild_model.specs.declared.member.Member.{Member}
use Rattle.guild_model.specs.Record.{Record}
use Rattle.dispatch_types.specs.declared.viewer.Viewer.{Viewer}

-- a viewer that is served after an edit, with the record after it and the viewer's own member in it
pub record Served : Type 0 where
  pub after : Record
  pub viewer : Viewer
  pub me : Member
