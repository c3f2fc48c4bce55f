-- A client that holds a viewer's view of a guild that is available.
use Rattle.std.specs.Prelude.{◌≡◌, Some}
use Rattle.guild_model.specs.declared.member.Member.{Member}
use Rattle.guild_model.specs.Record.{Record}
use Rattle.dispatch_types.specs.declared.viewer.Viewer.{Viewer}
use Rattle.dispatch_types.specs.declared.view.GuildView.TheVariants.{Open}
use Rattle.dispatch_types.specs.Projection.{open_view}
use Rattle.dispatch_types.specs.Fold.{Held}

-- as the guild's record and the viewer's own member give it
pub record Has (s : Record) (v : Viewer) (me : Member) (h : Held) : Type 0 where
  pub bot : h.bot ≡ v.user
  pub view : h.view ≡ Some (Open (open_view s v.intents h.known me))
