-- What is read of the dispatches that a client is sent, and what one of them makes of a thread.
use Rattle.std.specs.Prelude.{ℕ, Bool, Option, Some, None, if◌then◌else◌}
use Rattle.std.specs.Option.{option_or}
use Rattle.guild_model.specs.declared.thread.ThreadMember.{ThreadMember}
use Rattle.dispatch_types.specs.declared.view.ThreadView.{ThreadView}
use Rattle.dispatch_types.specs.declared.threads.ThreadObject.{ThreadObject}
use Rattle.dispatch_types.specs.declared.ready.Ready.{Ready as ReadyOf}
use Rattle.dispatch_types.specs.declared.dispatch.Dispatch.{Dispatch}
use Rattle.dispatch_types.specs.declared.dispatch.Dispatch.TheVariants.{Ready}

-- what READY says
abbrev pub ready_of : Dispatch → Option ReadyOf
ready_of (Ready ready) = Some ready
ready_of _ = None

-- the id of a listed thread
abbrev pub object_id : ThreadObject → ℕ
object_id o = o.id

-- a thread with another count, after the bot has joined or left it
abbrev pub membership_changed : Option ThreadMember → Bool → Option ℕ → ThreadView → ThreadView
membership_changed joined left count t = record t {
  mine = option_or joined (if left then None else t.mine);
  count = count;
}
