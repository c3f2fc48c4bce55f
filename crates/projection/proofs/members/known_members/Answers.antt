use Rattle.std.proofs.Common.{◌∙◌}
use Rattle.collections.proofs.Finds.{IsById-filter}
use Rattle.guild_model.specs.Record.{member_id}
use Rattle.dispatch_types.specs.Projection.{is_known}
use Rattle.projection.proofs.Known.{known-in_order}
use Rattle.projection.proofs.members.known_members.Goals as goal

pub from_ascending-requires : goal.from_ascending-requires
from_ascending-requires c =
    rw (c.in_ok-copies.ensures, c.as_slice-members.ensures.items)
    (IsById-filter member_id (is_known c.in_ok-users.users) c.args.members.now c.as_slice-members.ensures.ascending)

pub returns : goal.returns
returns c =
    let same = known-in_order c.args.known.now c.args.members.now c.as_slice-members.ensures.ascending in
    c.from_ascending.ensures ∙ (c.in_ok-copies.ensures ∙ rw (c.in_ok-users.ensures, c.in_ok-from_slice.ensures.items, c.as_slice-members.ensures.items) same)
