-- A viewer's own member is its user's.
use Rattle.std.proofs.Common.{◌≡◌, Some, sym, subst}
use Rattle.collections.specs.ById.{find_id}
use Rattle.collections.proofs.Finds.{key-found}
use Rattle.guild_model.specs.declared.member.Member.{Member}
use Rattle.guild_model.specs.Record.{Record, member_id}
use Rattle.dispatch_types.specs.declared.viewer.Viewer.{Viewer}
use Rattle.dispatch_types.specs.Serves.{served}
use Rattle.message_gate.proofs.ByMember.{served-member}

pub own-user : (v : Viewer) (s : Record) (me : Member) → served v s ≡ Some me → me.user.id ≡ v.user
own-user v s me is = key-found member_id v.user s.members me (served-member v s me is)

pub own-member : (v : Viewer) (s : Record) (me : Member) → served v s ≡ Some me → find_id member_id me.user.id s.members ≡ Some me
own-member v s me is = subst (λ user. find_id member_id user s.members ≡ Some me) (sym (own-user v s me is)) (served-member v s me is)
