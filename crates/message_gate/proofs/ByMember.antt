-- What a viewer is shown, by its own member.
use Rattle.std.proofs.Common.{◌≡◌, ℕ, Bool, true, false, Some, None, if◌then◌else◌, refl}
use Rattle.std.specs.Prelude.{◌&&◌}
use Rattle.collections.specs.ById.{find_id}
use Rattle.intent_set.specs.declared.kind.Kind.{Kind}
use Rattle.guild_model.specs.declared.member.Member.{Member}
use Rattle.guild_model.specs.Record.{Record, member_id}
use Rattle.guild_model.specs.Sight.{Standing, standing}
use Rattle.dispatch_types.specs.declared.viewer.Viewer.{Viewer}
use Rattle.dispatch_types.specs.Serves.{in_shard, served}
use Rattle.overwrite_eval.specs.Stands.{IsStandingOf}
use Rattle.message_gate.specs.Shows.{shows}

-- a served viewer's own member
pub served-member : (v : Viewer) (s : Record) (me : Member) → served v s ≡ Some me → find_id member_id v.user s.members ≡ Some me
served-member v s me is = by_test (s.opened && in_shard v.shard s.id) is
  where
    by_test : (b : Bool) → (if b then find_id member_id v.user s.members else None) ≡ Some me → find_id member_id v.user s.members ≡ Some me
    by_test true e = e
    by_test false e = absurd (cc)

-- the standing of a viewer's own member is its user's
pub stands_served : (s : Record) (v : Viewer) (me : Member) (st : Standing) → served v s ≡ Some me → st ≡ standing s me → IsStandingOf s v.user st
stands_served s v me st is same = record { me = me; found = served-member v s me is; is = same }

-- a viewer that is not served is shown nothing
pub unshown : (s : Record) (v : Viewer) (channel : ℕ) (kind : Kind) → served v s ≡ None → shows s v channel kind ≡ false
unfolding shows
unshown s v channel kind is = rw is refl
