-- Guild Resource, Guild Member Object.
use Rattle.std.specs.Prelude.{ℕ, codes, Option, option_map, Result, Ok, IfSome}
use Rattle.serde_json.specs.Data.{Data, string, object, member, no_members}
use Rattle.dispatch_types.specs.declared.members.MemberObject.{MemberObject}
use Rattle.object_json.specs.Kinds.{digits, time, list, or_null, member_if}
use Rattle.object_json.specs.User.{user_data}
use Rattle.json_view.specs.Fields.{and_then}
use Rattle.object_json.specs.declared.fault.ReadFault.{ReadFault}
use Rattle.object_json.specs.Reading.{time_from, time_at, text_from, id_from, nullable_at, list_at, value_at}
use Rattle.object_json.specs.User.{user_from, UserFits}
use Rattle.object_json.specs.Fits.{IsId, IsMoment, Each}

-- the guild is named where the member is a dispatch of its own
abbrev pub member_data : Option ℕ → MemberObject → Data
member_data guild m =
    object (member (codes "communication_disabled_until") (or_null time m.timeout)
    (member_if (codes "guild_id") (option_map digits guild)
    (member (codes "joined_at") (time m.joined)
    (member (codes "nick") (or_null string m.nick)
    (member (codes "roles") (list digits m.roles)
    (member (codes "user") (user_data m.user)
    no_members))))))

abbrev pub member_from : Data → Result MemberObject ReadFault
member_from d =
    and_then (nullable_at time_from (codes "communication_disabled_until") d) (λ timeout.
    and_then (time_at (codes "joined_at") d) (λ joined.
    and_then (nullable_at text_from (codes "nick") d) (λ nick.
    and_then (list_at id_from (codes "roles") d) (λ roles.
    and_then (value_at user_from (codes "user") d) (λ user.
    Ok (record { user = user; nick = nick; roles = roles; joined = joined; timeout = timeout }))))))

abbrev pub MemberFits : MemberObject → Type 0
MemberFits m = IfSome m.timeout IsMoment × IsMoment m.joined × Each IsId m.roles × UserFits m.user
