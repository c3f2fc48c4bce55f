-- Gateway Events, Ready.
use Rattle.std.specs.Prelude.{ℕ, ◌≤◌, codes, true, option_map, nat_lt, if◌then◌else◌, Result, Ok, Err, IfSome}
use Rattle.serde_json.specs.Data.{Data, boolean, string, object, array, item, no_items, member, no_members}
use Rattle.dispatch_types.specs.declared.ready.Ready.{Ready}
use Rattle.object_json.specs.Kinds.{digits, count, list, member_if}
use Rattle.object_json.specs.User.{user_data}
use Rattle.json_view.specs.Fields.{and_then}
use Rattle.object_json.specs.declared.fault.ReadFault.{ReadFault}
use Rattle.object_json.specs.User.{user_from, UserFits}
use Rattle.object_json.specs.Reading.{id_at, text_at, value_at, list_at, optional_at}
use Rattle.object_json.specs.Fits.{Each, IsId, IsWhole}
use Rattle.object_json.specs.declared.fault.ReadFault.TheVariants.{BadField}
use Rattle.std.specs.Option.{ok_or}
use Rattle.serde_json.specs.Data.{Items}
use Rattle.serde_json.specs.Find.{as_array}
use Rattle.json_view.specs.Fields.{whole}

-- the application has the user's id
abbrev pub application_data : ℕ → Data
application_data user =
    object (member (codes "flags") (count 0)
    (member (codes "id") (digits user)
    no_members))

-- Unavailable Guild Object
abbrev pub unavailable_data : ℕ → Data
unavailable_data guild =
    object (member (codes "id") (digits guild)
    (member (codes "unavailable") (boolean true)
    no_members))

abbrev pub shard_data : ℕ × ℕ → Data
shard_data shard = array (item (count shard.0) (item (count shard.1) no_items))

abbrev pub ready_data : Ready → Data
ready_data r =
    object (member (codes "application") (application_data r.user.id)
    (member (codes "guilds") (list unavailable_data r.guilds)
    (member (codes "resume_gateway_url") (string r.url)
    (member (codes "session_id") (string r.session)
    (member_if (codes "shard") (option_map shard_data r.shard)
    (member (codes "user") (user_data r.user)
    (member (codes "v") (count 10)
    no_members)))))))

-- ---- reading

abbrev pub unavailable_from : Data → Result ℕ ReadFault
unavailable_from d = id_at (codes "id") d

abbrev pub whole_from : Data → Result ℕ ReadFault
whole_from d = ok_or (whole d) BadField

abbrev pub shard_of : ℕ → ℕ → Result (ℕ × ℕ) ReadFault
shard_of id count = if nat_lt 0 count then Ok (id, count) else Err BadField

abbrev pub pair_from : Items → Result (ℕ × ℕ) ReadFault
pair_from no_items = Err BadField
pair_from (item a no_items) = Err BadField
pair_from (item a (item b no_items)) = and_then (whole_from a) (λ id. and_then (whole_from b) (λ count. shard_of id count))
pair_from (item a (item b (item c items))) = Err BadField

abbrev pub shard_from : Data → Result (ℕ × ℕ) ReadFault
shard_from d = and_then (ok_or (as_array d) BadField) pair_from

abbrev pub ShardFits : ℕ × ℕ → Type 0
ShardFits shard = IsWhole shard.0 × IsWhole shard.1 × (1 ≤ shard.1)

abbrev pub ready_from : Data → Result Ready ReadFault
ready_from d =
    and_then (list_at unavailable_from (codes "guilds") d) (λ guilds.
    and_then (text_at (codes "resume_gateway_url") d) (λ url.
    and_then (text_at (codes "session_id") d) (λ session.
    and_then (optional_at shard_from (codes "shard") d) (λ shard.
    and_then (value_at user_from (codes "user") d) (λ user.
    Ok (record { user = user; guilds = guilds; session = session; url = url; shard = shard }))))))

abbrev pub ReadyFits : Ready → Type 0
ReadyFits r = UserFits r.user × Each IsId r.guilds × IfSome r.shard ShardFits
