-- The fields of the edits of channels and their overwrites.
use Rattle.std.specs.Prelude.{ℕ, List, [], ◌∷◌, Result, Ok, codes}
use Rattle.serde_json.specs.Data.{Data, boolean, string}
use Rattle.json_view.specs.Fields.{and_then}
use Rattle.guild_model.specs.Numbers.{channel_kind_number, overwrite_kind_number}
use Rattle.channel_edit.specs.declared.ChannelEdit.{ChannelEdit}
use Rattle.channel_edit.specs.declared.ChannelEdit.TheVariants as edit
use Rattle.channel_edit.specs.declared.channel_create.ChannelCreate.{ChannelCreate}
use Rattle.channel_edit.specs.declared.channel_update.ChannelUpdate.{ChannelUpdate}
use Rattle.channel_edit.specs.declared.overwrite_set.OverwriteSet.{OverwriteSet}
use Rattle.channel_edit.specs.declared.overwrite_delete.OverwriteDelete.{OverwriteDelete}
use Rattle.edit_fields.specs.declared.fault.LineFault.{LineFault}
use Rattle.edit_fields.specs.declared.names.ChannelEditName.{ChannelEditName}
use Rattle.edit_fields.specs.declared.names.ChannelEditName.TheVariants as named
use Rattle.edit_fields.specs.Fields.{text_at, id_at, flag_at, mask_at, position_at, kind_at, overwrite_kind_at, nullable_id_at}
use Rattle.edit_fields.specs.Members.{count, id_data, nullable}

-- ---- reading

abbrev pub channel_create_from : Data → Result ChannelCreate LineFault
channel_create_from d =
    and_then (id_at (codes "channel") d) (λ channel.
    and_then (kind_at (codes "type") d) (λ kind.
    and_then (text_at (codes "name") d) (λ name.
    and_then (nullable_id_at (codes "parent") d) (λ parent.
    and_then (position_at (codes "position") d) (λ position.
    and_then (flag_at (codes "sync") d) (λ sync.
    Ok (record {
      channel = channel;
      kind = kind;
      name = name;
      parent = parent;
      position = position;
      sync = sync;
    })))))))

abbrev pub channel_update_from : Data → Result ChannelUpdate LineFault
channel_update_from d =
    and_then (id_at (codes "channel") d) (λ channel.
    and_then (text_at (codes "name") d) (λ name.
    and_then (nullable_id_at (codes "parent") d) (λ parent.
    and_then (position_at (codes "position") d) (λ position.
    Ok (record { channel = channel; name = name; parent = parent; position = position })))))

abbrev pub overwrite_set_from : Data → Result OverwriteSet LineFault
overwrite_set_from d =
    and_then (id_at (codes "channel") d) (λ channel.
    and_then (id_at (codes "id") d) (λ id.
    and_then (overwrite_kind_at (codes "type") d) (λ kind.
    and_then (mask_at (codes "allow") d) (λ allow.
    and_then (mask_at (codes "deny") d) (λ deny.
    Ok (record { channel = channel; id = id; kind = kind; allow = allow; deny = deny }))))))

abbrev pub overwrite_delete_from : Data → Result OverwriteDelete LineFault
overwrite_delete_from d =
    and_then (id_at (codes "channel") d) (λ channel.
    and_then (id_at (codes "id") d) (λ id.
    and_then (overwrite_kind_at (codes "type") d) (λ kind.
    Ok (record { channel = channel; id = id; kind = kind }))))

abbrev pub channel_edit_from : ChannelEditName → Data → Result ChannelEdit LineFault
channel_edit_from named.ChannelCreate d =
    and_then (channel_create_from d) (λ e. Ok (edit.ChannelCreate e))
channel_edit_from named.ChannelUpdate d =
    and_then (channel_update_from d) (λ e. Ok (edit.ChannelUpdate e))
channel_edit_from named.ChannelDelete d =
    and_then (id_at (codes "channel") d) (λ channel. Ok (edit.ChannelDelete channel))
channel_edit_from named.OverwriteSet d =
    and_then (overwrite_set_from d) (λ e. Ok (edit.OverwriteSet e))
channel_edit_from named.OverwriteDelete d =
    and_then (overwrite_delete_from d) (λ e. Ok (edit.OverwriteDelete e))

-- ---- writing

abbrev pub channel_edit_name : ChannelEdit → ChannelEditName
channel_edit_name (edit.ChannelCreate e) = named.ChannelCreate
channel_edit_name (edit.ChannelUpdate e) = named.ChannelUpdate
channel_edit_name (edit.ChannelDelete channel) = named.ChannelDelete
channel_edit_name (edit.OverwriteSet e) = named.OverwriteSet
channel_edit_name (edit.OverwriteDelete e) = named.OverwriteDelete

abbrev pub channel_create_fields : ChannelCreate → List (List ℕ × Data)
channel_create_fields e =
    (codes "channel", id_data e.channel) ∷ (codes "type", count (channel_kind_number e.kind))
    ∷ (codes "name", string e.name) ∷ (codes "parent", nullable id_data e.parent)
    ∷ (codes "position", count e.position) ∷ (codes "sync", boolean e.sync) ∷ []

abbrev pub channel_update_fields : ChannelUpdate → List (List ℕ × Data)
channel_update_fields e =
    (codes "channel", id_data e.channel) ∷ (codes "name", string e.name)
    ∷ (codes "parent", nullable id_data e.parent) ∷ (codes "position", count e.position) ∷ []

abbrev pub overwrite_set_fields : OverwriteSet → List (List ℕ × Data)
overwrite_set_fields e =
    (codes "channel", id_data e.channel) ∷ (codes "id", id_data e.id)
    ∷ (codes "type", count (overwrite_kind_number e.kind))
    ∷ (codes "allow", id_data e.allow) ∷ (codes "deny", id_data e.deny) ∷ []

abbrev pub overwrite_delete_fields : OverwriteDelete → List (List ℕ × Data)
overwrite_delete_fields e =
    (codes "channel", id_data e.channel) ∷ (codes "id", id_data e.id)
    ∷ (codes "type", count (overwrite_kind_number e.kind)) ∷ []

abbrev pub channel_edit_fields : ChannelEdit → List (List ℕ × Data)
channel_edit_fields (edit.ChannelCreate e) = channel_create_fields e
channel_edit_fields (edit.ChannelUpdate e) = channel_update_fields e
channel_edit_fields (edit.ChannelDelete channel) = (codes "channel", id_data channel) ∷ []
channel_edit_fields (edit.OverwriteSet e) = overwrite_set_fields e
channel_edit_fields (edit.OverwriteDelete e) = overwrite_delete_fields e
