-- The dispatches by what was noted before an edit are those by the record before it.
use Rattle.std.proofs.Common.{◌≡◌, ℕ, false, ◌++◌, Option, Some, None, if◌then◌else◌, refl, ap, ◌∙◌, arith}
use Rattle.std.specs.Prelude.{◌==◌, option_map}
use Rattle.std.proofs.lemmas.Bool.Decides.{nat_tests}
use Rattle.collections.specs.ById.{find_id}
use Rattle.collections.proofs.Finds.{find-changed}
use Rattle.guild_model.specs.declared.member.Member.{Member}
use Rattle.guild_model.specs.declared.channel.Channel.{Channel}
use Rattle.guild_model.specs.Record.{Record, channel_id}
use Rattle.channel_edit.specs.declared.ChannelEdit.TheVariants as edit
use Rattle.channel_edit.specs.Channels.{with_channel_changed}
use Rattle.channel_edit.specs.ChannelEnd.{channel_deleted}
use Rattle.channel_edit.specs.OverwriteEdits.{overwrite_of, with_overwrite, without_overwrite}
use Rattle.dispatch_types.specs.declared.viewer.Viewer.{Viewer}
use Rattle.thread_sync.specs.Law.{ChangesChannel}
use Rattle.thread_sync.proofs.Enough.{one_sight_is_enough}
use Rattle.event_views.specs.Asked.{told_if}
use Rattle.channel_events.specs.Ends.{before_end, before_overwrites}
use Rattle.channel_events.specs.Dispatches.{updated, deleted, rights_changed}
use Rattle.channel_events.specs.ByNote.{ended_by_note, rights_by_note}
use Rattle.channel_events.specs.Law.{ChannelNoteIsEnough}

-- what ends with a deleted channel
end-noted : (s t : Record) (v : Viewer) (o : Option Channel) → ended_by_note t v (before_end s o) ≡ deleted s t v o
end-noted s t v None = refl
end-noted s t v (Some c) = refl

-- the sync after a change of overwrites
module _ (s : Record) (v : Viewer) (me : Member) (channel : ℕ) (f : Channel → Channel) (same : (c : Channel) → (f c).id ≡ c.id) where
  abbrev t : Record
  t = with_channel_changed s channel f

  flip : (a b : ℕ) → (a == b) ≡ false → (b == a) ≡ false
  flip a b e = grind (arith, nat_tests)

  alone : ChangesChannel s t channel
  alone = record {
    id = refl;
    owner = refl;
    roles = refl;
    others = λ other apart.
        find-changed channel_id channel f same other s.channels
        ∙ ap (λ here. if here then option_map f (find_id channel_id other s.channels) else find_id channel_id other s.channels) (flip other channel apart);
  }

  rights-noted : rights_by_note t v (before_overwrites s me channel) me channel ≡ rights_changed s me t me v channel
  rights-noted = ap (λ o. updated t v channel ++ told_if v o) (one_sight_is_enough s t me channel alone)

pub channel_note_is_enough : ChannelNoteIsEnough
channel_note_is_enough s (edit.ChannelCreate e) v me = refl
channel_note_is_enough s (edit.ChannelUpdate e) v me = refl
channel_note_is_enough s (edit.ChannelDelete channel) v me = end-noted s (channel_deleted s channel) v (find_id channel_id channel s.channels)
channel_note_is_enough s (edit.OverwriteSet e) v me = rights-noted s v me e.channel (with_overwrite e.kind (overwrite_of e)) (λ c. refl)
channel_note_is_enough s (edit.OverwriteDelete e) v me = rights-noted s v me e.channel (without_overwrite e.kind e.id) (λ c. refl)
