-- internal: what is told by what was noted of the record before an edit; that it is what is told by that record is
-- proved.
use Rattle.std.specs.Prelude.{ℕ, List, ◌++◌, map, filter, flat_map, Bool, not, ◌&&◌}
use Rattle.collections.specs.ById.{has_id}
use Rattle.guild_model.specs.declared.channel.Channel.{Channel}
use Rattle.guild_model.specs.declared.member.Member.{Member}
use Rattle.guild_model.specs.Record.{Record, own_id, channel_id, voice_id}
use Rattle.guild_model.specs.Sight.{Standing, standing}
use Rattle.dispatch_types.specs.declared.viewer.Viewer.{Viewer}
use Rattle.dispatch_types.specs.declared.dispatch.Dispatch.{Dispatch}
use Rattle.channel_privacy.specs.declared.before.ShownBefore.{ShownBefore}
use Rattle.guild_model.specs.Shown.{is_shown, shown_channels, hidden_channels, shown_voices}
use Rattle.channel_privacy.specs.Withheld.{Showing, told_shown, lost, gained, is_sync, is_no_sync}

abbrev pub shown_before : Bool → Record → Member → ShownBefore
shown_before private s me = record {
  shown = shown_channels private s me;
  hidden = map channel_id (hidden_channels private s me);
  speaking = shown_voices private s me;
}

-- `private`: channels are withheld after the edit, of a viewer whose own member stands so
abbrev pub showing_by : ShownBefore → Bool → Standing → Showing
showing_by was private s = record {
  before = λ (id : ℕ). has_id channel_id id was.shown;
  after = is_shown private s;
  in_voice = λ (user : ℕ). has_id voice_id user was.speaking;
}

-- the rows, of the viewer's own member `me` in the record `t` after the edit
module _ (was : ShownBefore) (private : Bool) (t : Record) (me : Member) where
  abbrev pub lost_by : Channel → Bool
  lost_by c = has_id channel_id c.id t.channels && not (is_shown private (standing t me) c.id)

  abbrev pub gained_by : Channel → Bool
  gained_by c = has_id own_id c.id was.hidden && is_shown private (standing t me) c.id

  abbrev pub losses_by : Viewer → List Dispatch
  losses_by v = flat_map (lost t.id v) (filter lost_by was.shown)

  abbrev pub gains_by : Viewer → List Dispatch
  gains_by v = flat_map (gained t v) (filter gained_by t.channels)

  abbrev pub rows_by : List Dispatch → List Dispatch
  rows_by ds = flat_map (told_shown (showing_by was private (standing t me))) (filter is_no_sync ds)

  abbrev pub withheld_by : Viewer → List Dispatch → List Dispatch
  withheld_by v ds = rows_by ds ++ (losses_by v ++ (gains_by v ++ filter is_sync ds))
