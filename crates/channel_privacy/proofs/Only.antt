-- The part of what a client holds of a guild that stands in some channels (Gateway Events, Guild Create).
use Rattle.std.specs.Prelude.{ℕ, Bool, filter}
use Rattle.guild_model.specs.declared.channel.Channel.{Channel}
use Rattle.guild_model.specs.declared.voice.Voice.{Voice}
use Rattle.dispatch_types.specs.declared.view.OpenView.{OpenView}
use Rattle.dispatch_types.specs.declared.view.ThreadView.{ThreadView}
use Rattle.dispatch_types.specs.Fold.{Held, on_open}

-- by which channels are shown: a channel, a voice state by its channel, a thread by its parent
module _ (shown : ℕ → Bool) where
  abbrev pub shows_channel : Channel → Bool
  shows_channel c = shown c.id

  abbrev pub shows_voice : Voice → Bool
  shows_voice x = shown x.channel

  abbrev pub shows_thread : ThreadView → Bool
  shows_thread t = shown t.parent

  -- these channels, with the voice states and the threads in them; all else as it is
  abbrev pub only : OpenView → OpenView
  only v = record v {
    channels = filter shows_channel v.channels;
    voices = filter shows_voice v.voices;
    threads = filter shows_thread v.threads;
  }

  abbrev pub held_only : Held → Held
  held_only h = record h { view = on_open only h.view }
