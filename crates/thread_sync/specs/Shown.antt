-- What is shown to a member (Permissions, VIEW_CHANNEL; Threads, Private Threads).
use Rattle.std.specs.Prelude.{ℕ, Bool, ◌&&◌}
use Rattle.guild_model.specs.declared.member.Member.{Member}
use Rattle.guild_model.specs.declared.thread.Thread.{Thread}
use Rattle.guild_model.specs.Record.{Record}
use Rattle.guild_model.specs.Sight.{Standing, standing, sees, sees_in, is_in}
use Rattle.dispatch_types.specs.Projection.{is_active}

-- which channels, by their ids, and which active threads
pub record Shown : Type 0 where
  pub channel : ℕ → Bool
  pub thread : Thread → Bool

-- an active thread that is seen
abbrev pub shows : Standing → Thread → Bool
shows s t = is_active t && sees_in s t.parent t.kind (is_in s.me.user.id t)

abbrev pub by_standing : Standing → Shown
by_standing s = record { channel = sees s; thread = shows s }

-- to a member of a guild, by the guild's record
abbrev pub shown_to : Record → Member → Shown
shown_to s me = by_standing (standing s me)
