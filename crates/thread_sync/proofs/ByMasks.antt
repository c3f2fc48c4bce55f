-- A sight by masks is the sight by the record.
use Rattle.std.proofs.Common.{◌≡◌, ℕ, ◌<◌, Bool, Option, Some, arith, ap, sym, ◌∙◌}
use Rattle.collections.specs.ById.{find_id}
use Rattle.perm_bits.specs.Permissions.{view_channel, manage_threads}
use Rattle.guild_model.specs.declared.member.Member.{Member}
use Rattle.guild_model.specs.Record.{Record, member_id}
use Rattle.guild_model.specs.Sight.{standing, granted}
use Rattle.overwrite_eval.specs.MaskIn.{IsMaskIn}
use Rattle.overwrite_eval.proofs.ByMasks.{bit_in, granted_by}
use Rattle.overwrite_eval.proofs.Grants.{granted_member}
use Rattle.thread_sync.specs.declared.channel_sight.ChannelSight.{ChannelSight}
use Rattle.thread_sync.specs.ChannelSights.{sight_of}

abbrev pub sight_from : ℕ → ℕ → Bool → Bool → ChannelSight
sight_from user channel views manages = record { channel = channel; user = user; views = views; manages = manages }

module _ (s : Record) (me : Member) (user channel : ℕ) (found : find_id member_id user s.members ≡ Some me) (named : me.user.id ≡ user) where
  bit_of : (answer : Option ℕ) (b : ℕ) → b < 53 → IsMaskIn s user channel answer → bit_in answer b ≡ granted (standing s me) channel b
  bit_of answer b below is = granted_by s user channel answer b below is ∙ sym (granted_member s user channel me b found)

  pub sight_by_answer : (answer : Option ℕ) → IsMaskIn s user channel answer → sight_from user channel (bit_in answer view_channel) (bit_in answer manage_threads) ≡ sight_of s me channel
  sight_by_answer answer is =
      ap (λ views. sight_from user channel views (bit_in answer manage_threads)) (bit_of answer view_channel (omega arith) is)
      ∙ (ap (λ manages. sight_from user channel (granted (standing s me) channel view_channel) manages) (bit_of answer manage_threads (omega arith) is)
      ∙ ap (λ (u : ℕ). sight_from u channel (granted (standing s me) channel view_channel) (granted (standing s me) channel manage_threads)) (sym named))
