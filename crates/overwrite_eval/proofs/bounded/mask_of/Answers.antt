use Rattle.std.proofs.Common.{◌≡◌, ◌<◌, ℕ, Some, sym, ap, ◌∙◌}
use Rattle.std.specs.Option.{option_copied}
use Rattle.collections.specs.ById.{find_id}
use Rattle.guild_model.specs.Record.{Record, channel_id}
use Rattle.guild_model.specs.Permissions.{part_base}
use Rattle.guild_model.specs.Sight.{Standing, standing}
use Rattle.perm_bits.specs.Bits.{has_bit}
use Rattle.perm_bits.proofs.BitSets.{has_bit-none}
use Rattle.overwrite_eval.proofs.Grants.{granted_from_base, granted_missing}
use Rattle.overwrite_eval.proofs.bounded.mask_of.Goals as goal

pub returns-in-Some-clause-bits : goal.returns-in-Some-clause-bits
returns-in-Some-clause-bits g c b below =
    let inside = c.guild.inside in
    let s : Standing = record { guild = inside.id; owner = inside.owner; roles = inside.roles; channels = inside.channels; me = c.args.member.now } in
    let found : find_id channel_id c.args.channel inside.channels ≡ Some c.in-Some.channel.now =
    ap (λ (r : Record). find_id channel_id c.args.channel r.channels) c.guild.view_is ∙ sym c.channel.ensures ∙ ap option_copied c.in-Some.is in
    let is : (b : ℕ) → b < 53 → has_bit c.member_base-base.result b ≡ part_base inside.id inside.owner inside.roles c.args.member.now b =
    λ b below. rw (← c.as_slice.ensures.items) (c.member_base-base.ensures.bits b below) in
    let bits = c.member_mask.ensures.bits b below in
    rw (← c.guild.view_is, bits) (granted_from_base s c.args.channel c.in-Some.channel.now c.member_base-base.result found is b below)

pub returns-in-None-clause-bits : goal.returns-in-None-clause-bits
returns-in-None-clause-bits g c b below =
    has_bit-none b ∙ sym (granted_missing (standing c.args.guild.now c.args.member.now) c.args.channel b (sym c.channel.ensures ∙ ap option_copied c.in-None.is))
