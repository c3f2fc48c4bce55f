use Rattle.std.proofs.Common.{sym, ap, ◌∙◌}
use Rattle.std.proofs.lemmas.Result.{on_ok_weaker}
use Rattle.mask_cache.specs.Changes.{mask_change}
use Rattle.mask_cache.specs.declared.mask_change.MaskChange.TheVariants.{Nothing, Gone, InChannel}
use Rattle.mask_cache.proofs.Stay.{left}
use Rattle.mask_cache.proofs.Mended.{none-changed, one-gone, one-set}
use Rattle.mask_cache.proofs.masks.Masks.mend.Goals as goal

pub returns-in-Nothing-clause-masks : goal.returns-in-Nothing-clause-masks
returns-in-Nothing-clause-masks g c =
    let before = c.requires.0 in
    let was = c.args.self.now in
    let changes = sym (c.of.ensures ∙ ap (λ user. mask_change user c.args.edit.now) c.user.ensures) ∙ c.in-Nothing.is in
    none-changed before c.args.guild.now was.user was c.requires.1 (left before c.args.edit.now c.args.guild.now was.user Nothing changes c.requires.2)

pub returns-in-Gone-clause-masks : goal.returns-in-Gone-clause-masks
returns-in-Gone-clause-masks g c =
    let before = c.requires.0 in
    let was = c.args.self.now in
    let changes = sym (c.of.ensures ∙ ap (λ user. mask_change user c.args.edit.now) c.user.ensures) ∙ c.in-Gone.is in
    let others = left before c.args.edit.now c.args.guild.now was.user (Gone c.in-Gone.channel) changes c.requires.2 in
    rw c.forget.ensures (one-gone before c.args.guild.now was.user c.in-Gone.channel was c.requires.1 others.0 others.1)

pub set-requires : goal.set-requires
set-requires g c b below =
    let before = c.requires.0 in
    let was = c.args.self.now in
    let changes = sym (c.of.ensures ∙ ap (λ user. mask_change user c.args.edit.now) c.user.ensures) ∙ c.in-InChannel.is in
    let others = left before c.args.edit.now c.args.guild.now was.user (InChannel c.in-InChannel.channel) changes c.requires.2 in
    c.requires.1.base b below ∙ sym (others.0.base b)

pub returns-in-InChannel-clause-masks : goal.returns-in-InChannel-clause-masks
returns-in-InChannel-clause-masks g c =
    let before = c.requires.0 in
    let was = c.args.self.now in
    let changes = sym (c.of.ensures ∙ ap (λ user. mask_change user c.args.edit.now) c.user.ensures) ∙ c.in-InChannel.is in
    let others = left before c.args.edit.now c.args.guild.now was.user (InChannel c.in-InChannel.channel) changes c.requires.2 in
    on_ok_weaker c.set.result (one-set before c.args.guild.now was.user c.in-InChannel.channel was c.requires.1 others.0 others.1 c.set.new.self) c.set.ensures.masks
