use Rattle.std.proofs.Common.{◌≡◌, Bool, true, false, ◌||◌, not, refl, sym, ap, subst, ◌∙◌}
use Rattle.std.specs.Prelude.{IfOk}
use Rattle.guild_model.specs.Record.{Record}
use Rattle.thread_sync.specs.declared.channel_sight.ChannelSight.{ChannelSight}
use Rattle.thread_sync.specs.ChannelSights.{sight_of, by_sight, covers}
use Rattle.thread_sync.specs.Sync.{list_sync}
use Rattle.thread_sync.proofs.Grown.{none-covered}
use Rattle.thread_sync.proofs.in_channel.uncovered_in_channel.Goals as goal
use Rattle.thread_sync.proofs.in_channel.uncovered_in_channel.Goals.{then-not-now-via-then-not-now, then-not-now-via-else-not-now+then-covers}

-- the channel is not seen now, or what is seen now was seen before
pub returns-then-not-now : goal.returns-then-not-now
returns-then-not-now c =
    let g : Record = c.args.guild.now in
    let before : ChannelSight = c.args.before.now in
    let now : ChannelSight = sight_of g c.args.me.now before.channel in
    elim c.then-not-now.branch [
      | then-not-now-via-then-not-now w ↦
          (let views : now.views ≡ false = ap (λ (l : ChannelSight). l.views) (sym c.sight_of-now.ensures) ∙ w.if-not-now.true in
          none-covered before now refl (ap (λ b. not b || covers before now) views) g c.args.me.now.user.id)
      | then-not-now-via-else-not-now+then-covers w ↦
          (let is : covers before now ≡ true = sym (w.covers.ensures ∙ ap (covers before) c.sight_of-now.ensures) ∙ w.if-covers.true in
          none-covered before now refl (ap (λ b. not now.views || b) is ∙ either (not now.views)) g c.args.me.now.user.id)
    ]
  where
    either : (a : Bool) → (a || true) ≡ true
    either true = refl
    either false = refl

pub returns : goal.returns
returns c =
    subst (λ due. IfOk c.list_sync.result (λ told. told ≡ due))
    (ap (λ (l : ChannelSight). list_sync (by_sight c.args.before.now) (by_sight l) c.args.guild.now c.args.me.now.user.id) c.sight_of-now.ensures)
    c.list_sync.ensures
