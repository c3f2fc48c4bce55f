use Rattle.std.proofs.Common.{◌≡◌, List, sym, ap, ◌∙◌}
use Rattle.std.specs.List.{list_any}
use Rattle.guild_model.specs.declared.channel.Channel.{Channel}
use Rattle.guild_model.specs.declared.thread.Thread.{Thread}
use Rattle.guild_model.specs.Record.{Record}
use Rattle.guild_model.specs.Sight.{Standing, standing}
use Rattle.thread_sync.specs.Shown.{Shown, by_standing, shown_to}
use Rattle.thread_sync.specs.Seen.{by_lists}
use Rattle.thread_sync.specs.Sync.{uncovers, is_gained}
use Rattle.thread_sync.proofs.Steps.{is_some-sync}
use Rattle.thread_sync.proofs.by_lists.gains.Goals as goal

pub returns : goal.returns
returns c =
    let g : Record = c.args.guild.now in
    let s : Standing = standing g c.args.me.now in
    let before : Shown = by_lists c.args.was.now in
    let any = λ (u : Standing) (ts : List Thread) (cs : List Channel). list_any (is_gained before (by_standing u) (uncovers before (by_standing u) ts)) cs in
    let channels : c.as_slice.result.now ≡ g.channels = c.as_slice.ensures.items ∙ ap (λ (g : Record). g.channels) c.guild.view_is in
    let threads : c.as_slice-threads.result.now ≡ g.threads = c.as_slice-threads.ensures.items ∙ ap (λ (g : Record). g.threads) c.guild.view_is in
    c.is_any_gained.ensures
    ∙ (ap (λ (u : Standing). any u c.as_slice-threads.result.now c.as_slice.result.now) c.in_guild-standing.ensures
    ∙ (ap (λ (ts : List Thread). any s ts c.as_slice.result.now) threads
    ∙ (ap (any s g.threads) channels
    ∙ sym (is_some-sync before (shown_to g c.args.me.now) g c.args.me.now.user.id))))
