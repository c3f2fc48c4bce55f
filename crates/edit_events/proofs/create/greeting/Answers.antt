use Rattle.std.proofs.Common.{◌≡◌, false, sym, ap, subst, ◌∙◌}
use Rattle.std.specs.Prelude.{IfOk}
use Rattle.guild_model.specs.Record.{Record}
use Rattle.guild_model.specs.Shown.{shown_part}
use Rattle.guild_model.proofs.Shown.{shown-all}
use Rattle.edit_events.specs.Greeting.{whole_greeting}
use Rattle.edit_events.proofs.create.greeting.Goals as goal

-- of a guild that withholds nothing all is shown
pub returns-then-not-guild : goal.returns-then-not-guild
returns-then-not-guild c =
    let g = c.args.guild.now in
    let me = c.args.me.now in
    let all : g.private ≡ false = ap (λ (r : Record). r.private) (sym c.guild.view_is) ∙ c.if-not-guild.true in
    let same : record g { channels = c.guild.inside.channels; voices = c.guild.inside.voices } ≡ shown_part g me =
    ap (λ (r : Record). record g { channels = r.channels; voices = r.voices }) c.guild.view_is ∙ sym (shown-all g me all) in
    subst (λ (r : Record). IfOk c.whole_greeting.result (λ create. create ≡ whole_greeting r c.args.viewer.now me)) same c.whole_greeting.ensures
