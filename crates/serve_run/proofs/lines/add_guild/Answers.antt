use Rattle.std.proofs.Common.{◌≡◌, ◌∙◌, ◌++◌, sym, ap, append-nil, subst, Some, None}
use Rattle.std.specs.Option.{option_copied}
use Rattle.std.specs.Prelude.{OnOk, string_bytes}
use Rattle.serve_run.proofs.Written.{line_is}
use Rattle.serve_run.proofs.lines.add_guild.Goals as goal

pub returns-in-Some : goal.returns-in-Some
returns-in-Some g c =
    let line = line_is c.args.logs.now c.args.guild (Some c.in-Some.log.now) c.count_below-place.result c.requires c.count_below-place.ensures
    (sym (ap option_copied c.in-Some.is) ∙ c.log_at.ensures) in
    subst (λ l. OnOk c.add_guild_line.result (string_bytes c.add_guild_line.new.text ≡ string_bytes c.args.text.now ++ l)) (sym line) c.add_guild_line.ensures

pub returns-in-None : goal.returns-in-None
returns-in-None g c =
    let line = line_is c.args.logs.now c.args.guild None c.count_below-place.result c.requires c.count_below-place.ensures
    (sym (ap option_copied c.in-None.is) ∙ c.log_at.ensures) in
    sym (ap (λ l. string_bytes c.args.text.now ++ l) line ∙ append-nil (string_bytes c.args.text.now))
