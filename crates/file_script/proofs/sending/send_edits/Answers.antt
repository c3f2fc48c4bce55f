use Rattle.std.proofs.Common.{◌++◌, ℕ, List, [], ◌∷◌, Ok, Err, sym, ap, ◌∙◌, subst, append-nil}
use Rattle.std.proofs.KnownBytes.{Consumes-nil}
use Rattle.std.proofs.lemmas.Result.{err_from_is_err_and}
use Rattle.edit_post.specs.Post.{Sender}
use Rattle.edit_text.specs.declared.line.Line.{Line}
use Rattle.guild_posts.specs.Posts.{AreSent}
use Rattle.guild_posts.proofs.Sent.{sent_passes}
use Rattle.script_run.specs.Scripts.{edits_in}
use Rattle.file_script.specs.Reads.{HasGiven, Gives}
use Rattle.file_script.specs.Sends.{SendsFile}
use Rattle.file_script.proofs.Declaring.{none_sent}
use Rattle.file_script.proofs.Sends.{file_ends, file_fails, file_refused, line_sent}
use Rattle.file_script.proofs.sending.send_edits.Goals as goal

pub returns-in_err-line-clause-sends : goal.returns-in_err-line-clause-sends
returns-in_err-line-clause-sends g c bytes read =
    let left = g.S.Source.left c.args.source.now in
    let guilds : List ℕ = c.args.index.now.keys in
    let passes : List Sender = c.args.passes.now.items in
    let gives = subst (λ r. Gives left c.args.script.lines bytes read.0 r) (sym c.into_parts-lines.ensures.first ∙ c.in_err-line.was) read.2 in
    let e = err_from_is_err_and c.from_residual.result c.from_residual.ensures.1 in (
      [],
      Consumes-nil left,
      subst (λ r. SendsFile guilds left (bytes ++ []) passes passes r) (sym (e.1 ∙ ap Err e.2))
          (subst (λ l. SendsFile guilds left l passes passes (Err c.in_err-line.field-0.0)) (sym (append-nil bytes))
          (file_fails guilds left c.args.script.lines bytes read.0 passes passes (none_sent guilds read.0 read.1 passes) c.in_err-line.field-0.0 gives)),
    )

pub returns-in_default-clause-sends : goal.returns-in_default-clause-sends
returns-in_default-clause-sends g c bytes read =
    let left = g.S.Source.left c.args.source.now in
    let guilds : List ℕ = c.args.index.now.keys in
    let passes : List Sender = c.args.passes.now.items in
    let gives = subst (λ r. Gives left c.args.script.lines bytes read.0 r) (sym c.into_parts-lines.ensures.first ∙ c.in_ok-line.was ∙ ap Ok c.in_default.is) read.2 in (
      [],
      Consumes-nil left,
      subst (λ l. SendsFile guilds left l passes passes (Ok tt)) (sym (append-nil bytes))
          (file_ends guilds left c.args.script.lines bytes read.0 passes passes (none_sent guilds read.0 read.1 passes) gives tt),
    )

pub returns-in_err-send_line-clause-sends : goal.returns-in_err-send_line-clause-sends
returns-in_err-send_line-clause-sends g c bytes read =
    let left = g.S.Source.left c.args.source.now in
    let guilds : List ℕ = c.args.index.now.keys in
    let passes : List Sender = c.args.passes.now.items in
    let has : HasGiven left c.args.script.lines bytes (read.0 ++ c.in-Some.line ∷ []) = subst (λ r. Gives left c.args.script.lines bytes read.0 r) (sym c.into_parts-lines.ensures.first ∙ c.in_ok-line.was ∙ ap Ok c.in-Some.is) read.2 in
    let still : AreSent guilds (edits_in read.0) passes c.send_line.new.passes.items =
    subst (λ (xs : List Sender). AreSent guilds (edits_in read.0) passes xs) (sym c.in_err-send_line.ensures.0) (none_sent guilds read.0 read.1 passes) in
    let e = err_from_is_err_and c.from_residual-in_err-send_line.result c.from_residual-in_err-send_line.ensures.1 in (
      [],
      Consumes-nil left,
      subst (λ l. SendsFile guilds left l passes c.send_line.new.passes.items c.from_residual-in_err-send_line.result) (sym (append-nil bytes))
          (subst (λ r. SendsFile guilds left bytes passes c.send_line.new.passes.items r) (sym (e.1 ∙ ap Err e.2))
          (file_refused guilds left c.args.script.lines bytes read.0 passes c.send_line.new.passes.items still c.in-Some.line has c.in_err-send_line.field-0.0 c.in_err-send_line.ensures.1)),
    )

pub send_rest-requires-clause-passes : goal.send_rest-requires-clause-passes
send_rest-requires-clause-passes g c =
    let line : Line = c.in-Some.line in
    sent_passes c.args.index.now.keys (edits_in (line ∷ [])) c.args.passes.now.items c.send_line.new.passes.items c.in_ok-send_line.ensures c.args.posts.now c.requires.passes

pub returns-clause-sends : goal.returns-clause-sends
returns-clause-sends g c bytes read =
    let left = g.S.Source.left c.args.source.now in
    let guilds : List ℕ = c.args.index.now.keys in
    let passes : List Sender = c.args.passes.now.items in
    let has : HasGiven left c.args.script.lines bytes (read.0 ++ c.in-Some.line ∷ []) = subst (λ r. Gives left c.args.script.lines bytes read.0 r) (sym c.into_parts-lines.ensures.first ∙ c.in_ok-line.was ∙ ap Ok c.in-Some.is) read.2 in
    let given = subst (λ lines. HasGiven left lines bytes (read.0 ++ c.in-Some.line ∷ [])) (sym c.into_parts-lines.ensures.lines) has in
    c.send_rest.ensures.sends bytes (read.0 ++ c.in-Some.line ∷ []) passes given
    (line_sent guilds left c.args.script.lines bytes read.0 passes passes (none_sent guilds read.0 read.1 passes) c.in-Some.line c.send_line.new.passes.items c.in_ok-send_line.ensures)
