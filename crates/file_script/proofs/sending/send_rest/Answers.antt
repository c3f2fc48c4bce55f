use Rattle.std.proofs.Common.{◌++◌, ℕ, List, [], ◌∷◌, Option, None, Ok, Err, refl, sym, ap, ◌∙◌, subst, append-nil}
use Rattle.std.proofs.KnownBytes.{Consumes-nil}
use Rattle.std.proofs.lemmas.Result.{err_from_is_err_and}
use Rattle.edit_post.specs.Post.{Sender}
use Rattle.edit_text.specs.declared.line.Line.{Line}
use Rattle.guild_posts.specs.Posts.{AreSent}
use Rattle.guild_posts.proofs.Sent.{sent_passes}
use Rattle.script_run.specs.Scripts.{edits_in}
use Rattle.file_script.specs.Reads.{HasGiven, Gives}
use Rattle.file_script.specs.Sends.{SendsFile}
use Rattle.file_script.proofs.Reading.{goes_on}
use Rattle.file_script.proofs.Sends.{file_ends, file_fails, file_refused, line_sent}
use Rattle.file_script.proofs.sending.send_rest.Goals as goal

pub loop-line-init : goal.loop-line-init
loop-line-init g c = record {
  passes = c.requires.passes;
  sent = λ bytes given before has sent. (
    [],
    given,
    Consumes-nil (g.S.Source.left c.args.source.now),
    subst (λ l. HasGiven (g.S.Source.left c.args.source.now) c.args.lines.now l given) (sym (append-nil bytes)) has,
    sent,
  );
  faults = refl;
}

pub returns-in_err-line-clause-sends : goal.returns-in_err-line-clause-sends
returns-in_err-line-clause-sends g c bytes given before has sent =
    let left = g.S.Source.left in
    let guilds : List ℕ = c.args.index.now.keys in
    let at = c.loop-line.invariant.sent bytes given before has sent in
    let gives = c.in_err-line.ensures.gives (bytes ++ at.0) at.1 at.3 in
    let e = err_from_is_err_and c.from_residual.result c.from_residual.ensures.1 in
    goes_on (left c.args.source.now) (left c.loop-line.source) (left c.next.new.source) (λ l. SendsFile guilds (left c.next.new.source) l before c.loop-line.passes.items c.from_residual.result) bytes at.0 at.2 (
      gives.0,
      gives.1,
      subst (λ r. SendsFile guilds (left c.next.new.source) ((bytes ++ at.0) ++ gives.0) before c.loop-line.passes.items r) (sym (e.1 ∙ ap Err e.2))
          (file_fails guilds (left c.next.new.source) c.next.new.self ((bytes ++ at.0) ++ gives.0) at.1 before c.loop-line.passes.items at.4 c.in_err-line.field-0.0 gives.2),
    )

pub loop-line-preserved : goal.loop-line-preserved
loop-line-preserved g c =
    let left = g.S.Source.left in
    let guilds : List ℕ = c.args.index.now.keys in
    let line : Line = c.in-Some.line in
    record {
      passes = sent_passes guilds (edits_in (line ∷ [])) c.loop-line.passes.items c.send_line.new.passes.items c.in_ok-send_line.ensures c.args.posts.now c.loop-line.invariant.passes;
      sent = λ bytes given before has sent.
          let at = c.loop-line.invariant.sent bytes given before has sent in
          let gives = c.in_ok-line.ensures.gives (bytes ++ at.0) at.1 at.3 in
          let more : HasGiven (left c.next.new.source) c.next.new.self ((bytes ++ at.0) ++ gives.0) (at.1 ++ line ∷ []) =
          subst (λ (o : Option Line). Gives (left c.next.new.source) c.next.new.self ((bytes ++ at.0) ++ gives.0) at.1 (Ok o)) c.in-Some.is gives.2 in
          let all = goes_on (left c.args.source.now) (left c.loop-line.source) (left c.next.new.source) (λ l. HasGiven (left c.next.new.source) c.next.new.self l (at.1 ++ line ∷ [])) bytes at.0 at.2 (gives.0, gives.1, more) in (
            all.0,
            at.1 ++ line ∷ [],
            all.1,
            all.2,
            line_sent guilds (left c.next.new.source) c.next.new.self bytes at.1 before c.loop-line.passes.items at.4 line c.send_line.new.passes.items c.in_ok-send_line.ensures,
          );
      faults = c.in_ok-line.ensures.cause ∙ c.loop-line.invariant.faults;
    }

pub returns-in_err-send_line-clause-sends : goal.returns-in_err-send_line-clause-sends
returns-in_err-send_line-clause-sends g c bytes given before has sent =
    let left = g.S.Source.left in
    let guilds : List ℕ = c.args.index.now.keys in
    let line : Line = c.in-Some.line in
    let at = c.loop-line.invariant.sent bytes given before has sent in
    let gives = c.in_ok-line.ensures.gives (bytes ++ at.0) at.1 at.3 in
    let more : HasGiven (left c.next.new.source) c.next.new.self ((bytes ++ at.0) ++ gives.0) (at.1 ++ line ∷ []) =
    subst (λ (o : Option Line). Gives (left c.next.new.source) c.next.new.self ((bytes ++ at.0) ++ gives.0) at.1 (Ok o)) c.in-Some.is gives.2 in
    let e = err_from_is_err_and c.from_residual-in_err-send_line.result c.from_residual-in_err-send_line.ensures.1 in
    let still : AreSent guilds (edits_in at.1) before c.send_line.new.passes.items = subst (λ (xs : List Sender). AreSent guilds (edits_in at.1) before xs) (sym c.in_err-send_line.ensures.0) at.4 in
    goes_on (left c.args.source.now) (left c.loop-line.source) (left c.next.new.source) (λ l. SendsFile guilds (left c.next.new.source) l before c.send_line.new.passes.items c.from_residual-in_err-send_line.result) bytes at.0 at.2 (
      gives.0,
      gives.1,
      subst (λ r. SendsFile guilds (left c.next.new.source) ((bytes ++ at.0) ++ gives.0) before c.send_line.new.passes.items r) (sym (e.1 ∙ ap Err e.2))
          (file_refused guilds (left c.next.new.source) c.next.new.self ((bytes ++ at.0) ++ gives.0) at.1 before c.send_line.new.passes.items still line more c.in_err-send_line.field-0.0 c.in_err-send_line.ensures.1),
    )

pub returns-clause-sends : goal.returns-clause-sends
returns-clause-sends g c bytes given before has sent =
    let left = g.S.Source.left in
    let guilds : List ℕ = c.args.index.now.keys in
    let at = c.loop-line.invariant.sent bytes given before has sent in
    let gives = c.in_ok-line.ensures.gives (bytes ++ at.0) at.1 at.3 in
    let ends : Gives (left c.next.new.source) c.next.new.self ((bytes ++ at.0) ++ gives.0) at.1 (Ok None) =
    subst (λ (o : Option Line). Gives (left c.next.new.source) c.next.new.self ((bytes ++ at.0) ++ gives.0) at.1 (Ok o)) c.in_default.is gives.2 in
    goes_on (left c.args.source.now) (left c.loop-line.source) (left c.next.new.source) (λ l. SendsFile guilds (left c.next.new.source) l before c.loop-line.passes.items (Ok tt)) bytes at.0 at.2
    (gives.0, gives.1, file_ends guilds (left c.next.new.source) c.next.new.self ((bytes ++ at.0) ++ gives.0) at.1 before c.loop-line.passes.items at.4 ends tt)
