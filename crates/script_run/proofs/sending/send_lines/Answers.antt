use Rattle.std.proofs.Common.{rules, ◌≡◌, ℕ, List, [], ◌∷◌, ◌++◌, sym, ap, subst, ◌∙◌, append-nil, append_assoc}
use Rattle.std.proofs.lemmas.List.{nil_from_length}
use Rattle.std.proofs.lemmas.List.Concat.{flat_map-append}
use Rattle.std.proofs.lemmas.Result.{err_from_is_err_and}
use Rattle.std.specs.Vec.Iter.{into_iter_items}
use Rattle.edit_apply.specs.declared.Edit.{Edit}
use Rattle.edit_post.specs.declared.send_refused.SendRefused.{SendRefused}
use Rattle.edit_text.specs.declared.line.Line.{Line}
use Rattle.guild_posts.specs.Posts.{AreSent, IsRefusedBySome}
use Rattle.guild_posts.proofs.Sent.{sent_on, sent_passes}
use Rattle.script_run.specs.Scripts.{edit_in, edits_in}
use Rattle.script_run.proofs.sending.send_lines.Goals as goal

pub loop-line-preserved : goal.loop-line-preserved
loop-line-preserved g c =
    let at = c.loop-line in
    let line : Line = c.in-Some.line in
    let later : List Line = into_iter_items c.next.new.self in
    let guilds : List ℕ = c.args.index.now.keys in record {
      all = append_assoc at.yielded (line ∷ []) later ∙ (ap (λ (ls : List Line). at.yielded ++ ls) (sym c.in-Some.ensures.steps.0) ∙ at.invariant.all);
      count = search rules;
      passes = sent_passes guilds (edits_in (line ∷ [])) at.passes.items c.send_line.new.passes.items c.in_ok-send_line.ensures c.args.posts.now at.invariant.passes;
      sent = subst (λ (es : List (ℕ × Edit)). AreSent guilds es c.args.passes.now.items c.send_line.new.passes.items) (sym (flat_map-append edit_in at.yielded (line ∷ [])))
          (sent_on guilds (edits_in at.yielded) (edits_in (line ∷ [])) c.args.passes.now.items at.passes.items c.send_line.new.passes.items at.invariant.sent c.in_ok-send_line.ensures);
    }

pub returns-in_err-send_line-clause-sent : goal.returns-in_err-send_line-clause-sent
returns-in_err-send_line-clause-sent g c =
    let at = c.loop-line in
    let line : Line = c.in-Some.line in
    let later : List Line = into_iter_items c.next.new.self in
    let guilds : List ℕ = c.args.index.now.keys in
    let whole : c.args.lines.items ≡ at.yielded ++ line ∷ later =
    sym (ap (λ (ls : List Line). at.yielded ++ ls) (sym c.in-Some.ensures.steps.0) ∙ (at.invariant.all ∙ c.into_iter-line-iterator.ensures.into_iter_gives.0)) in
    let p = err_from_is_err_and c.from_residual.result c.from_residual.ensures.1 in
    rw p.1 (
      edits_in at.yielded,
      edits_in (line ∷ later),
      ap edits_in whole ∙ flat_map-append edit_in at.yielded (line ∷ later),
      subst (λ xs. AreSent guilds (edits_in at.yielded) c.args.passes.now.items xs) (sym c.in_err-send_line.ensures.0) at.invariant.sent,
      subst (λ (f : SendRefused). IsRefusedBySome c.send_line.new.passes.items f) (sym p.2) c.in_err-send_line.ensures.1,
    )

pub returns-clause-sent : goal.returns-clause-sent
returns-clause-sent g c =
    let at = c.loop-line in
    let empty : into_iter_items at.line-iterator ≡ [] = nil_from_length _ (sym at.invariant.count ∙ c.in-None.ensures.steps.0) in
    let all = sym (append-nil at.yielded) ∙ rw empty at at.invariant.all ∙ c.into_iter-line-iterator.ensures.into_iter_gives.0 in
    subst (λ (ls : List Line). AreSent c.args.index.now.keys (edits_in ls) c.args.passes.now.items at.passes.items) all at.invariant.sent
