-- What goes to a post.
use Rattle.std.proofs.Common.{List, [], ◌∷◌, sym, refl, subst}
use Rattle.std.proofs.lemmas.Result.{err_from_is_err_and}
use Rattle.edit_post.specs.Post.{Sender}
use Rattle.edit_post.specs.declared.send_refused.SendRefused.{SendRefused}
use Rattle.edit_post.specs.declared.send_refused.SendRefused.TheVariants.{Spent, Memory}
use Rattle.guild_posts.specs.Posts.{IsRefusedBySome}
use Rattle.worker_core.specs.declared.io.Output.TheVariants.{Wish}
use Rattle.worker_run.specs.declared.fault.WorkFault.{WorkFault}
use Rattle.worker_run.specs.Faults.{IsRefused, by_post}
use Rattle.worker_run.specs.Histories.{Gave}
use Rattle.worker_run.specs.Moves.{Serving, Gives, GivesNot}
use Rattle.worker_run.proofs.Moves.{gives_wish, gives_not}
use Rattle.worker_run.proofs.serving.Serving.wish.Goals as goal

refused_as : (passes : List Sender) (refused : SendRefused) → IsRefusedBySome passes refused → IsRefused passes (by_post refused)
refused_as passes Spent why = why
refused_as passes Memory why = tt

pub returns-in_err-send : goal.returns-in_err-send
returns-in_err-send g c = λ back.
    let inside = c.self.inside in
    let old : Serving = record {
      worker = inside.worker;
      links = inside.links;
      readers = inside.readers.items;
      passes = inside.passes.items;
      ended = inside.ended;
    } in
    let new : Serving = record old { passes = c.send.new.passes.items } in
    let p = err_from_is_err_and c.from_residual.result c.from_residual.ensures.1 in
    rw p.1 (subst (λ (s : Serving). GivesNot p.0 s new back back) c.self.view_is
    (gives_not p.0 old new back refl c.in_err-send.ensures.0 (subst (λ (f : WorkFault). IsRefused new.passes f) (sym p.2) (refused_as new.passes c.in_err-send.field-0.0 c.in_err-send.ensures.1))))

pub returns : goal.returns
returns g c = λ back.
    let inside = c.self.inside in
    let old : Serving = record {
      worker = inside.worker;
      links = inside.links;
      readers = inside.readers.items;
      passes = inside.passes.items;
      ended = inside.ended;
    } in
    let new : Serving = record old { passes = c.send.new.passes.items } in
    subst (λ (s : Serving). Gives (Gave (Wish c.args.guild c.args.edit) ∷ []) s new back back) c.self.view_is
    (gives_wish c.args.guild c.args.edit inside.index.keys old new back refl c.self.invariant c.in_ok-send.ensures)
