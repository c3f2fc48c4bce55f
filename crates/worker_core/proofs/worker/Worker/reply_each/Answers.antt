-- What goes out for a reply that is the only one.
use Rattle.std.proofs.Common.{rules, ◌≡◌, List, [], ◌∷◌, ◌++◌, sym, ap, subst, ◌∙◌, append-nil, append_assoc}
use Rattle.std.proofs.lemmas.Result.{err_from_is_err_and}
use Rattle.std.specs.Vec.Iter.{into_iter_items}
use Rattle.session_core.specs.declared.reply.Reply.{Reply}
use Rattle.worker_core.specs.declared.io.StepFault.{StepFault}
use Rattle.std.specs.Prelude.{flat_map}
use Rattle.std.specs.List.{list_all}
use Rattle.worker_core.specs.declared.io.Output.{Output as Written}
use Rattle.worker_core.proofs.worker.Worker.reply_each.Goals as goal
use Rattle.worker_core.specs.InCode.{KeptWorker}
use Rattle.worker_core.specs.Replies.{Replies, RepliesNot, is_plain, plain}
use Rattle.worker_core.specs.Outputs.{written, all_written}
use Rattle.world_law.proofs.Lists.{map_join}
use Rattle.worker_core.proofs.Moving.{alone, nothing_left, plain_last, plain_reply, still_first}
use Rattle.world_law.proofs.Lists.{append_none}
use Rattle.worker_core.proofs.Kept.{flat_map_join}

pub returns-in_err-reply-clause-one : goal.returns-in_err-reply-clause-one
returns-in_err-reply-clause-one c only is =
    let at = c.loop-reply in
    let steps : into_iter_items at.reply-iterator ≡ c.in-Some.reply ∷ into_iter_items c.next.new.self = c.in-Some.ensures.steps.0 in
    let whole : at.yielded ++ c.in-Some.reply ∷ into_iter_items c.next.new.self ≡ only ∷ [] =
    ap (λ rs. at.yielded ++ rs) (sym steps) ∙ (at.invariant.all ∙ (c.into_iter-reply-iterator.ensures.into_iter_gives.0 ∙ is)) in
    let one = alone at.yielded (into_iter_items c.next.new.self) c.in-Some.reply only whole in
    let same = still_first at.yielded at.self c.args.self.now one.0 (λ e. (at.invariant.plain e).0) in
    let p = err_from_is_err_and c.from_residual.result c.from_residual.ensures.1 in
    rw p.1 (subst (λ (f : StepFault). RepliesNot only c.args.self.now f) (sym p.2)
    (subst (λ (k : KeptWorker). RepliesNot only k c.in_err-reply.field-0.0) same
    (subst (λ (r : Reply). RepliesNot r at.self c.in_err-reply.field-0.0) one.1 c.in_err-reply.ensures)))

pub returns-clause-one : goal.returns-clause-one
returns-clause-one c only is =
    let at = c.loop-reply in
    let empty : into_iter_items at.reply-iterator ≡ [] = nothing_left _ (sym at.invariant.count ∙ c.in-None.ensures.steps.0) in
    let all = sym (append-nil at.yielded) ∙ rw empty at at.invariant.all ∙ c.into_iter-reply-iterator.ensures.into_iter_gives.0 in
    at.invariant.one only (all ∙ is)

pub loop-reply-preserved : goal.loop-reply-preserved
loop-reply-preserved c =
    let at = c.loop-reply in
    let r : Reply = c.in-Some.reply in
    let later : List Reply = into_iter_items c.next.new.self in
    record {
      all = append_assoc at.yielded (r ∷ []) later ∙ (ap (λ rs. at.yielded ++ rs) (sym c.in-Some.ensures.steps.0) ∙ at.invariant.all);
      count = search rules;
      plain = λ e.
          let both = plain_last at.yielded r e in
          let before = at.invariant.plain both.0 in
          let one = plain_reply r at.self c.reply.new.self at.out.items c.reply.new.out.items both.1 c.in_ok-reply.ensures in (
            one.0 ∙ before.0,
            one.1 ∙ (ap (λ out. out ++ all_written (plain r)) before.1
                ∙ (sym (map_join written (flat_map plain at.yielded) (plain r))
                ∙ ap all_written (ap (λ out. flat_map plain at.yielded ++ out) (sym (append_none (plain r))) ∙ sym (flat_map_join plain at.yielded (r ∷ []))))),
          );
      one = λ only e.
          let one = alone at.yielded [] r only e in
          let empty = at.invariant.plain (ap (list_all is_plain) one.0) in
          let told : Replies only at.self c.reply.new.self at.out.items c.reply.new.out.items = subst (λ (r : Reply). Replies r at.self c.reply.new.self at.out.items c.reply.new.out.items) one.1 c.in_ok-reply.ensures in
          subst (λ (k : KeptWorker). Replies only k c.reply.new.self [] c.reply.new.out.items) empty.0
          (subst (λ (out : List Written). Replies only at.self c.reply.new.self out c.reply.new.out.items) (empty.1 ∙ ap (λ rs. all_written (flat_map plain rs)) one.0) told);
    }
