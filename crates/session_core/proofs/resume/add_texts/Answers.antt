-- One text more.
use Rattle.std.proofs.Common.{ℕ, List, [], ◌∷◌, ◌++◌, map, sym, ap, ◌∙◌, append_assoc, append-nil}
use Rattle.session_core.specs.declared.reply.Reply.{Reply}
use Rattle.session_core.specs.declared.reply.Reply.TheVariants.{Text as Texts}
use Rattle.session_core.proofs.resume.add_texts.Goals as goal

pub loop-text-init : goal.loop-text-init
loop-text-init c = ap (λ (ts : List (List ℕ)). c.args.replies.now.items ++ map (λ text. Texts c.args.conn text) ts) c.into_iter-text-iterator.ensures.into_iter_gives

pub loop-text-preserved : goal.loop-text-preserved
loop-text-preserved c =
    let later : List Reply = map (λ text. Texts c.args.conn text) c.next.new.self in
    let old : List Reply = c.loop-text.replies.items in
    ap (λ (rs : List Reply). rs ++ later) c.in_ok-push.ensures.items
    ∙ (append_assoc old (Texts c.args.conn c.in_ok-share.field-0 ∷ []) later
    ∙ (ap (λ text. old ++ Texts c.args.conn text ∷ later) c.in_ok-share.ensures
    ∙ (ap (λ (ts : List (List ℕ)). old ++ map (λ text. Texts c.args.conn text) ts) (sym c.in-Some.ensures.steps) ∙ c.loop-text.invariant)))

pub returns : goal.returns
returns c =
    sym (append-nil c.loop-text.replies.items)
    ∙ (ap (λ (ts : List (List ℕ)). c.loop-text.replies.items ++ map (λ text. Texts c.args.conn text) ts) (sym c.in-None.ensures.steps.0) ∙ c.loop-text.invariant)
