use Rattle.std.proofs.Common.{◌∙◌, ℕ, List, [], ◌∷◌, sym, subst}
use Rattle.std.specs.Prelude.{All}
use Rattle.edit_post.specs.Post.{Taker}
use Rattle.load_settle.specs.Passes.{IsTakenWhole}
use Rattle.load_settle.specs.Readers.{HasLog}
use Rattle.collections.specs.ById.{IsById}
use Rattle.guild_hub.specs.Logs.{Published}
use Rattle.run_ends.specs.Logs.{HasPart}
use Rattle.run_ends.proofs.Ending.{all_few}
use Rattle.run_ends.proofs.settling.settle.Goals as goal

pub sent_of-requires : goal.sent_of-requires
sent_of-requires g c = all_few c.args.posts.now c.args.first.pass c.args.second.pass c.requires.takers.posts_are c.args.senders.items c.requires.ended

pub settle_ends-requires-clause-sent : goal.settle_ends-requires-clause-sent
settle_ends-requires-clause-sent g c = c.in_ok-sent.ensures.ended c.args.posts.now c.requires.ended

pub settle_ends-requires-clause-ascending : goal.settle_ends-requires-clause-ascending
settle_ends-requires-clause-ascending g c = subst (λ (ls : List (ℕ × Published)). IsById (λ (log : ℕ × Published). log.0) ls) (sym (c.deref.ensures.value ∙ c.in_ok-logs.ensures)) c.requires.ascending

pub settle_ends-requires-clause-logs : goal.settle_ends-requires-clause-logs
settle_ends-requires-clause-logs g c = subst (λ (ls : List (ℕ × Published)). All (HasLog ls) c.args.readers.items) (sym (c.deref.ensures.value ∙ c.in_ok-logs.ensures)) c.requires.logs

pub returns-clause-whole : goal.returns-clause-whole
returns-clause-whole g c =
    c.in_ok-sent.ensures.whole (c.args.first.pass ∷ c.args.second.pass ∷ [])
    (subst (λ (taken : List Taker). All (IsTakenWhole taken) c.in_ok-sent.sent.items) c.in_ok-taken.ensures.items c.in_ok-settle_ends.ensures.whole)

pub returns-clause-readers : goal.returns-clause-readers
returns-clause-readers g c = subst (λ (ls : List (ℕ × Published)). All (HasPart ls) c.args.readers.items) (c.deref.ensures.value ∙ c.in_ok-logs.ensures) c.in_ok-settle_ends.ensures.readers
