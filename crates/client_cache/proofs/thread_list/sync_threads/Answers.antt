use Rattle.std.proofs.Common.{ℕ, List, [], map, ap, ◌∙◌}
use Rattle.std.specs.Prelude.{filter, not}
use Rattle.std.proofs.lemmas.Result.{on_ok_weaker}
use Rattle.collections.specs.ById.{has_id, put_all}
use Rattle.guild_model.specs.Record.{own_id}
use Rattle.dispatch_types.specs.declared.threads.ThreadMemberObject.{ThreadMemberObject}
use Rattle.dispatch_types.specs.declared.threads.ThreadObject.{ThreadObject}
use Rattle.dispatch_types.specs.declared.view.ThreadView.{ThreadView}
use Rattle.dispatch_types.specs.Fold.{thread_view_id, contains, synced_thread}
use Rattle.client_cache.proofs.Synced.{other_parents}
use Rattle.client_cache.proofs.thread_list.sync_threads.Goals as goal

pub returns-clause-ok : goal.returns-clause-ok
returns-clause-ok c =
    let intents = c.args.fold.now.intents in
    let sync = c.args.sync in
    let lists = c.into_lists-channels.ensures in
    let parents = c.in_ok-parents.ensures ∙ ap (put_all own_id []) lists.0 in
    let others = ap (λ (ids : List ℕ). filter (λ (t : ThreadView). not (has_id own_id t.parent ids)) c.args.view.now.threads) parents ∙ other_parents sync.channels c.args.view.now.threads in
    let rest = filter (λ (t : ThreadView). not (contains t.parent sync.channels)) c.args.view.now.threads in
    on_ok_weaker c.sync_under.result
    (λ is. ap (λ (threads : List ThreadView). record c.args.view.now { threads = threads }) (is
    ∙ (ap (λ (ts : List ThreadView). put_all thread_view_id ts (map (synced_thread intents c.as_slice-members.result.now) c.into_lists-channels.result.1)) others
    ∙ (ap (λ (ms : List ThreadMemberObject). put_all thread_view_id rest (map (synced_thread intents ms) c.into_lists-channels.result.1)) (c.as_slice-members.ensures ∙ lists.2)
    ∙ ap (λ (ts : List ThreadObject). put_all thread_view_id rest (map (synced_thread intents sync.members) ts)) lists.1))))
    c.sync_under.ensures.ok
