use Rattle.std.proofs.Common.{ℕ, Bool, List, [], map, ap, ◌∙◌}
use Rattle.std.specs.Prelude.{filter, not, ◌||◌}
use Rattle.collections.specs.ById.{has_id, put_all}
use Rattle.guild_model.specs.Record.{own_id}
use Rattle.dispatch_types.specs.declared.view.ThreadView.{ThreadView}
use Rattle.dispatch_types.specs.Fold.{thread_view_id, synced_thread}
use Rattle.client_cache.specs.Sent.{object_id}
use Rattle.client_cache.proofs.Lists.{put-then-drop}
use Rattle.client_cache.proofs.Synced.{listed-ids}
use Rattle.client_cache.proofs.thread_list.sync_under.Goals as goal

pub returns-clause-ok : goal.returns-clause-ok
returns-clause-ok c =
    let come = map (synced_thread c.args.fold.now.intents c.args.members.now) c.args.objects in
    let out : ThreadView → Bool = λ t. not (has_id own_id t.parent c.args.parents.now) in
    let new : ℕ → Bool = λ id. has_id own_id id (put_all own_id [] (map object_id c.args.objects)) in
    c.keep_synced.ensures
    ∙ (ap (λ (ids : List ℕ). filter (λ (t : ThreadView). out t || has_id own_id t.id ids) c.put_all.new.self) c.in_ok-listed.ensures
    ∙ (ap (λ (ts : List ThreadView). filter (λ (t : ThreadView). out t || new (thread_view_id t)) ts) (c.in_ok-put_all.ensures.ok ∙ ap (put_all thread_view_id c.args.threads.now) c.in_ok-synced.ensures)
    ∙ put-then-drop thread_view_id out new c.args.threads.now come c.as_slice-threads.ensures.ascending (listed-ids c.args.fold.now.intents c.args.members.now c.args.objects)))
