use Rattle.std.proofs.Common.{◌≡◌, ℕ, List, map, Some, refl, sym, ap, ◌∙◌}
use Rattle.std.specs.Prelude.{◌==◌, filter}
use Rattle.collections.proofs.Finds.{IsById-filter, IsById-map}
use Rattle.guild_model.specs.declared.channel.Channel.{Channel}
use Rattle.guild_model.specs.declared.thread.Thread.{Thread}
use Rattle.guild_model.specs.Record.{Record, own_id, channel_id}
use Rattle.thread_sync.specs.Shown.{Shown}
use Rattle.thread_sync.specs.Seen.{is_among}
use Rattle.thread_sync.specs.Sync.{uncovers, is_gained, threads_in, listing}
use Rattle.thread_sync.proofs.Steps.{none-listed, some-listed}
use Rattle.thread_sync.proofs.list_sync.list_sync.Goals as goal

pub from_ascending-parents-requires : goal.from_ascending-parents-requires
from_ascending-parents-requires g c =
    rw (c.in_ok-from_slice.ensures.items, c.as_slice.ensures.value, c.in_ok-gained.ensures, c.as_slice-channels.ensures.items)
    (IsById-map channel_id own_id channel_id (λ c. refl) _ (IsById-filter channel_id _ _ c.as_slice-channels.ensures.ascending))

pub returns-then-is_empty : goal.returns-then-is_empty
returns-then-is_empty g c =
    let s : Record = c.args.guild.now in
    let before : Shown = g.B.Shows.shown c.args.before.now in
    let now : Shown = g.N.Shows.shown c.args.now.now in
    let channels : c.as_slice-channels.result.now ≡ s.channels = c.as_slice-channels.ensures.items ∙ ap (λ (s : Record). s.channels) c.guild.view_is in
    let threads : c.as_slice-threads.result.now ≡ s.threads = c.as_slice-threads.ensures.items ∙ ap (λ (s : Record). s.threads) c.guild.view_is in
    none-listed before now s c.args.user c.in_ok-uncovered.uncovered c.in_ok-gained.gained.items
    (λ id. c.in_ok-uncovered.ensures id ∙ ap (λ (ts : List Thread). uncovers before now ts id) threads)
    (c.in_ok-gained.ensures ∙ ap (λ (cs : List Channel). map channel_id (filter (is_gained before now (is_among c.in_ok-uncovered.uncovered)) cs)) channels)
    (ap (λ n. n == 0) (sym c.in_ok-gained.gained.ok.0) ∙ (sym c.is_empty.ensures ∙ c.if-is_empty.true))

pub returns : goal.returns
returns g c =
    let s : Record = c.args.guild.now in
    let before : Shown = g.B.Shows.shown c.args.before.now in
    let now : Shown = g.N.Shows.shown c.args.now.now in
    let user : ℕ = c.args.user in
    let gained : List ℕ = c.in_ok-gained.gained.items in
    let id : c.guild.inside.id ≡ s.id = ap (λ (s : Record). s.id) c.guild.view_is in
    let channels : c.as_slice-channels.result.now ≡ s.channels = c.as_slice-channels.ensures.items ∙ ap (λ (s : Record). s.channels) c.guild.view_is in
    let threads : c.as_slice-threads.result.now ≡ s.threads = c.as_slice-threads.ensures.items ∙ ap (λ (s : Record). s.threads) c.guild.view_is in
    let parents : c.from_ascending-parents.result ≡ gained = c.from_ascending-parents.ensures ∙ (c.in_ok-from_slice.ensures.items ∙ c.as_slice.ensures.value) in
    let all : List Thread = threads_in now gained s.threads in
    let listed : map (λ thread. thread.now) c.as_slice-2.result.now ≡ all =
    ap (λ ts. map (λ thread. thread.now) ts) c.as_slice-2.ensures.value ∙ (c.in_ok-listed.ensures
    ∙ (ap (λ (ps : List ℕ). threads_in now ps c.as_slice-threads.result.now) parents ∙ ap (λ (ts : List Thread). threads_in now gained ts) threads)) in
    ap (λ told. Some told)
    (c.in_ok-sync.ensures
    ∙ (ap (λ ts. listing c.guild.inside.id user c.from_vec-told.result ts) listed
    ∙ (ap (λ (id : ℕ). listing id user c.from_vec-told.result all) id
    ∙ ap (λ (ps : List ℕ). listing s.id user ps all) c.from_vec-told.ensures)))
    ∙ some-listed before now s user c.in_ok-uncovered.uncovered gained
    (λ id. c.in_ok-uncovered.ensures id ∙ ap (λ (ts : List Thread). uncovers before now ts id) threads)
    (c.in_ok-gained.ensures ∙ ap (λ (cs : List Channel). map channel_id (filter (is_gained before now (is_among c.in_ok-uncovered.uncovered)) cs)) channels)
    (ap (λ n. n == 0) (sym c.in_ok-gained.gained.ok.0) ∙ (sym c.is_empty.ensures ∙ c.if-is_empty.false))
