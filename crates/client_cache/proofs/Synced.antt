-- The threads of a sync, and the own member of GUILD_CREATE.
use Rattle.std.proofs.Common.{◌≡◌, ℕ, List, [], map, refl, sym, ap, ◌∙◌}
use Rattle.std.specs.Prelude.{◌==◌, filter, not}
use Rattle.std.specs.List.{find}
use Rattle.std.proofs.lemmas.List.Elements.{filter_agree}
use Rattle.collections.specs.ById.{has_id, put_all}
use Rattle.guild_model.specs.declared.member.Member.{Member}
use Rattle.guild_model.specs.Record.{own_id, member_id}
use Rattle.dispatch_types.specs.declared.members.MemberObject.{MemberObject}
use Rattle.dispatch_types.specs.declared.threads.ThreadObject.{ThreadObject}
use Rattle.dispatch_types.specs.declared.threads.ThreadMemberObject.{ThreadMemberObject}
use Rattle.dispatch_types.specs.declared.view.ThreadView.{ThreadView}
use Rattle.dispatch_types.specs.Objects.{member_of}
use Rattle.dispatch_types.specs.Fold.{thread_view_id, contains, user_id, own_member, synced_thread}
use Rattle.client_cache.specs.Sent.{object_id}
use Rattle.client_cache.proofs.Lists.{has-all, has-made, has-contains, find-made}

-- the listed ids are those of the threads that come
pub listed-ids : (intents : ℕ) (ms : List ThreadMemberObject) (ts : List ThreadObject) (id : ℕ) → has_id own_id id (put_all own_id [] (map object_id ts)) ≡ has_id thread_view_id id (put_all thread_view_id [] (map (synced_thread intents ms) ts))
listed-ids intents ms ts id =
    has-all own_id id (map object_id ts)
    ∙ (has-made object_id object_id own_id (λ t. refl) id ts
    ∙ sym (has-all thread_view_id id (map (synced_thread intents ms) ts)
    ∙ has-made (synced_thread intents ms) object_id thread_view_id (λ t. refl) id ts))

-- the threads under parents that are not listed, by the parents in order
pub other_parents : (parents : List ℕ) (ts : List ThreadView) → filter (λ (t : ThreadView). not (has_id own_id t.parent (put_all own_id [] parents))) ts ≡ filter (λ (t : ThreadView). not (contains t.parent parents)) ts
other_parents parents ts = filter_agree _ _ (λ (t : ThreadView). ap not (has-all own_id t.parent parents ∙ has-contains t.parent parents)) ts

-- the own member is found before or after the members are made
pub own_found : (bot : ℕ) (os : List MemberObject) → find (λ (m : Member). m.user.id == bot) (map member_of os) ≡ own_member bot os
own_found bot os = find-made member_of user_id member_id (λ o. refl) bot os
