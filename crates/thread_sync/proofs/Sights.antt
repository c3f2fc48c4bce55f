-- A member that is granted what it was, wherever threads stand, sees the threads that it saw.
use Rattle.std.proofs.Common.{◌≡◌, ℕ, Bool, true, false, not, ◌&&◌, ◌||◌, List, map, Some, refl, sym, ap, ◌∙◌, arith}
use Rattle.std.specs.Prelude.{◌==◌, filter}
use Rattle.std.proofs.lemmas.Bool.{eqb-true, false_from_ne_true}
use Rattle.std.proofs.lemmas.Bool.Decides.{nat_tests}
use Rattle.collections.specs.ById.{find_id, has_id, put_id, changed_id, without_id, IsById}
use Rattle.collections.proofs.Finds.{found-filter, IsById-filter}
use Rattle.collections.proofs.Filters.{filter-swap}
use Rattle.collections.proofs.Mapped.{filter-same}
use Rattle.perm_bits.specs.Permissions.{view_channel, manage_threads}
use Rattle.guild_model.specs.declared.member.Member.{Member}
use Rattle.guild_model.specs.declared.role.Role.{Role}
use Rattle.guild_model.specs.declared.channel.Channel.{Channel}
use Rattle.guild_model.specs.declared.thread.Thread.{Thread}
use Rattle.guild_model.specs.declared.thread.ThreadKind.{ThreadKind}
use Rattle.guild_model.specs.declared.voice.Voice.{Voice}
use Rattle.guild_model.specs.declared.message.MessageHead.{MessageHead}
use Rattle.guild_model.specs.Record.{Record, own_id, role_id, member_id, channel_id, thread_id}
use Rattle.guild_model.specs.Consistent.{IsConsistent}
use Rattle.guild_model.proofs.Tests.{parent-there}
use Rattle.guild_model.specs.Sight.{Standing, standing, granted, is_private, is_in, sees_in, member_sees}
use Rattle.dispatch_types.specs.declared.view.ThreadView.{ThreadView}
use Rattle.dispatch_types.specs.Projection.{is_active, thread_view, seen_threads}
use Rattle.thread_sync.specs.Sight.{KeepsGrants}
use Rattle.thread_sync.specs.Law.{ThreadsStay}
use Rattle.thread_sync.proofs.Lists.{filter-map}
use Rattle.thread_sync.proofs.Grants.{granted-member, granted-role, granted-put, granted-without, granted-mapped, granted-changed}

-- the same grants show the same
pub same-sees_in : (u v : Standing) (parent : ℕ) → ((b : ℕ) → granted v parent b ≡ granted u parent b) → (kind : ThreadKind) (joined : Bool) → sees_in v parent kind joined ≡ sees_in u parent kind joined
same-sees_in u v parent same kind joined =
    ap (λ views. views && (not (is_private kind) || joined || granted v parent manage_threads)) (same view_channel)
    ∙ ap (λ manages. granted u parent view_channel && (not (is_private kind) || joined || manages)) (same manage_threads)

pub same-sight : (s t : Record) (me me' : Member) → IsById thread_id s.threads → t.threads ≡ s.threads → me'.user.id ≡ me.user.id → KeepsGrants s me t me' → seen_threads t me' ≡ seen_threads s me
same-sight s t me me' ascends same user grants =
    ap (filter (λ (x : Thread). is_active x && member_sees t me' x)) same
    ∙ filter-same thread_id (λ (x : Thread). is_active x && member_sees t me' x) (λ (x : Thread). is_active x && member_sees s me x) s.threads ascends
    (λ id x found. ap (λ sees. is_active x && sees)
    (same-sees_in (standing s me) (standing t me') x.parent (λ b. grants id b x found) x.kind (is_in me'.user.id x)
    ∙ ap (λ u. sees_in (standing s me) x.parent x.kind (is_in u x)) user))

pub threads_stay : ThreadsStay
threads_stay s t me me' intents known known' ascends same user grants =
    ap (λ u. map (thread_view intents u) (seen_threads t me')) user ∙ ap (map (thread_view intents me.user.id)) (same-sight s t me me' ascends.threads same user grants)

-- the kinds of change that leave the grants
module _ (s : Record) (me : Member) where
  -- a role that comes, which nobody holds yet
  pub role-created-keeps : (r : Role) (user : ℕ) → IsConsistent s → s.opened ≡ true → find_id member_id user s.members ≡ Some me → has_id role_id r.id s.roles ≡ false
      → KeepsGrants s me (record s { roles = put_id role_id r s.roles }) me
  role-created-keeps r user consistent opened found new id b thread there =
      granted-role (standing s me) r thread.parent b
      (false_from_ne_true (r.id == s.id) (λ is. let here : r.id ≡ s.id = eqb-true r.id s.id is in let all = consistent.everyone opened in absurd (cc)))
      (false_from_ne_true (has_id own_id r.id me.roles) (λ held. let has = (consistent.held user r.id me found held).0 in absurd (cc)))

  -- members that change, of whom the own one keeps its roles
  pub members-changed-keep : (ms : List Member) (me' : Member) → me'.user.id ≡ me.user.id → me'.roles ≡ me.roles → KeepsGrants s me (record s { members = ms }) me'
  members-changed-keep ms me' user held id b thread there = granted-member (standing s me) me' thread.parent b user held

  -- a channel that comes
  pub channel-created-keeps : (c : Channel) → IsConsistent s → has_id channel_id c.id s.channels ≡ false → KeepsGrants s me (record s { channels = put_id channel_id c s.channels }) me
  channel-created-keeps c consistent new id b thread there = granted-put (standing s me) c thread.parent b (apart (c.id == thread.parent) refl)
    where
      apart : (here : Bool) → (c.id == thread.parent) ≡ here → here ≡ false
      apart true is =
          let at : c.id ≡ thread.parent = eqb-true c.id thread.parent is in
          let has : has_id channel_id thread.parent s.channels ≡ true = parent-there (find_id channel_id thread.parent s.channels) (consistent.parents id thread there) in
          absurd (cc)
      apart false is = refl

  -- a channel that changes in all but its overwrites
  pub channel-changed-keeps : (f : Channel → Channel) (at : ℕ) → ((c : Channel) → (f c).id ≡ c.id) → ((c : Channel) → (f c).overwrites ≡ c.overwrites)
      → KeepsGrants s me (record s { channels = changed_id channel_id at f s.channels }) me
  channel-changed-keeps f at same overwrites id b thread there = granted-changed f same overwrites (standing s me) at thread.parent b

  -- a channel that goes with its threads: of those that were seen the others stay
  pub channel-gone : (gone intents : ℕ) (f : Channel → Channel) (vs : List Voice) (ms : List MessageHead) → ((c : Channel) → (f c).id ≡ c.id) → ((c : Channel) → (f c).overwrites ≡ c.overwrites) → IsById thread_id s.threads
      → map (thread_view intents me.user.id) (seen_threads (record s { channels = map f (without_id channel_id gone s.channels); threads = filter (λ (t : Thread). not (t.parent == gone)) s.threads; voices = vs; messages = ms }) me)
      ≡ filter (λ (t : ThreadView). not (t.parent == gone)) (map (thread_view intents me.user.id) (seen_threads s me))
  channel-gone gone intents f vs ms same overwrites ascends =
      ap (map (thread_view intents me.user.id))
      (filter-same thread_id (sees_after) sees_before (filter stays s.threads) (IsById-filter thread_id stays s.threads ascends) agree
      ∙ filter-swap thread_id sees_before stays s.threads ascends)
      ∙ sym (filter-map (thread_view intents me.user.id) (λ (t : ThreadView). not (t.parent == gone)) (seen_threads s me))
    where
      stays : Thread → Bool
      stays t = not (t.parent == gone)

      sees_before : Thread → Bool
      sees_before t = is_active t && member_sees s me t

      sees_after : Thread → Bool
      sees_after t = is_active t && sees_in (record (standing s me) { channels = map f (without_id channel_id gone s.channels) }) t.parent t.kind (is_in me.user.id t)

      elsewhere : (parent b : ℕ) → not (parent == gone) ≡ true → granted (record (standing s me) { channels = map f (without_id channel_id gone s.channels) }) parent b ≡ granted (standing s me) parent b
      elsewhere parent b other =
          granted-mapped f same overwrites (standing s me) (without_id channel_id gone s.channels) parent b
          ∙ granted-without (standing s me) gone parent b (grind (arith, nat_tests))

      agree : (id : ℕ) (t : Thread) → find_id thread_id id (filter stays s.threads) ≡ Some t → sees_after t ≡ sees_before t
      agree id t found =
          ap (λ sees. is_active t && sees)
          (same-sees_in (standing s me) (record (standing s me) { channels = map f (without_id channel_id gone s.channels) }) t.parent
          (λ b. elsewhere t.parent b (found-filter thread_id stays id s.threads t ascends found).0) t.kind (is_in me.user.id t))
