-- What is noted of the record before an edit is enough.
use Rattle.std.proofs.Common.{◌≡◌, ℕ, Bool, true, false, not, ◌&&◌, List, ◌++◌, map, Option, Some, None, refl, sym, ap, ◌∙◌}
use Rattle.std.specs.Prelude.{filter, flat_map, is_some, option_map}
use Rattle.std.proofs.lemmas.List.Elements.{All-weaker}
use Rattle.collections.specs.ById.{find_id, has_id}
use Rattle.collections.proofs.Finds.{find-map}
use Rattle.guild_model.specs.declared.channel.Channel.{Channel}
use Rattle.guild_model.specs.declared.member.Member.{Member}
use Rattle.guild_model.specs.Record.{Record, own_id, channel_id}
use Rattle.guild_model.specs.Sight.{standing}
use Rattle.dispatch_types.specs.declared.viewer.Viewer.{Viewer}
use Rattle.dispatch_types.specs.declared.dispatch.Dispatch.{Dispatch}
use Rattle.guild_model.specs.Shown.{is_shown, channel_shown, hidden_channels}
use Rattle.channel_privacy.specs.Withheld.{Showing, is_lost, is_gained, lost, gained, losses, gains, is_sync}
use Rattle.channel_privacy.specs.ByNote.{shown_before, lost_by, gained_by, losses_by, gains_by, rows_by}
use Rattle.channel_privacy.specs.Law.{showing, NoteIsEnough}
use Rattle.channel_privacy.proofs.Filters.{filter-both, filter-alike_in, each-has}
use Rattle.channel_privacy.proofs.Lost.{has-kept}

module _ (private : Bool) (s : Record) (me : Member) (private' : Bool) (t : Record) (me' : Member) (v : Viewer) (same : t.id ≡ s.id) where
  abbrev x : Showing
  x = showing private s me private' t me'

  before-shown : (id : ℕ) → x.before id ≡ (has_id channel_id id s.channels && is_shown private (standing s me) id)
  before-shown id = has-kept (is_shown private (standing s me)) s.channels id

  hidden-shown : (id : ℕ) → has_id own_id id (map channel_id (hidden_channels private s me)) ≡ (has_id channel_id id s.channels && not (is_shown private (standing s me) id))
  hidden-shown id =
      ap (λ (o : Option ℕ). is_some o) (find-map channel_id own_id channel_id (λ c. refl) id (hidden_channels private s me))
      ∙ (still (find_id channel_id id (hidden_channels private s me)) ∙ has-kept (λ channel. not (is_shown private (standing s me) channel)) s.channels id)
    where
      still : (o : Option Channel) → is_some (option_map channel_id o) ≡ is_some o
      still None = refl
      still (Some c) = refl

  same-losses : losses_by (shown_before private s me) private' t me' v ≡ losses s t x v
  same-losses =
      ap (λ id. flat_map (lost id v) (filter (lost_by (shown_before private s me) private' t me') (filter (channel_shown private s me) s.channels))) same
      ∙ ap (λ (cs : List Channel). flat_map (lost s.id v) cs)
      (filter-both (lost_by (shown_before private s me) private' t me') (channel_shown private s me) s.channels
      ∙ filter-alike_in (λ c. channel_shown private s me c && lost_by (shown_before private s me) private' t me' c) (λ c. is_lost s t x c.id) s.channels
      (All-weaker (λ (c : Channel). has_id channel_id c.id s.channels ≡ true) (λ (c : Channel). (channel_shown private s me c && lost_by (shown_before private s me) private' t me' c) ≡ is_lost s t x c.id)
      (λ c there. by_tests c (has_id channel_id c.id s.channels) (has_id channel_id c.id t.channels) (is_shown private (standing s me) c.id) (is_shown private' (standing t me') c.id) there
      ∙ sym (ap (λ b. (has_id channel_id c.id s.channels && has_id channel_id c.id t.channels) && (b && not (is_shown private' (standing t me') c.id))) (before-shown c.id)))
      s.channels (each-has channel_id s.channels)))
    where
      by_tests : (c : Channel) (a b d e : Bool) → a ≡ true → (d && (b && not e)) ≡ ((a && b) && ((a && d) && not e))
      by_tests c true true true e is = refl
      by_tests c true true false e is = refl
      by_tests c true false true e is = refl
      by_tests c true false false e is = refl
      by_tests c false b d e is = absurd (cc)

  same-gains : gains_by (shown_before private s me) private' t me' v ≡ gains s t x v
  same-gains =
      ap (λ (cs : List Channel). flat_map (gained t v) cs)
      (filter-alike_in (gained_by (shown_before private s me) private' t me') (λ c. is_gained s t x c.id) t.channels
      (All-weaker (λ (c : Channel). has_id channel_id c.id t.channels ≡ true) (λ (c : Channel). gained_by (shown_before private s me) private' t me' c ≡ is_gained s t x c.id)
      (λ c there. ap (λ b. b && is_shown private' (standing t me') c.id) (hidden-shown c.id)
      ∙ (by_tests (has_id channel_id c.id s.channels) (has_id channel_id c.id t.channels) (is_shown private (standing s me) c.id) (is_shown private' (standing t me') c.id) there
      ∙ sym (ap (λ b. (has_id channel_id c.id s.channels && has_id channel_id c.id t.channels) && (not b && is_shown private' (standing t me') c.id)) (before-shown c.id))))
      t.channels (each-has channel_id t.channels)))
    where
      by_tests : (a b d e : Bool) → b ≡ true → ((a && not d) && e) ≡ ((a && b) && (not (a && d) && e))
      by_tests true true true e is = refl
      by_tests true true false e is = refl
      by_tests false true d e is = refl
      by_tests a false d e is = absurd (cc)

pub note_is_enough : NoteIsEnough
note_is_enough private s me private' t me' v ds same =
    let rows : List Dispatch = rows_by (shown_before private s me) private' t me' ds in
    ap (λ (es : List Dispatch). rows ++ (es ++ (gains_by (shown_before private s me) private' t me' v ++ filter is_sync ds))) (same-losses private s me private' t me' v same)
    ∙ ap (λ (es : List Dispatch). rows ++ (losses s t (showing private s me private' t me') v ++ (es ++ filter is_sync ds))) (same-gains private s me private' t me' v same)
