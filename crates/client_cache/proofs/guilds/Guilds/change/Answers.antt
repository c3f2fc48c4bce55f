use Rattle.std.proofs.Common.{◌≡◌, ℕ, Bool, List, if◌then◌else◌, is_some, sym, ap, subst, ◌∙◌}
use Rattle.collections.specs.ById.{put_id, without_id}
use Rattle.guild_model.specs.Record.{own_id}
use Rattle.client_cache.specs.declared.held.HeldGuild.{HeldGuild}
use Rattle.client_cache.specs.Cached.{held_in, entry_of, entry_after, AreViewed}
use Rattle.client_cache.specs.Settled.{may_hide}
use Rattle.client_cache.proofs.Entries.{entry-id, others-either, relisted}
use Rattle.client_cache.proofs.Settled.{unsettled-after, more-unsettled}
use Rattle.client_cache.proofs.guilds.Guilds.change.Goals as goal

pub invariant_of-self : goal.invariant_of-self
invariant_of-self c = rw c.in_default.ensures.err c.self.invariant

pub invariant_of-self-in_default-put : goal.invariant_of-self-in_default-put
invariant_of-self-in_default-put c =
    let marked : c.unsettle.new.unsettled ≡ (if may_hide c.args.dispatch then put_id own_id c.args.guild c.self.inside.unsettled else c.self.inside.unsettled) =
    c.in-Ok.ensures.ok ∙ ap (λ (b : Bool). if b then put_id own_id c.args.guild c.self.inside.unsettled else c.self.inside.unsettled) c.may_hide.ensures in (
      rw c.in_default-put.ensures.err c.self.invariant.0,
      more-unsettled c.args.guild (may_hide c.args.dispatch) c.self.inside.unsettled c.unsettle.new.unsettled c.self.inside.entries c.self.invariant.1 marked,
    )

-- the guild is listed first, and stays so where it has a view now
pub invariant_of-self-2 : goal.invariant_of-self-2
invariant_of-self-2 c =
    let old : List HeldGuild = c.self.inside.entries in
    let now : List HeldGuild = c.change_entry-changed.new.entries in
    let marked : c.unsettle.new.unsettled ≡ (if may_hide c.args.dispatch then put_id own_id c.args.guild c.self.inside.unsettled else c.self.inside.unsettled) =
    c.in-Ok.ensures.ok ∙ ap (λ (b : Bool). if b then put_id own_id c.args.guild c.self.inside.unsettled else c.self.inside.unsettled) c.may_hide.ensures in
    let list : c.relist.new.viewed ≡ (if is_some (held_in 0 now c.args.guild).view then put_id own_id c.args.guild c.self.inside.viewed else without_id own_id c.args.guild (put_id own_id c.args.guild c.self.inside.viewed)) =
    c.relist.ensures
    ∙ (ap (λ (b : Bool). if b then c.put.new.self else without_id own_id c.args.guild c.put.new.self) c.has_view.ensures
    ∙ ap (λ (v : List ℕ). if is_some (held_in 0 now c.args.guild).view then v else without_id own_id c.args.guild v) c.in-Ok-put.ensures.ok) in (
      subst (λ (v : List ℕ). AreViewed v now) (sym list)
          (relisted c.args.guild c.self.inside.viewed old now c.self.invariant.0
          (others-either c.args.guild (entry_after c.args.fold.now.intents c.args.fold.now.bot c.args.dispatch (entry_of c.args.guild old)) old now (entry-id c.args.guild old) c.change_entry-changed.result c.change_entry-changed.ensures.ok c.change_entry-changed.ensures.err)),
      unsettled-after c.args.fold.now.intents c.args.fold.now.bot c.args.guild c.args.dispatch c.self.inside.unsettled c.unsettle.new.unsettled old now c.self.invariant.1 marked c.change_entry-changed.result c.change_entry-changed.ensures.ok c.change_entry-changed.ensures.err,
    )
