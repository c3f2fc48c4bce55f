use Rattle.std.proofs.Common.{◌≡◌, true, false, IsSome, ℕ, sym, ap, subst, ◌∙◌}
use Rattle.std.proofs.lemmas.Result.{on_ok_weaker, on_err_weaker}
use Rattle.collections.specs.ById.{find_id, has_id, put_id}
use Rattle.client_cache.specs.declared.held.HeldGuild.{HeldGuild}
use Rattle.client_cache.specs.Cached.{held_id, entry_of, taken_out, entry_after}
use Rattle.client_cache.proofs.Entries.{entry-id, put-taken, put-same-taken, none-taken}
use Rattle.client_cache.proofs.guilds.change_entry.Goals as goal

pub replace-requires : goal.replace-requires
replace-requires c =
    let same : c.change-changed.new.held.id ≡ c.args.guild = c.change-changed.ensures.id ∙ (ap held_id c.entry_or_empty-entry.ensures.entry ∙ entry-id c.args.guild c.args.entries.now) in
    subst (λ (n : ℕ). IsSome (find_id held_id n c.entry_or_empty-entry.new.entries)) (c.guild.view_is ∙ sym same) (sym c.contains.ensures ∙ c.if-contains.true)

-- the entry that was taken out is put back, changed or as it was
pub returns-then-contains-clause-ok : goal.returns-then-contains-clause-ok
returns-then-contains-clause-ok c =
    let entries = c.args.entries.now in
    let now : HeldGuild = c.change-changed.new.held in
    let same : now.id ≡ c.args.guild = c.change-changed.ensures.id ∙ (ap held_id c.entry_or_empty-entry.ensures.entry ∙ entry-id c.args.guild entries) in
    on_ok_weaker c.change-changed.result
    (λ is. c.replace.ensures
    ∙ (ap (put_id held_id now) c.entry_or_empty-entry.ensures.left
    ∙ (put-taken c.args.guild entries now c.as_slice-entries.ensures.ascending same
    ∙ ap (λ (e : HeldGuild). put_id held_id e entries) (is ∙ ap (entry_after c.args.fold.now.intents c.args.fold.now.bot c.args.dispatch) c.entry_or_empty-entry.ensures.entry))))
    c.change-changed.ensures.ok

pub returns-then-contains-clause-err : goal.returns-then-contains-clause-err
returns-then-contains-clause-err c =
    let entries = c.args.entries.now in
    let there : has_id held_id c.args.guild (taken_out c.args.guild entries) ≡ true = rw (← c.entry_or_empty-entry.ensures.left, ← c.guild.view_is) (sym c.contains.ensures ∙ c.if-contains.true) in
    on_err_weaker c.change-changed.result
    (λ is. c.replace.ensures
    ∙ (ap (λ (e : HeldGuild). put_id held_id e c.entry_or_empty-entry.new.entries) (is ∙ c.entry_or_empty-entry.ensures.entry)
    ∙ (ap (put_id held_id (entry_of c.args.guild entries)) c.entry_or_empty-entry.ensures.left
    ∙ put-same-taken c.args.guild entries c.as_slice-entries.ensures.ascending there)))
    c.change-changed.ensures.err

-- a guild that had no entry gets one, or none
pub returns-in_default-clause-err : goal.returns-in_default-clause-err
returns-in_default-clause-err c =
    let none : has_id held_id c.args.guild (taken_out c.args.guild c.args.entries.now) ≡ false = rw (← c.entry_or_empty-entry.ensures.left, ← c.guild.view_is) (sym c.contains.ensures ∙ c.if-contains.false) in
    c.entry_or_empty-entry.ensures.left ∙ none-taken c.args.guild c.args.entries.now none

pub returns-clause-ok : goal.returns-clause-ok
returns-clause-ok c =
    let entries = c.args.entries.now in
    let now : HeldGuild = c.change-changed.new.held in
    let same : now.id ≡ c.args.guild = c.change-changed.ensures.id ∙ (ap held_id c.entry_or_empty-entry.ensures.entry ∙ entry-id c.args.guild entries) in
    on_ok_weaker c.put.result
    (λ is. is
    ∙ (ap (put_id held_id now) c.entry_or_empty-entry.ensures.left
    ∙ (put-taken c.args.guild entries now c.as_slice-entries.ensures.ascending same
    ∙ ap (λ (e : HeldGuild). put_id held_id e entries) (c.in-Ok.ensures.ok ∙ ap (entry_after c.args.fold.now.intents c.args.fold.now.bot c.args.dispatch) c.entry_or_empty-entry.ensures.entry))))
    c.put.ensures.ok

pub returns-clause-err : goal.returns-clause-err
returns-clause-err c =
    let none : has_id held_id c.args.guild (taken_out c.args.guild c.args.entries.now) ≡ false = rw (← c.entry_or_empty-entry.ensures.left, ← c.guild.view_is) (sym c.contains.ensures ∙ c.if-contains.false) in
    on_err_weaker c.put.result (λ is. is ∙ (c.entry_or_empty-entry.ensures.left ∙ none-taken c.args.guild c.args.entries.now none)) c.put.ensures.err
