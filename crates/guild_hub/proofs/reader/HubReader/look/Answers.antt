use Rattle.std.proofs.Common.{◌≡◌, ◌<◌, ◌∙◌, ◌∷◌, [], ◌++◌, length, inr, sym, subst}
use Rattle.left_right.specs.Sides.{view}
use Rattle.guild_hub.specs.Logs.{GoesOn, base_of}
use Rattle.guild_hub.specs.Rules.{FindsEntries}
use Rattle.guild_hub.proofs.Growing.{looks, lags, gives_up}
use Rattle.guild_hub.proofs.reader.HubReader.look.Goals as goal

pub returns-clause-ok : goal.returns-clause-ok
returns-clause-ok c =
    let found = c.in-Ok.found in
    let later : GoesOn c.self.inside.note found.note = subst (λ l. GoesOn l found.note) c.again.ensures c.in-Ok.ensures.1.1.0 in
    let kept : FindsEntries c.self.inside.cursor found.note c.in-Some.entries.items = rw c.in-Some.is at c.in-Ok.ensures.1.1.1 in
    let same : c.in-Ok-copies.entries.items ≡ c.in-Some.entries.items = c.in-Ok-copies.ensures ∙ c.deref.ensures.value in
    let gives : FindsEntries c.self.inside.cursor found.note c.in-Ok-copies.entries.items = subst (FindsEntries c.self.inside.cursor found.note) (sym same) kept in
    let len : c.len-self-inside.result ≡ length found.note.entries = c.len-self-inside.ensures in
    let before = (view c.self.inside.reader.place).enters in
    let enters : (view c.replace_with.new.dest.place).enters ≡ before ++ found.note ∷ [] = c.in-Ok.ensures.1.0 in
    let quit = c.look-quit.ensures in
    rw (← c.self.view_is, len, enters)
    (looks c.self.inside.note found.note c.self.inside.base c.self.inside.cursor before c.self.inside.watch c.look-quit.new.self _ later c.self.invariant.0 c.self.invariant.1 gives c.is_sealed-sealed.ensures quit.found quit.mark quit.load)

pub returns-in_default-clause-err : goal.returns-in_default-clause-err
returns-in_default-clause-err c =
    let before = (view c.self.inside.reader.place).enters in
    let quit = c.look-quit.ensures in
    rw (← c.self.view_is)
    (gives_up c.self.inside.note c.self.inside.base c.self.inside.cursor before (view c.replace_with.new.dest.place).enters c.self.inside.watch c.look-quit.new.self c.self.invariant.0 c.self.invariant.1 c.in_default.ensures.1.0 quit.mark quit.load)

pub returns-in_default-entries-clause-err : goal.returns-in_default-entries-clause-err
returns-in_default-entries-clause-err c =
    let found = c.in-Ok.found in
    let later : GoesOn c.self.inside.note found.note = subst (λ l. GoesOn l found.note) c.again.ensures c.in-Ok.ensures.1.1.0 in
    let before = (view c.self.inside.reader.place).enters in
    let enters : (view c.replace_with.new.dest.place).enters ≡ before ++ found.note ∷ [] = c.in-Ok.ensures.1.0 in
    let trimmed : c.self.inside.cursor < base_of found.note = rw c.in_default-entries.is at c.in-Ok.ensures.1.1.1 in
    let past : c.self.inside.cursor < c.base-base.result = subst (λ n. c.self.inside.cursor < n) (sym c.base-base.ensures) trimmed in
    let quit = c.look-quit.ensures in
    rw (← c.self.view_is, enters)
    (lags c.self.inside.note found.note c.self.inside.base c.self.inside.cursor before c.self.inside.watch c.look-quit.new.self c.base-base.result later c.self.invariant.0 c.self.invariant.1 c.base-base.ensures past quit.mark quit.load)

pub returns-in_default-copies-clause-err : goal.returns-in_default-copies-clause-err
returns-in_default-copies-clause-err c =
    let before = (view c.self.inside.reader.place).enters in
    let quit = c.look-quit.ensures in
    rw (← c.self.view_is)
    (gives_up c.self.inside.note c.self.inside.base c.self.inside.cursor before (view c.replace_with.new.dest.place).enters c.self.inside.watch c.look-quit.new.self c.self.invariant.0 c.self.invariant.1 (inr (c.in-Ok.found.note, c.in-Ok.ensures.1.0)) quit.mark quit.load)
