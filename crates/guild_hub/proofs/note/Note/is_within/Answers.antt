use Rattle.std.proofs.Common.{◌∙◌, ◌+◌, ◌≤◌, List, length, ap, sym, subst, arith}
use mathlib.Core.List.{IsPrefix}
use Rattle.guild_hub.specs.declared.item.Item.{Item}
use Rattle.guild_hub.specs.Logs.{Published}
use Rattle.guild_hub.specs.Items.{edits_of, has_seal, seals}
use Rattle.guild_hub.proofs.Histories.{compared}
use Rattle.guild_hub.proofs.note.Note.is_within.Goals as goal

pub returns-then-items : goal.returns-then-items
returns-then-items c =
    let mine = c.self.inside.seen.log in
    let theirs = c.other.inside.seen.log in
    let hub = ap (λ (p : Published). p.hub) c.self.view_is ∙ (c.requires ∙ sym (ap (λ (p : Published). p.hub) c.other.view_is)) in
    let this : IsPrefix mine c.learn.new.self.log = subst (λ (l : List Item). IsPrefix l c.learn.new.self.log) (ap (λ s. s.log) c.again-both.ensures) c.learn.ensures.2 in
    let fewer : length (edits_of mine) + seals (has_seal mine) ≤ length (edits_of theirs) + seals (has_seal theirs) =
    omega (arith, c.items.ensures, c.items-2.ensures, ap (λ (p : Published). length p.entries + seals p.sealed) c.self.view_is, ap (λ (p : Published). length p.entries + seals p.sealed) c.other.view_is) in
    rw (← c.self.view_is, ← c.other.view_is)
    (compared c.self.inside.guild c.other.inside.guild c.self.inside.seen.book c.other.inside.seen.book mine theirs c.learn.new.self.log hub c.self.invariant.0 c.other.invariant.0 this c.learn.ensures.3 fewer)

pub returns : goal.returns
returns c =
    let mine = c.self.inside.seen.log in
    let theirs = c.other.inside.seen.log in
    let hub = ap (λ (p : Published). p.hub) c.self.view_is ∙ (c.requires ∙ sym (ap (λ (p : Published). p.hub) c.other.view_is)) in
    let this : IsPrefix mine c.learn.new.self.log = subst (λ (l : List Item). IsPrefix l c.learn.new.self.log) (ap (λ s. s.log) c.again-both.ensures) c.learn.ensures.2 in
    let fewer : length (edits_of theirs) + seals (has_seal theirs) ≤ length (edits_of mine) + seals (has_seal mine) =
    omega (arith, c.items.ensures, c.items-2.ensures, ap (λ (p : Published). length p.entries + seals p.sealed) c.self.view_is, ap (λ (p : Published). length p.entries + seals p.sealed) c.other.view_is) in
    rw (← c.self.view_is, ← c.other.view_is)
    (compared c.other.inside.guild c.self.inside.guild c.other.inside.seen.book c.self.inside.seen.book theirs mine c.learn.new.self.log (sym hub) c.other.invariant.0 c.self.invariant.0 c.learn.ensures.3 this fewer)
