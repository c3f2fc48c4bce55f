use Rattle.std.proofs.Common.{◌≡◌, ℕ, ◌+◌, ◌*◌, [], ◌∷◌, sym, ap, ◌∙◌, add-one}
use Rattle.edit_text.specs.declared.line.Line.{Line}
use Rattle.edit_text.specs.declared.line.Line.TheVariants.{Edit}
use Rattle.load_maker.specs.declared.entries.Entries.{Entries}
use Rattle.load_maker.specs.Draws.{number_after, number, draw_of}
use Rattle.load_maker.specs.Edits.{guild_id, entry}
use Rattle.load_maker.specs.Script.{entry_line, both_lines}
use Rattle.load_maker.proofs.Ranges.{pair_more}
use Rattle.load_maker.proofs.add_entries.Goals as goal

-- what a guild's entries are after j of them
abbrev entries_at : ℕ → ℕ → ℕ → Entries
entries_at seed guild j = record { guild = guild; number = number seed guild j }

abbrev after_one : Entries → Entries
after_one e = record e { number = number_after e.number }

abbrev next_line : ℕ → Entries → Line
next_line j e = Edit (guild_id e.guild) (entry (guild_id e.guild) j (draw_of (number_after e.number)))

module _ (seed guild j : ℕ) where
  number_more : number_after (number seed guild j) ≡ number seed guild (j + 1)
  number_more = ap (number seed guild) (sym (add-one j))

  moved : (e after : Entries) → e ≡ entries_at seed guild j → after ≡ after_one e → after ≡ entries_at seed guild (j + 1)
  moved e after at moves =
      moves ∙ (ap after_one at ∙ ap (λ x. record { guild = guild; number = x }) number_more)

  made : (e : Entries) (line : Line) → e ≡ entries_at seed guild j → line ≡ next_line j e → line ≡ entry_line seed guild j
  made e line at is =
      is ∙ (ap (next_line j) at ∙ ap (λ x. Edit (guild_id guild) (entry (guild_id guild) j (draw_of x))) number_more)

pub loop-index-preserved : goal.loop-index-preserved
loop-index-preserved c =
    let j = c.loop-index.index in
    let seed = c.args.seed in
    let low = 2 * c.args.part + 1 in
    let high = 2 * c.args.part + 2 in
    let line = c.in_ok-line.line in
    let line_above = c.in_ok-line_above.line_above in
    let below = made seed low j c.loop-index.lower line c.loop-index.invariant.below c.in_ok-line.ensures.made in
    let above = made seed high j c.loop-index.upper line_above c.loop-index.invariant.above c.in_ok-line_above.ensures.made in
    let pair : both_lines seed c.args.part j ≡ line ∷ line_above ∷ [] =
    sym (ap (λ (x : Line). x ∷ line_above ∷ []) below ∙ ap (λ (x : Line). entry_line seed low j ∷ x ∷ []) above) in
    record {
      made = pair_more (both_lines seed c.args.part) c.args.lines.now.items c.loop-index.lines.items c.push.new.self.items
          c.push-in-loop-index.new.self.items line line_above j
          c.loop-index.invariant.made c.in_ok-push.ensures.items c.in_ok-push-2.ensures.items pair;
      below = moved seed low j c.loop-index.lower c.next_line.new.self c.loop-index.invariant.below c.in_ok-line.ensures.moves;
      above = moved seed high j c.loop-index.upper c.next_line-in-loop-index.new.self c.loop-index.invariant.above c.in_ok-line_above.ensures.moves;
    }
