use Rattle.std.proofs.Common.{◌≡◌, take}
use Rattle.session_core.proofs.bot.copies_of.Given as goal

abbrev pub invariant-loop-bot : goal.invariant-loop-bot
invariant-loop-bot l = l.copies.items ≡ take l.bot-index l.bots
