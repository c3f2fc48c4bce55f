use Rattle.std.proofs.Common.{◌≡◌, ℕ, ◌<◌, false, get_or}
use Rattle.open_links.specs.Links.{Held}
use Rattle.open_links.proofs.numbered.first_done_of.Given as goal

-- none before this one is done with
abbrev pub invariant-loop-link : goal.invariant-loop-link
invariant-loop-link g l = (k : ℕ) (d : Held) → k < l.link-index → (get_or l.links k d).done ≡ false
