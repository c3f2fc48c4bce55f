-- What a writer is, and how it refuses an entry.
use Rattle.std.specs.Prelude.{◌≡◌, ◌<◌, ◌-◌, ◌^◌, ℕ, List, [], replicate, Bool, true, false, length}
use Rattle.guild_hub.specs.Logs.{Published}
use Rattle.logbook.specs.Pages.{Book}
use Rattle.guild_hub.specs.Sights.{Seeing, seeing, unseen, watching}
use Rattle.guild_hub.specs.declared.writer.HubRefused.{HubRefused}
use Rattle.guild_hub.specs.declared.writer.HubRefused.TheVariants.{Full, Memory}

-- a writer: its log, the mark that it stores when it quits, and whether it may do no more than quit
pub record Publishing : Type 0 where
  pub log : Published
  pub mark : Book
  pub spent : Bool

abbrev pub publishing : Published → Book → Bool → Publishing
publishing log mark spent = record { log = log; mark = mark; spent = spent }

-- a log of the most entries is full, and stays as it is; else memory is out, and the writer is spent
abbrev pub Refuses : Publishing → Publishing → HubRefused → Type 0
Refuses before after Full = (length before.log.entries ≡ 2 ^ 53 - 1) × (after ≡ before)
Refuses before after Memory = (length before.log.entries < 2 ^ 53 - 1) × (after ≡ publishing before.log before.mark true)

-- a new hub has an empty log, and so many readers that have not looked
pub record Opens (guild places : ℕ) (writer : Publishing) (readers : List Seeing) : Type 0 where
  pub empty : writer.log.entries ≡ []
  pub unsealed : writer.log.sealed ≡ false
  pub unspent : writer.spent ≡ false
  pub of_guild : writer.log.hub.guild ≡ guild
  pub unseen : readers ≡ replicate places (seeing (unseen writer.log.hub) writer.log [] (watching writer.mark []))
