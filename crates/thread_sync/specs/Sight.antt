-- Changes of a guild after which a member sees what it saw.
use Rattle.std.specs.Prelude.{◌≡◌, ℕ, Some}
use Rattle.collections.specs.ById.{find_id}
use Rattle.guild_model.specs.declared.member.Member.{Member}
use Rattle.guild_model.specs.declared.thread.Thread.{Thread}
use Rattle.guild_model.specs.Record.{Record, thread_id}
use Rattle.guild_model.specs.Sight.{standing, granted}

-- in the parent of each thread the member is granted what it was
abbrev pub KeepsGrants : Record → Member → Record → Member → Type 0
KeepsGrants s me t me' = (id b : ℕ) (thread : Thread) → find_id thread_id id s.threads ≡ Some thread
    → granted (standing t me') thread.parent b ≡ granted (standing s me) thread.parent b
