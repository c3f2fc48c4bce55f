-- internal: cited by private functions only
-- How a client ends.
use Rattle.std.specs.Prelude.{◌≡◌, ◌⊎◌, ℕ, List, [], ◌++◌, Bool, true, false, Result, Ok, Err}
use Rattle.std.specs.Io.KnownBytes.{Appends}
use Rattle.gate_outside.specs.Causes.{Rose}
use Rattle.gate_outside.specs.Streams.{AppendsFront}
use Rattle.client_run.specs.declared.driven.Driven.{Driven}
use Rattle.client_run.specs.declared.driven.Driven.TheVariants as driven
use Rattle.client_run.specs.declared.fault.DriveFault.{DriveFault}
use Rattle.client_run.specs.declared.fault.DriveFault.TheVariants as drive
use Rattle.client_follow.specs.declared.fault.FollowFault.{FollowFault}
use Rattle.client_follow.specs.declared.fault.FollowFault.TheVariants.{Write, Memory}
use Rattle.client_follow.specs.Follows.{SinkTale, IsAnswer, Writes}

-- whether something may be written after a client that ended so
abbrev pub may_write : Result Driven DriveFault → Bool
may_write (Ok driven.Finished) = true
may_write (Ok driven.Stopped) = false
may_write (Err drive.Dials) = true
may_write (Err (drive.Out code)) = true
may_write (Err drive.BadText) = true
may_write (Err drive.Memory) = false

-- the answer where the sink has failed: that, if nothing else was wrong
abbrev pub or_write : Result (Unit {0}) FollowFault → Result (Unit {0}) FollowFault
or_write (Ok u) = Err Write
or_write (Err f) = Err f

-- the whole text went out and the answer stays; or a front of it did, and the sink failed or memory ran out
abbrev pub IsWritten : Result (Unit {0}) FollowFault → List ℕ → SinkTale → SinkTale → Result (Unit {0}) FollowFault → Type 0
IsWritten answer text old new result =
    ((result ≡ answer) × Appends old.got new.got (old.waits ++ text) × (new.waits ≡ []))
    ⊎ (AppendsFront old.got new.got (old.waits ++ text) × (((result ≡ or_write answer) × Rose old.faults new.faults) ⊎ (result ≡ Err Memory)))

-- nothing more is written, and this is answered
pub record IsLeft (old new : SinkTale) (result answer : Result (Unit {0}) FollowFault) : Type 0 where
  pub got : new.got ≡ old.got
  pub faults : new.faults ≡ old.faults
  pub answered : result ≡ answer

-- what is said at the end is written, unless the sink has failed or memory ran out before
abbrev pub Ends : Result Driven DriveFault → List ℕ → SinkTale → SinkTale → Result (Unit {0}) FollowFault → Type 0
Ends (Ok driven.Stopped) said old new result = IsLeft old new result (Err Write)
Ends (Err drive.Memory) said old new result = IsLeft old new result (Err Memory)
Ends (Ok driven.Finished) said old new result = IsAnswer (Ok driven.Finished) result × Writes said old new result
Ends (Err drive.Dials) said old new result = IsAnswer (Err drive.Dials) result × Writes said old new result
Ends (Err (drive.Out code)) said old new result = IsAnswer (Err (drive.Out code)) result × Writes said old new result
Ends (Err drive.BadText) said old new result = IsAnswer (Err drive.BadText) result × Writes said old new result
