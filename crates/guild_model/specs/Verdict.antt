-- The number and the name of each verdict.
use Rattle.std.specs.Prelude.{ℕ, List, codes}
use Rattle.guild_model.specs.declared.verdict.Verdict.{Verdict}
use Rattle.guild_model.specs.declared.verdict.Verdict.TheVariants.{NotOpen, AlreadyOpen, Unavailable, UnknownRole, UnknownMember, UnknownChannel, UnknownThread, UnknownMessage, IdTaken, WrongType, EveryoneRole, OwnerStays, Archived, NotArchived, InThread, NotInThread, NotInVoice, TooMany, TooLong}

abbrev pub verdict_number : Verdict → ℕ
verdict_number NotOpen = 1
verdict_number AlreadyOpen = 2
verdict_number Unavailable = 3
verdict_number UnknownRole = 4
verdict_number UnknownMember = 5
verdict_number UnknownChannel = 6
verdict_number UnknownThread = 7
verdict_number UnknownMessage = 8
verdict_number IdTaken = 9
verdict_number WrongType = 10
verdict_number EveryoneRole = 11
verdict_number OwnerStays = 12
verdict_number Archived = 13
verdict_number NotArchived = 14
verdict_number InThread = 15
verdict_number NotInThread = 16
verdict_number NotInVoice = 17
verdict_number (TooMany limit) = 18
verdict_number (TooLong limit) = 19

abbrev pub verdict_name : Verdict → List ℕ
verdict_name NotOpen = codes "NotOpen"
verdict_name AlreadyOpen = codes "AlreadyOpen"
verdict_name Unavailable = codes "Unavailable"
verdict_name UnknownRole = codes "UnknownRole"
verdict_name UnknownMember = codes "UnknownMember"
verdict_name UnknownChannel = codes "UnknownChannel"
verdict_name UnknownThread = codes "UnknownThread"
verdict_name UnknownMessage = codes "UnknownMessage"
verdict_name IdTaken = codes "IdTaken"
verdict_name WrongType = codes "WrongType"
verdict_name EveryoneRole = codes "EveryoneRole"
verdict_name OwnerStays = codes "OwnerStays"
verdict_name Archived = codes "Archived"
verdict_name NotArchived = codes "NotArchived"
verdict_name InThread = codes "InThread"
verdict_name NotInThread = codes "NotInThread"
verdict_name NotInVoice = codes "NotInVoice"
verdict_name (TooMany limit) = codes "TooMany"
verdict_name (TooLong limit) = codes "TooLong"
