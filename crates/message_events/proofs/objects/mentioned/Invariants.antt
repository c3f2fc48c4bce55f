use Rattle.std.proofs.Common.{◌≡◌, take}
use Rattle.std.specs.Prelude.{flat_map}
use Rattle.std.specs.Option.{option_to_list}
use Rattle.message_events.specs.Dispatches.{user_of}
use Rattle.message_events.proofs.objects.mentioned.Given as goal

abbrev pub invariant-loop-user : goal.invariant-loop-user
invariant-loop-user l = l.list ≡ flat_map (λ user. option_to_list (user_of l.guild user)) (take l.user-index l.users)
