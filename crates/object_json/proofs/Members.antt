-- The tokens of an object with a member that may be left out.
use Rattle.std.proofs.Common.{◌≡◌, ℕ, ◌++◌, List, Option, Some, None, refl}
use Rattle.json.specs.Tree.{members_tokens}
use Rattle.serde_json.specs.Data.{Data, Members}
use Rattle.serde_json.specs.Written.{members_outline}
use Rattle.object_json.specs.Kinds.{member_if}
use Rattle.object_json.specs.Added.{member_tokens_if}

pub tokens_with : (name : List ℕ) (d : Option Data) (ms : Members) → members_tokens (members_outline (member_if name d ms)) ≡ member_tokens_if name d ++ members_tokens (members_outline ms)
tokens_with name None ms = refl
tokens_with name (Some d) ms = refl
