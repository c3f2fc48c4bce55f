use Rattle.collections.proofs.Finds.{IsById-filter}
use Rattle.guild_model.specs.Record.{voice_id}
use Rattle.overwrite_eval.proofs.shown.shown_voices.Goals as goal

pub from_ascending-requires : goal.from_ascending-requires
from_ascending-requires c = rw (c.in_ok-copies.ensures, c.as_slice-voices.ensures.items) (IsById-filter voice_id _ _ c.as_slice-voices.ensures.ascending)
