-- The records of logs keep their ids and are well.
use Rattle.std.proofs.Common.{◌≡◌, ℕ, List, [], ◌∷◌, Option, Some, None, refl, ◌∙◌}
use Rattle.guild_model.specs.declared.verdict.Verdict.{Verdict}
use Rattle.guild_model.specs.Record.{Record, closed}
use Rattle.edit_apply.specs.declared.Edit.{Edit}
use Rattle.edit_apply.specs.Edits.{verdict, after, after_verdict, state_from, state, StaysWell}
use Rattle.edit_apply.proofs.Well.{stays}
use Rattle.whole_events.proofs.Others.{id-kept}

pub state_is_well : StaysWell
state_is_well = stays

after_id : (s : Record) (e : Edit) → (after s e).id ≡ s.id
after_id s e = by_verdict (verdict s e)
  where
    by_verdict : (o : Option Verdict) → (after_verdict o s e).id ≡ s.id
    by_verdict None = id-kept s e
    by_verdict (Some v) = refl

pub from_id : (s : Record) (es : List Edit) → (state_from s es).id ≡ s.id
from_id s [] = refl
from_id s (e ∷ es) = from_id (after s e) es ∙ after_id s e

pub state_id : (g : ℕ) (es : List Edit) → (state g es).id ≡ g
state_id g es = from_id (closed g) es
