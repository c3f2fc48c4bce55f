-- What stands in a history that goes on, and in one of outputs alone.
use Rattle.std.proofs.Common.{◌≡◌, List, [], ◌∷◌, ◌++◌, refl, sym, ap, ◌∙◌, append_assoc, append-nil}
use Rattle.std.proofs.lemmas.List.Concat.{flat_map-append}
use Rattle.world_law.specs.Model.{Worker}
use Rattle.world_law.specs.Inputs.{Input, taken, outputs}
use Rattle.world_law.specs.TheLaw.{all_taken}
use Rattle.world_law.proofs.Lists.{map_join}
use Rattle.worker_core.specs.declared.io.Output.{Output as Written}
use Rattle.worker_core.specs.InCode.{wire_text, wire_model}
use Rattle.worker_core.specs.Outputs.{all_written}
use Rattle.worker_run.specs.Histories.{History, Took, Gave, given_out, transcript, input_of, inputs, event_of, events, tick_of, ticks, wish_of, wishes}

-- ---- two histories

pub inputs_join : (h k : History) → inputs (h ++ k) ≡ inputs h ++ inputs k
inputs_join h k = flat_map-append input_of h k

pub events_join : (h k : History) → events (h ++ k) ≡ events h ++ events k
events_join h k = flat_map-append event_of h k

pub ticks_join : (h k : History) → ticks (h ++ k) ≡ ticks h ++ ticks k
ticks_join h k = flat_map-append tick_of h k

pub wishes_join : (h k : History) → wishes (h ++ k) ≡ wishes h ++ wishes k
wishes_join h k = flat_map-append wish_of h k

-- ---- outputs

pub given_join : (xs ys : List Written) → given_out (xs ++ ys) ≡ given_out xs ++ given_out ys
given_join xs ys = map_join Gave xs ys

pub inputs_given : (out : List Written) → inputs (given_out out) ≡ []
inputs_given [] = refl
inputs_given (x ∷ out) = inputs_given out

-- outputs after a history bring no input
pub inputs_before : (h : History) (out : List Written) → inputs (h ++ given_out out) ≡ inputs h
inputs_before h out = inputs_join h (given_out out) ∙ (ap (λ is. inputs h ++ is) (inputs_given out) ∙ append-nil (inputs h))

-- ---- inputs, and then more

pub taken_join : (is js : List Input) (w : Worker) → all_taken wire_text w (is ++ js) ≡ all_taken wire_text (all_taken wire_text w is) js
taken_join [] js w = refl
taken_join (i ∷ is) js w = taken_join is js (taken wire_model w i)

pub transcript_join : (is js : List Input) (w : Worker) → transcript w (is ++ js) ≡ transcript w is ++ transcript (all_taken wire_text w is) js
transcript_join [] js w = refl
transcript_join (i ∷ is) js w =
    let next : Worker = taken wire_model w i in
    let first : History = Took i ∷ given_out (all_written (outputs wire_model w i)) in
    ap (λ (h : History). first ++ h) (transcript_join is js next)
    ∙ sym (append_assoc first (transcript next is) (transcript (all_taken wire_text next is) js))
