-- Only a frame makes a worker give out a wish.
use Rattle.std.proofs.Common.{◌≡◌, ℕ, ◌+◌, List, [], ◌∷◌, ◌++◌, Bool, true, false, Option, Some, None, if◌then◌else◌, length, max, map, flat_map, refl, sym, ap, subst, ◌∙◌, append-nil}
use Rattle.std.specs.Prelude.{nat_lt}
use Rattle.guild_model.specs.Record.{Record}
use Rattle.dispatch_types.specs.declared.dispatch.Dispatch.{Dispatch}
use Rattle.gateway_frames.specs.declared.out.Out.{Out}
use Rattle.gateway_frames.specs.declared.out.Out.TheVariants.{Hello}
use Rattle.edit_apply.specs.Edits.{after}
use Rattle.edit_apply.specs.declared.Edit.{Edit}
use Rattle.session_core.specs.State.{State, Session, Condition, Attached, Detached, Ended, has_connection}
use Rattle.session_core.specs.Ends.{silent_of, session_conns}
use Rattle.world_law.specs.Keeping.{record_at}
use Rattle.world_law.specs.Outputs.{Output, Says, Closes, sends}
use Rattle.world_law.specs.Sent.{Sent}
use Rattle.world_law.specs.Model.{Worker}
use Rattle.world_law.specs.Looks.{entry_sends, entered, look_sends, look_sends_by, rebase_sends_by}
use Rattle.world_law.specs.Inputs.{Input, Look, Rebase, Open, Frame, Lost, Closed, Tick, outputs, open_sends}
use Rattle.world_law.proofs.Lists.{map_join}
use Rattle.worker_core.specs.declared.io.Output.{Output as Written}
use Rattle.worker_core.specs.declared.io.Output.TheVariants.{Send, Close, Wish}
use Rattle.worker_core.specs.InCode.{wire_text, wire_model, KeptWorker}
use Rattle.worker_core.specs.Looked.{due}
use Rattle.worker_core.specs.Outputs.{written, all_written}
use Rattle.worker_run.specs.Histories.{History, Took, given_out, wishes}
use Rattle.worker_run.specs.Workers.{Follows, FollowsAll}
use Rattle.worker_run.proofs.Histories.{given_join, wishes_join}

abbrev pub is_frame : Input → Bool
is_frame (Look g es) = false
is_frame (Rebase g log) = false
is_frame (Open conn) = false
is_frame (Frame conn text) = true
is_frame (Lost conn) = false
is_frame (Closed conn code) = false
is_frame (Tick now) = false

-- there is no wish among these
abbrev pub IsQuiet : List Output → Type 0
IsQuiet out = wishes (given_out (all_written out)) ≡ []

both : (xs ys : List Output) → IsQuiet xs → IsQuiet ys → IsQuiet (xs ++ ys)
both xs ys first second =
    ap (λ out. wishes (given_out out)) (map_join written xs ys)
    ∙ (ap wishes (given_join (all_written xs) (all_written ys))
    ∙ (wishes_join (given_out (all_written xs)) (given_out (all_written ys))
    ∙ (ap (λ ws. ws ++ wishes (given_out (all_written ys))) first ∙ second)))

either : (b : Bool) (xs ys : List Output) → IsQuiet xs → IsQuiet ys → IsQuiet (if b then xs else ys)
either true xs ys first second = first
either false xs ys first second = second

said : (conn : ℕ) (out : Out) → IsQuiet (Says conn out ∷ [])
said conn out = refl

closes : (conns : List ℕ) → IsQuiet (map (λ conn. Closes conn 4000) conns)
closes [] = refl
closes (conn ∷ conns) = closes conns

sent : (condition : Condition) (n : ℕ) (ds : List Dispatch) → IsQuiet (sends wire_text condition n ds)
sent (Attached conn) n [] = refl
sent (Attached conn) n (d ∷ ds) = sent (Attached conn) (n + 1) ds
sent (Detached since) n ds = refl
sent Ended n ds = refl

-- an entry, to each session
entry : (s : Record) (e : Edit) (xs : List (Session Sent)) → IsQuiet (flat_map (entry_sends wire_model s e) xs)
entry s e [] = refl
entry s e (x ∷ xs) =
    both (entry_sends wire_model s e x) (flat_map (entry_sends wire_model s e) xs)
    (sent x.condition (length x.sent.told) (due s e x.viewer)) (entry s e xs)

entries : (es : List Edit) (w : Worker) (g : ℕ) (s : Record) → IsQuiet (look_sends wire_model w g s es)
entries [] w g s = refl
entries (e ∷ es) w g s =
    both (flat_map (entry_sends wire_model s e) w.core.sessions) (look_sends wire_model (entered wire_model w g s e) g (after s e) es)
    (entry s e w.core.sessions) (entries es (entered wire_model w g s e) g (after s e))

look : (o : Option Record) (w : Worker) (g : ℕ) (es : List Edit) → IsQuiet (look_sends_by wire_model o w g es)
look None w g es = refl
look (Some s) w g es = entries es w g s

rebase : (o : Option Record) (s : State Sent) → IsQuiet (rebase_sends_by o s)
rebase None s = refl
rebase (Some before) s = closes (session_conns s)

opens : (conn : ℕ) (s : State Sent) → IsQuiet (open_sends conn s)
opens conn s =
    either (has_connection conn s) [] (if nat_lt (length s.connections) 64 then Says conn (Hello 41250) ∷ [] else Closes conn 4000 ∷ []) refl
    (either (nat_lt (length s.connections) 64) (Says conn (Hello 41250) ∷ []) (Closes conn 4000 ∷ []) (said conn (Hello 41250)) refl)

pub no_wishes : (w : Worker) (i : Input) → is_frame i ≡ false → wishes (given_out (all_written (outputs wire_model w i))) ≡ []
no_wishes w (Look g es) other = look (record_at wire_model w.logs g) w g es
no_wishes w (Rebase g log) other = rebase (record_at wire_model w.logs g) w.core
no_wishes w (Open conn) other = opens conn w.core
no_wishes w (Frame conn text) other = cc
no_wishes w (Lost conn) other = refl
no_wishes w (Closed conn code) other = refl
no_wishes w (Tick now) other = closes (silent_of (max w.now now) w.core.connections)

-- ---- outputs but for wishes

abbrev pub but_wishes : List Written → List Written
but_wishes [] = []
but_wishes (Send conn text ∷ out) = Send conn text ∷ but_wishes out
but_wishes (Close conn code ∷ out) = Close conn code ∷ but_wishes out
but_wishes (Wish g e ∷ out) = but_wishes out

pub but_wishes-quiet : (out : List Written) → wishes (given_out (but_wishes out)) ≡ []
but_wishes-quiet [] = refl
but_wishes-quiet (Send conn text ∷ out) = but_wishes-quiet out
but_wishes-quiet (Close conn code ∷ out) = but_wishes-quiet out
but_wishes-quiet (Wish g e ∷ out) = but_wishes-quiet out

-- they are all outputs, where none is a wish
all_left : (out : List Written) → wishes (given_out out) ≡ [] → but_wishes out ≡ out
all_left [] none = refl
all_left (Send conn text ∷ out) none = ap (λ (o : List Written). Send conn text ∷ o) (all_left out none)
all_left (Close conn code ∷ out) none = ap (λ (o : List Written). Close conn code ∷ o) (all_left out none)
all_left (Wish g e ∷ out) none = cc

-- so what is owed for an input that is no frame is owed without wishes, whichever worker takes it
pub follows_quiet : (a b : KeptWorker) (i : Input) (out : List Written) → is_frame i ≡ false → FollowsAll a (Took i ∷ []) out b → FollowsAll a (Took i ∷ []) (but_wishes out) b
follows_quiet a b i out other follows w is =
    let here : Follows a (Took i ∷ []) out b w = follows w is in
    let owed : History = given_out (all_written (outputs wire_model w i)) in
    let none : wishes (given_out out) ≡ [] = ap wishes here.whole ∙ (ap wishes (append-nil owed) ∙ no_wishes w i other) in
    subst (λ (o : List Written). Follows a (Took i ∷ []) o b w) (sym (all_left out none)) here
