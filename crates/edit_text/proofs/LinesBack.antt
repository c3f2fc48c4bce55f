-- What a line is written as reads back as that line.
use Rattle.std.proofs.Common.{◌≡◌, ℕ, ◌<◌, ◌≤◌, ◌^◌, List, length, Bool, true, false, not, ◌&&◌, ◌||◌, Some, Result, Ok, Err, IfOk, String, Global, string_bytes, codes, refl, sym, ap, ◌∙◌, arith, eqb-true}
use Rattle.std.specs.Prelude.{nat_lt, ◌==◌}
use Rattle.std.specs.declared.alloc.AllocError.{AllocError}
use Rattle.std.proofs.lemmas.Str.{IsUtf8-string_bytes}
use Rattle.std.proofs.lemmas.Bool.Decides.{nat_tests}
use Rattle.serde_json.specs.Data.{Data, depth}
use Rattle.serde_json.specs.Read.{read, max_depth}
use Rattle.serde_json.specs.Written.{has_float, compact_text}
use Rattle.serde_json.proofs.OnLiterals.{serde_json_on_literals}
use Rattle.json_view.specs.Reading.{reading}
use Rattle.json_view.proofs.Readings.{reading-IsUtf8}
use Rattle.snowflake_id.proofs.Texts.{id_of_decimal}
use Rattle.edit_apply.specs.declared.Edit.{Edit}
use Rattle.edit_text.specs.declared.line.Line.{Line}
use Rattle.edit_text.specs.declared.line.Line.TheVariants.{Bot, Guild, Edit as EditLine, Look, Open, Frame, Lost, Closed, Tick}
use Rattle.edit_text.specs.declared.step_name.StepName.{StepName}
use Rattle.edit_text.specs.declared.step_name.StepName.TheVariants as step
use Rattle.edit_text.specs.declared.reader_state.ReaderState.{ReaderState}
use Rattle.edit_fields.specs.Fields.{text_at}
use Rattle.edit_text.specs.StepNames.{step_named, step_text}
use Rattle.edit_fields.proofs.NamesBack.{named_back}
use Rattle.edit_fields.specs.Edits.{edit_name}
use Rattle.edit_fields.specs.Fits.{IdFits}
use Rattle.edit_text.specs.Intents.{are_intents}
use Rattle.edit_text.specs.RingSizes.{is_between, is_size}
use Rattle.edit_text.specs.Fits.{LineFits}
use Rattle.edit_text.specs.Lines.{is_allowed, is_blank, fields_from, line_from, line_of}
use Rattle.edit_text.specs.Written.{step_name, line_data, line_within, allows}
use Rattle.edit_text.proofs.ReadsBack.{Plain, Back}
use Rattle.edit_text.proofs.EditsBack.{edit_back, edit_plain}

-- ---- names

pub step_back : (n : StepName) → step_named (step_text n) ≡ Some n
unfolding step_named
step_back step.Bot = refl
step_back step.Guild = refl
step_back step.Edit = refl
step_back step.Look = refl
step_back step.Open = refl
step_back step.Frame = refl
step_back step.Lost = refl
step_back step.Closed = refl
step_back step.Tick = refl

-- ---- objects

stepped : (r : ReaderState) (n : StepName) (d : Data) → text_at (codes "step") d ≡ Ok (step_text n) → is_allowed r n ≡ true → line_from r d ≡ fields_from r.guilds n d
stepped r n d e h = rw (e, step_back n, h) refl

first_true : (a b : Bool) → (a && b) ≡ true → a ≡ true
first_true true b h = refl
first_true false b h = h

second_true : (a b : Bool) → (a && b) ≡ true → b ≡ true
second_true true b h = h
second_true false b h = absurd (let e : ⊥ = cc in e)

not_true : (b : Bool) → not b ≡ true → b ≡ false
not_true true h = sym h
not_true false h = refl

edit_line_back : (gs : List ℕ) (guild : ℕ) (e : Edit) → Back guild e
    → fields_from gs step.Edit (line_data (EditLine guild e)) ≡ Ok (EditLine guild e)
edit_line_back gs guild e back = rw (back.1, back.2, named_back (edit_name e), back.3) refl

below : (n limit : ℕ) → n < limit → nat_lt n limit ≡ true
below n limit h = grind (arith, nat_tests, h)

-- the line of each step says so, and its fields are its own
abbrev LineBack : List ℕ → Line → Type 0
LineBack gs line = (text_at (codes "step") (line_data line) ≡ Ok (step_text (step_name line))) × (fields_from gs (step_name line) (line_data line) ≡ Ok line)

-- a bot line within its limits, in one version or the other
record BotFits (token : List ℕ) (user privileged : ℕ) : Type 0 where
  is_short : nat_lt 100 (length token) ≡ false
  is_id : IdFits user
  is_set : are_intents privileged ≡ true

first_version_back : (gs token : List ℕ) (user : ℕ) (name : List ℕ) (privileged : ℕ) → BotFits token user privileged
    → LineBack gs (Bot token user name privileged 1 1024 4194304)
unfolding serde_json_on_literals
first_version_back gs token user name privileged f = (refl, rw (f.is_short, id_of_decimal user f.is_id, f.is_set) refl)

second_version_back : (gs token : List ℕ) (user : ℕ) (name : List ℕ) (privileged items bytes : ℕ) → BotFits token user privileged
    → is_between 1 16384 items ≡ true → is_between 1024 16777216 bytes ≡ true
    → LineBack gs (Bot token user name privileged 2 items bytes)
unfolding serde_json_on_literals
second_version_back gs token user name privileged items bytes f i b =
    (refl, rw (f.is_short, id_of_decimal user f.is_id, f.is_set, i, b) refl)

bot_back : (gs token : List ℕ) (user : ℕ) (name : List ℕ) (privileged v items bytes : ℕ) → BotFits token user privileged
    → is_size (record { v = v; ring_items = items; ring_bytes = bytes }) ≡ true
    → LineBack gs (Bot token user name privileged v items bytes)
bot_back gs token user name privileged v items bytes f s = by_version (v == 1) refl
  where
    by_version : (b : Bool) → (v == 1) ≡ b → LineBack gs (Bot token user name privileged v items bytes)
    by_version true is =
        let both : (items == 1024 && bytes == 4194304) ≡ true = rw is at s in
        rw (
          eqb-true v 1 is,
          eqb-true items 1024 (first_true (items == 1024) (bytes == 4194304) both),
          eqb-true bytes 4194304 (second_true (items == 1024) (bytes == 4194304) both),
        ) (first_version_back gs token user name privileged f)
    by_version false is =
        let both : (v == 2 && (is_between 1 16384 items && is_between 1024 16777216 bytes)) ≡ true = rw is at s in
        let fit : (is_between 1 16384 items && is_between 1024 16777216 bytes) ≡ true = second_true (v == 2) (is_between 1 16384 items && is_between 1024 16777216 bytes) both in
        rw (eqb-true v 2 (first_true (v == 2) (is_between 1 16384 items && is_between 1024 16777216 bytes) both))
        (second_version_back gs token user name privileged items bytes f
        (first_true (is_between 1 16384 items) (is_between 1024 16777216 bytes) fit) (second_true (is_between 1 16384 items) (is_between 1024 16777216 bytes) fit))

line_back : (gs : List ℕ) (line : Line) → line_within gs line ≡ true → LineFits line → LineBack gs line
unfolding serde_json_on_literals
line_back gs (Bot token user name privileged v items bytes) w f =
    bot_back gs token user name privileged v items bytes
    (record { is_short = not_true (nat_lt 100 (length token)) (first_true (not (nat_lt 100 (length token))) (is_size (record { v = v; ring_items = items; ring_bytes = bytes })) w); is_id = f.0; is_set = f.1 })
    (second_true (not (nat_lt 100 (length token))) (is_size (record { v = v; ring_items = items; ring_bytes = bytes })) w)
line_back gs (Guild id) w f = (refl, rw (id_of_decimal id f, w) refl)
line_back gs (EditLine guild e) w f =
    let back : Back guild e = edit_back guild e f.0 f.1 w in
    (back.0, edit_line_back gs guild e back)
line_back gs (Look worker guild) w f = (refl, rw (w, id_of_decimal guild f) refl)
line_back gs (Open worker conn) w f = (refl, rw (w, below conn (2 ^ 32) f) refl)
line_back gs (Frame conn text) w f = (refl, rw (below conn (2 ^ 32) f) refl)
line_back gs (Lost conn) w f = (refl, rw (below conn (2 ^ 32) f) refl)
line_back gs (Closed conn code) w f = (refl, rw (below conn (2 ^ 32) f.0, below code (2 ^ 16) f.1) refl)
line_back gs (Tick worker now) w f =
    (refl, rw (first_true (nat_lt worker 4) (nat_lt now (2 ^ 53)) w, second_true (nat_lt worker 4) (nat_lt now (2 ^ 53)) w) refl)

bot_plain : (token : List ℕ) (user : ℕ) (name : List ℕ) (privileged v items bytes : ℕ) (b : Bool) → (v == 1) ≡ b
    → Plain (line_data (Bot token user name privileged v items bytes))
unfolding serde_json_on_literals
bot_plain token user name privileged v items bytes true is = rw is (omega arith, refl)
bot_plain token user name privileged v items bytes false is = rw is (omega arith, refl)

line_plain : (line : Line) → Plain (line_data line)
unfolding serde_json_on_literals
line_plain (Bot token user name privileged v items bytes) = bot_plain token user name privileged v items bytes (v == 1) refl
line_plain (Guild id) = (omega arith, refl)
line_plain (EditLine guild e) = edit_plain guild e
line_plain (Look worker guild) = (omega arith, refl)
line_plain (Open worker conn) = (omega arith, refl)
line_plain (Frame conn text) = (omega arith, refl)
line_plain (Lost conn) = (omega arith, refl)
line_plain (Closed conn code) = (omega arith, refl)
line_plain (Tick worker now) = (omega arith, refl)

-- ---- texts

short_enough : (lines n : ℕ) → nat_lt lines 1000000 ≡ true → n ≤ 65536 → (nat_lt 65536 n || not (nat_lt lines 1000000)) ≡ false
short_enough lines n h k = let e : nat_lt 65536 n ≡ false = grind (arith, nat_tests) in rw (e, h) refl

line_at : (r : ReaderState) (text : List ℕ) (line : Line) → LineFits line → allows r line ≡ true → length text ≤ 65536
    → text ≡ compact_text (line_data line) → reading text ≡ Some (line_data line) → line_of r text ≡ Ok (Some line)
unfolding line_of
line_at r text line f a short is e =
    let lines : nat_lt r.lines 1000000 ≡ true = first_true (nat_lt r.lines 1000000) (is_allowed r (step_name line) && line_within r.guilds line) a in
    let rest : (is_allowed r (step_name line) && line_within r.guilds line) ≡ true = second_true (nat_lt r.lines 1000000) (is_allowed r (step_name line) && line_within r.guilds line) a in
    let allowed : is_allowed r (step_name line) ≡ true = first_true (is_allowed r (step_name line)) (line_within r.guilds line) rest in
    let back : LineBack r.guilds line = line_back r.guilds line (second_true (is_allowed r (step_name line)) (line_within r.guilds line) rest) f in
    let blank : is_blank text ≡ false = rw is refl in
    rw (short_enough r.lines (length text) lines short, blank, e, stepped r (step_name line) (line_data line) back.0 allowed, back.1) refl

-- what a `to_string` says of a line's value
pub text_as : (s : Result (String Global) AllocError) (d : Data) (line : Line) → d ≡ line_data line
    → IfOk s (λ t. has_float d ≡ false → string_bytes t ≡ compact_text d) → IfOk s (λ t. string_bytes t ≡ compact_text (line_data line))
text_as (Ok t) d line is h = h (ap has_float is ∙ (line_plain line).1) ∙ ap compact_text is
text_as (Err x) d line is h = tt

pub reads_back : (s : Result (String Global) AllocError) (d : Data) (line : Line) → d ≡ line_data line → LineFits line
    → IfOk s (λ t. has_float d ≡ false → string_bytes t ≡ compact_text d) → IfOk s (λ t. depth d ≤ max_depth → read (string_bytes t) ≡ Some d)
    → IfOk s (λ t. (r : ReaderState) → allows r line ≡ true → length (string_bytes t) ≤ 65536 → line_of r (string_bytes t) ≡ Ok (Some line))
reads_back (Ok t) d line is f texts reads = λ r a short.
    let plain : Plain (line_data line) = line_plain line in
    let deep : depth d ≤ max_depth = rw is (omega (arith, plain.0)) in
    let found : reading (string_bytes t) ≡ Some (line_data line) = reading-IsUtf8 (string_bytes t) (IsUtf8-string_bytes t) ∙ reads deep ∙ ap Some is in
    let text : string_bytes t ≡ compact_text (line_data line) = texts (ap has_float is ∙ plain.1) ∙ ap compact_text is in
    line_at r (string_bytes t) line f a short text found
reads_back (Err x) d line is f texts reads = tt
