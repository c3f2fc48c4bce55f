-- Texts read back as the values that they were written for.
use Rattle.std.proofs.Common.{◌≡◌, ℕ, ◌≤◌, List, length, false, Some, Result, Ok, Err, IfOk, String, Global, string_bytes, ap, ◌∙◌, arith}
use Rattle.std.specs.declared.alloc.AllocError.{AllocError}
use Rattle.std.proofs.lemmas.Str.{IsUtf8-string_bytes}
use Rattle.serde_json.specs.Data.{Data, depth}
use Rattle.serde_json.specs.Read.{read, max_depth}
use Rattle.serde_json.specs.Written.{has_float, compact_text}
use Rattle.std.specs.Prelude.{nat_lt}
use Rattle.std.proofs.lemmas.Bool.Decides.{nat_tests}
use Rattle.json_view.specs.Reading.{reading}
use Rattle.gateway_frames.specs.declared.frame.Frame.{Frame}
use Rattle.gateway_frames.specs.Read.{frame_from, frame_of}
use Rattle.gateway_frames.specs.Written.{frame_data, MaySend}
use Rattle.json_view.proofs.Readings.{reading-IsUtf8}
use Rattle.gateway_frames.specs.declared.out.Out.{Out}
use Rattle.gateway_frames.specs.declared.out.Out.TheVariants.{Hello, Ack, Invalid, Reconnect, Resumed}
use Rattle.gateway_frames.specs.Out.{out_data}

pub reads_as : (r : Result (String Global) AllocError) (d e : Data) → d ≡ e → depth e ≤ max_depth
    → IfOk r (λ s. depth d ≤ max_depth → read (string_bytes s) ≡ Some d) → IfOk r (λ s. reading (string_bytes s) ≡ Some e)
reads_as (Ok s) d e same shallow h =
    let deep : depth d ≤ max_depth = rw same shallow in reading-IsUtf8 (string_bytes s) (IsUtf8-string_bytes s) ∙ h deep ∙ ap Some same
reads_as (Err x) d e same shallow h = tt

pub out_shallow : (out : Out) → depth (out_data out) ≤ max_depth
out_shallow (Hello n) = omega arith
out_shallow Ack = omega arith
out_shallow (Invalid b) = omega arith
out_shallow Reconnect = omega arith
out_shallow (Resumed n) = omega arith

pub text_as : (r : Result (String Global) AllocError) (d e : Data) → d ≡ e → has_float e ≡ false
    → IfOk r (λ s. has_float d ≡ false → string_bytes s ≡ compact_text d) → IfOk r (λ s. string_bytes s ≡ compact_text e)
text_as (Ok s) d e same whole h = h (ap has_float same ∙ whole) ∙ ap compact_text same
text_as (Err x) d e same whole h = tt

short : (n : ℕ) → n ≤ 4096 → nat_lt 4096 n ≡ false
short n h = grind (arith, nat_tests)

frame_at : (text : List ℕ) (d : Data) (f : Frame) → length text ≤ 4096 → reading text ≡ Some d → frame_from d ≡ Ok f → frame_of text ≡ Ok f
unfolding frame_of
frame_at text d f h e b = rw (short (length text) h, e) b

pub frame_reads : (r : Result (String Global) AllocError) (d : Data) (f : Frame) → d ≡ frame_data f → depth (frame_data f) ≤ 10
    → (MaySend f → frame_from (frame_data f) ≡ Ok f) → IfOk r (λ s. depth d ≤ max_depth → read (string_bytes s) ≡ Some d)
    → IfOk r (λ s. MaySend f → length (string_bytes s) ≤ 4096 → frame_of (string_bytes s) ≡ Ok f)
frame_reads (Ok s) d f same shallow back h = λ may fits.
    let deep : depth (frame_data f) ≤ max_depth = omega (arith, shallow) in
    let r : Result (String Global) AllocError = Ok s in
    frame_at (string_bytes s) (frame_data f) f fits (reads_as r d (frame_data f) same deep h) (back may)
frame_reads (Err x) d f same shallow back h = tt
