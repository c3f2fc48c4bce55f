-- The head of a file.
use Rattle.std.proofs.Common.{◌≡◌, ℕ, List, [], ◌∷◌, ◌++◌, Bool, true, false, ◌&&◌, Option, Some, None, Result, Ok, Err, if◌then◌else◌, refl, sym, ap, ap₂, ◌∙◌, subst, append_assoc, append-nil}
use Rattle.std.specs.Prelude.{flat_map}
use Rattle.std.specs.List.{list_all}
use Rattle.std.specs.declared.option.Option.{Option as Known}
use Rattle.std.proofs.lemmas.List.Concat.{flat_map-append}
use Rattle.file_lines.specs.Lines.{whole_lines, lines_of}
use Rattle.edit_text.specs.declared.line.Line.{Line}
use Rattle.edit_text.specs.declared.line.Line.TheVariants.{Bot, Guild, Edit, Look, Open, Frame, Lost, Closed, Tick}
use Rattle.edit_apply.specs.declared.Edit.{Edit as AnEdit}
use Rattle.edit_post.specs.Post.{Sender}
use Rattle.guild_posts.specs.Posts.{AreSent}
use Rattle.guild_posts.proofs.Sent.{sent_none}
use Rattle.script_run.specs.Scripts.{edit_in, edits_in}
use Rattle.file_script.specs.declared.fault.ScriptFault.{ScriptFault}
use Rattle.file_script.specs.declared.fault.ScriptFault.TheVariants as script
use Rattle.file_script.specs.declared.head.Declared.{Declared}
use Rattle.file_script.specs.declared.script.FileScript.{FileScript}
use Rattle.file_script.specs.declared.script_lines.ScriptLines.{ScriptLines}
use Rattle.file_script.specs.Accepted.{accepted}
use Rattle.file_script.specs.Heads.{is_head_line, head_of, AreHeads, bot_in, guild_in, Declares}
use Rattle.file_script.specs.Reads.{Gives}
use Rattle.file_script.specs.Sends.{HeadIsRead, DeclaresFirst, DeclaresLine, AddsHeads, ReadsHeads}
use Rattle.file_script.proofs.Reading.{front, end_rest}

both_true : (a b : Bool) → (a && b) ≡ true → (a ≡ true) × (b ≡ true)
both_true true b e = (refl, e)
both_true false b e = absurd (cc)

-- the head of lines that are all head lines
head_whole : (heads : List Line) → AreHeads heads → head_of heads ≡ heads
head_whole [] are = refl
head_whole (x ∷ xs) are =
    let both = both_true (is_head_line x) (list_all is_head_line xs) are in
    ap (λ b. if b then x ∷ head_of xs else []) both.0 ∙ ap (λ ls. x ∷ ls) (head_whole xs both.1)

-- and of those before another
head_before : (heads : List Line) (line : Line) (later : List Line) → AreHeads heads → is_head_line line ≡ false → head_of (heads ++ line ∷ later) ≡ heads
head_before [] line later are other = ap (λ b. if b then line ∷ head_of later else []) other
head_before (x ∷ xs) line later are other =
    let both = both_true (is_head_line x) (list_all is_head_line xs) are in
    ap (λ b. if b then x ∷ head_of (xs ++ line ∷ later) else []) both.0 ∙ ap (λ ls. x ∷ ls) (head_before xs line later both.1 other)

one_head_more : (heads : List Line) (line : Line) → AreHeads heads → is_head_line line ≡ true → AreHeads (heads ++ line ∷ [])
one_head_more [] line are is = ap (λ b. b && true) is
one_head_more (x ∷ xs) line are is =
    let both = both_true (is_head_line x) (list_all is_head_line xs) are in
    ap₂ (λ a b. a && b) both.0 (one_head_more xs line both.1 is)

no_edit : (line : Line) → is_head_line line ≡ true → edit_in line ≡ []
no_edit (Bot token user name privileged v items bytes) is = refl
no_edit (Guild id) is = refl
no_edit (Edit guild edit) is = absurd (cc)
no_edit (Look worker guild) is = refl
no_edit (Open worker conn) is = refl
no_edit (Frame conn text) is = refl
no_edit (Lost conn) is = refl
no_edit (Closed conn code) is = refl
no_edit (Tick worker now) is = refl

-- head lines have no edits
no_edits : (heads : List Line) → AreHeads heads → edits_in heads ≡ []
no_edits [] are = refl
no_edits (x ∷ xs) are =
    let both = both_true (is_head_line x) (list_all is_head_line xs) are in
    ap₂ (λ a b. a ++ b) (no_edit x both.0) (no_edits xs both.1)

-- ---- heads that were read

pub adds_none : (d : Declared) → AddsHeads [] d d
adds_none d = record { are = refl; bots = sym (append-nil d.bots.items); guilds = sym (append-nil d.guilds.items) }

pub adds_one : (heads : List Line) (line : Line) (old mid new : Declared) → AddsHeads heads old mid → DeclaresLine line mid new (Ok None) → AddsHeads (heads ++ line ∷ []) old new
adds_one heads line old mid new adds one = record {
  are = one_head_more heads line adds.are one.0;
  bots = one.1 ∙ (ap (λ l. l ++ bot_in line) adds.bots ∙ (append_assoc old.bots.items (flat_map bot_in heads) (bot_in line)
      ∙ ap (λ l. old.bots.items ++ l) (ap (λ l. flat_map bot_in heads ++ l) (sym (append-nil (bot_in line))) ∙ sym (flat_map-append bot_in heads (line ∷ [])))));
  guilds = one.2 ∙ (ap (λ l. l ++ guild_in line) adds.guilds ∙ (append_assoc old.guilds.items (flat_map guild_in heads) (guild_in line)
      ∙ ap (λ l. old.guilds.items ++ l) (ap (λ l. flat_map guild_in heads ++ l) (sym (append-nil (guild_in line))) ∙ sym (flat_map-append guild_in heads (line ∷ [])))));
}

pub adds_same : (heads : List Line) (old mid new : Declared) → AddsHeads heads old mid → new.bots.items ≡ mid.bots.items → new.guilds.items ≡ mid.guilds.items → AddsHeads heads old new
adds_same heads old mid new adds bots guilds = record { are = adds.are; bots = bots ∙ adds.bots; guilds = guilds ∙ adds.guilds }

-- ---- how the reading of a head ends

module _ (left : Known (List ℕ)) (k : ScriptLines) (bytes : List ℕ) (heads : List Line) (old new : Declared) where
  pub heads_end : (fault : ScriptFault) → AddsHeads heads old new → Gives left k bytes heads (Err fault) → ReadsHeads left k bytes old new (Err fault)
  heads_end script.Read adds gives = (heads, adds, gives)
  heads_end (script.Line line fault) adds gives = (heads, adds, gives)
  heads_end script.Spent adds gives = absurd gives
  heads_end script.Memory adds gives = tt

module _ (left : Known (List ℕ)) (s : FileScript) (bytes : List ℕ) (old new : Declared) (no_bots : old.bots.items ≡ []) (no_guilds : old.guilds.items ≡ []) where
  declares_by : (heads lines : List Line) → AddsHeads heads old new → head_of lines ≡ heads → Declares lines new.bots.items new.guilds.items
  declares_by heads lines adds is = (
    adds.bots ∙ (ap (λ l. l ++ flat_map bot_in heads) no_bots ∙ ap (λ ls. flat_map bot_in ls) (sym is)),
    adds.guilds ∙ (ap (λ l. l ++ flat_map guild_in heads) no_guilds ∙ ap (λ ls. flat_map guild_in ls) (sym is)),
  )

  -- what a head that was read declares
  pub head_read : (first : Result (Option Line) ScriptFault) → s.first ≡ first → ¬ (first ≡ Err script.Memory) → ReadsHeads left s.lines bytes old new first
      → HeadIsRead left s bytes × DeclaresFirst left bytes first new.bots.items new.guilds.items
  head_read first is some reads = (as_read first is some reads, declared first some reads)
    where
      as_read : (first : Result (Option Line) ScriptFault) → s.first ≡ first → ¬ (first ≡ Err script.Memory) → ReadsHeads left s.lines bytes old new first → HeadIsRead left s bytes
      as_read (Ok line) is some reads = (reads.0, reads.1.are, subst (λ r. Gives left s.lines bytes reads.0 r) (sym is) reads.3)
      as_read (Err script.Read) is some reads = (reads.0, reads.1.are, subst (λ r. Gives left s.lines bytes reads.0 r) (sym is) reads.2)
      as_read (Err (script.Line line fault)) is some reads = (reads.0, reads.1.are, subst (λ r. Gives left s.lines bytes reads.0 r) (sym is) reads.2)
      as_read (Err script.Spent) is some reads = absurd reads
      as_read (Err script.Memory) is some reads = absurd (some refl)

      declared : (first : Result (Option Line) ScriptFault) → ¬ (first ≡ Err script.Memory) → ReadsHeads left s.lines bytes old new first → DeclaresFirst left bytes first new.bots.items new.guilds.items
      declared (Ok None) some reads = λ rest is.
          let none : rest ≡ [] = end_rest left rest reads.3.0 is in
          let all : accepted (lines_of (bytes ++ rest)) ≡ reads.0 = ap (λ l. accepted (lines_of (bytes ++ l))) none ∙ (ap (λ l. accepted (lines_of l)) (append-nil bytes) ∙ reads.3.1.0) in
          declares_by reads.0 (accepted (lines_of (bytes ++ rest))) reads.1 (ap head_of all ∙ head_whole reads.0 reads.1.are)
      declared (Ok (Some line)) some reads = λ rest is.
          let begins = front left s.lines bytes (reads.0 ++ line ∷ []) reads.3 rest is in
          declares_by reads.0 (accepted (lines_of (bytes ++ rest))) reads.1
          (ap head_of (begins.1 ∙ append_assoc reads.0 (line ∷ []) begins.0) ∙ head_before reads.0 line begins.0 reads.1.are reads.2)
      declared (Err script.Read) some reads = declares_by reads.0 (accepted (whole_lines bytes)) reads.1 (ap head_of reads.2.0 ∙ head_whole reads.0 reads.1.are)
      declared (Err (script.Line line fault)) some reads = λ rest is.
          declares_by reads.0 (accepted (lines_of (bytes ++ rest))) reads.1 (ap head_of (reads.2 rest is).0 ∙ head_whole reads.0 reads.1.are)
      declared (Err script.Spent) some reads = absurd reads
      declared (Err script.Memory) some reads = absurd (some refl)

-- after the head lines nothing is sent
pub none_sent : (guilds : List ℕ) (heads : List Line) → AreHeads heads → (passes : List Sender) → AreSent guilds (edits_in heads) passes passes
none_sent guilds heads are passes = subst (λ (es : List (ℕ × AnEdit)). AreSent guilds es passes passes) (sym (no_edits heads are)) (sent_none guilds passes)
