-- The edits of a file, as they are sent.
use Rattle.std.proofs.Common.{◌≡◌, ℕ, List, [], ◌∷◌, ◌++◌, Some, None, Ok, Err, sym, ap, ◌∙◌, subst, append_assoc}
use Rattle.std.specs.declared.option.Option.{Option as Known}
use Rattle.std.specs.declared.option.Option.TheVariants as known
use Rattle.std.proofs.lemmas.List.Concat.{flat_map-append}
use Rattle.file_lines.specs.Lines.{whole_lines, lines_of}
use Rattle.edit_apply.specs.declared.Edit.{Edit}
use Rattle.edit_post.specs.Post.{Sender}
use Rattle.edit_post.specs.declared.send_refused.SendRefused.{SendRefused}
use Rattle.edit_post.specs.declared.send_refused.SendRefused.TheVariants as post
use Rattle.edit_text.specs.declared.line.Line.{Line}
use Rattle.guild_posts.specs.Posts.{AreSent, IsRefusedBySome}
use Rattle.guild_posts.proofs.Sent.{sent_on}
use Rattle.script_run.specs.Scripts.{edit_in, edits_in}
use Rattle.file_script.specs.declared.fault.ScriptFault.{ScriptFault}
use Rattle.file_script.specs.declared.fault.ScriptFault.TheVariants as script
use Rattle.file_script.specs.declared.script_lines.ScriptLines.{ScriptLines}
use Rattle.file_script.specs.Accepted.{accepted}
use Rattle.file_script.specs.Faults.{refusal_of}
use Rattle.file_script.specs.Reads.{HasGiven, Gives}
use Rattle.file_script.specs.Sends.{edits_of, SendsFront, SendsFile}
use Rattle.file_script.proofs.Reading.{front}

module _ (guilds : List ℕ) (left : Known (List ℕ)) (k : ScriptLines) (bytes : List ℕ) (given : List Line) (before new : List Sender) (sent : AreSent guilds (edits_in given) before new) where
  -- these are the edits of lines that say no more
  all_sent : (lines : List (List ℕ)) → accepted lines ≡ given → AreSent guilds (edits_of lines) before new
  all_sent lines is = subst (λ (ls : List Line). AreSent guilds (edits_in ls) before new) (sym is) sent

  front_sent : (lines : List (List ℕ)) (later : List Line) → accepted lines ≡ given ++ later → SendsFront guilds (edits_of lines) before new
  front_sent lines later is = (edits_in given, edits_in later, ap edits_in is ∙ flat_map-append edit_in given later, sent)

  -- the file has come to its end
  pub file_ends : Gives left k bytes given (Ok None) → (x : Unit {0}) → SendsFile guilds left bytes before new (Ok x)
  file_ends gives x = (gives.0, gives.1.1, all_sent (lines_of bytes) gives.1.0)

  -- a fault comes in place of a line
  pub file_fails : (fault : ScriptFault) → Gives left k bytes given (Err fault) → SendsFile guilds left bytes before new (Err fault)
  file_fails script.Read gives = (gives.1, all_sent (whole_lines bytes) gives.0)
  file_fails (script.Line line fault) gives = λ rest is. (let stops = gives rest is in (stops.1, all_sent (lines_of (bytes ++ rest)) stops.0))
  file_fails script.Spent gives = absurd gives
  file_fails script.Memory gives = λ rest is. (let begins = gives rest is in front_sent (lines_of (bytes ++ rest)) begins.0 begins.1)

  -- the edit of the next line is refused
  pub file_refused : (line : Line) → HasGiven left k bytes (given ++ line ∷ []) → (refused : SendRefused) → IsRefusedBySome new refused → SendsFile guilds left bytes before new (Err (refusal_of refused))
  file_refused line has refused why = by_refusal refused why
    where
      fronts : (rest : List ℕ) → left ≡ known.Some rest → SendsFront guilds (edits_of (lines_of (bytes ++ rest))) before new
      fronts rest is =
          let begins = front left k bytes (given ++ line ∷ []) has rest is in
          front_sent (lines_of (bytes ++ rest)) (line ∷ begins.0) (begins.1 ∙ append_assoc given (line ∷ []) begins.0)

      by_refusal : (refused : SendRefused) → IsRefusedBySome new refused → SendsFile guilds left bytes before new (Err (refusal_of refused))
      by_refusal post.Spent why = (why, fronts)
      by_refusal post.Memory why = fronts

  -- the edit of the next line is sent
  pub line_sent : (line : Line) (now : List Sender) → AreSent guilds (edits_in (line ∷ [])) new now → AreSent guilds (edits_in (given ++ line ∷ [])) before now
  line_sent line now more =
      subst (λ (es : List (ℕ × Edit)). AreSent guilds es before now) (sym (flat_map-append edit_in given (line ∷ [])))
      (sent_on guilds (edits_in given) (edits_in (line ∷ [])) before new now sent more)
