-- What a script sends.
use Rattle.std.specs.Prelude.{◌≡◌, ℕ, List, [], ◌∷◌, ◌++◌, Result, MatchResult, flat_map}
use Rattle.edit_apply.specs.declared.Edit.{Edit as AnEdit}
use Rattle.edit_text.specs.declared.line.Line.{Line}
use Rattle.edit_text.specs.declared.line.Line.TheVariants.{Edit}
use Rattle.edit_post.specs.Post.{Sender}
use Rattle.edit_post.specs.declared.send_refused.SendRefused.{SendRefused}
use Rattle.guild_posts.specs.Posts.{AreSent, IsRefusedBySome}

-- the edit of a line, with its guild
abbrev pub edit_in : Line → List (ℕ × AnEdit)
edit_in (Edit guild edit) = (guild, edit) ∷ []
edit_in _ = []

-- the edits of these lines, in order
abbrev pub edits_in : List Line → List (ℕ × AnEdit)
edits_in lines = flat_map edit_in lines

-- The passes have sent these edits in order: all of them, or if one is refused those before it.
abbrev pub SendsScript : List ℕ → List (ℕ × AnEdit) → List Sender → List Sender → Result (Unit {0}) SendRefused → Type 0
SendsScript guilds edits old new result = MatchResult result
    (λ _. AreSent guilds edits old new)
    (λ refused. (sent : List (ℕ × AnEdit)) × (more : List (ℕ × AnEdit)) × (edits ≡ sent ++ more) × AreSent guilds sent old new × IsRefusedBySome new refused)
