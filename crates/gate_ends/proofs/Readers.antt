-- The readers of the workers of a run.
use Rattle.std.proofs.Common.{List, [], ◌∷◌, ◌++◌, map, refl, sym, ◌∙◌}
use Rattle.std.specs.List.{All, AllZip}
use Rattle.std.proofs.lemmas.List.Elements.{All-nil, All-cons, All-tail}
use Rattle.world_law.specs.Inputs.{Input}
use Rattle.worker_run.specs.Hubs.{IsUnread, Reads}
use Rattle.run_stage.specs.Hubs.{new_reader}
use Rattle.gate_ends.proofs.Writers.{Writer, Log, IsSealedOf}
use Rattle.gate_ends.proofs.Sealed.{Reader, ReadsLog}

-- of all in a list, those in its second part
pub All-second : {T : Type 0} (P : T → Type 0) (xs ys : List T) → All P (xs ++ ys) → All P ys
All-second P [] ys h = h
All-second P (x ∷ xs) ys h = All-second P xs ys (All-tail P x (xs ++ ys) h)

-- new readers have not looked
pub unread : (ws : List Writer) → All IsUnread (map new_reader ws)
unread [] = All-nil IsUnread
unread (w ∷ ws) = All-cons IsUnread (new_reader w) (map new_reader ws) refl (unread ws)

-- readers that were new are readers of the sealed logs' hubs
pub readers_of : (is : List Input) (ws : List Writer) (ls : List Log) (rs : List Reader) → AllZip IsSealedOf ws ls → AllZip (Reads is) (map new_reader ws) rs → AllZip ReadsLog ls rs
readers_of is [] [] [] sealed reads = tt
readers_of is [] [] (r ∷ rs) sealed reads = elim reads [ ]
readers_of is [] (l ∷ ls) rs sealed reads = elim sealed [ ]
readers_of is (w ∷ ws) [] rs sealed reads = elim sealed [ ]
readers_of is (w ∷ ws) (l ∷ ls) [] sealed reads = elim reads [ ]
readers_of is (w ∷ ws) (l ∷ ls) (r ∷ rs) sealed reads =
    ((reads.0.guild ∙ sym sealed.0.0, reads.0.hub ∙ sym sealed.0.1, sealed.0.2), readers_of is ws ls rs sealed.1 reads.1)
