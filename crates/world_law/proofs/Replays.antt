-- What is kept of a session's dispatches for a resume, as more are made.
use Rattle.std.proofs.Common.{◌≡◌, ℕ, ◌+◌, List, [], ◌∷◌, ◌++◌, suc, length, map, refl, sym, ap, ◌∙◌, arith}
use Rattle.std.proofs.lemmas.List.{length-map}
use Rattle.std.proofs.lemmas.Grind.{fold-append}
use Rattle.dispatch_types.specs.declared.dispatch.Dispatch.{Dispatch}
use Rattle.replay_ring.specs.Replay.{Replay, fresh, pushed, pushed_all, replay_of}
use Rattle.replay_ring.proofs.Suffixes.{pushed_all-fresh}
use Rattle.session_core.specs.declared.bot.Bot.{Bot}
use Rattle.session_core.specs.declared.reply.Mark.{Mark}
use Rattle.session_core.specs.declared.reply.Mark.TheVariants.{Start}
use Rattle.world_law.specs.Keeping.{Cursors}
use Rattle.world_law.specs.Sent.{Sent, SentDispatch, dispatch_of, dispatches, told}
use Rattle.world_law.proofs.Folds.{dispatches_told}
use Rattle.world_law.proofs.Lists.{map_join}
use Rattle.world_law.specs.Model.{replay, in_model}
use Rattle.world_law.specs.Outputs.{texts_from}

module _ (text : ℕ → Dispatch → List ℕ) where
  pub texts_join : (n : ℕ) (ds es : List Dispatch) → texts_from text n (ds ++ es) ≡ texts_from text n ds ++ texts_from text (n + length ds) es
  texts_join n [] es = ap (λ m. texts_from text m es) (omega arith)
  texts_join n (d ∷ ds) es =
      ap (λ ts. text (n + 1) d ∷ ts)
      (texts_join (n + 1) ds es ∙ ap (λ m. texts_from text (n + 1) ds ++ texts_from text m es) (omega arith))

  pub length_texts : (n : ℕ) (ds : List Dispatch) → length (texts_from text n ds) ≡ length ds
  length_texts n [] = refl
  length_texts n (d ∷ ds) = ap suc (length_texts (n + 1) ds)

  -- texts that follow
  replay_join : (i b : ℕ) (before later : List (List ℕ)) → replay_of i b (before ++ later) ≡ pushed_all (replay_of i b before) later
  replay_join i b before later =
      sym (pushed_all-fresh i b (before ++ later))
      ∙ (fold-append pushed (fresh i b) before later ∙ ap (λ r. pushed_all r later) (pushed_all-fresh i b before))

  pub last_is : (sent : Sent) → (replay text sent).last ≡ length sent.told
  last_is sent = length_texts 0 (dispatches sent) ∙ length-map sent.told dispatch_of

  none_before : (n : ℕ) → 0 + n ≡ n
  none_before n = omega arith

  -- of dispatches that follow, what is kept is what pushes of their texts leave
  pub replay_told : (old : Sent) (mark : Mark) (b a : Cursors) (ds : List Dispatch)
      → replay text (record old { told = old.told ++ told mark b a ds }) ≡ pushed_all (replay text old) (texts_from text (replay text old).last ds)
  replay_told old mark b a ds =
      let ts : List SentDispatch = old.told in
      let all : map dispatch_of (ts ++ told mark b a ds) ≡ map dispatch_of ts ++ ds =
      map_join dispatch_of ts (told mark b a ds) ∙ ap (λ xs. map dispatch_of ts ++ xs) (dispatches_told mark b a ds) in
      let count : 0 + length (map dispatch_of ts) ≡ length (texts_from text 0 (map dispatch_of ts)) = none_before (length (map dispatch_of ts)) ∙ sym (length_texts 0 (map dispatch_of ts)) in
      ap (λ xs. held (texts_from text 0 xs)) all
      ∙ (ap (λ ts. held ts) (texts_join 0 (map dispatch_of ts) ds)
      ∙ (ap (λ n. held (texts_from text 0 (map dispatch_of ts) ++ texts_from text n ds)) count
      ∙ replay_join old.ring_items old.ring_bytes (texts_from text 0 (map dispatch_of ts)) (texts_from text (length (texts_from text 0 (map dispatch_of ts))) ds)))
    where
      held : List (List ℕ) → Replay
      held texts = replay_of old.ring_items old.ring_bytes texts

  -- of the first dispatches, what is kept is what pushes leave on nothing
  pub replay_first : (bot : Bot) (now : Cursors) (ds : List Dispatch)
      → replay text ((in_model text).begins bot now ds) ≡ pushed_all (fresh bot.ring_items bot.ring_bytes) (texts_from text 0 ds)
  replay_first bot now ds =
      ap (λ xs. replay_of bot.ring_items bot.ring_bytes (texts_from text 0 xs)) (dispatches_told Start now now ds)
      ∙ sym (pushed_all-fresh bot.ring_items bot.ring_bytes (texts_from text 0 ds))
