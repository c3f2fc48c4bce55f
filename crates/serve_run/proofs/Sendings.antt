-- What the scripts of a run have sent.
use Rattle.std.proofs.Common.{◌≡◌, ℕ, zero, suc, ◌+◌, List, [], ◌∷◌, ◌++◌, map, length, slice_get, Option, Some, refl, sym, ap, ◌∙◌, subst, arith, add-zero}
use Rattle.std.specs.List.{All, AllZip, range_with_len}
use Rattle.std.proofs.lemmas.List.Elements.{All-head, All-tail}
use Rattle.std.proofs.lemmas.Option.{same_Some}
use Rattle.edit_apply.specs.declared.Edit.{Edit}
use Rattle.edit_post.specs.Post.{PostId}
use Rattle.file_lines.specs.Lines.{lines_of}
use Rattle.file_script.specs.Sends.{edits_of}
use Rattle.run_ends.specs.Senders.{new_passes, HasSent, HaveSent}
use Rattle.gate_ends.specs.Done.{HasSentAll}
use Rattle.gate_ends.proofs.Settled.{script_passes}
use Rattle.serve_run.specs.Files.{FileEnd}
use Rattle.serve_run.specs.Ends.{FileEnds, SendsOrStops}
use Rattle.serve_run.specs.Served.{IsTextOf}
use Rattle.serve_run.specs.Services.{Service, FileTale, ascending}

abbrev Sending : Type 0
Sending = ℕ × Edit

abbrev pub edits_in_text : List ℕ → List Sending
edits_in_text text = edits_of (lines_of text)

-- what is known of the items at their places holds of the list
at_places : {A B : Type 0} (P : A → B → Type 0) (f : ℕ → Option A) (k : ℕ) (xs : List A) (ys : List B) → ((j : ℕ) → f (k + j) ≡ slice_get xs j)
    → AllZip (λ n y. (x : A) × ((f n ≡ Some x) × P x y)) (range_with_len k (length xs)) ys → AllZip P xs ys
at_places P f k [] [] at h = tt
at_places P f k [] (y ∷ ys) at h = elim h [ ]
at_places P f k (x ∷ xs) [] at h = elim h [ ]
at_places P f k (x ∷ xs) (y ∷ ys) at h =
    let here : f k ≡ Some x = ap f (sym (add-zero k)) ∙ at 0 in
    let same : h.0.0 ≡ x = same_Some h.0.0 x (sym h.0.1.0 ∙ here) in
    (subst (λ z. P z y) same h.0.1.1, at_places P f (k + 1) xs ys (λ j. ap f (omega (arith)) ∙ at (suc j)) h.1)

module _ (s : Service) (posts : List PostId) where
  abbrev gs : List ℕ
  gs = ascending s.guilds

  -- the text of the file with this number
  abbrev pub TextAt : ℕ → List ℕ → Type 0
  TextAt number text = (file : FileTale) × ((slice_get s.files number ≡ Some file) × IsTextOf file text)

  record SentText (number : ℕ) (e : FileEnd) : Type 0 where
    text : List ℕ
    is : TextAt number text
    sent : HasSent posts gs number (edits_in_text text) e.passes.items

  sent_text : (number : ℕ) (e : FileEnd) → FileEnds s posts number e → HasSentAll e → SentText number e
  sent_text number e ends all =
      let p = subst (λ x. SendsOrStops gs ends.file (new_passes posts number) x e.passes.items) all ends.sends in
      record {
        text = ends.file.head ++ p.0;
        is = (ends.file, (ends.file_is, record { more = p.0; text_is = refl; after = p.1; reads = p.3; at_end = p.4.0; unrefused = p.4.1 }));
        sent = record { sent = p.2; are = p.4.2; ended = p.5 };
      }

  -- the texts of the files of scripts that have sent all
  pub scripts_sent : (k n : ℕ) (es : List FileEnd) → AllZip (FileEnds s posts) (range_with_len k n) es → All HasSentAll es
      → (texts : List (List ℕ)) × (AllZip TextAt (range_with_len k n) texts × HaveSent posts gs k (map edits_in_text texts) (map script_passes es))
  scripts_sent k zero [] h all = ([], (tt, tt))
  scripts_sent k zero (e ∷ es) h all = elim h [ ]
  scripts_sent k (suc n) [] h all = elim h [ ]
  scripts_sent k (suc n) (e ∷ es) h all =
      let one = sent_text k e h.0 (All-head HasSentAll e es all) in
      let more = scripts_sent (k + 1) n es h.1 (All-tail HasSentAll e es all) in
      (one.text ∷ more.0, ((one.is, more.1.0), (one.sent, more.1.1)))

  pub texts_of : (texts : List (List ℕ)) → AllZip TextAt (range_with_len 0 (length s.files)) texts → AllZip IsTextOf s.files texts
  texts_of texts h = at_places IsTextOf (slice_get s.files) 0 s.files texts (λ j. ap (slice_get s.files) (omega (arith))) h
