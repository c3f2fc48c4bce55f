-- Dispatches about messages stand under the marks of edits of messages alone.
use Rattle.std.proofs.Common.{◌≡◌, ℕ, ◌+◌, ◌<◌, ◌≤◌, suc, zero, List, [], ◌∷◌, ◌++◌, Bool, true, false, Option, Some, None, if◌then◌else◌, length, take, get_or, refl, sym, ap, subst, ◌∙◌, append_assoc, add-one, ◌⊎◌, inl, inr, arith}
use Rattle.std.specs.Prelude.{All, is_some, nat_le, filter, map}
use Rattle.std.proofs.lemmas.List.Elements.{All-nil, All-cons, All-head, All-tail}
use Rattle.std.proofs.lemmas.List.{length-take-le}
use Rattle.std.proofs.lemmas.Bool.Decides.{nat_tests}
use Rattle.std.proofs.Math.Seq.{take-suc}
use Rattle.guild_model.specs.Record.{Record}
use Rattle.dispatch_types.specs.declared.viewer.Viewer.{Viewer}
use Rattle.dispatch_types.specs.declared.dispatch.Dispatch.{Dispatch}
use Rattle.message_events.specs.Dispatches.{About, message_told, shown}
use Rattle.message_events.specs.Notes.{message_note}
use Rattle.edit_apply.specs.declared.Edit.{Edit}
use Rattle.edit_apply.specs.declared.Edit.TheVariants as edit
use Rattle.edit_apply.specs.declared.guild.GuildEdit.TheVariants.{GuildOutage}
use Rattle.edit_apply.specs.Edits.{state, after}
use Rattle.edit_events.specs.Due.{due}
use Rattle.edit_events.proofs.Messages.{messages-shown}
use Rattle.session_core.specs.declared.reply.Mark.{Mark}
use Rattle.session_core.specs.declared.reply.Mark.TheVariants.{Start, Entry, Chunk}
use Rattle.session_core.specs.State.{Session}
use Rattle.world_law.specs.Keeping.{Cursors}
use Rattle.world_law.specs.Model.{Seen}
use Rattle.world_law.specs.Sent.{Sent, SentDispatch, dispatch_of}
use Rattle.world_law.specs.Entries.{EntriesHold, IsMadeForMessages, IsOfMessages, IsShown, MessagesShown, SessionEntriesHold, about_messages, is_for, made_for}
use Rattle.world_law.proofs.Entries.{IsOfEntry, IsPlain, made-append}
use Rattle.world_law.proofs.Lists.{all_at}
use Rattle.world_law.proofs.Folds.{same_id}
use Rattle.edit_events.proofs.Owed.{IsOther}
use Rattle.world_law.proofs.Quiet.{IsOfMessage, IsQuiet, by_kind, due-quiet}

-- the one dispatch of an edit of messages
is_shown : (t : Record) (v : Viewer) (o : Option About) (sent : List Dispatch) → is_some o ≡ true → sent ≡ shown t v o → IsShown t v o sent
is_shown t v None sent there is = absurd (cc there)
is_shown t v (Some about) sent there is = record { about = about; is = refl; exactly = is }

pub messages_shown : (logs : Seen) (now : Cursors) (x : Session Sent) → SessionEntriesHold logs now x → MessagesShown logs now x
messages_shown logs now x old g front e is from upto accepted =
    let s : Record = state g front in
    let t : Record = after s (edit.Message e) in
    let both = messages-shown s e x.viewer accepted in
    is_shown t x.viewer (message_told t x.viewer (message_note s e) e) _ both.0 (old.handled g front (edit.Message e) is from upto ∙ both.1)

module _ (logs : Seen) (start last : Cursors) (v : Viewer) (sent : List SentDispatch) (holds : EntriesHold logs start last v sent) (within : (g : ℕ) → last g ≤ length (logs g)) where
  abbrev entry_at : ℕ → ℕ → Edit
  entry_at g k = get_or (logs g) k (edit.Guild GuildOutage)

  -- an entry that was handled while the session was there
  at_entry : (g k : ℕ) (d : Dispatch) (front back : List Dispatch) → made_for g (k + 1) sent ≡ front ++ d ∷ back → about_messages d ≡ true → start g ≤ k → k + 1 ≤ last g → IsOfMessages logs (Entry g (k + 1))
  at_entry g k d front back made about from upto =
      by_edit (by_kind e)
    where
      e : Edit
      e = entry_at g k

      inside : k < length (logs g)
      inside = omega (arith, upto, within g)

      long : length (take k (logs g)) ≡ k
      long = length-take-le k (logs g) (omega (arith, inside))

      cut : take (k + 1) (logs g) ≡ take k (logs g) ++ e ∷ []
      cut = ap (λ n. take n (logs g)) (add-one k) ∙ take-suc (logs g) k (edit.Guild GuildOutage) inside

      owed : made_for g (k + 1) sent ≡ due (state g (take k (logs g))) e v
      owed =
          let P : ℕ → Type 0 = λ n. take (n + 1) (logs g) ≡ take k (logs g) ++ e ∷ [] → start g ≤ n → n + 1 ≤ last g → made_for g (n + 1) sent ≡ due (state g (take k (logs g))) e v in
          subst P long (holds.handled g (take k (logs g)) e) cut from upto

      by_edit : IsOfMessage e ⊎ IsOther e → IsOfMessages logs (Entry g (k + 1))
      by_edit (inl of) = (take k (logs g), (of.0, (ap (λ n. n + 1) (sym long), cut ∙ ap (λ x. take k (logs g) ++ x ∷ []) of.1)))
      by_edit (inr other) =
          let quiet : IsQuiet d = all_at IsQuiet front d back (subst (λ ds. All IsQuiet ds) (sym owed ∙ made) (due-quiet (state g (take k (logs g))) e v other)) in
          absurd (cc (quiet, about))

  -- no other entry made anything
  not_none : (d : Dispatch) (front back ds : List Dispatch) → ds ≡ front ++ d ∷ back → ds ≡ [] → ⊥
  not_none d [] back ds is none = absurd (cc)
  not_none d (x ∷ front) back ds is none = absurd (cc)

  at_position : (g p : ℕ) (d : Dispatch) (front back : List Dispatch) → made_for g p sent ≡ front ++ d ∷ back → about_messages d ≡ true → IsOfMessages logs (Entry g p)
  at_position g p d front back made about = by_tests (nat_le p (start g)) (nat_le p (last g)) refl refl
    where
      by_tests : (a b : Bool) → nat_le p (start g) ≡ a → nat_le p (last g) ≡ b → IsOfMessages logs (Entry g p)
      by_tests true b early late = absurd (not_none d front back (made_for g p sent) made (holds.before g p (grind (arith, nat_tests, early))))
      by_tests false false early late = absurd (not_none d front back (made_for g p sent) made (holds.beyond g p (grind (arith, nat_tests, late))))
      by_tests false true early late =
          let after_start : start g < p = grind (arith, nat_tests, early) in
          let upto : p ≤ last g = grind (arith, nat_tests, late) in
          by_count p made after_start upto
        where
          by_count : (q : ℕ) → made_for g q sent ≡ front ++ d ∷ back → start g < q → q ≤ last g → IsOfMessages logs (Entry g q)
          by_count zero made low high = absurd (omega (arith, low))
          by_count (suc k) made low high =
              subst (λ n. IsOfMessages logs (Entry g n)) (add-one k)
              (at_entry g k d front back (ap (λ n. made_for g n sent) (add-one k) ∙ made) about (omega (arith, low)) (omega (arith, high)))

  this_one : (earlier later : List SentDispatch) (t : SentDispatch) → earlier ++ t ∷ later ≡ sent → IsPlain t → about_messages t.dispatch ≡ true → IsOfMessages logs t.mark
  this_one earlier later t is plain about = by_mark t.mark refl (plain about)
    where
      by_mark : (mark : Mark) → t.mark ≡ mark → IsOfEntry mark → IsOfMessages logs mark
      by_mark Start same of = absurd of
      by_mark (Chunk n) same of = absurd of
      by_mark (Entry g p) same of =
          let own : is_for g p t.mark ≡ true = ap (is_for g p) same ∙ simp (same_id g, same_id p) in
          let mine : made_for g p (t ∷ later) ≡ t.dispatch ∷ made_for g p later = ap (λ b. map dispatch_of (if b then t ∷ filter (λ (u : SentDispatch). is_for g p u.mark) later else filter (λ (u : SentDispatch). is_for g p u.mark) later)) own in
          at_position g p t.dispatch (made_for g p earlier) (made_for g p later)
          (ap (made_for g p) (sym is) ∙ (made-append g p earlier (t ∷ later) ∙ ap (λ ds. made_for g p earlier ++ ds) mine)) about

  alone_from : (earlier rest : List SentDispatch) → earlier ++ rest ≡ sent → All IsPlain rest → All (IsMadeForMessages logs) rest
  alone_from earlier [] is plain = All-nil (IsMadeForMessages logs)
  alone_from earlier (t ∷ rest) is plain =
      All-cons (IsMadeForMessages logs) t rest (this_one earlier rest t is (All-head IsPlain t rest plain))
      (alone_from (earlier ++ t ∷ []) rest (append_assoc earlier (t ∷ []) rest ∙ is) (All-tail IsPlain t rest plain))

  pub messages_alone : All IsPlain sent → All (IsMadeForMessages logs) sent
  messages_alone plain = alone_from [] sent refl plain
