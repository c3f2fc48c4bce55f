-- The chunks that answer a question leave a client with the projection, each of them.
use Rattle.std.proofs.Common.{◌≡◌, ℕ, ◌+◌, List, [], ◌∷◌, ◌++◌, Bool, true, false, Option, Some, None, if◌then◌else◌, length, refl, sym, ap, subst, ◌∙◌, append_assoc, arith, inl}
use Rattle.std.specs.Prelude.{All, ◌==◌, ◌<◌}
use Rattle.std.specs.List.{slice_index_or}
use Rattle.std.proofs.lemmas.List.Elements.{All-nil, All-cons, All-head, All-tail, All-append}
use Rattle.std.proofs.Math.Seq.{take-length}
use Rattle.std.proofs.lemmas.Bool.{eqb-true}
use Rattle.guild_model.specs.Record.{Record}
use Rattle.gateway_frames.specs.declared.frame.Ask.{Ask}
use Rattle.dispatch_types.specs.declared.viewer.Viewer.{Viewer}
use Rattle.dispatch_types.specs.declared.dispatch.Dispatch.{Dispatch}
use Rattle.dispatch_types.specs.Fold.{Held, purge, folded}
use Rattle.dispatch_types.specs.Projection.{projection}
use Rattle.edit_apply.specs.Edits.{state}
use Rattle.edit_apply.specs.declared.Edit.{Edit}
use Rattle.edit_events.specs.Law.{Agrees}
use Rattle.edit_events.proofs.Others.{projection_stays}
use Rattle.member_chunks.specs.Answered.{answered}
use Rattle.member_chunks.specs.Law.{chunk_told}
use Rattle.member_chunks.proofs.Keeps.{each_chunk_keeps, each_chunk_stays}
use Rattle.session_core.specs.declared.reply.Mark.TheVariants.{Chunk}
use Rattle.session_core.specs.State.{Session, Condition, Attached, Detached, Ended}
use Rattle.world_law.specs.Keeping.{Cursors, record_at}
use Rattle.world_law.proofs.Entries.{Entries, IsPlain, made-append}
use Rattle.world_law.proofs.Quiet.{IsQuiet, answer_quiet}
use Rattle.world_law.proofs.Workers.{Follows, SessionMeets, at}
use Rattle.world_law.proofs.Sessions.{Meets, more_sent}
use Rattle.world_law.specs.Model.{Seen, Worker, cursors, in_model}
use Rattle.world_law.specs.Sent.{Sent, SentDispatch, chunks_told, told}
use Rattle.world_law.specs.Wants.{after_answer, answer_to, answered_by, asked, change_first, is_numbered}
use Rattle.world_law.proofs.Lists.{append_none}
use Rattle.world_law.proofs.Found.{found_here}
use Rattle.world_law.specs.Folds.{held}
use Rattle.world_law.proofs.Folds.{held_join}
use Rattle.world_law.specs.Entries.{made_for}
use Rattle.world_law.proofs.Logs.{state_id, state_is_well}

-- a dispatch leaves a client that holds the projection of each guild with it
abbrev Keeps : Seen → Viewer → Dispatch → Type 0
Keeps seen v d = (h : ℕ) (hd : Held) → Agrees (state h (seen h)) v hd → Agrees (state h (seen h)) v (folded v.intents h hd d)

module _ (seen : Seen) (v : Viewer) (g : ℕ) (ask : Ask) where
  abbrev here : Record
  here = state g (seen g)

  own : (d : Dispatch) → ((hd : Held) → hd.view ≡ projection here v hd.known → ((chunk_told here v hd d).bot ≡ hd.bot) × ((chunk_told here v hd d).view ≡ projection here v (chunk_told here v hd d).known))
      → (hd : Held) → Agrees here v hd → Agrees here v (folded v.intents g hd d)
  own d keeps hd old =
      let P : ℕ → Type 0 = λ n. Agrees here v (folded v.intents n hd d) in
      let both = keeps hd old.view in
      subst P (state_id g (seen g)) (record { bot = both.0 ∙ old.bot; view = both.1 })

  other : (h : ℕ) (d : Dispatch) → ((hd : Held) → purge v.intents h hd ≡ hd → folded v.intents h hd d ≡ hd)
      → (hd : Held) → Agrees (state h (seen h)) v hd → Agrees (state h (seen h)) v (folded v.intents h hd d)
  other h d stays hd old =
      let Q : ℕ → Type 0 = λ n. purge v.intents n hd ≡ hd in
      let still : Q h = subst Q (state_id h (seen h)) (projection_stays (state h (seen h)) v hd (state_is_well h (seen h)) old) in
      subst (λ (held : Held). Agrees (state h (seen h)) v held) (sym (stays hd still)) old

  each_keeps : All (Keeps seen v) (answered here v ask)
  each_keeps = λ k d lt h hd old. by_guild k d lt h hd old (g == h) refl
    where
      by_guild : (k : ℕ) (d : Dispatch) → k < length (answered here v ask) → (h : ℕ) (hd : Held) → Agrees (state h (seen h)) v hd → (b : Bool) → (g == h) ≡ b
          → Agrees (state h (seen h)) v (folded v.intents h hd (slice_index_or (answered here v ask) k d))
      by_guild k d lt h hd old true same =
          let is : g ≡ h = eqb-true g h same in
          let P : ℕ → Type 0 = λ n. Agrees (state n (seen n)) v hd → Agrees (state n (seen n)) v (folded v.intents n hd (slice_index_or (answered here v ask) k d)) in
          subst P is (own (slice_index_or (answered here v ask) k d) (each_chunk_keeps here v ask (state_is_well g (seen g)) k d lt) hd) old
      by_guild k d lt h hd old false differ =
          let apart : (here.id == h) ≡ false = ap (λ n. n == h) (state_id g (seen g)) ∙ differ in
          other h (slice_index_or (answered here v ask) k d) (each_chunk_stays here v ask h apart k d lt) hd old

-- each chunk under its own mark
chunks_meet : (seen : Seen) (v : Viewer) (ds : List Dispatch) (made : ℕ) (sent : List SentDispatch) → All (Keeps seen v) ds → Meets seen (cursors seen) v sent
    → Meets seen (cursors seen) v (sent ++ chunks_told made (cursors seen) ds)
chunks_meet seen v [] made sent keeps old = subst (λ (ts : List SentDispatch). Meets seen (cursors seen) v ts) (sym (append_none sent)) old
chunks_meet seen v (d ∷ ds) made sent keeps old =
    subst (λ (ts : List SentDispatch). Meets seen (cursors seen) v ts) (append_assoc sent one (chunks_told (made + 1) (cursors seen) ds))
    (chunks_meet seen v ds (made + 1) (sent ++ one) (All-tail (Keeps seen v) d ds keeps) after_one)
  where
    one : List SentDispatch
    one = told (Chunk (made + 1)) (cursors seen) (cursors seen) (d ∷ [])

    held_now : (h : ℕ) → Agrees (state h (seen h)) v (held v h sent)
    held_now h = subst (λ (es : List Edit). Agrees (state h es) v (held v h sent)) (take-length (seen h)) (old.current h)

    current : (h : ℕ) → Agrees (state h (seen h)) v (held v h (sent ++ one))
    current h =
        subst (λ (hd : Held). Agrees (state h (seen h)) v hd) (sym (held_join v h sent (Chunk (made + 1)) (cursors seen) (cursors seen) (d ∷ [])))
        (All-head (Keeps seen v) d ds keeps h (held v h sent) (held_now h))

    after_one : Meets seen (cursors seen) v (sent ++ one)
    after_one = more_sent seen seen v sent (Chunk (made + 1)) (d ∷ []) (λ g p le. refl) (λ g. omega arith) (λ g p le. inl le) old.folds old.rises old.past current

-- no chunk is made for an entry
no_entry : (g p made : ℕ) (now : Cursors) (ds : List Dispatch) → made_for g p (chunks_told made now ds) ≡ []
no_entry g p made now [] = refl
no_entry g p made now (d ∷ ds) = no_entry g p (made + 1) now ds

-- and none is about messages
chunks_plain : (made : ℕ) (now : Cursors) (ds : List Dispatch) → All IsQuiet ds → All IsPlain (chunks_told made now ds)
chunks_plain made now [] quiet = All-nil IsPlain
chunks_plain made now (d ∷ ds) quiet =
    All-cons IsPlain _ (chunks_told (made + 1) now ds) (λ about. absurd (cc (All-head IsQuiet d ds quiet, about))) (chunks_plain (made + 1) now ds (All-tail IsQuiet d ds quiet))

chunks_entries : (seen : Seen) (v : Viewer) (made : ℕ) (ds : List Dispatch) (sent : List SentDispatch) → All IsQuiet ds → Entries seen (cursors seen) v sent
    → Entries seen (cursors seen) v (sent ++ chunks_told made (cursors seen) ds)
chunks_entries seen v made ds [] quiet old = absurd (old.starts)
chunks_entries seen v made ds (t ∷ ts) quiet old = record {
  starts = tt;
  plain = All-append IsPlain (t ∷ ts) _ old.plain (chunks_plain made (cursors seen) ds quiet);
  holds = record {
    handled = λ g front e h from upto. same g (length front + 1) ∙ old.holds.handled g front e h from upto;
    before = λ g p le. same g p ∙ old.holds.before g p le;
    beyond = λ g p lt. same g p ∙ old.holds.beyond g p lt;
    begun = old.holds.begun;
  };
}
  where
    same : (g p : ℕ) → made_for g p ((t ∷ ts) ++ chunks_told made (cursors seen) ds) ≡ made_for g p (t ∷ ts)
    same g p =
        made-append g p (t ∷ ts) (chunks_told made (cursors seen) ds)
        ∙ (ap (λ xs. made_for g p (t ∷ ts) ++ xs) (no_entry g p made (cursors seen) ds) ∙ append_none (made_for g p (t ∷ ts)))

-- one item changed
changed_all : {A : Type 0} (P : A → Type 0) (p : A → Bool) (f : A → A) → ((x : A) → p x ≡ true → P x → P (f x)) → (xs : List A) → All P xs → All P (change_first p f xs)
changed_all P p f keeps [] all = all
changed_all P p f keeps (x ∷ xs) all = by_test (p x) refl (changed_all P p f keeps xs (All-tail P x xs all))
  where
    by_test : (b : Bool) → p x ≡ b → All P (change_first p f xs) → All P (if b then f x ∷ xs else x ∷ change_first p f xs)
    by_test true here rest = All-cons P (f x) xs (keeps x here (All-head P x xs all)) (All-tail P x xs all)
    by_test false other rest = All-cons P x (change_first p f xs) (All-head P x xs all) rest

answer_keeps : (text : ℕ → Dispatch → List ℕ) (w : Worker) (ask : Ask) (x : Session Sent) → All (Keeps w.logs.seen x.viewer) (answer_to (in_model text) w ask x)
answer_keeps text w ask x = by_found (record_at (in_model text) w.logs ask.guild) refl
  where
    by_found : (o : Option Record) → record_at (in_model text) w.logs ask.guild ≡ o → All (Keeps w.logs.seen x.viewer) (answered_by x.viewer ask o)
    by_found None e = All-nil (Keeps w.logs.seen x.viewer)
    by_found (Some s) e =
        subst (λ (r : Record). All (Keeps w.logs.seen x.viewer) (answered r x.viewer ask)) (sym (found_here text w.logs ask.guild s e).1)
        (each_keeps w.logs.seen x.viewer ask.guild ask)

answered_meets : (text : ℕ → Dispatch → List ℕ) (w : Worker) (ask : Ask) (number : ℕ) (x : Session Sent) → is_numbered number x ≡ true → SessionMeets w.logs.seen x → SessionMeets w.logs.seen (after_answer (in_model text) w ask x)
answered_meets text w ask number x = by_condition x.condition x.sent.end
  where
    more : List SentDispatch
    more = chunks_told w.chunks (cursors w.logs.seen) (answer_to (in_model text) w ask x)

    meets : Meets w.logs.seen (cursors w.logs.seen) x.viewer x.sent.told → Meets w.logs.seen (cursors w.logs.seen) x.viewer (x.sent.told ++ more)
    meets old = chunks_meet w.logs.seen x.viewer (answer_to (in_model text) w ask x) w.chunks x.sent.told (answer_keeps text w ask x) old

    entries : Entries w.logs.seen (cursors w.logs.seen) x.viewer x.sent.told → Entries w.logs.seen (cursors w.logs.seen) x.viewer (x.sent.told ++ more)
    entries old = chunks_entries w.logs.seen x.viewer w.chunks (answer_to (in_model text) w ask x) x.sent.told
        (answer_quiet x.viewer ask (record_at (in_model text) w.logs ask.guild)) old

    by_condition : (condition : Condition) (end : Option Cursors) → is_numbered number (at x condition end) ≡ true → SessionMeets w.logs.seen (at x condition end) → SessionMeets w.logs.seen (after_answer (in_model text) w ask (at x condition end))
    by_condition (Attached conn) None here old = record { meets = meets old.meets; marked = refl; entries = entries old.entries }
    by_condition (Attached conn) (Some last) here old = absurd (cc (old.marked))
    by_condition (Detached since) None here old = record { meets = meets old.meets; marked = refl; entries = entries old.entries }
    by_condition (Detached since) (Some last) here old = absurd (cc (old.marked))
    by_condition Ended end here old = absurd (cc here)

-- a session that is told an answer
pub asked_follows : (text : ℕ → Dispatch → List ℕ) (w : Worker) (ask : Ask) (number : ℕ) → Follows w → Follows (asked (in_model text) w ask number)
asked_follows text w ask number old = record {
  sessions = changed_all (SessionMeets w.logs.seen) (is_numbered number) (after_answer (in_model text) w ask) (answered_meets text w ask number) w.core.sessions old.sessions;
  strangers = old.strangers;
}
