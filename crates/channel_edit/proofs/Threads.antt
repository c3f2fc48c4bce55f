-- The messages of a channel's threads go thread by thread.
use Rattle.std.proofs.Common.{◌≡◌, ◌≤◌, ℕ, length, drop, Bool, true, false, not, ◌&&◌, ◌||◌, List, [], ◌∷◌, Some, None, if◌then◌else◌, refl, sym, ap, ◌∙◌, arith}
use Rattle.std.specs.Prelude.{◌==◌, filter}
use Rattle.std.proofs.lemmas.Bool.Decides.{nat_tests}
use Rattle.std.proofs.Math.ListN.{drop_of_length-le}
use Rattle.std.proofs.lemmas.List.Elements.{filter_agree}
use Rattle.collections.specs.ById.{find_id, IsById}
use Rattle.collections.proofs.Ids.{find_above}
use Rattle.collections.proofs.Mapped.{filter-all}
use Rattle.guild_model.specs.declared.thread.Thread.{Thread}
use Rattle.guild_model.specs.declared.message.MessageHead.{MessageHead}
use Rattle.guild_model.specs.Record.{thread_id}
use Rattle.guild_model.specs.Heads.{without_channel}
use Rattle.channel_edit.specs.ChannelEnd.{is_in_channel, stands_in_no_thread, stands_outside}

-- the messages without those of one thread after another
abbrev pub without_threads : List Thread → ℕ → List MessageHead → List MessageHead
without_threads [] channel ms = ms
without_threads (t ∷ ts) channel ms = without_threads ts channel (if t.parent == channel then without_channel t.id ms else ms)

twice : (p q : MessageHead → Bool) (ms : List MessageHead) → filter p (filter q ms) ≡ filter (λ m. q m && p m) ms
twice p q [] = refl
twice p q (m ∷ ms) = grind (arith, twice p q ms)

pub thread_by_thread : (ts : List Thread) (channel : ℕ) (ms : List MessageHead) → IsById thread_id ts → without_threads ts channel ms ≡ filter (stands_in_no_thread ts channel) ms
thread_by_thread [] channel ms h = sym (filter-all (stands_in_no_thread [] channel) (λ m. refl) ms)
thread_by_thread (t ∷ ts) channel ms h = by_test (t.parent == channel) refl (λ left. thread_by_thread ts channel left h.1)
  where
    its_own : (t.parent == channel) ≡ true → (m : MessageHead) → (not (m.channel == t.id) && stands_in_no_thread ts channel m) ≡ stands_in_no_thread (t ∷ ts) channel m
    its_own is m = by_channel (t.id == m.channel) refl
      where
        by_channel : (b : Bool) → (t.id == m.channel) ≡ b → (not (m.channel == t.id) && stands_in_no_thread ts channel m) ≡ not (is_in_channel channel (if b then Some t else find_id thread_id m.channel ts))
        by_channel true here = let same : (m.channel == t.id) ≡ true = grind (arith, nat_tests) in rw (same, is) refl
        by_channel false here = let other : (m.channel == t.id) ≡ false = grind (arith, nat_tests) in rw other refl

    another : (t.parent == channel) ≡ false → (m : MessageHead) → stands_in_no_thread ts channel m ≡ stands_in_no_thread (t ∷ ts) channel m
    another is m = by_channel (t.id == m.channel) refl
      where
        by_channel : (b : Bool) → (t.id == m.channel) ≡ b → not (is_in_channel channel (find_id thread_id m.channel ts)) ≡ not (is_in_channel channel (if b then Some t else find_id thread_id m.channel ts))
        by_channel true here =
            let same : m.channel ≡ t.id = grind (arith, nat_tests) in
            let none : find_id thread_id m.channel ts ≡ None = find_above thread_id m.channel t.id ts (omega (arith, same)) h.0 in
            rw (none, is) refl
        by_channel false here = refl

    by_test : (b : Bool) → t.parent == channel ≡ b → ((left : List MessageHead) → without_threads ts channel left ≡ filter (stands_in_no_thread ts channel) left)
        → without_threads ts channel (if b then without_channel t.id ms else ms) ≡ filter (stands_in_no_thread (t ∷ ts) channel) ms
    by_test true is rest =
        rest (without_channel t.id ms)
        ∙ (twice (stands_in_no_thread ts channel) (λ m. not (m.channel == t.id)) ms ∙ filter_agree _ (stands_in_no_thread (t ∷ ts) channel) (its_own is) ms)
    by_test false is rest = rest ms ∙ filter_agree (stands_in_no_thread ts channel) (stands_in_no_thread (t ∷ ts) channel) (another is) ms

pub channel_then_threads : (threads : List Thread) (channel : ℕ) (ms : List MessageHead)
    → filter (stands_in_no_thread threads channel) (without_channel channel ms) ≡ filter (stands_outside threads channel) ms
channel_then_threads threads channel ms =
    twice (stands_in_no_thread threads channel) (λ m. not (m.channel == channel)) ms ∙ filter_agree _ (stands_outside threads channel) (λ m. both (m.channel == channel) (is_in_channel channel (find_id thread_id m.channel threads))) ms
  where
    both : (a b : Bool) → (not a && not b) ≡ not (a || b)
    both true b = refl
    both false b = refl

pub none_left : (threads : List Thread) (i channel : ℕ) (ms : List MessageHead) → length threads ≤ i → ms ≡ without_threads (drop i threads) channel ms
none_left threads i channel ms le = ap (λ ts. without_threads ts channel ms) (sym (drop_of_length-le threads le))
