-- Lines that a watcher tells, one after another.
use Rattle.std.proofs.Common.{◌≡◌, ◌⊎◌, ℕ, ◌+◌, ◌≤◌, List, [], ◌++◌, true, Option, Some, None, refl, sym, ap, subst, ◌∙◌, arith, inl, inr, append_assoc, append-nil, length, length-append}
use Rattle.std.specs.Prelude.{option_map, option_to_list}
use Rattle.std.proofs.lemmas.Grind.{flat_map-append}
use Rattle.gate_outside.specs.Causes.{Rose}
use Rattle.gate_outside.specs.Streams.{Carries}
use Rattle.gate_outside.proofs.Fronts.{puts, carries_more}
use Rattle.client_session.specs.Step.{Event}
use Rattle.client_run.specs.Histories.{line_of, lines}
use Rattle.client_run.specs.Watched.{WatchTale, no_tale, text_of, HasTold, HasToldFront}

none_more : (n : ℕ) → n + 0 ≡ n
none_more n = omega arith

count_none : (o : Option ℕ) → o ≡ option_map (λ n. n + 0) o
count_none None = refl
count_none (Some n) = ap Some (sym (none_more n))

same_count : (n : ℕ) → n ≤ n
same_count n = omega arith

pub told_nothing : (t : WatchTale) → HasTold t [] t
told_nothing t = record { count = count_none t.count; goal = refl; text = puts t.got t.waits t.waits [] (sym (append-nil t.waits)); later = same_count t.faults; rose = λ e. inl e }

both_more : (n a b c : ℕ) → c ≡ a + b → (n + a) + b ≡ n + c
both_more n a b c e = omega (arith, e)

count_two : (o : Option ℕ) (xs ys : List (List ℕ)) → option_map (λ n. n + length ys) (option_map (λ n. n + length xs) o) ≡ option_map (λ n. n + length (xs ++ ys)) o
count_two None xs ys = refl
count_two (Some n) xs ys = ap Some (both_more n (length xs) (length ys) (length (xs ++ ys)) (length-append xs ys))

text_two : (xs ys : List (List ℕ)) → text_of (xs ++ ys) ≡ text_of xs ++ text_of ys
text_two xs ys = flat_map-append (λ (line : List ℕ). line) xs ys

later_two : (a b c : ℕ) → a ≤ b → b ≤ c → a ≤ c
later_two a b c h k = omega (arith, h, k)

rose_later : (a b c : ℕ) → a ≤ b → Rose b c → Rose a c
rose_later a b c h k = omega (arith, h, k)

rose_before : (a b c : ℕ) → b ≤ c → Rose a b → Rose a c
rose_before a b c h k = omega (arith, h, k)

module _ (a b c : WatchTale) (later_ab : a.faults ≤ b.faults) (later_bc : b.faults ≤ c.faults) where
  rose_first : (a.failed ≡ true) ⊎ Rose a.faults b.faults → (a.failed ≡ true) ⊎ Rose a.faults c.faults
  rose_first (inl e) = inl e
  rose_first (inr e) = inr (rose_before a.faults b.faults c.faults later_bc e)

  rose_two : (b.failed ≡ true → (a.failed ≡ true) ⊎ Rose a.faults b.faults) → (b.failed ≡ true) ⊎ Rose b.faults c.faults → (a.failed ≡ true) ⊎ Rose a.faults c.faults
  rose_two first (inl e) = rose_first (first e)
  rose_two first (inr e) = inr (rose_later a.faults b.faults c.faults later_ab e)

pub told_two : (a b c : WatchTale) (xs ys : List (List ℕ)) → HasTold a xs b → HasTold b ys c → HasTold a (xs ++ ys) c
told_two a b c xs ys h k = record {
  goal = k.goal ∙ h.goal;
  count = k.count ∙ ap (λ (o : Option ℕ). option_map (λ n. n + length ys) o) h.count ∙ count_two a.count xs ys;
  text = subst (λ (text : List ℕ). Carries a.got c.got c.waits text) (append_assoc a.waits (text_of xs) (text_of ys) ∙ ap (λ (text : List ℕ). a.waits ++ text) (sym (text_two xs ys)))
      (carries_more a.got b.got c.got b.waits c.waits (a.waits ++ text_of xs) (text_of ys) h.text k.text);
  later = later_two a.faults b.faults c.faults h.later k.later;
  rose = λ e. rose_two a b c h.later k.later h.rose (k.rose e);
}

-- as if all were told
abbrev pub with_lines : WatchTale → List (List ℕ) → WatchTale
with_lines t lines = record t { count = option_map (λ n. n + length lines) t.count; waits = t.waits ++ text_of lines }

pub told_all : (t : WatchTale) (lines : List (List ℕ)) → HasTold t lines (with_lines t lines)
told_all t lines = record { count = refl; goal = refl; text = puts t.got t.waits (t.waits ++ text_of lines) (text_of lines) refl; later = same_count t.faults; rose = λ e. inl e }

-- a watcher that tells nothing
pub told_silent : (lines : List (List ℕ)) → HasTold no_tale lines no_tale
told_silent lines = record { count = refl; goal = refl; text = record { sent = text_of lines; is = append-nil (text_of lines); wrote = tt }; later = same_count 0; rose = λ e. inl e }

-- those of more events
pub lines_more : (es fs : List Event) → lines (es ++ fs) ≡ lines es ++ lines fs
lines_more es fs = flat_map-append (λ (e : Event). option_to_list (line_of e)) es fs

-- ---- a front of them

pub front_none : (old new : WatchTale) → new ≡ old → HasToldFront old [] new
front_none old new same = record { front = []; rest = []; parts = refl; told = subst (λ (t : WatchTale). HasTold old [] t) (sym same) (told_nothing old) }

pub front_more : (old mid new : WatchTale) (xs ys : List (List ℕ)) → HasTold old xs mid → HasToldFront mid ys new → HasToldFront old (xs ++ ys) new
front_more old mid new xs ys saw h = record {
  front = xs ++ h.front;
  rest = h.rest;
  parts = ap (λ (ls : List (List ℕ)). xs ++ ls) h.parts ∙ sym (append_assoc xs h.front h.rest);
  told = told_two old mid new xs h.front saw h.told;
}
