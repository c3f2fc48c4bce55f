-- The inputs of parts of turns, but for losses, and the turns that they make.
use Rattle.std.proofs.Common.{◌≡◌, ℕ, ◌+◌, ◌<◌, List, [], ◌∷◌, ◌++◌, true, false, not, Option, Some, inl, inr, map, flat_map, take, drop, length, get_or, slice_get, cond, refl, sym, ap, ap₂, subst, ◌∙◌, append_assoc, append-nil}
use Rattle.std.specs.List.{list_all}
use Rattle.std.proofs.lemmas.Bool.{and_parts}
use Rattle.std.proofs.lemmas.List.{map-append, take-append-drop, take_more}
use Rattle.std.proofs.lemmas.List.Elements.{filter-append, All-nil, All-cons, All-append}
use Rattle.std.proofs.lemmas.List.Concat.{flat_map-append}
use Rattle.std.proofs.lemmas.Option.{slice_get-get_or}
use Rattle.world_law.specs.Inputs.{Input, Look, Rebase, Open, Frame, Lost, Closed, Tick}
use Rattle.worker_run.specs.Histories.{History, Took, inputs}
use Rattle.worker_run.specs.Turns.{is_loss, but_losses, looked_at, IsAtMostOneOpen, CameFrom, IsTurn, IsTurnCut, AreWholeTurns, AreTurns}
use Rattle.worker_run.specs.Moves.{kept, AreLooks, AreFirstLooks, IsLookOf, IsLookOfOrNone}
use Rattle.worker_run.proofs.Histories.{inputs_join}

-- ---- the inputs but for losses

pub losses_join : (is js : List Input) → but_losses (is ++ js) ≡ but_losses is ++ but_losses js
losses_join is js = filter-append (λ i. not (is_loss i)) is js

pub kept_join : (h k : History) → kept (h ++ k) ≡ kept h ++ kept k
kept_join h k = ap (λ (is : List Input). but_losses is) (inputs_join h k) ∙ losses_join (inputs h) (inputs k)

pub only_losses : (is : List Input) → list_all is_loss is ≡ true → but_losses is ≡ []
only_losses [] losses = refl
only_losses (i ∷ is) losses =
    let each = and_parts (is_loss i) (list_all is_loss is) losses in
    ap (λ b. cond (not b) (i ∷ but_losses is) (but_losses is)) each.0 ∙ only_losses is each.1

-- an input that is no loss, and losses after it
pub one_kept : (i : Input) (h : History) → is_loss i ≡ false → list_all is_loss (inputs h) ≡ true → kept (Took i ∷ h) ≡ i ∷ []
one_kept i h other losses =
    ap (λ b. cond (not b) (i ∷ kept h) (kept h)) other ∙ ap (λ (is : List Input). i ∷ is) (only_losses (inputs h) losses)

-- ---- looks

abbrev pub looks_of : History → List (Option ℕ)
looks_of h = map looked_at (kept h)

pub looks_join : (h k : History) → looks_of (h ++ k) ≡ looks_of h ++ looks_of k
looks_join h k = ap (λ (is : List Input). map looked_at is) (kept_join h k) ∙ map-append looked_at (kept h) (kept k)

look_is_no_loss : (i : Input) (g : ℕ) → looked_at i ≡ Some g → is_loss i ≡ false
look_is_no_loss (Look h es) g about = refl
look_is_no_loss (Rebase h log) g about = refl
look_is_no_loss (Open conn) g about = refl
look_is_no_loss (Frame conn text) g about = refl
look_is_no_loss (Lost conn) g about = cc
look_is_no_loss (Closed conn code) g about = refl
look_is_no_loss (Tick now) g about = refl

pub one_look : (i : Input) (h : History) (g : ℕ) → looked_at i ≡ Some g → list_all is_loss (inputs h) ≡ true → IsLookOf (Some g) (Took i ∷ h)
one_look i h g about losses = ap (λ (is : List Input). map looked_at is) (one_kept i h (look_is_no_loss i g about) losses) ∙ ap (λ o. o ∷ []) about

-- the look at one hub more
pub looks_more : (guilds : List ℕ) (place : ℕ) (h k : History) → place < length guilds → AreLooks (take place guilds) h → IsLookOf (slice_get guilds place) k → AreLooks (take (place + 1) guilds) (h ++ k)
looks_more guilds place h k lt looks look =
    looks_join h k
    ∙ ap₂ (λ xs ys. xs ++ ys) looks (look ∙ ap (λ o. o ∷ []) (slice_get-get_or guilds place 0 lt))
    ∙ sym (map-append Some (take place guilds) (get_or guilds place 0 ∷ []))
    ∙ ap (λ (gs : List ℕ). map Some gs) (sym (take_more guilds place 0 lt))

pub first_looks : (guilds : List ℕ) (place : ℕ) (h : History) → AreLooks (take place guilds) h → AreFirstLooks guilds h
first_looks guilds place h looks = (drop place guilds, (take place guilds, (sym (take-append-drop place guilds), looks)))

-- the look at one hub more, or none
pub looks_stop : (guilds : List ℕ) (place : ℕ) (h k : History) → place < length guilds → AreLooks (take place guilds) h → IsLookOfOrNone (slice_get guilds place) k → AreFirstLooks guilds (h ++ k)
looks_stop guilds place h k lt looks (inl look) = first_looks guilds (place + 1) (h ++ k) (looks_more guilds place h k lt looks look)
looks_stop guilds place h k lt looks (inr none) =
    first_looks guilds place (h ++ k) (looks_join h k ∙ ap (λ (is : List Input). looks_of h ++ map looked_at is) none ∙ append-nil (looks_of h) ∙ looks)

-- ---- turns

pub came_none : (from : ℕ) → CameFrom from []
came_none from = record { conns = []; over = refl; ascend = tt }

abbrev empty_looks : List ℕ → List Input
empty_looks guilds = map (λ g. Look g []) guilds

empty_looked : (guilds : List ℕ) → map looked_at (empty_looks guilds) ≡ map Some guilds
empty_looked [] = refl
empty_looked (g ∷ guilds) = ap (λ l. Some g ∷ l) (empty_looked guilds)

-- a turn in which nothing comes
empty_turn : (guilds : List ℕ) → IsTurn guilds (empty_looks guilds ++ Tick 0 ∷ [])
empty_turn guilds = record {
  looks = empty_looks guilds;
  now = 0;
  opens = [];
  came = [];
  parts = refl;
  each = empty_looked guilds;
  one = tt;
  conns = came_none 0;
}

pub cut_of : (guilds : List ℕ) (is : List Input) → IsTurn guilds is → IsTurnCut guilds is
cut_of guilds is turn = ([], subst (λ (l : List Input). IsTurn guilds l) (sym (append-nil is)) turn)

-- a turn that was cut short among its looks
pub cut_looks : (guilds : List ℕ) (h : History) → AreFirstLooks guilds h → IsTurnCut guilds (kept h)
cut_looks guilds h first =
    let rest : List ℕ = first.0 in
    let front : List ℕ = first.1.0 in (
      empty_looks rest ++ Tick 0 ∷ [],
      record {
        looks = kept h ++ empty_looks rest;
        now = 0;
        opens = [];
        came = [];
        parts = sym (append_assoc (kept h) (empty_looks rest) (Tick 0 ∷ []));
        each =
            map-append looked_at (kept h) (empty_looks rest)
            ∙ ap₂ (λ xs ys. xs ++ ys) first.1.1.1 (empty_looked rest)
            ∙ sym (map-append Some front rest)
            ∙ ap (λ (gs : List ℕ). map Some gs) (sym first.1.1.0);
        one = tt;
        conns = came_none 0;
      },
    )

-- looks at all hubs, the time, what opened and what came
pub turn_of : (guilds : List ℕ) (h : History) (now : ℕ) (is opens came : List Input) → AreLooks guilds h → IsAtMostOneOpen opens → CameFrom 0 came
    → is ≡ kept h ++ (Tick now ∷ (opens ++ came)) → IsTurn guilds is
turn_of guilds h now is opens came looks one conns parts = record {
  looks = kept h;
  now = now;
  opens = opens;
  came = came;
  parts = parts;
  each = looks;
  one = one;
  conns = conns;
}

module _ (guilds : List ℕ) (h k : History) (now : ℕ) (looks : AreLooks guilds h) (tick : kept k ≡ Tick now ∷ []) where
  abbrev ticked : History
  ticked = h ++ k

  ticked_kept : kept ticked ≡ kept h ++ Tick now ∷ []
  ticked_kept = kept_join h k ∙ ap (λ (is : List Input). kept h ++ is) tick

  -- the looks and the time
  pub turn_ticked : IsTurn guilds (kept ticked)
  turn_ticked = turn_of guilds h now (kept ticked) [] [] looks tt (came_none 0) ticked_kept

  module _ (l : History) (one : IsAtMostOneOpen (kept l)) where
    -- and a new connection
    pub turn_opened : IsTurn guilds (kept (ticked ++ l))
    turn_opened =
        turn_of guilds h now (kept (ticked ++ l)) (kept l) [] looks one (came_none 0)
        (kept_join ticked l ∙ ap (λ (is : List Input). is ++ kept l) ticked_kept ∙ append_assoc (kept h) (Tick now ∷ []) (kept l) ∙ ap (λ (is : List Input). kept h ++ (Tick now ∷ is)) (sym (append-nil (kept l))))

    -- and what came over connections
    pub turn_whole : (m : History) → CameFrom 0 (kept m) → IsTurn guilds (kept ((ticked ++ l) ++ m))
    turn_whole m conns =
        turn_of guilds h now (kept ((ticked ++ l) ++ m)) (kept l) (kept m) looks one conns
        (kept_join (ticked ++ l) m ∙ ap (λ (is : List Input). is ++ kept m) (kept_join ticked l ∙ ap (λ (is : List Input). is ++ kept l) ticked_kept)
        ∙ append_assoc (kept h ++ Tick now ∷ []) (kept l) (kept m)
        ∙ append_assoc (kept h) (Tick now ∷ []) (kept l ++ kept m))

-- ---- turns one after another

abbrev joined : List (List Input) → List Input
joined turns = flat_map (λ turn. turn) turns

pub no_turns : (guilds : List ℕ) → AreWholeTurns guilds []
no_turns guilds = record { turns = []; parts = refl; whole = All-nil (IsTurn guilds) }

pub one_turn : (guilds : List ℕ) (is : List Input) → IsTurn guilds (but_losses is) → AreWholeTurns guilds is
one_turn guilds is turn = record {
  turns = but_losses is ∷ [];
  parts = sym (append-nil (but_losses is));
  whole = All-cons (IsTurn guilds) (but_losses is) [] turn (All-nil (IsTurn guilds));
}

pub turns_join : (guilds : List ℕ) (is js : List Input) → AreWholeTurns guilds is → AreWholeTurns guilds js → AreWholeTurns guilds (is ++ js)
turns_join guilds is js first second = record {
  turns = first.turns ++ second.turns;
  parts = losses_join is js ∙ ap₂ (λ xs ys. xs ++ ys) first.parts second.parts ∙ sym (flat_map-append (λ turn. turn) first.turns second.turns);
  whole = All-append (IsTurn guilds) first.turns second.turns first.whole second.whole;
}

-- whole turns, and then a turn that may have been cut short
pub turns_cut : (guilds : List ℕ) (is js : List Input) → AreWholeTurns guilds is → IsTurnCut guilds (but_losses js) → AreTurns guilds (is ++ js)
turns_cut guilds is js first cut = record {
  turns = first.turns;
  last = but_losses js;
  parts = losses_join is js ∙ ap (λ xs. xs ++ but_losses js) first.parts;
  whole = first.whole;
  cut = cut;
}

-- whole turns, and then turns of which the last may have been cut short
pub turns_then : (guilds : List ℕ) (is js : List Input) → AreWholeTurns guilds is → AreTurns guilds js → AreTurns guilds (is ++ js)
turns_then guilds is js first second = record {
  turns = first.turns ++ second.turns;
  last = second.last;
  parts =
      losses_join is js
      ∙ ap₂ (λ xs ys. xs ++ ys) first.parts second.parts
      ∙ sym (append_assoc (joined first.turns) (joined second.turns) second.last)
      ∙ ap (λ xs. xs ++ second.last) (sym (flat_map-append (λ turn. turn) first.turns second.turns));
  whole = All-append (IsTurn guilds) first.turns second.turns first.whole second.whole;
  cut = second.cut;
}

pub turns_of_whole : (guilds : List ℕ) (is : List Input) → AreWholeTurns guilds is → AreTurns guilds is
turns_of_whole guilds is whole = record {
  turns = whole.turns;
  last = [];
  parts = whole.parts ∙ sym (append-nil (joined whole.turns));
  whole = whole.whole;
  cut = (empty_looks guilds ++ Tick 0 ∷ [], empty_turn guilds);
}
