-- The inputs of turns are about the guilds of the turns.
use Rattle.std.proofs.Common.{◌≡◌, ℕ, Bool, true, false, not, true≢false, List, [], ◌∷◌, ◌++◌, if◌then◌else◌, Option, Some, IfSome, map, flat_map, refl, sym, subst}
use Rattle.std.specs.Prelude.{◌==◌, All}
use Rattle.std.proofs.lemmas.Bool.{eq-eqb, or_left, or_right}
use Rattle.std.proofs.lemmas.List.Elements.{All-nil, All-cons, All-head, All-tail, All-append}
use Rattle.world_law.specs.Inputs.{Input, Look, Rebase, Open, Frame, Lost, Closed, Tick}
use Rattle.worker_run.specs.Turns.{is_loss, but_losses, looked_at, comes_over, IsAtMostOneOpen, IsTurn, AreTurns}
use Rattle.worker_run.specs.Hubs.{IsAmong, IsAbout}
use Rattle.guild_places.specs.Places.{has_guild}

module _ (guilds : List ℕ) where
  about_guild : (i : Input) (g : ℕ) → looked_at i ≡ Some g → IsAmong guilds g → IsAbout guilds i
  about_guild i g e among = subst (λ (o : Option ℕ). IfSome o (IsAmong guilds)) (sym e) among

  about_looks : (looks : List Input) (gs : List ℕ) → map looked_at looks ≡ map Some gs → ((g : ℕ) → IsAmong gs g → IsAmong guilds g) → All (IsAbout guilds) looks
  about_looks [] gs e among = All-nil (IsAbout guilds)
  about_looks (i ∷ is) [] e among = absurd (cc e)
  about_looks (i ∷ is) (g ∷ gs) e among =
      All-cons (IsAbout guilds) i is
      (about_guild i g (cc e) (among g (or_left (g == g) (has_guild g gs) (eq-eqb g g refl))))
      (about_looks is gs (cc e) (λ h here. among h (or_right (g == h) (has_guild h gs) here)))

  about_opens : (opens : List Input) → IsAtMostOneOpen opens → All (IsAbout guilds) opens
  about_opens [] one = All-nil (IsAbout guilds)
  about_opens (Open conn ∷ []) one = All-cons (IsAbout guilds) (Open conn) [] tt (All-nil (IsAbout guilds))
  about_opens (Open conn ∷ i ∷ is) one = absurd one
  about_opens (Look g es ∷ is) one = absurd one
  about_opens (Rebase g log ∷ is) one = absurd one
  about_opens (Frame conn text ∷ is) one = absurd one
  about_opens (Lost conn ∷ is) one = absurd one
  about_opens (Closed conn code ∷ is) one = absurd one
  about_opens (Tick now ∷ is) one = absurd one

  came_over : (i : Input) (conn : ℕ) → comes_over i ≡ Some conn → IsAbout guilds i
  came_over (Look g es) conn e = absurd (cc e)
  came_over (Rebase g log) conn e = absurd (cc e)
  came_over (Open c) conn e = tt
  came_over (Frame c text) conn e = tt
  came_over (Lost c) conn e = tt
  came_over (Closed c code) conn e = tt
  came_over (Tick now) conn e = tt

  about_came : (is : List Input) (conns : List ℕ) → map comes_over is ≡ map Some conns → All (IsAbout guilds) is
  about_came [] conns e = All-nil (IsAbout guilds)
  about_came (i ∷ is) [] e = absurd (cc e)
  about_came (i ∷ is) (conn ∷ conns) e = All-cons (IsAbout guilds) i is (came_over i conn (cc e)) (about_came is conns (cc e))

  pub about_turn : (is : List Input) → IsTurn guilds is → All (IsAbout guilds) is
  about_turn is turn =
      subst (All (IsAbout guilds)) (sym turn.parts)
      (All-append (IsAbout guilds) turn.looks _ (about_looks turn.looks guilds turn.each (λ g here. here))
      (All-cons (IsAbout guilds) (Tick turn.now) _ tt
      (All-append (IsAbout guilds) turn.opens turn.came (about_opens turn.opens turn.one) (about_came turn.came turn.conns.conns turn.conns.over))))

  front_about : (is rest : List Input) → All (IsAbout guilds) (is ++ rest) → All (IsAbout guilds) is
  front_about [] rest all = All-nil (IsAbout guilds)
  front_about (i ∷ is) rest all =
      All-cons (IsAbout guilds) i is (All-head (IsAbout guilds) i (is ++ rest) all) (front_about is rest (All-tail (IsAbout guilds) i (is ++ rest) all))

  about_turns : (turns : List (List Input)) → All (IsTurn guilds) turns → All (IsAbout guilds) (flat_map (λ turn. turn) turns)
  about_turns [] whole = All-nil (IsAbout guilds)
  about_turns (is ∷ turns) whole =
      All-append (IsAbout guilds) is (flat_map (λ turn. turn) turns) (about_turn is (All-head (IsTurn guilds) is turns whole)) (about_turns turns (All-tail (IsTurn guilds) is turns whole))

  loss_about : (i : Input) → is_loss i ≡ true → IsAbout guilds i
  loss_about (Look g es) e = absurd (true≢false (sym e))
  loss_about (Rebase g log) e = absurd (true≢false (sym e))
  loss_about (Open conn) e = tt
  loss_about (Frame conn text) e = tt
  loss_about (Lost conn) e = tt
  loss_about (Closed conn code) e = tt
  loss_about (Tick now) e = tt

  with_losses : (is : List Input) → All (IsAbout guilds) (but_losses is) → All (IsAbout guilds) is
  with_losses [] all = All-nil (IsAbout guilds)
  with_losses (i ∷ is) all = by_loss (is_loss i) refl all (with_losses is)
    where
      by_loss : (b : Bool) → is_loss i ≡ b → All (IsAbout guilds) (if not b then i ∷ but_losses is else but_losses is) → (All (IsAbout guilds) (but_losses is) → All (IsAbout guilds) is) → All (IsAbout guilds) (i ∷ is)
      by_loss true e rest others = All-cons (IsAbout guilds) i is (loss_about i e) (others rest)
      by_loss false e rest others =
          All-cons (IsAbout guilds) i is (All-head (IsAbout guilds) i (but_losses is) rest) (others (All-tail (IsAbout guilds) i (but_losses is) rest))

  -- each input of turns that is about a log is about that of one of the guilds
  pub about_all : (is : List Input) → AreTurns guilds is → All (IsAbout guilds) is
  about_all is turns =
      with_losses is
      (subst (All (IsAbout guilds)) (sym turns.parts)
      (All-append (IsAbout guilds) (flat_map (λ turn. turn) turns.turns) turns.last (about_turns turns.turns turns.whole)
      (front_about turns.last turns.cut.0 (about_turn (turns.last ++ turns.cut.0) turns.cut.1))))
