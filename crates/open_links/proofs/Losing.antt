-- Links that are done with: what is given out for their connections goes nowhere, and these may be lost.
use Rattle.std.proofs.Common.{◌≡◌, ℕ, suc, ◌<◌, List, [], ◌∷◌, Bool, true, false, get_or, if◌then◌else◌, refl, subst, arith}
use Rattle.std.specs.Prelude.{◌==◌}
use Rattle.std.proofs.lemmas.Bool.{eqb-true}
use Rattle.std.proofs.lemmas.List.{set-get_or}
use Rattle.collections.specs.ById.{IsById}
use Rattle.open_links.specs.Courses.{Loses, Course, Unopened, Open, Over, moved}
use Rattle.open_links.specs.Links.{Held, held_conn, no_held, MeetsHeld}
use Rattle.open_links.specs.Calls.{is_done}
use Rattle.open_links.specs.Steps.{AllFollow, StandsAt}
use Rattle.open_links.proofs.Listed.{one_follows}

none_failed : {A : Type 0} (n : ℕ) → 0 < n → n ≡ 0 → A
none_failed n lt e = absurd (omega arith)

-- the connection of a link that is done with is lost
done_loses : (c : Course) (l : Held) → l.done ≡ true → MeetsHeld c l → MeetsHeld (moved c Loses) l
done_loses Unopened l d m = let e : ◌≡◌ {A = Bool} false true = m.meets.opened in absurd (cc)
done_loses (Open cs gs) l d m = record {
  meets = record {
    opened = refl;
    gave = m.meets.gave;
    front = m.meets.front;
    whole = none_failed l.faults (m.done d refl);
    lost = λ e. m.done d refl;
  };
  in_use = λ u. absurd (cc);
  done = λ u o. absurd (cc);
}
done_loses (Over cs gs end) l d m = m

-- where a link stands that is done with
pub record IsDoneAt (place conn : ℕ) (links : List Held) : Type 0 where
  pub stands : StandsAt place conn links
  pub is_done : (get_or links place no_held).done ≡ true

done_here : (conn : ℕ) (l : Held) (links : List Held) (b : Bool) → (l.conn == conn) ≡ b → (is_done conn links ≡ true → (i : ℕ) × IsDoneAt i conn links) → (if b then l.done else is_done conn links) ≡ true
    → (i : ℕ) × IsDoneAt i conn (l ∷ links)
done_here conn l links true e later d = (0, record { stands = record { within = omega arith; numbered = λ x. eqb-true l.conn conn e }; is_done = d })
done_here conn l links false e later d =
    let rest = later d in (
      suc rest.0,
      record {
        stands = record { within = omega (arith, rest.1.stands.within); numbered = rest.1.stands.numbered };
        is_done = rest.1.is_done;
      },
    )

pub done_stands : (conn : ℕ) (links : List Held) → is_done conn links ≡ true → (i : ℕ) × IsDoneAt i conn links
done_stands conn [] h = absurd (cc)
done_stands conn (l ∷ links) h = done_here conn l links (l.conn == conn) refl (done_stands conn links) h

pub done_follows : (conn : ℕ) (links : List Held) → IsById held_conn links → is_done conn links ≡ true → AllFollow ((conn, Loses) ∷ []) links links
done_follows conn links h d =
    let at = done_stands conn links d in
    let l = get_or links at.0 no_held in
    subst (AllFollow ((conn, Loses) ∷ []) links) (set-get_or links at.0 no_held)
    (one_follows links at.0 conn no_held l (Loses ∷ []) h at.1.stands (record { conn = refl; in_place = λ c m. (refl, tt); meets = λ c. done_loses c l at.1.is_done }))
