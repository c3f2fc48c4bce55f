-- Each move of a lane keeps its rule.
use Rattle.std.proofs.Common.{◌≡◌, ℕ, true, List, [], ◌∷◌, ◌++◌, length, set, sym, refl, ap, ◌∙◌, append_assoc}
use mathlib.Core.Option.{some}
use lib.ListN.{get_elem?}
use Rattle.crossbeam_queue.specs.Fifo.{Pushes, Pops, Forks, Learns}
use Rattle.thread_outside.proofs.Views.{each_none, each_set, each_snoc, no}
use Rattle.gate_outside.specs.declared.sending.Sending.{Sending}
use Rattle.thread_outside.specs.declared.lane_view.LaneView.{LaneView}
use Rattle.thread_outside.specs.Lanes.{view_of, opening, putter, taker, spent, after_put, with_empty_take, KeepsAll}

abbrev Putters : ℕ → List Sending → ℕ → LaneView → Type 0
Putters put_at all j v = v.puts ≡ true → (j ≡ put_at) × (v.put ≡ all)

abbrev Takers : ℕ → List Sending → ℕ → LaneView → Type 0
Takers take_at taken j v = v.takes ≡ true → (j ≡ take_at) × (v.taken ≡ taken)

pub opens : KeepsAll [] (opening ∷ [])
opens = record {
  put_at = 0;
  take_at = 0;
  taken = [];
  putters = each_snoc (Putters 0 []) [] opening (λ _. (refl, refl)) (each_none _);
  takers = each_snoc (Takers 0 []) [] opening (λ _. (refl, refl)) (each_none _);
}

pub forks : (port : ℕ) (v : LaneView) → v.puts ≡ true → v.takes ≡ true → Forks KeepsAll port v (putter v) (taker v)
forks port v puts takes items views d at =
    let mine = d.takers port v at takes in
    let cut : List LaneView = set views port (putter v) in
    let F : ℕ → LaneView → Type 0 = Putters d.put_at (d.taken ++ items) in
    let G : ℕ → LaneView → Type 0 = Takers (length cut) d.taken in record {
      put_at = d.put_at;
      take_at = length cut;
      taken = d.taken;
      putters = each_snoc F cut (taker v) (no refl) (each_set F views port (putter v) (λ _. d.putters port v at puts) (λ j u far e. d.putters j u e));
      takers = each_snoc G cut (taker v) (λ _. (refl, mine.1)) (each_set G views port (putter v) (no refl) (λ j u far e takes'. absurd (far ((d.takers j u e takes').0 ∙ sym mine.0))));
    }

pub pushes : (n port : ℕ) (v : LaneView) (x : Sending) → v.puts ≡ true → Pushes KeepsAll n port v x (λ w. w ≡ after_put v x)
pushes n port v x puts items views _ d at =
    let mine = d.putters port v at puts in
    let w : LaneView = after_put v x in (
      w,
      record {
        put_at = d.put_at;
        take_at = d.take_at;
        taken = d.taken;
        putters = each_set (Putters d.put_at (d.taken ++ (items ++ x ∷ []))) views port w (λ _. (mine.0, ap (λ l. l ++ x ∷ []) mine.1 ∙ append_assoc d.taken items (x ∷ [])))
            (λ j u far e puts'. absurd (far ((d.putters j u e puts').0 ∙ sym mine.0)));
        takers = each_set (Takers d.take_at d.taken) views port w (λ takes. d.takers port v at takes) (λ j u far e. d.takers j u e);
      },
      refl,
    )

-- a take with so many takes that found nothing
abbrev took_and : ℕ → LaneView → Sending → LaneView
took_and n v x = view_of v.puts v.put v.takes (v.taken ++ x ∷ []) n

pub counts : (port : ℕ) (v : LaneView) → v.takes ≡ true → Forks KeepsAll port v (with_empty_take v) spent
counts port v takes items views d at =
    let cut : List LaneView = set views port (with_empty_take v) in
    let F : ℕ → LaneView → Type 0 = Putters d.put_at (d.taken ++ items) in
    let G : ℕ → LaneView → Type 0 = Takers d.take_at d.taken in record {
      put_at = d.put_at;
      take_at = d.take_at;
      taken = d.taken;
      putters = each_snoc F cut spent (no refl) (each_set F views port (with_empty_take v) (λ puts. d.putters port v at puts) (λ j u far e. d.putters j u e));
      takers = each_snoc G cut spent (no refl) (each_set G views port (with_empty_take v) (λ t. d.takers port v at t) (λ j u far e. d.takers j u e));
    }

pub pops : (n port : ℕ) (v : LaneView) → v.takes ≡ true → Pops KeepsAll port v (λ x w. w ≡ took_and n v x)
pops n port v takes x items views d at =
    let mine = d.takers port v at takes in
    let w : LaneView = took_and n v x in
    let taken : List Sending = d.taken ++ x ∷ [] in
    let same : taken ++ items ≡ d.taken ++ (x ∷ items) = append_assoc d.taken (x ∷ []) items in (
      w,
      record {
        put_at = d.put_at;
        take_at = d.take_at;
        taken = taken;
        putters = each_set (Putters d.put_at (taken ++ items)) views port w (λ puts. let own = d.putters port v at puts in (own.0, own.1 ∙ sym same))
            (λ j u far e puts. let own = d.putters j u e puts in (own.0, own.1 ∙ sym same));
        takers = each_set (Takers d.take_at taken) views port w (λ _. (mine.0, ap (λ l. l ++ x ∷ []) mine.1))
            (λ j u far e takes'. absurd (far ((d.takers j u e takes').0 ∙ sym mine.0)));
      },
      refl,
    )

pub sees : (port : ℕ) (v : LaneView) → Learns KeepsAll port v (λ items. (views : List LaneView) × (port : ℕ) × KeepsAll items views × (get_elem? views port ≡ some v))
sees port v items views d at = (views, port, d, at)

pub in_whole : (items : List Sending) (views : List LaneView) (j k : ℕ) (t p : LaneView) → KeepsAll items views
    → get_elem? views j ≡ some t → t.takes ≡ true → get_elem? views k ≡ some p → p.puts ≡ true → p.put ≡ t.taken ++ items
in_whole items views j k t p d at takes at' puts = (d.putters k p at' puts).1 ∙ ap (λ l. l ++ items) (sym (d.takers j t at takes).1)
