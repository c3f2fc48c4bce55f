use Rattle.std.proofs.Common.{rules, ◌≡◌, ◌∙◌, ℕ, suc, List, ◌∷◌, ◌++◌, [], length, sym, ap, subst, refl, arith}
use Rattle.std.specs.Global.{Vec}
use Rattle.std.proofs.lemmas.List.{length_push}
use Rattle.std.proofs.lemmas.List.Elements.{All-head, All-tail, All-same}
use Rattle.guild_hub.specs.Sights.{Seeing}
use Rattle.run_stage.specs.Hubs.{Has}
use Rattle.run_stage.proofs.Turned.{Turns, begun, turned}
use Rattle.run_stage.proofs.hubs.add_to_each.Goals as goal

pub loop-reader-init : goal.loop-reader-init
loop-reader-init c =
    let left : length c.from-left.result.items ≡ length c.args.lists.now.items = ap length c.from-left.ensures.0 ∙ c.requires in
    record {
      many = refl;
      enough = omega (arith, left);
      turns = λ had one all same. (
        All-same (λ r. r ≡ one) c.from-left.result.items c.args.readers.items c.from-left.ensures.0 same,
        begun (Has had) (Has (had ++ (c.args.guild, one) ∷ [])) (length c.from-left.result.items) c.args.lists.now.items left all,
      );
    }

pub loop-reader-preserved : goal.loop-reader-preserved
loop-reader-preserved c =
    let at = c.loop-reader in
    let reader : Seeing = c.in-Some.reader in
    let rest : List Seeing = c.pop_front.new.self.items in
    let list : Vec (ℕ × Seeing) = c.take_next-list.result in
    let later : List (Vec (ℕ × Seeing)) = c.take_next-list.new.items.items in
    let longer : Vec (ℕ × Seeing) = c.push.new.self in
    let new : List (Vec (ℕ × Seeing)) = c.push_back.new.self.items in
    let popped : at.left.items ≡ reader ∷ rest = c.in-Some.ensures.items in
    let front : at.lists.items ≡ list ∷ later = c.take_next-list.ensures in
    let added : longer.items ≡ list.items ++ (c.args.guild, reader) ∷ [] = c.in_ok-push.ensures.items in
    let behind : new ≡ later ++ longer ∷ [] = c.in_ok-push_back.ensures.items in
    let fewer : length at.left.items ≡ suc (length rest) = ap length popped in
    let as_many : length new ≡ length at.lists.items = ap length behind ∙ length_push later longer ∙ omega (arith, ap length front) in
    record {
      many = as_many ∙ at.invariant.many;
      enough = omega (arith, at.invariant.enough, fewer, as_many);
      turns = λ had one all same.
          let old = at.invariant.turns had one all same in
          let Was : Vec (ℕ × Seeing) → Type 0 = Has had in
          let Is : Vec (ℕ × Seeing) → Type 0 = Has (had ++ (c.args.guild, one) ∷ []) in
          let Same : Seeing → Type 0 = λ r. r ≡ one in
          let here = All-same Same (reader ∷ rest) at.left.items (sym popped) old.0 in (
            All-tail Same reader rest here,
            turned Was Is (length rest) at.lists.items later new list longer (subst (λ n. Turns Was Is n at.lists.items) fewer old.1) front behind
                (λ was. added ∙ ap (λ l. l ++ (c.args.guild, reader) ∷ []) was ∙ ap (λ r. had ++ (c.args.guild, r) ∷ []) (All-head Same reader rest here)),
          );
    }

pub returns-clause-added : goal.returns-clause-added
returns-clause-added c had one all same =
    let at = c.loop-reader in
    let none : length at.left.items ≡ 0 = search rules in
    subst (λ n. Turns (Has had) (Has (had ++ (c.args.guild, one) ∷ [])) n at.lists.items) none (at.invariant.turns had one all same).1
