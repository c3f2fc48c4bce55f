use Rattle.std.proofs.Common.{◌∙◌, ◌++◌, ◌∷◌, [], ap, append_assoc}
use Rattle.gate_ends.proofs.reports.reports_of.Goals as goal

pub returns : goal.returns
returns g c =
    let both = c.in-Some-Some in record {
      before = c.pop-2.new.self.items;
      one = both.first;
      other = both.second;
      actors_are = both.ensures.items ∙ ap (λ l. l ++ both.second ∷ []) both.ensures'.items ∙ append_assoc c.pop-2.new.self.items (both.first ∷ []) (both.second ∷ []);
      first_is = c.in_ok-first.ensures;
      second_is = c.in_ok-second.ensures;
    }
