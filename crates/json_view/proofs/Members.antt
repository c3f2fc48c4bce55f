-- What is found among members that were put one after another is the last member of that name.
use Rattle.std.proofs.Common.{◌≡◌, ℕ, List, Bool, true, false, cond, Option, Some, None, option_map, bytes_eq, true≢false, refl, sym, ap, ◌∙◌}
use Rattle.std.proofs.lemmas.Slice.Eq.{bytes_eq-Decides}
use Rattle.std.specs.Borrow.{Bor}
use Rattle.std.specs.declared.alloc.Global.{Global}
use Rattle.json.specs.Json as json
use Rattle.json.specs.Find as json_find
use Rattle.json.specs.Value.{value_view}
use Rattle.json.specs.declared.value.Value.{Value}
use Rattle.serde_json.specs.Data.{Data, Members, no_members, put}
use Rattle.serde_json.specs.Find.{get, get_member}
use Rattle.serde_json.proofs.Views.{get_member-put, get_member-put_other}
use Rattle.json_view.specs.Nodes.{data_of, members_data, view}

abbrev later : Option Data → Option Data → Option Data
later None earlier = earlier
later (Some d) earlier = Some d

-- b says whether this member has the name, and r is what is found after it
at_member : (name k : List ℕ) (j : json.Json) (found : Members) (b : Bool) (r : Option json.Json) → bytes_eq k name ≡ b
    → later (option_map data_of r) (get_member name (put k (data_of j) found)) ≡ later (option_map data_of (json_find.later_or r (cond b (Some j) None))) (get_member name found)
at_member name k j found b (Some x) e = refl
at_member name k j found true None e = rw ((bytes_eq-Decides k name).0 e) (get_member-put name (data_of j) found)
at_member name k j found false None e = get_member-put_other name k (data_of j) found (λ same. true≢false (sym ((bytes_eq-Decides k name).1 (sym same)) ∙ e))

pub among : (name : List ℕ) (ms : json.Members) (found : Members) → get_member name (members_data ms found) ≡ later (option_map data_of (json_find.get_member name ms)) (get_member name found)
among name json.no_members found = refl
among name (json.member k j ms) found = among name ms (put k (data_of j) found) ∙ at_member name k j found (bytes_eq k name) (json_find.get_member name ms) refl

later_none : (o : Option Data) → later o None ≡ o
later_none None = refl
later_none (Some d) = refl

pub get_data : (name : List ℕ) (j : json.Json) → get name (data_of j) ≡ option_map data_of (json_find.get name j)
get_data name json.null = refl
get_data name (json.boolean b) = refl
get_data name (json.number s) = refl
get_data name (json.string s) = refl
get_data name (json.array js) = refl
get_data name (json.object ms) = among name ms no_members ∙ later_none _

each : (r : Option (Bor (Value Global))) → option_map (λ v. view v.now) r ≡ option_map data_of (option_map (λ v. value_view v.now) r)
each None = refl
each (Some v) = refl

pub found : (name : List ℕ) (v : Value Global) (r : Option (Bor (Value Global))) → option_map (λ x. value_view x.now) r ≡ json_find.get name (value_view v) → option_map (λ x. view x.now) r ≡ get name (view v)
found name v r e = each r ∙ ap (option_map data_of) e ∙ sym (get_data name (value_view v))
