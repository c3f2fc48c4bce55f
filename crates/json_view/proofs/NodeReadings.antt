-- A value that was read, and the test of its numbers.
use Rattle.std.proofs.Common.{◌≡◌, ℕ, List, [], ◌∷◌, Bool, true, false, ◌&&◌, if◌then◌else◌, Option, Some, None, option_map, option_and_then, is_some, refl, ap, ◌∙◌}
use Rattle.json.specs.Token.{Token}
use Rattle.json.specs.Json as json
use Rattle.serde_json.specs.Data.{Num, number, array, object, item, Members, no_members, put}
use Rattle.json.specs.Lex.{tokens}
use Rattle.serde_json.specs.Read.{number_of, of_json, of_items, of_members, read}
use Rattle.json_view.specs.Reading.{reading}
use Rattle.std.specs.Str.{IsUtf8, is_utf8}
use Rattle.std.proofs.lemmas.Str.{IsUtf8-from_is_utf8, is_utf8-from_IsUtf8}
use Rattle.std.specs.Option.{unwrap_or}
use Rattle.json_view.specs.Nodes.{data_of, items_data, members_data, in_range, items_in_range, members_in_range}

abbrev pub kept : {A : Type 0} → Bool → A → Option A
kept b a = if b then Some a else None

both : {A B : Type 0} (b c : Bool) (a : A) (f : A → Option B) (r : B) → f a ≡ kept c r → option_and_then f (kept b a) ≡ kept (b && c) r
both true c a f r e = e
both false c a f r e = refl

mapped : {A B : Type 0} (b : Bool) (a : A) (f : A → B) → option_map f (kept b a) ≡ kept b (f a)
mapped true a f = refl
mapped false a f = refl

numbered : (o : Option Num) (n : Num) → option_map number o ≡ kept (is_some o) (number (unwrap_or o n))
numbered None n = refl
numbered (Some m) n = refl

mutual
  pub of_json_is : (j : json.Json) → of_json j ≡ kept (in_range j) (data_of j)
  of_json_is json.null = refl
  of_json_is (json.boolean b) = refl
  of_json_is (json.number s) = numbered (number_of s) _
  of_json_is (json.string s) = refl
  of_json_is (json.array js) = ap (option_map array) (of_items_is js) ∙ mapped (items_in_range js) (items_data js) array
  of_json_is (json.object ms) = ap (option_map object) (of_members_is ms no_members) ∙ mapped (members_in_range ms) (members_data ms no_members) object

  of_items_is : (js : json.Items) → of_items js ≡ kept (items_in_range js) (items_data js)
  of_items_is json.no_items = refl
  of_items_is (json.item j js) =
      ap (option_and_then (λ d. option_map (item d) (of_items js))) (of_json_is j)
      ∙ both (in_range j) (items_in_range js) (data_of j) (λ d. option_map (item d) (of_items js)) _
      (ap (option_map (item (data_of j))) (of_items_is js) ∙ mapped (items_in_range js) (items_data js) (item (data_of j)))

  of_members_is : (ms : json.Members) (found : Members) → of_members ms found ≡ kept (members_in_range ms) (members_data ms found)
  of_members_is json.no_members found = refl
  of_members_is (json.member k j ms) found =
      ap (option_and_then (λ d. of_members ms (put k d found))) (of_json_is j)
      ∙ both (in_range j) (members_in_range ms) (data_of j) (λ d. of_members ms (put k d found)) _ (of_members_is ms (put k (data_of j) found))

-- ---- the whole text

pub read_none : (text : List ℕ) → json.value 127 (tokens text) ≡ None → read text ≡ None
read_none text e = rw e refl

pub read_more : (text : List ℕ) (j : json.Json) (t : Token) (rest : List Token) → json.value 127 (tokens text) ≡ Some (j, t ∷ rest) → read text ≡ None
read_more text j t rest e = rw e refl

pub read_whole : (text : List ℕ) (j : json.Json) (rest : List Token) (b : Bool) → json.value 127 (tokens text) ≡ Some (j, rest) → rest ≡ [] → in_range j ≡ b → read text ≡ kept b (data_of j)
read_whole text j rest b e none fits = rw (e, none) (of_json_is j ∙ ap (λ k. kept k (data_of j)) fits)

pub of_text : (bytes : List ℕ) → IsUtf8 bytes → reading bytes ≡ read bytes
of_text bytes h = let e : is_utf8 bytes ≡ true = is_utf8-from_IsUtf8 bytes h in rw e refl

none_where : (bytes : List ℕ) (b : Bool) → is_utf8 bytes ≡ b → (IsUtf8 bytes → ⊥) → reading bytes ≡ None
none_where bytes true e h = absurd (h (IsUtf8-from_is_utf8 bytes e))
none_where bytes false e h = rw e refl

pub of_no_text : (bytes : List ℕ) → (IsUtf8 bytes → ⊥) → reading bytes ≡ None
of_no_text bytes h = none_where bytes (is_utf8 bytes) refl h
