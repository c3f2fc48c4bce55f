-- The compact text of writable data reads as it.
use Rattle.std.proofs.Common.{◌≡◌, ℕ, ◌≤◌, false, List, [], Some, option_map, option_and_then, decimal, refl, sym, ap, ◌∙◌, arith, append-nil}
use Rattle.json.specs.Json as json
use Rattle.json.specs.Lex.{tokens}
use Rattle.json.specs.Print.{print}
use Rattle.json.specs.Tree as tree
use Rattle.json.specs.Tree.{HasNumbers, ItemsHaveNumbers, MembersHaveNumbers}
use Rattle.json.proofs.Printed.Decimals.{IsNumber-decimal}
use Rattle.json.proofs.Printed.Tokens.{tokens-print}
use Rattle.json.proofs.Printed.Trees.{ArePrintable-json_tokens, value-json_tokens}
use Rattle.serde_json.specs.Data.{unsigned, negative, float, Data, null, boolean, number, string, array, object, Items, no_items, item, Members, no_members, member, put, depth, items_depth, members_depth}
use Rattle.serde_json.specs.Read.{read, number_of, of_json, of_items, of_members, max_depth}
use Rattle.serde_json.specs.Written.{outline, items_outline, members_outline, compact_text, has_float, items_have_float, members_have_float}
use Rattle.json_view.specs.Reading.{reading}
use Rattle.json_view.proofs.Readings.{reading-IsUtf8}
use Rattle.std.specs.Str.{IsUtf8}
use Rattle.serde_json.proofs.Numbers.{number_of-decimal}
use Rattle.serde_json.proofs.Texts.{print-outline}
use Rattle.written_json.specs.Writable.{put_all, IsPlain, IsWritable, ItemsArePlain, MembersArePlain}

mutual
  of_outline : (d : Data) → IsPlain d → of_json (outline d) ≡ Some d
  of_outline null h = refl
  of_outline (boolean b) h = refl
  of_outline (number (unsigned n)) h = ap (option_map number) (number_of-decimal n h)
  of_outline (number (negative z)) h = absurd h
  of_outline (number (float x)) h = absurd h
  of_outline (string s) h = refl
  of_outline (array ds) h = ap (option_map array) (of_items_outline ds h)
  of_outline (object ms) h = ap (option_map object) (of_members_outline ms no_members h.1 ∙ ap Some h.0)

  of_items_outline : (ds : Items) → ItemsArePlain ds → of_items (items_outline ds) ≡ Some ds
  of_items_outline no_items h = refl
  of_items_outline (item d ds) h =
      ap (option_and_then (λ e. option_map (item e) (of_items (items_outline ds)))) (of_outline d h.0) ∙ ap (option_map (item d)) (of_items_outline ds h.1)

  of_members_outline : (ms found : Members) → MembersArePlain ms → of_members (members_outline ms) found ≡ Some (put_all ms found)
  of_members_outline no_members found h = refl
  of_members_outline (member k d ms) found h =
      ap (option_and_then (λ e. of_members (members_outline ms) (put k e found))) (of_outline d h.0) ∙ of_members_outline ms (put k d found) h.1

mutual
  depth_outline : (d : Data) → tree.depth (outline d) ≤ depth d
  depth_outline null = omega arith
  depth_outline (boolean b) = omega arith
  depth_outline (number n) = omega arith
  depth_outline (string s) = omega arith
  depth_outline (array ds) = let h = items_depth_outline ds in omega arith
  depth_outline (object ms) = let h = members_depth_outline ms in omega arith

  items_depth_outline : (ds : Items) → tree.items_depth (items_outline ds) ≤ items_depth ds
  items_depth_outline no_items = omega arith
  items_depth_outline (item d ds) = omega (arith, depth_outline d, items_depth_outline ds)

  members_depth_outline : (ms : Members) → tree.members_depth (members_outline ms) ≤ members_depth ms
  members_depth_outline no_members = omega arith
  members_depth_outline (member k d ms) = omega (arith, depth_outline d, members_depth_outline ms)

mutual
  numbers_outline : (d : Data) → IsPlain d → HasNumbers (outline d)
  numbers_outline null h = tt
  numbers_outline (boolean b) h = tt
  numbers_outline (number (unsigned n)) h = IsNumber-decimal n h
  numbers_outline (number (negative z)) h = absurd h
  numbers_outline (number (float x)) h = absurd h
  numbers_outline (string s) h = tt
  numbers_outline (array ds) h = items_numbers_outline ds h
  numbers_outline (object ms) h = members_numbers_outline ms h.1

  items_numbers_outline : (ds : Items) → ItemsArePlain ds → ItemsHaveNumbers (items_outline ds)
  items_numbers_outline no_items h = tt
  items_numbers_outline (item d ds) h = (numbers_outline d h.0, items_numbers_outline ds h.1)

  members_numbers_outline : (ms : Members) → MembersArePlain ms → MembersHaveNumbers (members_outline ms)
  members_numbers_outline no_members h = tt
  members_numbers_outline (member k d ms) h = (numbers_outline d h.0, members_numbers_outline ms h.1)

text_reads : (d : Data) → IsPlain d → depth d ≤ max_depth → read (compact_text d) ≡ Some d
text_reads d h shallow =
    let ts = tree.json_tokens (outline d) in
    let same : tokens (compact_text d) ≡ ts = ap tokens (sym (print-outline d)) ∙ tokens-print ts (ArePrintable-json_tokens (outline d) (numbers_outline d h)) in
    let within : tree.depth (outline d) ≤ max_depth = omega (arith, depth_outline d) in
    let parsed : json.value max_depth (tokens (compact_text d)) ≡ Some (outline d, []) = ap (json.value max_depth) (same ∙ sym (append-nil ts)) ∙ value-json_tokens (outline d) max_depth [] within in
    ap (λ o. option_and_then of_json (option_and_then (λ p. json.if_last p.0 p.1) o)) parsed ∙ of_outline d h

pub text_back : (text : List ℕ) (d : Data) → IsWritable d → text ≡ compact_text d → read text ≡ Some d
text_back text d h e = ap read e ∙ text_reads d h.0 h.1

-- a text is JSON where it is that of writable data
pub reading_back : (text : List ℕ) (d : Data) → IsUtf8 text → IsWritable d → text ≡ compact_text d → reading text ≡ Some d
reading_back text d utf8 h e = reading-IsUtf8 text utf8 ∙ text_back text d h e

-- ---- plain data have no float

mutual
  pub no_float : (d : Data) → IsPlain d → has_float d ≡ false
  no_float null h = refl
  no_float (boolean b) h = refl
  no_float (number (unsigned n)) h = refl
  no_float (number (negative z)) h = absurd h
  no_float (number (float x)) h = absurd h
  no_float (string s) h = refl
  no_float (array ds) h = items_no_float ds h
  no_float (object ms) h = members_no_float ms h.1

  items_no_float : (ds : Items) → ItemsArePlain ds → items_have_float ds ≡ false
  items_no_float no_items h = refl
  items_no_float (item d ds) h = rw (no_float d h.0, items_no_float ds h.1) refl

  members_no_float : (ms : Members) → MembersArePlain ms → members_have_float ms ≡ false
  members_no_float no_members h = refl
  members_no_float (member k d ms) h = rw (no_float d h.0, members_no_float ms h.1) refl
