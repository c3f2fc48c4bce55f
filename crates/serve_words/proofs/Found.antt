-- The subcommand that the matches of `clap` have.
use Rattle.std.proofs.Common.{◌≡◌, ◌∙◌, List, Option, Some, None, option_map, refl, sym, ap₂}
use Rattle.clap.specs.Words.{Row, Text, subcommand_rows_of}
use Rattle.clap.specs.Matches.{subcommand_name_of}
use Rattle.clap.specs.declared.parser.matches.ArgMatches.{ArgMatches}
use Rattle.clap.specs.declared.parser.matches.ArgMatches.TheViews.{out-ArgMatches}

fused : {A B C : Type 0} (f : A → B) (g : B → C) (o : Option A) → option_map (λ a. g (f a)) o ≡ option_map g (option_map f o)
fused f g None = refl
fused f g (Some a) = refl

-- the name is that of the subcommand with its rows
names_it : (m : ArgMatches) → subcommand_name_of m ≡ option_map (λ (p : Text × List Row). p.0) (subcommand_rows_of m)
names_it m = fused _ (λ (p : Text × List Row). p.0) (out-ArgMatches m).subcommand

both : (s : Option (Text × List Row)) (name : Text) (rows : List Row) → option_map (λ (p : Text × List Row). p.0) s ≡ Some name → option_map (λ (p : Text × List Row). p.1) s ≡ Some rows → s ≡ Some (name, rows)
both None name rows named has = cc
both (Some p) name rows named has =
    let is_name : p.0 ≡ name = cc in
    let are_rows : p.1 ≡ rows = cc in
    ap₂ (λ (n : Text) (rs : List Row). Some (n, rs)) is_name are_rows

pub found_by : (m : ArgMatches) (name : Text) (rows : List Row) → subcommand_name_of m ≡ Some name → option_map (λ (p : Text × List Row). p.1) (subcommand_rows_of m) ≡ Some rows → subcommand_rows_of m ≡ Some (name, rows)
found_by m name rows named has = both (subcommand_rows_of m) name rows (sym (names_it m) ∙ named) has
