-- What is told of files whose heads were read.
use Rattle.std.proofs.Common.{◌≡◌, ℕ, suc, ◌<◌, List, [], ◌∷◌, ◌++◌, length, map, flat_map, Result, Err, refl, sym, ap, subst, ◌∙◌, arith}
use Rattle.std.specs.List.{AllZip, AllByRecursion}
use Rattle.std.specs.declared.option.Option.{Option as Known}
use Rattle.std.specs.declared.option.Option.TheVariants as known
use Rattle.std.specs.Io.KnownBytes.{Consumes}
use Rattle.gate_outside.specs.Houses.{GivesOwn}
use Rattle.file_script.specs.Reads.{ReadCause}
use Rattle.file_script.specs.declared.fault.ScriptFault.{ScriptFault}
use Rattle.file_script.specs.declared.fault.ScriptFault.TheVariants as script
use Rattle.house_loans.specs.Sources.{IsOwnSource}
use Rattle.serve_run.specs.Services.{FileTale, HasHead}
use Rattle.serve_heads.specs.Heads.{Head, IsBegun}
use Rattle.serve_heads.specs.declared.script_file.ScriptFile.{ScriptFile}
use Rattle.serve_run.specs.Begun.{IsBegunOf, with_head}

-- a source that had these bytes has them still, with those that were read
own_head : (own before after : Known (List ℕ)) (bytes : List ℕ) → GivesOwn own before → Consumes before after bytes → GivesOwn own (with_head bytes after)
own_head known.None before after bytes gives consumed = tt
own_head (known.Some own) known.None after bytes gives consumed = absurd cc
own_head (known.Some own) (known.Some xs) known.None bytes gives consumed = absurd consumed
own_head (known.Some own) (known.Some xs) (known.Some ys) bytes gives consumed = ap known.Some (sym consumed) ∙ gives

-- a read that failed was counted
pub failed_reads : {T : Type 0} (before : ℕ) (first : Result T ScriptFault) (faults : ℕ) → ReadCause before faults first → first ≡ Err script.Read → 0 < faults
failed_reads before first faults cause is =
    let rose = subst (λ r. ReadCause before faults r) is cause in
    omega (arith, rose)

module _ {S : Type 0} (left : S → Known (List ℕ)) (faults : S → ℕ) where
  abbrev tale_of : List ℕ → ScriptFile S → FileTale
  tale_of head f = record { head = head; left = left f.source; faults = faults f.source; script = f.script }

  -- the tales of files, where these are the bytes of their heads
  abbrev pub tales_by : List (List ℕ) → List (ScriptFile S) → List FileTale
  tales_by [] files = []
  tales_by (head ∷ heads) [] = []
  tales_by (head ∷ heads) (f ∷ files) = tale_of head f ∷ tales_by heads files

  -- what is told of files that were begun, beside what their heads declare
  pub record AreTold (owns : List (Known (List ℕ))) (begun : List (ScriptFile S × Head)) : Type 0 where
    pub heads : List (List ℕ)
    pub tales : List (FileTale × Head)
    pub alike : length heads ≡ length (map (λ b. b.0) begun)
    pub as_many : length owns ≡ length (map (λ b. b.0) begun)
    pub each : AllZip (λ own b. IsBegunOf own b.0 b.1) owns tales
    pub tales_are : tales_by heads (map (λ b. b.0) begun) ≡ map (λ b. b.0) tales
    pub bots_are : flat_map (λ b. b.1.bots) begun ≡ flat_map (λ b. b.1.bots) tales
    pub guilds_are : flat_map (λ b. b.1.guilds) begun ≡ flat_map (λ b. b.1.guilds) tales
    pub heads_are : AllByRecursion HasHead (map (λ b. b.0) tales)

  pub told_all : (owns : List (Known (List ℕ))) (sources : List S) (begun : List (ScriptFile S × Head))
      → AllZip (λ own source. IsOwnSource left faults own source) owns sources → AllZip (λ source b. IsBegun left faults source b.0 b.1) sources begun → AreTold owns begun
  told_all [] [] [] own each = record {
    heads = [];
    tales = [];
    alike = refl;
    as_many = refl;
    each = tt;
    tales_are = refl;
    bots_are = refl;
    guilds_are = refl;
    heads_are = tt;
  }
  told_all [] [] (b ∷ begun) own each = absurd each
  told_all [] (source ∷ sources) begun own each = absurd own
  told_all (own ∷ owns) [] begun is each = absurd is
  told_all (own ∷ owns) (source ∷ sources) [] is each = absurd each
  told_all (own ∷ owns) (source ∷ sources) (b ∷ begun) is each =
      let more = told_all owns sources begun is.1 each.1 in
      let one = each.0 in
      let file : FileTale = tale_of one.bytes b.0 in
      let cause : ReadCause 0 file.faults file.script.first = subst (λ n. ReadCause n file.faults file.script.first) is.0.sound one.cause in
      record {
        heads = one.bytes ∷ more.heads;
        tales = (file, b.1) ∷ more.tales;
        alike = ap suc more.alike;
        as_many = ap suc more.as_many;
        each = (
          record {
            bytes = own_head own (left source) (left b.0.source) one.bytes is.0.bytes one.consumed;
            read = one.read;
            declared = one.declared;
            cause = cause;
          },
          more.each,
        );
        tales_are = ap (λ fs. file ∷ fs) more.tales_are;
        bots_are = ap (λ bots. b.1.bots ++ bots) more.bots_are;
        guilds_are = ap (λ guilds. b.1.guilds ++ guilds) more.guilds_are;
        heads_are = (record { read = one.read; failed = failed_reads 0 file.script.first file.faults cause }, more.heads_are);
      }
