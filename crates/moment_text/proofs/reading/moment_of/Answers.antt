use Rattle.std.proofs.Common.{◌≡◌, ap, sym, ◌∙◌, Some}
use Rattle.std.proofs.lemmas.Bool.Decides.{not_from_Decides}
use Rattle.std.proofs.lemmas.Slice.Eq.{bytes_eq-Decides}
use Rattle.guild_model.specs.declared.moment.TheConstants.{END_OF_TIME}
use Rattle.moment_text.specs.Text.{time_text}
use Rattle.moment_text.specs.Named.{moment_of}
use Rattle.moment_text.proofs.Named.{found, not_found}
use Rattle.moment_text.proofs.reading.moment_of.Goals as goal

pub returns-in_default : goal.returns-in_default
unfolding moment_of
returns-in_default c = sym (not_found END_OF_TIME c.args.text.now (λ k lt e. let other = c.in_default.ensures.value k lt (c.as_bytes.ensures.value ∙ e) in absurd cc))

pub returns-then-eq : goal.returns-then-eq
unfolding moment_of
returns-then-eq c = sym (found END_OF_TIME c.in-Some.moment c.args.text.now c.in-Some.ensures.within (sym ((bytes_eq-Decides c.as_str.result.now c.args.text.now).0 (sym c.if-eq.ensures)) ∙ c.as_str.ensures.value ∙ c.in_ok-written.ensures) (λ k lt e. let same = c.in-Some.ensures.value k lt (c.as_bytes.ensures.value ∙ e) in cc))

pub returns : goal.returns
unfolding moment_of
returns c = sym (not_found END_OF_TIME c.args.text.now (λ k lt e.
    let same = c.in-Some.ensures.value k lt (c.as_bytes.ensures.value ∙ e) in
    let moment : c.in-Some.moment ≡ k = cc in
    not_from_Decides _ (bytes_eq-Decides c.as_str.result.now c.args.text.now) (sym c.if-eq.ensures) (c.as_str.ensures.value ∙ c.in_ok-written.ensures ∙ ap time_text moment ∙ sym e)))
