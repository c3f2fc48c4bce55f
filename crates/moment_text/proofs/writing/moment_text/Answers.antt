use Rattle.std.proofs.Common.{◌≡◌, ◌++◌, ◌/◌, ◌%◌, ◌∙◌, ap, append_assoc, refl, arith, string_bytes}
use Rattle.moment_text.specs.Civil.{civil}
use Rattle.moment_text.specs.Text.{clock_text, time_text}
use Rattle.moment_text.proofs.Shown.{shown_at}
use Rattle.moment_text.proofs.writing.moment_text.Goals as goal

pub date_of-requires : goal.date_of-requires
date_of-requires c = (shown_at c.shown-at.result c.args.moment (omega arith) c.shown-at.ensures).year

pub returns : goal.returns
unfolding time_text
returns c =
    let at = shown_at c.shown-at.result c.args.moment (omega arith) c.shown-at.ensures in
    let date : c.date_of.result ≡ civil (c.args.moment / 86400000) = c.date_of.ensures.value ∙ at.date in
    let milliseconds : c.milliseconds.result ≡ c.args.moment % 1000 = c.milliseconds.ensures.value ∙ at.fraction in
    let clock : string_bytes c.push_clock.new.text ≡ string_bytes c.push_str.new.self ++ clock_text (c.args.moment / 1000 % 86400) =
    c.in_ok-push_clock.ensures ∙ ap (λ s. string_bytes c.push_str.new.self ++ clock_text s) at.clock in
    rw (c.in_ok-push_fraction.ensures, clock, c.in_ok-push_str.ensures.bytes, c.in_ok-push_date.ensures, c.in_ok-text.ensures.bytes, date, milliseconds) (simp append_assoc refl)
