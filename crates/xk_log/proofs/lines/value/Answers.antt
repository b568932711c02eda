use Rattle.std.proofs.Common.{◌≡◌, false, get_or, ap, sym, ◌∙◌}
use Rattle.std.specs.Char.{is_ascii_digit}
use Rattle.std.proofs.lemmas.List.{drop_more}
use Rattle.std.proofs.lemmas.Bool.{cond-false}
use Rattle.xk_log.specs.Numbers.{value_from}
use Rattle.xk_log.proofs.lines.value.Goals as goal

pub returns-then-not-is_ascii_digit : goal.returns-then-not-is_ascii_digit
returns-then-not-is_ascii_digit c =
    let ds = c.args.digits.now in
    let i = c.loop-digit.digit-index in
    let d = get_or ds i 0 in
    let other : is_ascii_digit d ≡ false = sym c.is_ascii_digit.ensures.value ∙ c.if-not-is_ascii_digit.true in
    sym (sym c.loop-digit.invariant.worth ∙ ap (value_from c.loop-digit.value) (drop_more ds i 0 c.loop-digit-test.true)
    ∙ cond-false (is_ascii_digit d) _ _ other)
