use Rattle.std.proofs.Common.{◌∷◌, ◌++◌, [], ◌+◌, drop, get_or, option_map, ap, sym, ◌∙◌, arith}
use mir.Syntax.{w64}
use Rattle.std.proofs.lemmas.Int.{to_z-of_z}
use Rattle.std.proofs.lemmas.List.{at_drop_more}
use Rattle.xk_cli.specs.CommandLine.{texts}
use Rattle.xk_cli.specs.Numbers.{numbers_named}
use Rattle.xk_cli.proofs.NumeralLemmas.{named_more, number_fits}
use Rattle.xk_cli.proofs.numbers.numbers_named.Goals as goal

pub loop-text-preserved : goal.loop-text-preserved
loop-text-preserved c =
    let found = c.loop-text.numbers.items in
    let all = c.args.texts.now in
    let at = c.loop-text.text-index in
    let text = get_or all at (record { ref_ptr = (0, 0); now = [] }) in
    let rest = texts (drop (at + 1) all) in
    let fits = number_fits text.now c.in-Some.number c.in-Some.ensures in
    ap (λ xs. option_map (λ more. xs ++ more) (numbers_named rest)) (c.in_ok-push-in-Some.ensures.items ∙ ap (λ n. found ++ n ∷ []) (to_z-of_z w64 c.in-Some.number fits))
    ∙ named_more found text.now rest c.in-Some.number c.in-Some.ensures
    ∙ ap (λ named. option_map (λ more. found ++ more) (numbers_named named)) (sym (at_drop_more texts all at (record { ref_ptr = (0, 0); now = [] }) (omega arith)))
    ∙ c.loop-text.invariant
