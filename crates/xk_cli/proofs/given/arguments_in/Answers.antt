use Rattle.std.proofs.Common.{List, Option, [], Some, codes, ap, ◌∙◌}
use Rattle.std.specs.Option.{option_map_or}
use Rattle.std.proofs.lemmas.Result.{IfOk-weaker}
use Rattle.clap.specs.Words.{Text, found_of}
use Rattle.clap.proofs.WalkLemmas.{raw_values-rows}
use Rattle.xk_cli.specs.Numbers.{numbers_named}
use Rattle.xk_cli.proofs.given.arguments_in.Goals as goal

pub returns-in-Some : goal.returns-in-Some
returns-in-Some c =
    let given = c.in-Some.ensures ∙ raw_values-rows (found_of c.args.given.now) (codes "ARG") in
    IfOk-weaker c.numbers_named.result _ _ (λ found h. h ∙ ap (λ (o : Option (List Text)). option_map_or numbers_named o (Some [])) given) c.numbers_named.ensures

pub returns-in-None : goal.returns-in-None
returns-in-None c =
    let given = c.in-None.ensures ∙ raw_values-rows (found_of c.args.given.now) (codes "ARG") in
    ap Some c.new.ensures.items ∙ ap (λ (o : Option (List Text)). option_map_or numbers_named o (Some [])) given
