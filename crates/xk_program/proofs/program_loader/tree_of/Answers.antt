use Rattle.std.proofs.Common.{subst, ◌<◌, length}
use Rattle.xk_syntax.specs.Faults.{IsRefused}
use Rattle.xk_program.specs.Programs.{longest_source}
use Rattle.xk_program.proofs.UnfitTextLemmas.{unparsed}
use Rattle.xk_program.proofs.program_loader.tree_of.Goals as goal

pub returns-clause-fault : goal.returns-clause-fault
returns-clause-fault c =
    let text = c.in_ok-text.ensures in
    unparsed c.args.bytes.now c.parse.result text.short text.utf8 (subst (λ b. IsRefused b c.parse.result) text.text c.parse.ensures.none_spelled)
    c.parse.ensures.of_texts (λ f e too_long. subst (λ b. longest_source < length b) text.text (c.parse.ensures.only_too_long f e too_long))
