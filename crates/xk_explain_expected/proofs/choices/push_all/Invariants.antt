use Rattle.std.proofs.Common.{◌≡◌, ◌++◌, drop}
use Rattle.std.specs.Prelude.{flat_map}
use Rattle.xk_explain_expected.specs.Expected.{behind_comma}
use Rattle.xk_explain_expected.proofs.choices.push_all.Given as goal

abbrev pub invariant-loop-choice : goal.invariant-loop-choice
invariant-loop-choice l = l.out.items ++ flat_map behind_comma (drop l.choice-index l.choices) ≡ l.fn.out.items ++ flat_map behind_comma l.choices
