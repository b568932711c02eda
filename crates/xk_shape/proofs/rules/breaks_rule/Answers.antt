-- what no place of the unit breaks by now
use Rattle.std.proofs.Common.{◌<◌, sym, ap, ◌∙◌, subst, lit<}
use Rattle.xk_types.specs.declared.rules.Rule.TheVariants as rule
use Rattle.xk_types.specs.RuleNames.{rule_number}
use Rattle.xk_types.specs.Shape.{breaks_in}
use Rattle.xk_shape.proofs.UnitLemmas.{nested_of, is_nested, orderly_in, blocks_in}
use Rattle.xk_shape.proofs.rules.breaks_rule.Goals as goal

pub crosses_edge-requires-clause-targets : goal.crosses_edge-requires-clause-targets
crosses_edge-requires-clause-targets c = λ k. c.requires.earlier rule.Target k (subst (λ r. 1 < rule_number r) (sym c.in-Block.is) (lit< tt))

pub misuses_loop-requires-clause-orderly : goal.misuses_loop-requires-clause-orderly
misuses_loop-requires-clause-orderly c =
    orderly_in c.args.m.now c.args.unit c.args.u.now c.args.rule c.requires.limits c.requires.earlier (subst (λ r. 3 < rule_number r) (sym c.in-Loop.is) (lit< tt))

pub tables-requires : goal.tables-requires
tables-requires c =
    let orderly = orderly_in c.args.m.now c.args.unit c.args.u.now c.args.rule c.requires.limits c.requires.earlier (subst (λ r. 3 < rule_number r) (sym c.in-Loop.is) (lit< tt)) in
    is_nested c.args.u.now c.args.layout.now c.requires.layout (nested_of c.args.u.now orderly)

pub strays-requires-clause-orderly : goal.strays-requires-clause-orderly
strays-requires-clause-orderly c =
    orderly_in c.args.m.now c.args.unit c.args.u.now c.args.rule c.requires.limits c.requires.earlier (subst (λ r. 3 < rule_number r) (sym c.in-Home.is) (lit< tt))

pub tables-requires-in-Home : goal.tables-requires-in-Home
tables-requires-in-Home c =
    let orderly = orderly_in c.args.m.now c.args.unit c.args.u.now c.args.rule c.requires.limits c.requires.earlier (subst (λ r. 3 < rule_number r) (sym c.in-Home.is) (lit< tt)) in
    is_nested c.args.u.now c.args.layout.now c.requires.layout (nested_of c.args.u.now orderly)

pub strays-requires-clause-before : goal.strays-requires-clause-before
strays-requires-clause-before c = λ k lt. ap (λ r. breaks_in c.args.m.now r c.args.unit c.args.u.now k) (sym c.in-Home.is) ∙ c.requires.before k lt

pub gives_away-requires-clause-blocks : goal.gives_away-requires-clause-blocks
gives_away-requires-clause-blocks c =
    blocks_in c.args.m.now c.args.unit c.args.u.now c.args.rule c.requires.limits c.requires.earlier (subst (λ r. 8 < rule_number r) (sym c.in-Registers.is) (lit< tt))

pub tables-requires-in-Registers : goal.tables-requires-in-Registers
tables-requires-in-Registers c =
    let blocks = blocks_in c.args.m.now c.args.unit c.args.u.now c.args.rule c.requires.limits c.requires.earlier
    (subst (λ r. 8 < rule_number r) (sym c.in-Registers.is) (lit< tt)) in
    is_nested c.args.u.now c.args.layout.now c.requires.layout (nested_of c.args.u.now blocks.orderly)
