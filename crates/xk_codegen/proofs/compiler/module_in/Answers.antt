use Rattle.std.proofs.Common.{Err, ap, map}
use Rattle.std.proofs.lemmas.Result.{err_from_is_err_and}
use Rattle.xk_tree.specs.Program.{tree_value}
use Rattle.xk_codegen.specs.Faults.{LargePart}
use Rattle.xk_numbering.specs.Views.{part}
use Rattle.xk_codegen.proofs.FaultLemmas.{all_covered, passed_on}
use Rattle.xk_codegen.proofs.ShapeRuleLemmas.Law.{code_keeps, code_means}
use Rattle.xk_codegen.proofs.compiler.module_in.Goals as goal

pub returns-in_err-units-clause-fault : goal.returns-in_err-units-clause-fault
returns-in_err-units-clause-fault c = λ f e.
    let r = c.from_residual in
    let p = err_from_is_err_and r.result r.ensures.1 in
    let fault = passed_on r.result p.0 c.in_err-units.field-0.0 f p.1 p.2 e in
    let units = map part c.args.parts.now in
    let names = all_covered (tree_value c.args.tree.now) units c.args.setting.now c.requires.scoped c.args.tree.now.apart c.requires.units c.requires.setting in
    LargePart c.requires.shared (record {
      units = units;
      setting = c.args.setting.now;
      are_units = c.requires.units;
      is_setting = c.requires.setting;
      first = c.in_err-units.ensures.fault f (ap Err fault) names;
    })

pub returns-clause-keeps : goal.returns-clause-keeps
returns-clause-keeps c =
    code_keeps (tree_value c.args.tree.now) c.args.parts.now c.args.setting.now c.in_ok-module.module c.in_ok-units.units.items
    c.requires.scoped c.requires.units c.requires.setting c.in_ok-units.ensures.count c.in_ok-units.ensures.made c.in_ok-module.ensures.made
    c.args.tree.now.apart

pub returns-clause-means : goal.returns-clause-means
returns-clause-means c =
    code_means (tree_value c.args.tree.now) c.args.parts.now c.args.setting.now c.in_ok-module.module c.in_ok-units.units.items
    c.requires.scoped c.requires.units c.requires.setting c.in_ok-units.ensures.count c.in_ok-units.ensures.made c.in_ok-module.ensures.made
    c.args.tree.now.apart
