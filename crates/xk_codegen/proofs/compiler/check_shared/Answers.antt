use Rattle.std.proofs.Common.{length, map, refl, sym, ap}
use Rattle.std.proofs.lemmas.Option.{slice_get_read}
use Rattle.xk_tree.specs.declared.fault.FrontRule.TheVariants as rule
use Rattle.xk_tree.specs.Tree.{shared_value}
use Rattle.xk_tree.specs.Program.{tree_value}
use Rattle.xk_names.specs.Faults.{fault}
use Rattle.xk_codegen.proofs.FaultLemmas.{told, many_shared}
use Rattle.xk_codegen.proofs.compiler.check_shared.Goals as goal

pub returns-in-Some-clause-fault : goal.returns-in-Some-clause-fault
returns-in-Some-clause-fault c = λ f e.
    let number = c.in-Some.number.now in
    let found = c.in-Some.ensures.lookup in
    let there = slice_get_read c.deref.result.now (length c.deref.result.now) 256 number refl found.3.0 found.1 in
    many_shared (tree_value c.args.tree.now) c.deref.result.now number f (ap (map shared_value) (sym c.deref.ensures.value)) there
    (sym (told (fault rule.Table number.name.at) f c.table_fault.result c.table_fault.ensures e))
