use Rattle.std.proofs.Common.{◌≡◌, [], true, false, refl, sym, ◌∙◌, subst}
use Rattle.xk_tree.specs.Program.{tree_value}
use Rattle.xk_names.specs.Faults.{IsReported, no_main}
use Rattle.xk_names.specs.FaultList.{put_methods}
use Rattle.xk_names.proofs.ProgramFaultLemmas.{one_reported, clean_tree, no_main_reported}
use Rattle.xk_names.proofs.WellScopedLaw.{scoped_tree}
use Rattle.xk_names.proofs.program.check_names.Goals as goal

pub returns-in-Some-clause-fault : goal.returns-in-Some-clause-fault
returns-in-Some-clause-fault c = λ f e.
    let is : c.in-Some.fault ≡ f = cc in
    subst (IsReported (tree_value c.args.tree.now)) is (one_reported (tree_value c.args.tree.now) c.in_ok-worst.worst c.in-Some.fault c.in_ok-worst.ensures.worst c.in-Some.is)

pub returns-then-has_main-clause-clean : goal.returns-then-has_main-clause-clean
returns-then-has_main-clause-clean c =
    clean_tree (tree_value c.args.tree.now) c.in_ok-worst.worst (put_methods [] (tree_value c.args.tree.now).methods) c.in_ok-worst.ensures.worst c.in-None.is refl
    (c.in_ok-worst.ensures.main.0 c.if-has_main.true)

pub returns-then-has_main-clause-scoped : goal.returns-then-has_main-clause-scoped
returns-then-has_main-clause-scoped c =
    scoped_tree (tree_value c.args.tree.now)
    (clean_tree (tree_value c.args.tree.now) c.in_ok-worst.worst (put_methods [] (tree_value c.args.tree.now).methods) c.in_ok-worst.ensures.worst c.in-None.is refl
    (c.in_ok-worst.ensures.main.0 c.if-has_main.true))

pub returns-else-has_main-clause-fault : goal.returns-else-has_main-clause-fault
returns-else-has_main-clause-fault c = λ f e.
    let is : no_main ≡ f = cc in
    subst (IsReported (tree_value c.args.tree.now)) is
    (no_main_reported (tree_value c.args.tree.now) c.in_ok-worst.worst (put_methods [] (tree_value c.args.tree.now).methods) c.in_ok-worst.ensures.worst c.in-None.is refl
    (λ main. let yes_no : true ≡ false = sym (c.in_ok-worst.ensures.main.1 main) ∙ c.if-has_main.false in cc))
