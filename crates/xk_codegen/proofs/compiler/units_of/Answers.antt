use Rattle.std.proofs.Common.{◌≡◌, ◌≤◌, ◌+◌, ◌∙◌, None, Some, Ok, length, ap, sym, subst, refl, arith, ℕ}
use Rattle.std.proofs.lemmas.Option.{slice_get_read, same_Some}
use Rattle.xk_tree.specs.declared.fault.FrontRule.TheVariants as rule
use Rattle.xk_names.specs.Faults.{fault}
use Rattle.xk_numbering.specs.Views.{offset}
use Rattle.xk_codegen.proofs.UnitLemmas.{none_made, one_more_unit, all_made}
use Rattle.xk_codegen.proofs.FaultLemmas.{IsBeyond, IsLeast, either, few_units, large_unit, least_at_first, least_kept, least_of_all, least_taken, many_units, told}
use Rattle.xk_codegen.proofs.compiler.units_of.Goals as goal
use Rattle.xk_codegen.proofs.compiler.units_of.Goals.{in-Some+in_ok-push-in-Some, in-None}

some_is_none : (n : ℕ) → Some n ≡ None → ⊥
some_is_none n e = cc

pub loop-p-init : goal.loop-p-init
loop-p-init c = (
  λ none. none_made c.args.setting.now c.args.parts.now c.new-units.result.items (few_units c.args.parts.now (sym c.beyond-worst.ensures ∙ none)) c.new-units.ensures.items,
  λ at e. many_units c.args.setting.now c.args.parts.now at (sym c.beyond-worst.ensures ∙ e),
  least_at_first c.args.setting.now c.args.parts.now _ c.beyond-worst.ensures,
)

pub loop-p-preserved : goal.loop-p-preserved
loop-p-preserved c =
    let cx = c.args.setting.now in
    let ps = c.args.parts.now in
    let i = c.loop-p.p-index in
    let there = slice_get_read ps (length ps) i c.p-item.result refl c.loop-p-test.true c.p-item.is in
    elim c.match-branch-2.branch [
      | in-Some+in_ok-push-in-Some w ↦ (
        λ none. one_more_unit cx ps i c.loop-p.units.items c.match-branch-2.units.items c.p-item.result w.in-Some.unit
            (c.loop-p.invariant.0 (sym w.worst-is ∙ none)) c.loop-p-test.true c.p-item.is
            (c.in_ok-unit.ensures.made w.in-Some.unit (ap Ok w.in-Some.is)) (c.in_ok-unit.ensures.limits w.in-Some.unit (ap Ok w.in-Some.is))
            (ap (λ v. v.items) w.units-is ∙ w.in_ok-push-in-Some.ensures.items),
        λ at e. c.loop-p.invariant.1 at (sym w.worst-is ∙ e),
        subst (λ o. IsLeast cx ps (i + 1) o) (sym w.worst-is) (least_kept cx ps i c.loop-p.worst c.p-item.result w.in-Some.unit c.loop-p.invariant.2 there
            (c.in_ok-unit.ensures.made w.in-Some.unit (ap Ok w.in-Some.is)) (c.in_ok-unit.ensures.limits w.in-Some.unit (ap Ok w.in-Some.is))),
      )
      | in-None w ↦ (
        λ none. absurd (some_is_none w.lesser.result (sym w.worst-is ∙ none)),
        λ at e.
            let here = large_unit cx ps i c.p-item.result w.offset.result there (c.in_ok-unit.ensures.none (ap Ok w.in-None.is)) w.offset.ensures in
            subst (IsBeyond cx ps) (sym w.lesser.ensures ∙ same_Some w.lesser.result at (sym w.worst-is ∙ e))
            (either (IsBeyond cx ps) c.loop-p.worst w.offset.result c.loop-p.invariant.1 here),
        subst (λ o. IsLeast cx ps (i + 1) o) (sym (w.worst-is ∙ ap Some w.lesser.ensures))
            (least_taken cx ps i c.loop-p.worst c.p-item.result w.offset.result c.loop-p.invariant.2 there w.offset.ensures),
      )
    ]

pub returns-in-None-worst-clause-made : goal.returns-in-None-worst-clause-made
returns-in-None-worst-clause-made c =
    all_made c.args.setting.now c.args.parts.now c.loop-p.p-index c.loop-p.units.items (let e = c.loop-p-test.false in omega arith) (c.loop-p.invariant.0 c.in-None-worst.is)

pub returns-in-Some-worst-clause-fault : goal.returns-in-Some-worst-clause-fault
returns-in-Some-worst-clause-fault c = λ f e names.
    let cx = c.args.setting.now in
    let ps = c.args.parts.now in
    let at = c.in-Some-worst.at in
    let found = c.loop-p.invariant.1 at c.in-Some-worst.is names in
    let end : length ps ≤ c.loop-p.p-index = let e = c.loop-p-test.false in omega arith in
    let told_is = sym (told (fault rule.Table at) f c.table_fault.result c.table_fault.ensures e) in
    record {
      part = found.0;
      large = found.1;
      is = told_is ∙ ap (fault rule.Table) found.2;
      first = λ q large.
          subst (λ n. n ≤ offset q) found.2 (least_of_all cx ps c.loop-p.p-index c.loop-p.worst at end c.loop-p.invariant.2 c.in-Some-worst.is q large);
    }
