use Rattle.std.proofs.Common.{◌≡◌, Some, subst, ◌∙◌}
use Rattle.xk_outcome_lists.specs.Expected.{AreExpected, IsStrayIn, stray_line}
use Rattle.xk_answers.proofs.LogLemmas.{front_of, some_each}
use Rattle.xk_outcome_answers.proofs.outcome_search.held_by.Goals as goal

pub returns-in-Ok-clause-done : goal.returns-in-Ok-clause-done
returns-in-Ok-clause-done g c =
    some_each _ _ (g.L.Source.remaining c.args.source.now)
    (λ all is. (
      c.requires,
      subst (λ bytes. AreExpected c.args.verified.now c.args.arguments.now c.args.sets c.args.limit bytes c.in-Ok.held.text.items c.in-Ok.held.verdict)
          (c.deref.ensures.value ∙ is) c.in-Ok.ensures.held,
    ))
    (front_of _ _ _ c.in_ok-bytes.ensures.few c.in_ok-bytes.ensures.front)

pub returns-in-Stray-clause-fault : goal.returns-in-Stray-clause-fault
returns-in-Stray-clause-fault g c =
    let stray = subst (IsStrayIn c.deref.result.now) c.in-Stray.is c.in-Err.ensures.stray in (
      c.in_ok-bytes.ensures.no_fault,
      some_each _ _ (g.L.Source.remaining c.args.source.now)
          (λ all is. subst (λ bytes. stray_line bytes ≡ Some c.in-Stray.line) (c.deref.ensures.value ∙ is) stray)
          (front_of _ _ _ c.in_ok-bytes.ensures.few c.in_ok-bytes.ensures.front),
    )
