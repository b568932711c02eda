use Rattle.std.proofs.Common.{◌≡◌, Some, subst, ap, ◌∙◌}
use Rattle.xk_json.specs.Objects.{json_line}
use Rattle.xk_outcome_lists.specs.Expected.{AreExpected, IsStrayIn, stray_line}
use Rattle.xk_show_json.specs.Outcomes.{held_value}
use Rattle.xk_answers.proofs.LogLemmas.{front_of, some_each}
use Rattle.xk_serve.proofs.values.held_told.Goals as goal

pub returns-in-Ok-held_json-clause-done : goal.returns-in-Ok-held_json-clause-done
returns-in-Ok-held_json-clause-done g c =
    let held = c.in-Ok.held in
    some_each _ _ (g.L.Source.remaining c.args.source.now)
    (λ all is. (
      c.requires,
      record {
        line = held.text.items;
        held = subst
            (λ bytes. AreExpected c.args.verified.now c.args.arguments.now c.args.sets c.args.limit bytes held.text.items held.verdict)
            (c.deref.ensures.value ∙ is) c.in-Ok.ensures.held;
        text_is = c.in-Ok-held_json.ensures.text
            ∙ ap (λ line. json_line (held_value line c.verdict_name.result.now)) c.deref-in-Ok.ensures.value
            ∙ ap (λ word. json_line (held_value held.text.items word)) c.verdict_name.ensures;
      },
    ))
    (front_of _ _ _ c.in_ok-bytes.ensures.few c.in_ok-bytes.ensures.front)

pub returns-in-Stray-clause-fault : goal.returns-in-Stray-clause-fault
returns-in-Stray-clause-fault g c =
    let stray = subst (IsStrayIn c.deref.result.now) c.in-Stray.is c.in-Err.ensures.stray in (
      c.in_ok-bytes.ensures.no_fault,
      some_each _ _ (g.L.Source.remaining c.args.source.now)
          (λ all is. subst (λ bytes. stray_line bytes ≡ Some c.in-Stray.line) (c.deref.ensures.value ∙ is) stray)
          (front_of _ _ _ c.in_ok-bytes.ensures.few c.in_ok-bytes.ensures.front),
    )
