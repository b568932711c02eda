use Rattle.std.proofs.Common.{◌≡◌, ◌+◌, ◌-◌, inl, inr, ap, ◌∙◌, arith}
use Rattle.xk_activity.specs.Local.{Spot, IsRight, ran, turn, spot_at}
use Rattle.xk_activity.specs.Slots.{values_of}
use Rattle.xk_activity.proofs.OperandLemmas.{turn_there, turn_is, carried_there}
use Rattle.xk_activity.proofs.StepSequenceLemmas.{safe_here, ran_on}
use Rattle.xk_activity.proofs.interpreter.run_instructions.Goals as goal
use Rattle.xk_activity.proofs.interpreter.run_instructions.Goals.{At-loop-left, else-loop-left-test, then-loop-left-test+in-None}

-- where the frame stands at the beginning, and in this turn of the loop
abbrev first : At-loop-left → Spot
first c = spot_at c.args.start (values_of c.args.marks.now c.args.words.now)

abbrev here : At-loop-left → Spot
here c = spot_at c.loop-left.place (values_of c.loop-left.now c.loop-left.words)

-- its instruction isn't wrong
right : (c : At-loop-left) → IsRight (turn c.args.code.now (here c))
right c = safe_here (turn c.args.code.now) (first c) (c.args.max - c.loop-left.left) (here c) c.requires.safe c.loop-left.invariant.0

pub bounds-code-place : goal.bounds-code-place
bounds-code-place c = let p = (goal.at.bounds-code-place c).At-loop-left in turn_there c.args.code.now (here p) (right p)

pub execute-requires-clause-place : goal.execute-requires-clause-place
execute-requires-clause-place c =
    let p = (goal.at.execute-requires-clause-place c).At-loop-left in
    omega (arith, turn_there c.args.code.now (here p) (right p), c.requires.short)

pub execute-requires-clause-right : goal.execute-requires-clause-right
execute-requires-clause-right c =
    let p = (goal.at.execute-requires-clause-right c).At-loop-left in
    carried_there c.args.code.now (here p) c.index-code-place.result (right p) c.index-code-place.is

pub loop-left-preserved : goal.loop-left-preserved
loop-left-preserved c =
    let p = (goal.at.loop-left-preserved c).At-loop-left in
    let step = turn c.args.code.now in
    let n = c.args.max - c.loop-left.left in
    let next = spot_at c.in-Some.next (values_of c.execute.new.marks c.execute.new.words) in
    let more : c.args.max - (c.loop-left.left - 1) ≡ n + 1 = omega (arith, c.loop-left-test.true, c.loop-left.invariant.1) in (
      ap (λ k. ran step (first p) k) more
          ∙ ran_on step (first p) n (here p) next c.loop-left.invariant.0
          (turn_is c.args.code.now (here p) c.index-code-place.result (right p) c.index-code-place.is ∙ c.in-Some.ensures.answers),
      omega (arith, c.loop-left.invariant.1),
      omega (arith, c.in-Some.ensures.near),
      c.execute.ensures.length ∙ c.loop-left.invariant.3,
    )

pub returns-clause-stops : goal.returns-clause-stops
returns-clause-stops c =
    let p = (goal.at.returns-clause-stops c).At-loop-left in
    elim c.loop-left-test.branch [
      | else-loop-left-test w ↦ inl (let none = w.loop-left-test.false in omega arith)
      | then-loop-left-test+in-None w ↦ inr (rw (w.words-is, w.now-is) (
          ap (λ v. turn c.args.code.now (spot_at c.loop-left.place v)) w.in-None.ensures.answers.1
          ∙ turn_is c.args.code.now (here p) w.index-code-place.result (right p) w.index-code-place.is ∙ w.in-None.ensures.answers.0
          ))
    ]
