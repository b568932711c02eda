use Rattle.std.proofs.Common.{◌≡◌, true, false, length, sym, subst, ap, arith}
use Rattle.xk_types.specs.Schedule.{is_enabled, all_ended}
use Rattle.xk_core.specs.Core.{CoreValue}
use Rattle.xk_core.specs.FinishView.{with_finishes}
use Rattle.xk_core.proofs.CoreLemmas.{core_names, core_ends}
use Rattle.xk_core.proofs.FinishViewLemmas.{length_told}
use Rattle.xk_core.proofs.machine.Core.pick.Goals as goal

pub overflow_cast-act : goal.overflow_cast-act
overflow_cast-act c = omega (
  arith,
  core_names c.self.inside.state.module_run (with_finishes c.self.inside.finishes c.self.inside.state.world) c.self.invariant.0,
  c.len-a-end.ensures,
  ap length c.activities.ensures.list,
  length_told c.self.inside.finishes c.self.inside.state.world.activities c.self.invariant.1.width,
  c.loop-a-test.true,
)

pub returns-clause-none : goal.returns-clause-none
returns-clause-none c = subst (λ (v : CoreValue). all_ended v.world ≡ true) c.self.view_is
    (core_ends c.self.inside.state.module_run (with_finishes c.self.inside.finishes c.self.inside.state.world) c.self.invariant.0
    (λ b lt. subst (λ (v : CoreValue). is_enabled v.module_run v.world b ≡ false) (sym c.self.view_is)
    (c.loop-a.invariant b (omega (
      arith,
      lt,
      c.len-a-end.ensures,
      ap length c.activities.ensures.list,
      length_told c.self.inside.finishes c.self.inside.state.world.activities c.self.invariant.1.width,
      c.loop-a-test.false,
    )))))
