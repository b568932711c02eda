use Rattle.std.proofs.Common.{◌≡◌, ◌+◌, ◌<◌, ◌^◌, true, Some, length, ap, sym, ◌∙◌, subst, arith}
use Rattle.xk_types.specs.declared.instr.Instr.TheVariants as instruction
use Rattle.xk_types.specs.Step.{Stepped, step}
use Rattle.xk_types.specs.Schedule.{is_enabled}
use Rattle.xk_types.specs.Bound.{room_of}
use Rattle.xk_core.specs.InstructionEffect.{carried, IsRoomy}
use Rattle.xk_core.specs.Core.{CoreValue, next_instruction}
use Rattle.xk_core.specs.FinishView.{with_finishes}
use Rattle.xk_core.proofs.CoreLemmas.{core_names}
use Rattle.xk_core.proofs.FinishTreeLemmas.{held, parts_in, parts_roomy, runs, exists, alive, spawn_enabled, started_held}
use Rattle.xk_core.proofs.FinishViewLemmas.{length_told}
use Rattle.xk_core.proofs.machine.Core.start.Goals as goal

pub prepare-requires-clause-enabled : goal.prepare-requires-clause-enabled
prepare-requires-clause-enabled c =
    let m = c.self.inside.state.module_run in
    let ns = c.self.inside.finishes in
    let w = c.self.inside.state.world in
    let h = held m ns w c.self.invariant in
    let can = subst (λ (v : CoreValue). is_enabled v.module_run v.world c.args.act ≡ true) (sym c.self.view_is) c.requires.enabled in
    let next = subst (λ (v : CoreValue). next_instruction v.module_run v.world c.args.act ≡ Some (instruction.Spawn c.args.unit c.args.args.now))
    (sym c.self.view_is) c.requires.here in
    rw (c.act.view_is, c.slots.ensures) (spawn_enabled m ns w c.args.act h c.args.unit c.args.args.now 0 next can)

pub spawned-requires-clause-exists : goal.spawned-requires-clause-exists
spawned-requires-clause-exists c =
    let m = c.self.inside.state.module_run in
    let ns = c.self.inside.finishes in
    let w = c.self.inside.state.world in
    let h = held m ns w c.self.invariant in
    let next = subst (λ (v : CoreValue). next_instruction v.module_run v.world c.args.act ≡ Some (instruction.Spawn c.args.unit c.args.args.now))
    (sym c.self.view_is) c.requires.here in
    (exists m ns w c.args.act h (instruction.Spawn c.args.unit c.args.args.now) (runs m ns w c.args.act h (instruction.Spawn c.args.unit c.args.args.now) next)).0

pub spawned-requires-clause-runs : goal.spawned-requires-clause-runs
spawned-requires-clause-runs c =
    let m = c.self.inside.state.module_run in
    let ns = c.self.inside.finishes in
    let w = c.self.inside.state.world in
    let h = held m ns w c.self.invariant in
    let next = subst (λ (v : CoreValue). next_instruction v.module_run v.world c.args.act ≡ Some (instruction.Spawn c.args.unit c.args.args.now))
    (sym c.self.view_is) c.requires.here in
    alive m ns w c.args.act h (instruction.Spawn c.args.unit c.args.args.now) (runs m ns w c.args.act h (instruction.Spawn c.args.unit c.args.args.now) next)

pub spawned-requires-clause-numbers : goal.spawned-requires-clause-numbers
spawned-requires-clause-numbers c = omega (
  arith,
  core_names c.self.inside.state.module_run (with_finishes c.self.inside.finishes c.self.inside.state.world) c.self.invariant.0,
  length_told c.self.inside.finishes c.self.inside.state.world.activities c.self.invariant.1.width,
  c.self.invariant.1.width,
)

pub admit-requires-clause-room : goal.admit-requires-clause-room
admit-requires-clause-room c =
    let m = c.self.inside.state.module_run in
    let ns = c.self.inside.finishes in
    let w = c.self.inside.state.world in
    let h = held m ns w c.self.invariant in
    let next = subst (λ (v : CoreValue). next_instruction v.module_run v.world c.args.act ≡ Some (instruction.Spawn c.args.unit c.args.args.now))
    (sym c.self.view_is) c.requires.here in
    let there = (exists m ns w c.args.act h (instruction.Spawn c.args.unit c.args.args.now) (runs m ns w c.args.act h (instruction.Spawn c.args.unit c.args.args.now) next)).1 in
    subst (λ (v : CoreValue). IsRoomy v.module_run v.world c.act.inside.0) (sym c.prepare.ensures.same) (rw c.act.view_is (parts_roomy m ns w c.args.act h there))

pub admit-requires-clause-numbers : goal.admit-requires-clause-numbers
admit-requires-clause-numbers c =
    subst (λ (v : CoreValue). length v.world.activities + 1 < 2 ^ 32) (sym c.prepare.ensures.same) (omega (
      arith,
      core_names c.self.inside.state.module_run (with_finishes c.self.inside.finishes c.self.inside.state.world) c.self.invariant.0,
      length_told c.self.inside.finishes c.self.inside.state.world.activities c.self.invariant.1.width,
    ))

pub invariant_of-self-2 : goal.invariant_of-self-2
invariant_of-self-2 c =
    let m = c.self.inside.state.module_run in
    let ns = c.self.inside.finishes in
    let w = c.self.inside.state.world in
    let h = held m ns w c.self.invariant in
    let can = subst (λ (v : CoreValue). is_enabled v.module_run v.world c.args.act ≡ true) (sym c.self.view_is) c.requires.enabled in
    let next = subst (λ (v : CoreValue). next_instruction v.module_run v.world c.args.act ≡ Some (instruction.Spawn c.args.unit c.args.args.now))
    (sym c.self.view_is) c.requires.here in
    let goes : carried m w c.args.act (instruction.Spawn c.args.unit c.args.args.now) ≡ Stepped c.admit.new.self.world c.admit.result =
    subst (λ n. carried m w n (instruction.Spawn c.args.unit c.args.args.now) ≡ Stepped c.admit.new.self.world c.admit.result) c.act.view_is
    (subst (λ xs. carried m w c.act.inside.0 (instruction.Spawn c.args.unit xs) ≡ Stepped c.admit.new.self.world c.admit.result) c.slots.ensures
    (subst (λ (v : CoreValue). carried v.module_run v.world c.act.inside.0 (instruction.Spawn c.args.unit c.slots.result.now) ≡ Stepped c.admit.new.self.world c.admit.result)
    c.prepare.ensures.same (c.admit.ensures.started c.args.unit c.slots.result.now c.in_ok-newcomer.ensures.ready))) in
    let both = started_held m ns c.spawned.new.self w c.admit.new.self.world c.args.act c.args.unit c.args.args.now c.room-most.result.finishes c.admit.result h
    next can (subst (λ k. c.room-most.result.finishes ≡ room_of k c.args.unit) (c.verified.ensures ∙ c.activities.ensures.module) c.room-most.ensures.finishes) goes c.in_ok-spawned.ensures.started in
    parts_in m c.admit.new.self.module_run c.spawned.new.self c.admit.new.self.world (c.admit.ensures.same ∙ ap (λ (v : CoreValue). v.module_run) c.prepare.ensures.same) both.0

pub returns-clause-stepped : goal.returns-clause-stepped
returns-clause-stepped c =
    let m = c.self.inside.state.module_run in
    let ns = c.self.inside.finishes in
    let w = c.self.inside.state.world in
    let h = held m ns w c.self.invariant in
    let can = subst (λ (v : CoreValue). is_enabled v.module_run v.world c.args.act ≡ true) (sym c.self.view_is) c.requires.enabled in
    let next = subst (λ (v : CoreValue). next_instruction v.module_run v.world c.args.act ≡ Some (instruction.Spawn c.args.unit c.args.args.now))
    (sym c.self.view_is) c.requires.here in
    let goes : carried m w c.args.act (instruction.Spawn c.args.unit c.args.args.now) ≡ Stepped c.admit.new.self.world c.admit.result =
    subst (λ n. carried m w n (instruction.Spawn c.args.unit c.args.args.now) ≡ Stepped c.admit.new.self.world c.admit.result) c.act.view_is
    (subst (λ xs. carried m w c.act.inside.0 (instruction.Spawn c.args.unit xs) ≡ Stepped c.admit.new.self.world c.admit.result) c.slots.ensures
    (subst (λ (v : CoreValue). carried v.module_run v.world c.act.inside.0 (instruction.Spawn c.args.unit c.slots.result.now) ≡ Stepped c.admit.new.self.world c.admit.result)
    c.prepare.ensures.same (c.admit.ensures.started c.args.unit c.slots.result.now c.in_ok-newcomer.ensures.ready))) in
    let both = started_held m ns c.spawned.new.self w c.admit.new.self.world c.args.act c.args.unit c.args.args.now c.room-most.result.finishes c.admit.result h
    next can (subst (λ k. c.room-most.result.finishes ≡ room_of k c.args.unit) (c.verified.ensures ∙ c.activities.ensures.module) c.room-most.ensures.finishes) goes c.in_ok-spawned.ensures.started in
    subst (λ (v : CoreValue). step v.module_run v.world c.args.act ≡ Stepped (with_finishes c.spawned.new.self c.admit.new.self.world) c.admit.result) c.self.view_is both.1
