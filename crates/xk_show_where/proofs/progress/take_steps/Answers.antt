use Rattle.std.proofs.Common.{◌≡◌, ◌∙◌, ◌<◌, false, Some, length, get_or, replicate, sym, ap, subst, arith}
use Rattle.xk_types.specs.Code.{ModuleValue}
use Rattle.xk_types.specs.Schedule.{Through, is_enabled, run}
use Rattle.xk_core.specs.Core.{CoreValue}
use Rattle.xk_show_where.specs.declared.progress.Stop.{Stop}
use Rattle.xk_show_where.specs.Progress.{IsTold}
use Rattle.xk_show_where.proofs.ProgressLemmas.{IsAt, at_first, at_next, told_stopped, told_whole}
use Rattle.xk_show_where.proofs.progress.take_steps.Goals as goal

pub loop-i-init : goal.loop-i-init
loop-i-init c = (
  ap (λ (d : CoreValue). d.module_run) c.in_ok-core.ensures,
  subst (λ (d : CoreValue). IsAt c.args.verified.now c.args.arguments.now c.args.log.now 0 d.world) (sym c.in_ok-core.ensures)
      (at_first c.args.verified.now c.args.arguments.now c.args.log.now),
)

pub loop-i-preserved : goal.loop-i-preserved
loop-i-preserved c =
    let log = c.args.log.now in
    let x = c.index-log-i.result in
    let n = c.in_ok-taken.taken in
    let w = c.loop-i.core.world in
    let v = c.take_entry.new.core.world in
    let is : x ≡ get_or log c.loop-i.i x = c.index-log-i.is in
    let inside : c.loop-i.i < length log = omega arith in
    let led : run c.args.verified.now (replicate n x.act) w ≡ Through v =
    subst (λ (m : ModuleValue). run m (replicate n x.act) w ≡ Through v) c.loop-i.invariant.0 c.in_ok-taken.ensures.led in
    let all : n ≡ x.steps = omega (arith, c.in_ok-taken.ensures.most) in (
      c.take_entry.ensures.same_module ∙ c.loop-i.invariant.0,
      at_next c.args.verified.now c.args.arguments.now log c.loop-i.i n x w v inside c.loop-i.invariant.1 is led c.in_ok-taken.ensures.counted all,
    )

pub returns-then-taken-entry-clause-told : goal.returns-then-taken-entry-clause-told
returns-then-taken-entry-clause-told c =
    let log = c.args.log.now in
    let x = c.index-log-i.result in
    let n = c.in_ok-taken.taken in
    let w = c.loop-i.core.world in
    let v = c.take_entry.new.core.world in
    let is : x ≡ get_or log c.loop-i.i x = c.index-log-i.is in
    let inside : c.loop-i.i < length log = omega arith in
    let led : run c.args.verified.now (replicate n x.act) w ≡ Through v =
    subst (λ (m : ModuleValue). run m (replicate n x.act) w ≡ Through v) c.loop-i.invariant.0 c.in_ok-taken.ensures.led in
    let held : is_enabled c.args.verified.now v x.act ≡ false =
    subst (λ (m : ModuleValue). is_enabled m v x.act ≡ false) (c.take_entry.ensures.same_module ∙ c.loop-i.invariant.0)
    (c.in_ok-taken.ensures.stops c.if-taken-entry.true) in
    subst (λ (s : Stop). IsTold c.args.verified.now c.args.arguments.now log v (Some s)) (sym c.stop_at.ensures)
    (told_stopped c.args.verified.now c.args.arguments.now log c.loop-i.i n x w v inside c.loop-i.invariant.1 is led c.in_ok-taken.ensures.counted
    c.if-taken-entry.true held)

pub returns-clause-told : goal.returns-clause-told
returns-clause-told c =
    told_whole c.args.verified.now c.args.arguments.now c.args.log.now c.loop-i.i c.loop-i.core.world (omega arith) c.loop-i.invariant.1
