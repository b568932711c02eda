use Rattle.std.proofs.Common.{◌∙◌, ◌<◌, ℕ, Option, Some, subst, sym}
use Rattle.xk_scheduler.specs.Choosers.{enabled_in}
use Rattle.xk_scheduler.proofs.EnabledSetLemmas.{listed_rises, listed_enabled}
use Rattle.xk_workers.specs.Claims.{claims_in}
use Rattle.xk_workers.proofs.UnclaimedSearchLemmas.{IsSeeking, seeks_on, seeks_least, seeks_no_more, less_left, left_of}
use Rattle.xk_workers.proofs.TakeLemmas.{least_claimed}
use Rattle.xk_workers.proofs.lock_table.first_unclaimed.Goals as goal

pub loop-next-preserved : goal.loop-next-preserved
loop-next-preserved c =
    let core = c.args.run.now.core in
    let list = enabled_in core.module_run core.world in
    let claims = claims_in c.args.claims.now in
    seeks_on claims list c.in-Some.act c.above-next.result (listed_rises core.module_run core.world)
    (subst (λ (o : Option ℕ). IsSeeking claims list o) c.in-Some.is c.loop-next.invariant) (sym c.has.ensures ∙ c.if-not-has.false) c.above-next.ensures

pub loop-next-smaller : goal.loop-next-smaller
loop-next-smaller c =
    let core = c.args.run.now.core in
    let list = enabled_in core.module_run core.world in
    let claims = claims_in c.args.claims.now in
    subst (λ (o : Option ℕ). left_of c.above-next.result list < left_of o list) (sym c.in-Some.is)
    (less_left claims list c.in-Some.act c.above-next.result (listed_rises core.module_run core.world)
    (subst (λ (o : Option ℕ). IsSeeking claims list o) c.in-Some.is c.loop-next.invariant) c.above-next.ensures)

pub returns-then-not-has-clause-some : goal.returns-then-not-has-clause-some
returns-then-not-has-clause-some c =
    let core = c.args.run.now.core in
    let h : IsSeeking (claims_in c.args.claims.now) (enabled_in core.module_run core.world) (Some c.in-Some.act) =
    subst (λ (o : Option ℕ). IsSeeking (claims_in c.args.claims.now) (enabled_in core.module_run core.world) o) c.in-Some.is c.loop-next.invariant in
    (listed_enabled core.module_run core.world h.place c.in-Some.act (sym h.next_is), sym c.has.ensures ∙ c.if-not-has.true)

pub returns-then-not-has-clause-least : goal.returns-then-not-has-clause-least
returns-then-not-has-clause-least c =
    let core = c.args.run.now.core in
    let list = enabled_in core.module_run core.world in
    let claims = claims_in c.args.claims.now in
    least_claimed core claims c.in-Some.act (seeks_least claims list c.in-Some.act (listed_rises core.module_run core.world)
    (subst (λ (o : Option ℕ). IsSeeking claims list o) c.in-Some.is c.loop-next.invariant))

pub returns-clause-none : goal.returns-clause-none
returns-clause-none c =
    let core = c.args.run.now.core in
    let list = enabled_in core.module_run core.world in
    let claims = claims_in c.args.claims.now in
    seeks_no_more claims list (subst (λ (o : Option ℕ). IsSeeking claims list o) c.in_default.is c.loop-next.invariant)
