use Rattle.std.proofs.Common.{◌≡◌, ◌+◌, length, subst, arith}
use Rattle.xk_readings.specs.Ways.{WaysValue}
use Rattle.xk_readings.proofs.StandLemmas.{many_ways}
use Rattle.xk_readings.proofs.ways.Ways.len.Goals as goal

pub returns : goal.returns
returns c =
    let many = many_ways c.self.inside.stands.items in
    let count = c.len.ensures in
    let kept = c.self.inside.stands.ok.0 in
    subst (λ (w : WaysValue). c.len.result + 1 ≡ length w.all) c.self.view_is (omega (arith, many, count, kept))
