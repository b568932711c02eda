use Rattle.std.proofs.Common.{◌∙◌, ◌<◌, length, subst, arith}
use Rattle.xk_readings.specs.Closures.{IsClosed}
use Rattle.xk_readings.specs.Ways.{at, start}
use Rattle.xk_readings.proofs.GrowthLemmas.{closed_next, prints_all, spread_on}
use Rattle.xk_readings.proofs.ListLemmas.{read}
use Rattle.xk_readings.proofs.UsefulLemmas.{readable_within}
use Rattle.xk_readings.proofs.closure.close.Goals as goal

pub look_from-requires : goal.look_from-requires
look_from-requires c = record {
  within = λ k s there.
      let r = (c.requires.reached k s there).readable in
      let is = readable_within c.args.graph.now c.requires.within r.0 s.node r.1 r.2 r.3 in
      let room = c.requires.room in
      omega (arith, is, room);
}

pub loop-number-preserved : goal.loop-number-preserved
loop-number-preserved c =
    let g = c.args.graph.now in
    let old = c.args.ways.now in
    let now = c.loop-number.ways in
    let new = c.spread.new.ways in
    let number = c.loop-number.number in
    let numbers = (at old.all c.args.first).numbers in
    let before = c.loop-number-test.true in
    let count = c.len.ensures in
    let less : number < length now.all = omega (arith, before, count) in
    let behind = c.loop-number.invariant.behind in
    let is = c.in_ok-spread.ensures.spread in
    let most = is.many in
    let same = prints_all g c.args.first numbers old now c.requires.same c.loop-number.invariant.spread number (at now.all number) behind
    (read now.all number start less) in
    record {
      spread = spread_on g numbers (at now.all number).numbers old now new same c.loop-number.invariant.spread is;
      since = c.in_ok-spread.ensures.since ∙ c.loop-number.invariant.since;
      behind = omega (arith, behind);
      within = omega (arith, less, most);
      closed = closed_next g now.all new.all c.args.first number is.kept less c.loop-number.invariant.closed
          (subst (λ m. IsClosed g new.all m (at now.all number)) (c.in_ok-spread.ensures.since
          ∙ c.loop-number.invariant.since) c.in_ok-spread.ensures.edges);
    }

pub returns-clause-closed : goal.returns-clause-closed
returns-clause-closed c k from less =
    let over = c.loop-number-test.false in
    let count = c.len.ensures in
    c.loop-number.invariant.closed k from (omega (arith, less, over, count))
