-- More are found than are shown: so many are enough.
use Rattle.std.proofs.Common.{List, length, take, drop, sym, subst}
use Rattle.std.proofs.lemmas.Bool.{ltb-true}
use Rattle.xk_races.specs.declared.pairs.Race.{Race}
use Rattle.xk_races.specs.Races.{races_in}
use Rattle.xk_races.specs.Text.{AreEnough, most_shown}
use Rattle.xk_races.proofs.ShownLemmas.{enough_early}
use Rattle.xk_races.proofs.pairs.races_in.Goals as goal

pub returns-then-is_long : goal.returns-then-is_long
returns-then-is_long c =
    let sights = c.args.sights.now in
    let list = c.loop-i.list in
    let more = ltb-true most_shown (length list) (sym c.if-is_long.ensures) in
    subst (λ (rs : List Race). AreEnough rs (races_in sights)) (sym c.into_races.ensures)
    (enough_early (take c.loop-i.i sights) (drop c.loop-i.i sights) list (races_in sights) c.loop-i.invariant.0 more)
