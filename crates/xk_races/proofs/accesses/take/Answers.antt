-- Where the deed is no access, nothing is added.
use Rattle.std.proofs.Common.{◌≡◌, None, sym, subst}
use Rattle.xk_races.specs.Knowledge.{Sight}
use Rattle.xk_races.specs.Accesses.{AreAllCovered, cell_accessed}
use Rattle.xk_races.proofs.LatestLemmas.{all_covered_grown, all_covered_still, not_accessed}
use Rattle.xk_races.proofs.accesses.take.Goals as goal

pub take_access-requires-clause-covered : goal.take_access-requires-clause-covered
take_access-requires-clause-covered c =
    subst (AreAllCovered c.args.earlier.now) (sym c.in_ok-grow.ensures) (all_covered_grown c.args.earlier.now c.args.cells.now.items _ c.requires)

pub returns-in_default-clause-told : goal.returns-in_default-clause-told
returns-in_default-clause-told c =
    let none = subst (λ (s : Sight). cell_accessed s.deed.part ≡ None) c.y.view_is (sym c.in_default.ensures) in
    sym (not_accessed c.args.earlier.now c.args.y.now c.args.list.now none)

pub returns-in_default-clause-covered : goal.returns-in_default-clause-covered
returns-in_default-clause-covered c =
    let none = subst (λ (s : Sight). cell_accessed s.deed.part ≡ None) c.y.view_is (sym c.in_default.ensures) in
    all_covered_still c.args.earlier.now c.args.y.now c.args.cells.now.items none c.requires
