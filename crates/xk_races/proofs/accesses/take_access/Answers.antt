-- The shared number has those that stand for its earlier accesses, and they stand for this one, too.
use Rattle.std.proofs.Common.{◌≡◌, true, sym, subst}
use Rattle.xk_races.specs.Races.{have_one_number}
use Rattle.xk_races_summary.specs.Accesses.{IsCovered, none_yet}
use Rattle.xk_races.specs.Accesses.{access_of}
use Rattle.xk_races.proofs.LatestLemmas.{all_covered}
use Rattle.xk_races.proofs.accesses.take_access.Goals as goal

pub take_into-requires : goal.take_into-requires
take_into-requires c =
    λ p x at one.
    let item = c.in-Some.ensures.item in
    let own = subst (λ a. have_one_number x.deed.part a ≡ true) c.requires.access one in
    subst (λ l. IsCovered l (access_of p x)) (sym (item.3.1 none_yet)) (c.requires.covered c.args.c p x at own)

pub returns-in_ok-take_into-clause-covered : goal.returns-in_ok-take_into-clause-covered
returns-in_ok-take_into-clause-covered c =
    all_covered c.args.earlier.now c.args.y.now c.args.cells.now.items c.args.c c.take_into.new.latest c.requires.access c.requires.there c.requires.covered
    c.in_ok-take_into.ensures.covered
