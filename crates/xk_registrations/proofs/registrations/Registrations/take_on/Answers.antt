use Rattle.std.proofs.Common.{rules, ◌≡◌, [], ◌∷◌, ◌++◌, sym, subst}
use Rattle.xk_registrations.specs.View.{AreDistinct}
use Rattle.xk_registrations.proofs.InheritanceLemmas.{taken_distinct}
use Rattle.xk_registrations.proofs.registrations.Registrations.take_on.Goals as goal

pub invariant_of-self-in-Some-1 : goal.invariant_of-self-in-Some-1
invariant_of-self-in-Some-1 c =
    let all : c.push.new.self.items ≡ c.self.inside.list.items ++ c.in-None-Some.handed ∷ [] = search rules in
    subst AreDistinct (sym all)
    (taken_distinct c.self.inside.list.items c.args.from.now c.in-Clock.clock c.in-None-Some.handed c.self.invariant (search rules) (search rules))
