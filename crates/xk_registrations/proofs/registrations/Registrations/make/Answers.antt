use Rattle.std.proofs.Common.{rules, ◌≡◌, [], ◌∷◌, ◌++◌, None, sym, subst}
use Rattle.xk_registrations.specs.View.{AreDistinct}
use Rattle.xk_registrations.proofs.NewClockLemmas.{distinct_push}
use Rattle.xk_registrations.proofs.registrations.Registrations.make.Goals as goal

pub invariant_of-self : goal.invariant_of-self
invariant_of-self c =
    let all : c.push_reserved.new.self.items ≡ c.self.inside.list.items ++ record { clock = c.make-clock.result; resumed = None } ∷ [] = search rules in
    subst AreDistinct (sym all) (distinct_push c.self.inside.list.items _ c.self.invariant (search rules))
