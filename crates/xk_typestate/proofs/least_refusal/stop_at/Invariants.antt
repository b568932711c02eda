-- the slots so far aren't refused there
use Rattle.std.proofs.Common.{◌≡◌, ℕ, ◌<◌}
use Rattle.xk_types.specs.declared.rules.Rule.{Rule}
use Rattle.xk_types.specs.declared.rules.Visit.{Visit}
use Rattle.xk_typestate.specs.LeastRefusal.{IsRefusedIn}
use Rattle.xk_typestate.proofs.least_refusal.stop_at.Given as goal

abbrev pub invariant-loop-slot : goal.invariant-loop-slot
invariant-loop-slot l = (s : ℕ) (q : Visit) (r : Rule) → s < l.slot → q.at ≡ l.at → IsRefusedIn l.m l.u s q r → ⊥
