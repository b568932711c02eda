use Rattle.std.proofs.Common.{◌≡◌, ◌<◌, ℕ, true}
use Rattle.std.specs.Prelude.{IfNone, IfSome}
use Rattle.xk_types.specs.Schedule.{is_enabled}
use Rattle.xk_outcomes.specs.Ways.{is_tried}
use Rattle.xk_outcomes.proofs.search.lone_among.Given as goal

-- of those before this one nobody who is tried can take a step, or one alone
abbrev pub invariant-loop-a : goal.invariant-loop-a
invariant-loop-a l = record {
  none : IfNone l.found ((b : ℕ) → b < l.a → is_tried l.members b ≡ true → is_enabled l.core.module_run l.core.world b ≡ true → ⊥);
  one : IfSome l.found (λ c. (is_tried l.members c ≡ true) × (is_enabled l.core.module_run l.core.world c ≡ true)
      × ((b : ℕ) → b < l.a → is_tried l.members b ≡ true → is_enabled l.core.module_run l.core.world b ≡ true → b ≡ c));
}
