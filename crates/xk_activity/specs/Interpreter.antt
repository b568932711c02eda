-- What the code answers that carries out one instruction on one frame.
use Rattle.std.specs.Prelude.{◌≡◌, ◌≤◌, ◌^◌, ℕ, Bool, true, false, List, [], Option, Some, None}
use Rattle.xk_types.specs.declared.instr.Instr.{Instr}
use Rattle.xk_types.specs.declared.world.Value.{Value}
use Rattle.xk_activity.specs.Local.{OutcomeOf, Turn, Beyond, Wrong, Stepped, carried, spot_at}

-- the step concerns more than that
abbrev pub is_more : {X : Type 0} → OutcomeOf X → Bool
is_more Beyond = true
is_more Wrong = false
is_more (Stepped x) = false

-- The instruction concerns more than the frame, whatever the frame has: one without a slot tells.
abbrev pub is_beyond : Instr → Bool
is_beyond i = is_more (carried [] (spot_at 0 []) i)

-- what one step answers, by what it comes to: the next place, or that it concerns more than the frame
abbrev pub Answers : Turn → List Value → Option ℕ → List Value → Type 0
Answers step old None new = (step ≡ Beyond) × (new ≡ old)
Answers step old (Some p) new = step ≡ Stepped (spot_at p new)

-- the next place, if there is one, is small
abbrev pub IsNear : Option ℕ → Type 0
IsNear None = Unit {0}
IsNear (Some p) = p ≤ 2 ^ 16
