-- In which phase of a clock an activity resumed it, if it did, told by two fields.
use Rattle.std.specs.Prelude.{◌≡◌, ℕ, Bool, true, false, Option, None, Some}

-- the phase that these fields stand for
abbrev pub resumed_of : Bool → ℕ → Option ℕ
resumed_of true phase = Some phase
resumed_of false phase = None

-- and back
abbrev pub was_resumed : Option ℕ → Bool
was_resumed (Some phase) = true
was_resumed None = false

abbrev pub phase_in : Option ℕ → ℕ
phase_in (Some phase) = phase
phase_in None = 0

-- a phase that means nothing is zero
abbrev pub IsPlain : Bool → ℕ → Type 0
IsPlain is_resumed phase = phase ≡ phase_in (resumed_of is_resumed phase)
