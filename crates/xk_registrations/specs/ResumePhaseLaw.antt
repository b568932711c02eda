-- The fields that tell a phase are again those of the phase.
use Rattle.std.proofs.Common.{◌≡◌, ℕ, Bool, true, false, refl}
use Rattle.xk_registrations.specs.ResumePhase.{resumed_of, was_resumed}

pub was_again : (is_resumed : Bool) (phase : ℕ) → was_resumed (resumed_of is_resumed phase) ≡ is_resumed
was_again true phase = refl
was_again false phase = refl

pub alike : {X : Type 0} (f : Bool → ℕ → X) (a b : Bool) (p q : ℕ) → a ≡ b → p ≡ q → f a p ≡ f b q
alike f a b p q e h = cc
