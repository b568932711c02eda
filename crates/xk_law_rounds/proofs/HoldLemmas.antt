-- Where one stands on a clock, by its stage there.
use Rattle.std.proofs.Common.{◌≡◌, ℕ, suc, ◌+◌, ◌<◌, ◌≤◌, true, true≢false, Option, Some, None, refl, sym, arith}
use Rattle.std.specs.Prelude.{slice_get}
use Rattle.std.specs.Option.{option_map_or}
use Rattle.xk_types.specs.declared.world.Standing.{Standing}
use Rattle.xk_types.specs.declared.world.Standing.TheVariants as standing
use Rattle.xk_types.specs.World.{Clock, World, standing_of}
use Rattle.xk_types.specs.Step.{is_pending, is_registered, is_signalled}
use Rattle.xk_law_traces.specs.Edges.{held_in, phase_of, standing_on}
use Rattle.xk_law_traces.proofs.StageLemmas.{stage_at, stage_by, stage_of}

-- Who stands so on a clock in phase p is at this stage: one that is registered has one, and holds the clock in the phase that it tells;
-- one that is awaited is at one of the two of this phase, and nobody else is; one that has signalled is at the next.
pub record Tells (p : ℕ) (st : Standing) (stage : ℕ) : Type 0 where
  pub some : is_registered st ≡ true → 0 < stage
  pub holds : 0 < stage
      → (is_registered st ≡ true) × (suc (held_in p st + held_in p st) ≤ stage) × (stage ≤ suc (suc (held_in p st + held_in p st)))
  pub awaited : is_pending st ≡ true → (suc (p + p) ≤ stage) × (stage ≤ suc (suc (p + p)))
  pub awaits : suc (p + p) ≤ stage → stage ≤ suc (suc (p + p)) → is_pending st ≡ true
  pub signalled : is_signalled st ≡ true → stage ≡ suc (suc (suc (p + p)))

tells : (p : ℕ) (st : Standing) → Tells p st (stage_by p st)
tells p standing.Apart = record {
  some = λ h. absurd (true≢false (sym h));
  holds = λ h. absurd (omega (arith, h));
  awaited = λ h. absurd (true≢false (sym h));
  awaits = λ h g. absurd (omega (arith, h));
  signalled = λ h. absurd (true≢false (sym h));
}
tells p standing.Open = record {
  some = λ h. omega arith;
  holds = λ h. (refl, omega arith, omega arith);
  awaited = λ h. (omega arith, omega arith);
  awaits = λ h g. refl;
  signalled = λ h. absurd (true≢false (sym h));
}
tells p standing.Signalled = record {
  some = λ h. omega arith;
  holds = λ h. (refl, omega arith, omega arith);
  awaited = λ h. absurd (true≢false (sym h));
  awaits = λ h g. absurd (omega (arith, g));
  signalled = λ h. refl;
}
tells p standing.Ahead = record {
  some = λ h. omega arith;
  holds = λ h. (refl, omega arith, omega arith);
  awaited = λ h. (omega arith, omega arith);
  awaits = λ h g. refl;
  signalled = λ h. absurd (true≢false (sym h));
}

pub stage_tells : (w : World) (k a : ℕ) → Tells (phase_of w k) (standing_on w a k) (stage_at w k a)
stage_tells w k a = of (slice_get w.clocks k)
  where
    of : (o : Option Clock)
        → Tells (option_map_or (λ (c : Clock). c.phase) o 0) (option_map_or (λ (c : Clock). standing_of c a) o standing.Apart)
        (option_map_or (λ (c : Clock). stage_of c a) o 0)
    of None = tells 0 standing.Apart
    of (Some c) = tells c.phase (standing_of c a)
