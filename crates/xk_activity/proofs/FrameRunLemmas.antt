-- Many steps on the present frame are as many on the frames.
use Rattle.std.proofs.Common.{◌≡◌, ℕ, zero, suc, refl, ap, ◌∙◌}
use Rattle.xk_activity.specs.Local.{Beyond, Wrong, Stepped, IsRight, IsSafe, Spot, Turn, FramesValue, in_frame, then_step, ran, local, turn, spot_of, frame_on}
use Rattle.xk_activity.proofs.LocalStepLemmas.{code_now, turn_right, turn_steps}
use Rattle.xk_activity.proofs.StepSequenceLemmas.{safe_here}

-- the frames whose present one stands so
abbrev standing : FramesValue → Spot → FramesValue
standing fs s = record fs { frame = frame_on fs.frame.unit s }

one_more : (fs : FramesValue) → IsSafe local fs → (n : ℕ) (s : Spot) (o : Turn) → ran (turn (code_now fs)) (spot_of fs.frame) n ≡ o
    → ((r : Spot) → ran (turn (code_now fs)) (spot_of fs.frame) n ≡ Stepped r → ran local fs n ≡ Stepped (standing fs r))
    → then_step (turn (code_now fs)) o ≡ Stepped s → ran local fs (suc n) ≡ Stepped (standing fs s)
one_more fs safe n s Beyond h before d = cc
one_more fs safe n s Wrong h before d = cc
one_more fs safe n s (Stepped r) h before d =
    ap (then_step local) (before r h) ∙ turn_steps (standing fs r) s (safe_here local fs n (standing fs r) safe (before r h)) d

pub turns_ran : (fs : FramesValue) → IsSafe local fs → (n : ℕ) (s : Spot) → ran (turn (code_now fs)) (spot_of fs.frame) n ≡ Stepped s
    → ran local fs n ≡ Stepped (standing fs s)
turns_ran fs safe zero s e = ap (in_frame fs) e
turns_ran fs safe (suc n) s e = one_more fs safe n s (ran (turn (code_now fs)) (spot_of fs.frame) n) refl (λ r h. turns_ran fs safe n r h) e

next_right : (fs : FramesValue) → IsSafe local fs → (n : ℕ) (o : Turn) → ran (turn (code_now fs)) (spot_of fs.frame) n ≡ o → IsRight o
    → IsRight (then_step (turn (code_now fs)) o)
next_right fs safe n Beyond h r = tt
next_right fs safe n Wrong h r = r
next_right fs safe n (Stepped s) h r = turn_right (standing fs s) (safe_here local fs n (standing fs s) safe (turns_ran fs safe n s h))

pub turns_safe : (fs : FramesValue) → IsSafe local fs → IsSafe (turn (code_now fs)) (spot_of fs.frame)
turns_safe fs safe zero = tt
turns_safe fs safe (suc n) = next_right fs safe n (ran (turn (code_now fs)) (spot_of fs.frame) n) refl (turns_safe fs safe n)
