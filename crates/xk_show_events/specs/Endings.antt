-- What is told behind the last step of a log in whose run not all have ended. This project's own.
use Rattle.std.specs.Prelude.{ℕ, zero, suc, ◌+◌, Bool, List, ◌++◌, length, codes, decimal, if◌then◌else◌}
use Rattle.xk_types.specs.World.{World}
use Rattle.xk_core.specs.Core.{is_living}

-- how many numbers below this one pass
abbrev pub count_below : (ℕ → Bool) → ℕ → ℕ
count_below test zero = 0
count_below test (suc n) = if test n then count_below test n + 1 else count_below test n

-- how many activities haven't ended
abbrev pub living : World → ℕ
living w = count_below (is_living w) (length w.activities)

-- `the log ends after step 15, before the run does; activities not ended: 3`
unfoldable pub ending_words : World → List ℕ
ending_words w =
    codes "the log ends after step " ++ (decimal w.steps ++ (codes ", before the run does; activities not ended: " ++ decimal (living w)))
