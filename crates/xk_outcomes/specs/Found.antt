-- One that was found, and how it goes on. This project's own.
use Rattle.std.specs.Prelude.{ℕ, ℤ, Bool, true, false, List, [], ◌∷◌, ◌++◌, length, zero, suc, fold, Option, Some, None}
use Rattle.std.specs.Option.{option_to_list}
use Rattle.xk_types.specs.Step.{Outcome, Blocked, Wrong, Stepped, step}
use Rattle.xk_types.specs.Schedule.{number_printed}
use Rattle.xk_types.specs.Bound.{steps_bound}
use Rattle.xk_types.specs.World.{World}
use Rattle.xk_ranks.specs.Ranks.{going}
use Rattle.xk_rank_digests.specs.Numbers.{number_of}
use Rattle.xk_outcomes.specs.PrivateSteps.{has_private_step}
use Rattle.xk_core.specs.Core.{CoreValue, with_world}

-- a core, and the numbers that were printed by then
pub record FoundValue : Type 0 where
  pub core : CoreValue
  pub printed : List ℤ

-- ---- a step

-- what an attempt at a step of activity a makes of it
abbrev pub with_outcome : FoundValue → ℕ → Outcome → FoundValue
with_outcome x a Blocked = x
with_outcome x a (Wrong c) = x
with_outcome x a (Stepped w e) = record {
  core = with_world x.core w;
  printed = x.printed ++ option_to_list (number_printed e);
}

-- a step of activity a more, if it can take one
abbrev pub one_more : ℕ → FoundValue → FoundValue
one_more a x = with_outcome x a (step x.core.module_run x.core.world a)

-- ---- private steps

-- a number that was found before, or else this one if it passes
abbrev pub or_this : Option ℕ → Bool → ℕ → Option ℕ
or_this (Some a) passes n = Some a
or_this None true n = Some n
or_this None false n = None

-- the least number below n that passes
abbrev pub least : (ℕ → Bool) → ℕ → Option ℕ
least passes zero = None
least passes (suc n) = or_this (least passes n) (passes n) n

-- the least activity that has a private step
abbrev pub least_private : CoreValue → Option ℕ
least_private c = least (has_private_step c.module_run c.world) (length c.world.activities)

-- a step of that activity more, if there is one
abbrev pub with_step : FoundValue → Option ℕ → FoundValue
with_step x None = x
with_step x (Some a) = one_more a x

-- up to so many private steps more
abbrev pub settled : ℕ → FoundValue → FoundValue
settled zero x = x
settled (suc n) x = with_step (settled n x) (least_private (settled n x).core)

-- private steps more, as long as there is one: no run has more steps than are verified
abbrev pub at_rest : FoundValue → FoundValue
at_rest x = settled (steps_bound x.core.module_run) x

-- ---- from one to another

-- a step of activity a, if it can take one, and private steps behind it
abbrev pub next : ℕ → FoundValue → FoundValue
next a x = at_rest (one_more a x)

-- what is found before any step that isn't private
abbrev pub first_found : CoreValue → FoundValue
first_found start = at_rest (record { core = start; printed = [] })

-- the activity of a rank among those that haven't ended
abbrev pub act_of : World → ℕ → ℕ
act_of w r = number_of (going w.activities) r

-- a step of the activity of a rank, and private steps behind it
abbrev pub next_by_rank : ℕ → FoundValue → FoundValue
next_by_rank r x = next (act_of x.core.world r) x

-- where such steps lead, the last of which stands first
abbrev pub along : List ℕ → FoundValue → FoundValue
along [] x = x
along (r ∷ way) x = next_by_rank r (along way x)

-- the same, the first of which stands first
abbrev pub through : List ℕ → FoundValue → FoundValue
through ranks x = fold (λ y r. next_by_rank r y) x ranks
