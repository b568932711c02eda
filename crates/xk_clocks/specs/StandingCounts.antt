-- What the numbers of a clock count: its standings. That they are counted is this project's own; what a standing is, `xk_types` says in
-- `World.antt`.
use Rattle.std.specs.Prelude.{◌≡◌, ℕ, suc, Bool, List, [], ◌∷◌, if◌then◌else◌}
use Rattle.xk_types.specs.declared.world.Standing.{Standing}
use Rattle.xk_types.specs.World.{Clock}
use Rattle.xk_types.specs.Step.{is_pending, is_registered}
use Rattle.xk_clocks.specs.Table.{CountValue}

-- how many of these standings pass the test
abbrev pub tally : (Standing → Bool) → List Standing → ℕ
tally test [] = 0
tally test (s ∷ ss) = if test s then suc (tally test ss) else tally test ss

-- the numbers of registrations and of those pending are those of a clock with these standings
pub record AreCounts (ss : List Standing) (c : CountValue) : Type 0 where
  pub registered : c.registered ≡ tally is_registered ss
  pub pending : c.pending ≡ tally is_pending ss

-- the numbers are those of the clock
pub record IsCountOf (clock : Clock) (c : CountValue) : Type 0 where
  pub phase : c.phase ≡ clock.phase
  pub counts : AreCounts clock.standings c
