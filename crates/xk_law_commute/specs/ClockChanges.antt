-- What steps do to one clock.
use Rattle.std.specs.Prelude.{◌≡◌, ℕ, Bool, false}
use Rattle.xk_types.specs.declared.world.Standing.{Standing}
use Rattle.xk_types.specs.World.{Clock}
use Rattle.xk_types.specs.Step.{is_signalled, resumed, passed, dropped, moved_on, joined_on, settled_clock}

-- what a step does to where its activity stands: nothing, or a resume, a pass, or the end of the registration. X10, chapter Clocks: Resuming
-- clocks, Advancing clocks, Dropping clocks.
pub data Change : Type 0 where
  Stays : Change
  Resumes : Change
  Passes : Change
  Drops : Change

abbrev pub changed : Change → Standing → Standing
changed Stays s = s
changed Resumes s = resumed s
changed Passes s = passed s
changed Drops s = dropped s

-- one that is signalled doesn't pass: it waits for the clock
abbrev pub IsPossible : Change → Standing → Type 0
IsPossible change s = change ≡ Passes → is_signalled s ≡ false

-- the clock at the end of step number `now`, in which activity a does this
abbrev pub after_change : ℕ → ℕ → Change → Clock → Clock
after_change now a change c = settled_clock now (moved_on a (changed change) c)

-- the clock at the end of step number `now`, in which activity a has started the next one, and has given it the clock or not
abbrev pub after_start : ℕ → ℕ → Bool → Clock → Clock
after_start now a given c = settled_clock now (joined_on a given c)
