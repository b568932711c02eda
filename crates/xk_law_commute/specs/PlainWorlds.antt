-- Worlds without the numbers of steps and without phases, at which no step looks.
use Rattle.std.specs.Prelude.{◌≡◌, map}
use Rattle.xk_types.specs.World.{ActivityOf, Clock, WorldOf, World}
use Rattle.xk_types.specs.Step.{OutcomeOf, Blocked, Wrong, Stepped}

-- without the step in which it passed last
abbrev pub plain_activity : {F : Type 0} → ActivityOf F → ActivityOf F
plain_activity act = record act { since = 0 }

-- without its phase, and without the step in which it advanced last
abbrev pub plain_clock : Clock → Clock
plain_clock c = record c { phase = 0; last = 0 }

-- and without how many steps were taken
abbrev pub plain : {F : Type 0} → WorldOf F → WorldOf F
plain w = record w { activities = map plain_activity w.activities; clocks = map plain_clock w.clocks; steps = 0 }

-- what a step comes to, the world after it being plain
abbrev pub plain_outcome : {F : Type 0} → OutcomeOf F → OutcomeOf F
plain_outcome Blocked = Blocked
plain_outcome (Wrong c) = Wrong c
plain_outcome (Stepped w e) = Stepped (plain w) e

-- the worlds differ in numbers of steps and in phases at most
abbrev pub AreAlike : World → World → Type 0
AreAlike w v = plain w ≡ plain v
