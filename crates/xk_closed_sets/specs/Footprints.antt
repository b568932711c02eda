-- What may still be carried out in a module, by two tables, as clauses see it.
use Rattle.std.specs.Prelude.{Bool, true, false, List}
use Rattle.xk_types.specs.Code.{ModuleValue}
use Rattle.xk_closed.specs.Footprints.{Table, IsRest, IsPhase}
use Rattle.xk_closed_sets.specs.declared.places.Reach.{Reach}
use Rattle.xk_closed_sets.specs.Places.{rest_in, phase_in}

-- a module, what is kept for each place of each unit, and whether that is known to have it all
pub record FootprintsValue : Type 0 where
  pub module_run : ModuleValue
  pub known : Bool
  pub rows : List (List Reach)

-- the table that has everything
abbrev pub everything : Table
everything u p j = true

-- the table by what is kept, if that is known to have it all
abbrev pub known_or_all : Bool → Table → Table
known_or_all true table = table
known_or_all false table = everything

-- from each place on what may be carried out, and that before the next pass of an `advance`
abbrev pub rest_of : FootprintsValue → Table
rest_of f = known_or_all f.known (rest_in f.rows)

abbrev pub phase_of : FootprintsValue → Table
phase_of f = known_or_all f.known (phase_in f.rows)

-- the tables have all that may be carried out
pub record AreFootprints (m : ModuleValue) (rest phase : Table) : Type 0 where
  pub all : IsRest m rest
  pub now : IsPhase m rest phase
