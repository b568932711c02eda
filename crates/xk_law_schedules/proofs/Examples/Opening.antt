-- What rows begin with.
use Rattle.std.proofs.Common.{[]}
use Rattle.xk_types.specs.Code.{ModuleValue}
use Rattle.xk_types.specs.World.{World, opening}

-- the opening world of a module whose main takes nothing
abbrev pub fresh : ModuleValue → World
fresh m = opening m []
