-- Why a module isn't run: the verifier refuses it, or its main takes another number of arguments than it is given. This project's own.
use Rattle.std.specs.Prelude.{◌≡◌, ℕ, ⊤, ℤ, List, length}
use Rattle.xk_types.specs.Code.{ModuleValue, params_of}
use Rattle.xk_types.specs.World.{AreArguments}
use Rattle.xk_types.specs.Acceptance.{IsAccepted}
use Rattle.xk_bounds.specs.Refusals.{Refuses}
use Rattle.xk_bounds.specs.declared.refusal.Refusal.TheVariants as refusal
use Rattle.xk_program.specs.declared.fault.Fault.{Fault}
use Rattle.xk_program.specs.declared.fault.Fault.TheVariants as fault

-- the verifier refuses the module; or memory was wanting, of which nothing is claimed
abbrev pub IsRefusal : ModuleValue → Fault → Type 0
IsRefusal m (fault.Refused refusal.OutOfMemory) = ⊥
IsRefusal m (fault.Refused r) = Refuses m r
IsRefusal m fault.OutOfMemory = ⊤
IsRefusal m _ = ⊥

-- A1: main takes so many numbers, and is given so many others
pub record IsMisfit (m : ModuleValue) (args : List ℤ) (wants has : ℕ) : Type 0 where
  pub wants_are : wants ≡ length (params_of m 0)
  pub has_are : has ≡ length args
  pub misfit : ¬ AreArguments m args

-- the module isn't run with these arguments: it is refused, or it is accepted and its main takes more or fewer
abbrev pub IsNotRun : ModuleValue → List ℤ → Fault → Type 0
IsNotRun m args (fault.Arguments wants has) = IsAccepted m × IsMisfit m args wants has
IsNotRun m args f = IsRefusal m f
