-- What a fault prints. This project's own.
use Rattle.std.specs.Prelude.{ℕ, List, codes, Option, Some, None}
use Rattle.xk_module.specs.declared.fault.Refusal.{Refusal}
use Rattle.xk_module.specs.declared.fault.Refusal.TheVariants as refusal
use Rattle.xk_module.specs.declared.fault.ModuleFault.{ModuleFault}
use Rattle.xk_module.specs.declared.fault.ModuleFault.TheVariants as fault

-- the number and the name that a refusal prints
abbrev pub fault_label : ModuleFault → Option (List ℕ)
fault_label fault.NotJson = Some (codes "M1 NotJson")
fault_label fault.NotAModule = Some (codes "M2 NotAModule")
fault_label fault.Limit = Some (codes "M3 Limit")
fault_label fault.OutOfMemory = None

-- the fault of a whole text, where a part of its value was refused
abbrev pub fault_of : Refusal → ModuleFault
fault_of refusal.Unfit = fault.NotAModule
fault_of refusal.Memory = fault.OutOfMemory
