-- A rule on module texts has the title that its fault has as a label.
use Rattle.std.proofs.Common.{◌≡◌, refl}
use Rattle.std.specs.Fmt.{digits}
use Rattle.std.specs.Option.{option_map}
use Rattle.xk_module.specs.declared.fault.ModuleFault.{ModuleFault}
use Rattle.xk_module.specs.declared.fault.ModuleFault.TheVariants as fault
use Rattle.xk_module.specs.Faults.{fault_label}
use Rattle.xk_explain.specs.Messages.{module_rule}
use Rattle.xk_explain.specs.Explanations.{module_title}

pub titled : (f : ModuleFault) → option_map module_title (module_rule f) ≡ fault_label f
unfolding digits
titled fault.NotJson = refl
titled fault.NotAModule = refl
titled fault.Limit = refl
titled fault.OutOfMemory = refl
