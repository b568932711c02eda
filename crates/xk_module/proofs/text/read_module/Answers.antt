use Rattle.std.proofs.Common.{subst, sym}
use Rattle.std.proofs.lemmas.Result.{err_from_is_err_and}
use Rattle.serde_json.specs.View.{view}
use Rattle.xk_types.specs.Code.{module_of}
use Rattle.xk_module.specs.ModuleText.{IsModuleText}
use Rattle.xk_module.proofs.TextLemmas.{refused, not_empty, is_named, is_err}
use Rattle.xk_module.proofs.text.read_module.Goals as goal

pub returns-in_err-shared-clause-not_a_module : goal.returns-in_err-shared-clause-not_a_module
returns-in_err-shared-clause-not_a_module c =
    let r = err_from_is_err_and c.from_residual-in_err-shared.result c.from_residual-in_err-shared.ensures.1 in
    λ e. refused c.in_err-shared.field-0.0 c.args.bytes.now (view c.in_ok-value.value) c.in_ok-value.ensures.read c.in_err-shared.ensures cc

pub returns-in_err-shared-clause-memory : goal.returns-in_err-shared-clause-memory
returns-in_err-shared-clause-memory c = λ _. not_empty c.args.bytes.now (view c.in_ok-value.value) c.in_ok-value.ensures.read

pub returns-in-Ok-clause-read : goal.returns-in-Ok-clause-read
returns-in-Ok-clause-read c =
    let made = module_of c.in_ok-shared.shared.items c.in_ok-shared.units.items in
    let named = is_named c.args.bytes.now (view c.in_ok-value.value) made c.in_ok-value.ensures.read c.in_ok-shared.ensures in
    subst (IsModuleText c.args.bytes.now) (sym c.in-Ok.ensures.made) named

pub returns-clause-beyond_limits : goal.returns-clause-beyond_limits
returns-clause-beyond_limits c =
    let made = module_of c.in_ok-shared.shared.items c.in_ok-shared.units.items in
    let named = is_named c.args.bytes.now (view c.in_ok-value.value) made c.in_ok-value.ensures.read c.in_ok-shared.ensures in
    λ _. (made, named, λ fits. is_err c.new.result c.in-Err.field-0 c.in-Err.is (c.new.ensures.limits.1 fits))
