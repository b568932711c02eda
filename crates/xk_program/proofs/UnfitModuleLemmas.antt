-- Why a module's text gives no module.
use Rattle.std.proofs.Common.{◌≡◌, ◌≤◌, ℕ, List, length, Result, Ok, Err, IfErr, inr, refl}
use Rattle.xk_types.specs.declared.unit.Module.{Module}
use Rattle.xk_module.specs.declared.fault.ModuleFault.{ModuleFault}
use Rattle.xk_module.specs.declared.fault.ModuleFault.TheVariants as text
use Rattle.xk_jobs.specs.declared.job.Form.{Form}
use Rattle.xk_jobs.specs.declared.job.Form.TheVariants as form
use Rattle.xk_program.specs.Faults.{GivesNoModule, of_text}
use Rattle.xk_program.specs.Programs.{IsUnfitModule, IsUnread, longest_module}

-- what the reader says of a text that isn't too long
pub unread : (bytes : List ℕ) (r : Result Module ModuleFault) → length bytes ≤ longest_module → (r ≡ Err text.NotJson → IsUnread bytes text.NotJson)
    → (r ≡ Err text.NotAModule → IsUnread bytes text.NotAModule) → (r ≡ Err text.Limit → IsUnread bytes text.Limit) → IfErr r (IsUnfitModule bytes)
unread bytes (Ok m) short json no_module limit = tt
unread bytes (Err text.NotJson) short json no_module limit = inr (short, json refl)
unread bytes (Err text.NotAModule) short json no_module limit = inr (short, no_module refl)
unread bytes (Err text.Limit) short json no_module limit = inr (short, limit refl)
unread bytes (Err text.OutOfMemory) short json no_module limit = tt

-- what the reader says against a module's text
pub no_module : (kind : Form) (bytes : List ℕ) (f : ModuleFault) → kind ≡ form.Module → IsUnfitModule bytes f → GivesNoModule kind bytes (of_text f)
no_module kind bytes text.NotJson is h = (is, h)
no_module kind bytes text.NotAModule is h = (is, h)
no_module kind bytes text.Limit is h = (is, h)
no_module kind bytes text.OutOfMemory is h = tt
