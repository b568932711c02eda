-- What the laws say of texts.
use Rattle.std.proofs.Common.{◌≡◌, ℕ, ◌<◌, List, [], ◌∷◌, length, Some, None, Result, Ok, Err, IsOk, refl, sym, ◌∙◌, subst, arith}
use Rattle.serde_json.specs.Data.{Data}
use Rattle.serde_json.specs.Read.{read}
use Rattle.serde_json.proofs.OnLiterals.{serde_json_on_literals}
use Rattle.xk_types.specs.Code.{ModuleValue}
use Rattle.xk_module.specs.Faults.{fault_of}
use Rattle.xk_module.specs.ModuleText.{Names, IsText, IsJson, IsModuleText}
use Rattle.xk_module.specs.ModuleReader.{Refuses, module_at}
use Rattle.xk_module.specs.declared.fault.Refusal.{Refusal}
use Rattle.xk_module.specs.declared.fault.Refusal.TheVariants as refusal
use Rattle.xk_module.specs.declared.fault.ModuleFault.TheVariants as fault
use Rattle.xk_module.proofs.ModuleLemmas.{module_takes, module_again, named_once}

-- a text has one value
one_value : (bytes : List ℕ) (d e : Data) → IsText bytes d → IsText bytes e → d ≡ e
one_value bytes d e p q = let same : Some d ≡ Some e = sym p.value ∙ q.value in cc

pub one_module : (bytes : List ℕ) (m n : ModuleValue) → IsModuleText bytes m → IsModuleText bytes n → m ≡ n
one_module bytes m n p q = named_once q.0 m n (subst (λ (d : Data). Names d m) (one_value bytes p.0 q.0 p.1 q.1) p.2) q.2

pub is_named : (bytes : List ℕ) (d : Data) (m : ModuleValue) → IsText bytes d → module_at d ≡ Some m → IsModuleText bytes m
is_named bytes d m text e = (d, text, module_takes d m e)

-- where the value names nothing, no module has the text
not_named : (bytes : List ℕ) (d : Data) → IsText bytes d → module_at d ≡ None → (m : ModuleValue) → IsModuleText bytes m → ⊥
not_named bytes d text e m q =
    let named : module_at d ≡ Some m = module_again d m (subst (λ (d : Data). Names d m) (one_value bytes q.0 d q.1 text) q.2) in
    absurd cc

empty_read : read [] ≡ None
unfolding serde_json_on_literals
empty_read = refl

-- a text isn't empty
pub not_empty : (bytes : List ℕ) (d : Data) → IsText bytes d → 0 < length bytes
not_empty [] d text = let e : None ≡ Some d = sym empty_read ∙ text.value in absurd cc
not_empty (b ∷ bytes) d text = omega arith

-- the fault of a text whose value was refused
pub refused : (r : Refusal) (bytes : List ℕ) (d : Data) → IsText bytes d → Refuses r (module_at d)
    → fault_of r ≡ fault.NotAModule → IsJson bytes × ((m : ModuleValue) → IsModuleText bytes m → ⊥)
refused refusal.Unfit bytes d text none e = ((d, text), not_named bytes d text none)
refused refusal.Memory bytes d text none e = absurd cc

-- an `Err` is no `Ok`
pub is_err : {T E : Type 0} (r : Result T E) (e : E) → r ≡ Err e → IsOk r → ⊥
is_err (Ok x) e same ok = absurd cc
is_err (Err x) e same ok = absurd cc
