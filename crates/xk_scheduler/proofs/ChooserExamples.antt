-- Worked rows: schedules that follow a chooser, by evaluation.
use Rattle.std.proofs.Common.{◌≡◌, ℕ, pos, [], ◌∷◌, refl}
use Rattle.xk_types.specs.declared.instr.Instr.TheVariants as instr
use Rattle.xk_types.specs.declared.unit.UnitKind.TheVariants as unit_kind
use Rattle.xk_types.specs.declared.unit.ParamKind.TheVariants as param
use Rattle.xk_types.specs.Code.{ModuleValue}
use Rattle.xk_types.specs.World.{opening}
use Rattle.xk_types.specs.Schedule.{printed}
use Rattle.xk_scheduler.specs.Choosers.{Follows}

-- two activities wait for one another on a clock, and print
abbrev pair : ModuleValue
pair = record {
  shared = [];
  units =
      record { kind = unit_kind.Main; params = []; slots = 2; code = instr.Make 0 ∷ instr.Spawn 1 (0 ∷ []) ∷ instr.Advance ∷ instr.Lit 1 (pos 1) ∷ instr.Print 1 ∷ instr.Ret ∷ [] }
      ∷ record { kind = unit_kind.Body; params = param.Clock ∷ []; slots = 2; code = instr.Advance ∷ instr.Lit 1 (pos 2) ∷ instr.Print 1 ∷ instr.Ret ∷ [] } ∷ [];
}

-- the least enabled one, at each step
first : Follows {S = ℕ} (λ s list. 0) (λ s list. s) pair 0 (opening pair []) (0 ∷ 0 ∷ 0 ∷ 1 ∷ 0 ∷ 0 ∷ 0 ∷ 0 ∷ 1 ∷ 1 ∷ 1 ∷ 1 ∷ [])
first = (refl, (refl, (refl, (refl, (refl, (refl, (refl, (refl, (refl, (refl, (refl, (refl, tt))))))))))))

-- whoever answers a great number chooses by what is left of it, counted round the list: here the last of two
great : Follows {S = ℕ} (λ s list. 4294967295) (λ s list. s) pair 0 (opening pair []) (0 ∷ 0 ∷ 1 ∷ 0 ∷ 1 ∷ 1 ∷ 1 ∷ 1 ∷ 0 ∷ 0 ∷ 0 ∷ 0 ∷ [])
great = (refl, (refl, (refl, (refl, (refl, (refl, (refl, (refl, (refl, (refl, (refl, (refl, tt))))))))))))

great_prints : printed pair (0 ∷ 0 ∷ 1 ∷ 0 ∷ 1 ∷ 1 ∷ 1 ∷ 1 ∷ 0 ∷ 0 ∷ 0 ∷ 0 ∷ []) (opening pair []) ≡ pos 2 ∷ pos 1 ∷ []
great_prints = refl
