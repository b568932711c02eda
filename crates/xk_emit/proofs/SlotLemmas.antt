-- The slots that code uses.
use Rattle.std.proofs.Common.{◌≡◌, ℕ, max, List, [], ◌∷◌, ap, ◌∙◌, arith}
use Rattle.xk_types.specs.declared.instr.Instr.{Instr}
use Rattle.xk_emit.specs.Unit.{slots_used, written_slots}

-- an instruction's slots may be counted first
pub used_first : (t n : ℕ) (code : List Instr) → slots_used (max t n) code ≡ max n (slots_used t code)
used_first t n [] = omega arith
used_first t n (i ∷ is) = ap (max (written_slots i)) (used_first t n is) ∙ omega arith
