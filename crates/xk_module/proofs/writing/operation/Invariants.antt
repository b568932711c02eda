use Rattle.std.proofs.Common.{◌≡◌, ◌++◌, ◌∷◌, map, drop}
use Rattle.serde_json.specs.Data.{string}
use Rattle.xk_module.specs.Operands.{operand_value}
use Rattle.xk_module.specs.ModuleReader.{views}
use Rattle.xk_module.proofs.writing.operation.Given as goal

-- the values so far and those of what is left are those of all
abbrev pub invariant-loop-operand : goal.invariant-loop-operand
invariant-loop-operand l = views l.values.items ++ map operand_value (drop l.operand-index l.operands) ≡ string l.name ∷ map operand_value l.operands
