-- The values of operands, as an instruction is written. This project's own.
use Rattle.serde_json.specs.Data.{Data, string}
use Rattle.xk_module.specs.ModuleText.{long, word, comparison_name}
use Rattle.xk_module.specs.declared.writing.Operand.{Operand}
use Rattle.xk_module.specs.declared.writing.Operand.TheVariants as operand

-- the value of an operand
abbrev pub operand_value : Operand → Data
operand_value (operand.Word n) = word n
operand_value (operand.Long z) = long z
operand_value (operand.Comparison op) = string (comparison_name op)
