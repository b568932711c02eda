-- What the code's parts are, and where a part stands. This project's own.
use Rattle.std.specs.Prelude.{ℕ, option_map}
use Rattle.xk_tree.specs.Tree.{method_value, clock_list, statement}
use Rattle.xk_numbering.specs.declared.parts.Part as declared
use Rattle.xk_numbering.specs.declared.parts.Part.TheVariants as variant
use Rattle.xk_source_semantics.specs.Parts.{Part, OfMethod, OfBody}

abbrev pub part : declared.Part → Part
part (variant.Method m) = OfMethod (method_value m.now)
part (variant.Body at cs s) = OfBody at (option_map clock_list cs.now) (statement s.now)

-- where a part stands: the name of a method, or the `async` of a body
abbrev pub offset : Part → ℕ
offset (OfMethod m) = m.name.at
offset (OfBody at cs s) = at
