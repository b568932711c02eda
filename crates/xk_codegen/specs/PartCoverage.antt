-- Names that the code of a part needs. This project's own.
use Rattle.std.specs.Prelude.{◌≡◌, ℕ, List, Some, IsSome, slice_get}
use Rattle.xk_tree.specs.Tree.{Block}
use Rattle.xk_emit.specs.CodeOf.{Setting, body_at, body_params}
use Rattle.xk_emit.specs.Unit.{names_of_params}
use Rattle.xk_emit.specs.NameCoverage.{IsUnitCovered}
use Rattle.xk_source_semantics.specs.Parts.{Part, OfMethod, OfBody}

-- the code of a part needs no more names than there are
abbrev pub IsPartCovered : Setting → Part → Type 0
IsPartCovered cx (OfMethod m) = IsUnitCovered cx (names_of_params m.params) (Block m.close m.body)
IsPartCovered cx (OfBody at cs s) = IsSome (body_at cx at) × IsUnitCovered cx (body_params cx at cs) s

-- that of each of these parts does
abbrev pub AreCovered : Setting → List Part → Type 0
AreCovered cx ps = (k : ℕ) (p : Part) → slice_get ps k ≡ Some p → IsPartCovered cx p
