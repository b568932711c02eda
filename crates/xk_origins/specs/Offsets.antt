-- The offsets of origins, as the code lists them: each is that of an origin, in the same order. This project's own.
use Rattle.std.specs.Prelude.{ℕ, List, [], ◌∷◌, ◌++◌, if◌then◌else◌}
use Rattle.xk_tree.specs.Tree.{has_turns, Statement, Statements, Done, More, Block, If, IfElse, For, Finish}
use Rattle.xk_source_semantics.specs.Parts.{Part, OfMethod, OfBody}
use Rattle.xk_origins.specs.Origin.{closed, own, place_of}

abbrev mutual
  pub offsets : List (List ℕ) → Statement → List ℕ
  offsets shared (Block close ss) = offsets_all shared ss
  offsets shared (If at l op r s) = own shared at (If at l op r s) ++ offsets shared s
  offsets shared (IfElse at l op r s u) = own shared at (IfElse at l op r s u) ++ (offsets shared s ++ at ∷ offsets shared u)
  offsets shared (For at i lo b s) =
      if has_turns lo b then own shared at (For at i lo b s) ++ (offsets shared s ++ closed at s ∷ []) else []
  offsets shared (Finish at s) = at ∷ (offsets shared s ++ closed at s ∷ [])
  offsets shared s = own shared (place_of s) s

  pub offsets_all : List (List ℕ) → Statements → List ℕ
  offsets_all shared Done = []
  offsets_all shared (More s ss) = offsets shared s ++ offsets_all shared ss

abbrev pub part_offsets : List (List ℕ) → Part → List ℕ
part_offsets shared (OfMethod m) = offsets_all shared m.body ++ m.close ∷ []
part_offsets shared (OfBody at cs s) = offsets shared s ++ closed at s ∷ []
