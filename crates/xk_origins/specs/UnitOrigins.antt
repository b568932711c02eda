-- Where each instruction of a unit comes from, and what its slots are called. This project's own.
use Rattle.std.specs.Prelude.{ℕ, List, [], ◌∷◌, ◌++◌, map, Some, None}
use Rattle.xk_types.specs.declared.unit.UnitKind.TheVariants as unit_kind
use Rattle.xk_unit_origins.specs.UnitOrigins.{Head, UnitOrigins}
use Rattle.xk_tree.specs.Tree.{Statement, Statements, Done, More, Block, Declare, If, IfElse, For, Finish, TreeValue}
use Rattle.xk_names.specs.Scope.{texts}
use Rattle.xk_names.specs.Uses.{clocks_listed}
use Rattle.xk_names.specs.Captures.{loop_words, shared_texts}
use Rattle.xk_emit.specs.Unit.{names_of_params}
use Rattle.xk_source_semantics.specs.Parts.{Part, OfMethod, OfBody}
use Rattle.xk_source_semantics.specs.Compilation.{method_kind, taken}
use Rattle.xk_origins.specs.Origin.{offset_of, part_origins}

-- ---- slots

abbrev mutual
  -- The names of a statement, each of which has a slot of its own: as `count` of xk_emit counts them, in the order of the text. A hidden clock's, and
  -- that of a loop's limit, consist of spaces.
  pub names : Statement → List (List ℕ)
  names (Block close ss) = names_all ss
  names (Declare b x ty r) = x.text ∷ []
  names (If at l op r s) = names s
  names (IfElse at l op r s u) = names s ++ names u
  names (For at i lo b s) = texts (loop_words i b) ++ names s
  names (Finish at s) = names s
  names _ = []

  pub names_all : Statements → List (List ℕ)
  names_all Done = []
  names_all (More s ss) = names s ++ names_all ss

-- the names of a part's parameters: of a method as they are written; of a body its clocks, and then the numbers that it takes from outside
abbrev pub params : TreeValue → Part → List (List ℕ)
params t (OfMethod m) = names_of_params m.params
params t (OfBody at cs s) = texts (clocks_listed cs) ++ taken t s

abbrev pub part_names : Part → List (List ℕ)
part_names (OfMethod m) = names_all m.body
part_names (OfBody at cs s) = names s

-- the names of a part's slots; those behind these are temporaries
abbrev pub slot_names : TreeValue → Part → List (List ℕ)
slot_names t p = params t p ++ part_names p

-- ---- units

-- of a method, its name; of a body, the word `async`
abbrev pub head_of : Part → Head
head_of (OfMethod m) = record { at = m.name.at; kind = method_kind m; name = Some m.name.text }
head_of (OfBody at cs s) = record { at = at; kind = unit_kind.Body; name = None }

abbrev pub unit_origins : TreeValue → Part → UnitOrigins
unit_origins t p = record { head = head_of p; offsets = map offset_of (part_origins (shared_texts t.shared) p); slots = slot_names t p }
