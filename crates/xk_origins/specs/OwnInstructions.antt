-- Which instructions a statement has of its own, whatever statements stand in it. This project's own.
use Rattle.std.specs.Prelude.{◌≡◌, Bool, true, false, ◌&&◌, ◌||◌, List, [], ◌∷◌}
use Rattle.xk_types.specs.declared.instr.Instr.{Instr}
use Rattle.xk_types.specs.declared.instr.Instr.TheVariants as instr
use Rattle.xk_tree.specs.Tree.{Make, Value, Statement, Declare, Assign, Atomic, If, IfElse, For, Async, Finish, Call, Resume, Drop, AdvanceAll, Print}
use Rattle.xk_origins.specs.Origin.{Origin, Does, Ends, Leaves}

-- the instruction reckons an expression
abbrev pub reckons : Instr → Bool
reckons (instr.Lit d n) = true
reckons (instr.Add d a b) = true
reckons (instr.Sub d a b) = true
reckons (instr.Mul d a b) = true
reckons _ = false

-- the statement uses expressions
abbrev pub uses : Statement → Bool
uses (Declare b x ty (Value e)) = true
uses (Assign x e) = true
uses (Atomic x y at e) = true
uses (If at l op r s) = true
uses (IfElse at l op r s u) = true
uses (For at i lo b s) = true
uses (Call f at es) = true
uses (Print at v e) = true
uses _ = false

-- the instruction does the statement, or copies a number for it
abbrev pub does : Statement → Instr → Bool
does (Declare b x ty (Make at v)) (instr.Make d) = true
does (Declare b x ty (Value e)) (instr.Copy d a) = true
does (Declare b x ty (Value e)) (instr.Get d s) = true
does (Assign x e) (instr.Copy d a) = true
does (Assign x e) (instr.Get d s) = true
does (Assign x e) (instr.Put s a) = true
does (Atomic x y at e) (instr.AddTo s a) = true
does (If at l op r s) (instr.Unless c a b t) = true
does (IfElse at l op r s u) (instr.Unless c a b t) = true
does (For at i lo b s) (instr.Copy d a) = true
does (For at i lo b s) (instr.For k first last e) = true
does (For at i lo b s) (instr.ForTo k first x last e) = true
does (Async at cs s) (instr.Spawn u xs) = true
does (Finish at s) (instr.Finish e) = true
does (Call f at es) (instr.Call u xs) = true
does (Resume c v) (instr.Resume d) = true
does (Drop c v) (instr.Drop d) = true
does (AdvanceAll at v) instr.Advance = true
does (Print at v e) (instr.Print a) = true
does _ _ = false

-- the instruction ends the statement, or a turn of it, or jumps over its `else`
abbrev pub ends : Statement → Instr → Bool
ends (IfElse at l op r s u) (instr.Jump t) = true
ends (For at i lo b s) (instr.Next f) = true
ends (Finish at s) (instr.EndFinish f) = true
ends _ _ = false

abbrev pub leaves : Instr → Bool
leaves instr.Ret = true
leaves _ = false

-- the instruction is one of this origin
abbrev pub is_of : Origin → Instr → Bool
is_of (Does s) i = (uses s && reckons i) || does s i
is_of (Ends s) i = ends s i
is_of (Leaves p) i = leaves i

-- instruction by instruction
abbrev pub AreOf : List Origin → List Instr → Type 0
AreOf [] [] = Unit {0}
AreOf (o ∷ os) (i ∷ is) = (is_of o i ≡ true) × AreOf os is
AreOf _ _ = ⊥
