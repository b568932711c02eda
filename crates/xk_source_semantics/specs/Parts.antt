-- The parts of a program that have code of their own: methods, and the bodies of `async`. This project's own.
use Rattle.std.specs.Prelude.{ℕ, suc, nat_eq, int_le, List, [], ◌∷◌, ◌++◌, Option, Some, None, codes, if◌then◌else◌}
use Rattle.std.specs.List.{flat_map}
use Rattle.xk_tree.specs.Tree.{Word, Clocks, Statement, Statements, Done, More, Block, If, IfElse, For, top, Async, Finish, Call, MethodValue, TreeValue}
use Rattle.xk_names.specs.Scope.{is_text}

-- a method; or the body of an `async`, by the offset of that word, with the clocks that it lists
pub data Part : Type 0 where
  OfMethod : MethodValue → Part
  OfBody : ℕ → Option Clocks → Statement → Part

-- the bodies of `async` in a statement, in the order of the text
abbrev mutual
  pub bodies : Statement → List Part
  bodies (Block close ss) = bodies_all ss
  bodies (If at l c r s) = bodies s
  bodies (IfElse at l c r s u) = bodies s ++ bodies u
  bodies (For at i lo b s) = bodies s
  bodies (Async at cs s) = OfBody at cs s ∷ bodies s
  bodies (Finish at s) = bodies s
  bodies _ = []

  pub bodies_all : Statements → List Part
  bodies_all Done = []
  bodies_all (More s ss) = bodies s ++ bodies_all ss

-- a method, and the bodies in it
abbrev pub method_parts : MethodValue → List Part
method_parts m = OfMethod m ∷ bodies_all m.body

-- the parts of a program, in the order of the text
abbrev pub parts : TreeValue → List Part
parts t = flat_map method_parts t.methods

-- ---- what the code of a part runs

-- a method that is called, by its name, or a body that is started, by the offset of its `async`
pub data Run : Type 0 where
  Calls : Word → Run
  Starts : ℕ → Run

-- what a statement's code runs: nothing for a loop without a turn, and nothing of what the bodies in it run
abbrev mutual
  pub runs : Statement → List Run
  runs (Block close ss) = runs_all ss
  runs (If at l c r s) = runs s
  runs (IfElse at l c r s u) = runs s ++ runs u
  runs (For at i lo b s) = if int_le lo.value (top b) then runs s else []
  runs (Async at cs s) = Starts at ∷ []
  runs (Finish at s) = runs s
  runs (Call g at es) = Calls g ∷ []
  runs _ = []

  pub runs_all : Statements → List Run
  runs_all Done = []
  runs_all (More s ss) = runs s ++ runs_all ss

abbrev pub part_runs : Part → List Run
part_runs (OfMethod m) = runs_all m.body
part_runs (OfBody at cs s) = runs s

-- ---- where a part stands among some, the first of which has number i

-- the first method of the name
abbrev pub method_among : ℕ → List Part → List ℕ → Option ℕ
method_among i [] x = None
method_among i (OfMethod m ∷ ps) x = if is_text x m.name.text then Some i else method_among (suc i) ps x
method_among i (OfBody at cs s ∷ ps) x = method_among (suc i) ps x

-- the first body whose `async` stands there
abbrev pub body_among : ℕ → List Part → ℕ → Option ℕ
body_among i [] at = None
body_among i (OfMethod m ∷ ps) at = body_among (suc i) ps at
body_among i (OfBody a cs s ∷ ps) at = if nat_eq at a then Some i else body_among (suc i) ps at

-- what is run
abbrev pub place_of : List Part → Run → Option ℕ
place_of ps (Calls g) = method_among 0 ps g.text
place_of ps (Starts at) = body_among 0 ps at

-- the call of `main` with which a run begins
abbrev pub opening : Run
opening = Calls (record { at = 0; text = codes "main" })
