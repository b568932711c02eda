-- What the code of a statement leads to: the methods that it calls, and the bodies of `async` in it. A loop without a turn has no code, and
-- what stands in it isn't reached. This project's own.
use Rattle.std.specs.Prelude.{◌≡◌, ℕ, int_le, List, [], ◌∷◌, ◌++◌, Option, Some, is_some, if◌then◌else◌}
use Rattle.xk_tree.specs.Tree.{Word, Clocks, Statement, Block, If, IfElse, For, top, Async, Finish, Call, Statements, Done, More, MethodValue, TreeValue}
use Rattle.xk_names.specs.Scope.{find, has, Has}
use Rattle.xk_names.specs.Uses.{Signatures, signatures}
use Rattle.xk_names.specs.Captures.{captures, shared_texts}
use Rattle.xk_emit.specs.CodeOf.{Setting, Body, body_at}
use Rattle.xk_emit.specs.NameCoverage.{IsFound}

-- an `async`: the offset of that word, the clocks that it lists, and its body
pub record AsyncBody : Type 0 where
  pub at : ℕ
  pub clocks : Option Clocks
  pub body : Statement

-- the bodies of `async` in a statement, in the order of the text, those within bodies behind the ones that hold them
abbrev mutual
  pub bodies_in : Statement → List AsyncBody
  bodies_in (Block close ss) = bodies_in_all ss
  bodies_in (If at l op r s) = bodies_in s
  bodies_in (IfElse at l op r s u) = bodies_in s ++ bodies_in u
  bodies_in (For at i lo b s) = if int_le lo.value (top b) then bodies_in s else []
  bodies_in (Async at cs s) = record { at = at; clocks = cs; body = s } ∷ bodies_in s
  bodies_in (Finish at s) = bodies_in s
  bodies_in _ = []

  pub bodies_in_all : Statements → List AsyncBody
  bodies_in_all Done = []
  bodies_in_all (More s ss) = bodies_in s ++ bodies_in_all ss

-- the names that its calls have, those in bodies of `async` included
abbrev mutual
  pub calls_in : Statement → List Word
  calls_in (Block close ss) = calls_in_all ss
  calls_in (If at l op r s) = calls_in s
  calls_in (IfElse at l op r s u) = calls_in s ++ calls_in u
  calls_in (For at i lo b s) = if int_le lo.value (top b) then calls_in s else []
  calls_in (Async at cs s) = calls_in s
  calls_in (Finish at s) = calls_in s
  calls_in (Call f at es) = f ∷ []
  calls_in _ = []

  pub calls_in_all : Statements → List Word
  calls_in_all Done = []
  calls_in_all (More s ss) = calls_in s ++ calls_in_all ss

-- ---- a setting that has all of that

-- the setting has an entry for the body, with the numbers that it takes from outside
pub record IsSettled (cx : Setting) (ms : Signatures) (shared : List (List ℕ)) (b : AsyncBody) : Type 0 where
  pub entry : Body
  pub there : body_at cx b.at ≡ Some entry
  pub captures : entry.captures ≡ captures ms shared b.body

-- the shared numbers of the setting are the tree's, and it has what the method's code leads to
pub record IsSettingFor (cx : Setting) (t : TreeValue) (m : MethodValue) : Type 0 where
  pub shared : (x : List ℕ) → is_some (find cx.shared x) ≡ has (shared_texts t.shared) x
  pub methods : (f : Word) → Has (calls_in_all m.body) f → IsFound cx.methods f.text
  pub bodies : (b : AsyncBody) → Has (bodies_in_all m.body) b → IsSettled cx (signatures t.methods) (shared_texts t.shared) b
