-- Places in a method's body, and the declarations whose scopes hold them. This project's own.
use Rattle.std.specs.Prelude.{◌≡◌, ℕ, suc, List, [], ◌∷◌, ◌++◌}
use Rattle.xk_tree.specs.Tree.{Statement, Statements, More, Block, Declare, If, IfElse, For, Async, Finish}
use Rattle.xk_names.specs.Scope.{Declaration, texts}
use Rattle.xk_names.specs.Uses.{declares, clocks_listed}

-- the way to a statement: in a list of statements to the first or to one behind it, and from a statement to itself or to one that it holds
pub data Way : Type 0 where
  Here : Way
  First : Way → Way
  Later : Way → Way
  Inside : Way → Way
  Else : Way → Way

abbrev mutual
  -- statement t stands at the end of the way
  pub Stands : Statement → Way → Statement → Type 0
  Stands s Here t = s ≡ t
  Stands (Block close ss) (Inside w) t = StandsAmong ss w t
  Stands (If at l c r s) (Inside w) t = Stands s w t
  Stands (IfElse at l c r s u) (Inside w) t = Stands s w t
  Stands (IfElse at l c r s u) (Else w) t = Stands u w t
  Stands (For at i lo hi s) (Inside w) t = Stands s w t
  Stands (Async at cs s) (Inside w) t = Stands s w t
  Stands (Finish at s) (Inside w) t = Stands s w t
  Stands _ _ t = ⊥

  pub StandsAmong : Statements → Way → Statement → Type 0
  StandsAmong (More s ss) (First w) t = Stands s w t
  StandsAmong (More s ss) (Later w) t = StandsAmong ss w t
  StandsAmong _ _ t = ⊥

-- the declarations of a statement whose scope is what stands behind it
abbrev pub behind : ℕ → Statement → List Declaration
behind n (Declare b x ty r) = declares n (Declare b x ty r)
behind n _ = []

-- The declarations whose scopes hold the place at the end of the way, in the order of the text. That of a `val` or `var` is what stands behind
-- it in its list of statements, and that of a loop's name is the loop's body.
abbrev mutual
  pub declared_at : ℕ → Statement → Way → List Declaration
  declared_at n (Block close ss) (Inside w) = declared_among n ss w
  declared_at n (If at l c r s) (Inside w) = declared_at n s w
  declared_at n (IfElse at l c r s u) (Inside w) = declared_at n s w
  declared_at n (IfElse at l c r s u) (Else w) = declared_at n u w
  declared_at n (For at i lo hi s) (Inside w) = declares n (For at i lo hi s) ++ declared_at n s w
  declared_at n (Async at cs s) (Inside w) = declared_at (suc n) s w
  declared_at n (Finish at s) (Inside w) = declared_at n s w
  declared_at n _ _ = []

  pub declared_among : ℕ → Statements → Way → List Declaration
  declared_among n (More s ss) (First w) = declared_at n s w
  declared_among n (More s ss) (Later w) = behind n s ++ declared_among n ss w
  declared_among n _ _ = []

abbrev pub Bodies : Type 0
Bodies = List (List (List ℕ))

-- the bodies of `async` that hold the place, the innermost first, where these hold the whole
abbrev mutual
  pub bodies_at : Bodies → Statement → Way → Bodies
  bodies_at bs (Block close ss) (Inside w) = bodies_among bs ss w
  bodies_at bs (If at l c r s) (Inside w) = bodies_at bs s w
  bodies_at bs (IfElse at l c r s u) (Inside w) = bodies_at bs s w
  bodies_at bs (IfElse at l c r s u) (Else w) = bodies_at bs u w
  bodies_at bs (For at i lo hi s) (Inside w) = bodies_at bs s w
  bodies_at bs (Async at cs s) (Inside w) = bodies_at (texts (clocks_listed cs) ∷ bs) s w
  bodies_at bs (Finish at s) (Inside w) = bodies_at bs s w
  bodies_at bs _ _ = bs

  pub bodies_among : Bodies → Statements → Way → Bodies
  bodies_among bs (More s ss) (First w) = bodies_at bs s w
  bodies_among bs (More s ss) (Later w) = bodies_among bs ss w
  bodies_among bs _ _ = bs
