-- Shared numbers that code names: those that the setting knows.
use Rattle.std.proofs.Common.{◌≡◌, ℕ, ◌+◌, ◌<◌, true, false, not, List, Option, Some, None, unwrap_or, refl, arith}
use Rattle.std.specs.Prelude.{is_some, nat_lt}
use Rattle.std.specs.Option.{option_map_or}
use Rattle.std.proofs.lemmas.Bool.{false≢true}
use Rattle.std.proofs.lemmas.Bool.Decides.{nat_tests}
use Rattle.xk_types.specs.declared.instr.Instr.{Instr}
use Rattle.xk_types.specs.Shape.{cell_named}
use Rattle.xk_tree.specs.Tree.{Statement, Block, Atomic, If, IfElse, For, Finish, Statements, Done, More}
use Rattle.xk_names.specs.Scope.{find}
use Rattle.xk_emit.specs.CodeOf.{Setting, Scope, loop_slots, within_loop, count, declared}
use Rattle.xk_emit.specs.NameCoverage.{IsFound, IsCovered, AreCovered}
use Rattle.xk_emit.proofs.ShapeLemmas.InstructionLemmas.{EachInside, EachOf, Leaves}

-- each number that the setting has for a shared number is below k
abbrev pub SharedBelow : Setting → ℕ → Type 0
SharedBelow cx k = (x : List ℕ) (s : ℕ) → find cx.shared x ≡ Some s → s < k

-- the instruction names no shared number beyond k
abbrev pub CellBelow : ℕ → Instr → Type 0
CellBelow k i = option_map_or (λ s. not (nat_lt s k)) (cell_named i) false ≡ false

-- what is added to is a shared number
abbrev pub AddsToShared : Setting → Statement → Type 0
AddsToShared cx (Atomic x y at e) = IsFound cx.shared x.text
AddsToShared cx _ = Unit {0}

cell_within : (k s : ℕ) → s < k → not (nat_lt s k) ≡ false
cell_within k s h = grind (arith, nat_tests)

number_within : (cx : Setting) (k : ℕ) (x : List ℕ) → SharedBelow cx k → IsFound cx.shared x → not (nat_lt (unwrap_or (find cx.shared x) 0) k) ≡ false
number_within cx k x below found = go (find cx.shared x) refl found
  where
    go : (o : Option ℕ) → find cx.shared x ≡ o → is_some o ≡ true → not (nat_lt (unwrap_or o 0) k) ≡ false
    go None e h = absurd (false≢true h)
    go (Some s) e h = cell_within k s (below x s e)

pub cell_leaves : (cx : Setting) (k : ℕ) → SharedBelow cx k → Leaves cx (AddsToShared cx) (CellBelow k)
cell_leaves cx k below = record {
  lit = λ d n. refl;
  copy = λ d x. refl;
  add = λ d x y. refl;
  sub = λ d x y. refl;
  mul = λ d x y. refl;
  get = λ x d s h. cell_within k s (below x s h);
  put = λ x s a h. cell_within k s (below x s h);
  add_to = λ x y at e h a. number_within cx k x.text below h;
  print = λ x. refl;
  make = λ b x ty at v h d. refl;
  resume = λ c. refl;
  drop = λ c v h k. refl;
  advance = refl;
  call = λ f at es args h e. refl;
  spawn = λ at cs q args h e. refl;
}

mutual
  pub adds_to_shared : (cx : Setting) (scope : Scope) (n : ℕ) (s : Statement) → IsCovered cx scope n s → EachInside (AddsToShared cx) s
  adds_to_shared cx scope n (Block close ss) c = all_add_to_shared cx scope n ss c
  adds_to_shared cx scope n (Atomic x y at e) c = c.0
  adds_to_shared cx scope n (If at l op r s) c = adds_to_shared cx scope n s c.2
  adds_to_shared cx scope n (IfElse at l op r s u) c = (adds_to_shared cx scope n s c.2, adds_to_shared cx scope (n + count s) u c.3)
  adds_to_shared cx scope n (For at i lo b s) c = λ turns. adds_to_shared cx (within_loop scope n i b) (n + loop_slots b) s (c turns).2
  adds_to_shared cx scope n (Finish at s) c = adds_to_shared cx scope n s c
  adds_to_shared cx scope n _ c = tt

  all_add_to_shared : (cx : Setting) (scope : Scope) (n : ℕ) (ss : Statements) → AreCovered cx scope n ss → EachOf (AddsToShared cx) ss
  all_add_to_shared cx scope n Done c = tt
  all_add_to_shared cx scope n (More s ss) c = (adds_to_shared cx scope n s c.0, all_add_to_shared cx (declared scope n s) (n + count s) ss c.1)
