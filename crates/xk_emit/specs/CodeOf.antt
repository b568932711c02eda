-- The code of statements.
--
-- How statements become instructions is this project's own choice. What the statements mean is told in the X10 Language Specification 2.4,
-- chapters Statements, Activities and Clocks. A name that isn't visible, or a method that doesn't exist, has no code; it gets a 0 here.
use Rattle.std.specs.Prelude.{ℕ, ℤ, pos, int_le, nat_eq, ◌+◌, ◌==◌, List, [], ◌∷◌, ◌++◌, map, length, Option, Some, None, unwrap_or, if◌then◌else◌}
use Rattle.std.specs.Option.{option_map_or}
use Rattle.std.specs.Map.{lookup}
use Rattle.xk_types.specs.declared.instr.Instr.{Instr}
use Rattle.xk_types.specs.declared.instr.Instr.TheVariants as instr
use Rattle.xk_types.specs.declared.instr.Comparison.{Comparison}
use Rattle.xk_tree.specs.declared.tree.Operator.{Operator}
use Rattle.xk_tree.specs.declared.tree.Operator.TheVariants as operator
use Rattle.xk_tree.specs.Tree.{Word, Clocks, Expression, Literal, Named, Paren, Negation, Binary, Source, Make, Value, Bound, UpTo, Least, top, Statement, Block, Empty, Declare, Assign, Atomic, If, IfElse, For, Async, Finish, Call, Resume, Drop, AdvanceAll, Print, Statements, Done, More}
use Rattle.xk_names.specs.Scope.{Table, find, texts}
use Rattle.xk_names.specs.Uses.{clocks_listed}

-- ---- names

-- the body of an `async`: its unit, and the names of the numbers that it takes from outside
pub record Body : Type 0 where
  pub unit : ℕ
  pub captures : List (List ℕ)

-- What is settled before any code is made: the shared numbers by their places in the list of them, the units of methods, and the bodies of
-- `async`, each by the offset of that word.
pub record Setting : Type 0 where
  pub shared : Table ℕ
  pub methods : Table ℕ
  pub bodies : List (ℕ × Body)

-- the slots of the names that are visible, the oldest first
abbrev pub Scope : Type 0
Scope = Table ℕ

-- the number that a table has for a name
abbrev pub number_of : Table ℕ → Word → ℕ
number_of table x = unwrap_or (find table x.text) 0

abbrev pub slots_of : Scope → List (List ℕ) → List ℕ
slots_of scope xs = map (λ x. unwrap_or (find scope x) 0) xs

abbrev pub body_at : Setting → ℕ → Option Body
body_at cx at = lookup (nat_eq at) cx.bodies

abbrev pub body_unit : Setting → ℕ → ℕ
body_unit cx at = option_map_or (λ b. b.unit) (body_at cx at) 0

abbrev pub captures_at : Setting → ℕ → List (List ℕ)
captures_at cx at = option_map_or (λ b. b.captures) (body_at cx at) []

-- the names of the parameters of the body of an `async`: the clocks that it is given, then the numbers that it takes
abbrev pub body_params : Setting → ℕ → Option Clocks → List (List ℕ)
body_params cx at cs = texts (clocks_listed cs) ++ captures_at cx at

-- ---- expressions

abbrev pub instr_of : Operator → ℕ → ℕ → ℕ → Instr
instr_of operator.Plus d x y = instr.Add d x y
instr_of operator.Minus d x y = instr.Sub d x y
instr_of operator.Times d x y = instr.Mul d x y

-- the slot that an expression's number is in, where t is the first free temporary: a name's own
abbrev pub slot_for : Scope → ℕ → Expression → ℕ
slot_for scope t (Literal n) = t
slot_for scope t (Named x) = number_of scope x
slot_for scope t (Paren at e) = slot_for scope t e
slot_for scope t (Negation at e) = t
slot_for scope t (Binary o l at r) = t

-- the first free temporary behind an expression whose number is in slot x
abbrev pub behind : ℕ → ℕ → ℕ
behind t x = if x == t then t + 1 else t

-- the instructions that bring an expression's number there
abbrev pub eval : Scope → ℕ → Expression → List Instr
eval scope t (Literal n) = instr.Lit t n.value ∷ []
eval scope t (Named x) = []
eval scope t (Paren at e) = eval scope t e
eval scope t (Negation at e) = instr.Lit t (pos 0) ∷ (eval scope (t + 1) e ++ instr.Sub t t (slot_for scope (t + 1) e) ∷ [])
eval scope t (Binary o l at r) =
    eval scope t l ++ (eval scope (behind t (slot_for scope t l)) r ++ instr_of o t (slot_for scope t l) (slot_for scope (behind t (slot_for scope t l)) r) ∷ [])

-- two expressions, one after the other
abbrev pub both : Scope → ℕ → Expression → Expression → List Instr
both scope t l r = eval scope t l ++ eval scope (behind t (slot_for scope t l)) r

-- the slot of the second
abbrev pub second : Scope → ℕ → Expression → Expression → ℕ
second scope t l r = slot_for scope (behind t (slot_for scope t l)) r

-- an expression's number is put into a slot: what stands before the last instruction
abbrev pub before_into : Scope → ℕ → Expression → List Instr
before_into scope t (Literal n) = []
before_into scope t (Named x) = []
before_into scope t (Paren at e) = before_into scope t e
before_into scope t (Negation at e) = instr.Lit t (pos 0) ∷ eval scope (t + 1) e
before_into scope t (Binary o l at r) = both scope t l r

-- and the last, which puts it into slot d
abbrev pub last_into : Scope → ℕ → Expression → ℕ → Instr
last_into scope t (Literal n) d = instr.Lit d n.value
last_into scope t (Named x) d = instr.Copy d (number_of scope x)
last_into scope t (Paren at e) d = last_into scope t e d
last_into scope t (Negation at e) d = instr.Sub d t (slot_for scope (t + 1) e)
last_into scope t (Binary o l at r) d = instr_of o d (slot_for scope t l) (second scope t l r)

-- arguments from left to right, each with the next free temporary
abbrev pub eval_all : Scope → ℕ → List Expression → List Instr
eval_all scope t [] = []
eval_all scope t (e ∷ es) = eval scope t e ++ eval_all scope (behind t (slot_for scope t e)) es

-- the slots that their numbers and clocks are in
abbrev pub argument_slots : Scope → ℕ → List Expression → List ℕ
argument_slots scope t [] = []
argument_slots scope t (e ∷ es) = slot_for scope t e ∷ argument_slots scope (behind t (slot_for scope t e)) es

-- ---- values and assignments

-- the shared number that an expression is, where it is one's name alone
abbrev pub shared_alone : Setting → Expression → Option ℕ
shared_alone cx (Named x) = find cx.shared x.text
shared_alone cx _ = None

-- the last instruction of a declaration or an assignment to slot d
abbrev pub last_value : Setting → Scope → ℕ → Expression → ℕ → Instr
last_value cx scope t e d = option_map_or (λ s. instr.Get d s) (shared_alone cx e) (last_into scope t e d)

-- what a declaration puts into slot d
abbrev pub code_of_source : Setting → ℕ → Scope → ℕ → Source → List Instr
code_of_source cx t scope d (Make at v) = instr.Make d ∷ []
code_of_source cx t scope d (Value e) = before_into scope t e ++ last_value cx scope t e d ∷ []

-- an assignment to a name, which may be a shared number's: what stands before the last instruction
abbrev pub before_assigned : Scope → ℕ → Expression → Option ℕ → List Instr
before_assigned scope t e (Some s) = eval scope t e
before_assigned scope t e None = before_into scope t e

-- and the last
abbrev pub last_assigned : Setting → Scope → ℕ → Word → Expression → Option ℕ → Instr
last_assigned cx scope t x e (Some s) = instr.Put s (slot_for scope t e)
last_assigned cx scope t x e None = last_value cx scope t e (number_of scope x)

-- ---- loops

-- how many slots the names of a loop take: its own, and that of its limit right behind it
abbrev pub loop_slots : Bound → ℕ
loop_slots (UpTo hi) = 1
loop_slots (Least x v e hi) = 2

-- what is visible within, where n is the next slot
abbrev pub within_loop : Scope → ℕ → Word → Bound → Scope
within_loop scope n i (UpTo hi) = scope ++ (i.text, n) ∷ []
within_loop scope n i (Least x v e hi) = (scope ++ (i.text, n) ∷ []) ++ (x.text, n + 1) ∷ []

-- what brings the limit into its slot
abbrev pub before_bound : Scope → ℕ → ℕ → Bound → List Instr
before_bound scope t n (UpTo hi) = []
before_bound scope t n (Least x v e hi) = before_into scope t e ++ last_into scope t e (n + 1) ∷ []

-- a loop's head, whose `next` stands at place q
abbrev pub head_of : ℕ → ℤ → Bound → ℕ → Instr
head_of n lo (UpTo hi) q = instr.For n lo hi.value q
head_of n lo (Least x v e hi) q = instr.ForTo n lo (n + 1) hi.value q

-- ---- statements

-- how many slots the names of a statement take, those in the bodies of `async` left out
abbrev mutual
  pub count : Statement → ℕ
  count (Block close ss) = count_all ss
  count (Declare b x ty r) = 1
  count (If at l op r s) = count s
  count (IfElse at l op r s u) = count s + count u
  count (For at i lo b s) = count s + loop_slots b
  count (Finish at s) = count s
  count _ = 0

  pub count_all : Statements → ℕ
  count_all Done = 0
  count_all (More s ss) = count s + count_all ss

-- the names that are visible behind a statement, where n is the next slot
abbrev pub declared : Scope → ℕ → Statement → Scope
declared scope n (Declare b x ty r) = scope ++ (x.text, n) ∷ []
declared scope n _ = scope

abbrev pub declared_by_all : Scope → ℕ → Statements → Scope
declared_by_all scope n Done = scope
declared_by_all scope n (More s ss) = declared_by_all (declared scope n s) (n + count s) ss

-- what stands before the instruction that does a statement, where t is the first temporary, and n the next slot
abbrev pub before : Setting → Scope → ℕ → ℕ → Statement → List Instr
before cx scope t n (Declare b x ty (Value e)) = before_into scope t e
before cx scope t n (Assign x e) = before_assigned scope t e (find cx.shared x.text)
before cx scope t n (Atomic x y at e) = eval scope t e
before cx scope t n (If at l op r s) = both scope t l r
before cx scope t n (IfElse at l op r s u) = both scope t l r
before cx scope t n (Call f at es) = eval_all scope t es
before cx scope t n (Print at v e) = eval scope t e
before cx scope t n (For at i lo b s) = if int_le lo.value (top b) then before_bound scope t n b else []
before cx scope t n _ = []

-- the code of a statement: t is the first temporary, n the next slot, and the first instruction stands at place p
abbrev mutual
  pub code_of : Setting → ℕ → Scope → ℕ → ℕ → Statement → List Instr
  code_of cx t scope n p (Block close ss) = code_of_all cx t scope n p ss
  code_of cx t scope n p Empty = []
  code_of cx t scope n p (Declare b x ty r) = code_of_source cx t scope n r
  code_of cx t scope n p (Assign x e) = before_assigned scope t e (find cx.shared x.text) ++ last_assigned cx scope t x e (find cx.shared x.text) ∷ []
  code_of cx t scope n p (Atomic x y at e) = eval scope t e ++ instr.AddTo (number_of cx.shared x) (slot_for scope t e) ∷ []
  code_of cx t scope n p (If at l op r s) =
      let q = p + length (both scope t l r) in
      let body = code_of cx t scope n (q + 1) s in
      both scope t l r ++ instr.Unless op (slot_for scope t l) (second scope t l r) (q + 1 + length body) ∷ body
  code_of cx t scope n p (IfElse at l op r s u) =
      let q = p + length (both scope t l r) in
      let body = code_of cx t scope n (q + 1) s in
      let other = code_of cx t scope (n + count s) (q + 1 + length body + 1) u in
      both scope t l r ++ instr.Unless op (slot_for scope t l) (second scope t l r) (q + 1 + length body + 1)
      ∷ (body ++ instr.Jump (q + 1 + length body + 1 + length other) ∷ other)
  code_of cx t scope n p (For at i lo b s) =
      let q = p + length (before_bound scope t n b) in
      let body = code_of cx t (within_loop scope n i b) (n + loop_slots b) (q + 1) s in
      if int_le lo.value (top b) then before_bound scope t n b ++ head_of n lo.value b (q + 1 + length body) ∷ (body ++ instr.Next q ∷ []) else []
  code_of cx t scope n p (Async at cs s) = instr.Spawn (body_unit cx at) (slots_of scope (body_params cx at cs)) ∷ []
  code_of cx t scope n p (Finish at s) =
      let body = code_of cx t scope n (p + 1) s in
      instr.Finish (p + 1 + length body) ∷ (body ++ instr.EndFinish p ∷ [])
  code_of cx t scope n p (Call f at es) = eval_all scope t es ++ instr.Call (number_of cx.methods f) (argument_slots scope t es) ∷ []
  code_of cx t scope n p (Resume c v) = instr.Resume (number_of scope c) ∷ []
  code_of cx t scope n p (Drop c v) = instr.Drop (number_of scope c) ∷ []
  code_of cx t scope n p (AdvanceAll at v) = instr.Advance ∷ []
  code_of cx t scope n p (Print at v e) = eval scope t e ++ instr.Print (slot_for scope t e) ∷ []

  pub code_of_all : Setting → ℕ → Scope → ℕ → ℕ → Statements → List Instr
  code_of_all cx t scope n p Done = []
  code_of_all cx t scope n p (More s ss) =
      code_of cx t scope n p s ++ code_of_all cx t (declared scope n s) (n + count s) (p + length (code_of cx t scope n p s)) ss

-- the code of an `if` up to its `else`, with a gap for the jump over that
abbrev pub code_of_then : Setting → ℕ → Scope → ℕ → ℕ → Expression → Comparison → Expression → Statement → List Instr
code_of_then cx t scope n p l op r s =
    let q = p + length (both scope t l r) in
    let body = code_of cx t scope n (q + 1) s in
    both scope t l r ++ instr.Unless op (slot_for scope t l) (second scope t l r) (q + 1 + length body + 1) ∷ (body ++ instr.Jump 0 ∷ [])
