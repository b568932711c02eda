-- What a part holds, where the offsets of the words `async` rise.
use Rattle.std.proofs.Common.{◌≡◌, inl, inr, ℕ, zero, suc, ◌<◌, List, [], ◌∷◌, ◌++◌, Some, slice_get, refl, sym, ap, subst, arith}
use Rattle.std.specs.Prelude.{int_le}
use Rattle.xk_tree.specs.Tree.{Word, Statement, Statements, Done, More, Block, If, IfElse, For, top, Async, Finish, Call, MethodValue}
use Rattle.xk_tree.specs.AsyncOffsets.{asyncs, asyncs_in, asyncs_of_methods}
use Rattle.xk_names.specs.Scope.{Has}
use Rattle.xk_callgraph.specs.Callees.{callees, callees_all}
use Rattle.xk_names.proofs.MembershipLemmas.{has_left, has_right, has_either}
use Rattle.xk_source_semantics.specs.Parts.{Part, OfMethod, OfBody, Run, Calls, Starts, bodies, bodies_all, method_parts, runs, runs_all, part_runs}
use Rattle.xk_law_compiler.proofs.UnitLemmas.RisingListLemmas.{Rising, rising_left, rising_right, rising_apart}
use Rattle.xk_law_compiler.proofs.UnitLemmas.NestingLemmas.{of_some}

-- ---- methods

pub rising_in : (ms : List MethodValue) (d : ℕ) (m : MethodValue) → Rising (asyncs_of_methods ms) → slice_get ms d ≡ Some m
    → Rising (asyncs_in m.body)
rising_in [] d m h e = absurd cc
rising_in (n ∷ ms) zero m h e =
    let same : n ≡ m = cc in subst (λ (k : MethodValue). Rising (asyncs_in k.body)) same (rising_left (asyncs_in n.body) (asyncs_of_methods ms) h)
rising_in (n ∷ ms) (suc d) m h e = rising_in ms d m (rising_right (asyncs_in n.body) (asyncs_of_methods ms) h) e

there_in : (ms : List MethodValue) (d : ℕ) (m : MethodValue) (at : ℕ) → slice_get ms d ≡ Some m → Has (asyncs_in m.body) at
    → Has (asyncs_of_methods ms) at
there_in [] d m at e h = absurd cc
there_in (n ∷ ms) zero m at e h =
    let same : n ≡ m = cc in has_left (asyncs_in n.body) (asyncs_of_methods ms) at (subst (λ (k : MethodValue). Has (asyncs_in k.body) at) (sym same) h)
there_in (n ∷ ms) (suc d) m at e h = has_right (asyncs_in n.body) (asyncs_of_methods ms) at (there_in ms d m at e h)

-- an offset is in one method alone
pub same_method : (ms : List MethodValue) (d e : ℕ) (m n : MethodValue) (at : ℕ) → Rising (asyncs_of_methods ms) → slice_get ms d ≡ Some m
    → slice_get ms e ≡ Some n
    → Has (asyncs_in m.body) at → Has (asyncs_in n.body) at → d ≡ e
same_method [] d e m n at r is that a b = absurd cc
same_method (k ∷ ms) zero zero m n at r is that a b = refl
same_method (k ∷ ms) zero (suc e) m n at r is that a b =
    let same : k ≡ m = cc in
    let here = subst (λ (q : MethodValue). Has (asyncs_in q.body) at) (sym same) a in
    let less = rising_apart (asyncs_in k.body) (asyncs_of_methods ms) r at at here (there_in ms e n at that b) in
    absurd (omega arith)
same_method (k ∷ ms) (suc d) zero m n at r is that a b =
    let same : k ≡ n = cc in
    let here = subst (λ (q : MethodValue). Has (asyncs_in q.body) at) (sym same) b in
    let less = rising_apart (asyncs_in k.body) (asyncs_of_methods ms) r at at here (there_in ms d m at is a) in
    absurd (omega arith)
same_method (k ∷ ms) (suc d) (suc e) m n at r is that a b = ap suc (same_method ms d e m n at (rising_right (asyncs_in k.body) (asyncs_of_methods ms) r) is that a b)

-- ---- what is run is among the calls and the words `async` of the statement

abbrev pub Held : List Word → List ℕ → Run → Type 0
Held gs xs (Calls g) = Has gs g
Held gs xs (Starts at) = Has xs at

held_left : (gs hs : List Word) (xs ys : List ℕ) (r : Run) → Held gs xs r → Held (gs ++ hs) (xs ++ ys) r
held_left gs hs xs ys (Calls g) h = has_left gs hs g h
held_left gs hs xs ys (Starts at) h = has_left xs ys at h

held_right : (gs hs : List Word) (xs ys : List ℕ) (r : Run) → Held hs ys r → Held (gs ++ hs) (xs ++ ys) r
held_right gs hs xs ys (Calls g) h = has_right gs hs g h
held_right gs hs xs ys (Starts at) h = has_right xs ys at h

mutual
  run_held : (s : Statement) (r : Run) → Has (runs s) r → Held (callees s) (asyncs s) r
  run_held (Block close ss) r h = run_held_all ss r h
  run_held (If p l c q s) r h = run_held s r h
  run_held (IfElse p l c q s u) r h = elim (has_either (runs s) (runs u) r h) [
    | inl x ↦ held_left (callees s) (callees u) (asyncs s) (asyncs u) r (run_held s r x)
    | inr y ↦ held_right (callees s) (callees u) (asyncs s) (asyncs u) r (run_held u r y)
  ]
  run_held (For p i lo b s) r h = run_held s r (of_some (int_le lo.value (top b)) (runs s) r h)
  run_held (Async a cs s) r (inl e) = subst (λ (q : Run). Held (callees s) (a ∷ asyncs s) q) (sym e) (inl refl)
  run_held (Async a cs s) r (inr h) = absurd h
  run_held (Finish at s) r h = run_held s r h
  run_held (Call g p es) r (inl e) = subst (λ (q : Run). Held (g ∷ []) [] q) (sym e) (inl refl)
  run_held (Call g p es) r (inr h) = absurd h
  run_held _ r h = absurd h

  run_held_all : (ss : Statements) (r : Run) → Has (runs_all ss) r → Held (callees_all ss) (asyncs_in ss) r
  run_held_all Done r h = absurd h
  run_held_all (More s ss) r h = elim (has_either (runs s) (runs_all ss) r h) [
    | inl x ↦ held_left (callees s) (callees_all ss) (asyncs s) (asyncs_in ss) r (run_held s r x)
    | inr y ↦ held_right (callees s) (callees_all ss) (asyncs s) (asyncs_in ss) r (run_held_all ss r y)
  ]

-- ---- bodies

-- a body stands among these, and so do its calls and the words `async` in it, which stand behind its own
abbrev pub IsInside : List Word → List ℕ → Part → Type 0
IsInside gs xs (OfMethod m) = ⊥
IsInside gs xs (OfBody at cs s) = Has xs at × ((r : Run) → Held (callees s) (asyncs s) r → Held gs xs r) × (Rising xs → (y : ℕ) → Has (asyncs s) y → at < y)

inside_left : (gs hs : List Word) (xs ys : List ℕ) (p : Part) → IsInside gs xs p → IsInside (gs ++ hs) (xs ++ ys) p
inside_left gs hs xs ys (OfMethod m) h = absurd h
inside_left gs hs xs ys (OfBody at cs s) h =
    (has_left xs ys at h.0, λ r x. held_left gs hs xs ys r (h.1 r x), λ rising. h.2 (rising_left xs ys rising))

inside_right : (gs hs : List Word) (xs ys : List ℕ) (p : Part) → IsInside hs ys p → IsInside (gs ++ hs) (xs ++ ys) p
inside_right gs hs xs ys (OfMethod m) h = absurd h
inside_right gs hs xs ys (OfBody at cs s) h =
    (has_right xs ys at h.0, λ r x. held_right gs hs xs ys r (h.1 r x), λ rising. h.2 (rising_right xs ys rising))

mutual
  inside : (s : Statement) (p : Part) → Has (bodies s) p → IsInside (callees s) (asyncs s) p
  inside (Block close ss) p h = inside_all ss p h
  inside (If a l c r s) p h = inside s p h
  inside (IfElse a l c r s u) p h = elim (has_either (bodies s) (bodies u) p h) [
    | inl x ↦ inside_left (callees s) (callees u) (asyncs s) (asyncs u) p (inside s p x)
    | inr y ↦ inside_right (callees s) (callees u) (asyncs s) (asyncs u) p (inside u p y)
  ]
  inside (For a i lo b s) p h = inside s p h
  inside (Async a cs s) p (inl e) = subst (IsInside (callees s) (a ∷ asyncs s)) (sym e)
      (inl refl, λ r x. held_right [] (callees s) (a ∷ []) (asyncs s) r x, λ rising. rising.0)
  inside (Async a cs s) p (inr h) = inside_right [] (callees s) (a ∷ []) (asyncs s) p (inside s p h)
  inside (Finish at s) p h = inside s p h
  inside _ p h = absurd h

  inside_all : (ss : Statements) (p : Part) → Has (bodies_all ss) p → IsInside (callees_all ss) (asyncs_in ss) p
  inside_all Done p h = absurd h
  inside_all (More s ss) p h = elim (has_either (bodies s) (bodies_all ss) p h) [
    | inl x ↦ inside_left (callees s) (callees_all ss) (asyncs s) (asyncs_in ss) p (inside s p x)
    | inr y ↦ inside_right (callees s) (callees_all ss) (asyncs s) (asyncs_in ss) p (inside_all ss p y)
  ]

-- ---- parts of a method

pub body_inside : (m : MethodValue) (p : Part) → Has (bodies_all m.body) p → IsInside (callees_all m.body) (asyncs_in m.body) p
body_inside m p h = inside_all m.body p h

body_runs : (m : MethodValue) (p : Part) (r : Run) → IsInside (callees_all m.body) (asyncs_in m.body) p → Has (part_runs p) r
    → Held (callees_all m.body) (asyncs_in m.body) r
body_runs m (OfMethod n) r h runs = absurd h
body_runs m (OfBody at cs s) r h runs = h.1 r (run_held s r runs)

pub part_held : (m : MethodValue) (p : Part) (r : Run) → Has (method_parts m) p → Has (part_runs p) r → Held (callees_all m.body) (asyncs_in m.body) r
part_held m p r (inl e) runs = run_held_all m.body r (subst (λ (q : Part). Has (part_runs q) r) e runs)
part_held m p r (inr h) runs = body_runs m p r (inside_all m.body p h) runs

-- how far in a part stands: a method before all bodies
abbrev pub depth : Part → ℕ
depth (OfMethod m) = 0
depth (OfBody at cs s) = suc at

body_deeper : (m : MethodValue) (p : Part) (at : ℕ) → Rising (asyncs_in m.body) → IsInside (callees_all m.body) (asyncs_in m.body) p
    → Has (part_runs p) (Starts at)
    → depth p < suc at
body_deeper m (OfMethod n) at rising h runs = absurd h
body_deeper m (OfBody a cs s) at rising h runs = let less = h.2 rising at (run_held s (Starts at) runs) in omega arith

-- a body that is started stands further in
pub part_deeper : (m : MethodValue) (p : Part) (at : ℕ) → Rising (asyncs_in m.body) → Has (method_parts m) p → Has (part_runs p) (Starts at)
    → depth p < suc at
part_deeper m p at rising (inl e) runs = let none = ap depth e in omega arith
part_deeper m p at rising (inr h) runs = body_deeper m p at rising (inside_all m.body p h) runs
