-- Scopes that grow at their end, and are cut back.
use Rattle.std.proofs.Common.{◌≡◌, ℕ, Bool, true, false, cond, List, [], ◌∷◌, ◌++◌, take, drop, length, refl, sym, ap, ◌∙◌, append_assoc, append-nil}
use Rattle.std.specs.Prelude.{is_some}
use Rattle.xk_tree.specs.Tree.{Statements, Done, More}
use Rattle.xk_names.specs.declared.binding.Known.{Known}
use Rattle.xk_names.specs.Scope.{Table, find, Declaration, Scope}
use Rattle.xk_names.specs.Places.{behind}
use Rattle.xk_names.specs.FaultList.{put, put_all, with_declared, after}

take_front : (xs ys : Table Known) → take (length xs) (xs ++ ys) ≡ xs
take_front [] ys = refl
take_front (x ∷ xs) ys = ap (λ r. x ∷ r) (take_front xs ys)

put_grows : (names : Table Known) (x : List ℕ) (k : Known) → (more : Table Known) × (put names x k ≡ names ++ more)
put_grows names x k = go (is_some (find names x))
  where
    go : (b : Bool) → (more : Table Known) × (cond b names (names ++ (x, k) ∷ []) ≡ names ++ more)
    go true = ([], sym (append-nil names))
    go false = ((x, k) ∷ [], refl)

grows : (names : Table Known) (ds : List Declaration) → (more : Table Known) × (put_all names ds ≡ names ++ more)
grows names [] = ([], sym (append-nil names))
grows names (d ∷ ds) =
    let f = put_grows names d.name.text d.known in
    let g = grows (put names d.name.text d.known) ds in
    (f.0 ++ g.0, g.1 ∙ (ap (λ k. k ++ g.0) f.1 ∙ append_assoc names f.0 g.0))

cut_names : (names : Table Known) (ds : List Declaration) (n : ℕ) → n ≡ length names → take n (put_all names ds) ≡ names
cut_names names ds n h = let g = grows names ds in ap (λ k. take k (put_all names ds)) h ∙ ap (take (length names)) g.1 ∙ take_front names g.0

-- a scope with its names cut back
abbrev pub cut_scope : ℕ → Scope → Scope
cut_scope n sc = record { names = take n sc.names; bodies = sc.bodies }

pub cut_behind : (before sc : Scope) (ds : List Declaration) (n : ℕ) → sc ≡ with_declared before ds → n ≡ length before.names → cut_scope n sc ≡ before
cut_behind before sc ds n e h = ap (cut_scope n) e ∙ ap (λ k. let r : Scope = record { names = k; bodies = before.bodies } in r) (cut_names before.names ds n h)

after_grows : (sc : Scope) (ss : Statements) → (more : Table Known) × (after sc ss ≡ record { names = sc.names ++ more; bodies = sc.bodies })
after_grows sc Done = ([], ap (λ k. let r : Scope = record { names = k; bodies = sc.bodies } in r) (sym (append-nil sc.names)))
after_grows sc (More s ss) =
    let there = with_declared sc (behind (length sc.bodies) s) in
    let f = grows sc.names (behind (length sc.bodies) s) in
    let g = after_grows there ss in
    (f.0 ++ g.0, g.1 ∙ ap (λ k. let r : Scope = record { names = k; bodies = sc.bodies } in r) (ap (λ k. k ++ g.0) f.1 ∙ append_assoc sc.names f.0 g.0))

pub cut_after : (before sc : Scope) (ss : Statements) (n : ℕ) → sc ≡ after before ss → n ≡ length before.names → cut_scope n sc ≡ before
cut_after before sc ss n e h =
    let g = after_grows before ss in
    ap (cut_scope n) (e ∙ g.1)
    ∙ ap (λ k. let r : Scope = record { names = take k (before.names ++ g.0); bodies = before.bodies } in r) h
    ∙ ap (λ k. let r : Scope = record { names = k; bodies = before.bodies } in r) (take_front before.names g.0)

-- a scope behind an innermost body that ends
abbrev pub left_scope : ℕ → Scope → Scope
left_scope n sc = record { names = take n sc.names; bodies = drop 1 sc.bodies }

pub left : (before : Scope) (clocks : List (List ℕ)) (sc : Scope) (ds : List Declaration) (n : ℕ)
    → sc ≡ with_declared (record { names = before.names; bodies = clocks ∷ before.bodies }) ds → n ≡ length before.names → left_scope n sc ≡ before
left before clocks sc ds n e h = ap (left_scope n) e ∙ ap (λ k. let r : Scope = record { names = k; bodies = before.bodies } in r) (cut_names before.names ds n h)
