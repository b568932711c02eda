-- Scopes that are cut back, and shared numbers that stand alone.
use Rattle.std.proofs.Common.{◌≡◌, ℕ, ◌+◌, [], ◌∷◌, ◌++◌, take, length, Some, refl, sym, ap, ◌∙◌, append_assoc, append-nil}
use Rattle.xk_tree.specs.Tree.{Word, Expression, Literal, Named, Paren, Negation, Binary, Bound, UpTo, Least, Statement, Declare, Statements, Done, More}
use Rattle.xk_emit.specs.CodeOf.{Scope, Setting, before_into, count, declared, declared_by_all, shared_alone, within_loop}

take_front : (xs ys : Scope) → take (length xs) (xs ++ ys) ≡ xs
take_front [] ys = refl
take_front (x ∷ xs) ys = ap (λ r. x ∷ r) (take_front xs ys)

grown : (names : Scope) (n : ℕ) (s : Statement) → (more : Scope) × (declared names n s ≡ names ++ more)
grown names n (Declare b x ty r) = ((x.text, n) ∷ [], refl)
grown names n _ = ([], sym (append-nil names))

all_grown : (names : Scope) (n : ℕ) (ss : Statements) → (more : Scope) × (declared_by_all names n ss ≡ names ++ more)
all_grown names n Done = ([], sym (append-nil names))
all_grown names n (More s ss) =
    let a = grown names n s in
    let b = all_grown (declared names n s) (n + count s) ss in
    (a.0 ++ b.0, b.1 ∙ ap (λ (k : Scope). k ++ b.0) a.1 ∙ append_assoc names a.0 b.0)

cut_to : (new old names more : Scope) (len : ℕ) → new ≡ take len old → old ≡ names ++ more → len ≡ length names → new ≡ names
cut_to new old names more len is made count = is ∙ ap (take len) made ∙ ap (λ k. take k (names ++ more)) count ∙ take_front names more

-- a scope that is cut back behind a statement is what it was before it
pub cut_back : (new old names : Scope) (n len : ℕ) (s : Statement) → new ≡ take len old → old ≡ declared names n s → len ≡ length names → new ≡ names
cut_back new old names n len s is made count = let g = grown names n s in cut_to new old names g.0 len is (made ∙ g.1) count

pub cut_all_back : (new old names : Scope) (n len : ℕ) (ss : Statements) → new ≡ take len old → old ≡ declared_by_all names n ss → len ≡ length names → new ≡ names
cut_all_back new old names n len ss is made count = let g = all_grown names n ss in cut_to new old names g.0 len is (made ∙ g.1) count

loop_grown : (names : Scope) (n : ℕ) (i : Word) (b : Bound) → (more : Scope) × (within_loop names n i b ≡ names ++ more)
loop_grown names n i (UpTo hi) = ((i.text, n) ∷ [], refl)
loop_grown names n i (Least x v e hi) = ((i.text, n) ∷ (x.text, n + 1) ∷ [], append_assoc names ((i.text, n) ∷ []) ((x.text, n + 1) ∷ []))

-- and the names of a loop go too
pub cut_loop_back : (new old names : Scope) (n m len : ℕ) (i : Word) (b : Bound) (s : Statement)
    → new ≡ take len old → old ≡ declared (within_loop names n i b) m s → len ≡ length names → new ≡ names
cut_loop_back new old names n m len i b s is made count =
    let l = loop_grown names n i b in
    let g = grown (within_loop names n i b) m s in
    cut_to new old names (l.0 ++ g.0) len is (made ∙ g.1 ∙ ap (λ (w : Scope). w ++ g.0) l.1 ∙ append_assoc names l.0 g.0) count

-- before a shared number that stands alone there is nothing
pub alone_before : (cx : Setting) (scope : Scope) (t s : ℕ) (e : Expression) → shared_alone cx e ≡ Some s → before_into scope t e ≡ []
alone_before cx scope t s (Literal n) is = absurd cc
alone_before cx scope t s (Named x) is = refl
alone_before cx scope t s (Paren at e) is = absurd cc
alone_before cx scope t s (Negation at e) is = absurd cc
alone_before cx scope t s (Binary o l at r) is = absurd cc
