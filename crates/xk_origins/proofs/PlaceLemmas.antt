-- Where the code of a part's statement stands, its origins stand among those of the part.
use Rattle.std.proofs.Common.{◌≡◌, ◌∙◌, ℕ, zero, suc, ◌+◌, ◌<◌, Bool, true, false, cond, List, [], ◌∷◌, ◌++◌, length, ℤ, int_le, Option, Some, slice_get, refl, sym, ap, subst, arith, length-append, append-nil}
use Rattle.std.specs.Prelude.{is_some, ⊤}
use Rattle.xk_types.specs.declared.instr.Instr.{Instr}
use Rattle.xk_types.specs.declared.instr.Instr.TheVariants as instr
use Rattle.xk_tree.specs.declared.tree.Number.{Number}
use Rattle.xk_tree.specs.Tree.{Word, Expression, Literal, Named, Paren, Negation, Binary, Source, Make, Value, Bound, UpTo, Least, top, Statement, Block, Empty, Declare, Assign, Atomic, If, IfElse, For, Async, Finish, Call, Resume, Drop, AdvanceAll, Print, Statements, More}
use Rattle.xk_names.specs.Scope.{find, has}
use Rattle.xk_emit.specs.CodeOf.{Scope, Setting, before, before_assigned, before_bound, before_into, both, code_of, eval}
use Rattle.xk_source_semantics.specs.Parts.{Part, OfMethod, OfBody}
use Rattle.xk_law_compiler.proofs.PlaceLemmas.{body_of, Lies, LieAll, is_whole, is_first, is_then, is_either, is_else, is_turn, is_awaited, is_block, are_others}
use Rattle.xk_law_compiler.proofs.RelationLemmas.{HoldsAt, holds_front, holds_back, holds_all, IsSimple, EndsLoop}
use Rattle.xk_origins.specs.Origin.{Origin, Does, Ends, Leaves, brings, brings_all, does, origins, origins_all, own, part_origins, puts, puts_limit, puts_source}
use Rattle.xk_origins.proofs.LengthLemmas.{Same, both_then, puts_length, brings_then, all_length, limit_length, assigned_length, code_length}

-- ---- the origins that a statement has of its own are all the same

abbrev AllAre : {A : Type 0} → A → List A → Type 0
AllAre o [] = ⊤
AllAre o (x ∷ xs) = (x ≡ o) × AllAre o xs

all_are : {A : Type 0} (o : A) (xs ys : List A) → AllAre o xs → AllAre o ys → AllAre o (xs ++ ys)
all_are o [] ys h k = k
all_are o (x ∷ xs) ys h k = (h.0, all_are o xs ys h.1 k)

module _ {A : Type 0} (o : A) where
  all_brings : (e : Expression) → AllAre o (brings o e)
  all_brings (Literal n) = (refl, tt)
  all_brings (Named x) = tt
  all_brings (Paren at e) = all_brings e
  all_brings (Negation at e) = (refl, all_are o (brings o e) (o ∷ []) (all_brings e) (refl, tt))
  all_brings (Binary op l at r) = all_are o (brings o l) (brings o r ++ o ∷ []) (all_brings l) (all_are o (brings o r) (o ∷ []) (all_brings r) (refl, tt))

  all_then : (e : Expression) → AllAre o (brings o e ++ o ∷ [])
  all_then e = all_are o (brings o e) (o ∷ []) (all_brings e) (refl, tt)

  all_both : (l r : Expression) → AllAre o (brings o l ++ (brings o r ++ o ∷ []))
  all_both l r = all_are o (brings o l) (brings o r ++ o ∷ []) (all_brings l) (all_then r)

  all_puts : (e : Expression) → AllAre o (puts o e)
  all_puts (Named x) = (refl, tt)
  all_puts (Paren at e) = all_puts e
  all_puts (Literal n) = (refl, tt)
  all_puts (Negation at e) = all_brings (Negation at e)
  all_puts (Binary op l at r) = all_brings (Binary op l at r)

  all_arguments : (es : List Expression) → AllAre o (brings_all o es)
  all_arguments [] = tt
  all_arguments (e ∷ es) = all_are o (brings o e) (brings_all o es) (all_brings e) (all_arguments es)

  all_source : (r : Source) → AllAre o (puts_source o r)
  all_source (Make at v) = (refl, tt)
  all_source (Value e) = all_puts e

  all_limit : (b : Bound) → AllAre o (puts_limit o b)
  all_limit (UpTo n) = tt
  all_limit (Least x v e n) = all_puts e

  all_assigned : (b : Bool) (e : Expression) → AllAre o (cond b (brings o e ++ o ∷ []) (puts o e))
  all_assigned true e = all_then e
  all_assigned false e = all_puts e

  all_own : (shared : List (List ℕ)) (s : Statement) → AllAre o (own shared o s)
  all_own shared (Declare b x ty r) = all_source r
  all_own shared (Assign x e) = all_assigned (has shared x.text) e
  all_own shared (Atomic x y at e) = all_then e
  all_own shared (If at l op r s) = all_both l r
  all_own shared (IfElse at l op r s u) = all_both l r
  all_own shared (For at i lo b s) = all_are o (puts_limit o b) (o ∷ []) (all_limit b) (refl, tt)
  all_own shared (Call f at es) = all_are o (brings_all o es) (o ∷ []) (all_arguments es) (refl, tt)
  all_own shared (Print at v e) = all_then e
  all_own shared (Block close ss) = tt
  all_own shared Empty = tt
  all_own shared (Async at cs s) = (refl, tt)
  all_own shared (Finish at s) = (refl, tt)
  all_own shared (Resume c v) = (refl, tt)
  all_own shared (Drop c v) = (refl, tt)
  all_own shared (AdvanceAll at v) = (refl, tt)

-- so that each place within them has it
in_row : {A : Type 0} (o : A) (all xs ys : List A) (q k : ℕ) → AllAre o xs → HoldsAt all q (xs ++ ys) → k < length xs → slice_get all (q + k) ≡ Some o
in_row o all [] ys q k same h lt = absurd (omega arith)
in_row o all (x ∷ xs) ys q zero same h lt =
    let e : q ≡ q + 0 = omega arith in
    subst (λ n. slice_get all n ≡ Some o) e (h.0 ∙ ap Some same.0)
in_row o all (x ∷ xs) ys q (suc k) same h lt =
    let e : q + 1 + k ≡ q + suc k = omega arith in
    subst (λ n. slice_get all n ≡ Some o) e (in_row o all xs ys (q + 1) k same.1 h.1 (omega arith))

-- ---- a statement's origins, where its code stands

module _ (cx : Setting) (shared : List (List ℕ)) (known : (x : List ℕ) → has shared x ≡ is_some (find cx.shared x)) where
  -- those of its own are as many as stand before the instruction that does it, and one more
  more_by_one : (xs : List Origin) (is : List Instr) (i : Instr) → Same xs (is ++ i ∷ []) → length xs ≡ length is + 1
  more_by_one xs is i e = omega (arith, e, length-append is (i ∷ []))

  any : Instr
  any = instr.Ret

  own_then : (o : Origin) (t : ℕ) (scope : Scope) (e : Expression) → length (brings o e ++ o ∷ []) ≡ length (eval scope t e) + 1
  own_then o t scope e = more_by_one (brings o e ++ o ∷ []) (eval scope t e) any (brings_then o scope t e any)

  own_both : (o : Origin) (t : ℕ) (scope : Scope) (l r : Expression) → length (brings o l ++ (brings o r ++ o ∷ [])) ≡ length (both scope t l r) + 1
  own_both o t scope l r = more_by_one (brings o l ++ (brings o r ++ o ∷ [])) (both scope t l r) any (both_then o scope t l r any)

  own_for : (o : Origin) (t : ℕ) (scope : Scope) (n : ℕ) (b : Bound) → length (puts_limit o b ++ o ∷ []) ≡ length (before_bound scope t n b) + 1
  own_for o t scope n b = omega (arith, length-append (puts_limit o b) (o ∷ []), limit_length o scope t n b)

  own_assigned : (o : Origin) (t : ℕ) (scope : Scope) (x : Word) (e : Expression)
      → length (cond (has shared x.text) (brings o e ++ o ∷ []) (puts o e)) ≡ length (before_assigned scope t e (find cx.shared x.text)) + 1
  own_assigned o t scope x e =
      let k = find cx.shared x.text in
      let long = assigned_length cx shared known t o scope e any k in
      ap (λ (c : Bool). length (cond c (brings o e ++ o ∷ []) (puts o e))) (known x.text)
      ∙ more_by_one (cond (is_some k) (brings o e ++ o ∷ []) (puts o e)) (before_assigned scope t e k) any long

  own_length : (t : ℕ) (scope : Scope) (n : ℕ) (s : Statement) → IsSimple s → length (does shared s) ≡ length (before cx scope t n s) + 1
  own_length t scope n (Block close ss) simple = absurd simple
  own_length t scope n Empty simple = absurd simple
  own_length t scope n (Declare b x ty (Make at v)) simple = refl
  own_length t scope n (Declare b x ty (Value e)) simple =
      let o = Does (Declare b x ty (Value e)) in
      more_by_one (puts o e) (before_into scope t e) any (puts_length o scope t e any)
  own_length t scope n (Assign x e) simple = own_assigned (Does (Assign x e)) t scope x e
  own_length t scope n (Atomic x y at e) simple = own_then (Does (Atomic x y at e)) t scope e
  own_length t scope n (If at l op r s) simple = own_both (Does (If at l op r s)) t scope l r
  own_length t scope n (IfElse at l op r s u) simple = own_both (Does (IfElse at l op r s u)) t scope l r
  own_length t scope n (For at i lo b s) simple =
      own_for (Does (For at i lo b s)) t scope n b ∙ ap (λ (c : Bool). length (cond c (before_bound scope t n b) []) + 1) (sym simple)
  own_length t scope n (Async at cs s) simple = refl
  own_length t scope n (Finish at s) simple = refl
  own_length t scope n (Call f at es) simple =
      let o = Does (Call f at es) in
      omega (arith, length-append (brings_all o es) (o ∷ []), all_length o scope t es)
  own_length t scope n (Resume c v) simple = refl
  own_length t scope n (Drop c v) simple = refl
  own_length t scope n (AdvanceAll at v) simple = refl
  own_length t scope n (Print at v e) simple = own_then (Does (Print at v e)) t scope e

  -- and they come first
  own_first : (s : Statement) → IsSimple s → (tail : List Origin) × (origins shared s ≡ does shared s ++ tail)
  own_first (Block close ss) simple = absurd simple
  own_first Empty simple = absurd simple
  own_first (If at l op r s) simple = (origins shared s, refl)
  own_first (IfElse at l op r s u) simple = (origins shared s ++ Ends (IfElse at l op r s u) ∷ origins shared u, refl)
  own_first (For at i lo b s) simple =
      let o = For at i lo b s in
      (origins shared s ++ Ends o ∷ [], ap (λ (c : Bool). cond c (does shared o ++ (origins shared s ++ Ends o ∷ [])) []) simple)
  own_first (Finish at s) simple = (origins shared s ++ Ends (Finish at s) ∷ [], refl)
  own_first (Declare b x ty r) simple = ([], sym (append-nil (does shared (Declare b x ty r))))
  own_first (Assign x e) simple = ([], sym (append-nil (does shared (Assign x e))))
  own_first (Atomic x y at e) simple = ([], sym (append-nil (does shared (Atomic x y at e))))
  own_first (Async at cs s) simple = ([], refl)
  own_first (Call f at es) simple = ([], sym (append-nil (does shared (Call f at es))))
  own_first (Resume c v) simple = ([], refl)
  own_first (Drop c v) simple = ([], refl)
  own_first (AdvanceAll at v) simple = ([], refl)
  own_first (Print at v e) simple = ([], sym (append-nil (does shared (Print at v e))))

  module _ (p : Part) where
    abbrev all : List Origin
    all = part_origins shared p

    moved : (xs : List Origin) (q k : ℕ) → q ≡ k → HoldsAt all q xs → HoldsAt all k xs
    moved xs q k e h = subst (λ n. HoldsAt all n xs) e h

    whole_there : HoldsAt all 0 (origins shared (body_of p))
    whole_there = by p
      where
        by : (p : Part) → HoldsAt (part_origins shared p) 0 (origins shared (body_of p))
        by (OfMethod m) =
            let whole = part_origins shared (OfMethod m) in
            holds_front whole 0 (origins_all shared m.body) (Leaves (OfMethod m) ∷ []) (holds_all whole)
        by (OfBody at cs s) =
            let whole = part_origins shared (OfBody at cs s) in
            holds_front whole 0 (origins shared s) (Leaves (OfBody at cs s) ∷ []) (holds_all whole)

    -- those of a loop that has turns
    loop_row : (at : ℕ) (i : Word) (lo : Number) (b : Bound) (s : Statement) → int_le lo.value (top b) ≡ true
        → origins shared (For at i lo b s) ≡ does shared (For at i lo b s) ++ (origins shared s ++ Ends (For at i lo b s) ∷ [])
    loop_row at i lo b s turns =
        let o = For at i lo b s in
        ap (λ (c : Bool). cond c (does shared o ++ (origins shared s ++ Ends o ∷ [])) []) turns

    -- behind those that a statement has of its own
    behind_own : (o : Statement) (rest : List Origin) (q n : ℕ) → length (does shared o) ≡ n + 1 → HoldsAt all q (does shared o ++ rest)
        → HoldsAt all (q + n + 1) rest
    behind_own o rest q n long h =
        let e : q + length (does shared o) ≡ q + n + 1 = omega (arith, long) in
        moved rest (q + length (does shared o)) (q + n + 1) e (holds_back all q (does shared o) rest h)

    mutual
      pub lies_there : (q : ℕ) (s : Statement) → Lies cx p q s → HoldsAt all q (origins shared s)
      lies_there _ _ is_whole = whole_there
      lies_there _ _ (is_first q s ss h) = holds_front all q (origins shared s) (origins_all shared ss) (lie_all_there q (More s ss) h)
      lies_there _ _ (is_then t scope q at l op r s h) =
          let o = If at l op r s in
          behind_own o (origins shared s) q (length (both scope t l r)) (own_both (Does o) t scope l r) (lies_there q o h)
      lies_there _ _ (is_either t scope q at l op r s u h) =
          let o = IfElse at l op r s u in
          holds_front all (q + length (both scope t l r) + 1) (origins shared s) (Ends o ∷ origins shared u)
          (behind_own o (origins shared s ++ Ends o ∷ origins shared u) q (length (both scope t l r)) (own_both (Does o) t scope l r) (lies_there q o h))
      lies_there _ _ (is_else t scope n q at l op r s u h) =
          let o = IfElse at l op r s u in
          let place = q + length (both scope t l r) + 1 in
          let both_there = behind_own o (origins shared s ++ Ends o ∷ origins shared u) q (length (both scope t l r)) (own_both (Does o) t scope l r) (lies_there q o h) in
          let e : place + length (origins shared s) + 1 ≡ place + length (code_of cx t scope n place s) + 1 =
          omega (arith, code_length cx shared known t scope n place s) in
          moved (origins shared u) (place + length (origins shared s) + 1) (place + length (code_of cx t scope n place s) + 1) e
          (holds_back all place (origins shared s) (Ends o ∷ origins shared u) both_there).1
      lies_there _ _ (is_turn t scope n q at i lo b s turns h) =
          let o = For at i lo b s in
          holds_front all (q + length (before_bound scope t n b) + 1) (origins shared s) (Ends o ∷ [])
          (behind_own o (origins shared s ++ Ends o ∷ []) q (length (before_bound scope t n b)) (own_for (Does o) t scope n b)
          (subst (HoldsAt all q) (loop_row at i lo b s turns) (lies_there q o h)))
      lies_there _ _ (is_awaited q at s h) =
          let o = Finish at s in
          holds_front all (q + 1) (origins shared s) (Ends o ∷ []) (lies_there q o h).1

      lie_all_there : (q : ℕ) (ss : Statements) → LieAll cx p q ss → HoldsAt all q (origins_all shared ss)
      lie_all_there _ _ (is_block q close ss h) = lies_there q (Block close ss) h
      lie_all_there _ _ (are_others t scope n q s ss h) =
          let e : q + length (origins shared s) ≡ q + length (code_of cx t scope n q s) = omega (arith, code_length cx shared known t scope n q s) in
          moved (origins_all shared ss) (q + length (origins shared s)) (q + length (code_of cx t scope n q s)) e
          (holds_back all q (origins shared s) (origins_all shared ss) (lie_all_there q (More s ss) h))

    -- the first instructions of a statement's code, up to the one that does it, do it
    pub does_there : (t : ℕ) (scope : Scope) (n q : ℕ) (s : Statement) → IsSimple s → Lies cx p q s → (k : ℕ) → k < length (before cx scope t n s) + 1
        → slice_get all (q + k) ≡ Some (Does s)
    does_there t scope n q s simple h k lt =
        let f = own_first s simple in
        let long = own_length t scope n s simple in
        in_row (Does s) all (does shared s) f.0 q k (all_own (Does s) shared s) (subst (HoldsAt all q) f.1 (lies_there q s h)) (omega (arith, long, lt))

    -- the last one of a loop's ends a turn of it
    pub turn_there : (q : ℕ) (i : Word) (x : Option Word) (hi : ℤ) (s : Statement) → (e : EndsLoop cx p q i x hi s)
        → slice_get all q ≡ Some (Ends (For e.at i e.lo e.bound s))
    turn_there q i x hi s e =
        let o = For e.at i e.lo e.bound s in
        let row = loop_row e.at i e.lo e.bound s e.turns in
        let mid = e.from + length (does shared o) in
        let h = holds_back all mid (origins shared s) (Ends o ∷ []) (holds_back all e.from (does shared o) (origins shared s ++ Ends o ∷ [])
        (subst (HoldsAt all e.from) row (lies_there e.from o e.lies))) in
        let long : length (origins shared o) ≡ length (does shared o) + (length (origins shared s) + 1) =
        ap length row ∙ omega (arith, length-append (does shared o) (origins shared s ++ Ends o ∷ []), length-append (origins shared s) (Ends o ∷ [])) in
        let at : mid + length (origins shared s) ≡ q = omega (arith, long, code_length cx shared known e.t e.scope e.n e.from o, e.ends) in
        subst (λ n. slice_get all n ≡ Some (Ends o)) at h.0
