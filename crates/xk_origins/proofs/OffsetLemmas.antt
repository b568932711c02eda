-- The offsets that the code lists are those of the origins; of the names of shared numbers they depend on no more than which names are among them.
use Rattle.std.proofs.Common.{◌≡◌, ◌∙◌, ℕ, Bool, true, false, cond, List, [], ◌∷◌, ◌++◌, map, refl, sym, ap}
use Rattle.std.proofs.lemmas.List.{map-append}
use Rattle.xk_tree.specs.Tree.{Expression, Literal, Named, Paren, Negation, Binary, Source, Make, Value, Bound, UpTo, Least, has_turns, Statement, Statements, Done, More, Block, Empty, Declare, Assign, Atomic, If, IfElse, For, Async, Finish, Call, Resume, Drop, AdvanceAll, Print, TreeValue}
use Rattle.xk_names.specs.Scope.{has}
use Rattle.xk_names.specs.Captures.{shared_texts}
use Rattle.xk_source_semantics.specs.Parts.{Part, OfMethod, OfBody}
use Rattle.xk_origins.specs.Origin.{Does, Ends, Leaves, brings, brings_all, closed, does, offset_of, origins, origins_all, own, part_origins, place_of, puts, puts_limit, puts_source}
use Rattle.xk_unit_origins.specs.UnitOrigins.{Head, UnitOrigins}
use Rattle.xk_origins.specs.UnitOrigins.{head_of, slot_names, unit_origins}
use Rattle.xk_origins.specs.Offsets.{offsets, offsets_all, part_offsets}

-- ---- something for each instruction, and something of that

joined : {A B : Type 0} (f : A → B) (xs ys : List A) (us vs : List B) → map f xs ≡ us → map f ys ≡ vs → map f (xs ++ ys) ≡ us ++ vs
joined f xs ys us vs d e = map-append f xs ys ∙ ap (λ l. l ++ map f ys) d ∙ ap (λ l. us ++ l) e

either : {A B : Type 0} (f : A → B) (b : Bool) (xs ys : List A) (us vs : List B) → map f xs ≡ us → map f ys ≡ vs → map f (cond b xs ys) ≡ cond b us vs
either f true xs ys us vs d e = d
either f false xs ys us vs d e = e

module _ {A B : Type 0} (f : A → B) (o : A) where
  mapped_brings : (e : Expression) → map f (brings o e) ≡ brings (f o) e
  mapped_brings (Literal n) = refl
  mapped_brings (Named x) = refl
  mapped_brings (Paren at e) = mapped_brings e
  mapped_brings (Negation at e) = ap (λ l. f o ∷ l) (joined f (brings o e) (o ∷ []) (brings (f o) e) (f o ∷ []) (mapped_brings e) refl)
  mapped_brings (Binary op l at r) =
      joined f (brings o l) (brings o r ++ o ∷ []) (brings (f o) l) (brings (f o) r ++ f o ∷ []) (mapped_brings l)
      (joined f (brings o r) (o ∷ []) (brings (f o) r) (f o ∷ []) (mapped_brings r) refl)

  mapped_then : (e : Expression) → map f (brings o e ++ o ∷ []) ≡ brings (f o) e ++ f o ∷ []
  mapped_then e = joined f (brings o e) (o ∷ []) (brings (f o) e) (f o ∷ []) (mapped_brings e) refl

  mapped_both : (l r : Expression) → map f (brings o l ++ (brings o r ++ o ∷ [])) ≡ brings (f o) l ++ (brings (f o) r ++ f o ∷ [])
  mapped_both l r = joined f (brings o l) (brings o r ++ o ∷ []) (brings (f o) l) (brings (f o) r ++ f o ∷ []) (mapped_brings l) (mapped_then r)

  mapped_puts : (e : Expression) → map f (puts o e) ≡ puts (f o) e
  mapped_puts (Literal n) = refl
  mapped_puts (Named x) = refl
  mapped_puts (Paren at e) = mapped_puts e
  mapped_puts (Negation at e) = mapped_brings (Negation at e)
  mapped_puts (Binary op l at r) = mapped_brings (Binary op l at r)

  mapped_all : (es : List Expression) → map f (brings_all o es) ≡ brings_all (f o) es
  mapped_all [] = refl
  mapped_all (e ∷ es) = joined f (brings o e) (brings_all o es) (brings (f o) e) (brings_all (f o) es) (mapped_brings e) (mapped_all es)

  mapped_source : (r : Source) → map f (puts_source o r) ≡ puts_source (f o) r
  mapped_source (Make at v) = refl
  mapped_source (Value e) = mapped_puts e

  mapped_limit : (b : Bound) → map f (puts_limit o b) ≡ puts_limit (f o) b
  mapped_limit (UpTo n) = refl
  mapped_limit (Least x v e n) = mapped_puts e

  mapped_own : (shared : List (List ℕ)) (s : Statement) → map f (own shared o s) ≡ own shared (f o) s
  mapped_own shared (Block close ss) = refl
  mapped_own shared Empty = refl
  mapped_own shared (Declare b x ty r) = mapped_source r
  mapped_own shared (Assign x e) =
      either f (has shared x.text) (brings o e ++ o ∷ []) (puts o e) (brings (f o) e ++ f o ∷ []) (puts (f o) e) (mapped_then e) (mapped_puts e)
  mapped_own shared (Atomic x y at e) = mapped_then e
  mapped_own shared (If at l op r s) = mapped_both l r
  mapped_own shared (IfElse at l op r s u) = mapped_both l r
  mapped_own shared (For at i lo b s) = joined f (puts_limit o b) (o ∷ []) (puts_limit (f o) b) (f o ∷ []) (mapped_limit b) refl
  mapped_own shared (Async at cs s) = refl
  mapped_own shared (Finish at s) = refl
  mapped_own shared (Call g at es) = joined f (brings_all o es) (o ∷ []) (brings_all (f o) es) (f o ∷ []) (mapped_all es) refl
  mapped_own shared (Resume c v) = refl
  mapped_own shared (Drop c v) = refl
  mapped_own shared (AdvanceAll at v) = refl
  mapped_own shared (Print at v e) = mapped_then e

-- ---- offsets

module _ (shared : List (List ℕ)) where
  owns : (s : Statement) → map offset_of (does shared s) ≡ own shared (place_of s) s
  owns s = mapped_own offset_of (Does s) shared s

  mutual
    pub are_offsets : (s : Statement) → map offset_of (origins shared s) ≡ offsets shared s
    are_offsets (Block close ss) = are_all ss
    are_offsets Empty = refl
    are_offsets (Declare b x ty r) = owns (Declare b x ty r)
    are_offsets (Assign x e) = owns (Assign x e)
    are_offsets (Atomic x y at e) = owns (Atomic x y at e)
    are_offsets (If at l op r s) =
        joined offset_of (does shared (If at l op r s)) (origins shared s) (own shared at (If at l op r s)) (offsets shared s) (owns (If at l op r s)) (are_offsets s)
    are_offsets (IfElse at l op r s u) =
        let o = IfElse at l op r s u in
        joined offset_of (does shared o) (origins shared s ++ Ends o ∷ origins shared u) (own shared at o) (offsets shared s ++ at ∷ offsets shared u) (owns o)
        (joined offset_of (origins shared s) (Ends o ∷ origins shared u) (offsets shared s) (at ∷ offsets shared u) (are_offsets s) (ap (λ l. at ∷ l) (are_offsets u)))
    are_offsets (For at i lo b s) =
        let o = For at i lo b s in
        either offset_of (has_turns lo b) (does shared o ++ (origins shared s ++ Ends o ∷ [])) [] (own shared at o ++ (offsets shared s ++ closed at s ∷ [])) []
        (joined offset_of (does shared o) (origins shared s ++ Ends o ∷ []) (own shared at o) (offsets shared s ++ closed at s ∷ []) (owns o)
        (joined offset_of (origins shared s) (Ends o ∷ []) (offsets shared s) (closed at s ∷ []) (are_offsets s) refl)) refl
    are_offsets (Async at cs s) = refl
    are_offsets (Finish at s) =
        let o = Finish at s in
        ap (λ l. at ∷ l) (joined offset_of (origins shared s) (Ends o ∷ []) (offsets shared s) (closed at s ∷ []) (are_offsets s) refl)
    are_offsets (Call g at es) = owns (Call g at es)
    are_offsets (Resume c v) = refl
    are_offsets (Drop c v) = refl
    are_offsets (AdvanceAll at v) = refl
    are_offsets (Print at v e) = owns (Print at v e)

    are_all : (ss : Statements) → map offset_of (origins_all shared ss) ≡ offsets_all shared ss
    are_all Done = refl
    are_all (More s ss) = joined offset_of (origins shared s) (origins_all shared ss) (offsets shared s) (offsets_all shared ss) (are_offsets s) (are_all ss)

  pub are_part_offsets : (p : Part) → map offset_of (part_origins shared p) ≡ part_offsets shared p
  are_part_offsets (OfMethod m) =
      joined offset_of (origins_all shared m.body) (Leaves (OfMethod m) ∷ []) (offsets_all shared m.body) (m.close ∷ []) (are_all m.body) refl
  are_part_offsets (OfBody at cs s) =
      joined offset_of (origins shared s) (Leaves (OfBody at cs s) ∷ []) (offsets shared s) (closed at s ∷ []) (are_offsets s) refl

-- ---- other lists of the same names

module _ (a b : List (List ℕ)) (same : (x : List ℕ) → has a x ≡ has b x) where
  same_own : (o : ℕ) (s : Statement) → own a o s ≡ own b o s
  same_own o (Block close ss) = refl
  same_own o Empty = refl
  same_own o (Declare bd x ty r) = refl
  same_own o (Assign x e) = ap (λ c. cond c (brings o e ++ o ∷ []) (puts o e)) (same x.text)
  same_own o (Atomic x y at e) = refl
  same_own o (If at l op r s) = refl
  same_own o (IfElse at l op r s u) = refl
  same_own o (For at i lo bd s) = refl
  same_own o (Async at cs s) = refl
  same_own o (Finish at s) = refl
  same_own o (Call g at es) = refl
  same_own o (Resume c v) = refl
  same_own o (Drop c v) = refl
  same_own o (AdvanceAll at v) = refl
  same_own o (Print at v e) = refl

  mutual
    same_offsets : (s : Statement) → offsets a s ≡ offsets b s
    same_offsets (Block close ss) = same_all ss
    same_offsets Empty = refl
    same_offsets (Declare bd x ty r) = refl
    same_offsets (Assign x e) = same_own x.at (Assign x e)
    same_offsets (Atomic x y at e) = refl
    same_offsets (If at l op r s) = ap (λ k. (brings at l ++ (brings at r ++ at ∷ [])) ++ k) (same_offsets s)
    same_offsets (IfElse at l op r s u) =
        let front = brings at l ++ (brings at r ++ at ∷ []) in
        ap (λ k. front ++ (k ++ at ∷ offsets a u)) (same_offsets s) ∙ ap (λ k. front ++ (offsets b s ++ at ∷ k)) (same_offsets u)
    same_offsets (For at i lo bd s) = ap (λ k. cond (has_turns lo bd) ((puts_limit at bd ++ at ∷ []) ++ (k ++ closed at s ∷ [])) []) (same_offsets s)
    same_offsets (Async at cs s) = refl
    same_offsets (Finish at s) = ap (λ k. at ∷ (k ++ closed at s ∷ [])) (same_offsets s)
    same_offsets (Call g at es) = refl
    same_offsets (Resume c v) = refl
    same_offsets (Drop c v) = refl
    same_offsets (AdvanceAll at v) = refl
    same_offsets (Print at v e) = refl

    same_all : (ss : Statements) → offsets_all a ss ≡ offsets_all b ss
    same_all Done = refl
    same_all (More s ss) = ap (λ k. k ++ offsets_all a ss) (same_offsets s) ∙ ap (λ k. offsets b s ++ k) (same_all ss)

  same_part_offsets : (p : Part) → part_offsets a p ≡ part_offsets b p
  same_part_offsets (OfMethod m) = ap (λ k. k ++ m.close ∷ []) (same_all m.body)
  same_part_offsets (OfBody at cs s) = ap (λ k. k ++ closed at s ∷ []) (same_offsets s)

-- ---- units

pub are_those : (t : TreeValue) (p : Part) (shared : List (List ℕ)) → ((x : List ℕ) → has shared x ≡ has (shared_texts t.shared) x)
    → (head : Head) (listed : List ℕ) (slots : List (List ℕ)) → head ≡ head_of p → listed ≡ part_offsets shared p → slots ≡ slot_names t p
    → (let made : UnitOrigins = record { head = head; offsets = listed; slots = slots } in made) ≡ unit_origins t p
are_those t p shared same head listed slots first second third =
    let names = shared_texts t.shared in
    let are : listed ≡ map offset_of (part_origins names p) = second ∙ same_part_offsets shared names same p ∙ sym (are_part_offsets names p) in
    cc
