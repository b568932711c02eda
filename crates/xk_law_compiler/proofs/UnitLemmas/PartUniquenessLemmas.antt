-- Bodies at one offset are one, where the offsets of the words `async` rise; methods of one name are one, where no name is a method's twice.
use Rattle.std.proofs.Common.{◌≡◌, inl, inr, ℕ, ◌<◌, Bool, true, false, cond, ◌||◌, List, [], ◌∷◌, ◌++◌, map, Option, Some, refl, sym, ap, ◌∙◌, subst, arith}
use Rattle.std.specs.List.{flat_map}
use Rattle.std.proofs.lemmas.Bool.{or_right}
use Rattle.xk_names.proofs.TableAgreementLemmas.{same_text}
use Rattle.xk_tree.specs.declared.fault.FrontFault.{FrontFault}
use Rattle.xk_tree.specs.declared.fault.FrontRule.TheVariants as rule
use Rattle.xk_tree.specs.Tree.{Clocks, Statement, Statements, Done, More, Block, Empty, Declare, Assign, Atomic, If, IfElse, For, Async, Finish, Call, Resume, Drop, AdvanceAll, Print, ParamValue, MethodValue, TreeValue}
use Rattle.xk_tree.specs.AsyncOffsets.{asyncs, asyncs_in, asyncs_of_methods, HasBodiesApart}
use Rattle.xk_names.specs.Scope.{Has, has, find, is_text, texts}
use Rattle.xk_names.specs.Uses.{signatures}
use Rattle.xk_names.specs.Faults.{fault, RepeatsMethod}
use Rattle.xk_source_semantics.specs.Parts.{Part, OfMethod, OfBody, bodies, bodies_all, method_parts, parts}
use Rattle.xk_law_compiler.proofs.UnitLemmas.RisingListLemmas.{Rising, is_rising}

-- ---- the offsets of bodies among parts

abbrev offsets : List Part → List ℕ
offsets [] = []
offsets (OfMethod m ∷ ps) = offsets ps
offsets (OfBody at cs s ∷ ps) = at ∷ offsets ps

offsets_both : (ps qs : List Part) → offsets (ps ++ qs) ≡ offsets ps ++ offsets qs
offsets_both [] qs = refl
offsets_both (OfMethod m ∷ ps) qs = offsets_both ps qs
offsets_both (OfBody at cs s ∷ ps) qs = ap (λ r. at ∷ r) (offsets_both ps qs)

both_same : (xs ys : List Part) (us vs : List ℕ) → offsets xs ≡ us → offsets ys ≡ vs → offsets (xs ++ ys) ≡ us ++ vs
both_same xs ys us vs e f = offsets_both xs ys ∙ ap (λ l. l ++ offsets ys) e ∙ ap (λ l. us ++ l) f

mutual
  offsets_of : (s : Statement) → offsets (bodies s) ≡ asyncs s
  offsets_of (Block close ss) = offsets_of_all ss
  offsets_of (If at l c r s) = offsets_of s
  offsets_of (IfElse at l c r s u) = both_same (bodies s) (bodies u) (asyncs s) (asyncs u) (offsets_of s) (offsets_of u)
  offsets_of (For at i lo hi s) = offsets_of s
  offsets_of (Async at cs s) = ap (λ r. at ∷ r) (offsets_of s)
  offsets_of (Finish at s) = offsets_of s
  offsets_of Empty = refl
  offsets_of (Declare b x ty r) = refl
  offsets_of (Assign x e) = refl
  offsets_of (Atomic x y at e) = refl
  offsets_of (Call f at es) = refl
  offsets_of (Resume c v) = refl
  offsets_of (Drop c v) = refl
  offsets_of (AdvanceAll at v) = refl
  offsets_of (Print at v e) = refl

  offsets_of_all : (ss : Statements) → offsets (bodies_all ss) ≡ asyncs_in ss
  offsets_of_all Done = refl
  offsets_of_all (More s ss) = both_same (bodies s) (bodies_all ss) (asyncs s) (asyncs_in ss) (offsets_of s) (offsets_of_all ss)

offsets_of_parts : (ms : List MethodValue) → offsets (flat_map method_parts ms) ≡ asyncs_of_methods ms
offsets_of_parts [] = refl
offsets_of_parts (m ∷ ms) =
    both_same (method_parts m) (flat_map method_parts ms) (asyncs_in m.body) (asyncs_of_methods ms) (offsets_of_all m.body) (offsets_of_parts ms)

listed : (ps : List Part) (at : ℕ) (cs : Option Clocks) (s : Statement) → Has ps (OfBody at cs s) → Has (offsets ps) at
listed [] at cs s h = absurd h
listed (OfMethod m ∷ ps) at cs s (inl e) = absurd cc
listed (OfMethod m ∷ ps) at cs s (inr h) = listed ps at cs s h
listed (OfBody a ds u ∷ ps) at cs s (inl e) = inl cc
listed (OfBody a ds u ∷ ps) at cs s (inr h) = inr (listed ps at cs s h)

-- what is behind it has another offset
other_offset : (ps : List Part) (a at : ℕ) (cs ds es : Option Clocks) (s u v : Statement) → ((y : ℕ) → Has (offsets ps) y → a < y)
    → OfBody at cs s ≡ OfBody a es v
    → Has ps (OfBody at ds u) → ⊥
other_offset ps a at cs ds es s u v above e h = let less = above at (listed ps at ds u h) in let same : at ≡ a = cc in omega arith

one_body : (ps : List Part) (at : ℕ) (cs ds : Option Clocks) (s u : Statement) → Rising (offsets ps) → Has ps (OfBody at cs s)
    → Has ps (OfBody at ds u)
    → OfBody at cs s ≡ OfBody at ds u
one_body [] at cs ds s u r h g = absurd h
one_body (OfMethod m ∷ ps) at cs ds s u r (inl e) g = absurd cc
one_body (OfMethod m ∷ ps) at cs ds s u r (inr h) (inl e) = absurd cc
one_body (OfMethod m ∷ ps) at cs ds s u r (inr h) (inr g) = one_body ps at cs ds s u r h g
one_body (OfBody a es v ∷ ps) at cs ds s u r (inl e) (inl f) = e ∙ sym f
one_body (OfBody a es v ∷ ps) at cs ds s u r (inl e) (inr g) = absurd (other_offset ps a at cs ds es s u v r.0 e g)
one_body (OfBody a es v ∷ ps) at cs ds s u r (inr h) (inl f) = absurd (other_offset ps a at ds cs es u s v r.0 f h)
one_body (OfBody a es v ∷ ps) at cs ds s u r (inr h) (inr g) = one_body ps at cs ds s u r.1 h g

-- of a program's bodies at one offset there is one
pub same_body : (t : TreeValue) → HasBodiesApart t → (at : ℕ) (cs ds : Option Clocks) (s u : Statement) → Has (parts t) (OfBody at cs s)
    → Has (parts t) (OfBody at ds u)
    → OfBody at cs s ≡ OfBody at ds u
same_body t apart at cs ds s u =
    one_body (parts t) at cs ds s u
    (subst Rising (sym (offsets_of_parts t.methods)) (is_rising (asyncs_of_methods t.methods) apart))

-- ---- methods of one name

abbrev NoneAgain : List MethodValue → Type 0
NoneAgain ms = (f : FrontFault) → RepeatsMethod ms f → ⊥

none_behind : (m : MethodValue) (ms : List MethodValue) → NoneAgain (m ∷ ms) → NoneAgain ms
none_behind m ms none f r = none f (record {
  before = m ∷ r.before;
  method = r.method;
  after = r.after;
  stands = ap (λ l. m ∷ l) r.stands;
  again = or_right (is_text r.method.name.text m.name.text) (has (texts (map (λ (n : MethodValue). n.name) r.before)) r.method.name.text) r.again;
  is = r.is;
})

-- where it stands
record Split (ms : List MethodValue) (m : MethodValue) : Type 0 where
  before : List MethodValue
  after : List MethodValue
  is : ms ≡ before ++ m ∷ after

split : (ms : List MethodValue) (m : MethodValue) → Has ms m → Split ms m
split [] m h = absurd h
split (n ∷ ms) m (inl e) = record { before = []; after = ms; is = ap (λ k. k ∷ ms) (sym e) }
split (n ∷ ms) m (inr h) = let r = split ms m h in record { before = n ∷ r.before; after = r.after; is = ap (λ l. n ∷ l) r.is }

first_again : (m n : MethodValue) (ms : List MethodValue) → NoneAgain (m ∷ ms) → Has ms n → is_text n.name.text m.name.text ≡ true → ⊥
first_again m n ms none h same =
    let r = split ms n h in
    none (fault rule.DuplicateName n.name.at) (record {
      before = m ∷ r.before;
      method = n;
      after = r.after;
      stands = ap (λ l. m ∷ l) r.is;
      again = ap (λ b. b || has (texts (map (λ (k : MethodValue). k.name) r.before)) n.name.text) same;
      is = refl;
    })

pub one_method : (ms : List MethodValue) (x : List ℕ) (m n : MethodValue) → ((f : FrontFault) → RepeatsMethod ms f → ⊥) → Has ms m → Has ms n
    → is_text x m.name.text ≡ true → is_text x n.name.text ≡ true → m ≡ n
one_method [] x m n none h g a b = absurd h
one_method (k ∷ ms) x m n none (inl e) (inl f) a b = e ∙ sym f
one_method (k ∷ ms) x m n none (inl e) (inr g) a b = absurd (first_again k n ms none g
    (ap (λ (y : List ℕ). is_text y k.name.text) (sym (same_text x n.name.text b)) ∙ subst (λ (q : MethodValue). is_text x q.name.text ≡ true) e a))
one_method (k ∷ ms) x m n none (inr h) (inl f) a b = absurd (first_again k m ms none h
    (ap (λ (y : List ℕ). is_text y k.name.text) (sym (same_text x m.name.text a)) ∙ subst (λ (q : MethodValue). is_text x q.name.text ≡ true) f b))
one_method (k ∷ ms) x m n none (inr h) (inr g) a b = one_method ms x m n (none_behind k ms none) h g a b

-- the method of a signature that is found
pub record IsSigned (ms : List MethodValue) (x : List ℕ) (ps : List ParamValue) : Type 0 where
  pub method : MethodValue
  pub there : Has ms method
  pub named : is_text x method.name.text ≡ true
  pub params : method.params ≡ ps

pub signed : (ms : List MethodValue) (x : List ℕ) (ps : List ParamValue) → find (signatures ms) x ≡ Some ps → IsSigned ms x ps
signed [] x ps e = absurd cc
signed (m ∷ ms) x ps e = go (is_text x m.name.text) refl e (signed ms x ps)
  where
    go : (b : Bool) → is_text x m.name.text ≡ b → cond b (Some m.params) (find (signatures ms) x) ≡ Some ps
        → (find (signatures ms) x ≡ Some ps → IsSigned ms x ps) → IsSigned (m ∷ ms) x ps
    go true is h later = record { method = m; there = inl refl; named = is; params = cc }
    go false is h later = let r = later h in record { method = r.method; there = inr r.there; named = r.named; params = r.params }
