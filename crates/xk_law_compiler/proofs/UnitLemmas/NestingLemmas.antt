-- What a part of a tree without faults of names runs is a part of the tree.
use Rattle.std.proofs.Common.{◌≡◌, inl, inr, ℕ, Bool, true, false, cond, List, [], ◌∷◌, ◌++◌, length, Option, Some, None, refl, sym, ap, ◌∙◌, subst, eq-eqb}
use Rattle.std.specs.Prelude.{int_le, codes}
use Rattle.std.specs.List.{flat_map}
use Rattle.xk_tree.specs.Tree.{Word, Statement, Statements, Done, More, Block, If, IfElse, For, top, Async, Finish, Call, ParamValue, MethodValue, TreeValue}
use Rattle.xk_names.specs.Scope.{Has, find, is_text, Scope}
use Rattle.xk_names.specs.Uses.{Signatures, signatures, clocks_listed, declares}
use Rattle.xk_names.specs.WellScoped.{IsSound, IsSoundInside, AreSound, with_all, with_body, method_scope, IsScoped}
use Rattle.xk_names.specs.Faults.{MayBegin}
use Rattle.xk_names.specs.Places.{behind}
use Rattle.xk_names.proofs.MembershipLemmas.{has_left, has_right, has_either}
use Rattle.xk_source_semantics.specs.Parts.{Part, OfMethod, OfBody, Run, Calls, Starts, bodies, bodies_all, method_parts, opening, parts, runs, runs_all, part_runs, place_of}
use Rattle.xk_law_compiler.proofs.UnitLemmas.PartLookupLemmas.{Fits, found}

-- the bodies in a part
abbrev pub inner : Part → List Part
inner (OfMethod m) = bodies_all m.body
inner (OfBody at cs s) = bodies s

pub of_some : (b : Bool) (xs : List Run) (r : Run) → Has (cond b xs []) r → Has xs r
of_some true xs r h = h
of_some false xs r h = absurd h

-- ---- bodies that are started

record Started (ps : List Part) (r : Run) : Type 0 where
  part : Part
  among : Has ps part
  fits : Fits part r

more_left : (ps qs : List Part) (r : Run) → Started ps r → Started (ps ++ qs) r
more_left ps qs r h = record { part = h.part; among = has_left ps qs h.part h.among; fits = h.fits }

more_right : (ps qs : List Part) (r : Run) → Started qs r → Started (ps ++ qs) r
more_right ps qs r h = record { part = h.part; among = has_right ps qs h.part h.among; fits = h.fits }

mutual
  started : (s : Statement) (at : ℕ) → Has (runs s) (Starts at) → Started (bodies s) (Starts at)
  started (Block close ss) at h = started_all ss at h
  started (If p l c r s) at h = started s at h
  started (IfElse p l c r s u) at h = elim (has_either (runs s) (runs u) (Starts at) h) [
    | inl x ↦ more_left (bodies s) (bodies u) (Starts at) (started s at x)
    | inr y ↦ more_right (bodies s) (bodies u) (Starts at) (started u at y)
  ]
  started (For p i lo b s) at h = started s at (of_some (int_le lo.value (top b)) (runs s) (Starts at) h)
  started (Async a cs s) at (inl e) = record { part = OfBody a cs s; among = inl refl; fits = eq-eqb at a cc }
  started (Async a cs s) at (inr h) = absurd h
  started (Finish from s) at h = started s at h
  started (Call g p es) at (inl e) = absurd cc
  started (Call g p es) at (inr h) = absurd h
  started _ at h = absurd h

  started_all : (ss : Statements) (at : ℕ) → Has (runs_all ss) (Starts at) → Started (bodies_all ss) (Starts at)
  started_all Done at h = absurd h
  started_all (More s ss) at h = elim (has_either (runs s) (runs_all ss) (Starts at) h) [
    | inl x ↦ more_left (bodies s) (bodies_all ss) (Starts at) (started s at x)
    | inr y ↦ more_right (bodies s) (bodies_all ss) (Starts at) (started_all ss at y)
  ]

part_started : (p : Part) (at : ℕ) → Has (part_runs p) (Starts at) → Started (inner p) (Starts at)
part_started (OfMethod m) at h = started_all m.body at h
part_started (OfBody a cs s) at h = started s at h

-- ---- bodies in bodies

mutual
  deeper : (s : Statement) (p q : Part) → Has (bodies s) p → Has (inner p) q → Has (bodies s) q
  deeper (Block close ss) p q h d = deeper_all ss p q h d
  deeper (If a l c r s) p q h d = deeper s p q h d
  deeper (IfElse a l c r s u) p q h d = elim (has_either (bodies s) (bodies u) p h) [
    | inl x ↦ has_left (bodies s) (bodies u) q (deeper s p q x d)
    | inr y ↦ has_right (bodies s) (bodies u) q (deeper u p q y d)
  ]
  deeper (For a i lo hi s) p q h d = deeper s p q h d
  deeper (Async a cs s) p q (inl e) d = inr (subst (λ (o : Part). Has (inner o) q) e d)
  deeper (Async a cs s) p q (inr h) d = inr (deeper s p q h d)
  deeper (Finish from s) p q h d = deeper s p q h d
  deeper _ p q h d = absurd h

  deeper_all : (ss : Statements) (p q : Part) → Has (bodies_all ss) p → Has (inner p) q → Has (bodies_all ss) q
  deeper_all Done p q h d = absurd h
  deeper_all (More s ss) p q h d = elim (has_either (bodies s) (bodies_all ss) p h) [
    | inl x ↦ has_left (bodies s) (bodies_all ss) q (deeper s p q x d)
    | inr y ↦ has_right (bodies s) (bodies_all ss) q (deeper_all ss p q y d)
  ]

in_method : (m : MethodValue) (p q : Part) → Has (method_parts m) p → Has (inner p) q → Has (method_parts m) q
in_method m p q (inl e) d = inr (subst (λ (o : Part). Has (inner o) q) e d)
in_method m p q (inr h) d = inr (deeper_all m.body p q h d)

pub in_methods : (ms : List MethodValue) (p q : Part) → Has (flat_map method_parts ms) p → Has (inner p) q → Has (flat_map method_parts ms) q
in_methods [] p q h d = absurd h
in_methods (m ∷ ms) p q h d = elim (has_either (method_parts m) (flat_map method_parts ms) p h) [
  | inl x ↦ has_left (method_parts m) (flat_map method_parts ms) q (in_method m p q x d)
  | inr y ↦ has_right (method_parts m) (flat_map method_parts ms) q (in_methods ms p q y d)
]

-- ---- methods that are called

-- the method is known by this name
abbrev Known : Signatures → Word → Type 0
Known ms g = (ps : List ParamValue) × (find ms g.text ≡ Some ps)

-- the statement is sound where it stands
record SoundThere (ms : Signatures) (s : Statement) : Type 0 where
  scope : Scope
  itself : IsSound ms scope s
  inside : IsSoundInside ms scope s

mutual
  known : (ms : Signatures) (sc : Scope) (s : Statement) → IsSound ms sc s → IsSoundInside ms sc s → (g : Word) → Has (runs s) (Calls g) → Known ms g
  known ms sc (Block close ss) own inside g h = known_all ms sc ss inside g h
  known ms sc (If a l c r s) own inside g h = known ms sc s inside.0 inside.1 g h
  known ms sc (IfElse a l c r s u) own inside g h = elim (has_either (runs s) (runs u) (Calls g) h) [
    | inl x ↦ known ms sc s inside.0.0 inside.0.1 g x
    | inr y ↦ known ms sc u inside.1.0 inside.1.1 g y
  ]
  known ms sc (For a i lo b s) own inside g h =
      known ms (with_all sc (declares (length sc.bodies) (For a i lo b s))) s inside.0 inside.1 g (of_some (int_le lo.value (top b)) (runs s) (Calls g) h)
  known ms sc (Async a cs s) own inside g (inl e) = absurd cc
  known ms sc (Async a cs s) own inside g (inr h) = absurd h
  known ms sc (Finish from s) own inside g h = known ms sc s inside.0 inside.1 g h
  known ms sc (Call f a es) own inside g (inl e) = let c = own.callable f es refl in let same : f ≡ g = cc in (c.params, ap (λ (w : Word). find ms w.text) (sym same) ∙ c.found)
  known ms sc (Call f a es) own inside g (inr h) = absurd h
  known ms sc _ own inside g h = absurd h

  known_all : (ms : Signatures) (sc : Scope) (ss : Statements) → AreSound ms sc ss → (g : Word) → Has (runs_all ss) (Calls g) → Known ms g
  known_all ms sc Done sound g h = absurd h
  known_all ms sc (More s ss) sound g h = elim (has_either (runs s) (runs_all ss) (Calls g) h) [
    | inl x ↦ known ms sc s sound.0.0 sound.0.1 g x
    | inr y ↦ known_all ms (with_all sc (behind (length sc.bodies) s)) ss sound.1 g y
  ]

abbrev known_inside : (ms : Signatures) (p : Part) → Type 0
known_inside ms p = (g : Word) → Has (part_runs p) (Calls g) → Known ms g

mutual
  body_known : (ms : Signatures) (sc : Scope) (s : Statement) → IsSoundInside ms sc s → (p : Part) → Has (bodies s) p → known_inside ms p
  body_known ms sc (Block close ss) inside p h = bodies_known ms sc ss inside p h
  body_known ms sc (If a l c r s) inside p h = body_known ms sc s inside.1 p h
  body_known ms sc (IfElse a l c r s u) inside p h = elim (has_either (bodies s) (bodies u) p h) [
    | inl x ↦ body_known ms sc s inside.0.1 p x
    | inr y ↦ body_known ms sc u inside.1.1 p y
  ]
  body_known ms sc (For a i lo hi s) inside p h = body_known ms (with_all sc (declares (length sc.bodies) (For a i lo hi s))) s inside.1 p h
  body_known ms sc (Async a cs s) inside p (inl e) = λ g r. known ms (with_body sc (clocks_listed cs)) s inside.0 inside.1 g (subst (λ (o : Part). Has (part_runs o) (Calls g)) e r)
  body_known ms sc (Async a cs s) inside p (inr h) = body_known ms (with_body sc (clocks_listed cs)) s inside.1 p h
  body_known ms sc (Finish from s) inside p h = body_known ms sc s inside.1 p h
  body_known ms sc _ inside p h = absurd h

  bodies_known : (ms : Signatures) (sc : Scope) (ss : Statements) → AreSound ms sc ss → (p : Part) → Has (bodies_all ss) p → known_inside ms p
  bodies_known ms sc Done sound p h = absurd h
  bodies_known ms sc (More s ss) sound p h = elim (has_either (bodies s) (bodies_all ss) p h) [
    | inl x ↦ body_known ms sc s sound.0.1 p x
    | inr y ↦ bodies_known ms (with_all sc (behind (length sc.bodies) s)) ss sound.1 p y
  ]

method_known : (ms : Signatures) (sc : Scope) (m : MethodValue) → AreSound ms sc m.body → (p : Part) → Has (method_parts m) p → known_inside ms p
method_known ms sc m sound p (inl e) = λ g r. known_all ms sc m.body sound g (subst (λ (o : Part). Has (part_runs o) (Calls g)) e r)
method_known ms sc m sound p (inr h) = bodies_known ms sc m.body sound p h

part_known : (t : TreeValue) (ms : List MethodValue) → ((m : MethodValue) → Has ms m → AreSound (signatures t.methods) (method_scope t m) m.body)
    → (p : Part) → Has (flat_map method_parts ms) p → known_inside (signatures t.methods) p
part_known t [] sound p h = absurd h
part_known t (m ∷ ms) sound p h = elim (has_either (method_parts m) (flat_map method_parts ms) p h) [
  | inl x ↦ method_known (signatures t.methods) (method_scope t m) m (sound m (inl refl)) p x
  | inr y ↦ part_known t ms (λ n among. sound n (inr among)) p y
]

-- a method that is known is a part
signed : (ms : List MethodValue) (x : List ℕ) (ps : List ParamValue) → find (signatures ms) x ≡ Some ps
    → (m : MethodValue) × Has ms m × (is_text x m.name.text ≡ true)
signed [] x ps e = absurd cc
signed (m ∷ ms) x ps e = go (is_text x m.name.text) refl e (signed ms x ps)
  where
    go : (b : Bool) → is_text x m.name.text ≡ b → cond b (Some m.params) (find (signatures ms) x) ≡ Some ps
        → (find (signatures ms) x ≡ Some ps → (n : MethodValue) × Has ms n × (is_text x n.name.text ≡ true))
        → (n : MethodValue) × Has (m ∷ ms) n × (is_text x n.name.text ≡ true)
    go true is h later = (m, inl refl, is)
    go false is h later = let r = later h in (r.0, inr r.1, r.2)

is_part : (ms : List MethodValue) (m : MethodValue) → Has ms m → Has (flat_map method_parts ms) (OfMethod m)
is_part [] m h = absurd h
is_part (n ∷ ms) m (inl e) = has_left (method_parts n) (flat_map method_parts ms) (OfMethod m) (inl (ap OfMethod e))
is_part (n ∷ ms) m (inr h) = has_right (method_parts n) (flat_map method_parts ms) (OfMethod m) (is_part ms m h)

called : (t : TreeValue) (g : Word) → Known (signatures t.methods) g → (k : ℕ) × (place_of (parts t) (Calls g) ≡ Some k)
called t g h = let m = signed t.methods g.text h.0 h.1 in found (parts t) (Calls g) (OfMethod m.0) (is_part t.methods m.0 m.1) m.2

-- ---- together

pub has_place : (t : TreeValue) → IsScoped t → (p : Part) → Has (parts t) p → (r : Run) → Has (part_runs p) r
    → (k : ℕ) × (place_of (parts t) r ≡ Some k)
has_place t scoped p among (Calls g) h = called t g (part_known t t.methods scoped.bodies p among g h)
has_place t scoped p among (Starts at) h =
    let q = part_started p at h in found (parts t) (Starts at) q.part (in_methods t.methods p q.part among q.among) q.fits

main_params : (o : Option (List ParamValue)) → MayBegin o → (ps : List ParamValue) × (o ≡ Some ps)
main_params None h = absurd h
main_params (Some ps) h = (ps, refl)

pub main_place : (t : TreeValue) → IsScoped t → (k : ℕ) × (place_of (parts t) opening ≡ Some k)
main_place t scoped = called t (record { at = 0; text = codes "main" }) (main_params (find (signatures t.methods) (codes "main")) scoped.main)
