-- The setting of a program's units has what the code of each of them leads to.
use Rattle.std.proofs.Common.{◌≡◌, inl, inr, ℕ, suc, ◌+◌, ◌<◌, Bool, true, false, cond, ◌||◌, List, [], ◌∷◌, ◌++◌, length, Option, Some, slice_get, nat_eq, refl, sym, ap, ◌∙◌, subst, arith, eqb-true}
use Rattle.std.specs.Prelude.{is_some, int_le, option_map}
use Rattle.std.proofs.lemmas.Option.{none-some}
use Rattle.xk_tree.specs.Tree.{Word, Clocks, Statement, Statements, Done, More, Block, Empty, Declare, Assign, Atomic, If, IfElse, For, top, Async, Finish, Call, Resume, Drop, AdvanceAll, Print, SharedValue, TreeValue}
use Rattle.xk_tree.specs.AsyncOffsets.{HasBodiesApart}
use Rattle.xk_names.specs.Scope.{Has, has, find, is_text}
use Rattle.xk_names.specs.Uses.{signatures}
use Rattle.xk_names.specs.Captures.{shared_texts}
use Rattle.xk_names.proofs.MembershipLemmas.{has_left, has_right, has_either}
use Rattle.xk_emit.specs.CodeOf.{Setting, body_at}
use Rattle.xk_emit.specs.NameCoverage.{IsFound}
use Rattle.xk_emit.specs.CodeReferences.{AsyncBody, bodies_in, bodies_in_all, calls_in, calls_in_all, IsSettled}
use Rattle.xk_emit.proofs.CoverageLemmas.StatementLemmas.{Settled}
use Rattle.xk_source_semantics.specs.Parts.{Part, OfMethod, OfBody, Run, Calls, Starts, bodies, bodies_all, parts, runs, runs_all, part_runs, place_of, body_among}
use Rattle.xk_source_semantics.specs.Compilation.{AreUnits, IsSetting, shared_among, settled_body, taken, unit_number}
use Rattle.xk_law_compiler.proofs.UnitLemmas.PartUniquenessLemmas.{same_body}

-- ---- shared numbers

shared_named : (i : ℕ) (ss : List SharedValue) (x : List ℕ) → is_some (shared_among i ss x) ≡ has (shared_texts ss) x
shared_named i [] x = refl
shared_named i (s ∷ ss) x = go (is_text x s.name.text) (shared_named (suc i) ss x)
  where
    go : (b : Bool) → is_some (shared_among (suc i) ss x) ≡ has (shared_texts ss) x
        → is_some (cond b (Some i) (shared_among (suc i) ss x)) ≡ (b || has (shared_texts ss) x)
    go true h = refl
    go false h = h

pub shared_below : (i : ℕ) (ss : List SharedValue) (x : List ℕ) (k : ℕ) → shared_among i ss x ≡ Some k → k < i + length ss
shared_below i [] x k e = absurd (none-some k e)
shared_below i (s ∷ ss) x k e = go (is_text x s.name.text) e (shared_below (suc i) ss x k)
  where
    go : (b : Bool) → cond b (Some i) (shared_among (suc i) ss x) ≡ Some k → (shared_among (suc i) ss x ≡ Some k → k < suc i + length ss)
        → k < i + suc (length ss)
    go true h later = let same : i ≡ k = cc in omega arith
    go false h later = let less = later h in omega arith

pub shared_placed : (t : TreeValue) (units : List Part) (cx : Setting) → IsSetting t units cx → (x : List ℕ)
    → is_some (find cx.shared x) ≡ has (shared_texts t.shared) x
shared_placed t units cx setting x = ap is_some (setting.shared x) ∙ shared_named 0 t.shared x

-- ---- bodies

-- the entry of a body that has a unit
record Entry (t : TreeValue) (i : ℕ) (ps : List Part) (at n : ℕ) : Type 0 where
  clocks : Option Clocks
  body : Statement
  steps : ℕ
  far : n ≡ i + steps
  stands : slice_get ps steps ≡ Some (OfBody at clocks body)
  is : settled_body t i ps at ≡ Some (record { unit = unit_number n; captures = taken t body })

entry_on : (t : TreeValue) (i : ℕ) (q : Part) (ps : List Part) (at n : ℕ) (h : Entry t (suc i) ps at n)
    → settled_body t i (q ∷ ps) at ≡ settled_body t (suc i) ps at
    → Entry t i (q ∷ ps) at n
entry_on t i q ps at n h e = record { clocks = h.clocks; body = h.body; steps = suc h.steps; far = (let f = h.far in omega arith); stands = h.stands; is = e ∙ h.is }

entry : (t : TreeValue) (i : ℕ) (ps : List Part) (at n : ℕ) → body_among i ps at ≡ Some n → Entry t i ps at n
entry t i [] at n e = absurd (none-some n e)
entry t i (OfMethod m ∷ ps) at n e = entry_on t i (OfMethod m) ps at n (entry t (suc i) ps at n e) refl
entry t i (OfBody a cs s ∷ ps) at n e = go (nat_eq at a) refl e (entry t (suc i) ps at n)
  where
    go : (b : Bool) → nat_eq at a ≡ b → cond b (Some i) (body_among (suc i) ps at) ≡ Some n
        → (body_among (suc i) ps at ≡ Some n → Entry t (suc i) ps at n)
        → Entry t i (OfBody a cs s ∷ ps) at n
    go true d h later =
        let same : i ≡ n = cc in
        let here : at ≡ a = eqb-true at a d in
        record {
          clocks = cs;
          body = s;
          steps = 0;
          far = omega arith;
          stands = ap (λ k. Some (OfBody k cs s)) (sym here);
          is = ap (λ b. cond b (Some (record { unit = unit_number i; captures = taken t s })) (settled_body t (suc i) ps at)) d
              ∙ ap (λ k. Some (record { unit = unit_number k; captures = taken t s })) same;
        }
    go false d h later =
        entry_on t i (OfBody a cs s) ps at n (later h)
        (ap (λ b. cond b (Some (record { unit = unit_number i; captures = taken t s })) (settled_body t (suc i) ps at)) d)

-- ---- what is known of the units

pub record AreSettled (t : TreeValue) (units : List Part) (cx : Setting) : Type 0 where
  pub apart : HasBodiesApart t
  pub are_units : AreUnits t units
  pub is_setting : IsSetting t units cx

-- each has a unit
abbrev pub HavePlaces : List Part → List Run → Type 0
HavePlaces units rs = (r : Run) → Has rs r → (n : ℕ) × (place_of units r ≡ Some n)

-- each is a part of the tree
abbrev pub AreParts : TreeValue → List Part → Type 0
AreParts t ps = (p : Part) → Has ps p → Has (parts t) p

-- the unit of a body that is started
pub record BodyUnit (t : TreeValue) (units : List Part) (cx : Setting) (at : ℕ) (cs : Option Clocks) (s : Statement) (n : ℕ) : Type 0 where
  pub stands : slice_get units n ≡ Some (OfBody at cs s)
  pub entry : body_at cx at ≡ Some (record { unit = unit_number n; captures = taken t s })

of_part : (t : TreeValue) (units : List Part) (cx : Setting) (at : ℕ) (cs ds : Option Clocks) (s u : Statement) (n : ℕ)
    → OfBody at ds u ≡ OfBody at cs s
    → slice_get units n ≡ Some (OfBody at ds u) → body_at cx at ≡ Some (record { unit = unit_number n; captures = taken t u })
    → BodyUnit t units cx at cs s n
of_part t units cx at cs ds s u n e stands entry =
    let same : u ≡ s = cc in
    record {
      stands = stands ∙ ap Some e;
      entry = entry ∙ ap (λ v. Some (record { unit = unit_number n; captures = taken t v })) same;
    }

pub body_unit_of : (t : TreeValue) (units : List Part) (cx : Setting) → AreSettled t units cx → (at : ℕ) (cs : Option Clocks) (s : Statement) (n : ℕ)
    → Has (parts t) (OfBody at cs s) → place_of units (Starts at) ≡ Some n → BodyUnit t units cx at cs s n
body_unit_of t units cx h at cs s n there place =
    let e = entry t 0 units at n place in
    let far = e.far in
    let same : e.steps ≡ n = omega arith in
    let stands : slice_get units n ≡ Some (OfBody at e.clocks e.body) = subst (λ k. slice_get units k ≡ Some (OfBody at e.clocks e.body)) same e.stands in
    of_part t units cx at cs e.clocks s e.body n
    (same_body t h.apart at e.clocks cs e.body s (h.are_units.within n (OfBody at e.clocks e.body) stands) there) stands (h.is_setting.bodies at ∙ e.is)

-- ---- what a statement's code leads to is settled

none_settled : (t : TreeValue) (cx : Setting) → Settled cx (signatures t.methods) (shared_texts t.shared) [] []
none_settled t cx = record { methods = λ f h. absurd h; entries = λ b h. absurd h }

both_settled : (t : TreeValue) (cx : Setting) (fs gs : List Word) (bs ds : List AsyncBody)
    → Settled cx (signatures t.methods) (shared_texts t.shared) fs bs
    → Settled cx (signatures t.methods) (shared_texts t.shared) gs ds
    → Settled cx (signatures t.methods) (shared_texts t.shared) (fs ++ gs) (bs ++ ds)
both_settled t cx fs gs bs ds a b = record {
  methods = λ f h. elim (has_either fs gs f h) [ inl x ↦ a.methods f x | inr y ↦ b.methods f y ];
  entries = λ e h. elim (has_either bs ds e h) [ inl x ↦ a.entries e x | inr y ↦ b.entries e y ];
}

one_entry : (t : TreeValue) (cx : Setting) (b : AsyncBody) (fs : List Word) (bs : List AsyncBody)
    → IsSettled cx (signatures t.methods) (shared_texts t.shared) b
    → Settled cx (signatures t.methods) (shared_texts t.shared) fs bs → Settled cx (signatures t.methods) (shared_texts t.shared) fs (b ∷ bs)
one_entry t cx b fs bs one more = record {
  methods = more.methods;
  entries = λ e h. elim h [ inl x ↦ subst (IsSettled cx (signatures t.methods) (shared_texts t.shared)) (sym x) one | inr y ↦ more.entries e y ];
}

module _ (t : TreeValue) (units : List Part) (cx : Setting) (h : AreSettled t units cx) where
  method_found : (f : Word) (n : ℕ) → place_of units (Calls f) ≡ Some n → IsFound cx.methods f.text
  method_found f n e = ap is_some (h.is_setting.methods f.text ∙ ap (option_map unit_number) e)

  one_call : (f : Word) (n : ℕ) → place_of units (Calls f) ≡ Some n → Settled cx (signatures t.methods) (shared_texts t.shared) (f ∷ []) []
  one_call f n e = record {
    methods = λ g k. elim k [ inl x ↦ subst (λ (w : Word). IsFound cx.methods w.text) (sym x) (method_found f n e) | inr y ↦ absurd y ];
    entries = λ b k. absurd k;
  }

  -- the places of what a unit runs
  pub run_places : (k : ℕ) (p : Part) → slice_get units k ≡ Some p → HavePlaces units (part_runs p)
  run_places k p e r there = let l = h.are_units.closed k p r e there in (l.number, l.place)

  mutual
    settled : (s : Statement) → AreParts t (bodies s) → HavePlaces units (runs s)
        → Settled cx (signatures t.methods) (shared_texts t.shared) (calls_in s) (bodies_in s)
    settled (Block close ss) among places = settled_all ss among places
    settled (If at l op r s) among places = settled s among places
    settled (IfElse at l op r s u) among places =
        both_settled t cx (calls_in s) (calls_in u) (bodies_in s) (bodies_in u)
        (settled s (λ p i. among p (has_left (bodies s) (bodies u) p i)) (λ r i. places r (has_left (runs s) (runs u) r i)))
        (settled u (λ p i. among p (has_right (bodies s) (bodies u) p i)) (λ r i. places r (has_right (runs s) (runs u) r i)))
    settled (For at i lo b s) among places = go (int_le lo.value (top b)) places (settled s among)
      where
        go : (b : Bool) → HavePlaces units (cond b (runs s) [])
            → (HavePlaces units (runs s) → Settled cx (signatures t.methods) (shared_texts t.shared) (calls_in s) (bodies_in s))
            → Settled cx (signatures t.methods) (shared_texts t.shared) (cond b (calls_in s) []) (cond b (bodies_in s) [])
        go true there later = later there
        go false there later = none_settled t cx
    settled (Async at cs s) among places =
        let n = places (Starts at) (inl refl) in
        let u = body_unit_of t units cx h at cs s n.0 (among (OfBody at cs s) (inl refl)) n.1 in
        one_entry t cx (record { at = at; clocks = cs; body = s }) (calls_in s) (bodies_in s)
        (record { entry = record { unit = unit_number n.0; captures = taken t s }; there = u.entry; captures = refl })
        (settled s (λ p i. among p (inr i)) (run_places n.0 (OfBody at cs s) u.stands))
    settled (Finish at s) among places = settled s among places
    settled (Call f at es) among places = let n = places (Calls f) (inl refl) in one_call f n.0 n.1
    settled Empty among places = none_settled t cx
    settled (Declare b x ty r) among places = none_settled t cx
    settled (Assign x e) among places = none_settled t cx
    settled (Atomic x y at e) among places = none_settled t cx
    settled (Resume c v) among places = none_settled t cx
    settled (Drop c v) among places = none_settled t cx
    settled (AdvanceAll at v) among places = none_settled t cx
    settled (Print at v e) among places = none_settled t cx

    pub settled_all : (ss : Statements) → AreParts t (bodies_all ss) → HavePlaces units (runs_all ss)
        → Settled cx (signatures t.methods) (shared_texts t.shared) (calls_in_all ss) (bodies_in_all ss)
    settled_all Done among places = none_settled t cx
    settled_all (More s ss) among places =
        both_settled t cx (calls_in s) (calls_in_all ss) (bodies_in s) (bodies_in_all ss)
        (settled s (λ p i. among p (has_left (bodies s) (bodies_all ss) p i)) (λ r i. places r (has_left (runs s) (runs_all ss) r i)))
        (settled_all ss (λ p i. among p (has_right (bodies s) (bodies_all ss) p i)) (λ r i. places r (has_right (runs s) (runs_all ss) r i)))
