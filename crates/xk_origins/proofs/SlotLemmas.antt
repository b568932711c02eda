-- Slots are called as the code of a unit has them.
use Rattle.std.proofs.Common.{◌≡◌, ◌∙◌, ℕ, zero, suc, ◌+◌, List, [], ◌∷◌, ◌++◌, map, length, Option, Some, slice_get, All, refl, sym, ap, subst, arith, eq-eqb}
use Rattle.std.specs.List.{AllByRecursion}
use Rattle.std.specs.Option.{option_map_or}
use Rattle.std.proofs.lemmas.List.{append_assoc, append-nil, length-append}
use Rattle.std.proofs.lemmas.List.Elements.{All-from_recursion}
use Rattle.std.proofs.lemmas.Option.{none-some, same_Some}
use Rattle.xk_types.proofs.ListLemmas.{get-append_left}
use Rattle.xk_types.specs.Code.{ModuleValue}
use Rattle.xk_tree.specs.Tree.{Word, Bound, UpTo, Least, Statement, Statements, Done, More, Block, Empty, Declare, Assign, Atomic, If, IfElse, For, Async, Finish, Call, Resume, Drop, AdvanceAll, Print, TreeValue}
use Rattle.xk_tree.specs.AsyncOffsets.{HasBodiesApart}
use Rattle.xk_names.specs.Scope.{texts}
use Rattle.xk_names.specs.Uses.{clocks_listed}
use Rattle.xk_names.specs.Captures.{loop_words}
use Rattle.xk_emit.specs.CodeOf.{Body, Scope, Setting, count, count_all, declared, loop_slots, within_loop}
use Rattle.xk_emit.specs.Unit.{scope_from}
use Rattle.xk_source_semantics.specs.Parts.{Part, OfMethod, OfBody, Starts}
use Rattle.xk_source_semantics.specs.Compilation.{IsCompiled}
use Rattle.xk_callgraph.proofs.CallPlaceLemmas.{has_at}
use Rattle.xk_law_compiler.proofs.CompiledOnceLaw.{one_units}
use Rattle.xk_law_compiler.proofs.UnitLemmas.PartLookupLemmas.{found}
use Rattle.xk_law_compiler.proofs.UnitLemmas.SettingLemmas.{AreSettled, body_unit_of}
use Rattle.xk_unit_origins.specs.UnitOrigins.{UnitOrigins, slots_at}
use Rattle.xk_origins.specs.UnitOrigins.{names, names_all, params, slot_names, unit_origins}
use Rattle.xk_origins.specs.VisibleNames.{AreSlotNames, IsNamed, scopes, scopes_all, unit_body, unit_params}
use Rattle.xk_origins.specs.Laws.{AreOrigins}

-- ---- as many names as slots

loop_length : (i : Word) (b : Bound) → length (texts (loop_words i b)) ≡ loop_slots b
loop_length i (UpTo n) = refl
loop_length i (Least x v e n) = refl

mutual
  names_length : (s : Statement) → length (names s) ≡ count s
  names_length (Block close ss) = names_all_length ss
  names_length Empty = refl
  names_length (Declare b x ty r) = refl
  names_length (Assign x e) = refl
  names_length (Atomic x y at e) = refl
  names_length (If at l op r s) = names_length s
  names_length (IfElse at l op r s u) = omega (arith, length-append (names s) (names u), names_length s, names_length u)
  names_length (For at i lo b s) = omega (arith, length-append (texts (loop_words i b)) (names s), loop_length i b, names_length s)
  names_length (Async at cs s) = refl
  names_length (Finish at s) = names_length s
  names_length (Call f at es) = refl
  names_length (Resume c v) = refl
  names_length (Drop c v) = refl
  names_length (AdvanceAll at v) = refl
  names_length (Print at v e) = refl

  names_all_length : (ss : Statements) → length (names_all ss) ≡ count_all ss
  names_all_length Done = refl
  names_all_length (More s ss) = omega (arith, length-append (names s) (names_all ss), names_length s, names_all_length ss)

-- ---- what is visible has a slot of its name

-- by recursion on the scope
abbrev Named : List (List ℕ) → Scope → Type 0
Named slots = AllByRecursion (λ e. slice_get slots e.1 ≡ Some e.0)

get_next : {A : Type 0} (xs : List A) (y : A) (ys : List A) → slice_get (xs ++ y ∷ ys) (length xs) ≡ Some y
get_next [] y ys = refl
get_next (x ∷ xs) y ys = get_next xs y ys

-- further slots change nothing
named_more : (front rest : List (List ℕ)) (scope : Scope) → Named front scope → Named (front ++ rest) scope
named_more front rest [] h = tt
named_more front rest (e ∷ es) h = (get-append_left front rest e.1 e.0 h.0, named_more front rest es h.1)

-- the next slot is called by the name that is declared
named_push : (front : List (List ℕ)) (x : List ℕ) (rest : List (List ℕ)) (n : ℕ) (scope : Scope) → n ≡ length front → Named front scope
    → Named (front ++ x ∷ rest) (scope ++ (x, n) ∷ [])
named_push front x rest n [] e h = (ap (slice_get (front ++ x ∷ rest)) e ∙ get_next front x rest, tt)
named_push front x rest n (d ∷ ds) e h = (get-append_left front (x ∷ rest) d.1 d.0 h.0, named_push front x rest n ds e h.1)

named_loop : (front : List (List ℕ)) (n : ℕ) (scope : Scope) (i : Word) (b : Bound) → n ≡ length front → Named front scope
    → Named (front ++ texts (loop_words i b)) (within_loop scope n i b)
named_loop front n scope i (UpTo hi) e h = named_push front i.text [] n scope e h
named_loop front n scope i (Least x v c hi) e h =
    let first = named_push front i.text [] n scope e h in
    let next : n + 1 ≡ length (front ++ i.text ∷ []) = omega (arith, length-append front (i.text ∷ []), e) in
    subst (λ (l : List (List ℕ)). Named l ((scope ++ (i.text, n) ∷ []) ++ (x.text, n + 1) ∷ [])) (append_assoc front (i.text ∷ []) (x.text ∷ []))
    (named_push (front ++ i.text ∷ []) x.text [] (n + 1) (scope ++ (i.text, n) ∷ []) next first)

named_declared : (front : List (List ℕ)) (n : ℕ) (scope : Scope) (s : Statement) → n ≡ length front → Named front scope → Named (front ++ names s) (declared scope n s)
named_declared front n scope (Declare b x ty r) e h = named_push front x.text [] n scope e h
named_declared front n scope (Block close ss) e h = named_more front (names_all ss) scope h
named_declared front n scope (If at l op r s) e h = named_more front (names s) scope h
named_declared front n scope (IfElse at l op r s u) e h = named_more front (names s ++ names u) scope h
named_declared front n scope (For at i lo b s) e h = named_more front (texts (loop_words i b) ++ names s) scope h
named_declared front n scope (Finish at s) e h = named_more front (names s) scope h
named_declared front n scope _ e h = named_more front [] scope h

-- each of these scopes is named
abbrev AllNamed : List (List ℕ) → List Scope → Type 0
AllNamed slots = AllByRecursion (IsNamed slots)

both : (slots : List (List ℕ)) (xs ys : List Scope) → AllNamed slots xs → AllNamed slots ys → AllNamed slots (xs ++ ys)
both slots [] ys h k = k
both slots (x ∷ xs) ys h k = (h.0, both slots xs ys h.1 k)

-- of all slots, these are in front
is_named : (slots front rest : List (List ℕ)) (scope : Scope) → slots ≡ front ++ rest → Named front scope → IsNamed slots scope
is_named slots front rest scope e h =
    subst (λ (l : List (List ℕ)). IsNamed l scope) (sym e)
    (All-from_recursion (λ (d : List ℕ × ℕ). slice_get (front ++ rest) d.1 ≡ Some d.0) scope (named_more front rest scope h))

module _ (slots : List (List ℕ)) where
  -- a statement that holds none
  leaf : (front rest : List (List ℕ)) (n : ℕ) (scope : Scope) (s : Statement) → slots ≡ front ++ (names s ++ rest) → n ≡ length front → Named front scope
      → AllNamed slots (scope ∷ declared scope n s ∷ [])
  leaf front rest n scope s e at h = (
    is_named slots front (names s ++ rest) scope e h,
    (is_named slots (front ++ names s) rest (declared scope n s) (e ∙ sym (append_assoc front (names s) rest)) (named_declared front n scope s at h), tt),
  )

  mutual
    pub all_named : (s : Statement) (front rest : List (List ℕ)) (n : ℕ) (scope : Scope) → slots ≡ front ++ (names s ++ rest) → n ≡ length front → Named front scope
        → AllNamed slots (scopes scope n s)
    all_named (Block close ss) front rest n scope e at h = named_in_row ss front rest n scope e at h
    all_named (If p l op r s) front rest n scope e at h = (is_named slots front (names s ++ rest) scope e h, all_named s front rest n scope e at h)
    all_named (IfElse p l op r s u) front rest n scope e at h =
        let far : slots ≡ front ++ (names s ++ (names u ++ rest)) = e ∙ ap (λ k. front ++ k) (append_assoc (names s) (names u) rest) in
        let next : n + count s ≡ length (front ++ names s) = omega (arith, length-append front (names s), names_length s, at) in (
          is_named slots front (names s ++ (names u ++ rest)) scope far h,
          both slots (scopes scope n s) (scopes scope (n + count s) u) (all_named s front (names u ++ rest) n scope far at h)
              (all_named u (front ++ names s) rest (n + count s) scope (far ∙ sym (append_assoc front (names s) (names u ++ rest))) next (named_more front (names s) scope h)),
        )
    all_named (For p i lo b s) front rest n scope e at h =
        let own = texts (loop_words i b) in
        let far : slots ≡ front ++ (own ++ (names s ++ rest)) = e ∙ ap (λ k. front ++ k) (append_assoc own (names s) rest) in
        let next : n + loop_slots b ≡ length (front ++ own) = omega (arith, length-append front own, loop_length i b, at) in (
          is_named slots front (own ++ (names s ++ rest)) scope far h,
          all_named s (front ++ own) rest (n + loop_slots b) (within_loop scope n i b) (far ∙ sym (append_assoc front own (names s ++ rest))) next
              (named_loop front n scope i b at h),
        )
    all_named (Finish p s) front rest n scope e at h = (is_named slots front (names s ++ rest) scope e h, all_named s front rest n scope e at h)
    all_named Empty front rest n scope e at h = leaf front rest n scope Empty e at h
    all_named (Declare b x ty r) front rest n scope e at h = leaf front rest n scope (Declare b x ty r) e at h
    all_named (Assign x c) front rest n scope e at h = leaf front rest n scope (Assign x c) e at h
    all_named (Atomic x y p c) front rest n scope e at h = leaf front rest n scope (Atomic x y p c) e at h
    all_named (Async p cs s) front rest n scope e at h = leaf front rest n scope (Async p cs s) e at h
    all_named (Call f p es) front rest n scope e at h = leaf front rest n scope (Call f p es) e at h
    all_named (Resume c v) front rest n scope e at h = leaf front rest n scope (Resume c v) e at h
    all_named (Drop c v) front rest n scope e at h = leaf front rest n scope (Drop c v) e at h
    all_named (AdvanceAll p v) front rest n scope e at h = leaf front rest n scope (AdvanceAll p v) e at h
    all_named (Print p v c) front rest n scope e at h = leaf front rest n scope (Print p v c) e at h

    named_in_row : (ss : Statements) (front rest : List (List ℕ)) (n : ℕ) (scope : Scope) → slots ≡ front ++ (names_all ss ++ rest) → n ≡ length front
        → Named front scope → AllNamed slots (scopes_all scope n ss)
    named_in_row Done front rest n scope e at h = tt
    named_in_row (More s ss) front rest n scope e at h =
        let far : slots ≡ front ++ (names s ++ (names_all ss ++ rest)) = e ∙ ap (λ k. front ++ k) (append_assoc (names s) (names_all ss) rest) in
        let next : n + count s ≡ length (front ++ names s) = omega (arith, length-append front (names s), names_length s, at) in
        both slots (scopes scope n s) (scopes_all (declared scope n s) (n + count s) ss) (all_named s front (names_all ss ++ rest) n scope far at h)
        (named_in_row ss (front ++ names s) rest (n + count s) (declared scope n s) (far ∙ sym (append_assoc front (names s) (names_all ss ++ rest))) next
        (named_declared front n scope s at h))

-- ---- units

-- the slots of parameters are called by these
params_named : (front xs : List (List ℕ)) (n : ℕ) → n ≡ length front → Named (front ++ xs) (scope_from n xs)
params_named front [] n e = tt
params_named front (x ∷ xs) n e =
    let next : n + 1 ≡ length (front ++ x ∷ []) = omega (arith, length-append front (x ∷ []), e) in (
      ap (slice_get (front ++ x ∷ xs)) e ∙ get_next front x xs,
      subst (λ (l : List (List ℕ)). Named l (scope_from (n + 1) xs)) (append_assoc front (x ∷ []) xs) (params_named (front ++ x ∷ []) xs (n + 1) next),
    )

unit_named : (xs : List (List ℕ)) (s : Statement) → AllNamed (xs ++ names s) (scopes (scope_from 0 xs) (length xs) s)
unit_named xs s =
    all_named (xs ++ names s) s xs [] (length xs) (scope_from 0 xs) (ap (λ k. xs ++ k) (sym (append-nil (names s)))) refl (params_named [] xs 0 refl)

names_of_unit : (cx : Setting) (p : Part) (xs : List (List ℕ)) → unit_params cx p ≡ xs → AreSlotNames cx p (xs ++ names (unit_body p))
names_of_unit cx p xs e =
    let s = unit_body p in
    let slots = xs ++ names s in
    record {
      visible = subst (λ (ys : List (List ℕ)). All (IsNamed slots) (scopes (scope_from 0 ys) (length ys) s)) (sym e)
          (All-from_recursion (IsNamed slots) (scopes (scope_from 0 xs) (length xs) s) (unit_named xs s));
      temporaries = length-append xs (names s) ∙ ap (λ n. length xs + n) (names_length s) ∙ ap (λ (ys : List (List ℕ)). length ys + count s) (sym e);
    }

module _ (t : TreeValue) (units : List Part) (cx : Setting) (h : AreSettled t units cx) where
  -- the parameters of a unit are called as the tree has them
  params_settled : (k : ℕ) (p : Part) → slice_get units k ≡ Some p → unit_params cx p ≡ params t p
  params_settled k (OfMethod m) there = refl
  params_settled k (OfBody at cs s) there =
      let n = found units (Starts at) (OfBody at cs s) (has_at units k (OfBody at cs s) there) (eq-eqb at at refl) in
      let is = (body_unit_of t units cx h at cs s n.0 (h.are_units.within k (OfBody at cs s) there) n.1).entry in
      ap (λ (o : Option Body). texts (clocks_listed cs) ++ option_map_or (λ (b : Body). b.captures) o []) is

  named_as : (p : Part) → unit_params cx p ≡ params t p → AreSlotNames cx p (slot_names t p)
  named_as (OfMethod m) e = names_of_unit cx (OfMethod m) (params t (OfMethod m)) e
  named_as (OfBody at cs s) e = names_of_unit cx (OfBody at cs s) (params t (OfBody at cs s)) e

  slots_settled : (k : ℕ) (p : Part) → slice_get units k ≡ Some p → AreSlotNames cx p (slot_names t p)
  slots_settled k p there = named_as p (params_settled k p there)

slots_there : (t : TreeValue) (ps : List Part) (k : ℕ) (p : Part) → slice_get ps k ≡ Some p → slots_at (map (unit_origins t) ps) k ≡ slot_names t p
slots_there t [] k p h = absurd (none-some p h)
slots_there t (q ∷ ps) zero p h = ap (slot_names t) (same_Some q p h)
slots_there t (q ∷ ps) (suc k) p h = slots_there t ps k p h

-- the slots of a compiled module's units are called so
pub are_slot_names : (t : TreeValue) (m : ModuleValue) (os : List UnitOrigins) → HasBodiesApart t → (c : IsCompiled t m) → AreOrigins t os
    → (k : ℕ) (p : Part) → slice_get c.units k ≡ Some p → AreSlotNames c.setting p (slots_at os k)
are_slot_names t m os apart c o k p there =
    let are : os ≡ map (unit_origins t) c.units = o.are ∙ ap (map (unit_origins t)) (one_units t o.units c.units o.are_units c.are_units) in
    let same : slots_at os k ≡ slot_names t p = ap (λ (l : List UnitOrigins). slots_at l k) are ∙ slots_there t c.units k p there in
    subst (λ (l : List (List ℕ)). AreSlotNames c.setting p l) (sym same)
    (slots_settled t c.units c.setting (record { apart = apart; are_units = c.are_units; is_setting = c.is_setting }) k p there)
