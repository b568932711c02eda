-- What is left of an activity's code, and what is left of its statements.
use Rattle.std.proofs.Common.{◌≡◌, ℕ, zero, suc, ◌+◌, ◌<◌, ◌≤◌, Bool, true, false, cond, List, [], ◌∷◌, ◌++◌, length, ℤ, int_le, Some, None, Option, refl, sym, ap, ◌∙◌, subst, arith, ◌⊎◌, inl, inr, append_assoc, length-append}
use Rattle.std.specs.Prelude.{slice_get, slice_set, ⊤}
use Rattle.std.proofs.lemmas.Bool.{false≢true}
use Rattle.std.proofs.lemmas.Option.{none-some, same_Some}
use Rattle.xk_names.proofs.TableLemmas.{none_there}
use Rattle.xk_types.specs.declared.instr.Instr.{Instr}
use Rattle.xk_types.specs.declared.instr.Instr.TheVariants as instr
use Rattle.xk_types.specs.declared.world.Value.{Value as Held}
use Rattle.xk_types.specs.Code.{ModuleValue, Loop, loop_head}
use Rattle.xk_types.proofs.ListLemmas.{get-set_same, get-set_other}
use Rattle.xk_tree.specs.declared.tree.Number.{Number}
use Rattle.xk_tree.specs.Tree.{Word, Expression, Make, Value, Bound, UpTo, Least, top, Statement, Block, Empty, Declare, Assign, Atomic, If, IfElse, For, Async, Finish, Call, Print, Statements, Done, More, MethodValue, TreeValue}
use Rattle.xk_names.specs.Scope.{find, is_text}
use Rattle.xk_emit.specs.CodeOf.{Setting, Scope, number_of, body_unit, body_params, loop_slots, within_loop, before_into, last_into, before_bound, head_of, before, before_assigned, count, count_all, declared, declared_by_all, code_of, code_of_all}
use Rattle.xk_emit.specs.Unit.{unit_of_body}
use Rattle.xk_emit.specs.NameCoverage.{IsNew, IsCovered, AreCovered, IsUnitCovered}
use Rattle.xk_emit.proofs.CoverageLemmas.TableLemmas.{is_same, found_behind}
use Rattle.xk_names.proofs.TableAgreementLemmas.{find_behind, or_entry, same_text}
use Rattle.xk_source_semantics.specs.Parts.{Part, OfMethod, OfBody}
use Rattle.xk_source_semantics.specs.Source.{Todo, Do, Turn, Close, Names, unfolded, unfolded_all, method_of}
use Rattle.xk_law_compiler.proofs.PlaceLemmas.{code_in, Lies, LieAll, is_block, is_first, are_others}
use Rattle.xk_law_compiler.proofs.ExpressionLemmas.{IsBelow, IsMatched, below_more, AreStraight, eval_straight, straight_join, both_straight, args_straight, into_straight, last_straight}

-- ---- code at a place, or any other list

abbrev pub HoldsAt : {A : Type 0} → List A → ℕ → List A → Type 0
HoldsAt code p [] = ⊤
HoldsAt code p (i ∷ is) = (slice_get code p ≡ Some i) × HoldsAt code (p + 1) is

pub holds_front : {A : Type 0} (code : List A) (p : ℕ) (xs ys : List A) → HoldsAt code p (xs ++ ys) → HoldsAt code p xs
holds_front code p [] ys h = tt
holds_front code p (i ∷ xs) ys h = (h.0, holds_front code (p + 1) xs ys h.1)

pub holds_back : {A : Type 0} (code : List A) (p : ℕ) (xs ys : List A) → HoldsAt code p (xs ++ ys) → HoldsAt code (p + length xs) ys
holds_back code p [] ys h = let e : p ≡ p + 0 = omega arith in subst (λ n. HoldsAt code n ys) e h
holds_back code p (i ∷ xs) ys h =
    let e : p + 1 + length xs ≡ p + length (i ∷ xs) = omega arith in
    subst (λ n. HoldsAt code n ys) e (holds_back code (p + 1) xs ys h.1)

-- code holds all of itself
holds_behind : {A : Type 0} (xs ys : List A) → HoldsAt (xs ++ ys) (length xs) ys
holds_behind xs [] = tt
holds_behind {A} xs (y ∷ ys) =
    let whole : (xs ++ y ∷ []) ++ ys ≡ xs ++ y ∷ ys = append_assoc xs (y ∷ []) ys in
    let long : length (xs ++ y ∷ []) ≡ length xs + 1 = length-append xs (y ∷ []) in
    (at_end xs ys, subst (λ n. HoldsAt (xs ++ y ∷ ys) n ys) long (subst (λ c. HoldsAt c (length (xs ++ y ∷ [])) ys) whole (holds_behind (xs ++ y ∷ []) ys)))
  where
    at_end : (zs rest : List A) → slice_get (zs ++ y ∷ rest) (length zs) ≡ Some y
    at_end [] rest = refl
    at_end (z ∷ zs) rest = at_end zs rest

pub holds_all : {A : Type 0} (code : List A) → HoldsAt code 0 code
holds_all code = holds_behind [] code

-- from one place through jumps to another
abbrev pub Along : List Instr → ℕ → List ℕ → ℕ → Type 0
Along code p [] q = p ≡ q
Along code p (t ∷ ts) q = (slice_get code p ≡ Some (instr.Jump t)) × Along code t ts q

-- ---- scopes

-- slots are below n, and names have slots of their own
pub record IsProper (scope : Scope) (n : ℕ) : Type 0 where
  pub below : IsBelow scope n
  pub apart : (x y : List ℕ) (s : ℕ) → find scope x ≡ Some s → find scope y ≡ Some s → x ≡ y

abbrev pub IsWithin : Scope → Scope → Type 0
IsWithin scope more = (x : List ℕ) (s : ℕ) → find scope x ≡ Some s → find more x ≡ Some s

pub push_within : (scope : Scope) (x : List ℕ) (n : ℕ) → IsWithin scope (scope ++ (x, n) ∷ [])
push_within scope x n y s h = find_behind scope x n y ∙ ap (λ o. or_entry o (is_text y x) n) h

pub push_proper : (scope : Scope) (x : List ℕ) (n : ℕ) → IsProper scope n → IsProper (scope ++ (x, n) ∷ []) (n + 1)
push_proper scope x n p = record {
  below = λ y s h. low y s (found_behind scope x n y s h);
  apart = λ y z s h g. same y z s (found_behind scope x n y s h) (found_behind scope x n z s g);
}
  where
    New : List ℕ → ℕ → Type 0
    New y s = (find scope y ≡ Some s) ⊎ ((find scope y ≡ None) × (is_text y x ≡ true) × (n ≡ s))

    low : (y : List ℕ) (s : ℕ) → New y s → s < n + 1
    low y s (inl h) = let e = p.below y s h in omega arith
    low y s (inr h) = let e = h.2 in omega arith

    same : (y z : List ℕ) (s : ℕ) → New y s → New z s → y ≡ z
    same y z s (inl h) (inl g) = p.apart y z s h g
    same y z s (inl h) (inr g) = let e = p.below y s h in let i = g.2 in absurd (omega arith)
    same y z s (inr h) (inl g) = let e = p.below z s g in let i = h.2 in absurd (omega arith)
    same y z s (inr h) (inr g) = same_text y x h.1 ∙ sym (same_text z x g.1)

pub more_proper : (scope : Scope) (n k : ℕ) → n ≤ k → IsProper scope n → IsProper scope k
more_proper scope n k le p = record { below = below_more scope n k le p.below; apart = p.apart }

-- the names of a loop
pub loop_within : (scope : Scope) (n : ℕ) (i : Word) (b : Bound) → IsWithin scope (within_loop scope n i b)
loop_within scope n i (UpTo hi) = push_within scope i.text n
loop_within scope n i (Least x v e hi) =
    λ y s h. push_within (scope ++ (i.text, n) ∷ []) x.text (n + 1) y s (push_within scope i.text n y s h)

pub loop_proper : (scope : Scope) (n : ℕ) (i : Word) (b : Bound) → IsProper scope n → IsProper (within_loop scope n i b) (n + loop_slots b)
loop_proper scope n i (UpTo hi) p = push_proper scope i.text n p
loop_proper scope n i (Least x v e hi) p =
    more_proper (within_loop scope n i (Least x v e hi)) (n + 1 + 1) (n + 2) (omega arith)
    (push_proper (scope ++ (i.text, n) ∷ []) x.text (n + 1) (push_proper scope i.text n p))

-- a scope only grows
grows : (scope : Scope) (n : ℕ) (s : Statement) → IsWithin scope (declared scope n s)
grows scope n (Declare b x ty r) = push_within scope x.text n
grows scope n s = λ x k h. h

all_grow : (scope : Scope) (n : ℕ) (ss : Statements) → IsWithin scope (declared_by_all scope n ss)
all_grow scope n Done = λ x k h. h
all_grow scope n (More s ss) = λ x k h. all_grow (declared scope n s) (n + count s) ss x k (grows scope n s x k h)

still_proper : (scope : Scope) (n : ℕ) (s : Statement) → IsProper scope n → IsProper (declared scope n s) (n + count s)
still_proper scope n (Declare b x ty r) p = push_proper scope x.text n p
still_proper scope n s p = more_proper scope n _ (omega arith) p

-- ---- what a program's statements need of its module

-- a program, a module, what its code refers to, and the parts of the program that have units
pub record Whole : Type 0 where
  pub tree : TreeValue
  pub m : ModuleValue
  pub setting : Setting
  pub units : List Part

abbrev mutual
  -- what a statement's code calls and starts has its unit, and so has what the bodies in it call and start
  pub IsLinked : Whole → Statement → Type 0
  IsLinked w (Block close ss) = AreLinked w ss
  IsLinked w (If at l op r s) = IsLinked w s
  IsLinked w (IfElse at l op r s u) = IsLinked w s × IsLinked w u
  IsLinked w (For at i lo b s) = int_le lo.value (top b) ≡ true → IsLinked w s
  IsLinked w (Async at cs s) =
      (slice_get w.m.units (body_unit w.setting at) ≡ Some (unit_of_body w.setting at cs s)) × (slice_get w.units (body_unit w.setting at) ≡ Some (OfBody at cs s)) × IsUnitCovered w.setting (body_params w.setting at cs) s × IsLinked w s
  IsLinked w (Finish at s) = IsLinked w s
  IsLinked w (Call f at es) = (d : MethodValue) × (method_of w.tree f.text ≡ Some d) × (slice_get w.units (number_of w.setting.methods f) ≡ Some (OfMethod d))
  IsLinked w _ = ⊤

  pub AreLinked : Whole → Statements → Type 0
  AreLinked w Done = ⊤
  AreLinked w (More s ss) = IsLinked w s × AreLinked w ss

-- ---- what is ahead

-- at the end of some jumps, in a scope within this one
pub record Ahead (code : List Instr) (scope : Scope) (p : ℕ) (Here : Scope → ℕ → Type 0) : Type 0 where
  pub jumps : List ℕ
  pub place : ℕ
  pub inner : Scope
  pub along : Along code p jumps place
  pub within : IsWithin inner scope
  pub here : Here inner place

-- the code of a statement of the part stands there, t being the first temporary and n the next slot
pub record Stands (w : Whole) (t : ℕ) (part : Part) (scope : Scope) (n q : ℕ) (s : Statement) : Type 0 where
  pub lies : Lies w.setting part q s
  pub holds : HoldsAt (code_in w.setting part) q (code_of w.setting t scope n q s)
  pub covered : IsCovered w.setting scope n s
  pub linked : IsLinked w s
  pub proper : IsProper scope n
  pub room : n + count s ≤ t

-- and that of statements, one after another
pub record StandAll (w : Whole) (t : ℕ) (part : Part) (scope : Scope) (n q : ℕ) (ss : Statements) : Type 0 where
  pub lies : LieAll w.setting part q ss
  pub holds : HoldsAt (code_in w.setting part) q (code_of_all w.setting t scope n q ss)
  pub covered : AreCovered w.setting scope n ss
  pub linked : AreLinked w ss
  pub proper : IsProper scope n
  pub room : n + count_all ss ≤ t

-- the name of a loop's limit, if it has one
abbrev pub limit_of : Bound → Option Word
limit_of (UpTo hi) = None
limit_of (Least x v e hi) = Some x

-- the limit of a loop is in the slot of the name that it has in the source, or there is none
abbrev pub IsLimit : Scope → Option Word → Option ℕ → Type 0
IsLimit scope None None = ⊤
IsLimit scope None (Some d) = ⊥
IsLimit scope (Some x) None = ⊥
IsLimit scope (Some x) (Some d) = find scope x.text ≡ Some d

-- the code of a loop of the part stands before that place
pub record EndsLoop (cx : Setting) (part : Part) (q : ℕ) (i : Word) (x : Option Word) (hi : ℤ) (s : Statement) : Type 0 where
  pub at : ℕ
  pub lo : Number
  pub bound : Bound
  pub turns : int_le lo.value (top bound) ≡ true
  pub limit : limit_of bound ≡ x
  pub most : top bound ≡ hi
  pub from : ℕ
  pub lies : Lies cx part from (For at i lo bound s)
  pub t : ℕ
  pub scope : Scope
  pub n : ℕ
  pub ends : from + length (code_of cx t scope n from (For at i lo bound s)) ≡ q + 1

-- the end of a loop stands there
pub record StandsTurn (w : Whole) (t : ℕ) (part : Part) (scope : Scope) (q : ℕ) (i : Word) (x : Option Word) (hi : ℤ) (s : Statement) : Type 0 where
  pub of_loop : EndsLoop w.setting part q i x hi s
  pub first : ℕ
  pub n : ℕ
  pub head : Instr
  pub loop : Loop
  pub next : slice_get (code_in w.setting part) q ≡ Some (instr.Next first)
  pub stands : slice_get (code_in w.setting part) first ≡ Some head
  pub begins : loop_head first head ≡ Some loop
  pub most : loop.hi ≡ hi
  pub counter : find scope i.text ≡ Some loop.slot
  pub limit : IsLimit scope x loop.limit
  pub body : Stands w t part scope n (first + 1) s
  pub ends : first + 1 + length (code_of w.setting t scope n (first + 1) s) ≡ q

-- a statement that is done in one step, and not one that unfolds
abbrev pub IsSimple : Statement → Type 0
IsSimple (Block close ss) = ⊥
IsSimple Empty = ⊥
IsSimple (For at i lo b s) = int_le lo.value (top b) ≡ true
IsSimple _ = ⊤

abbrev pub Here : Whole → ℕ → Part → List Todo → Scope → ℕ → Type 0
Here w t part [] scope q = slice_get (code_in w.setting part) q ≡ Some instr.Ret
Here w t part (Do s ∷ rest) scope q =
    (n : ℕ) × IsSimple s × Stands w t part scope n q s × Ahead (code_in w.setting part) (declared scope n s) (q + length (code_of w.setting t scope n q s)) (Here w t part rest)
Here w t part (Turn i x hi s ∷ rest) scope q = StandsTurn w t part scope q i x hi s × Ahead (code_in w.setting part) scope (q + 1) (Here w t part rest)
Here w t part (Close ∷ rest) scope q = (b : ℕ) × (slice_get (code_in w.setting part) q ≡ Some (instr.EndFinish b)) × Ahead (code_in w.setting part) scope (q + 1) (Here w t part rest)

-- from place p on, the code does these
abbrev pub Rest : Whole → ℕ → Part → Scope → ℕ → List Todo → Type 0
Rest w t part scope p todo = Ahead (code_in w.setting part) scope p (Here w t part todo)

pub rest_wider : (w : Whole) (t : ℕ) (part : Part) (scope more : Scope) (p : ℕ) (todo : List Todo) → IsWithin scope more
    → Rest w t part scope p todo
    → Rest w t part more p todo
rest_wider w t part scope more p todo within r = record {
  jumps = r.jumps;
  place = r.place;
  inner = r.inner;
  along = r.along;
  within = λ x s h. within x s (r.within x s h);
  here = r.here;
}

pub rest_jump : (w : Whole) (t : ℕ) (part : Part) (scope : Scope) (p q : ℕ) (todo : List Todo) → slice_get (code_in w.setting part) p ≡ Some (instr.Jump q)
    → Rest w t part scope q todo → Rest w t part scope p todo
rest_jump w t part scope p q todo j r = record { jumps = q ∷ r.jumps; place = r.place; inner = r.inner; along = (j, r.along); within = r.within; here = r.here }

pub rest_here : (w : Whole) (t : ℕ) (part : Part) (scope : Scope) (p : ℕ) (todo : List Todo) → Here w t part todo scope p
    → Rest w t part scope p todo
rest_here w t part scope p todo h = record { jumps = []; place = p; inner = scope; along = refl; within = λ x s f. f; here = h }

mutual
  -- what a statement unfolds into is done by its code
  pub rest_unfolded : (w : Whole) (t : ℕ) (part : Part) (scope : Scope) (n p : ℕ) (s : Statement) (rest : List Todo)
      → Stands w t part scope n p s
      → Rest w t part (declared scope n s) (p + length (code_of w.setting t scope n p s)) rest → Rest w t part scope p (unfolded s ++ rest)
  rest_unfolded w t part scope n p Empty rest st r = let e : p + 0 ≡ p = omega arith in subst (λ q. Rest w t part scope q rest) e r
  rest_unfolded w t part scope n p (Block close ss) rest st r =
      rest_all w t part scope n p ss rest (record { lies = is_block p close ss st.lies; holds = st.holds; covered = st.covered; linked = st.linked; proper = st.proper; room = st.room })
      (rest_wider w t part scope (declared_by_all scope n ss) (p + length (code_of_all w.setting t scope n p ss)) rest (all_grow scope n ss) r)
  rest_unfolded w t part scope n p (For at i lo b s) rest st r = by (int_le lo.value (top b)) refl
    where
      by : (c : Bool) → int_le lo.value (top b) ≡ c → Rest w t part scope p (cond c (Do (For at i lo b s) ∷ []) [] ++ rest)
      by true e = rest_here w t part scope p (Do (For at i lo b s) ∷ rest) (n, e, st, r)
      by false e =
          let q = p + length (before_bound scope t n b) in
          let body = code_of w.setting t (within_loop scope n i b) (n + loop_slots b) (q + 1) s in
          let none : length (code_of w.setting t scope n p (For at i lo b s)) ≡ 0 =
          ap (λ c. length (cond c (before_bound scope t n b ++ head_of n lo.value b (q + 1 + length body) ∷ (body ++ instr.Next q ∷ [])) [])) e in
          let same : p + length (code_of w.setting t scope n p (For at i lo b s)) ≡ p = omega arith in
          subst (λ q. Rest w t part scope q rest) same r
  rest_unfolded w t part scope n p s rest st r = rest_here w t part scope p (Do s ∷ rest) (n, tt, st, r)

  rest_all : (w : Whole) (t : ℕ) (part : Part) (scope : Scope) (n p : ℕ) (ss : Statements) (rest : List Todo)
      → StandAll w t part scope n p ss
      → Rest w t part (declared_by_all scope n ss) (p + length (code_of_all w.setting t scope n p ss)) rest
      → Rest w t part scope p (unfolded_all ss ++ rest)
  rest_all w t part scope n p Done rest st r = let e : p + 0 ≡ p = omega arith in subst (λ q. Rest w t part scope q rest) e r
  rest_all w t part scope n p (More s ss) rest st r =
      let first = code_of w.setting t scope n p s in
      let others = code_of_all w.setting t (declared scope n s) (n + count s) (p + length first) ss in
      let room = st.room in
      let e : p + length (first ++ others) ≡ p + length first + length others = omega (arith, length-append first others) in
      subst (λ todo. Rest w t part scope p todo) (sym (append_assoc (unfolded s) (unfolded_all ss) rest))
      (rest_unfolded w t part scope n p s (unfolded_all ss ++ rest)
      (record { lies = is_first p s ss st.lies; holds = holds_front (code_in w.setting part) p first others st.holds; covered = st.covered.0; linked = st.linked.0; proper = st.proper; room = omega arith })
      (rest_all w t part (declared scope n s) (n + count s) (p + length first) ss rest
      (record {
        lies = are_others t scope n p s ss st.lies;
        holds = holds_back (code_in w.setting part) p first others st.holds;
        covered = st.covered.1;
        linked = st.linked.1;
        proper = still_proper scope n s st.proper;
        room = omega arith;
      })
      (subst (λ q. Rest w t part (declared_by_all scope n (More s ss)) q rest) e r)))

-- and that of a statement with a scope of its own
pub rest_scope : (w : Whole) (t : ℕ) (part : Part) (scope : Scope) (n p q : ℕ) (s : Statement) (rest : List Todo) → Stands w t part scope n p s
    → p + length (code_of w.setting t scope n p s) ≡ q → Rest w t part scope q rest → Rest w t part scope p (unfolded s ++ rest)
rest_scope w t part scope n p q s rest st e r =
    rest_unfolded w t part scope n p s rest st (rest_wider w t part scope (declared scope n s) (p + length (code_of w.setting t scope n p s)) rest (grows scope n s)
    (subst (λ k. Rest w t part scope k rest) (sym e) r))

-- ---- the first part of a statement's code is straight

assigned_straight : (scope : Scope) (t : ℕ) (e : Expression) (o : Option ℕ) → AreStraight (before_assigned scope t e o)
assigned_straight scope t e (Some s) = eval_straight scope t e
assigned_straight scope t e None = into_straight scope t e

bound_straight : (scope : Scope) (t n : ℕ) (b : Bound) → AreStraight (before_bound scope t n b)
bound_straight scope t n (UpTo hi) = tt
bound_straight scope t n (Least x v e hi) =
    straight_join (before_into scope t e) (last_into scope t e (n + 1) ∷ []) (into_straight scope t e) (last_straight scope t e (n + 1), tt)

where_turns : (c : Bool) (is : List Instr) → AreStraight is → AreStraight (cond c is [])
where_turns true is h = h
where_turns false is h = tt

pub before_straight : (cx : Setting) (scope : Scope) (t n : ℕ) (s : Statement) → AreStraight (before cx scope t n s)
before_straight cx scope t n (Declare b x ty (Make at v)) = tt
before_straight cx scope t n (Declare b x ty (Value e)) = into_straight scope t e
before_straight cx scope t n (Assign x e) = assigned_straight scope t e (find cx.shared x.text)
before_straight cx scope t n (Atomic x y at e) = eval_straight scope t e
before_straight cx scope t n (If at l op r s) = both_straight scope t l r
before_straight cx scope t n (IfElse at l op r s u) = both_straight scope t l r
before_straight cx scope t n (Call f at es) = args_straight scope t es
before_straight cx scope t n (Print at v e) = eval_straight scope t e
before_straight cx scope t n (For at i lo b s) = where_turns (int_le lo.value (top b)) (before_bound scope t n b) (bound_straight scope t n b)
before_straight cx scope t n s = tt

pub code_split : (cx : Setting) (t : ℕ) (scope : Scope) (n q : ℕ) (s : Statement)
    → (tail : List Instr) × (code_of cx t scope n q s ≡ before cx scope t n s ++ tail)
code_split cx t scope n q (Declare b x ty (Make at v)) = (_, refl)
code_split cx t scope n q (Declare b x ty (Value e)) = (_, refl)
code_split cx t scope n q (Assign x e) = (_, refl)
code_split cx t scope n q (Atomic x y at e) = (_, refl)
code_split cx t scope n q (If at l op r s) = (_, refl)
code_split cx t scope n q (IfElse at l op r s u) = (_, refl)
code_split cx t scope n q (Call f at es) = (_, refl)
code_split cx t scope n q (Print at v e) = (_, refl)
code_split cx t scope n q (For at i lo b s) = by (int_le lo.value (top b))
  where
    rest_of : List Instr
    rest_of =
        let p = q + length (before_bound scope t n b) in
        let body = code_of cx t (within_loop scope n i b) (n + loop_slots b) (p + 1) s in
        head_of n lo.value b (p + 1 + length body) ∷ (body ++ instr.Next p ∷ [])

    by : (c : Bool) → (tail : List Instr) × (cond c (before_bound scope t n b ++ rest_of) [] ≡ cond c (before_bound scope t n b) [] ++ tail)
    by true = (rest_of, refl)
    by false = ([], refl)
code_split cx t scope n q s = (code_of cx t scope n q s, refl)

-- ---- a name stands for another value

matched_write : (scope more : Scope) (names : Names) (slots : List Held) (x : List ℕ) (d : ℕ) (old v : Held) → IsMatched scope names slots
    → slice_get slots d ≡ Some old → ((y : List ℕ) (s : ℕ) → find more y ≡ Some s → is_text y x ≡ true → s ≡ d)
    → ((y : List ℕ) (s : ℕ) → find more y ≡ Some s → is_text y x ≡ false → (find scope y ≡ Some s) × (s ≡ d → ⊥))
    → IsMatched more ((x, v) ∷ names) (slice_set slots d v)
matched_write scope more names slots x d old v m there own other y s f = go (is_text y x) refl
  where
    go : (b : Bool) → is_text y x ≡ b → cond b (Some v) (find names y) ≡ slice_get (slice_set slots d v) s
    go true e = sym (subst (λ k. slice_get (slice_set slots d v) k ≡ Some v) (sym (own y s f e)) (get-set_same slots d old v there))
    go false e = let h = other y s f e in m y s h.0 ∙ sym (get-set_other slots d s v h.1)

-- a new name
pub matched_push : (scope : Scope) (names : Names) (slots : List Held) (x : List ℕ) (n : ℕ) (old v : Held) → IsProper scope n → IsNew scope x
    → IsMatched scope names slots → slice_get slots n ≡ Some old → IsMatched (scope ++ (x, n) ∷ []) ((x, v) ∷ names) (slice_set slots n v)
matched_push scope names slots x n old v p new m there =
    matched_write scope (scope ++ (x, n) ∷ []) names slots x n old v m there
    (λ y s f e. own y s e (found_behind scope x n y s f)) (λ y s f e. other y s e (found_behind scope x n y s f))
  where
    New : List ℕ → ℕ → Type 0
    New y s = (find scope y ≡ Some s) ⊎ ((find scope y ≡ None) × (is_text y x ≡ true) × (n ≡ s))

    own : (y : List ℕ) (s : ℕ) → is_text y x ≡ true → New y s → s ≡ n
    own y s e (inl h) = absurd (none-some s (sym (none_there (find scope x) new) ∙ (ap (find scope) (sym (same_text y x e)) ∙ h)))
    own y s e (inr h) = sym h.2

    other : (y : List ℕ) (s : ℕ) → is_text y x ≡ false → New y s → (find scope y ≡ Some s) × (s ≡ n → ⊥)
    other y s e (inl h) = (h, λ g. let low = p.below y s h in omega arith)
    other y s e (inr h) = absurd (false≢true (sym e ∙ h.1))

-- a new name, whose slot holds already what it stands for
pub matched_name : (scope : Scope) (names : Names) (slots : List Held) (x : List ℕ) (n : ℕ) (v : Held) → IsProper scope n → IsNew scope x
    → IsMatched scope names slots → slice_get slots n ≡ Some v → IsMatched (scope ++ (x, n) ∷ []) ((x, v) ∷ names) slots
matched_name scope names slots x n v p new m there =
    subst (IsMatched (scope ++ (x, n) ∷ []) ((x, v) ∷ names)) (set_same slots n v there) (matched_push scope names slots x n v v p new m there)
  where
    set_same : (xs : List Held) (k : ℕ) (y : Held) → slice_get xs k ≡ Some y → slice_set xs k y ≡ xs
    set_same [] k y h = absurd (none-some y h)
    set_same (x ∷ xs) zero y h = ap (λ z. z ∷ xs) (sym (same_Some x y h))
    set_same (x ∷ xs) (suc k) y h = ap (λ zs. x ∷ zs) (set_same xs k y h)

-- one that was there
pub matched_set : (scope : Scope) (names : Names) (slots : List Held) (x : List ℕ) (d n : ℕ) (old v : Held) → IsProper scope n
    → IsMatched scope names slots
    → slice_get slots d ≡ Some old → find scope x ≡ Some d → IsMatched scope ((x, v) ∷ names) (slice_set slots d v)
matched_set scope names slots x d n old v p m there at = matched_write scope scope names slots x d old v m there own other
  where
    own : (y : List ℕ) (s : ℕ) → find scope y ≡ Some s → is_text y x ≡ true → s ≡ d
    own y s f e = same_Some s d (sym f ∙ (ap (find scope) (same_text y x e) ∙ at))

    other : (y : List ℕ) (s : ℕ) → find scope y ≡ Some s → is_text y x ≡ false → (find scope y ≡ Some s) × (s ≡ d → ⊥)
    other y s f e = (f, λ g. false≢true (sym e ∙ (ap (is_text y) (p.apart x y d at (f ∙ ap (λ k. Some k) g)) ∙ is_same y)))
