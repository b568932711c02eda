-- What the instructions of an expression do to slots, and that it is what the expression comes to.
use Rattle.std.proofs.Common.{◌≡◌, ℕ, ◌+◌, ◌<◌, ◌≤◌, ◌==◌, Bool, true, false, cond, List, [], ◌∷◌, ◌++◌, ℤ, pos, Some, None, Option, refl, sym, ap, ◌∙◌, arith, eq-eqb}
use Rattle.std.specs.Prelude.{slice_get, slice_set, unwrap_or, IsSome}
use Rattle.std.specs.Int.{w64, int_wrapping_add, int_wrapping_sub, int_wrapping_mul}
use Rattle.std.proofs.lemmas.Bool.{false≢true}
use Rattle.std.proofs.lemmas.Option.{none-some, same_Some}
use Rattle.xk_types.specs.declared.instr.Instr.{Instr}
use Rattle.xk_types.specs.declared.instr.Instr.TheVariants as instr
use Rattle.xk_types.specs.declared.world.Value.{Value as Held}
use Rattle.xk_types.specs.declared.world.Value.TheVariants as value
use Rattle.xk_types.specs.Step.{number_in}
use Rattle.xk_types.proofs.ListLemmas.{get-set_same, get-set_other}
use Rattle.xk_tree.specs.declared.tree.Operator.{Operator}
use Rattle.xk_tree.specs.declared.tree.Operator.TheVariants as operator
use Rattle.xk_tree.specs.Tree.{Word, Expression, Literal, Named, Paren, Negation, Binary}
use Rattle.xk_names.specs.Scope.{find}
use Rattle.xk_emit.specs.CodeOf.{Scope, number_of, instr_of, slot_for, behind, eval, both, second, before_into, last_into, eval_all}
use Rattle.xk_emit.specs.NameCoverage.{IsFound, IsKnown}
use Rattle.xk_source_semantics.specs.Source.{Names, SourceOutcome, value_of, result_of, taken}

abbrev pub IsStraight : Instr → Type 0
IsStraight (instr.Lit d n) = Unit {0}
IsStraight (instr.Copy d x) = Unit {0}
IsStraight (instr.Add d x y) = Unit {0}
IsStraight (instr.Sub d x y) = Unit {0}
IsStraight (instr.Mul d x y) = Unit {0}
IsStraight _ = ⊥

abbrev pub number_held : Option Held → Option ℤ
number_held None = None
number_held (Some value.Unset) = None
number_held (Some (value.Number n)) = Some n
number_held (Some (value.Clock c)) = None

abbrev pub number_at : List Held → ℕ → Option ℤ
number_at slots x = number_held (slice_get slots x)

abbrev pub then_on : {A B : Type 0} → Option A → (A → Option B) → Option B
then_on None go = None
then_on (Some x) go = go x

abbrev pub put_by : Option Held → List Held → ℕ → ℤ → Option (List Held)
put_by None slots d n = None
put_by (Some old) slots d n = Some (slice_set slots d (value.Number n))

abbrev pub put_at : List Held → ℕ → ℤ → Option (List Held)
put_at slots d n = put_by (slice_get slots d) slots d n

abbrev pub exec1 : Instr → List Held → Option (List Held)
exec1 (instr.Lit d n) slots = put_at slots d n
exec1 (instr.Copy d x) slots = then_on (number_at slots x) (λ n. put_at slots d n)
exec1 (instr.Add d x y) slots = then_on (number_at slots x) (λ p. then_on (number_at slots y) (λ q. put_at slots d (int_wrapping_add w64 p q)))
exec1 (instr.Sub d x y) slots = then_on (number_at slots x) (λ p. then_on (number_at slots y) (λ q. put_at slots d (int_wrapping_sub w64 p q)))
exec1 (instr.Mul d x y) slots = then_on (number_at slots x) (λ p. then_on (number_at slots y) (λ q. put_at slots d (int_wrapping_mul w64 p q)))
exec1 _ slots = None

abbrev pub exec : List Instr → List Held → Option (List Held)
exec [] slots = Some slots
exec (i ∷ is) slots = then_on (exec1 i slots) (exec is)

-- ---- parts

pub then_parts : {A B : Type 0} (o : Option A) (go : A → Option B) (y : B) → then_on o go ≡ Some y → (x : A) × (o ≡ Some x) × (go x ≡ Some y)
then_parts None go y h = absurd (none-some y h)
then_parts (Some x) go y h = (x, refl, h)

pub exec_parts : (is js : List Instr) (slots out : List Held) → exec (is ++ js) slots ≡ Some out
    → (mid : List Held) × (exec is slots ≡ Some mid) × (exec js mid ≡ Some out)
exec_parts [] js slots out h = (slots, refl, h)
exec_parts (i ∷ is) js slots out h =
    let a = then_parts (exec1 i slots) (exec (is ++ js)) out h in
    let b = exec_parts is js a.0 out a.2 in
    (b.0, ap (λ o. then_on o (exec is)) a.1 ∙ b.1, b.2)

pub exec_join : (is js : List Instr) (slots mid out : List Held) → exec is slots ≡ Some mid → exec js mid ≡ Some out
    → exec (is ++ js) slots ≡ Some out
exec_join [] js slots mid out h g = ap (exec js) (same_Some slots mid h) ∙ g
exec_join (i ∷ is) js slots mid out h g =
    let a = then_parts (exec1 i slots) (exec is) mid h in
    ap (λ o. then_on o (exec (is ++ js))) a.1 ∙ exec_join is js a.0 mid out a.2 g

pub exec_one : (i : Instr) (slots out : List Held) → exec (i ∷ []) slots ≡ Some out → exec1 i slots ≡ Some out
exec_one i slots out h = let a = then_parts (exec1 i slots) (exec []) out h in a.1 ∙ a.2

-- a slot was there, and was written
pub put_parts : (slots out : List Held) (d : ℕ) (n : ℤ) → put_at slots d n ≡ Some out
    → (old : Held) × (slice_get slots d ≡ Some old) × (out ≡ slice_set slots d (value.Number n))
put_parts slots out d n h = go (slice_get slots d) refl h
  where
    go : (o : Option Held) → slice_get slots d ≡ o → put_by o slots d n ≡ Some out
        → (old : Held) × (slice_get slots d ≡ Some old) × (out ≡ slice_set slots d (value.Number n))
    go None e g = absurd (none-some out g)
    go (Some old) e g = (old, e, sym (same_Some (slice_set slots d (value.Number n)) out g))

-- what an operator's instruction does
op_exec : (op : Operator) (d x y : ℕ) (slots : List Held)
    → exec1 (instr_of op d x y) slots ≡ then_on (number_at slots x) (λ p. then_on (number_at slots y) (λ q. put_at slots d (result_of op p q)))
op_exec operator.Plus d x y slots = refl
op_exec operator.Minus d x y slots = refl
op_exec operator.Times d x y slots = refl

pub record IsComputed (f : ℤ → ℤ → ℤ) (d x y : ℕ) (slots out : List Held) : Type 0 where
  pub p : ℤ
  pub q : ℤ
  pub old : Held
  pub first : number_at slots x ≡ Some p
  pub second : number_at slots y ≡ Some q
  pub there : slice_get slots d ≡ Some old
  pub made : out ≡ slice_set slots d (value.Number (f p q))

computed_parts : (f : ℤ → ℤ → ℤ) (d x y : ℕ) (slots out : List Held)
    → then_on (number_at slots x) (λ p. then_on (number_at slots y) (λ q. put_at slots d (f p q))) ≡ Some out → IsComputed f d x y slots out
computed_parts f d x y slots out h =
    let a = then_parts (number_at slots x) (λ p. then_on (number_at slots y) (λ q. put_at slots d (f p q))) out h in
    let b = then_parts (number_at slots y) (λ q. put_at slots d (f a.0 q)) out a.2 in
    let c = put_parts slots out d (f a.0 b.0) b.2 in
    record { p = a.0; q = b.0; old = c.0; first = a.1; second = b.1; there = c.1; made = c.2 }

pub op_parts : (op : Operator) (d x y : ℕ) (slots out : List Held) → exec1 (instr_of op d x y) slots ≡ Some out
    → IsComputed (result_of op) d x y slots out
op_parts op d x y slots out h = computed_parts (result_of op) d x y slots out (sym (op_exec op d x y slots) ∙ h)

pub sub_parts : (d x y : ℕ) (slots out : List Held) → exec1 (instr.Sub d x y) slots ≡ Some out → IsComputed (int_wrapping_sub w64) d x y slots out
sub_parts d x y slots out h = computed_parts (int_wrapping_sub w64) d x y slots out h

-- the number that was written is there
pub number_written : (slots out : List Held) (d : ℕ) (n : ℤ) (old : Held) → slice_get slots d ≡ Some old → out ≡ slice_set slots d (value.Number n)
    → number_at out d ≡ Some n
number_written slots out d n old h e = ap (λ s. number_at s d) e ∙ ap number_held (get-set_same slots d old (value.Number n) h)

-- and other slots stay
pub other_written : (slots out : List Held) (d s : ℕ) (v : Held) → out ≡ slice_set slots d v → (s ≡ d → ⊥) → slice_get out s ≡ slice_get slots s
other_written slots out d s v e ne = ap (λ o. slice_get o s) e ∙ get-set_other slots d s v ne

-- ---- scopes

-- all slots of a scope are below t
abbrev pub IsBelow : Scope → ℕ → Type 0
IsBelow scope t = (x : List ℕ) (s : ℕ) → find scope x ≡ Some s → s < t

-- names stand for what their slots hold
abbrev pub IsMatched : Scope → Names → List Held → Type 0
IsMatched scope names slots = (x : List ℕ) (s : ℕ) → find scope x ≡ Some s → find names x ≡ slice_get slots s

-- what is there is something
pub some_there : {A : Type 0} (o : Option A) → IsSome o → (x : A) × (o ≡ Some x)
some_there None h = absurd (false≢true h)
some_there (Some x) h = (x, refl)

pub slot_found : (scope : Scope) (x : Word) (s : ℕ) → find scope x.text ≡ Some s → number_of scope x ≡ s
slot_found scope x s h = ap (λ o. unwrap_or o 0) h

pub below_more : (scope : Scope) (t u : ℕ) → t ≤ u → IsBelow scope t → IsBelow scope u
below_more scope t u le h x s f = let g = h x s f in omega arith

-- ---- temporaries

pub behind_least : (t x : ℕ) → t ≤ behind t x
behind_least t x = go (x == t)
  where
    go : (b : Bool) → t ≤ cond b (t + 1) t
    go true = omega arith
    go false = omega arith

pub slot_most : (scope : Scope) (t : ℕ) (e : Expression) → IsBelow scope t → IsKnown scope e → slot_for scope t e ≤ t
slot_most scope t (Literal n) below sc = omega arith
slot_most scope t (Named x) below sc =
    let v = some_there (find scope x.text) sc in let h = below x.text v.0 v.1 in let g = slot_found scope x v.0 v.1 in omega arith
slot_most scope t (Paren at e) below sc = slot_most scope t e below sc
slot_most scope t (Binary op l at r) below sc = omega arith
slot_most scope t (Negation at e) below sc = omega arith

pub slot_behind : (t x : ℕ) → x ≤ t → x < behind t x
slot_behind t x le = go (x == t) refl
  where
    go : (b : Bool) → (x == t) ≡ b → x < cond b (t + 1) t
    go true e = omega arith
    go false e = less (λ same. false≢true (sym e ∙ eq-eqb x t same))
      where
        less : (x ≡ t → ⊥) → x < t
        less ne = omega (arith, le, ne)

-- ---- what stays

-- an expression's instructions leave slots below the first temporary
pub eval_keeps : (scope : Scope) (t : ℕ) (e : Expression) (slots out : List Held) → exec (eval scope t e) slots ≡ Some out → (s : ℕ) → s < t
    → slice_get out s ≡ slice_get slots s
eval_keeps scope t (Literal n) slots out h s lt =
    let p = put_parts slots out t n.value (exec_one (instr.Lit t n.value) slots out h) in other_written slots out t s _ p.2 (λ e. omega arith)
eval_keeps scope t (Named x) slots out h s lt = ap (λ o. slice_get o s) (sym (same_Some slots out h))
eval_keeps scope t (Paren at e) slots out h s lt = eval_keeps scope t e slots out h s lt
eval_keeps scope t (Binary op l at r) slots out h s lt =
    let u = behind t (slot_for scope t l) in
    let last = instr_of op t (slot_for scope t l) (slot_for scope u r) in
    let a = exec_parts (eval scope t l) (eval scope u r ++ last ∷ []) slots out h in
    let b = exec_parts (eval scope u r) (last ∷ []) a.0 out a.2 in
    let c = op_parts op t (slot_for scope t l) (slot_for scope u r) b.0 out (exec_one last b.0 out b.2) in
    let more = behind_least t (slot_for scope t l) in
    other_written b.0 out t s _ c.made (λ e. omega arith) ∙ (eval_keeps scope u r a.0 b.0 b.1 s (omega arith) ∙ eval_keeps scope t l slots a.0 a.1 s lt)
eval_keeps scope t (Negation at e) slots out h s lt =
    let last = instr.Sub t t (slot_for scope (t + 1) e) in
    let z = then_parts (put_at slots t (pos 0)) (exec (eval scope (t + 1) e ++ last ∷ [])) out h in
    let p = put_parts slots z.0 t (pos 0) z.1 in
    let b = exec_parts (eval scope (t + 1) e) (last ∷ []) z.0 out z.2 in
    let c = sub_parts t t (slot_for scope (t + 1) e) b.0 out (exec_one last b.0 out b.2) in
    other_written b.0 out t s _ c.made (λ g. omega arith) ∙ (eval_keeps scope (t + 1) e z.0 b.0 b.1 s (omega arith) ∙ other_written slots z.0 t s _ p.2 (λ g. omega arith))

-- so names still stand for what their slots hold
pub still_matched : (scope : Scope) (t : ℕ) (names : Names) (slots out : List Held) → IsBelow scope t
    → ((s : ℕ) → s < t → slice_get out s ≡ slice_get slots s) → IsMatched scope names slots
    → IsMatched scope names out
still_matched scope t names slots out below keeps m x s f = m x s f ∙ sym (keeps s (below x s f))

-- ---- what comes out

-- the expression comes to n
abbrev pub ComesTo : Names → Expression → ℤ → Type 0
ComesTo names e n = (go : ℤ → SourceOutcome) → taken names e go ≡ go n

number_read : (o : Option Held) (n : ℤ) (go : ℤ → SourceOutcome) → number_held o ≡ Some n → number_in o go ≡ go n
number_read None n go h = absurd (none-some n h)
number_read (Some value.Unset) n go h = absurd (none-some n h)
number_read (Some (value.Number m)) n go h = ap go (same_Some m n h)
number_read (Some (value.Clock c)) n go h = absurd (none-some n h)

-- what a name stands for is in its slot
pub name_held : (scope : Scope) (names : Names) (x : Word) (slots : List Held) → IsFound scope x.text → IsMatched scope names slots
    → value_of names x ≡ slice_get slots (number_of scope x)
name_held scope names x slots sc mt =
    let v = some_there (find scope x.text) sc in mt x.text v.0 v.1 ∙ ap (slice_get slots) (sym (slot_found scope x v.0 v.1))

-- an expression's instructions leave its number in its slot
pub eval_gives : (scope : Scope) (names : Names) (t : ℕ) (e : Expression) (slots out : List Held) (n : ℤ) → IsBelow scope t → IsKnown scope e
    → IsMatched scope names slots
    → exec (eval scope t e) slots ≡ Some out → number_at out (slot_for scope t e) ≡ Some n → ComesTo names e n
eval_gives scope names t (Literal m) slots out n below sc mt h g go =
    let p = put_parts slots out t m.value (exec_one (instr.Lit t m.value) slots out h) in
    ap go (same_Some m.value n (sym (number_written slots out t m.value p.0 p.1 p.2) ∙ g))
eval_gives scope names t (Named x) slots out n below sc mt h g go =
    number_read (value_of names x) n go (ap number_held (name_held scope names x slots sc mt ∙ ap (λ o. slice_get o (number_of scope x)) (same_Some slots out h)) ∙ g)
eval_gives scope names t (Paren at e) slots out n below sc mt h g go = eval_gives scope names t e slots out n below sc mt h g go
eval_gives scope names t (Binary op l at r) slots out n below sc mt h g go =
    let u = behind t (slot_for scope t l) in
    let last = instr_of op t (slot_for scope t l) (slot_for scope u r) in
    let a = exec_parts (eval scope t l) (eval scope u r ++ last ∷ []) slots out h in
    let b = exec_parts (eval scope u r) (last ∷ []) a.0 out a.2 in
    let c = op_parts op t (slot_for scope t l) (slot_for scope u r) b.0 out (exec_one last b.0 out b.2) in
    let more = behind_least t (slot_for scope t l) in
    let same : result_of op c.p c.q ≡ n = same_Some (result_of op c.p c.q) n (sym (number_written b.0 out t (result_of op c.p c.q) c.old c.there c.made) ∙ g) in
    let left : number_at a.0 (slot_for scope t l) ≡ Some c.p =
    ap number_held (sym (eval_keeps scope u r a.0 b.0 b.1 (slot_for scope t l) (slot_behind t (slot_for scope t l) (slot_most scope t l below sc.0)))) ∙ c.first in
    let mid = still_matched scope t names slots a.0 below (eval_keeps scope t l slots a.0 a.1) mt in
    eval_gives scope names t l slots a.0 c.p below sc.0 mt a.1 left (λ p. taken names r (λ q. go (result_of op p q)))
    ∙ (eval_gives scope names u r a.0 b.0 c.q (below_more scope t u more below) sc.1 mid b.1 c.second (λ q. go (result_of op c.p q)) ∙ ap go same)
eval_gives scope names t (Negation at e) slots out n below sc mt h g go =
    let last = instr.Sub t t (slot_for scope (t + 1) e) in
    let z = then_parts (put_at slots t (pos 0)) (exec (eval scope (t + 1) e ++ last ∷ [])) out h in
    let w = put_parts slots z.0 t (pos 0) z.1 in
    let b = exec_parts (eval scope (t + 1) e) (last ∷ []) z.0 out z.2 in
    let c = sub_parts t t (slot_for scope (t + 1) e) b.0 out (exec_one last b.0 out b.2) in
    let same : int_wrapping_sub w64 c.p c.q ≡ n =
    same_Some (int_wrapping_sub w64 c.p c.q) n (sym (number_written b.0 out t (int_wrapping_sub w64 c.p c.q) c.old c.there c.made) ∙ g) in
    let nought : pos 0 ≡ c.p =
    same_Some (pos 0) c.p (sym (number_written slots z.0 t (pos 0) w.0 w.1 w.2) ∙ (ap number_held (sym (eval_keeps scope (t + 1) e z.0 b.0 b.1 t (omega arith))) ∙ c.first)) in
    let mid = still_matched scope t names slots z.0 below (λ s lt. other_written slots z.0 t s _ w.2 (λ k. omega arith)) mt in
    eval_gives scope names (t + 1) e z.0 b.0 c.q (below_more scope t (t + 1) (omega arith) below) sc mid b.1 c.second (λ q. go (int_wrapping_sub w64 (pos 0) q))
    ∙ ap go (ap (λ z0. int_wrapping_sub w64 z0 c.q) nought ∙ same)

-- ---- two expressions

pub record AreTaken (names : Names) (l r : Expression) (p q : ℤ) : Type 0 where
  pub first : ComesTo names l p
  pub second : ComesTo names r q

pub both_keeps : (scope : Scope) (t : ℕ) (l r : Expression) (slots out : List Held) → exec (both scope t l r) slots ≡ Some out → (s : ℕ) → s < t
    → slice_get out s ≡ slice_get slots s
both_keeps scope t l r slots out h s lt =
    let u = behind t (slot_for scope t l) in
    let a = exec_parts (eval scope t l) (eval scope u r) slots out h in
    let more = behind_least t (slot_for scope t l) in
    eval_keeps scope u r a.0 out a.2 s (omega arith) ∙ eval_keeps scope t l slots a.0 a.1 s lt

pub both_gives : (scope : Scope) (names : Names) (t : ℕ) (l r : Expression) (slots out : List Held) (p q : ℤ) → IsBelow scope t → IsKnown scope l
    → IsKnown scope r → IsMatched scope names slots
    → exec (both scope t l r) slots ≡ Some out → number_at out (slot_for scope t l) ≡ Some p → number_at out (second scope t l r) ≡ Some q
    → AreTaken names l r p q
both_gives scope names t l r slots out p q below scl scr mt h hp hq =
    let u = behind t (slot_for scope t l) in
    let a = exec_parts (eval scope t l) (eval scope u r) slots out h in
    let more = behind_least t (slot_for scope t l) in
    let left : number_at a.0 (slot_for scope t l) ≡ Some p =
    ap number_held (sym (eval_keeps scope u r a.0 out a.2 (slot_for scope t l) (slot_behind t (slot_for scope t l) (slot_most scope t l below scl)))) ∙ hp in
    let mid = still_matched scope t names slots a.0 below (eval_keeps scope t l slots a.0 a.1) mt in
    record {
      first = eval_gives scope names t l slots a.0 p below scl mt a.1 left;
      second = eval_gives scope names u r a.0 out q (below_more scope t u more below) scr mid a.2 hq;
    }

-- ---- into a slot

pub record IsPutInto (names : Names) (e : Expression) (d : ℕ) (mid out : List Held) : Type 0 where
  pub n : ℤ
  pub old : Held
  pub gives : ComesTo names e n
  pub there : slice_get mid d ≡ Some old
  pub made : out ≡ slice_set mid d (value.Number n)

pub into_keeps : (scope : Scope) (t : ℕ) (e : Expression) (slots out : List Held) → exec (before_into scope t e) slots ≡ Some out → (s : ℕ) → s < t
    → slice_get out s ≡ slice_get slots s
into_keeps scope t (Literal n) slots out h s lt = ap (λ o. slice_get o s) (sym (same_Some slots out h))
into_keeps scope t (Named x) slots out h s lt = ap (λ o. slice_get o s) (sym (same_Some slots out h))
into_keeps scope t (Paren at e) slots out h s lt = into_keeps scope t e slots out h s lt
into_keeps scope t (Binary op l at r) slots out h s lt = both_keeps scope t l r slots out h s lt
into_keeps scope t (Negation at e) slots out h s lt =
    let z = then_parts (put_at slots t (pos 0)) (exec (eval scope (t + 1) e)) out h in
    let w = put_parts slots z.0 t (pos 0) z.1 in
    eval_keeps scope (t + 1) e z.0 out z.2 s (omega arith) ∙ other_written slots z.0 t s _ w.2 (λ k. omega arith)

pub into_gives : (scope : Scope) (names : Names) (t : ℕ) (e : Expression) (d : ℕ) (slots mid out : List Held) → IsBelow scope t → IsKnown scope e
    → IsMatched scope names slots
    → exec (before_into scope t e) slots ≡ Some mid → exec1 (last_into scope t e d) mid ≡ Some out → IsPutInto names e d mid out
into_gives scope names t (Literal n) d slots mid out below sc mt h g =
    let p = put_parts mid out d n.value g in record { n = n.value; old = p.0; gives = λ go. refl; there = p.1; made = p.2 }
into_gives scope names t (Named x) d slots mid out below sc mt h g =
    let a = then_parts (number_at mid (number_of scope x)) (λ n. put_at mid d n) out g in
    let p = put_parts mid out d a.0 a.2 in
    record {
      n = a.0;
      old = p.0;
      gives = λ go. number_read (value_of names x) a.0 go
          (ap number_held (name_held scope names x slots sc mt ∙ ap (λ o. slice_get o (number_of scope x)) (same_Some slots mid h)) ∙ a.1);
      there = p.1;
      made = p.2;
    }
into_gives scope names t (Paren at e) d slots mid out below sc mt h g =
    let r = into_gives scope names t e d slots mid out below sc mt h g in record { n = r.n; old = r.old; gives = r.gives; there = r.there; made = r.made }
into_gives scope names t (Binary op l at r) d slots mid out below sc mt h g =
    let c = op_parts op d (slot_for scope t l) (second scope t l r) mid out g in
    let b = both_gives scope names t l r slots mid c.p c.q below sc.0 sc.1 mt h c.first c.second in
    record {
      n = result_of op c.p c.q;
      old = c.old;
      gives = λ go. b.first (λ p. taken names r (λ q. go (result_of op p q))) ∙ b.second (λ q. go (result_of op c.p q));
      there = c.there;
      made = c.made;
    }
into_gives scope names t (Negation at e) d slots mid out below sc mt h g =
    let z = then_parts (put_at slots t (pos 0)) (exec (eval scope (t + 1) e)) mid h in
    let w = put_parts slots z.0 t (pos 0) z.1 in
    let c = sub_parts d t (slot_for scope (t + 1) e) mid out g in
    let nought : pos 0 ≡ c.p =
    same_Some (pos 0) c.p (sym (number_written slots z.0 t (pos 0) w.0 w.1 w.2) ∙ (ap number_held (sym (eval_keeps scope (t + 1) e z.0 mid z.2 t (omega arith))) ∙ c.first)) in
    let held = still_matched scope t names slots z.0 below (λ s lt. other_written slots z.0 t s _ w.2 (λ k. omega arith)) mt in
    let inner = eval_gives scope names (t + 1) e z.0 mid c.q (below_more scope t (t + 1) (omega arith) below) sc held z.2 c.second in
    record {
      n = int_wrapping_sub w64 c.p c.q;
      old = c.old;
      gives = λ go. inner (λ q. go (int_wrapping_sub w64 (pos 0) q)) ∙ ap (λ z0. go (int_wrapping_sub w64 z0 c.q)) nought;
      there = c.there;
      made = c.made;
    }

-- ---- they are straight

abbrev pub AreStraight : List Instr → Type 0
AreStraight [] = Unit {0}
AreStraight (i ∷ is) = IsStraight i × AreStraight is

pub straight_join : (is js : List Instr) → AreStraight is → AreStraight js → AreStraight (is ++ js)
straight_join [] js a b = b
straight_join (i ∷ is) js a b = (a.0, straight_join is js a.1 b)

pub straight_back : (is js : List Instr) → AreStraight (is ++ js) → AreStraight js
straight_back [] js a = a
straight_back (i ∷ is) js a = straight_back is js a.1

op_straight : (op : Operator) (d x y : ℕ) → IsStraight (instr_of op d x y)
op_straight operator.Plus d x y = tt
op_straight operator.Minus d x y = tt
op_straight operator.Times d x y = tt

pub eval_straight : (scope : Scope) (t : ℕ) (e : Expression) → AreStraight (eval scope t e)
eval_straight scope t (Literal n) = (tt, tt)
eval_straight scope t (Named x) = tt
eval_straight scope t (Paren at e) = eval_straight scope t e
eval_straight scope t (Binary op l at r) =
    let u = behind t (slot_for scope t l) in
    straight_join (eval scope t l) _ (eval_straight scope t l)
    (straight_join (eval scope u r) _ (eval_straight scope u r) (op_straight op t (slot_for scope t l) (slot_for scope u r), tt))
eval_straight scope t (Negation at e) = (tt, straight_join (eval scope (t + 1) e) _ (eval_straight scope (t + 1) e) (tt, tt))

pub both_straight : (scope : Scope) (t : ℕ) (l r : Expression) → AreStraight (both scope t l r)
both_straight scope t l r = straight_join (eval scope t l) _ (eval_straight scope t l) (eval_straight scope (behind t (slot_for scope t l)) r)

pub into_straight : (scope : Scope) (t : ℕ) (e : Expression) → AreStraight (before_into scope t e)
into_straight scope t (Literal n) = tt
into_straight scope t (Named x) = tt
into_straight scope t (Paren at e) = into_straight scope t e
into_straight scope t (Binary op l at r) = both_straight scope t l r
into_straight scope t (Negation at e) = (tt, eval_straight scope (t + 1) e)

pub last_straight : (scope : Scope) (t : ℕ) (e : Expression) (d : ℕ) → IsStraight (last_into scope t e d)
last_straight scope t (Literal n) d = tt
last_straight scope t (Named x) d = tt
last_straight scope t (Paren at e) d = last_straight scope t e d
last_straight scope t (Binary op l at r) d = op_straight op d (slot_for scope t l) (second scope t l r)
last_straight scope t (Negation at e) d = tt

pub number_there : (o : Option Held) (n : ℤ) → number_held o ≡ Some n → (old : Held) × (o ≡ Some old)
number_there None n h = absurd (none-some n h)
number_there (Some x) n h = (x, refl)

pub number_is : (o : Option Held) (n : ℤ) → number_held o ≡ Some n → o ≡ Some (value.Number n)
number_is None n h = absurd (none-some n h)
number_is (Some value.Unset) n h = absurd (none-some n h)
number_is (Some (value.Number m)) n h = ap (λ k. Some (value.Number k)) (same_Some m n h)
number_is (Some (value.Clock c)) n h = absurd (none-some n h)

-- ---- arguments

pub args_straight : (scope : Scope) (t : ℕ) (es : List Expression) → AreStraight (eval_all scope t es)
args_straight scope t [] = tt
args_straight scope t (e ∷ es) = straight_join (eval scope t e) _ (eval_straight scope t e) (args_straight scope (behind t (slot_for scope t e)) es)

pub args_keep : (scope : Scope) (t : ℕ) (es : List Expression) (slots out : List Held) → exec (eval_all scope t es) slots ≡ Some out → (s : ℕ) → s < t
    → slice_get out s ≡ slice_get slots s
args_keep scope t [] slots out h s lt = ap (λ o. slice_get o s) (sym (same_Some slots out h))
args_keep scope t (e ∷ es) slots out h s lt =
    let u = behind t (slot_for scope t e) in
    let a = exec_parts (eval scope t e) (eval_all scope u es) slots out h in
    let more = behind_least t (slot_for scope t e) in
    args_keep scope u es a.0 out a.2 s (omega arith) ∙ eval_keeps scope t e slots a.0 a.1 s lt
