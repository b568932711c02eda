-- What the code of a part denies, the code of the whole denies.
use Rattle.std.proofs.Common.{◌≡◌, ℕ, zero, suc, int_le, true, ◌+◌, ◌<◌, ◌≤◌, List, [], ◌∷◌, ◌++◌, length, map, get_or, drop, refl, sym, ap, subst, ◌∙◌, arith, append_assoc, length-append, All, cond, pos}
use Rattle.std.proofs.lemmas.List.Elements.{All-nil, All-cons, All-head, All-tail}
use Rattle.std.proofs.lemmas.List.{at_drop_more}
use Rattle.xk_types.specs.Code.{arguments_of}
use Rattle.xk_tree.specs.declared.tree.Expr.{Expr}
use Rattle.std.specs.Prelude.{⊤, Err}
use Rattle.xk_types.specs.declared.instr.Instr.{Instr}
use Rattle.xk_types.specs.declared.instr.Instr.TheVariants as instr
use Rattle.xk_types.specs.declared.instr.Comparison.{Comparison}
use Rattle.xk_tree.specs.declared.tree.Operator.{Operator}
use Rattle.xk_tree.specs.declared.tree.Number.{Number}
use Rattle.xk_tree.specs.Tree.{Word, Expression, Negation, Binary, Bound, UpTo, Least, Statement, Statements, More, If, IfElse, For, top, Finish, Declare, expression, expressions}
use Rattle.xk_emit.specs.declared.error.CodeError.{CodeError}
use Rattle.xk_emit.specs.declared.error.CodeError.TheVariants as error
use Rattle.xk_emit.specs.CodeOf.{Setting, Scope, behind, before_bound, before_into, both, head_of, loop_slots, within_loop, code_of, code_of_all, code_of_then, count, count_all, declared, eval, eval_all, last_into, second, slot_for}
use Rattle.xk_emit.specs.NameCoverage.{AreNew, IsBoundKnown, IsKnown, IsLoopNew, IsCovered, AreCovered}
use Rattle.xk_emit.specs.Room.{AreLow, Denies, HasRoom}
use Rattle.xk_emit.specs.EmittedCode.{DeniesCode, Emits}
use Rattle.xk_emit.proofs.RoomLemmas.{DeniesEval, arguments_append, room_behind, room_first, slots_append, temporary_written}

pub denies : (err : CodeError) {K L R S : Type 0} → Denies err L S → (K → L) → (R → S) → Denies err K R
denies error.Name h k r = λ x. h (k x)
denies error.Table h k r = λ x. h (r x)
denies error.OutOfMemory h k r = tt

-- ---- two expressions

abbrev pub DeniesBoth : CodeError → Scope → ℕ → ℕ → Expression → Expression → Type 0
DeniesBoth err scope size t l r = Denies err (IsKnown scope l × IsKnown scope r) (HasRoom scope size (both scope t l r))

pub both_first : (err : CodeError) (scope : Scope) (size t : ℕ) (l r : Expression) → DeniesEval err scope size t l → DeniesBoth err scope size t l r
both_first err scope size t l r h = denies err h (λ k. k.0) (λ m. room_first scope size _ _ m)

pub both_between : (err : CodeError) (scope : Scope) (size t x : ℕ) (l r : Expression)
    → Denies err ⊤ (x ≡ t → t < 64) → x ≡ slot_for scope t l → DeniesBoth err scope size t l r
both_between err scope size t x l r h is = denies err h (λ k. tt) (λ m same.
    let few = (room_first scope size (eval scope t l) _ m).slots in
    let w = temporary_written scope t l m.low (sym is ∙ same) in
    omega arith)

pub both_second : (err : CodeError) (scope : Scope) (size inner t u x : ℕ) (l r : Expression)
    → DeniesEval err scope inner u r → u ≡ behind t x → x ≡ slot_for scope t l → inner ≡ size + length (eval scope t l) → DeniesBoth err scope size t l r
both_second err scope size inner t u x l r h is_u is_x is =
    let there : u ≡ behind t (slot_for scope t l) = is_u ∙ ap (behind t) is_x in
    denies err h (λ k. k.1) (λ m. subst (λ k. HasRoom scope inner (eval scope k r)) (sym there) (room_behind scope size (eval scope t l) _ inner is m))

-- ---- an expression whose number is put into a slot

abbrev pub DeniesInto : CodeError → Scope → ℕ → ℕ → Expression → ℕ → Type 0
DeniesInto err scope size t e d = Denies err (IsKnown scope e) (HasRoom scope size (before_into scope t e ++ last_into scope t e d ∷ []))

pub into_negated : (err : CodeError) (scope : Scope) (size inner t u at d : ℕ) (e : Expression)
    → DeniesEval err scope inner u e → u ≡ t + 1 → inner ≡ size + 1 → DeniesInto err scope size t (Negation at e) d
into_negated err scope size inner t u at d e h next is = denies err h (λ k. k) (λ m.
    subst (λ k. HasRoom scope inner (eval scope k e)) (sym next)
    (room_first scope inner _ _ (room_behind scope size (instr.Lit t (pos 0) ∷ []) (eval scope (t + 1) e ++ last_into scope t (Negation at e) d ∷ []) inner is m)))

pub into_both : (err : CodeError) (scope : Scope) (size t at d : ℕ) (o : Operator) (l r : Expression)
    → DeniesBoth err scope size t l r → DeniesInto err scope size t (Binary o l at r) d
into_both err scope size t at d o l r h = denies err h (λ k. k) (λ m. room_first scope size _ _ m)

-- ---- statements

-- a call that fails emits nothing that counts
pub emits_not : {err : CodeError} {cx : Setting} {t : ℕ} {names : Scope} {n : ℕ} {s : Statement} {old new : List Instr} {seen : Scope}
    → DeniesCode err cx t names n (length old) s → Emits cx t names n s old new seen (Err err)
emits_not h = record { code = tt; scope = tt; slots = tt; refused = h }

pub length_gap : (base first : List Instr) (i : Instr) → length (base ++ (first ++ i ∷ [])) ≡ length base + length first + 1
length_gap base first i = omega (arith, length-append base (first ++ i ∷ []), length-append first (i ∷ []))

-- a gap needs no more room than the instruction that it is for
room_gap : (scope : Scope) (size : ℕ) (a b : List Instr) (i : Instr) → HasRoom scope size (a ++ i ∷ b) → HasRoom scope size (a ++ instr.Jump 0 ∷ [])
room_gap scope size a b i m =
    let m1 = m.code in
    let m2 = m.slots in
    let m3 = m.arguments in
    record {
      low = m.low;
      code = omega (arith, length-append a (i ∷ b), length-append a (instr.Jump 0 ∷ []));
      slots = omega (arith, slots_append a (i ∷ b), slots_append a (instr.Jump 0 ∷ []));
      arguments = omega (arith, arguments_append a (i ∷ b), arguments_append a (instr.Jump 0 ∷ []));
    }

-- the same names, and the same code
moved : (cx : Setting) (t n inner p : ℕ) (scope : Scope) (s : Statement)
    → inner ≡ p → HasRoom scope p (code_of cx t scope n p s) → HasRoom scope inner (code_of cx t scope n inner s)
moved cx t n inner p scope s is m = subst (λ k. HasRoom scope k (code_of cx t scope n k s)) (sym is) m

pub if_tested : (err : CodeError) (cx : Setting) (t : ℕ) (scope : Scope) (n size at : ℕ) (l : Expression) (op : Comparison) (r : Expression) (s : Statement)
    → Denies err (IsKnown scope l × IsKnown scope r) (HasRoom scope size (both scope t l r ++ instr.Jump 0 ∷ [])) → DeniesCode err cx t scope n size (If at l op r s)
if_tested err cx t scope n size at l op r s h = denies err h (λ k. (k.0, k.1)) (λ m. room_gap scope size (both scope t l r) _ _ m.0)

pub if_inner : (err : CodeError) (cx : Setting) (t : ℕ) (scope : Scope) (n size inner at : ℕ) (l : Expression) (op : Comparison) (r : Expression) (s : Statement)
    → DeniesCode err cx t scope n inner s → inner ≡ size + length (both scope t l r) + 1 → DeniesCode err cx t scope n size (If at l op r s)
if_inner err cx t scope n size inner at l op r s h is =
    let q = size + length (both scope t l r) in
    let body = code_of cx t scope n (q + 1) s in
    let test = instr.Unless op (slot_for scope t l) (second scope t l r) (q + 1 + length body) in
    denies err h (λ k. k.2) (λ m.
    (moved cx t n inner (q + 1) scope s is (room_behind scope q (test ∷ []) body (q + 1) refl (room_behind scope size (both scope t l r) (test ∷ body) q refl m.0)), m.1))

pub if_end : (err : CodeError) (cx : Setting) (t : ℕ) (scope : Scope) (n size inner long at : ℕ) (l : Expression) (op : Comparison) (r : Expression) (s : Statement)
    → Denies err ⊤ (long ≤ 4096) → inner ≡ size + length (both scope t l r) + 1 → long ≡ inner + length (code_of cx t scope n inner s)
    → DeniesCode err cx t scope n size (If at l op r s)
if_end err cx t scope n size inner long at l op r s h is is_long =
    let q = size + length (both scope t l r) in
    let body = code_of cx t scope n (q + 1) s in
    let test = instr.Unless op (slot_for scope t l) (second scope t l r) (q + 1 + length body) in
    let same : length (code_of cx t scope n inner s) ≡ length body = ap (λ k. length (code_of cx t scope n k s)) is in
    denies err h (λ k. tt) (λ m. let whole = m.0.code in omega (arith, length-append (both scope t l r) (test ∷ body)))

-- an `if` up to its `else`
abbrev pub DeniesThen : CodeError → Setting → ℕ → Scope → ℕ → ℕ → Expression → Comparison → Expression → Statement → Type 0
DeniesThen err cx t scope n size l op r s =
    Denies err (IsKnown scope l × IsKnown scope r × IsCovered cx scope n s) (HasRoom scope size (code_of_then cx t scope n size l op r s) × (n + count s ≤ 64))

pub then_tested : (err : CodeError) (cx : Setting) (t : ℕ) (scope : Scope) (n size : ℕ) (l : Expression) (op : Comparison) (r : Expression) (s : Statement)
    → Denies err (IsKnown scope l × IsKnown scope r) (HasRoom scope size (both scope t l r ++ instr.Jump 0 ∷ [])) → DeniesThen err cx t scope n size l op r s
then_tested err cx t scope n size l op r s h = denies err h (λ k. (k.0, k.1)) (λ m. room_gap scope size (both scope t l r) _ _ m.0)

pub then_inner : (err : CodeError) (cx : Setting) (t : ℕ) (scope : Scope) (n size inner : ℕ) (l : Expression) (op : Comparison) (r : Expression) (s : Statement)
    → DeniesCode err cx t scope n inner s → inner ≡ size + length (both scope t l r) + 1 → DeniesThen err cx t scope n size l op r s
then_inner err cx t scope n size inner l op r s h is =
    let q = size + length (both scope t l r) in
    let body = code_of cx t scope n (q + 1) s in
    let jump = instr.Jump 0 in
    let test = instr.Unless op (slot_for scope t l) (second scope t l r) (q + 1 + length body + 1) in
    denies err h (λ k. k.2) (λ m.
    let inside = room_behind scope q (test ∷ []) (body ++ jump ∷ []) (q + 1) refl (room_behind scope size (both scope t l r) (test ∷ (body ++ jump ∷ [])) q refl m.0) in
    (moved cx t n inner (q + 1) scope s is (room_first scope (q + 1) body (jump ∷ []) inside), m.1))

pub then_end : (err : CodeError) (cx : Setting) (t : ℕ) (scope : Scope) (n size inner long : ℕ) (l : Expression) (op : Comparison) (r : Expression) (s : Statement)
    → Denies err ⊤ (long < 4096) → inner ≡ size + length (both scope t l r) + 1 → long ≡ inner + length (code_of cx t scope n inner s)
    → DeniesThen err cx t scope n size l op r s
then_end err cx t scope n size inner long l op r s h is is_long =
    let q = size + length (both scope t l r) in
    let body = code_of cx t scope n (q + 1) s in
    let jump = instr.Jump 0 in
    let test = instr.Unless op (slot_for scope t l) (second scope t l r) (q + 1 + length body + 1) in
    let same : length (code_of cx t scope n inner s) ≡ length body = ap (λ k. length (code_of cx t scope n k s)) is in
    denies err h (λ k. tt) (λ m.
    let whole = m.0.code in omega (arith, length-append (both scope t l r) (test ∷ (body ++ jump ∷ [])), length-append body (jump ∷ [])))

pub else_begun : (err : CodeError) (cx : Setting) (t : ℕ) (scope : Scope) (n size at : ℕ) (l : Expression) (op : Comparison) (r : Expression) (s u : Statement)
    → DeniesThen err cx t scope n size l op r s → DeniesCode err cx t scope n size (IfElse at l op r s u)
else_begun err cx t scope n size at l op r s u h =
    let q = size + length (both scope t l r) in
    let body = code_of cx t scope n (q + 1) s in
    let p = q + 1 + length body + 1 in
    let other = code_of cx t scope (n + count s) p u in
    let test = instr.Unless op (slot_for scope t l) (second scope t l r) p in
    let jump = instr.Jump (p + length other) in
    denies err h (λ k. (k.0, k.1, k.2)) (λ m.
    let few = m.1 in (
      subst (HasRoom scope size) (append_assoc (both scope t l r) (test ∷ body) (instr.Jump 0 ∷ []))
          (room_gap scope size (both scope t l r ++ test ∷ body) other jump (subst (HasRoom scope size) (sym (append_assoc (both scope t l r) (test ∷ body) (jump ∷ other))) m.0)),
      omega arith,
    ))

pub else_other : (err : CodeError) (cx : Setting) (t : ℕ) (scope again : Scope) (n k size from at : ℕ) (l : Expression) (op : Comparison) (r : Expression) (s u : Statement)
    → DeniesCode err cx t again k from u → again ≡ scope → k ≡ n + count s
    → from ≡ size + length (code_of_then cx t scope n size l op r s) → DeniesCode err cx t scope n size (IfElse at l op r s u)
else_other err cx t scope again n k size from at l op r s u h same_scope next is_from =
    let q = size + length (both scope t l r) in
    let body = code_of cx t scope n (q + 1) s in
    let p = q + 1 + length body + 1 in
    let other = code_of cx t scope (n + count s) p u in
    let test = instr.Unless op (slot_for scope t l) (second scope t l r) p in
    let jump = instr.Jump (p + length other) in
    let is_place : from ≡ p = omega (arith, is_from, length-append (both scope t l r) (test ∷ (body ++ instr.Jump 0 ∷ [])), length-append body (instr.Jump 0 ∷ [])) in
    let there : DeniesCode err cx t scope (n + count s) from u =
    subst (λ j. DeniesCode err cx t scope j from u) next (subst (λ (w : Scope). DeniesCode err cx t w k from u) same_scope h) in
    denies err there (λ c. c.3) (λ m.
    let few = m.1 in
    let inside = room_behind scope q (test ∷ []) (body ++ jump ∷ other) (q + 1) refl (room_behind scope size (both scope t l r) (test ∷ (body ++ jump ∷ other)) q refl m.0) in
    let ahead = room_behind scope (q + 1) body (jump ∷ other) (q + 1 + length body) refl inside in
    (moved cx t (n + count s) from p scope u is_place (room_behind scope (q + 1 + length body) (jump ∷ []) other p refl ahead), omega arith))

-- code that is there had room
pub code_end : (err : CodeError) (cx : Setting) (t : ℕ) (scope : Scope) (n size long : ℕ) (s : Statement)
    → Denies err ⊤ (long ≤ 4096) → long ≡ size + length (code_of cx t scope n size s) → DeniesCode err cx t scope n size s
code_end err cx t scope n size long s h is = denies err h (λ k. tt) (λ m. let whole = m.0.code in omega arith)

-- ---- finishes

pub finish_inner : (err : CodeError) (cx : Setting) (t : ℕ) (scope : Scope) (n size inner : ℕ) (s : Statement)
    → DeniesCode err cx t scope n inner s → inner ≡ size + 1 → DeniesCode err cx t scope n size (Finish 0 s)
finish_inner err cx t scope n size inner s h is =
    let body = code_of cx t scope n (size + 1) s in
    denies err h (λ k. k) (λ m. (
      moved cx t n inner (size + 1) scope s is (room_first scope (size + 1) body (instr.EndFinish size ∷ [])
          (room_behind scope size (instr.Finish (size + 1 + length body) ∷ []) (body ++ instr.EndFinish size ∷ []) (size + 1) refl m.0)),
      m.1,
    ))

pub finish_end : (err : CodeError) (cx : Setting) (t : ℕ) (scope : Scope) (n size inner long : ℕ) (s : Statement)
    → Denies err ⊤ (long < 4096) → inner ≡ size + 1 → long ≡ inner + length (code_of cx t scope n inner s) → DeniesCode err cx t scope n size (Finish 0 s)
finish_end err cx t scope n size inner long s h is is_long =
    let body = code_of cx t scope n (size + 1) s in
    let same : length (code_of cx t scope n inner s) ≡ length body = ap (λ k. length (code_of cx t scope n k s)) is in
    denies err h (λ k. tt) (λ m. let whole = m.0.code in omega (arith, length-append body (instr.EndFinish size ∷ [])))

-- ---- loops

low_more : (scope : Scope) (x : List ℕ) (n : ℕ) → AreLow scope → n < 64 → AreLow (scope ++ (x, n) ∷ [])
low_more [] x n low h = (h, tt)
low_more (e ∷ scope) x n low h = (low.0, low_more scope x n low.1 h)

abbrev RoomOf : Setting → ℕ → Scope → ℕ → ℕ → Statement → Type 0
RoomOf cx t scope n size s = HasRoom scope size (code_of cx t scope n size s) × (n + count s ≤ 64)

-- the slots of a loop's names are low
low_loop : (scope : Scope) (n : ℕ) (i : Word) (b : Bound) → AreLow scope → n + loop_slots b ≤ 64 → AreLow (within_loop scope n i b)
low_loop scope n i (UpTo hi) low h = low_more scope i.text n low (omega arith)
low_loop scope n i (Least x v e hi) low h = low_more (scope ++ (i.text, n) ∷ []) x.text (n + 1) (low_more scope i.text n low (omega arith)) (omega arith)

-- what a loop that has turns needs
loop_room : (cx : Setting) (t : ℕ) (scope : Scope) (n size at : ℕ) (i : Word) (lo : Number) (b : Bound) (s : Statement)
    → int_le lo.value (top b) ≡ true → RoomOf cx t scope n size (For at i lo b s)
    → let q = size + length (before_bound scope t n b) in
    let body = code_of cx t (within_loop scope n i b) (n + loop_slots b) (q + 1) s in
    HasRoom scope size (before_bound scope t n b ++ head_of n lo.value b (q + 1 + length body) ∷ (body ++ instr.Next q ∷ []))
loop_room cx t scope n size at i lo b s turns m =
    let q = size + length (before_bound scope t n b) in
    let body = code_of cx t (within_loop scope n i b) (n + loop_slots b) (q + 1) s in
    subst (λ x. HasRoom scope size (cond x (before_bound scope t n b ++ head_of n lo.value b (q + 1 + length body) ∷ (body ++ instr.Next q ∷ [])) [])) turns m.0

pub loop_opened : (err : CodeError) (cx : Setting) (t : ℕ) (scope : Scope) (n size at : ℕ) (i : Word) (lo : Number) (b : Bound) (s : Statement)
    → int_le lo.value (top b) ≡ true
    → Denies err (IsBoundKnown scope b × IsLoopNew scope n i b) (HasRoom scope size (before_bound scope t n b ++ instr.Jump 0 ∷ []) × (n + loop_slots b ≤ 64))
    → DeniesCode err cx t scope n size (For at i lo b s)
loop_opened err cx t scope n size at i lo b s turns h =
    denies err h (λ c. ((c turns).0, (c turns).1)) (λ m.
    let few = m.1 in
    (room_gap scope size (before_bound scope t n b) _ _ (loop_room cx t scope n size at i lo b s turns m), omega arith))

pub loop_inner : (err : CodeError) (cx : Setting) (t : ℕ) (scope inside : Scope) (n k size inner at : ℕ) (i : Word) (lo : Number) (b : Bound) (s : Statement)
    → int_le lo.value (top b) ≡ true → DeniesCode err cx t inside k inner s → inside ≡ within_loop scope n i b → k ≡ n + loop_slots b
    → inner ≡ size + length (before_bound scope t n b) + 1 → DeniesCode err cx t scope n size (For at i lo b s)
loop_inner err cx t scope inside n k size inner at i lo b s turns h is_inside next is =
    let first = before_bound scope t n b in
    let q = size + length first in
    let there = within_loop scope n i b in
    let body = code_of cx t there (n + loop_slots b) (q + 1) s in
    let head = head_of n lo.value b (q + 1 + length body) in
    let denied : DeniesCode err cx t there (n + loop_slots b) inner s =
    subst (λ j. DeniesCode err cx t there j inner s) next (subst (λ (w : Scope). DeniesCode err cx t w k inner s) is_inside h) in
    denies err denied (λ c. (c turns).2) (λ m.
    let few = m.1 in
    let whole = loop_room cx t scope n size at i lo b s turns m in
    let behind_limit = room_behind scope size first (head ∷ (body ++ instr.Next q ∷ [])) q refl whole in
    let r = room_first scope (q + 1) body (instr.Next q ∷ []) (room_behind scope q (head ∷ []) (body ++ instr.Next q ∷ []) (q + 1) refl behind_limit) in
    let low : HasRoom there (q + 1) body = record { low = low_loop scope n i b r.low (omega arith); code = r.code; slots = r.slots; arguments = r.arguments } in
    (moved cx t (n + loop_slots b) inner (q + 1) there s is low, omega arith))

pub loop_end : (err : CodeError) (cx : Setting) (t : ℕ) (scope inside : Scope) (n k size inner long at : ℕ) (i : Word) (lo : Number) (b : Bound) (s : Statement)
    → int_le lo.value (top b) ≡ true → Denies err ⊤ (long < 4096) → inside ≡ within_loop scope n i b → k ≡ n + loop_slots b
    → inner ≡ size + length (before_bound scope t n b) + 1 → long ≡ inner + length (code_of cx t inside k inner s)
    → DeniesCode err cx t scope n size (For at i lo b s)
loop_end err cx t scope inside n k size inner long at i lo b s turns h is_inside next is is_long =
    let first = before_bound scope t n b in
    let q = size + length first in
    let there = within_loop scope n i b in
    let body = code_of cx t there (n + loop_slots b) (q + 1) s in
    let head = head_of n lo.value b (q + 1 + length body) in
    let same : length (code_of cx t inside k inner s) ≡ length body =
    ap (λ (w : Scope). length (code_of cx t w k inner s)) is_inside ∙ ap (λ j. length (code_of cx t there j inner s)) next
    ∙ ap (λ j. length (code_of cx t there (n + loop_slots b) j s)) is in
    denies err h (λ c. tt) (λ m.
    let whole = (loop_room cx t scope n size at i lo b s turns m).code in
    omega (arith, length-append first (head ∷ (body ++ instr.Next q ∷ [])), length-append body (instr.Next q ∷ [])))

-- ---- what all elements of a list meet

pub all_at : {A B : Type 0} (P : B → Type 0) (f : A → B) (xs : List A) (i : ℕ) (x : A) → All P (map f xs) → i < length xs → x ≡ get_or xs i x → P (f x)
all_at P f [] i x h lt is = absurd (omega arith)
all_at P f (y ∷ xs) zero x h lt is = subst (λ z. P (f z)) (sym is) (All-head P (f y) (map f xs) h)
all_at P f (y ∷ xs) (suc i) x h lt is = all_at P f xs i x (All-tail P (f y) (map f xs) h) (omega arith) is

pub all_first : {A : Type 0} (P : A → Type 0) (xs ys : List A) → All P (xs ++ ys) → All P xs
all_first P [] ys h = All-nil P
all_first P (x ∷ xs) ys h = All-cons P x xs (All-head P x (xs ++ ys) h) (all_first P xs ys (All-tail P x (xs ++ ys) h))

pub all_behind : {A : Type 0} (P : A → Type 0) (xs ys : List A) → All P (xs ++ ys) → All P ys
all_behind P [] ys h = h
all_behind P (x ∷ xs) ys h = all_behind P xs ys (All-tail P x (xs ++ ys) h)

-- ---- arguments

pub few_arguments : (scope : Scope) (size : ℕ) (a : List Instr) (i : Instr) → HasRoom scope size (a ++ i ∷ []) → length (arguments_of i) ≤ 64
few_arguments scope size a i m = let few = m.arguments in omega (arith, arguments_append a (i ∷ []))

pub args_split : (scope : Scope) (size next : ℕ) (args : List Expr) (i : ℕ) (item : Expr) → i < length args → item ≡ get_or args i item
    → HasRoom scope size (eval_all scope next (expressions (drop i args)))
    → HasRoom scope size (eval scope next (expression item) ++ eval_all scope (behind next (slot_for scope next (expression item))) (expressions (drop (i + 1) args)))
args_split scope size next args i item lt is m =
    subst (HasRoom scope size) (at_drop_more (λ es. eval_all scope next (expressions es)) args i item lt
    ∙ ap (λ x. eval_all scope next (expression x ∷ expressions (drop (i + 1) args))) (sym is)) m

-- the room for the arguments that are left, where one more is done
pub args_turn : (scope : Scope) (size more next u x : ℕ) (args : List Expr) (i : ℕ) (item : Expr) → i < length args → item ≡ get_or args i item
    → more ≡ size + length (eval scope next (expression item)) → x ≡ slot_for scope next (expression item) → u ≡ behind next x
    → HasRoom scope size (eval_all scope next (expressions (drop i args)))
    → HasRoom scope more (eval_all scope u (expressions (drop (i + 1) args)))
args_turn scope size more next u x args i item lt is is_more is_x is_u m =
    let there : u ≡ behind next (slot_for scope next (expression item)) = is_u ∙ ap (behind next) is_x in
    subst (λ k. HasRoom scope more (eval_all scope k (expressions (drop (i + 1) args)))) (sym there)
    (room_behind scope size (eval scope next (expression item)) _ more is_more (args_split scope size next args i item lt is m))

-- ---- statements, one after another

low_declared : (scope : Scope) (n : ℕ) (s : Statement) → AreLow scope → n + count s ≤ 64 → AreLow (declared scope n s)
low_declared scope n (Declare b x ty r) low few = low_more scope x.text n low (omega arith)
low_declared scope n _ low few = low

abbrev pub RoomOfAll : Setting → ℕ → Scope → ℕ → ℕ → Statements → Type 0
RoomOfAll cx t scope n size ss = HasRoom scope size (code_of_all cx t scope n size ss) × (n + count_all ss ≤ 64)

-- the room for the statements that are left, where one more is done
pub room_turn : (cx : Setting) (t : ℕ) (seen wider : Scope) (next m size more : ℕ) (s : Statement) (rest : Statements)
    → more ≡ size + length (code_of cx t seen next size s) → wider ≡ declared seen next s → m ≡ next + count s
    → RoomOfAll cx t seen next size (More s rest) → RoomOfAll cx t wider m more rest
room_turn cx t seen wider next m size more s rest is_more is_wider is_m r =
    let few = r.1 in
    let here = code_of cx t seen next size s in
    let p = size + length here in
    let there = declared seen next s in
    let b = room_behind seen size here (code_of_all cx t there (next + count s) p rest) p refl r.0 in
    let low : HasRoom there p (code_of_all cx t there (next + count s) p rest) =
    record { low = low_declared seen next s b.low (omega arith); code = b.code; slots = b.slots; arguments = b.arguments } in
    let same : RoomOfAll cx t there (next + count s) p rest = (low, omega arith) in
    subst (λ k. RoomOfAll cx t wider m k rest) (sym is_more)
    (subst (λ k. RoomOfAll cx t wider k p rest) (sym is_m) (subst (λ (w : Scope). RoomOfAll cx t w (next + count s) p rest) (sym is_wider) same))

pub covered_turn : (cx : Setting) (seen wider : Scope) (next m : ℕ) (s : Statement) (rest : Statements)
    → wider ≡ declared seen next s → m ≡ next + count s → AreCovered cx seen next (More s rest) → AreCovered cx wider m rest
covered_turn cx seen wider next m s rest is_wider is_m k =
    subst (λ j. AreCovered cx wider j rest) (sym is_m) (subst (λ (w : Scope). AreCovered cx w (next + count s) rest) (sym is_wider) k.1)

-- what one of statements denies, all of them deny
pub one_denied : (err : CodeError) (cx : Setting) (t : ℕ) (scope seen : Scope) (n next size more : ℕ) (all : Statements) (s : Statement) (rest : Statements)
    → (AreCovered cx scope n all → AreCovered cx seen next (More s rest)) → (RoomOfAll cx t scope n size all → RoomOfAll cx t seen next more (More s rest))
    → DeniesCode err cx t seen next more s → Denies err (AreCovered cx scope n all) (RoomOfAll cx t scope n size all)
one_denied err cx t scope seen n next size more all s rest covered room h = denies err h (λ k. (covered k).0) (λ m.
    let r = room m in
    let few = r.1 in
    (room_first seen more _ _ r.0, omega arith))

-- ---- elements that are read by number

pub all_read : {A B : Type 0} (P : B → Type 0) (f : A → B) (xs : List A) (i : ℕ) (d : A) → All P (map f xs) → i < length xs → P (f (get_or xs i d))
all_read P f [] i d h lt = absurd (omega arith)
all_read P f (y ∷ xs) zero d h lt = All-head P (f y) (map f xs) h
all_read P f (y ∷ xs) (suc i) d h lt = all_read P f xs i d (All-tail P (f y) (map f xs) h) (omega arith)

pub all_read_two : {A B C : Type 0} (P : C → Type 0) (g : B → C) (f : A → B) (xs : List A) (i : ℕ) (d : A) → All P (map g (map f xs)) → i < length xs → P (g (f (get_or xs i d)))
all_read_two P g f [] i d h lt = absurd (omega arith)
all_read_two P g f (y ∷ xs) zero d h lt = All-head P (g (f y)) (map g (map f xs)) h
all_read_two P g f (y ∷ xs) (suc i) d h lt = all_read_two P g f xs i d (All-tail P (g (f y)) (map g (map f xs)) h) (omega arith)

-- ---- names that are declared one after another

pub new_turn : (scope wider : Scope) (n m : ℕ) (x : List ℕ) (rest : List (List ℕ)) → wider ≡ scope ++ (x, n) ∷ [] → m ≡ n + 1 → AreNew scope n (x ∷ rest) → AreNew wider m rest
new_turn scope wider n m x rest is_wider is_m k =
    subst (λ j. AreNew wider j rest) (sym is_m) (subst (λ (w : Scope). AreNew w (n + 1) rest) (sym is_wider) k.1)
