-- Code with gaps that are filled after the instructions that stand behind them.
use Rattle.std.proofs.Common.{◌≡◌, ℕ, int_le, true, cond, ◌+◌, List, [], ◌∷◌, ◌++◌, length, sym, ap, ◌∙◌, arith, append_assoc, length-append}
use Rattle.std.specs.Prelude.{slice_set}
use Rattle.std.proofs.Math.Seq.{set-append_seam}
use Rattle.xk_types.specs.declared.instr.Instr.{Instr}
use Rattle.xk_types.specs.declared.instr.Instr.TheVariants as instr
use Rattle.xk_types.specs.declared.instr.Comparison.{Comparison}
use Rattle.xk_tree.specs.declared.tree.Number.{Number}
use Rattle.xk_tree.specs.Tree.{Word, Expression, Bound, Statement, If, IfElse, For, top, Finish, Statements, More}
use Rattle.xk_emit.specs.CodeOf.{Scope, Setting, before_bound, both, head_of, loop_slots, second, slot_for, within_loop, count, count_all, declared, declared_by_all, code_of, code_of_all, code_of_then}
use Rattle.xk_emit.specs.NameCoverage.{AreCovered}
use Rattle.xk_emit.proofs.CodeErrorLemmas.{RoomOfAll, covered_turn, room_turn}

-- an instruction in the place of another
pub patched : (code : List Instr) (at : ℕ) (i : Instr) (front rest : List Instr) (gap : Instr)
    → code ≡ front ++ gap ∷ rest → at ≡ length front → slice_set code at i ≡ front ++ i ∷ rest
patched code at i front rest gap is place = ap (λ l. slice_set l at i) is ∙ ap (λ k. slice_set (front ++ gap ∷ rest) k i) place ∙ set-append_seam front gap rest i

-- ---- statements, one after another

-- what is emitted so far, and what the statements that are left need, are that of all
pub record AreEmitted (cx : Setting) (t : ℕ) (all : Statements) (code : List Instr) (scope : Scope) (n : ℕ)
    (rest : Statements) (made : List Instr) (seen : Scope) (next : ℕ) : Type 0 where
  pub instrs : made ++ code_of_all cx t seen next (length made) rest ≡ code ++ code_of_all cx t scope n (length code) all
  pub names : declared_by_all seen next rest ≡ declared_by_all scope n all
  pub slots : next + count_all rest ≡ n + count_all all
  -- so are the names and the room that the latter need
  pub covered : AreCovered cx scope n all → AreCovered cx seen next rest
  pub room : RoomOfAll cx t scope n (length code) all → RoomOfAll cx t seen next (length made) rest

-- one statement more
pub one_more : (cx : Setting) (t : ℕ) (all : Statements) (code : List Instr) (scope : Scope) (n : ℕ)
    (s : Statement) (rest : Statements) (made grown : List Instr) (seen wider : Scope) (next m : ℕ)
    → AreEmitted cx t all code scope n (More s rest) made seen next
    → grown ≡ made ++ code_of cx t seen next (length made) s → wider ≡ declared seen next s → m ≡ next + count s
    → AreEmitted cx t all code scope n rest grown wider m
one_more cx t all code scope n s rest made grown seen wider next m so_far is_grown is_wider is_more =
    let here = code_of cx t seen next (length made) s in
    let long : length grown ≡ length made + length here = ap length is_grown ∙ length-append made here in
    record {
      instrs =
          ap (λ (c : List Instr). c ++ code_of_all cx t wider m (length grown) rest) is_grown
          ∙ append_assoc made here (code_of_all cx t wider m (length grown) rest)
          ∙ ap (λ (w : Scope). made ++ (here ++ code_of_all cx t w m (length grown) rest)) is_wider
          ∙ ap (λ k. made ++ (here ++ code_of_all cx t (declared seen next s) k (length grown) rest)) is_more
          ∙ ap (λ k. made ++ (here ++ code_of_all cx t (declared seen next s) (next + count s) k rest)) long
          ∙ so_far.instrs;
      names = ap (λ (w : Scope). declared_by_all w m rest) is_wider ∙ ap (λ k. declared_by_all (declared seen next s) k rest) is_more ∙ so_far.names;
      slots = let e = so_far.slots in omega (arith, e);
      covered = λ k. covered_turn cx seen wider next m s rest is_wider is_more (so_far.covered k);
      room = λ r. room_turn cx t seen wider next m (length made) (length grown) s rest long is_wider is_more (so_far.room r);
    }

-- ---- gaps

-- What is known of code in which a gap was filled: before it stands a front, and behind it a body, which may have more behind it now.
abbrev pub Fills : List Instr → ℕ → (ℕ → ℕ → Instr) → (ℕ → List Instr) → List Instr → Type 0
Fills old at filler more new =
    (front body : List Instr) (gap : Instr) → old ≡ front ++ gap ∷ body → at ≡ length front → new ≡ front ++ filler (length front) (length body) ∷ (body ++ more (length front))

-- a body behind a gap, as it stands in the code of the whole
filled : (base c1 c2 c3 body : List Instr) (at : ℕ) (gap : Instr) (filler : ℕ → ℕ → Instr) (more : ℕ → List Instr) → at ≡ length base → c1 ≡ base ++ gap ∷ [] → c2 ≡ c1 ++ body
    → Fills c2 at filler more c3 → c3 ≡ base ++ filler (length base) (length body) ∷ (body ++ more (length base))
filled base c1 c2 c3 body at gap filler more place e1 e2 fills =
    fills base body gap (e2 ∙ ap (λ (c : List Instr). c ++ body) e1 ∙ append_assoc base (gap ∷ []) body) place

pub finish_filled : (cx : Setting) (t n at : ℕ) (scope : Scope) (s : Statement) (base c1 c2 c3 : List Instr) (gap : Instr)
    → at ≡ length base → c1 ≡ base ++ gap ∷ [] → c2 ≡ c1 ++ code_of cx t scope n (length c1) s → Fills c2 at (λ p k. instr.Finish (p + 1 + k)) (λ p. instr.EndFinish p ∷ []) c3
    → c3 ≡ base ++ code_of cx t scope n (length base) (Finish 0 s)
finish_filled cx t n at scope s base c1 c2 c3 gap place e1 e2 fills =
    let long : length c1 ≡ length base + 1 = ap length e1 ∙ length-append base (gap ∷ []) in
    filled base c1 c2 c3 (code_of cx t scope n (length base + 1) s) at gap (λ p k. instr.Finish (p + 1 + k)) (λ p. instr.EndFinish p ∷ []) place e1
    (e2 ∙ ap (λ p. c1 ++ code_of cx t scope n p s) long) fills

-- the code of a loop, the gap for whose head is filled
pub loop_filled : (cx : Setting) (t n m at off : ℕ) (scope inner : Scope) (i : Word) (lo : Number) (b : Bound) (s : Statement) (base c1 c2 c3 : List Instr) (gap : Instr)
    → int_le lo.value (top b) ≡ true → c1 ≡ base ++ (before_bound scope t n b ++ gap ∷ []) → at ≡ length base + length (before_bound scope t n b)
    → inner ≡ within_loop scope n i b → m ≡ n + loop_slots b → c2 ≡ c1 ++ code_of cx t inner m (length c1) s
    → Fills c2 at (λ p k. head_of n lo.value b (p + 1 + k)) (λ p. instr.Next p ∷ []) c3
    → c3 ≡ base ++ code_of cx t scope n (length base) (For off i lo b s)
loop_filled cx t n m at off scope inner i lo b s base c1 c2 c3 gap turns e1 place is_inner next e2 fills =
    let first = before_bound scope t n b in
    let front = base ++ first in
    let q = length base + length first in
    let split : length front ≡ q = length-append base first in
    let here : c1 ≡ front ++ gap ∷ [] = e1 ∙ sym (append_assoc base first (gap ∷ [])) in
    let long : length c1 ≡ q + 1 = ap length here ∙ length-append front (gap ∷ []) ∙ ap (λ k. k + 1) split in
    let there = within_loop scope n i b in
    let body = code_of cx t there (n + loop_slots b) (q + 1) s in
    let is_body : c2 ≡ c1 ++ body =
    e2 ∙ ap (λ (w : Scope). c1 ++ code_of cx t w m (length c1) s) is_inner ∙ ap (λ k. c1 ++ code_of cx t there k (length c1) s) next
    ∙ ap (λ p. c1 ++ code_of cx t there (n + loop_slots b) p s) long in
    filled front c1 c2 c3 body at gap (λ p k. head_of n lo.value b (p + 1 + k)) (λ p. instr.Next p ∷ []) (place ∙ sym split) here is_body fills
    ∙ ap (λ k. front ++ head_of n lo.value b (k + 1 + length body) ∷ (body ++ instr.Next k ∷ [])) split
    ∙ append_assoc base first (head_of n lo.value b (q + 1 + length body) ∷ (body ++ instr.Next q ∷ []))
    ∙ ap (λ x. base ++ cond x (first ++ head_of n lo.value b (q + 1 + length body) ∷ (body ++ instr.Next q ∷ [])) []) (sym turns)

-- the code of two expressions and a comparison, whose gap is filled
pub test_filled : (cx : Setting) (t n at off : ℕ) (scope : Scope) (op o : Comparison) (l r : Expression) (x y : ℕ) (s : Statement) (base c1 c2 c3 : List Instr) (gap : Instr)
    → c1 ≡ base ++ (both scope t l r ++ gap ∷ []) → at ≡ length base + length (both scope t l r) → o ≡ op → x ≡ slot_for scope t l → y ≡ second scope t l r
    → c2 ≡ c1 ++ code_of cx t scope n (length c1) s
    → ((front body : List Instr) (old : Instr) → c2 ≡ front ++ old ∷ body → at ≡ length front → c3 ≡ front ++ instr.Unless o x y (length front + 1 + length body) ∷ body)
    → c3 ≡ base ++ code_of cx t scope n (length base) (If off l op r s)
test_filled cx t n at off scope op o l r x y s base c1 c2 c3 gap e1 place is_op is_x is_y e2 fills =
    let first = both scope t l r in
    let q = length base + length first in
    let body = code_of cx t scope n (q + 1) s in
    let front = base ++ first in
    let assoc : base ++ (first ++ gap ∷ []) ≡ front ++ gap ∷ [] = sym (append_assoc base first (gap ∷ [])) in
    let split : length front ≡ q = length-append base first in
    let long : length c1 ≡ q + 1 = ap length (e1 ∙ assoc) ∙ length-append front (gap ∷ []) ∙ ap (λ k. k + 1) split in
    let is_body : c2 ≡ front ++ gap ∷ body =
    e2 ∙ ap (λ p. c1 ++ code_of cx t scope n p s) long ∙ ap (λ (c : List Instr). c ++ body) (e1 ∙ assoc) ∙ append_assoc front (gap ∷ []) body in
    fills front body gap is_body (place ∙ sym split)
    ∙ ap (λ k. front ++ instr.Unless o x y (k + 1 + length body) ∷ body) split
    ∙ ap (λ k. front ++ instr.Unless k x y (q + 1 + length body) ∷ body) is_op
    ∙ ap (λ k. front ++ instr.Unless op k y (q + 1 + length body) ∷ body) is_x
    ∙ ap (λ k. front ++ instr.Unless op (slot_for scope t l) k (q + 1 + length body) ∷ body) is_y
    ∙ append_assoc base first (instr.Unless op (slot_for scope t l) (second scope t l r) (q + 1 + length body) ∷ body)

-- the same up to an `else`, where a gap is left for the jump over that
pub then_filled : (cx : Setting) (t n at : ℕ) (scope : Scope) (op o : Comparison) (l r : Expression) (x y : ℕ) (s : Statement) (base c1 c2 c3 : List Instr) (gap : Instr)
    → c1 ≡ base ++ (both scope t l r ++ gap ∷ []) → at ≡ length base + length (both scope t l r) → o ≡ op → x ≡ slot_for scope t l → y ≡ second scope t l r
    → c2 ≡ c1 ++ code_of cx t scope n (length c1) s
    → ((front body : List Instr) (old : Instr) → c2 ≡ front ++ old ∷ body → at ≡ length front
    → c3 ≡ front ++ instr.Unless o x y (length front + 1 + length body + 1) ∷ (body ++ instr.Jump 0 ∷ []))
    → c3 ≡ base ++ code_of_then cx t scope n (length base) l op r s
then_filled cx t n at scope op o l r x y s base c1 c2 c3 gap e1 place is_op is_x is_y e2 fills =
    let first = both scope t l r in
    let q = length base + length first in
    let body = code_of cx t scope n (q + 1) s in
    let front = base ++ first in
    let assoc : base ++ (first ++ gap ∷ []) ≡ front ++ gap ∷ [] = sym (append_assoc base first (gap ∷ [])) in
    let split : length front ≡ q = length-append base first in
    let long : length c1 ≡ q + 1 = ap length (e1 ∙ assoc) ∙ length-append front (gap ∷ []) ∙ ap (λ k. k + 1) split in
    let is_body : c2 ≡ front ++ gap ∷ body =
    e2 ∙ ap (λ p. c1 ++ code_of cx t scope n p s) long ∙ ap (λ (c : List Instr). c ++ body) (e1 ∙ assoc) ∙ append_assoc front (gap ∷ []) body in
    fills front body gap is_body (place ∙ sym split)
    ∙ ap (λ k. front ++ instr.Unless o x y (k + 1 + length body + 1) ∷ (body ++ instr.Jump 0 ∷ [])) split
    ∙ ap (λ k. front ++ instr.Unless k x y (q + 1 + length body + 1) ∷ (body ++ instr.Jump 0 ∷ [])) is_op
    ∙ ap (λ k. front ++ instr.Unless op k y (q + 1 + length body + 1) ∷ (body ++ instr.Jump 0 ∷ [])) is_x
    ∙ ap (λ k. front ++ instr.Unless op (slot_for scope t l) k (q + 1 + length body + 1) ∷ (body ++ instr.Jump 0 ∷ [])) is_y
    ∙ append_assoc base first (instr.Unless op (slot_for scope t l) (second scope t l r) (q + 1 + length body + 1) ∷ (body ++ instr.Jump 0 ∷ []))

-- and with what stands behind the `else`, when that gap is filled
pub choice_filled : (cx : Setting) (t n m off jump : ℕ) (scope again : Scope) (op : Comparison) (l r : Expression) (s u : Statement) (base c3 c5 : List Instr)
    → c3 ≡ base ++ code_of_then cx t scope n (length base) l op r s → length c3 ≡ jump + 1 → again ≡ scope → m ≡ n + count s
    → ((front : List Instr) (old : Instr) → c3 ≡ front ++ old ∷ [] → jump ≡ length front
    → c5 ≡ front ++ instr.Jump (length front + 1 + length (code_of cx t again m (length c3) u)) ∷ code_of cx t again m (length c3) u)
    → c5 ≡ base ++ code_of cx t scope n (length base) (IfElse off l op r s u)
choice_filled cx t n m off jump scope again op l r s u base c3 c5 e3 at_jump is_again is_next fills =
    let first = both scope t l r in
    let q = length base + length first in
    let body = code_of cx t scope n (q + 1) s in
    let rest = code_of cx t scope (n + count s) (q + 1 + length body + 1) u in
    let front = base ++ first in
    let test = instr.Unless op (slot_for scope t l) (second scope t l r) (q + 1 + length body + 1) in
    let ahead = front ++ test ∷ body in
    let apart : c3 ≡ ahead ++ instr.Jump 0 ∷ [] =
    e3 ∙ sym (append_assoc base first (test ∷ (body ++ instr.Jump 0 ∷ []))) ∙ sym (append_assoc front (test ∷ body) (instr.Jump 0 ∷ [])) in
    let until : length ahead ≡ q + 1 + length body = omega (arith, length-append front (test ∷ body), length-append base first) in
    let long : length c3 ≡ q + 1 + length body + 1 = ap length apart ∙ length-append ahead (instr.Jump 0 ∷ []) ∙ ap (λ k. k + 1) until in
    let there : jump ≡ length ahead = omega (arith, at_jump, long, until) in
    let is_rest : code_of cx t again m (length c3) u ≡ rest =
    ap (λ (w : Scope). code_of cx t w m (length c3) u) is_again ∙ ap (λ k. code_of cx t scope k (length c3) u) is_next ∙ ap (λ p. code_of cx t scope (n + count s) p u) long in
    fills ahead (instr.Jump 0) apart there
    ∙ ap (λ (c : List Instr). ahead ++ instr.Jump (length ahead + 1 + length c) ∷ c) is_rest
    ∙ ap (λ k. ahead ++ instr.Jump (k + 1 + length rest) ∷ rest) until
    ∙ simp append_assoc

-- what stands behind an `else`, when the gap before it is filled
pub other_filled : (cx : Setting) (t n jump : ℕ) (scope : Scope) (s : Statement) (c3 c4 c5 : List Instr) → c4 ≡ c3 ++ code_of cx t scope n (length c3) s
    → ((front body : List Instr) (old : Instr) → c4 ≡ front ++ old ∷ body → jump ≡ length front → c5 ≡ front ++ instr.Jump (length front + 1 + length body) ∷ body)
    → (front : List Instr) (old : Instr) → c3 ≡ front ++ old ∷ [] → jump ≡ length front
    → c5 ≡ front ++ instr.Jump (length front + 1 + length (code_of cx t scope n (length c3) s)) ∷ code_of cx t scope n (length c3) s
other_filled cx t n jump scope s c3 c4 c5 e4 fills front old e3 place =
    let body = code_of cx t scope n (length c3) s in
    fills front body old (e4 ∙ ap (λ (c : List Instr). c ++ body) e3 ∙ append_assoc front (old ∷ []) body) place
