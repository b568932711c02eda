-- All of the first part of a statement's code is done: its last instruction is next.
use Rattle.std.proofs.Common.{◌≡◌, ℕ, ◌+◌, ◌<◌, List, [], ◌∷◌, ◌++◌, length, Some, sym, ap, subst, arith, length-append}
use Rattle.std.specs.Prelude.{slice_get, slice_set}
use Rattle.std.proofs.lemmas.Option.{same_Some}
use Rattle.xk_types.specs.declared.instr.Instr.{Instr}
use Rattle.xk_types.specs.declared.world.Value.{Value as Held}
use Rattle.xk_types.specs.Step.{slot_at}
use Rattle.xk_tree.specs.Tree.{Word, Statement}
use Rattle.xk_emit.specs.CodeOf.{Scope, number_of, declared, before, code_of}
use Rattle.xk_emit.specs.NameCoverage.{IsFound}
use Rattle.xk_source_semantics.specs.Source.{Todo, value_of}
use Rattle.xk_law_compiler.proofs.ExpressionLemmas.{exec, name_held, IsBelow, IsMatched, below_more, still_matched}
use Rattle.xk_law_compiler.proofs.RelationLemmas.{HoldsAt, holds_back, Stands, Rest, IsSimple}
use Rattle.xk_law_compiler.proofs.StepLemmas.ActivityLemmas.{Between, RunningPair, its_code}

module _ (pair : RunningPair) where
  open pair use {cx, act, call, like}

  pub record Ready (s : Statement) (rest : List Todo) : Type 0 where
    pub t : ℕ
    pub scope : Scope
    pub n : ℕ
    pub first : ℕ
    pub start : List Held
    pub simple : IsSimple s
    pub stands : Stands cx t like.part scope n first s
    pub matched : IsMatched scope call.frame.names start
    pub after : Rest cx t like.part (declared scope n s) (first + length (code_of cx.setting t scope n first s)) rest
    pub ran : exec (before cx.setting scope t n s) start ≡ Some act.frame.slots
    pub at : act.frame.place ≡ first + length (before cx.setting scope t n s)

  -- the instruction behind it
  pub ready_at : (s : Statement) (rest : List Todo) (r : Ready s rest) (i : Instr) (tail : List Instr)
      → code_of cx.setting r.t r.scope r.n r.first s ≡ before cx.setting r.scope r.t r.n s ++ i ∷ tail
      → slice_get (its_code pair) act.frame.place ≡ Some i
  ready_at s rest r i tail e =
      let h = holds_back (its_code pair) r.first (before cx.setting r.scope r.t r.n s) (i ∷ tail) (subst (HoldsAt (its_code pair) r.first) e r.stands.holds) in
      subst (λ p. slice_get (its_code pair) p ≡ Some i) (sym r.at) h.0

  pub ready_below : (s : Statement) (rest : List Todo) (r : Ready s rest) → IsBelow r.scope r.t
  ready_below s rest r = below_more r.scope r.n r.t (let room = r.stands.room in omega arith) r.stands.proper.below

  -- where that is the last one
  pub after_one : (s : Statement) (rest : List Todo) (r : Ready s rest) (i : Instr)
      → code_of cx.setting r.t r.scope r.n r.first s ≡ before cx.setting r.scope r.t r.n s ++ i ∷ []
      → Rest cx r.t like.part (declared r.scope r.n s) (act.frame.place + 1) rest
  after_one s rest r i e =
      let long = ap length e in
      let same : r.first + length (code_of cx.setting r.t r.scope r.n r.first s) ≡ act.frame.place + 1 =
      omega (arith, long, length-append (before cx.setting r.scope r.t r.n s) (i ∷ []), r.at) in
      subst (λ p. Rest cx r.t like.part (declared r.scope r.n s) p rest) same r.after

  pub ready_matched : (s : Statement) (rest : List Todo) (r : Ready s rest)
      → ((k : ℕ) → k < r.t → slice_get act.frame.slots k ≡ slice_get r.start k)
      → IsMatched r.scope call.frame.names act.frame.slots
  ready_matched s rest r keeps = still_matched r.scope r.t call.frame.names r.start act.frame.slots (ready_below s rest r) keeps r.matched

  pub nothing_ran : (start : List Held) → exec [] start ≡ Some act.frame.slots → (t k : ℕ) → k < t
      → slice_get act.frame.slots k ≡ slice_get start k
  nothing_ran start e t k lt = ap (λ o. slice_get o k) (sym (same_Some start act.frame.slots e))

  -- what a value in a slot does that isn't written
  pub between_after : (s : Statement) (rest : List Todo) (r : Ready s rest) (i : Instr)
      → code_of cx.setting r.t r.scope r.n r.first s ≡ before cx.setting r.scope r.t r.n s ++ i ∷ [] → declared r.scope r.n s ≡ r.scope
      → ((k : ℕ) → k < r.t → slice_get act.frame.slots k ≡ slice_get r.start k)
      → Between cx like.part (act.frame.place + 1) act.frame.slots rest call.frame.names
  between_after s rest r i e same keeps = record {
    t = r.t;
    scope = r.scope;
    matched = ready_matched s rest r keeps;
    rest = subst (λ sc. Rest cx r.t like.part sc (act.frame.place + 1) rest) same (after_one s rest r i e);
  }

  -- a slot is written with a value that both know
  pub between_known : (s : Statement) (rest : List Todo) (r : Ready s rest) (i : Instr) (x : List ℕ) (d : ℕ) (known old : Held)
      → code_of cx.setting r.t r.scope r.n r.first s ≡ before cx.setting r.scope r.t r.n s ++ i ∷ []
      → IsMatched (declared r.scope r.n s) ((x, known) ∷ call.frame.names) (slice_set act.frame.slots d known)
      → Between cx like.part (act.frame.place + 1) (slice_set act.frame.slots d known) rest ((x, known) ∷ call.frame.names)
  between_known s rest r i x d known old e match = record { t = r.t; scope = declared r.scope r.n s; matched = match; rest = after_one s rest r i e }

  pub clock_known : (s : Statement) (rest : List Todo) (r : Ready s rest) (c : Word) → IsFound r.scope c.text
      → exec [] r.start ≡ Some act.frame.slots
      → value_of call.frame.names c ≡ slot_at act (number_of r.scope c)
  clock_known s rest r c visible ran = name_held r.scope call.frame.names c act.frame.slots visible (ready_matched s rest r (nothing_ran r.start ran r.t))
