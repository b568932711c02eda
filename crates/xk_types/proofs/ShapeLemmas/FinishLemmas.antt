-- Finishes: which instructions they begin and end with, and which places they lie round.
use Rattle.std.proofs.Common.{◌≡◌, ℕ, ◌+◌, Bool, Some, refl, sym, ap, ◌∙◌, subst, arith}
use Rattle.std.specs.Prelude.{slice_get, nat_lt}
use Rattle.std.proofs.lemmas.Bool.Decides.{nat_tests}
use Rattle.std.proofs.lemmas.Option.{none-some, cond_some}
use Rattle.xk_types.specs.declared.instr.Instr.{Instr}
use Rattle.xk_types.specs.declared.instr.Instr.TheVariants as instr
use Rattle.xk_types.specs.Code.{UnitValue}
use Rattle.xk_types.specs.Blocks.{Span, is_end_of, is_inside, finish_opened, finishes}
use Rattle.xk_types.specs.Order.{Has}
use Rattle.xk_types.proofs.ShapeLemmas.SpanStartLemmas.{begun_found}
use Rattle.xk_types.proofs.ShapeLemmas.SpanLemmas.{end_is}

-- the finish between these two places
abbrev pub finish_of : ℕ → ℕ → Span
finish_of first last = record { first = first; last = last }

-- a `finish` and an `endfinish` that name each other
pub record IsFinish (u : UnitValue) (f : Span) : Type 0 where
  pub begins : slice_get u.code f.first ≡ Some (instr.Finish f.last)
  pub ends : slice_get u.code f.last ≡ Some (instr.EndFinish f.first)

-- instruction i at place `at` is the `finish` of it, and its `endfinish` names it
pub record Begins (u : UnitValue) (at : ℕ) (i : Instr) (f : Span) : Type 0 where
  pub is : i ≡ instr.Finish f.last
  pub first : f.first ≡ at
  pub next : slice_get u.code f.last ≡ Some (instr.EndFinish at)

-- what `finish_opened` finds
pub begins : (u : UnitValue) (at : ℕ) (i : Instr) (f : Span) → finish_opened u at i ≡ Some f → Begins u at i f
begins u at (instr.Finish e) f h =
    let p = cond_some (is_end_of at (slice_get u.code e)) (finish_of at e) f h in
    subst (Begins u at (instr.Finish e)) p.1 (record { is = refl; first = refl; next = end_is at (slice_get u.code e) p.0 })
begins u at _ f h = absurd (none-some f h)

-- where a finish begins
pub begins_at : (u : UnitValue) (at : ℕ) (i : Instr) (f : Span) → finish_opened u at i ≡ Some f → f.first ≡ at
begins_at u at i f h = (begins u at i f h).first

-- each of a unit's finishes is one
pub is_finish : (u : UnitValue) (f : Span) → Has (finishes u) f → IsFinish u f
is_finish u f h =
    let r = begun_found (finish_opened u) 0 u.code f h in
    let b = begins u (0 + r.j) r.i f r.begins in
    let place : r.j ≡ f.first = omega (arith, b.first) in
    let same : 0 + r.j ≡ f.first = omega arith in
    record {
      begins = ap (slice_get u.code) (sym place) ∙ r.found ∙ ap Some b.is;
      ends = subst (λ n. slice_get u.code f.last ≡ Some (instr.EndFinish n)) same b.next;
    }

-- one that neither begins nor ends at a place lies round it and the next, or round neither
pub inside_next : (p : ℕ) (f : Span) → (f.first ≡ p → ⊥) → (f.last ≡ p → ⊥) → is_inside (p + 1) f ≡ is_inside p f
inside_next p f h g = go (nat_lt f.first p) refl
  where
    go : (b : Bool) → nat_lt f.first p ≡ b → is_inside (p + 1) f ≡ is_inside p f
    go b e = grind (arith, nat_tests)
