-- The beginning of a log is the log of the beginning of its schedule.
use Rattle.std.proofs.Common.{◌≡◌, ℕ, zero, suc, ◌+◌, ◌-◌, ◌≤◌, ◌<◌, nat_le, Bool, true, false, List, [], ◌∷◌, ◌++◌, length, take, replicate, refl, sym, ap, ◌∙◌, arith, if◌then◌else◌, zero-lt-suc, not-suc-le-zero}
use Rattle.std.proofs.Math.Seq.{take-append-add}
use Rattle.std.proofs.lemmas.Bool.{le-leb, leb-false, leb-true, lt-leb}
use Rattle.std.proofs.lemmas.List.{append-nil, length-append, length-replicate, take-append-le, take-replicate}
use Rattle.xk_types.specs.declared.world.Entry.{Entry}
use Rattle.xk_types.specs.Logs.{schedule_of}
use Rattle.xk_types.proofs.LogEntryLemmas.{entry_of}
use Rattle.std.specs.Coded.{le_prop}
use Rattle.xk_beginnings.specs.Beginnings.{cut_entry, first_steps, steps_in}

-- of one that is cut
cut_schedule : (n : ℕ) (e : Entry) → schedule_of (cut_entry n e) ≡ replicate n e.act
cut_schedule zero e = refl
cut_schedule (suc k) e = append-nil (replicate (suc k) e.act)

-- an entry is taken whole
whole_taken : (n s a : ℕ) (rest : List ℕ) → s ≤ n → take n (replicate s a ++ rest) ≡ replicate s a ++ take (n - s) rest
whole_taken n s a rest h =
    let long : length (replicate s a) + (n - s) ≡ n = omega (arith, length-replicate s a, h) in
    ap (λ k. take k (replicate s a ++ rest)) (sym long) ∙ take-append-add (replicate s a) rest (n - s)

-- or cut
part_taken : (n s a : ℕ) (rest : List ℕ) → n ≤ s → take n (replicate s a ++ rest) ≡ replicate n a
part_taken n s a rest h =
    let short : n ≤ length (replicate s a) = omega (arith, length-replicate s a, h) in
    take-append-le n (replicate s a) rest short ∙ take-replicate n s a h

-- either
one_taken : (b : Bool) (n : ℕ) (e : Entry) (es : List Entry) → nat_le e.steps n ≡ b → schedule_of (first_steps (n - e.steps) es) ≡ take (n - e.steps) (schedule_of es)
    → schedule_of (if b then e ∷ first_steps (n - e.steps) es else cut_entry n e) ≡ take n (replicate e.steps e.act ++ schedule_of es)
one_taken true n e es le h =
    ap (λ l. replicate e.steps e.act ++ l) h ∙ sym (whole_taken n e.steps e.act (schedule_of es) (leb-true e.steps n le))
one_taken false n e es le h =
    let more : n < e.steps = leb-false e.steps n le in
    let less : n ≤ e.steps = omega (arith, more) in
    cut_schedule n e ∙ sym (part_taken n e.steps e.act (schedule_of es) less)

take_none : (n : ℕ) → ◌≡◌ {A = List ℕ} [] (take n [])
take_none zero = refl
take_none (suc k) = refl

-- the schedule of the first n steps is the beginning of the schedule
pub first_steps_taken : (n : ℕ) (log : List Entry) → schedule_of (first_steps n log) ≡ take n (schedule_of log)
first_steps_taken n [] = take_none n
first_steps_taken n (e ∷ es) = one_taken (nat_le e.steps n) n e es refl (first_steps_taken (n - e.steps) es)

-- an entry of so many steps, at least one, is one that is cut to them
pub cut_is : (n : ℕ) (e : Entry) (some : 0 < n) → entry_of e.act n some ∷ [] ≡ cut_entry n e
cut_is zero e some = absurd (not-suc-le-zero some)
cut_is (suc k) e some = ap (λ p. entry_of e.act (suc k) p ∷ []) (le_prop some (zero-lt-suc k))
