-- What a unit comes to is reckoned from what the units of greater number come to.
use Rattle.std.proofs.Common.{◌≡◌, ℕ, zero, suc, ◌+◌, ◌<◌, ◌≤◌, max, fold, List, [], ◌∷◌, length, map, Option, Some, None, slice_get}
use Rattle.std.proofs.Common.{slice_index, inl, inr, refl, sym, ap, ◌∙◌, arith}
use Rattle.std.specs.Option.{option_map_or}
use Rattle.std.proofs.lemmas.Bool.{cases_lt}
use Rattle.std.proofs.lemmas.Option.{slice_get_past}
use Rattle.xk_types.specs.declared.instr.Instr.{Instr}
use Rattle.xk_types.specs.declared.instr.Instr.TheVariants as instr
use Rattle.xk_types.specs.Code.{UnitValue, ModuleValue, unit_called, unit_run}
use Rattle.xk_types.specs.Bound.{chain_of, chain_within, total, total_within, visits, steps_weight, activities_weight, clocks_weight}
use Rattle.xk_bounds.specs.Measure.{added, added_by}
use Rattle.xk_bounds.specs.Rooms.{called_by, most_called}
use Rattle.xk_bounds.proofs.CutLemmas.{sum_same, sum_cut}
use Rattle.xk_explain_bounds.specs.declared.remark.Subject.{Subject}
use Rattle.xk_explain_bounds.specs.declared.remark.Subject.TheVariants as subject
use Rattle.xk_explain_bounds.specs.Amounts.{comes_to, comes_to_by, kept}
use Rattle.xk_explain_bounds.proofs.AmountLemmas.{most_by}
use Rattle.xk_explain_bounds.proofs.UpwardLemmas.{RunsUpward}

-- ---- units one below another

-- What each unit comes to, by what those come to that it runs: of a unit that isn't there nothing, and numbers that are kept serve as well.
record AreReckoned (m : ModuleValue) (by : (ℕ → ℕ) → UnitValue → ℕ) (all : ℕ → ℕ) : Type 0 where
  past : (unit : ℕ) → length m.units ≤ unit → all unit ≡ 0
  here : (unit : ℕ) (u : UnitValue) → slice_get m.units unit ≡ Some u → all unit ≡ by all u
  cut : (table : ℕ → ℕ) (unit : ℕ) (u : UnitValue) → slice_get m.units unit ≡ Some u → ((t : ℕ) → unit < t → table t ≡ kept (all t))
      → kept (by table u) ≡ kept (by all u)

-- So it is with a number that looks at no more units one below another than a depth, where only units of greater number count in it.
module _ (m : ModuleValue) (by : (ℕ → ℕ) → UnitValue → ℕ) (within : ℕ → ℕ → ℕ) (none : (unit : ℕ) → within zero unit ≡ 0)
    (more : (depth unit : ℕ) → within (suc depth) unit ≡ option_map_or (by (within depth)) (slice_get m.units unit) 0)
    (same : (below above : ℕ → ℕ) (unit : ℕ) (u : UnitValue) → slice_get m.units unit ≡ Some u → ((t : ℕ) → unit < t → below t ≡ above t) → by below u ≡ by above u) where
  past_all : (depth unit : ℕ) → length m.units ≤ unit → within depth unit ≡ 0
  past_all zero unit le = none unit
  past_all (suc depth) unit le = more depth unit ∙ ap (λ o. option_map_or (by (within depth)) o 0) (slice_get_past m.units unit le)

  over_same : (below above : ℕ → ℕ) (unit : ℕ) (o : Option UnitValue) → slice_get m.units unit ≡ o → ((t : ℕ) → unit < t → below t ≡ above t)
      → option_map_or (by below) o 0 ≡ option_map_or (by above) o 0
  over_same below above unit None found agree = refl
  over_same below above unit (Some u) found agree = same below above unit u found agree

  -- one unit more below another adds nothing where there are no more units
  deeper : (depth unit : ℕ) → length m.units ≤ depth + unit → within depth unit ≡ within (suc depth) unit
  deeper zero unit le = none unit ∙ sym (past_all 1 unit (omega arith))
  deeper (suc depth) unit le =
      more depth unit
      ∙ over_same (within depth) (within (suc depth)) unit (slice_get m.units unit) refl (λ t lt. deeper depth t (omega arith))
      ∙ sym (more (suc depth) unit)

  by_all : (unit : ℕ) (u : UnitValue) → slice_get m.units unit ≡ Some u → within (length m.units) unit ≡ by (within (length m.units)) u
  by_all unit u found =
      deeper (length m.units) unit (omega arith)
      ∙ more (length m.units) unit
      ∙ ap (λ o. option_map_or (by (within (length m.units))) o 0) found

-- what a unit that may be run comes to, by a table that says it of those of greater number
run_by : (h : ℕ → ℕ) → 0 ≡ h 0 → (below above : ℕ → ℕ) (o : Option ℕ) → ((t : ℕ) → o ≡ Some t → below t ≡ h (above t))
    → option_map_or below o 0 ≡ h (option_map_or above o 0)
run_by h start below above None same = start
run_by h start below above (Some t) same = same t refl

-- ---- sums

module _ (weight : Instr → ℕ) (m : ModuleValue) (up : RunsUpward m) where
  no_sum : (unit : ℕ) → total_within weight m zero unit ≡ 0
  unfolding total_within
  no_sum unit = refl

  next_sum : (depth unit : ℕ) → total_within weight m (suc depth) unit ≡ option_map_or (added_by weight (total_within weight m depth)) (slice_get m.units unit) 0
  unfolding total_within
  next_sum depth unit = refl

  sum_by_greater : (below above : ℕ → ℕ) (unit : ℕ) (u : UnitValue) → slice_get m.units unit ≡ Some u → ((t : ℕ) → unit < t → below t ≡ above t)
      → added_by weight below u ≡ added_by weight above u
  sum_by_greater below above unit u found same =
      sum_same (visits u) (added weight below) (added weight above) 0 u.code
      (λ at i here. ap (λ n. weight i + n) (run_by (λ n. n) refl below above (unit_run i) (λ t e. same t (up unit u at i t found here e))))

  sum_by_kept : (table all : ℕ → ℕ) (unit : ℕ) (u : UnitValue) → slice_get m.units unit ≡ Some u → ((t : ℕ) → unit < t → table t ≡ kept (all t))
      → kept (added_by weight table u) ≡ kept (added_by weight all u)
  sum_by_kept table all unit u found same =
      sum_cut 1000000000000000001 (visits u) (added weight table) (added weight all) 0 u.code
      (λ at i here. let is = run_by kept refl table all (unit_run i) (λ t e. same t (up unit u at i t found here e)) in omega arith)

  sums : AreReckoned m (added_by weight) (total weight m)
  sums = record {
    past = past_all m (added_by weight) (total_within weight m) no_sum next_sum sum_by_greater (length m.units);
    here = by_all m (added_by weight) (total_within weight m) no_sum next_sum sum_by_greater;
    cut = λ table unit u found same. sum_by_kept table (total weight m) unit u found same;
  }

-- ---- chains of calls

module _ (own : UnitValue → ℕ) (m : ModuleValue) (up : RunsUpward m) where
  abbrev with_called : (ℕ → ℕ) → UnitValue → ℕ
  with_called table u = own u + most_called table u.code

  no_chain : (unit : ℕ) → chain_within own m zero unit ≡ 0
  unfolding chain_within
  no_chain unit = refl

  next_chain : (depth unit : ℕ) → chain_within own m (suc depth) unit ≡ option_map_or (with_called (chain_within own m depth)) (slice_get m.units unit) 0
  unfolding chain_within
  next_chain depth unit = refl

  -- what is called has a greater number
  called_later : (unit : ℕ) (u : UnitValue) (at : ℕ) (i : Instr) (t : ℕ) → slice_get m.units unit ≡ Some u → slice_get u.code at ≡ Some i → unit_called i ≡ Some t
      → unit < t
  called_later unit u at (instr.Call v args) t found here e = up unit u at (instr.Call v args) t found here e
  called_later unit u at _ t found here e = cc

  most_by_greater : (h : ℕ → ℕ) → 0 ≡ h 0 → ((a b : ℕ) → max (h a) (h b) ≡ h (max a b)) → (below above : ℕ → ℕ) (unit : ℕ) (u : UnitValue)
      → slice_get m.units unit ≡ Some u → ((t : ℕ) → unit < t → below t ≡ h (above t)) → most_called below u.code ≡ h (most_called above u.code)
  most_by_greater h start over below above unit u found same =
      ap (λ n. fold max n (map (called_by below) u.code)) start
      ∙ most_by h over (called_by below) (called_by above) 0 u.code
      (λ at i here. run_by h start below above (unit_called i) (λ t e. same t (called_later unit u at i t found here e)))

  chain_by_greater : (below above : ℕ → ℕ) (unit : ℕ) (u : UnitValue) → slice_get m.units unit ≡ Some u → ((t : ℕ) → unit < t → below t ≡ above t)
      → with_called below u ≡ with_called above u
  chain_by_greater below above unit u found same = ap (λ n. own u + n) (most_by_greater (λ n. n) refl (λ a b. refl) below above unit u found same)

  chain_by_kept : (table all : ℕ → ℕ) (unit : ℕ) (u : UnitValue) → slice_get m.units unit ≡ Some u → ((t : ℕ) → unit < t → table t ≡ kept (all t))
      → kept (with_called table u) ≡ kept (with_called all u)
  chain_by_kept table all unit u found same = let is = most_by_greater kept refl (λ a b. omega arith) table all unit u found same in omega arith

  chains : AreReckoned m with_called (chain_of own m)
  chains = record {
    past = past_all m with_called (chain_within own m) no_chain next_chain chain_by_greater (length m.units);
    here = by_all m with_called (chain_within own m) no_chain next_chain chain_by_greater;
    cut = λ table unit u found same. chain_by_kept table (chain_of own m) unit u found same;
  }

-- ---- all of them

reckoned : (s : Subject) (m : ModuleValue) → RunsUpward m → AreReckoned m (comes_to_by s) (comes_to s m)
reckoned subject.Steps m up = sums steps_weight m up
reckoned subject.Activities m up = sums activities_weight m up
reckoned subject.Clocks m up = sums clocks_weight m up
reckoned subject.Stack m up = chains (λ v. v.slots) m up
reckoned subject.Accepted m up = record { past = λ unit le. refl; here = λ unit u found. refl; cut = λ table unit u found same. refl }

slice_index_past : (xs : List ℕ) (t : ℕ) → length xs ≤ t → slice_index xs t ≡ 0
slice_index_past [] t le = refl
slice_index_past (x ∷ xs) zero le = absurd (omega (arith, le))
slice_index_past (x ∷ xs) (suc t) le = slice_index_past xs t (omega (arith, le))

-- what a unit comes to, by a table that says it of those of greater number
pub table_next : (s : Subject) (m : ModuleValue) → RunsUpward m → (table : List ℕ) (unit : ℕ) (u : UnitValue) → slice_get m.units unit ≡ Some u
    → length table ≡ length m.units → ((t : ℕ) → unit < t → t < length m.units → slice_index table t ≡ kept (comes_to s m t))
    → kept (comes_to_by s (slice_index table) u) ≡ kept (comes_to s m unit)
table_next s m up table unit u found long greater =
    let are = reckoned s m up in
    are.cut (slice_index table) unit u found
    (λ t lt. elim (cases_lt t (length m.units)) [
      | inl inside ↦ greater t lt inside
      | inr beyond ↦ slice_index_past table t (omega (arith, long, beyond)) ∙ sym (ap kept (are.past t beyond))
    ])
    ∙ ap kept (sym (are.here unit u found))
