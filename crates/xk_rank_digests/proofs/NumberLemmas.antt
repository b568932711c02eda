-- Tables of ranks and of numbers, with one activity more.
use Rattle.std.proofs.Common.{◌≡◌, ℕ, zero, suc, ◌+◌, ◌<◌, ◌≤◌, Bool, true, false, true≢false, List, [], ◌∷◌, ◌++◌, length, not, Option}
use Rattle.std.proofs.Common.{Some, refl, sym, ap, ◌∙◌, subst, arith}
use Rattle.std.specs.Prelude.{slice_get}
use Rattle.std.specs.Option.{option_map_or}
use Rattle.std.proofs.lemmas.List.{length-map, length_push}
use Rattle.std.proofs.lemmas.Option.{none-some, same_Some}
use Rattle.xk_types.specs.World.{Activity, World, is_ended}
use Rattle.xk_types.proofs.ListLemmas.{get_inside, each_push}
use Rattle.xk_core.specs.Core.{is_living}
use Rattle.xk_ranks.specs.Ranks.{going, rank}
use Rattle.xk_ranks.proofs.RankListLemmas.{rank_zero}
use Rattle.xk_ranks.proofs.RankStepLaw.{mark_of}
use Rattle.xk_rank_digests.specs.Numbers.{IsOfRank, AreRanks, AreNumbers, IsTable, number_of}

-- ---- one more

abbrev one_if : Bool → ℕ
one_if true = 1
one_if false = 0

rank_more : (ms : List Bool) (a : ℕ) (b : Bool) → slice_get ms a ≡ Some b → rank ms (suc a) ≡ rank ms a + one_if b
rank_more [] a b h = absurd (none-some b h)
rank_more (true ∷ ms) zero b h = by b (same_Some true b h)
  where
    by : (p : Bool) → true ≡ p → suc (rank ms zero) ≡ zero + one_if p
    by true e = (let z = rank_zero ms in omega (arith, z))
    by false e = absurd (true≢false e)
rank_more (false ∷ ms) zero b h = by b (same_Some false b h)
  where
    by : (p : Bool) → false ≡ p → rank ms zero ≡ zero + one_if p
    by true e = absurd (true≢false (sym e))
    by false e = (let z = rank_zero ms in omega (arith, z))
rank_more (true ∷ ms) (suc a) b h = (let e = rank_more ms a b h in omega (arith, e))
rank_more (false ∷ ms) (suc a) b h = rank_more ms a b h

-- no more are marked than there are
pub rank_most : (ms : List Bool) (a : ℕ) → rank ms a ≤ a
rank_most [] a = omega arith
rank_most (b ∷ ms) zero = omega arith
rank_most (true ∷ ms) (suc a) = (let e = rank_most ms a in omega (arith, e))
rank_most (false ∷ ms) (suc a) = (let e = rank_most ms a in omega (arith, e))

pub going_length : (acts : List Activity) → length (going acts) ≡ length acts
going_length acts = length-map acts (λ (x : Activity). not (is_ended x.status))

-- of each activity whether it hasn't ended
going_of : (w : World) (a : ℕ) → a < length w.activities → slice_get (going w.activities) a ≡ Some (is_living w a)
going_of w a inside =
    let x = get_inside w.activities a inside in
    mark_of w.activities a x.0 x.1
    ∙ ap (λ (o : Option Activity). Some (option_map_or (λ (y : Activity). not (is_ended y.status)) o false)) (sym x.1)

module _ (w : World) (a : ℕ) (inside : a < length w.activities) (b : Bool) (is : b ≡ is_living w a) where
  -- one that hasn't ended is one more
  pub rank_living : b ≡ true → rank (going w.activities) (a + 1) ≡ rank (going w.activities) a + 1
  rank_living living =
      let e : suc a ≡ a + 1 = omega arith in
      ap (rank (going w.activities)) (sym e)
      ∙ rank_more (going w.activities) a true (going_of w a inside ∙ ap (λ p. Some p) (sym is ∙ living))

  pub rank_ended : b ≡ false → rank (going w.activities) (a + 1) ≡ rank (going w.activities) a
  rank_ended over =
      let e : suc a ≡ a + 1 = omega arith in
      let more = rank_more (going w.activities) a false (going_of w a inside ∙ ap (λ p. Some p) (sym is ∙ over)) in
      ap (rank (going w.activities)) (sym e) ∙ omega (arith, more)

  -- it has its rank
  pub living_of : (r : ℕ) → b ≡ true → r ≡ rank (going w.activities) a → IsOfRank (going w.activities) a r
  living_of r living same = record { marked = going_of w a inside ∙ ap (λ p. Some p) (sym is ∙ living); ranks = sym same }

  pub numbers_more : (numbers new : List ℕ) → b ≡ true → AreNumbers (going w.activities) a numbers → new ≡ numbers ++ a ∷ []
      → AreNumbers (going w.activities) (a + 1) new
  numbers_more numbers new living are more =
      let longer = length_push numbers a in
      let rank_of = rank_living living in
      let as_many = are.many in
      subst (AreNumbers (going w.activities) (a + 1)) (sym more) (record {
        many = omega (arith, longer, rank_of, as_many);
        each = each_push (λ r p. IsOfRank (going w.activities) p r) numbers a are.each (living_of (length numbers) living are.many);
      })

  pub numbers_same : (numbers : List ℕ) → b ≡ false → AreNumbers (going w.activities) a numbers
      → AreNumbers (going w.activities) (a + 1) numbers
  numbers_same numbers over are = record { many = are.many ∙ sym (rank_ended over); each = are.each }

-- a rank more
pub ranks_more : (ms : List Bool) (a r : ℕ) (ranks new : List ℕ) → AreRanks ms a ranks → r ≡ rank ms a → new ≡ ranks ++ r ∷ []
    → AreRanks ms (a + 1) new
ranks_more ms a r ranks new are same more =
    let longer = length_push ranks r in
    let as_many = are.many in
    subst (AreRanks ms (a + 1)) (sym more) (record {
      many = omega (arith, longer, as_many);
      each = each_push (λ k s. rank ms k ≡ s) ranks r are.each (ap (rank ms) are.many ∙ sym same);
    })

-- ---- what they hold

pub ranks_none : (ms : List Bool) → AreRanks ms 0 []
ranks_none ms = record { many = refl; each = λ a r h. absurd (none-some r h) }

pub numbers_none : (ms : List Bool) → AreNumbers ms 0 []
numbers_none ms = record { many = sym (rank_zero ms); each = λ r a h. absurd (none-some a h) }

-- a table for as many as there are activities
pub table_of : (w : World) (ranks numbers : List ℕ) → AreRanks (going w.activities) (length w.activities) ranks
    → AreNumbers (going w.activities) (length w.activities) numbers → IsTable (going w.activities) ranks numbers
table_of w ranks numbers are have = record {
  ranks_are = subst (λ n. AreRanks (going w.activities) n ranks) (sym (going_length w.activities)) are;
  numbers_are = subst (λ n. AreNumbers (going w.activities) n numbers) (sym (going_length w.activities)) have;
}

-- ---- the number of a rank

-- whoever has the rank has the number
pub number_here : (ms : List Bool) (a r : ℕ) → IsOfRank ms a r → number_of ms r ≡ a
number_here [] a r of = absurd (none-some true of.marked)
number_here (false ∷ ms) zero r of = absurd (true≢false (sym (same_Some false true of.marked)))
number_here (false ∷ ms) (suc a) r of = ap suc (number_here ms a r (record { marked = of.marked; ranks = of.ranks }))
number_here (true ∷ ms) zero zero of = refl
number_here (true ∷ ms) zero (suc r) of = (let is = of.ranks in absurd (omega (arith, is)))
number_here (true ∷ ms) (suc a) zero of = (let is = of.ranks in absurd (omega (arith, is)))
number_here (true ∷ ms) (suc a) (suc r) of =
    (let is = of.ranks in ap suc (number_here ms a r (record { marked = of.marked; ranks = omega (arith, is) })))

-- where no more are marked, there is none
pub number_beyond : (ms : List Bool) (n r : ℕ) → n ≡ length ms → rank ms n ≤ r → number_of ms r ≡ n
number_beyond [] n r all few = sym all
number_beyond (b ∷ ms) zero r all few = absurd (omega (arith, all))
number_beyond (false ∷ ms) (suc n) r all few = ap suc (number_beyond ms n r (omega (arith, all)) few)
number_beyond (true ∷ ms) (suc n) zero all few = absurd (omega (arith, few))
number_beyond (true ∷ ms) (suc n) (suc r) all few = ap suc (number_beyond ms n r (omega (arith, all)) (omega (arith, few)))

-- the one that is there has the rank
pub number_rank : (ms : List Bool) (r : ℕ) → slice_get ms (number_of ms r) ≡ Some true → rank ms (number_of ms r) ≡ r
number_rank [] r marked = absurd (none-some true marked)
number_rank (false ∷ ms) r marked = number_rank ms r marked
number_rank (true ∷ ms) zero marked = refl
number_rank (true ∷ ms) (suc r) marked = ap suc (number_rank ms r marked)
