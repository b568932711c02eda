-- What is in a footprint, and what has nothing to do with it.
use Rattle.std.proofs.Common.{◌≡◌, ◌∙◌, ℕ, ◌%◌, ◌<◌, ◌⊎◌, inl, inr, Bool, true, false, true≢false, Option, Some, None}
use Rattle.std.proofs.Common.{refl, sym, ap, subst, arith, eqb-true}
use Rattle.std.specs.Prelude.{max, ◌==◌, ◌||◌, not}
use Rattle.std.specs.Int.{bit_at}
use Rattle.std.specs.Int.RustNames.{bit_or}
use Rattle.std.specs.Option.{option_map_or}
use Rattle.std.proofs.lemmas.Bool.{or_left, or_right}
use Rattle.std.proofs.lemmas.Nat.Bits.{bit_at_or, bit_at-lt, bit_at-zero}
use Rattle.xk_types.specs.declared.instr.Instr.{Instr}
use Rattle.xk_types.specs.declared.instr.Instr.TheVariants as instr
use Rattle.xk_law_commute.specs.Conflicts.{reads, puts, stores}
use Rattle.xk_law_traces.specs.Edges.{AreApart, prints}
use Rattle.xk_closed_sets.specs.declared.footprint.Footprint.{Footprint}
use Rattle.xk_closed_sets.specs.Footprint.{Covers, has, is_apart, is_set, joined, stores_in}
use Rattle.xk_closed_sets.specs.Places.{nothing}

-- ---- one in the other

most : (x y : ℕ) → x < 2 → y < 2 → (x ≡ 1) ⊎ (y ≡ 1) → max x y ≡ 1
most x y h k (inl e) = omega arith
most x y h k (inr e) = omega arith

is_one : (n : ℕ) → n ≡ 1 → (n == 1) ≡ true
is_one n h = ap (λ k. k == 1) h

set_either : (a b s : ℕ) → (bit_at a (s % 64) ≡ 1) ⊎ (bit_at b (s % 64) ≡ 1) → is_set (bit_or a b) s ≡ true
set_either a b s h = is_one (bit_at (bit_or a b) (s % 64))
    (bit_at_or a b (s % 64) ∙ most (bit_at a (s % 64)) (bit_at b (s % 64)) (bit_at-lt a (s % 64)) (bit_at-lt b (s % 64)) h)

set_first : (a b s : ℕ) → is_set a s ≡ true → is_set (bit_or a b) s ≡ true
set_first a b s h = set_either a b s (inl (eqb-true (bit_at a (s % 64)) 1 h))

set_second : (a b s : ℕ) → is_set b s ≡ true → is_set (bit_or a b) s ≡ true
set_second a b s h = set_either a b s (inr (eqb-true (bit_at b (s % 64)) 1 h))

pub joined_first : (f g : Footprint) → Covers (joined f g) f
joined_first f g (instr.Get d s) h = set_first f.reads g.reads s h
joined_first f g (instr.Put s x) h = set_first f.puts g.puts s h
joined_first f g (instr.AddTo s x) h = set_first f.adds g.adds s h
joined_first f g (instr.Print x) h = or_left f.prints g.prints h
joined_first f g (instr.Drop k) h = or_left f.drops g.drops h
joined_first f g _ h = refl

pub joined_second : (f g : Footprint) → Covers (joined f g) g
joined_second f g (instr.Get d s) h = set_second f.reads g.reads s h
joined_second f g (instr.Put s x) h = set_second f.puts g.puts s h
joined_second f g (instr.AddTo s x) h = set_second f.adds g.adds s h
joined_second f g (instr.Print x) h = or_right f.prints g.prints h
joined_second f g (instr.Drop k) h = or_right f.drops g.drops h
joined_second f g _ h = refl

-- what is joined with another and stays as it is covers that one
pub covers_by : (f g h : Footprint) → h ≡ joined f g → h.reads ≡ f.reads → h.puts ≡ f.puts → h.adds ≡ f.adds → h.prints ≡ f.prints
    → h.drops ≡ f.drops → Covers f g
covers_by f g h e r p a q d = by
  where
    c : Covers h g
    c = subst (λ (z : Footprint). Covers z g) (sym e) (joined_second f g)

    by : Covers f g
    by (instr.Get x s) k = ap (λ w. is_set w s) (sym r) ∙ c (instr.Get x s) k
    by (instr.Put s x) k = ap (λ w. is_set w s) (sym p) ∙ c (instr.Put s x) k
    by (instr.AddTo s x) k = ap (λ w. is_set w s) (sym a) ∙ c (instr.AddTo s x) k
    by (instr.Print x) k = sym q ∙ c (instr.Print x) k
    by (instr.Drop x) k = sym d ∙ c (instr.Drop x) k
    by _ k = refl

-- no bit of 0 is set
set_none : (s : ℕ) → is_set 0 s ≡ true → ⊥
set_none s h = let e = eqb-true (bit_at 0 (s % 64)) 1 h in let z = bit_at-zero (s % 64) in omega (arith, e, z)

pub covers_nothing : (f : Footprint) → Covers f nothing
covers_nothing f (instr.Get d s) h = absurd (set_none s h)
covers_nothing f (instr.Put s x) h = absurd (set_none s h)
covers_nothing f (instr.AddTo s x) h = absurd (set_none s h)
covers_nothing f (instr.Print x) h = absurd (true≢false (sym h))
covers_nothing f (instr.Drop k) h = absurd (true≢false (sym h))
covers_nothing f _ h = refl

-- ---- nothing to do with it

not_true : (b : Bool) → not b ≡ true → b ≡ true → ⊥
not_true true h k = true≢false (sym h)
not_true false h k = true≢false (sym k)

reads_in : (f : Footprint) (j : Instr) (c : ℕ) → has f j ≡ true → reads j c ≡ true → is_set f.reads c ≡ true
reads_in f (instr.Get d s) c h k = ap (is_set f.reads) (eqb-true c s k) ∙ h
reads_in f _ c h k = absurd (true≢false (sym k))

puts_in : (f : Footprint) (j : Instr) (c : ℕ) → has f j ≡ true → puts j c ≡ true → is_set f.puts c ≡ true
puts_in f (instr.Put s x) c h k = ap (is_set f.puts) (eqb-true c s k) ∙ h
puts_in f _ c h k = absurd (true≢false (sym k))

stored_in : (f : Footprint) (j : Instr) (c : ℕ) → has f j ≡ true → stores j c ≡ true → stores_in f c ≡ true
stored_in f (instr.Put s x) c h k = or_left (is_set f.puts c) (is_set f.adds c) (ap (is_set f.puts) (eqb-true c s k) ∙ h)
stored_in f (instr.AddTo s x) c h k = or_right (is_set f.puts c) (is_set f.adds c) (ap (is_set f.adds) (eqb-true c s k) ∙ h)
stored_in f _ c h k = absurd (true≢false (sym k))

-- an instruction that has nothing to do with it
reads_apart : (f : Footprint) (i : Instr) (c : ℕ) → is_apart f i ≡ true → reads i c ≡ true → stores_in f c ≡ true → ⊥
reads_apart f (instr.Get d s) c h k p = not_true (stores_in f s) h (sym (ap (stores_in f) (eqb-true c s k)) ∙ p)
reads_apart f _ c h k p = true≢false (sym k)

stores_apart : (f : Footprint) (i : Instr) (c : ℕ) → is_apart f i ≡ true → stores i c ≡ true → is_set f.reads c ≡ true → ⊥
stores_apart f (instr.Put s x) c h k p = not_true (is_set f.reads s || stores_in f s) h
    (or_left (is_set f.reads s) (stores_in f s) (sym (ap (is_set f.reads) (eqb-true c s k)) ∙ p))
stores_apart f (instr.AddTo s x) c h k p = not_true (is_set f.reads s || is_set f.puts s) h
    (or_left (is_set f.reads s) (is_set f.puts s) (sym (ap (is_set f.reads) (eqb-true c s k)) ∙ p))
stores_apart f _ c h k p = true≢false (sym k)

puts_first : (f : Footprint) (i : Instr) (c : ℕ) → is_apart f i ≡ true → stores i c ≡ true → is_set f.puts c ≡ true → ⊥
puts_first f (instr.Put s x) c h k p = not_true (is_set f.reads s || stores_in f s) h
    (or_right (is_set f.reads s) (stores_in f s)
    (or_left (is_set f.puts s) (is_set f.adds s) (sym (ap (is_set f.puts) (eqb-true c s k)) ∙ p)))
puts_first f (instr.AddTo s x) c h k p = not_true (is_set f.reads s || is_set f.puts s) h
    (or_right (is_set f.reads s) (is_set f.puts s) (sym (ap (is_set f.puts) (eqb-true c s k)) ∙ p))
puts_first f _ c h k p = true≢false (sym k)

puts_second : (f : Footprint) (i : Instr) (c : ℕ) → is_apart f i ≡ true → puts i c ≡ true → stores_in f c ≡ true → ⊥
puts_second f (instr.Put s x) c h k p = not_true (is_set f.reads s || stores_in f s) h
    (or_right (is_set f.reads s) (stores_in f s) (sym (ap (stores_in f) (eqb-true c s k)) ∙ p))
puts_second f _ c h k p = true≢false (sym k)

prints_in : (f : Footprint) (j : Instr) → has f j ≡ true → prints j ≡ true → f.prints ≡ true
prints_in f (instr.Print x) h k = h
prints_in f _ h k = absurd (true≢false (sym k))

either_silent : (f : Footprint) (i : Instr) → is_apart f i ≡ true → (prints i ≡ false) ⊎ (f.prints ≡ false)
either_silent f (instr.Print x) h = inr (by f.prints h)
  where
    by : (b : Bool) → not b ≡ true → b ≡ false
    by true k = sym k
    by false k = refl
either_silent f _ h = inl refl

pub apart_of : (f : Footprint) (o : Option Instr) (j : Instr) → option_map_or (is_apart f) o true ≡ true → has f j ≡ true
    → AreApart (Some j) o
apart_of f None j h k = record {
  second_reads = λ c s t. true≢false (sym t);
  first_reads = λ c s t. true≢false (sym s);
  first_puts = λ c s t. true≢false (sym t);
  second_puts = λ c s t. true≢false (sym s);
}
apart_of f (Some i) j h k = record {
  second_reads = λ c s t. reads_apart f i c h t (stored_in f j c k s);
  first_reads = λ c s t. stores_apart f i c h s (reads_in f j c k t);
  first_puts = λ c s t. puts_first f i c h t (puts_in f j c k s);
  second_puts = λ c s t. puts_second f i c h s (stored_in f j c k t);
}

pub silent_of : (f : Footprint) (o : Option Instr) (j : Instr) → option_map_or (is_apart f) o true ≡ true → has f j ≡ true
    → (option_map_or prints o false ≡ false) ⊎ (prints j ≡ false)
silent_of f None j h k = inl refl
silent_of f (Some i) j h k = by (either_silent f i h) (prints j) refl
  where
    by : (prints i ≡ false) ⊎ (f.prints ≡ false) → (b : Bool) → prints j ≡ b → (prints i ≡ false) ⊎ (prints j ≡ false)
    by (inl q) b e = inl q
    by (inr q) true e = absurd (true≢false (sym (prints_in f j k e) ∙ q))
    by (inr q) false e = inr e
