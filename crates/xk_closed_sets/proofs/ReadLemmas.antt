-- Which shared numbers may still be read, by bits.
use Rattle.std.proofs.Common.{ℤ, pos, take, get_or, cond, ◌++◌, ◌≤◌}
use Rattle.std.proofs.Common.{◌≡◌, ◌∙◌, ℕ, zero, suc, ◌+◌, ◌%◌, ◌<◌, Bool, true, false, true≢false, List, [], ◌∷◌, refl, sym, ap, subst, arith, eqb-true}
use Rattle.std.specs.Prelude.{max, ◌==◌, ◌||◌, ◌&&◌, ◌^◌, ◌-◌, not, length, Option}
use Rattle.std.specs.Option.{option_map_or}
use Rattle.std.proofs.lemmas.Option.{slice_get-get_or}
use Rattle.std.proofs.lemmas.List.{take_more, take_all}
use Rattle.std.proofs.lemmas.List.Folds.{list_any_more}
use Rattle.std.specs.Int.{bit_at}
use Rattle.std.specs.Int.RustNames.{bit_or}
use Rattle.std.proofs.lemmas.Nat.Bits.{bit_at_or, bit_at-lt, bit_at-zero, bit_at_ones}
use Rattle.xk_types.specs.declared.instr.Instr.TheVariants as instr
use Rattle.xk_types.specs.World.{Activity, Frame, World, is_ended}
use Rattle.xk_activity.specs.Activities.{act_at, nobody}
use Rattle.xk_activity.specs.FrameStack.{outer}
use Rattle.xk_activity.specs.Local.{FramesValue}
use Rattle.xk_closed.specs.Footprints.{Table}
use Rattle.xk_core.specs.Core.{is_living}
use Rattle.xk_ranks.specs.Reads.{TellsReads, frames_read, is_read, marked, may_read}
use Rattle.xk_ranks.proofs.ReadLaw.{marked_many}
use Rattle.xk_closed_sets.specs.Footprints.{FootprintsValue, known_or_all, rest_of}
use Rattle.xk_closed_sets.specs.Places.{reach_at, rest_in}
use Rattle.xk_closed_sets.specs.Footprint.{is_set}

-- ---- bits

either : (x y : ℕ) → x < 2 → y < 2 → (max x y == 1) ≡ ((x == 1) || (y == 1))
either zero zero h k = refl
either zero (suc zero) h k = refl
either (suc zero) zero h k = refl
either (suc zero) (suc zero) h k = refl
either (suc (suc x)) y h k = absurd (omega (arith, h))
either zero (suc (suc y)) h k = absurd (omega (arith, k))
either (suc zero) (suc (suc y)) h k = absurd (omega (arith, k))

-- a bit of both is one of either
pub set_in : (a b s : ℕ) → is_set (bit_or a b) s ≡ (is_set a s || is_set b s)
set_in a b s = ap (λ k. k == 1) (bit_at_or a b (s % 64))
    ∙ either (bit_at a (s % 64)) (bit_at b (s % 64)) (bit_at-lt a (s % 64)) (bit_at-lt b (s % 64))

pub none_set : (s : ℕ) → is_set 0 s ≡ false
none_set s = ap (λ k. k == 1) (bit_at-zero (s % 64))

all_set : (s : ℕ) → is_set (2 ^ 64 - 1) s ≡ true
all_set s = ap (λ k. k == 1) (bit_at_ones 64 (s % 64) (grind arith))

-- ---- places

pub known_reads : (f : FootprintsValue) (word u p : ℕ) → f.known ≡ true → word ≡ (reach_at f.rows u p).rest.reads
    → (d s : ℕ) → is_set word s ≡ rest_of f u p (instr.Get d s)
known_reads f word u p known is d s = ap (λ k. is_set k s) is
    ∙ ap (λ b. known_or_all b (rest_in f.rows) u p (instr.Get d s)) (sym known)

pub all_read : (f : FootprintsValue) (word u p : ℕ) → f.known ≡ false → word ≡ 2 ^ 64 - 1
    → (d s : ℕ) → is_set word s ≡ rest_of f u p (instr.Get d s)
all_read f word u p unknown is d s = ap (λ k. is_set k s) is ∙ all_set s
    ∙ ap (λ b. known_or_all b (rest_in f.rows) u p (instr.Get d s)) (sym unknown)

-- the table tells which numbers are read
pub tells : (f : FootprintsValue) → TellsReads (rest_of f)
tells f u p d s = by f.known
  where
    by : (known : Bool) → known_or_all known (rest_in f.rows) u p (instr.Get d s) ≡ known_or_all known (rest_in f.rows) u p (instr.Get 0 s)
    by true = refl
    by false = refl

-- ---- frames that wait

pub nobody_reads : (fs new : FramesValue) (rest : Table) → ◌≡◌ {A = Bool × FramesValue} (false, new) (outer fs fs.callers)
    → (s : ℕ) → is_set 0 s ≡ frames_read rest s fs.callers
nobody_reads fs new rest e s = none_set s ∙ by fs.callers e
  where
    by : (cs : List Frame) → ◌≡◌ {A = Bool × FramesValue} (false, new) (outer fs cs) → false ≡ frames_read rest s cs
    by [] h = refl
    by (g ∷ gs) h = absurd (true≢false (sym (ap (λ (p : Bool × FramesValue). p.0) h)))

pub one_reads : (fs new : FramesValue) (rest : Table) (here more : ℕ)
    → ◌≡◌ {A = Bool × FramesValue} (true, new) (outer fs fs.callers)
    → ((d s : ℕ) → is_set here s ≡ rest new.frame.unit (new.frame.place + 1) (instr.Get d s))
    → ((s : ℕ) → is_set more s ≡ frames_read rest s new.callers)
    → (s : ℕ) → is_set (bit_or here more) s ≡ frames_read rest s fs.callers
one_reads fs new rest here more e is others s = by fs.callers e
  where
    by : (cs : List Frame) → ◌≡◌ {A = Bool × FramesValue} (true, new) (outer fs cs) → is_set (bit_or here more) s ≡ frames_read rest s cs
    by [] h = absurd (true≢false (ap (λ (p : Bool × FramesValue). p.0) h))
    by (g ∷ gs) h = set_in here more s ∙ ap (λ b. b || is_set more s) (is 0 s) ∙ ap (λ b. rest new.frame.unit (new.frame.place + 1) (instr.Get 0 s) || b) (others s)
        ∙ ap (λ (z : FramesValue). rest z.frame.unit (z.frame.place + 1) (instr.Get 0 s) || frames_read rest s z.callers)
        (ap (λ (p : Bool × FramesValue). p.1) h)

-- ---- an activity

living_at : (w : World) (a : ℕ) → a < length w.activities → is_living w a ≡ not (is_ended (act_at w.activities a).status)
living_at w a inside = ap (λ (o : Option Activity). option_map_or (λ (x : Activity). not (is_ended x.status)) o false)
    (slice_get-get_or w.activities a nobody inside)

pub act_reads : (rest : Table) (w : World) (a here more : ℕ) → is_living w a ≡ true → a < length w.activities
    → ((d s : ℕ) → is_set here s ≡ rest (act_at w.activities a).frame.unit (act_at w.activities a).frame.place (instr.Get d s))
    → ((s : ℕ) → is_set more s ≡ frames_read rest s (act_at w.activities a).callers)
    → (s : ℕ) → is_set (bit_or here more) s ≡ may_read rest s (act_at w.activities a)
act_reads rest w a here more living inside is others s =
    set_in here more s ∙ ap (λ b. b || is_set more s) (is 0 s)
    ∙ ap (λ b. rest x.frame.unit x.frame.place (instr.Get 0 s) || b) (others s)
    ∙ ap (λ b. b && (rest x.frame.unit x.frame.place (instr.Get 0 s) || frames_read rest s x.callers))
    (sym living ∙ living_at w a inside)
  where
    x : Activity
    x = act_at w.activities a

pub over_reads : (rest : Table) (w : World) (a : ℕ) → is_living w a ≡ false → a < length w.activities
    → (s : ℕ) → is_set 0 s ≡ may_read rest s (act_at w.activities a)
over_reads rest w a over inside s = none_set s
    ∙ ap (λ b. b && (rest x.frame.unit x.frame.place (instr.Get 0 s) || frames_read rest s x.callers))
    (sym over ∙ living_at w a inside)
  where
    x : Activity
    x = act_at w.activities a

-- ---- loops

-- one more
pub more_read : (rest : Table) (acts : List Activity) (a before more : ℕ) → a < length acts
    → ((s : ℕ) → is_set before s ≡ is_read rest (take a acts) s)
    → ((s : ℕ) → is_set more s ≡ may_read rest s (act_at acts a))
    → (s : ℕ) → is_set (bit_or before more) s ≡ is_read rest (take (a + 1) acts) s
more_read rest acts a before more inside was is s = set_in before more s
    ∙ ap (λ b. b || is_set more s) (was s) ∙ ap (λ b. is_read rest (take a acts) s || b) (is s)
    ∙ sym (list_any_more (may_read rest s) acts a nobody inside)

marked_at : (f : ℕ → Bool) (xs : List ℤ) (s : ℕ) → get_or (marked f xs) s (pos 0) ≡ cond (f s) (get_or xs s (pos 0)) (pos 0)
marked_at f [] s = by (f s)
  where
    by : (b : Bool) → pos 0 ≡ cond b (pos 0) (pos 0)
    by true = refl
    by false = refl
marked_at f (x ∷ xs) zero = refl
marked_at f (x ∷ xs) (suc s) = marked_at (λ k. f (suc k)) xs s

pub more_marked : (f : ℕ → Bool) (xs : List ℤ) (s : ℕ) (b : Bool) (n : ℤ) → s < length xs → b ≡ f s
    → n ≡ cond b (get_or xs s (pos 0)) (pos 0)
    → take (s + 1) (marked f xs) ≡ take s (marked f xs) ++ n ∷ []
more_marked f xs s b n inside is here =
    let many = marked_many f xs in
    take_more (marked f xs) s (pos 0) (omega (arith, inside, many))
    ∙ ap (λ k. take s (marked f xs) ++ k ∷ []) (marked_at f xs s ∙ ap (λ c. cond c (get_or xs s (pos 0)) (pos 0)) (sym is) ∙ sym here)

pub all_marked : (f : ℕ → Bool) (xs : List ℤ) (s : ℕ) → length xs ≤ s → take s (marked f xs) ≡ marked f xs
all_marked f xs s over = let many = marked_many f xs in take_all s (marked f xs) (omega (arith, over, many))
