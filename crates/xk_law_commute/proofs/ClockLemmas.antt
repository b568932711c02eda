-- Clocks: changes of two activities' standings on all of them, each with the end of its step; and what a third sees of one.
use Rattle.std.proofs.Common.{◌≡◌, ℕ, suc, zero, ◌+◌, ◌==◌, Bool, true, false, true≢false, cond, ◌<◌, List, [], ◌∷◌, ◌++◌, map, length, set, get_or, Some, inl, inr, refl, sym, ap, ◌∙◌, arith}
use Rattle.std.specs.List.{list_any}
use Rattle.std.proofs.lemmas.Bool.{or_parts}
use Rattle.std.proofs.lemmas.List.{get_or-set_other, set-get_or}
use Rattle.std.proofs.Math.ListN.{get_or-map}
use Rattle.xk_types.specs.declared.world.Standing.{Standing}
use Rattle.xk_types.specs.declared.world.Standing.TheVariants as standing
use Rattle.xk_types.specs.World.{Clock, standing_of}
use Rattle.xk_types.specs.Step.{is_registered, is_signalled, is_pending, is_ready, resumed, passed, dropped, advanced, settled_clock, moved, moved_on, joined, joined_on, only}
use Rattle.xk_types.proofs.StandingLemmas.{advanced_quiet}
use Rattle.xk_law_schedules.proofs.Invariant.{Each}
use Rattle.xk_law_commute.specs.PlainWorlds.{plain_clock}
use Rattle.xk_law_commute.proofs.StepEffect.{Move, Rests, Resumes, Drops, Arrives, Passes, Ends, change_by}
use Rattle.xk_law_commute.proofs.OneClockLemmas.{settle, change_of, join_of, GoesBeside, changes, joins, settle_is, settle_twice}
use Rattle.xk_law_commute.proofs.ListLemmas.{get_or_push}
use Rattle.xk_law_commute.proofs.StepPairLemmas.{registers}

-- ---- what a move does

pub rests_beside : (s : Standing) → GoesBeside (λ z. z) s
rests_beside s h = inl (refl, refl)

pub resumed_beside : (s : Standing) → GoesBeside resumed s
resumed_beside standing.Apart h = inl (refl, refl)
resumed_beside standing.Open h = absurd (true≢false h)
resumed_beside standing.Signalled h = inl (refl, refl)
resumed_beside standing.Ahead h = absurd (true≢false h)

pub passed_beside : (s : Standing) → is_signalled s ≡ false → GoesBeside passed s
passed_beside standing.Apart g h = inl (refl, refl)
passed_beside standing.Open g h = absurd (true≢false h)
passed_beside standing.Signalled g h = absurd (true≢false g)
passed_beside standing.Ahead g h = absurd (true≢false h)

only_beside : (c : ℕ) (f : Standing → Standing) (k : ℕ) (s : Standing) → GoesBeside f s → GoesBeside (only c f k) s
only_beside c f k s h = by (k == c)
  where
    by : (b : Bool) → GoesBeside (λ z. cond b (f z) z) s
    by true = h
    by false = rests_beside s

pub move_beside : (move : Move) (k : ℕ) (s : Standing) → (move ≡ Passes → is_signalled s ≡ false) → GoesBeside (change_by move k) s
move_beside Rests k s h = rests_beside s
move_beside (Resumes c) k s h = only_beside c resumed k s (resumed_beside s)
move_beside (Drops c) k s h = only_beside c dropped k s (λ g. inr (refl, refl))
move_beside Arrives k s h = resumed_beside s
move_beside Passes k s h = passed_beside s (h refl)
move_beside Ends k s h = λ g. inr (refl, refl)

-- ---- one clock

pub settled_standings : (now : ℕ) (c : Clock) → (settled_clock now c).standings ≡ settle c.standings
settled_standings now c = by (is_ready c)
  where
    by : (b : Bool) → (cond {A = Clock} b (record { phase = c.phase + 1; last = now; standings = map advanced c.standings }) c).standings
        ≡ (cond {A = Clock} b (record { phase = 0 + 1; last = 0; standings = map advanced c.standings }) (record { phase = 0; last = 0; standings = c.standings })).standings
    by true = refl
    by false = refl

pub unready_still : (c : Clock) → is_ready c ≡ false → settle c.standings ≡ c.standings
unready_still c h = ap (λ b. (cond {A = Clock} b (record { phase = 0 + 1; last = 0; standings = map advanced c.standings }) (record { phase = 0; last = 0; standings = c.standings })).standings) h

-- two clocks with the same standings
pub plainly : (c d : Clock) → c.standings ≡ d.standings → plain_clock c ≡ plain_clock d
plainly c d h = λ i. record { phase = 0; last = 0; standings = h i }

pub moved_twice : (n o a b : ℕ) (f g : Standing → Standing) (c : Clock)
    → (settled_clock n (moved_on b g (settled_clock o (moved_on a f c)))).standings ≡ settle (change_of b g (settle (change_of a f c.standings)))
moved_twice n o a b f g c =
    settled_standings n (moved_on b g (settled_clock o (moved_on a f c))) ∙ ap (λ zs. settle (change_of b g zs)) (settled_standings o (moved_on a f c))

-- ---- all clocks

-- what is asked of each clock
pub record AreBeside (a b : ℕ) (f g : ℕ → Standing → Standing) (cs : List Clock) : Type 0 where
  pub first : Each (λ k c. GoesBeside (f k) (standing_of c a)) cs
  pub second : Each (λ k c. GoesBeside (g k) (standing_of c b)) cs
  pub still : Each (λ k (c : Clock). settle c.standings ≡ c.standings) cs

beside_more : (a b : ℕ) (f g : ℕ → Standing → Standing) (c : Clock) (cs : List Clock) → AreBeside a b f g (c ∷ cs) → AreBeside a b (λ k. f (suc k)) (λ k. g (suc k)) cs
beside_more a b f g c cs h = record {
  first = λ k x at. h.first (suc k) x at;
  second = λ k x at. h.second (suc k) x at;
  still = λ k x at. h.still (suc k) x at;
}

pub clocks_go : (n o p q a b : ℕ) (f g : ℕ → Standing → Standing) (cs : List Clock) → (b ≡ a → ⊥) → AreBeside a b f g cs
    → map plain_clock (map (settled_clock n) (moved b g (map (settled_clock o) (moved a f cs)))) ≡ map plain_clock (map (settled_clock p) (moved a f (map (settled_clock q) (moved b g cs))))
clocks_go n o p q a b f g [] differs h = refl
clocks_go n o p q a b f g (c ∷ cs) differs h =
    let one : plain_clock (settled_clock n (moved_on b (g 0) (settled_clock o (moved_on a (f 0) c)))) ≡ plain_clock (settled_clock p (moved_on a (f 0) (settled_clock q (moved_on b (g 0) c)))) =
    plainly (settled_clock n (moved_on b (g 0) (settled_clock o (moved_on a (f 0) c)))) (settled_clock p (moved_on a (f 0) (settled_clock q (moved_on b (g 0) c))))
    (moved_twice n o a b (f 0) (g 0) c ∙ changes a b (f 0) (g 0) c.standings differs (h.first 0 c refl) (h.second 0 c refl) (h.still 0 c refl)
    ∙ sym (moved_twice p q b a (g 0) (f 0) c)) in
    let rest : map plain_clock (map (settled_clock n) (moved b (λ k. g (suc k)) (map (settled_clock o) (moved a (λ k. f (suc k)) cs))))
    ≡ map plain_clock (map (settled_clock p) (moved a (λ k. f (suc k)) (map (settled_clock q) (moved b (λ k. g (suc k)) cs)))) =
    clocks_go n o p q a b (λ k. f (suc k)) (λ k. g (suc k)) cs differs (beside_more a b f g c cs h) in
    λ i. one i ∷ rest i

-- ---- what another sees

-- A standing that stays, or advances.
advanced_registered : (s : Standing) → is_registered (advanced s) ≡ is_registered s
advanced_registered standing.Apart = refl
advanced_registered standing.Open = refl
advanced_registered standing.Signalled = refl
advanced_registered standing.Ahead = refl

-- where another stands at the end of a step: where it stood, or advanced
settle_stands : (xs : List Standing) (a : ℕ) (P : Standing → Type 0) → P (get_or xs a standing.Apart) → P (advanced (get_or xs a standing.Apart)) → P (get_or (settle xs) a standing.Apart)
settle_stands xs a P stays goes = rw (settle_is xs) (by (list_any is_pending xs))
  where
    by : (b : Bool) → P (get_or (cond b xs (map advanced xs)) a standing.Apart)
    by true = stays
    by false = rw (get_or-map advanced xs a standing.Apart) goes

other_stands : (n a b : ℕ) (g : Standing → Standing) (c : Clock) → (a ≡ b → ⊥) → (P : Standing → Type 0) → P (standing_of c a) → P (advanced (standing_of c a))
    → P (standing_of (settled_clock n (moved_on b g c)) a)
other_stands n a b g c differs P stays goes =
    let same : get_or (change_of b g c.standings) a standing.Apart ≡ standing_of c a = get_or-set_other c.standings b a (g (standing_of c b)) standing.Apart differs in
    rw (settled_standings n (moved_on b g c)) (settle_stands (change_of b g c.standings) a P (rw same stays) (rw same goes))

pub moved_registers : (n a b : ℕ) (g : ℕ → Standing → Standing) (cs : List Clock) (k : ℕ) → (a ≡ b → ⊥) → registers (map (settled_clock n) (moved b g cs)) a k ≡ registers cs a k
moved_registers n a b g [] k differs = refl
moved_registers n a b g (c ∷ cs) zero differs = ap (λ p. Some p)
    (other_stands n a b (g 0) c differs (λ s. is_registered s ≡ is_registered (standing_of c a)) refl (advanced_registered (standing_of c a)))
moved_registers n a b g (c ∷ cs) (suc k) differs = moved_registers n a b (λ j. g (suc j)) cs k differs

abbrev pub signals : List Clock → ℕ → Bool
signals cs a = list_any (λ (c : Clock). is_signalled (standing_of c a)) cs

pub moved_waits : (n a b : ℕ) (g : ℕ → Standing → Standing) (cs : List Clock) → (a ≡ b → ⊥) → signals cs a ≡ false → signals (map (settled_clock n) (moved b g cs)) a ≡ false
moved_waits n a b g [] differs h = refl
moved_waits n a b g (c ∷ cs) differs h =
    let p = or_parts (is_signalled (standing_of c a)) (signals cs a) h in
    rw (other_stands n a b (g 0) c differs (λ s. is_signalled s ≡ false) p.0 (advanced_quiet (standing_of c a)))
    (moved_waits n a b (λ j. g (suc j)) cs differs p.1)

-- ---- where another makes a clock, or starts an activity

settled_stands : (n a : ℕ) (c : Clock) (P : Standing → Type 0) → P (standing_of c a) → P (advanced (standing_of c a)) → P (standing_of (settled_clock n c) a)
settled_stands n a c P stays goes = rw (settled_standings n c) (settle_stands c.standings a P stays goes)

pub pushed_registers : (n a : ℕ) (cs : List Clock) (new : Clock) (k : ℕ) → k < length cs → registers (map (settled_clock n) (cs ++ new ∷ [])) a k ≡ registers cs a k
pushed_registers n a [] new k h = absurd (omega arith)
pushed_registers n a (c ∷ cs) new zero h = ap (λ p. Some p)
    (settled_stands n a c (λ s. is_registered s ≡ is_registered (standing_of c a)) refl (advanced_registered (standing_of c a)))
pushed_registers n a (c ∷ cs) new (suc k) h = pushed_registers n a cs new k (omega arith)

pub pushed_waits : (n a : ℕ) (cs : List Clock) (new : Clock) → is_signalled (standing_of new a) ≡ false → signals cs a ≡ false
    → signals (map (settled_clock n) (cs ++ new ∷ [])) a ≡ false
pushed_waits n a [] new g h = rw (settled_stands n a new (λ s. is_signalled s ≡ false) g (advanced_quiet (standing_of new a)))
pushed_waits n a (c ∷ cs) new g h =
    let p = or_parts (is_signalled (standing_of c a)) (signals cs a) h in
    rw (settled_stands n a c (λ s. is_signalled s ≡ false) p.0 (advanced_quiet (standing_of c a))) (pushed_waits n a cs new g p.1)

-- what holds of where another stands after a join
join_stands : (n a b : ℕ) (given : Bool) (c : Clock) → a < length c.standings → (P : Standing → Type 0) → P (standing_of c a) → P (advanced (standing_of c a))
    → P (standing_of (settled_clock n (joined_on b given c)) a)
join_stands n a b given c inside P stays goes =
    let same : standing_of (joined_on b given c) a ≡ standing_of c a = get_or_push c.standings a (cond given (standing_of c b) standing.Apart) standing.Apart inside in
    settled_stands n a (joined_on b given c) P (rw same stays) (rw same goes)

pub joined_registers : (n a b : ℕ) (given : ℕ → Bool) (cs : List Clock) (k : ℕ) → Each (λ j (c : Clock). a < length c.standings) cs
    → registers (map (settled_clock n) (joined b given cs)) a k ≡ registers cs a k
joined_registers n a b given [] k h = refl
joined_registers n a b given (c ∷ cs) zero h = ap (λ p. Some p)
    (join_stands n a b (given 0) c (h 0 c refl) (λ s. is_registered s ≡ is_registered (standing_of c a)) refl (advanced_registered (standing_of c a)))
joined_registers n a b given (c ∷ cs) (suc k) h = joined_registers n a b (λ j. given (suc j)) cs k (λ j x at. h (suc j) x at)

pub joined_waits : (n a b : ℕ) (given : ℕ → Bool) (cs : List Clock) → Each (λ j (c : Clock). a < length c.standings) cs → signals cs a ≡ false
    → signals (map (settled_clock n) (joined b given cs)) a ≡ false
joined_waits n a b given [] h g = refl
joined_waits n a b given (c ∷ cs) h g =
    let p = or_parts (is_signalled (standing_of c a)) (signals cs a) g in
    rw (join_stands n a b (given 0) c (h 0 c refl) (λ s. is_signalled s ≡ false) p.0 (advanced_quiet (standing_of c a)))
    (joined_waits n a b (λ j. given (suc j)) cs (λ j x at. h (suc j) x at) p.1)

-- a clock that is made before or after
pub made_go : (n o p q a : ℕ) (f : ℕ → Standing → Standing) (cs : List Clock) (new : Clock) → ((k : ℕ) → f k standing.Apart ≡ standing.Apart)
    → Each (λ k (c : Clock). settle c.standings ≡ c.standings) cs → standing_of new a ≡ standing.Apart → settle new.standings ≡ new.standings
    → map plain_clock (map (settled_clock n) (moved a f (map (settled_clock o) (cs ++ new ∷ [])))) ≡ map plain_clock (map (settled_clock p) (map (settled_clock q) (moved a f cs) ++ new ∷ []))
made_go n o p q a f [] new apart still stands fresh =
    let one : plain_clock (settled_clock n (moved_on a (f 0) (settled_clock o new))) ≡ plain_clock (settled_clock p new) =
    plainly (settled_clock n (moved_on a (f 0) (settled_clock o new))) (settled_clock p new)
    (settled_standings n (moved_on a (f 0) (settled_clock o new)) ∙ ap (λ zs. settle (change_of a (f 0) zs)) (settled_standings o new ∙ fresh)
    ∙ ap (λ s. settle (set new.standings a s)) (ap (f 0) stands ∙ apart 0 ∙ sym stands) ∙ ap settle (set-get_or new.standings a standing.Apart)
    ∙ sym (settled_standings p new)) in
    λ i. one i ∷ []
made_go n o p q a f (c ∷ cs) new apart still stands fresh =
    let one : plain_clock (settled_clock n (moved_on a (f 0) (settled_clock o c))) ≡ plain_clock (settled_clock p (settled_clock q (moved_on a (f 0) c))) =
    plainly (settled_clock n (moved_on a (f 0) (settled_clock o c))) (settled_clock p (settled_clock q (moved_on a (f 0) c)))
    (settled_standings n (moved_on a (f 0) (settled_clock o c)) ∙ ap (λ zs. settle (change_of a (f 0) zs)) (settled_standings o c ∙ still 0 c refl)
    ∙ sym (settled_standings p (settled_clock q (moved_on a (f 0) c)) ∙ ap settle (settled_standings q (moved_on a (f 0) c)) ∙ settle_twice (change_of a (f 0) c.standings))) in
    let rest : map plain_clock (map (settled_clock n) (moved a (λ k. f (suc k)) (map (settled_clock o) (cs ++ new ∷ []))))
    ≡ map plain_clock (map (settled_clock p) (map (settled_clock q) (moved a (λ k. f (suc k)) cs) ++ new ∷ [])) =
    made_go n o p q a (λ k. f (suc k)) cs new (λ k. apart (suc k)) (λ k x at. still (suc k) x at) stands fresh in
    λ i. one i ∷ rest i

-- an activity that is started before or after
pub started_go : (n o p q a b : ℕ) (f : ℕ → Standing → Standing) (given : ℕ → Bool) (cs : List Clock) → (b ≡ a → ⊥)
    → Each (λ k (c : Clock). settle c.standings ≡ c.standings) cs → Each (λ k (c : Clock). a < length c.standings) cs
    → map plain_clock (map (settled_clock n) (moved a f (map (settled_clock o) (joined b given cs)))) ≡ map plain_clock (map (settled_clock p) (joined b given (map (settled_clock q) (moved a f cs))))
started_go n o p q a b f given [] differs still inside = refl
started_go n o p q a b f given (c ∷ cs) differs still inside =
    let one : plain_clock (settled_clock n (moved_on a (f 0) (settled_clock o (joined_on b (given 0) c)))) ≡ plain_clock (settled_clock p (joined_on b (given 0) (settled_clock q (moved_on a (f 0) c)))) =
    plainly (settled_clock n (moved_on a (f 0) (settled_clock o (joined_on b (given 0) c)))) (settled_clock p (joined_on b (given 0) (settled_clock q (moved_on a (f 0) c))))
    (settled_standings n (moved_on a (f 0) (settled_clock o (joined_on b (given 0) c))) ∙ ap (λ zs. settle (change_of a (f 0) zs)) (settled_standings o (joined_on b (given 0) c))
    ∙ sym (joins a b (f 0) (given 0) c.standings differs (inside 0 c refl) (still 0 c refl))
    ∙ sym (settled_standings p (joined_on b (given 0) (settled_clock q (moved_on a (f 0) c))) ∙ ap (λ zs. settle (join_of b (given 0) zs)) (settled_standings q (moved_on a (f 0) c)))) in
    let rest : map plain_clock (map (settled_clock n) (moved a (λ k. f (suc k)) (map (settled_clock o) (joined b (λ k. given (suc k)) cs))))
    ≡ map plain_clock (map (settled_clock p) (joined b (λ k. given (suc k)) (map (settled_clock q) (moved a (λ k. f (suc k)) cs)))) =
    started_go n o p q a b (λ k. f (suc k)) (λ k. given (suc k)) cs differs (λ k x at. still (suc k) x at) (λ k x at. inside (suc k) x at) in
    λ i. one i ∷ rest i

-- no move registers
pub move_apart : (move : Move) (k : ℕ) → change_by move k standing.Apart ≡ standing.Apart
move_apart Rests k = refl
move_apart (Resumes c) k = by (k == c)
  where
    by : (b : Bool) → cond b (resumed standing.Apart) standing.Apart ≡ standing.Apart
    by true = refl
    by false = refl
move_apart (Drops c) k = by (k == c)
  where
    by : (b : Bool) → cond b (dropped standing.Apart) standing.Apart ≡ standing.Apart
    by true = refl
    by false = refl
move_apart Arrives k = refl
move_apart Passes k = refl
move_apart Ends k = refl
