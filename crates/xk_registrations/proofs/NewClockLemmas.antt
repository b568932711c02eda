-- A new clock: first one that nobody is registered on, then its maker is.
use Rattle.std.proofs.Common.{◌≡◌, ℕ, zero, suc, ◌+◌, ◌-◌, ◌<◌, ◌≤◌, ◌==◌, Bool, true, false, cond, List, [], ◌∷◌, ◌++◌, map, length, get_or, set, replicate, Some, None, refl, sym, ap, ◌∙◌, subst, arith, slice_get, slice_index_or}
use Rattle.std.specs.Option.{option_map_or}
use Rattle.std.proofs.lemmas.Bool.{eqb-true, ne_eqb}
use Rattle.std.proofs.lemmas.Bool.Decides.{nat_tests}
use Rattle.std.proofs.lemmas.Option.{none-some, same_Some}
use Rattle.std.proofs.lemmas.List.{length-append, set-get_or}
use Rattle.std.proofs.Math.Seq.{get_or-append_seam, set-append_seam}
use Rattle.xk_types.specs.declared.world.Standing.{Standing}
use Rattle.xk_types.specs.declared.world.Standing.TheVariants as standing
use Rattle.xk_types.specs.World.{Clock, standing_of}
use Rattle.xk_types.specs.Step.{is_pending, is_registered, advanced, settled_clock, moved, moved_on, new_clock}
use Rattle.xk_clocks.specs.Table.{CountValue, is_ready_count, count_settled, count_at, count_registered, new_count}
use Rattle.xk_registrations.specs.View.{Registration, standing_at, stands, row, told, told_clock, told_by, held, WillAdvance, IsFit, IsKept, AreSound, AreDistinct, reg_on, count_moved}
use Rattle.xk_registrations.specs.RegistrationChanges.{called, noted, call_register}
use Rattle.xk_clocks.specs.StandingCounts.{tally}
use Rattle.xk_registrations.proofs.StandingLemmas.{stands_reg, count_same, same_numbers}
use Rattle.xk_registrations.proofs.StepLemmas.{Works, step_told}

-- ---- a clock that nobody is registered on

abbrev no_count : CountValue
no_count = record { phase = 0; registered = 0; pending = 0 }

stands_apart : (rs : List Registration) (k p : ℕ) → reg_on rs k ≡ None → stands rs k p ≡ standing.Apart
stands_apart rs k p none = stands_reg rs k p ∙ rw none refl

row_apart : (acts : List (List Registration)) (k p : ℕ) → ((a : ℕ) → reg_on (held acts a) k ≡ None) → row acts k p ≡ replicate (length acts) standing.Apart
row_apart [] k p none = refl
row_apart (rs ∷ acts) k p none = rw (stands_apart rs k p (none 0), row_apart acts k p (λ a. none (suc a))) refl

tally_apart : (test : Standing → Bool) (n : ℕ) → test standing.Apart ≡ false → 0 ≡ tally test (replicate n standing.Apart)
tally_apart test zero e = refl
tally_apart test (suc n) e = rw e (tally_apart test n e)

fit_none : (acts : List (List Registration)) (k : ℕ) → ((a : ℕ) → reg_on (held acts a) k ≡ None) → IsFit acts k no_count
fit_none acts k none = record {
  counts = rw (row_apart acts k 0 none) (record { registered = tally_apart is_registered (length acts) refl; pending = tally_apart is_pending (length acts) refl });
  ahead = λ a q h. rw (stands_apart (held acts a) k q (none a), stands_apart (held acts a) k 0 (none a)) refl;
  kept = refl;
}

each_push : (P : ℕ → CountValue → Type 0) (cs : List CountValue) (new : CountValue) → ((k : ℕ) (c : CountValue) → slice_get cs k ≡ Some c → P k c) → P (length cs) new
    → (k : ℕ) (c : CountValue) → slice_get (cs ++ new ∷ []) k ≡ Some c → P k c
each_push P [] new all here zero c h = subst (P zero) (same_Some new c h) here
each_push P [] new all here (suc k) c h = absurd (none-some c h)
each_push P (d ∷ cs) new all here zero c h = all zero c h
each_push P (d ∷ cs) new all here (suc k) c h = each_push (λ j. P (suc j)) cs new (λ j. all (suc j)) here k c h

-- with room for one more
kept_more : (ls : List ℕ) (acts : List (List Registration)) (cs : List CountValue) → IsKept ls acts cs → IsKept (ls ++ 0 ∷ []) acts (cs ++ no_count ∷ [])
kept_more ls acts cs kept = record {
  fit = each_push (IsFit acts) cs no_count kept.fit (fit_none acts (length cs) (λ a. (kept.sound a).exist (length cs) (omega arith)));
  lasts = omega (arith, length-append ls (0 ∷ []), length-append cs (no_count ∷ []), kept.lasts);
  sound = λ a. record {
    distinct = (kept.sound a).distinct;
    exist = λ k h. (kept.sound a).exist k (omega (arith, length-append cs (no_count ∷ [])));
  };
}

told_by_push : (f : ℕ → CountValue → Clock) (cs : List CountValue) (c : CountValue) → told_by f (cs ++ c ∷ []) ≡ told_by f cs ++ f (length cs) c ∷ []
told_by_push f [] c = refl
told_by_push f (d ∷ cs) c = ap (λ (l : List Clock). f 0 d ∷ l) (told_by_push (λ k. f (suc k)) cs c)

told_by_same : (f g : ℕ → CountValue → Clock) (cs : List CountValue) → ((k : ℕ) (c : CountValue) → f k c ≡ g k c) → told_by f cs ≡ told_by g cs
told_by_same f g [] same = refl
told_by_same f g (c ∷ cs) same = rw (same 0 c, told_by_same (λ k. f (suc k)) (λ k. g (suc k)) cs (λ k. same (suc k))) refl

default_push : (ls : List ℕ) (k : ℕ) → get_or (ls ++ 0 ∷ []) k 0 ≡ get_or ls k 0
default_push [] zero = refl
default_push [] (suc k) = refl
default_push (l ∷ ls) zero = refl
default_push (l ∷ ls) (suc k) = default_push ls k

told_more : (ls : List ℕ) (acts : List (List Registration)) (cs : List CountValue) → IsKept ls acts cs
    → told (ls ++ 0 ∷ []) acts (cs ++ no_count ∷ []) ≡ told ls acts cs ++ record { phase = 0; last = 0; standings = replicate (length acts) standing.Apart } ∷ []
told_more ls acts cs kept =
    told_by_same (told_clock (λ j. slice_index_or (ls ++ 0 ∷ []) j 0) acts) (told_clock (λ j. slice_index_or ls j 0) acts) (cs ++ no_count ∷ [])
    (λ k c. rw (default_push ls k) refl)
    ∙ told_by_push (told_clock (λ j. slice_index_or ls j 0) acts) cs no_count
    ∙ rw (row_apart acts (length cs) 0 (λ a. (kept.sound a).exist (length cs) (omega arith)), past ls (length cs) (omega (arith, kept.lasts))) refl
  where
    past : (xs : List ℕ) (k : ℕ) → length xs ≤ k → get_or xs k 0 ≡ 0
    past [] k h = refl
    past (x ∷ xs) zero h = absurd (omega arith)
    past (x ∷ xs) (suc k) h = past xs k (omega arith)

-- ---- its maker's registration

-- open on the new clock, and all others as they were
abbrev made_on : ℕ → ℕ → Standing → Standing
made_on n k s = cond (n == k) standing.Open s

stands_push : (rs : List Registration) (n k p : ℕ) → reg_on rs n ≡ None → stands (rs ++ record { clock = n; resumed = None } ∷ []) k p ≡ made_on n k (stands rs k p)
stands_push [] n k p none = refl
stands_push (r ∷ rs) n k p none = go (r.clock == n) refl none (r.clock == k) refl (stands_push rs n k p)
  where
    other : r.clock ≡ k → (b : Bool) → (n == k) ≡ b → (r.clock == n) ≡ false → standing_at p r.resumed ≡ cond b standing.Open (standing_at p r.resumed)
    other same true e f = absurd (grind (arith, nat_tests, same, eqb-true n k e))
    other same false e f = refl

    go : (b : Bool) → (r.clock == n) ≡ b → cond b (Some r) (reg_on rs n) ≡ None → (d : Bool) → (r.clock == k) ≡ d
        → (reg_on rs n ≡ None → stands (rs ++ record { clock = n; resumed = None } ∷ []) k p ≡ made_on n k (stands rs k p))
        → cond d (standing_at p r.resumed) (stands (rs ++ record { clock = n; resumed = None } ∷ []) k p) ≡ made_on n k (cond d (standing_at p r.resumed) (stands rs k p))
    go true e h d is later = absurd (none-some r (sym h))
    go false e h true is later = other (eqb-true r.clock k is) (n == k) refl e
    go false e h false is later = later h

reg_push : (rs : List Registration) (r : Registration) (k : ℕ) → reg_on rs k ≡ None → (r.clock == k) ≡ false → reg_on (rs ++ r ∷ []) k ≡ None
reg_push [] r k none e = rw e refl
reg_push (s ∷ rs) r k none e = go (s.clock == k) none (λ h. reg_push rs r k h e)
  where
    go : (b : Bool) → cond b (Some s) (reg_on rs k) ≡ None → (reg_on rs k ≡ None → reg_on (rs ++ r ∷ []) k ≡ None) → cond b (Some s) (reg_on (rs ++ r ∷ []) k) ≡ None
    go true h later = absurd (none-some s (sym h))
    go false h later = later h

pub distinct_push : (rs : List Registration) (r : Registration) → AreDistinct rs → reg_on rs r.clock ≡ None → AreDistinct (rs ++ r ∷ [])
distinct_push [] r distinct none = (refl, tt)
distinct_push (s ∷ rs) r distinct none = go (s.clock == r.clock) refl none (distinct_push rs r distinct.1)
  where
    turned : (m n : ℕ) → (m == n) ≡ false → (n == m) ≡ false
    turned m n e = grind (arith, nat_tests)

    go : (b : Bool) → (s.clock == r.clock) ≡ b → cond b (Some s) (reg_on rs r.clock) ≡ None → (reg_on rs r.clock ≡ None → AreDistinct (rs ++ r ∷ [])) → AreDistinct (s ∷ (rs ++ r ∷ []))
    go true e h later = absurd (none-some s (sym h))
    go false e h later = (reg_push rs r s.clock distinct.0 (turned s.clock r.clock e), later h)

sound_push : (n : ℕ) (rs : List Registration) → AreSound n rs → AreSound (n + 1) (rs ++ record { clock = n; resumed = None } ∷ [])
sound_push n rs s = record {
  distinct = distinct_push rs (record { clock = n; resumed = None }) s.distinct (s.exist n (omega arith));
  exist = λ k h. reg_push rs (record { clock = n; resumed = None }) k (s.exist k (omega arith)) (grind (arith, nat_tests));
}

-- ---- the definitions' clock

moved_push : (a : ℕ) (h : ℕ → Standing → Standing) (xs : List Clock) (y : Clock) → ((k : ℕ) → k < length xs → (s : Standing) → h k s ≡ s)
    → moved a h (xs ++ y ∷ []) ≡ xs ++ moved_on a (h (length xs)) y ∷ []
moved_push a h [] y same = refl
moved_push a h (x ∷ xs) y same =
    rw (same 0 (omega arith) (standing_of x a), set-get_or x.standings a standing.Apart, moved_push a (λ k. h (suc k)) xs y (λ k lt. same (suc k) (omega arith))) refl

pub length-told_by : (f : ℕ → CountValue → Clock) (cs : List CountValue) → length (told_by f cs) ≡ length cs
length-told_by f [] = refl
length-told_by f (c ∷ cs) = ap suc (length-told_by (λ k. f (suc k)) cs)

moved_made : (a : ℕ) (ls : List ℕ) (acts : List (List Registration)) (cs : List CountValue) → IsKept ls acts cs
    → moved a (made_on (length cs)) (told (ls ++ 0 ∷ []) acts (cs ++ no_count ∷ [])) ≡ told ls acts cs ++ new_clock (length acts) a ∷ []
moved_made a ls acts cs kept =
    ap (moved a (made_on (length cs))) (told_more ls acts cs kept)
    ∙ moved_push a (made_on (length cs)) (told ls acts cs) (record { phase = 0; last = 0; standings = replicate (length acts) standing.Apart })
    (λ k lt s. older k (omega (arith, length-told_by (told_clock (λ j. slice_index_or ls j 0) acts) cs)) s)
    ∙ ap (λ (l : List Standing). told ls acts cs ++ record { phase = 0; last = 0; standings = l } ∷ []) here
  where
    older : (k : ℕ) → k < length cs → (s : Standing) → cond (length cs == k) standing.Open s ≡ s
    older k lt s = rw (ne_eqb (length cs) k (λ e. absurd (omega arith))) refl

    here : set (replicate (length acts) standing.Apart) a (made_on (length cs) (length (told ls acts cs)) (get_or (replicate (length acts) standing.Apart) a standing.Apart))
        ≡ set (replicate (length acts) standing.Apart) a standing.Open
    here = ap (λ (s : Standing). set (replicate (length acts) standing.Apart) a s)
        (rw (length-told_by (told_clock (λ j. slice_index_or ls j 0) acts) cs) (one (length cs) (get_or (replicate (length acts) standing.Apart) a standing.Apart)))
      where
        one : (n : ℕ) (s : Standing) → cond (n == n) standing.Open s ≡ standing.Open
        one n s = let e : (n == n) ≡ true = grind (arith, nat_tests) in rw e refl

-- ---- the step

-- A step that makes a clock: the table's `make`, and a registration more for its maker.
pub made_told : (now a : ℕ) (ls : List ℕ) (acts : List (List Registration)) (cs : List CountValue) → IsKept ls acts cs → a < length acts
    → (told (ls ++ 0 ∷ []) (set acts a (held acts a ++ record { clock = length cs; resumed = None } ∷ [])) (cs ++ new_count ∷ [])
    ≡ map (settled_clock now) (told ls acts cs ++ new_clock (length acts) a ∷ []))
    × IsKept (ls ++ 0 ∷ []) (set acts a (held acts a ++ record { clock = length cs; resumed = None } ∷ [])) (cs ++ new_count ∷ [])
made_told now a ls acts cs kept inside =
    let more = kept_more ls acts cs kept in
    let n : length (cs ++ no_count ∷ []) ≡ length cs + 1 = omega (arith, length-append cs (no_count ∷ [])) in
    let step = step_told now a (made_on (length cs)) call_register (record { clock = length cs; resumed = None } ∷ [])
    (held acts a ++ record { clock = length cs; resumed = None } ∷ []) (ls ++ 0 ∷ []) acts (cs ++ no_count ∷ []) more inside (refl, tt)
    (rw n (sound_push (length cs) (held acts a) (kept.sound a)))
    (λ k c at. works k c ((more.fit k c at).ahead a)) in
    let here : count_at (cs ++ no_count ∷ []) (length cs) ≡ no_count = get_or-append_seam cs no_count [] no_count in
    let counts : called call_register (record { clock = length cs; resumed = None } ∷ []) (cs ++ no_count ∷ []) ≡ cs ++ new_count ∷ [] =
    ap (λ (c : CountValue). set (cs ++ no_count ∷ []) (length cs) (count_settled (count_registered true c))) here ∙ set-append_seam cs no_count [] new_count in
    let lasts : noted now call_register (record { clock = length cs; resumed = None } ∷ []) (cs ++ no_count ∷ []) (ls ++ 0 ∷ []) ≡ ls ++ 0 ∷ [] =
    ap (λ (c : CountValue). cond (is_ready_count (count_registered true c)) (set (ls ++ 0 ∷ []) (length cs) now) (ls ++ 0 ∷ [])) here in (
      subst2 (λ ms ds. told ms (set acts a (held acts a ++ record { clock = length cs; resumed = None } ∷ [])) ds ≡ map (settled_clock now) (told ls acts cs ++ new_clock (length acts) a ∷ []))
          lasts counts (step.0 ∙ ap (map (settled_clock now)) (moved_made a ls acts cs kept)),
      subst2 (λ ms ds. IsKept ms (set acts a (held acts a ++ record { clock = length cs; resumed = None } ∷ [])) ds) lasts counts step.1,
    )
  where
    subst2 : (P : List ℕ → List CountValue → Type 0) {l m : List ℕ} {c d : List CountValue} → l ≡ m → c ≡ d → P l c → P m d
    subst2 P {l} {m} {c} {d} e f h = subst (λ (x : List CountValue). P m x) f (subst (λ (y : List ℕ). P y c) e h)

    works : (k : ℕ) (c : CountValue) → WillAdvance (held acts a) k c.phase
        → Works (made_on (length cs)) call_register (record { clock = length cs; resumed = None } ∷ []) (held acts a) (held acts a ++ record { clock = length cs; resumed = None } ∷ []) k c
    works k c ahead =
        let none = (kept.sound a).exist (length cs) (omega arith) in
        record {
          reads = stands_push (held acts a) (length cs) k c.phase none;
          ahead = λ q h. rw (stands_push (held acts a) (length cs) k q none, stands_push (held acts a) (length cs) k c.phase none) (later (length cs == k) q h);
          between = rw (stands_push (held acts a) (length cs) k c.phase none) (registers (length cs == k) refl);
        }
      where
        later : (b : Bool) (q : ℕ) → c.phase < q → cond b standing.Open (stands (held acts a) k q) ≡ advanced (cond b standing.Open (stands (held acts a) k c.phase))
        later true q h = refl
        later false q h = ahead q h

        registers : (b : Bool) → (length cs == k) ≡ b
            → option_map_or (λ r. call_register r c) (cond b (Some (record { clock = length cs; resumed = None })) None) c
            ≡ count_moved (stands (held acts a) k c.phase) (cond b standing.Open (stands (held acts a) k c.phase)) c
        registers true e =
            let apart : stands (held acts a) k c.phase ≡ standing.Apart = stands_apart (held acts a) k c.phase ((kept.sound a).exist k (omega (arith, eqb-true (length cs) k e))) in
            rw apart (sym (same_numbers (c.registered + 1 - 0) (c.pending + 1 - 0) c.phase (count_registered true c) (omega arith) (omega arith) refl))
        registers false e = sym (count_same (stands (held acts a) k c.phase) c)
