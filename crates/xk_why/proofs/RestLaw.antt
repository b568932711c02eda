-- The steps that are told are those behind a step, and no others.
use Rattle.std.proofs.Common.{◌≡◌, ◌∙◌, ℕ, zero, suc, ◌-◌, Bool, true, false, not, ◌&&◌, nat_eq, List, [], ◌∷◌, ◌++◌, length}
use Rattle.std.proofs.Common.{◌⊎◌, ◌↔◌, inl, inr}
use Rattle.std.proofs.Common.{Option, Some, None, slice_get, refl, sym, ap, subst, arith, if◌then◌else◌, eq-eqb, true≢false}
use Rattle.std.specs.Option.{option_map_or}
use Rattle.xk_types.specs.Schedule.{is_local}
use Rattle.xk_why.specs.declared.flows.Flow.{Flow}
use Rattle.xk_why.specs.declared.flows.Location.{Location}
use Rattle.xk_why.specs.Slices.{slice_of, with_any}
use Rattle.xk_why.specs.Rest.{earlier, is_last, rest_of, steps_from, wanted_by, wanted_from, wanted_with}
use Rattle.xk_why.specs.Rest.{with_step, with_step_if, with_step_of}
use Rattle.xk_why.specs.Exactness.{IsAmong, IsAt, IsBehind, IsUsedBy, RestIsExact, Uses}
use Rattle.xk_why.proofs.MemberLemmas.{either, front, last, same_numbers, with_either, with_new, with_old}
use Rattle.xk_why.proofs.SliceLaw.{slice_is_exact}

-- ---- what a step uses

-- of one flow
with_used : (n : ℕ) (f : Flow) (wanted : List Location) (l : Location) → IsAmong l (wanted_with n f wanted)
    → IsAmong l wanted ⊎ ((f.step.number ≡ n) × Uses f l)
with_used n f wanted l in_it = of (nat_eq f.step.number n) refl in_it
  where
    second : f.step.number ≡ n → IsAmong l (with_any wanted f.first) ⊎ (f.second ≡ Some l) → IsAmong l wanted ⊎ (f.first ≡ Some l)
        → IsAmong l wanted ⊎ ((f.step.number ≡ n) × Uses f l)
    second is (inl old) (inl older) = inl older
    second is (inl old) (inr first) = inr (is, inl first)
    second is (inr used) more = inr (is, inr used)

    first : f.step.number ≡ n → IsAmong l (with_any wanted f.first) ⊎ (f.second ≡ Some l)
        → IsAmong l wanted ⊎ ((f.step.number ≡ n) × Uses f l)
    first is (inl old) = second is (inl old) (with_either wanted f.first l old)
    first is (inr used) = inr (is, inr used)

    of : (b : Bool) → nat_eq f.step.number n ≡ b → IsAmong l (if b then with_any (with_any wanted f.first) f.second else wanted)
        → IsAmong l wanted ⊎ ((f.step.number ≡ n) × Uses f l)
    of true e more = first (same_numbers f.step.number n e) (with_either (with_any wanted f.first) f.second l more)
    of false e old = inl old

still_used : (n : ℕ) (f : Flow) (wanted : List Location) (l : Location) → IsAmong l wanted → IsAmong l (wanted_with n f wanted)
still_used n f wanted l in_it = of (nat_eq f.step.number n)
  where
    of : (b : Bool) → IsAmong l (if b then with_any (with_any wanted f.first) f.second else wanted)
    of true = with_old (with_any wanted f.first) f.second l (with_old wanted f.first l in_it)
    of false = in_it

too_used : (n : ℕ) (f : Flow) (wanted : List Location) (l : Location) → f.step.number ≡ n → Uses f l → IsAmong l (wanted_with n f wanted)
too_used n f wanted l is used =
    subst (λ b. IsAmong l (if b then with_any (with_any wanted f.first) f.second else wanted))
    (sym (ap (λ k. nat_eq k n) is ∙ eq-eqb n n refl)) (of used)
  where
    of : Uses f l → IsAmong l (with_any (with_any wanted f.first) f.second)
    of (inl first) = with_old (with_any wanted f.first) f.second l (with_new wanted f.first l first)
    of (inr second) = with_new (with_any wanted f.first) f.second l second

-- of them all
used_from : (n : ℕ) (wanted : List Location) (fs : List Flow) (l : Location) → IsAmong l (wanted_from n wanted fs)
    → IsAmong l wanted ⊎ IsUsedBy n fs l
used_from n wanted [] l in_it = inl in_it
used_from n wanted (f ∷ fs) l in_it = of (used_from n (wanted_with n f wanted) fs l in_it)
  where
    here : IsAmong l wanted ⊎ ((f.step.number ≡ n) × Uses f l) → IsAmong l wanted ⊎ IsUsedBy n (f ∷ fs) l
    here (inl old) = inl old
    here (inr (is, used)) = inr (f, inl refl, is, used)

    of : IsAmong l (wanted_with n f wanted) ⊎ IsUsedBy n fs l → IsAmong l wanted ⊎ IsUsedBy n (f ∷ fs) l
    of (inl more) = here (with_used n f wanted l more)
    of (inr (g, in_rest, is, used)) = inr (g, inr in_rest, is, used)

old_from : (n : ℕ) (wanted : List Location) (fs : List Flow) (l : Location) → IsAmong l wanted → IsAmong l (wanted_from n wanted fs)
old_from n wanted [] l in_it = in_it
old_from n wanted (f ∷ fs) l in_it = old_from n (wanted_with n f wanted) fs l (still_used n f wanted l in_it)

new_from : (n : ℕ) (wanted : List Location) (fs : List Flow) (l : Location) → IsUsedBy n fs l → IsAmong l (wanted_from n wanted fs)
new_from n wanted [] l (g, in_it, is, used) = absurd in_it
new_from n wanted (f ∷ fs) l (g, inl same, is, used) =
    old_from n (wanted_with n f wanted) fs l
    (too_used n f wanted l (subst (λ (x : Flow). x.step.number ≡ n) (sym same) is) (subst (λ (x : Flow). Uses x l) (sym same) used))
new_from n wanted (f ∷ fs) l (g, inr in_it, is, used) = new_from n (wanted_with n f wanted) fs l (g, in_it, is, used)

none_before : (n : ℕ) (fs : List Flow) (l : Location) → IsAmong l (wanted_by n fs) → IsUsedBy n fs l
none_before n fs l in_it = of (used_from n [] fs l in_it)
  where
    of : IsAmong l [] ⊎ IsUsedBy n fs l → IsUsedBy n fs l
    of (inl none) = absurd none
    of (inr used) = used

-- ---- the numbers of steps

-- flow f's step is number k, and others can see it
abbrev IsSeenAs : Flow → ℕ → Type 0
IsSeenAs f k = (f.step.number ≡ k) × (is_local f.step.event ≡ false)

there : (list : List ℕ) (i k : ℕ) → option_map_or (λ x. nat_eq x k) (slice_get list i) false ≡ true → IsAmong k list
there [] i k h = cc
there (x ∷ list) zero k h = inl (same_numbers x k h)
there (x ∷ list) (suc i) k h = inr (there list i k h)

-- with one flow's step
with_told : (f : Flow) (list : List ℕ) (k : ℕ) → IsAmong k (with_step f list) → IsAmong k list ⊎ IsSeenAs f k
with_told f list k in_it = of (is_local f.step.event) (is_last list f.step.number) refl in_it
  where
    last_one : is_local f.step.event ≡ false → IsAmong k list ⊎ (f.step.number ≡ k) → IsAmong k list ⊎ IsSeenAs f k
    last_one e (inl old) = inl old
    last_one e (inr is) = inr (is, e)

    of : (b c : Bool) → is_local f.step.event ≡ b → IsAmong k (if not b && not c then list ++ f.step.number ∷ [] else list)
        → IsAmong k list ⊎ IsSeenAs f k
    of true c e old = inl old
    of false true e old = inl old
    of false false e more = last_one e (either list f.step.number k more)

old_told : (f : Flow) (list : List ℕ) (k : ℕ) → IsAmong k list → IsAmong k (with_step f list)
old_told f list k in_it = of (not (is_local f.step.event) && not (is_last list f.step.number))
  where
    of : (b : Bool) → IsAmong k (if b then list ++ f.step.number ∷ [] else list)
    of true = front list (f.step.number ∷ []) k in_it
    of false = in_it

new_told : (f : Flow) (list : List ℕ) (k : ℕ) → IsSeenAs f k → IsAmong k (with_step f list)
new_told f list k (is, seen) =
    subst (λ j. IsAmong j (with_step f list)) is
    (subst (λ b. IsAmong f.step.number (if not b && not (is_last list f.step.number) then list ++ f.step.number ∷ [] else list)) (sym seen)
    (of (is_last list f.step.number) refl))
  where
    of : (c : Bool) → is_last list f.step.number ≡ c → IsAmong f.step.number (if not c then list ++ f.step.number ∷ [] else list)
    of true e = there list (length list - 1) f.step.number e
    of false e = last list f.step.number

-- one of these flows' steps
abbrev IsOneOf : List Flow → List ℕ → ℕ → Type 0
IsOneOf fs is k = (i : ℕ) × IsAmong i is × (f : Flow) × IsAt fs i f × IsSeenAs f k

told_from : (fs : List Flow) (list is : List ℕ) (k : ℕ) → IsAmong k (steps_from fs list is) → IsAmong k list ⊎ IsOneOf fs is k
told_from fs list [] k in_it = inl in_it
told_from fs list (i ∷ is) k in_it = of (told_from fs (with_step_of fs i list) is k in_it)
  where
    by : (f : Flow) → IsAt fs i f → IsAmong k list ⊎ IsSeenAs f k → IsAmong k list ⊎ IsOneOf fs (i ∷ is) k
    by f e (inl old) = inl old
    by f e (inr seen) = inr (i, inl refl, f, e, seen)

    one : (o : Option Flow) → slice_get fs i ≡ o → IsAmong k (with_step_if o list) → IsAmong k list ⊎ IsOneOf fs (i ∷ is) k
    one None e old = inl old
    one (Some f) e more = by f e (with_told f list k more)

    of : IsAmong k (with_step_of fs i list) ⊎ IsOneOf fs is k → IsAmong k list ⊎ IsOneOf fs (i ∷ is) k
    of (inl more) = one (slice_get fs i) refl more
    of (inr (j, in_rest, f, here, seen)) = inr (j, inr in_rest, f, here, seen)

still_from : (fs : List Flow) (list is : List ℕ) (k : ℕ) → IsAmong k list → IsAmong k (steps_from fs list is)
still_from fs list [] k in_it = in_it
still_from fs list (i ∷ is) k in_it = still_from fs (with_step_of fs i list) is k (one (slice_get fs i))
  where
    one : (o : Option Flow) → IsAmong k (with_step_if o list)
    one None = in_it
    one (Some f) = old_told f list k in_it

seen_from : (fs : List Flow) (list is : List ℕ) (k : ℕ) → IsOneOf fs is k → IsAmong k (steps_from fs list is)
seen_from fs list [] k (j, in_it, f, here, seen) = absurd in_it
seen_from fs list (i ∷ is) k (j, inl same, f, here, seen) =
    still_from fs (with_step_of fs i list) is k
    (subst (λ o. IsAmong k (with_step_if o list)) (sym (subst (λ x. IsAt fs x f) (sym same) here)) (new_told f list k seen))
seen_from fs list (i ∷ is) k (j, inr in_it, f, here, seen) = seen_from fs (with_step_of fs i list) is k (j, in_it, f, here, seen)

-- ---- both

behind : (n : ℕ) (fs : List Flow) (k : ℕ) → IsAmong k (rest_of n fs) → IsBehind n fs k
behind n fs k in_it = of (told_from (earlier n fs) [] (slice_of (earlier n fs) (wanted_by n fs)) k in_it)
  where
    of : IsAmong k [] ⊎ IsOneOf (earlier n fs) (slice_of (earlier n fs) (wanted_by n fs)) k → IsBehind n fs k
    of (inl none) = absurd none
    of (inr (i, in_slice, f, here, (is, seen))) = record {
      place = i;
      flow = f;
      here = here;
      needed = (slice_is_exact (earlier n fs) (wanted_by n fs) i).0 in_slice;
      step = is;
      seen = seen;
    }

is_told : (n : ℕ) (fs : List Flow) (k : ℕ) → IsBehind n fs k → IsAmong k (rest_of n fs)
is_told n fs k b =
    seen_from (earlier n fs) [] (slice_of (earlier n fs) (wanted_by n fs)) k
    (b.place, (slice_is_exact (earlier n fs) (wanted_by n fs) b.place).1 b.needed, b.flow, b.here, (b.step, b.seen))

pub rest_is_exact : (n : ℕ) (fs : List Flow) → RestIsExact n fs
rest_is_exact n fs = record {
  used = λ l. (none_before n fs l, new_from n [] fs l);
  steps = λ k. (behind n fs k, is_told n fs k);
}
