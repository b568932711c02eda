-- The slice has what is needed, and nothing else.
use Rattle.std.proofs.Common.{◌≡◌, ◌∙◌, ℕ, zero, suc, ◌+◌, ◌<◌, Bool, true, false, not, List, [], ◌∷◌, length, ◌⊎◌, inl, inr}
use Rattle.std.proofs.Common.{Option, Some, None, slice_get, refl, sym, ap, subst, arith, if◌then◌else◌, true≢false}
use Rattle.std.specs.List.{list_any}
use Rattle.xk_races.proofs.KnowledgeLemmas.{at_last}
use Rattle.xk_why.specs.declared.flows.Flow.{Flow}
use Rattle.xk_why.specs.declared.flows.Location.{Location}
use Rattle.xk_why.specs.Flows.{makes, overwrites}
use Rattle.xk_why.specs.Slices.{slice_from, slice_of, slice_over, wanted_before}
use Rattle.xk_why.specs.Exactness.{IsAmong, IsAt, IsMadeOf, IsNeeded, Leads, Reaches, Renews, RestsOn, SliceIsExact, Uses}
use Rattle.xk_why.proofs.MemberLemmas.{found, finds, made_there, makes_there, not_renewed, stays, wanted_still, wanted_too, was_wanted}

-- ---- one flow further on

-- what stood there before a flow that doesn't make it anew stands there behind it
reaches_on : (fs : List Flow) (n : ℕ) (l : Location) (i : ℕ) → (Renews fs n l → ⊥) → Reaches fs n l i → Reaches fs (suc n) l i
reaches_on fs n l i none r =
    let e = r.earlier in
    record { earlier = omega (arith, e); flow = r.flow; here = r.here; made = r.made; stays = stay }
  where
    stay : (k : ℕ) → i < k → k < suc n → Renews fs k l → ⊥
    stay k lo hi anew = by (at_last k n hi)
      where
        by : (k < n) ⊎ (k ≡ n) → ⊥
        by (inl lt) = r.stays k lo lt anew
        by (inr is) = none (subst (λ x. Renews fs x l) is anew)

-- and the other way round
reaches_back : (fs : List Flow) (n : ℕ) (l : Location) (i : ℕ) → i < n → Reaches fs (suc n) l i → Reaches fs n l i
reaches_back fs n l i lt r = record {
  earlier = lt;
  flow = r.flow;
  here = r.here;
  made = r.made;
  stays = λ k lo hi anew. r.stays k lo (omega (arith, hi)) anew;
}

-- ---- what the slice has is needed

abbrev Found : List Flow → ℕ → List Location → ℕ → Type 0
Found fs n wanted i = IsAmong i (slice_from fs n wanted) → IsNeeded fs n wanted i

needed_on : (fs : List Flow) (n : ℕ) (wanted : List Location) (i : ℕ) → ((l : Location) → IsAmong l wanted → Renews fs n l → ⊥)
    → IsNeeded fs n wanted i → IsNeeded fs (suc n) wanted i
needed_on fs n wanted i none r = record {
  location = r.location;
  is_wanted = r.is_wanted;
  maker = r.maker;
  reached = reaches_on fs n r.location r.maker (none r.location r.is_wanted) r.reached;
  rests = r.rests;
}

same_flow : (fs : List Flow) (n : ℕ) (f g : Flow) → IsAt fs n f → IsAt fs n g → f ≡ g
same_flow fs n f g h k = cc (h, k)

-- of a flow that makes something that is wanted
needed_by : (fs : List Flow) (n : ℕ) (f : Flow) (wanted : List Location) (i : ℕ) → IsAt fs n f → list_any (makes f) wanted ≡ true
    → (n ≡ i) ⊎ RestsOn fs n i → IsNeeded fs (suc n) wanted i
needed_by fs n f wanted i here some rests =
    let m = found (makes f) wanted some in
    record {
      location = m.0;
      is_wanted = m.1;
      maker = n;
      reached = record {
        earlier = omega arith;
        flow = f;
        here = here;
        made = made_there f m.0 m.2;
        stays = λ k lo hi anew. absurd omega (arith, lo, hi);
      };
      rests = rests;
    }

rests_more : (fs : List Flow) (n k i : ℕ) → IsMadeOf fs n k → (k ≡ i) ⊎ RestsOn fs k i → RestsOn fs n i
rests_more fs n k i made (inl is) = ([], subst (λ x. IsMadeOf fs n x) is made)
rests_more fs n k i made (inr (ks, leads)) = (k ∷ ks, (made, leads))

needed_before : (fs : List Flow) (n : ℕ) (f : Flow) (wanted : List Location) (i : ℕ) → IsAt fs n f → list_any (makes f) wanted ≡ true
    → IsNeeded fs n (wanted_before f wanted) i → IsNeeded fs (suc n) wanted i
needed_before fs n f wanted i here some r = by (was_wanted f wanted r.location r.is_wanted)
  where
    by : (IsAmong r.location wanted × (not (overwrites f r.location) ≡ true)) ⊎ Uses f r.location → IsNeeded fs (suc n) wanted i
    by (inl (in_it, left)) = record {
      location = r.location;
      is_wanted = in_it;
      maker = r.maker;
      reached = reaches_on fs n r.location r.maker
          (λ anew. not_renewed f r.location left (subst (λ (g : Flow). g.to ≡ Some r.location) (same_flow fs n anew.0 f anew.1 here) anew.2)
          (subst (λ (g : Flow). g.adds ≡ false) (same_flow fs n anew.0 f anew.1 here) anew.3)) r.reached;
      rests = r.rests;
    }
    by (inr used) = needed_by fs n f wanted i here some
        (inr (rests_more fs n r.maker i
        (record { flow = f; here = here; location = r.location; used = used; reached = r.reached }) r.rests))

found_is_needed : (fs : List Flow) (n : ℕ) (wanted : List Location) (i : ℕ) → Found fs n wanted i
found_is_needed fs zero wanted i in_it = absurd in_it
found_is_needed fs (suc n) wanted i in_it = of (slice_get fs n) refl in_it (λ w. found_is_needed fs n w i)
  where
    by : (f : Flow) → IsAt fs n f → (b : Bool) → list_any (makes f) wanted ≡ b
        → IsAmong i (if b then n ∷ slice_from fs n (wanted_before f wanted) else slice_from fs n wanted)
        → ((w : List Location) → Found fs n w i) → IsNeeded fs (suc n) wanted i
    by f here true some (inl is) rest = needed_by fs n f wanted i here some (inl is)
    by f here true some (inr more) rest = needed_before fs n f wanted i here some (rest (wanted_before f wanted) more)
    by f here false none more rest = needed_on fs n wanted i
        (λ l among anew. true≢false (sym (finds (makes f) wanted l among
        (makes_there f l (subst (λ (g : Flow). g.to ≡ Some l) (same_flow fs n anew.0 f anew.1 here) anew.2))) ∙ none))
        (rest wanted more)

    of : (o : Option Flow) → slice_get fs n ≡ o → IsAmong i (slice_over n wanted o (slice_from fs n))
        → ((w : List Location) → Found fs n w i) → IsNeeded fs (suc n) wanted i
    of None e more rest = needed_on fs n wanted i (λ l among anew. cc (e, anew.1)) (rest wanted more)
    of (Some f) e more rest = by f e (list_any (makes f) wanted) refl more rest

-- ---- what is needed is in the slice

abbrev Finds : List Flow → ℕ → List Location → ℕ → Type 0
Finds fs n wanted i = IsNeeded fs n wanted i → IsAmong i (slice_from fs n wanted)

needed_is_found : (fs : List Flow) (n : ℕ) (wanted : List Location) (i : ℕ) → Finds fs n wanted i
needed_is_found fs zero wanted i r = let e = r.reached.earlier in absurd omega (arith, e)
needed_is_found fs (suc n) wanted i r = of (λ w. needed_is_found fs n w i) (slice_get fs n) refl
  where
    earlier : r.maker < n → IsNeeded fs n wanted i
    earlier lt = record {
      location = r.location;
      is_wanted = r.is_wanted;
      maker = r.maker;
      reached = reaches_back fs n r.location r.maker lt r.reached;
      rests = r.rests;
    }

    -- flow number n uses what is needed
    used : (f : Flow) → IsAt fs n f → (k : ℕ) → IsMadeOf fs n k → (k ≡ i) ⊎ RestsOn fs k i → IsNeeded fs n (wanted_before f wanted) i
    used f here k made rests = record {
      location = made.location;
      is_wanted = wanted_too f wanted made.location
          (subst (λ (g : Flow). Uses g made.location) (same_flow fs n made.flow f made.here here) made.used);
      maker = k;
      reached = made.reached;
      rests = rests;
    }

    last_one : ((w : List Location) → Finds fs n w i) → (f : Flow) → IsAt fs n f → (n ≡ i) ⊎ RestsOn fs n i
        → IsAmong i (n ∷ slice_from fs n (wanted_before f wanted))
    last_one rest f here (inl is) = inl is
    last_one rest f here (inr ([], made)) = inr (rest (wanted_before f wanted) (used f here i made (inl refl)))
    last_one rest f here (inr (k ∷ ks, (made, leads))) = inr (rest (wanted_before f wanted) (used f here k made (inr (ks, leads))))

    still : (f : Flow) → IsAt fs n f → r.maker < n → IsNeeded fs n (wanted_before f wanted) i
    still f here lt = record {
      location = r.location;
      is_wanted = wanted_still f wanted r.location r.is_wanted
          (stays f r.location (λ made anew. r.reached.stays n lt (omega arith) (f, here, made, anew)));
      maker = r.maker;
      reached = reaches_back fs n r.location r.maker lt r.reached;
      rests = r.rests;
    }

    made_by : (f : Flow) → IsAt fs n f → r.maker ≡ n → f.to ≡ Some r.location
    made_by f here is =
        let g = r.reached.flow in
        subst (λ (x : Flow). x.to ≡ Some r.location) (same_flow fs n g f (subst (λ x. IsAt fs x g) is r.reached.here) here) r.reached.made

    by : ((w : List Location) → Finds fs n w i) → (f : Flow) → IsAt fs n f → (b : Bool) → list_any (makes f) wanted ≡ b
        → (r.maker < n) ⊎ (r.maker ≡ n)
        → IsAmong i (if b then n ∷ slice_from fs n (wanted_before f wanted) else slice_from fs n wanted)
    by rest f here true some (inl lt) = inr (rest (wanted_before f wanted) (still f here lt))
    by rest f here true some (inr is) = last_one rest f here (subst (λ x. (x ≡ i) ⊎ RestsOn fs x i) is r.rests)
    by rest f here false none (inl lt) = rest wanted (earlier lt)
    by rest f here false none (inr is) = absurd (true≢false
        (sym (finds (makes f) wanted r.location r.is_wanted (makes_there f r.location (made_by f here is))) ∙ none))

    alone : ((w : List Location) → Finds fs n w i) → slice_get fs n ≡ None → (r.maker < n) ⊎ (r.maker ≡ n)
        → IsAmong i (slice_from fs n wanted)
    alone rest e (inl lt) = rest wanted (earlier lt)
    alone rest e (inr is) = let here = subst (λ x. IsAt fs x r.reached.flow) is r.reached.here in cc (e, here)

    of : ((w : List Location) → Finds fs n w i) → (o : Option Flow) → slice_get fs n ≡ o
        → IsAmong i (slice_over n wanted o (slice_from fs n))
    of rest None e = alone rest e (at_last r.maker n r.reached.earlier)
    of rest (Some f) e = by rest f e (list_any (makes f) wanted) refl (at_last r.maker n r.reached.earlier)

pub slice_is_exact : (fs : List Flow) (wanted : List Location) → SliceIsExact fs wanted
slice_is_exact fs wanted i = (found_is_needed fs (length fs) wanted i, needed_is_found fs (length fs) wanted i)
