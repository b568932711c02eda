-- Those who are asked anew what holds them back.
use Rattle.std.proofs.Common.{◌≡◌, ◌∙◌, ℕ, ◌+◌, ◌<◌, ◌≤◌, ◌==◌, Bool, true, false, true≢false, if◌then◌else◌, List, [], ◌∷◌, length, filter, slice_set, ◌⊎◌, inl, inr, refl, sym, ap, subst, arith}
use Rattle.std.proofs.lemmas.Bool.{cases_eq, cases_lt, eq-eqb, ne_eqb}
use Rattle.std.proofs.lemmas.List.{get_or-set_same, get_or-set_other, length-set}
use Rattle.xk_types.specs.World.{World}
use Rattle.xk_types.specs.Step.{waits}
use Rattle.xk_collections.specs.NumberSets.{numbers_from, with_member}
use Rattle.xk_collections.proofs.RisingListLemmas.{member_changed}
use Rattle.xk_collections.specs.WaitingLists.{times, times_in_all, waiters}
use Rattle.xk_collections.proofs.OccurrenceLemmas.{first_times, other_times, set_times, list_times}
use Rattle.xk_core.specs.Core.{is_held_back_by}
use Rattle.xk_scheduler.specs.Waiters.{AreAsked}
use Rattle.xk_scheduler.proofs.BlockingClockLemmas.{waits_by}

-- ---- the set of those who can take a step

-- a test that passes a number too
abbrev with_test : ℕ → (ℕ → Bool) → ℕ → Bool
with_test a p k = if k == a then true else p k

passes_it : (a : ℕ) (p : ℕ → Bool) → with_test a p a ≡ true
passes_it a p = rw (eq-eqb a a refl) refl

as_before : (a : ℕ) (p : ℕ → Bool) (k : ℕ) → (k ≡ a → ⊥) → with_test a p k ≡ p k
as_before a p k ne = rw (ne_eqb k a ne) refl

-- who is asked and can take a step is in, and others as before
pub record IsListAsked (w : World) (acts : List ℕ) (p : ℕ → Bool) (n : ℕ) (next : List ℕ) : Type 0 where
  pub test : ℕ → Bool
  pub list_is : next ≡ filter test (numbers_from 0 n)
  pub free : (b : ℕ) → 0 < times b acts → waits w b ≡ false → test b ≡ true
  pub held : (b : ℕ) → waits w b ≡ true → test b ≡ p b
  pub others : (b : ℕ) → times b acts ≡ 0 → test b ≡ p b

later_some : (b a : ℕ) (acts : List ℕ) → 0 < times b acts → 0 < times b (a ∷ acts)
later_some b a acts some = omega (arith, some)

first_differs : (b a : ℕ) (acts : List ℕ) → times b (a ∷ acts) ≡ 0 → b ≡ a → ⊥
first_differs b a acts none e = omega (arith, none, ap (λ x. times x (a ∷ acts)) e, first_times a acts)

-- the first of those who are asked is held back
held_more : (w : World) (a : ℕ) (acts : List ℕ) (p : ℕ → Bool) (n : ℕ) (next : List ℕ) → waits w a ≡ true → IsListAsked w acts p n next → IsListAsked w (a ∷ acts) p n next
held_more w a acts p n next on h = record {
  test = h.test;
  list_is = h.list_is;
  free = λ b some off. elim (cases_eq a b) [
    | inl e ↦ absurd (true≢false (sym on ∙ ap (waits w) e ∙ off))
    | inr ne ↦ h.free b (omega (arith, some, other_times b a acts ne)) off
  ];
  held = h.held;
  others = λ b none. h.others b (omega (arith, none));
}

-- it can take a step
free_more : (w : World) (a : ℕ) (acts : List ℕ) (p : ℕ → Bool) (n : ℕ) (next : List ℕ) → waits w a ≡ false → IsListAsked w acts (with_test a p) n next
    → IsListAsked w (a ∷ acts) p n next
free_more w a acts p n next off h = record {
  test = h.test;
  list_is = h.list_is;
  free = λ b some idle. elim (cases_eq b a) [
    | inl e ↦
        elim (cases_lt 0 (times b acts)) [
          | inl more ↦ h.free b more idle
          | inr none ↦ h.others b (omega (arith, none)) ∙ ap (with_test a p) e ∙ passes_it a p
        ]
    | inr ne ↦ h.free b (omega (arith, some, other_times b a acts (λ e. ne (sym e)))) idle
  ];
  held = λ b on. h.held b on ∙ as_before a p b (λ e. true≢false (sym on ∙ ap (waits w) e ∙ off));
  others = λ b none. h.others b (omega (arith, none)) ∙ as_before a p b (first_differs b a acts none);
}

pub list_asked : (w : World) (acts : List ℕ) (p : ℕ → Bool) (n : ℕ) (list : List ℕ) (lists : List (List ℕ)) (next : List ℕ) (later : List (List ℕ))
    → ((b : ℕ) → 0 < times b acts → b < n) → list ≡ filter p (numbers_from 0 n) → AreAsked w acts list lists next later → IsListAsked w acts p n next
list_asked w [] p n list lists next later within is asked = record {
  test = p;
  list_is = asked.0 ∙ is;
  free = λ b some off. absurd (omega arith);
  held = λ b on. refl;
  others = λ b none. refl;
}
list_asked w (a ∷ acts) p n list lists next later within is asked =
    let inside : a < n = within a (omega (arith, first_times a acts)) in
    let rest : (b : ℕ) → 0 < times b acts → b < n = λ b some. within b (later_some b a acts some) in
    elim asked.2 [
      | inl h ↦ held_more w a acts p n next (waits_by w a h.0 h.1) (list_asked w acts p n asked.0 asked.1 next later rest (h.2 ∙ is) asked.3)
      | inr h ↦
          free_more w a acts p n next h.0
          (list_asked w acts (with_test a p) n asked.0 asked.1 next later rest
          (h.1 ∙ ap (with_member a true) is ∙ ap (λ s. with_member a s (filter p (numbers_from 0 n))) (sym (passes_it a p))
          ∙ sym (member_changed p (with_test a p) n a inside (λ k lt ne. as_before a p k ne))) asked.3)
    ]

-- ---- the lists

-- who is asked and held back stands in the list of a clock that holds it back, and others as before
pub record AreListsAsked (w : World) (acts : List ℕ) (lists later : List (List ℕ)) : Type 0 where
  pub stands : (c b : ℕ) → 0 < times b (waiters later c) → (0 < times b (waiters lists c)) ⊎ ((0 < times b acts) × (is_held_back_by w b c ≡ true))
  pub kept : (b : ℕ) → times_in_all b lists ≤ times_in_all b later
  pub put : (b : ℕ) → 0 < times b acts → waits w b ≡ true → 0 < times_in_all b later
  pub few : (b : ℕ) → times_in_all b later ≤ times b acts + times_in_all b lists
  pub same : length later ≡ length lists

-- one is put before a list
put_more : (w : World) (a c : ℕ) (acts : List ℕ) (lists later : List (List ℕ)) → is_held_back_by w a c ≡ true → c < length lists
    → AreListsAsked w acts (slice_set lists c (a ∷ waiters lists c)) later → AreListsAsked w (a ∷ acts) lists later
put_more w a c acts lists later held there h = record {
  stands = λ d b some. elim (h.stands d b some) [
    | inl old ↦ first d b old (cases_eq d c) (cases_eq a b)
    | inr new ↦ inr (later_some b a acts new.0, new.1)
  ];
  kept = λ b. omega (arith, h.kept b, set_times b c lists (a ∷ waiters lists c) there);
  put = λ b some on. elim (cases_eq a b) [
    | inl e ↦
        (let mine : 0 < times b (a ∷ waiters lists c) = subst (λ k. 0 < times k (a ∷ waiters lists c)) e (omega (arith, first_times a (waiters lists c))) in
        omega (
          arith,
          mine,
          h.kept b,
          set_times b c lists (a ∷ waiters lists c) there,
          list_times b c (slice_set lists c (a ∷ waiters lists c)),
          ap (times b) (get_or-set_same lists c (a ∷ waiters lists c) [] there),
        ))
    | inr ne ↦ h.put b (omega (arith, some, other_times b a acts ne)) on
  ];
  few = λ b. omega (arith, h.few b, set_times b c lists (a ∷ waiters lists c) there);
  same = h.same ∙ length-set lists c (a ∷ waiters lists c);
}
  where
    first : (d b : ℕ) → 0 < times b (waiters (slice_set lists c (a ∷ waiters lists c)) d) → (d ≡ c) ⊎ (d ≡ c → ⊥) → (a ≡ b) ⊎ (a ≡ b → ⊥)
        → (0 < times b (waiters lists d)) ⊎ ((0 < times b (a ∷ acts)) × (is_held_back_by w b d ≡ true))
    first d b old (inl e) (inl f) = inr (
      subst (λ k. 0 < times k (a ∷ acts)) f (omega (arith, first_times a acts)),
      subst (λ k. is_held_back_by w k d ≡ true) f (ap (is_held_back_by w a) e ∙ held),
    )
    first d b old (inl e) (inr ne) = inl
        (let was : times b (waiters (slice_set lists c (a ∷ waiters lists c)) d) ≡ times b (a ∷ waiters lists c) =
        ap (λ k. times b (waiters (slice_set lists c (a ∷ waiters lists c)) k)) e ∙ ap (times b) (get_or-set_same lists c (a ∷ waiters lists c) [] there) in
        let now : times b (waiters lists d) ≡ times b (waiters lists c) = ap (λ k. times b (waiters lists k)) e in
        omega (arith, old, was, now, other_times b a (waiters lists c) ne))
    first d b old (inr off) which =
        inl (subst (λ (l : List ℕ). 0 < times b l) (get_or-set_other lists c d (a ∷ waiters lists c) [] off) old)

-- or it isn't
skip_more : (w : World) (a : ℕ) (acts : List ℕ) (lists later : List (List ℕ)) → waits w a ≡ false → AreListsAsked w acts lists later → AreListsAsked w (a ∷ acts) lists later
skip_more w a acts lists later off h = record {
  stands = λ d b some. elim (h.stands d b some) [ inl old ↦ inl old | inr new ↦ inr (later_some b a acts new.0, new.1) ];
  kept = h.kept;
  put = λ b some on. elim (cases_eq a b) [
    | inl e ↦ absurd (true≢false (sym on ∙ ap (waits w) (sym e) ∙ off))
    | inr ne ↦ h.put b (omega (arith, some, other_times b a acts ne)) on
  ];
  few = λ b. omega (arith, h.few b);
  same = h.same;
}

pub lists_asked : (w : World) (acts : List ℕ) (list : List ℕ) (lists : List (List ℕ)) (next : List ℕ) (later : List (List ℕ))
    → ((c b : ℕ) → is_held_back_by w b c ≡ true → c < length lists) → AreAsked w acts list lists next later → AreListsAsked w acts lists later
lists_asked w [] list lists next later wide asked = rw asked.1 (record {
  stands = λ c b some. inl some;
  kept = λ b. omega arith;
  put = λ b some on. absurd (omega arith);
  few = λ b. omega arith;
  same = refl;
})
lists_asked w (a ∷ acts) list lists next later wide asked = elim asked.2 [
  | inl h ↦
      put_more w a h.0 acts lists later h.1 (wide h.0 a h.1)
      (subst (λ (ls : List (List ℕ)). AreListsAsked w acts ls later) h.3
      (lists_asked w acts asked.0 asked.1 next later (λ c b held. omega (arith, wide c b held, ap length h.3, length-set lists h.0 (a ∷ waiters lists h.0))) asked.3))
  | inr h ↦
      skip_more w a acts lists later h.0
      (subst (λ (ls : List (List ℕ)). AreListsAsked w acts ls later) h.2
      (lists_asked w acts asked.0 asked.1 next later (λ c b held. omega (arith, wide c b held, ap length h.2)) asked.3))
]
