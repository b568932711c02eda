-- How often each instruction of a frame is still to be carried out, by the loops round it: each step takes one off.
use Rattle.std.proofs.Common.{◌≡◌, ℕ, zero, suc, ◌+◌, ◌*◌, ◌<◌, ◌≤◌, ◌==◌, ℤ, pos, ◌+ℤ◌, ◌-ℤ◌, nat_abs, int_lt, int_le, Bool, true, false, cond, ◌⊎◌, List, [], ◌∷◌, length, Option, Some, None, inl, inr, refl, sym, ap, ◌∙◌, subst, arith, ltb-true, true≢false}
use Rattle.std.specs.Prelude.{slice_get, slice_set, nat_lt, nat_le, filter, if◌then◌else◌}
use Rattle.std.proofs.lemmas.Bool.{and_parts, and_from, cases_lt, lt-ltb, le-leb, leb-true, eqb-true, eq-eqb, ne_eqb, false_from_ne_true}
use Rattle.std.proofs.lemmas.Bool.Decides.{nat_tests}
use Rattle.std.proofs.lemmas.Int.{ints}
use Rattle.std.proofs.lemmas.Option.{none-some, same_Some}
use Rattle.xk_types.proofs.ListLemmas.{fun_ext, get_inside, get_once, get-set_same, get-set_other}
use Rattle.xk_types.proofs.ShapeLemmas.SpanStartLemmas.{Rising}
use Rattle.xk_types.proofs.ShapeLemmas.LoopLemmas.{IsLoop, head_first, head_writes}
use Rattle.xk_law_schedules.proofs.ShapeLemmas.LoopLemmas.{AreLoops}
use Rattle.xk_types.specs.declared.instr.Instr.{Instr}
use Rattle.xk_types.specs.declared.instr.Instr.TheVariants as instr
use Rattle.xk_types.specs.declared.world.Value.{Value}
use Rattle.xk_types.specs.declared.world.Value.TheVariants as value
use Rattle.xk_types.specs.Bound.{product, visits, sum_from}
use Rattle.xk_types.specs.Code.{UnitValue, Loop, loop_head, loops, is_round, is_within, turns}
use Rattle.xk_types.specs.Order.{Has}
use Rattle.xk_types.specs.Shape.{slot_written, target, span_of, overlaps}
use Rattle.xk_types.proofs.MembershipLemmas.{same_test}

-- ---- what is left

-- how many turns are left after this one, by what the loop's slot holds
abbrev pub turns_to : ℤ → Option Value → ℕ
turns_to hi None = 0
turns_to hi (Some value.Unset) = 0
turns_to hi (Some (value.Number n)) = if int_lt n hi then nat_abs (hi -ℤ n) else 0
turns_to hi (Some (value.Clock c)) = 0

abbrev pub turns_left : List Value → Loop → ℕ
turns_left slots l = turns_to l.hi (slice_get slots l.slot)

-- How often an instruction at place `at` is still to be carried out by a frame at place p with these slots, where these loops
-- lie round it, the outermost first. A loop that the frame is in has the turns that are left, and this one; a loop that lies
-- ahead has all its turns.
abbrev pub left : List Value → ℕ → ℕ → List Loop → ℕ
left slots p at [] = if nat_le p at then 1 else 0
left slots p at (l ∷ ls) =
    if is_round p l then turns_left slots l * product ls + left slots p at ls else (if nat_le p at then turns l * product ls else 0)

abbrev pub visits_left : UnitValue → ℕ → List Value → ℕ → ℕ
visits_left u p slots at = left slots p at (filter (is_round at) (loops u))

-- the sum of a weight over a unit's instructions, each as often as it is still to be carried out
abbrev pub due : (Instr → ℕ) → UnitValue → ℕ → List Value → ℕ
due weight u p slots = sum_from (λ at i. visits_left u p slots at * weight i) 0 u.code

-- ---- what a step does

-- What a `next` at place p does that names place b: the next turn of the loop, which then hasn't come to its end, or on behind it.
pub record IsTurn (u : UnitValue) (b p : ℕ) (slots : List Value) (q : ℕ) (new : List Value) : Type 0 where
  pub l : Loop
  pub head : Instr
  pub here : slice_get u.code b ≡ Some head
  pub is : loop_head b head ≡ Some l
  pub n : ℤ
  pub number : slice_get slots l.slot ≡ Some (value.Number n)
  pub goes : (int_lt n l.hi ≡ true) × (q ≡ b + 1) × (new ≡ slice_set slots l.slot (value.Number (n +ℤ pos 1))) ⊎ (q ≡ p + 1) × (new ≡ slots)

-- what a step of a running frame at place p, with these slots, makes of its place and its slots, by its instruction
abbrev pub Goes : UnitValue → Instr → ℕ → List Value → ℕ → List Value → Type 0
Goes u (instr.For k lo hi e) p slots q new = (q ≡ p + 1) × (k < length slots) × (new ≡ slice_set slots k (value.Number lo))
Goes u (instr.ForTo k lo x hi e) p slots q new = (q ≡ p + 1) × (k < length slots) × (new ≡ slice_set slots k (value.Number lo)) ⊎ (q ≡ e + 1) × (new ≡ slots)
Goes u (instr.Next b) p slots q new = IsTurn u b p slots q new
Goes u (instr.Unless op x y t) p slots q new = ((q ≡ p + 1) ⊎ (q ≡ t)) × (new ≡ slots)
Goes u (instr.Jump t) p slots q new = (q ≡ t) × (new ≡ slots)
Goes u instr.Ret p slots q new = ⊥
Goes u i p slots q new = (q ≡ p + 1) × ((s : ℕ) → (slot_written i ≡ Some s → ⊥) → slice_get new s ≡ slice_get slots s)

-- one for the instruction at place p
abbrev here : ℕ → ℕ → ℕ
here p at = if at == p then 1 else 0

-- ---- numbers

-- a loop that begins has all its turns but this one left
turns_first : (lo hi : ℤ) → int_le lo hi ≡ true → turns_to hi (Some (value.Number lo)) + 1 ≡ (if int_le lo hi then nat_abs (hi -ℤ lo) + 1 else 0)
turns_first lo hi h = grind (arith, ints)

-- one less after each
turns_next : (n hi : ℤ) → int_lt n hi ≡ true → turns_to hi (Some (value.Number (n +ℤ pos 1))) + 1 ≡ turns_to hi (Some (value.Number n))
turns_next n hi h = grind (arith, ints)

-- one more of the same
one_more : (a b c : ℕ) → a + 1 ≡ b → a * c + c ≡ b * c
one_more a b c h = rw (← h) (omega arith)

times_more : (a b c : ℕ) → a + 1 ≤ b → a * c + c ≤ b * c
times_more a b c h = grind arith

times_le : (a b c : ℕ) → a ≤ b → a * c ≤ b * c
times_le a b c h = grind arith

-- ---- places and one loop

round_parts : (at : ℕ) (l : Loop) → is_round at l ≡ true → (l.first < at) × (at ≤ l.last)
round_parts at l h = let p = and_parts (nat_lt l.first at) (nat_le at l.last) h in (ltb-true l.first at p.0, leb-true at l.last p.1)

round_from : (at : ℕ) (l : Loop) → l.first < at → at ≤ l.last → is_round at l ≡ true
round_from at l h g = and_from (nat_lt l.first at) (nat_le at l.last) (lt-ltb l.first at h) (le-leb at l.last g)

round_not : (at : ℕ) (l : Loop) → (l.first < at → at ≤ l.last → ⊥) → is_round at l ≡ false
round_not at l h = false_from_ne_true (is_round at l) (λ e. (let p = round_parts at l e in h p.0 p.1))

within_from : (at : ℕ) (l : Loop) → l.first < at → at < l.last → is_within at l ≡ true
within_from at l h g = and_from (nat_lt l.first at) (nat_lt at l.last) (lt-ltb l.first at h) (lt-ltb at l.last g)

-- but at its `next` strictly within is round
within_same : (p : ℕ) (l : Loop) → (p ≡ l.last → ⊥) → is_within p l ≡ is_round p l
within_same p l h = grind (arith, nat_tests)

-- the next place lies in the loop too, but for its `for` and its `next`
round_next : (p : ℕ) (l : Loop) → (p ≡ l.first → ⊥) → (p ≡ l.last → ⊥) → is_round p l ≡ is_round (p + 1) l
round_next p l h g = grind (arith, nat_tests)

-- ---- `left` over a list

-- every loop of the list lies round the place
abbrev AllRound : ℕ → List Loop → Type 0
AllRound at ls = (l : Loop) → Has ls l → is_round at l ≡ true

-- a loop that the frame is in
left_in : (slots : List Value) (p at : ℕ) (l : Loop) (ls : List Loop) → is_round p l ≡ true → left slots p at (l ∷ ls) ≡ turns_left slots l * product ls + left slots p at ls
left_in slots p at l ls h = rw h

-- one that it isn't in
left_out : (slots : List Value) (p at : ℕ) (l : Loop) (ls : List Loop) → is_round p l ≡ false → left slots p at (l ∷ ls) ≡ (if nat_le p at then turns l * product ls else 0)
left_out slots p at l ls h = rw h

-- loops that all lie ahead have all their turns
left_ahead : (slots : List Value) (p at : ℕ) (ls : List Loop) → p ≤ at → ((l : Loop) → Has ls l → p ≤ l.first) → left slots p at ls ≡ product ls
left_ahead slots p at [] h ahead = rw (le-leb p at h)
left_ahead slots p at (l ∷ ls) h ahead =
    let first : p ≤ l.first = ahead l (inl refl) in
    left_out slots p at l ls (round_not p l (λ f g. absurd (omega arith))) ∙ rw (le-leb p at h)

-- an instruction is still to be carried out where the frame stands at it
left_here : (slots : List Value) (at : ℕ) (ls : List Loop) → AllRound at ls → 1 ≤ left slots at at ls
left_here slots at [] round = rw (le-leb at at (omega arith)) (omega arith)
left_here slots at (l ∷ ls) round = omega (arith, left_in slots at at l ls (round l (inl refl)), left_here slots at ls (λ k h. round k (inr h)))

left_one : (slots : List Value) (p at : ℕ) (ls : List Loop) → AllRound at ls → here p at ≤ left slots p at ls
left_one slots p at ls round = go (at == p) refl
  where
    go : (b : Bool) → (at == p) ≡ b → (if b then 1 else 0) ≤ left slots p at ls
    go false e = omega arith
    go true e = subst (λ x. 1 ≤ left slots x at ls) (eqb-true at p e) (left_here slots at ls round)

-- ---- a step and one loop

-- The step keeps to the loop, or out of it: it neither begins nor ends a turn.
record Stays (slots : List Value) (p : ℕ) (new : List Value) (q : ℕ) (l : Loop) : Type 0 where
  pub round : is_round p l ≡ is_round q l
  pub same : is_round p l ≡ true → turns_left new l ≡ turns_left slots l

-- the step doesn't come to place `at` from behind it, and leaves it if it stands there
record IsAhead (p q at : ℕ) : Type 0 where
  pub reach : q ≤ at → p ≤ at
  pub past : at ≡ p → at < q

-- what is left behind the step, and the instruction itself, is no more than what was left
abbrev Falls : List Value → ℕ → List Value → ℕ → ℕ → List Loop → Type 0
Falls slots p new q at ls = left new q at ls + here p at ≤ left slots p at ls

-- in a loop that it keeps to it falls as in those inside
falls_in : (slots new : List Value) (p q at : ℕ) (l : Loop) (ls : List Loop) → is_round p l ≡ true → Stays slots p new q l → Falls slots p new q at ls
    → Falls slots p new q at (l ∷ ls)
falls_in slots new p q at l ls e s h =
    omega (arith, left_in new q at l ls (sym s.round ∙ e), left_in slots p at l ls e, ap (λ n. n * product ls) (s.same e))

-- no loop
falls_none : (slots new : List Value) (p q at : ℕ) → IsAhead p q at → Falls slots p new q at []
falls_none slots new p q at a = grind (arith, nat_tests)

-- what lies ahead of the new place lies ahead of the old one
falls_all : (p q at n : ℕ) → (q ≤ at → p ≤ at) → (if nat_le q at then n else 0) ≤ (if nat_le p at then n else 0)
falls_all p q at n h = grind (arith, nat_tests)

-- another place
not_here : (p at : ℕ) → (at ≡ p → ⊥) → here p at ≡ 0
not_here p at h = rw (ne_eqb at p h)

-- a loop that it keeps out of
falls_out : (slots new : List Value) (p q at : ℕ) (l : Loop) (ls : List Loop) → IsAhead p q at → is_round at l ≡ true → is_round p l ≡ false
    → Stays slots p new q l → Falls slots p new q at (l ∷ ls)
falls_out slots new p q at l ls a r e s =
    omega (
      arith,
      left_out new q at l ls (sym s.round ∙ e),
      left_out slots p at l ls e,
      falls_all p q at (turns l * product ls) a.reach,
      not_here p at (λ same. true≢false (sym r ∙ ap (λ n. is_round n l) same ∙ e)),
    )

-- loops of which the step begins or ends no turn
falls_aside : (slots new : List Value) (p q at : ℕ) (ls : List Loop) → IsAhead p q at → AllRound at ls → ((l : Loop) → Has ls l → Stays slots p new q l) → Falls slots p new q at ls
falls_aside slots new p q at [] a round stays = falls_none slots new p q at a
falls_aside slots new p q at (l ∷ ls) a round stays = go (is_round p l) refl (falls_aside slots new p q at ls a (λ k h. round k (inr h)) (λ k h. stays k (inr h)))
  where
    go : (b : Bool) → is_round p l ≡ b → Falls slots p new q at ls → Falls slots p new q at (l ∷ ls)
    go true e h = falls_in slots new p q at l ls e (stays l (inl refl)) h
    go false e h = falls_out slots new p q at l ls a (round l (inl refl)) e (stays l (inl refl))

-- ---- nests

-- a loop lies inside another
record IsInside (l k : Loop) : Type 0 where
  pub first : l.first < k.first
  pub last : k.last < l.last

-- each loop lies inside those before it in the list
abbrev Nested : List Loop → Type 0
Nested [] = Unit {0}
Nested (l ∷ ls) = ((k : Loop) → Has ls k → IsInside l k) × Nested ls

-- Where a step begins or ends a turn of loop f it falls over a nest, if it does over f and what lies inside f: it keeps to the loops that f lies inside.
falls_nest : (slots new : List Value) (p q at : ℕ) (f : Loop) (ls : List Loop) → Nested ls → AllRound at ls → Has ls f
    → ((rest : List Loop) → ((k : Loop) → Has rest k → f.first < k.first) → AllRound at rest → Falls slots p new q at (f ∷ rest))
    → ((l : Loop) → Has ls l → IsInside l f → (is_round p l ≡ true) × Stays slots p new q l) → Falls slots p new q at ls
falls_nest slots new p q at f [] nest round has inner outer = absurd has
falls_nest slots new p q at f (l ∷ ls) nest round (inl e) inner outer =
    subst (λ x. Falls slots p new q at (x ∷ ls)) (sym e) (inner ls (λ k h. subst (λ x. x.first < k.first) e (nest.0 k h).first) (λ k h. round k (inr h)))
falls_nest slots new p q at f (l ∷ ls) nest round (inr g) inner outer =
    let o = outer l (inl refl) (nest.0 f g) in
    falls_in slots new p q at l ls o.0 o.1 (falls_nest slots new p q at f ls nest.1 (λ k h. round k (inr h)) g inner (λ k h. outer k (inr h)))

-- the step into the first turn
falls_first : (slots new : List Value) (at : ℕ) (f : Loop) → f.first < f.last → turns_left new f + 1 ≡ turns f → is_round at f ≡ true
    → (rest : List Loop) → ((k : Loop) → Has rest k → f.first < k.first) → AllRound at rest → Falls slots f.first new (f.first + 1) at (f ∷ rest)
falls_first slots new at f ahead one r rest later round =
    let place = round_parts at f r in
    omega (
      arith,
      left_in new (f.first + 1) at f rest (round_from (f.first + 1) f (omega arith) (omega arith)),
      left_ahead new (f.first + 1) at rest (omega arith) (λ k h. (let g = later k h in omega arith)),
      left_out slots f.first at f rest (round_not f.first f (λ g i. absurd (omega arith))),
      falls_to f.first at (turns f * product rest) place.0,
      one_more (turns_left new f) (turns f) (product rest) one,
      not_here f.first at (λ e. absurd (omega arith)),
    )
  where
    falls_to : (p at n : ℕ) → p < at → (if nat_le p at then n else 0) ≡ n
    falls_to p at n h = grind (arith, nat_tests)

-- into the next
falls_again : (slots new : List Value) (at : ℕ) (f : Loop) → f.first < f.last → turns_left new f + 1 ≡ turns_left slots f → is_round at f ≡ true
    → (rest : List Loop) → ((k : Loop) → Has rest k → f.first < k.first) → AllRound at rest → Falls slots f.last new (f.first + 1) at (f ∷ rest)
falls_again slots new at f ahead one r rest later round =
    let place = round_parts at f r in
    omega (
      arith,
      left_in new (f.first + 1) at f rest (round_from (f.first + 1) f (omega arith) (omega arith)),
      left_ahead new (f.first + 1) at rest (omega arith) (λ k h. (let g = later k h in omega arith)),
      left_in slots f.last at f rest (round_from f.last f (omega arith) (omega arith)),
      left_one slots f.last at rest round,
      one_more (turns_left new f) (turns_left slots f) (product rest) one,
    )

-- and out of the last
falls_behind : (slots new : List Value) (at : ℕ) (f : Loop) → f.first < f.last → is_round at f ≡ true
    → (rest : List Loop) → ((k : Loop) → Has rest k → f.first < k.first) → AllRound at rest → Falls slots f.last new (f.last + 1) at (f ∷ rest)
falls_behind slots new at f ahead r rest later round =
    let place = round_parts at f r in
    omega (
      arith,
      left_out new (f.last + 1) at f rest (round_not (f.last + 1) f (λ g i. absurd (omega arith))),
      nothing (f.last + 1) at (turns f * product rest) (omega arith),
      left_in slots f.last at f rest (round_from f.last f (omega arith) (omega arith)),
      left_one slots f.last at rest round,
    )
  where
    nothing : (p at n : ℕ) → at < p → (if nat_le p at then n else 0) ≡ 0
    nothing p at n h = grind (arith, nat_tests)

-- ---- the loops round a place

filter_has : {X : Type 0} (test : X → Bool) (xs : List X) (x : X) → Has (filter test xs) x → Has xs x × (test x ≡ true)
filter_has test [] x h = absurd h
filter_has {X} test (y ∷ xs) x h = go (test y) refl (filter_has test xs x) h
  where
    go : (b : Bool) → test y ≡ b → (Has (filter test xs) x → Has xs x × (test x ≡ true)) → Has (cond b (y ∷ filter test xs) (filter test xs)) x → Has (y ∷ xs) x × (test x ≡ true)
    go true e later (inl q) = (inl q, subst (λ z. test z ≡ true) q e)
    go true e later (inr g) = (let r = later g in (inr r.0, r.1))
    go false e later g = (let r = later g in (inr r.0, r.1))

has_filter : {X : Type 0} (test : X → Bool) (xs : List X) (x : X) → Has xs x → test x ≡ true → Has (filter test xs) x
has_filter test [] x h e = absurd h
has_filter {X} test (y ∷ xs) x (inl q) e = rw (ap test q ∙ e) (inl q)
has_filter {X} test (y ∷ xs) x (inr g) e = go (test y) (has_filter test xs x g e)
  where
    go : (b : Bool) → Has (filter test xs) x → Has (cond b (y ∷ filter test xs) (filter test xs)) x
    go true h = inr h
    go false h = h

-- where two loops don't overlap the one that begins inside the other ends no later
not_behind : (l k : Loop) → overlaps (span_of l) (span_of k) ≡ false → l.first < k.first → k.first < l.last → k.last ≤ l.last
not_behind l k h f g = grind (arith, nat_tests)

module _ (u : UnitValue) (a : AreLoops u) where
  -- the head of a loop is no other instruction
  first_is : (l : Loop) (h : Has (loops u) l) (i : Instr) → slice_get u.code l.first ≡ Some i → (a.is l h).head ≡ i
  first_is l h i e = get_once u.code l.first (a.is l h).head i (a.is l h).begins e

  -- nor is its `next`
  last_is : (l : Loop) → Has (loops u) l → (i : Instr) → slice_get u.code l.last ≡ Some i → instr.Next l.first ≡ i
  last_is l h i e = get_once u.code l.last (instr.Next l.first) i (a.is l h).ends e

  -- one head begins one loop
  same_last : (l k : Loop) → Has (loops u) l → Has (loops u) k → l.first ≡ k.first → l.last ≡ k.last
  same_last l k h g e =
      let q = first_is l h (a.is k g).head (ap (slice_get u.code) e ∙ (a.is k g).begins) in
      ap (λ x. x.last) (same_Some l k (sym (a.is l h).is ∙ ap (loop_head l.first) q ∙ ap (λ n. loop_head n (a.is k g).head) e ∙ (a.is k g).is))

  -- one `next` ends one
  same_first : (l k : Loop) → Has (loops u) l → Has (loops u) k → l.last ≡ k.last → l.first ≡ k.first
  same_first l k h g e = (let q = last_is l h (instr.Next k.first) (ap (slice_get u.code) e ∙ (a.is k g).ends) in cc)

  -- of two loops that begin apart and share a place, the later lies inside the earlier
  inside : (l k : Loop) → Has (loops u) l → Has (loops u) k → l.first < k.first → k.first < l.last → IsInside l k
  inside l k h g f e = record {
    first = f;
    last = (let none = not_behind l k (a.apart l k h g) f e in let differ : (k.last ≡ l.last → ⊥) = (λ q. (let r = same_first k l g h q in absurd (omega arith))) in omega arith);
  }

  -- loops round one place are a nest
  nested_from : (at : ℕ) (ls : List Loop) → Rising (λ l. l.first) ls → ((l : Loop) → Has ls l → Has (loops u) l) → Nested (filter (is_round at) ls)
  nested_from at [] rise known = tt
  nested_from at (l ∷ ls) rise known = go (is_round at l) refl (nested_from at ls rise.1 (λ k h. known k (inr h)))
    where
      go : (b : Bool) → is_round at l ≡ b → Nested (filter (is_round at) ls) → Nested (cond b (l ∷ filter (is_round at) ls) (filter (is_round at) ls))
      go false e n = n
      go true e n = (
        (λ k h. (
            let r = filter_has (is_round at) ls k h in
            let x = round_parts at l e in
            let y = round_parts at k r.1 in
            inside l k (known l (inl refl)) (known k (inr r.0)) (rise.0 k r.0) (omega arith))),
        n,
      )

  nested : (at : ℕ) → Nested (filter (is_round at) (loops u))
  nested at = nested_from at (loops u) a.rising (λ l h. h)

  all_round : (at : ℕ) → AllRound at (filter (is_round at) (loops u))
  all_round at l h = (filter_has (is_round at) (loops u) l h).1

  -- ---- each kind of step, at one place

  -- how often the instruction at `at` is left falls, by one where it is the step's
  abbrev FallsAt : ℕ → List Value → ℕ → List Value → ℕ → Type 0
  FallsAt p slots q new at = Falls slots p new q at (filter (is_round at) (loops u))

  -- a step ahead that keeps to all loops
  falls_ahead : (slots new : List Value) (p q at : ℕ) → p < q → ((l : Loop) → Has (loops u) l → Stays slots p new q l) → FallsAt p slots q new at
  falls_ahead slots new p q at less stays = falls_aside slots new p q at (filter (is_round at) (loops u))
      (record { reach = λ h. omega arith; past = λ h. omega arith }) (all_round at) (λ l h. stays l (filter_has (is_round at) (loops u) l h).0)

  -- a step that begins or ends a turn of loop f
  falls_turn : (slots new : List Value) (p q at : ℕ) (f : Loop) → Has (loops u) f → (f.first ≤ p) × (p ≤ f.last)
      → (is_round at f ≡ false → IsAhead p q at)
      → ((l : Loop) → Has (loops u) l → (l.first ≡ f.first → ⊥) → Stays slots p new q l)
      → (is_round at f ≡ true → (rest : List Loop) → ((k : Loop) → Has rest k → f.first < k.first) → AllRound at rest → Falls slots p new q at (f ∷ rest))
      → FallsAt p slots q new at
  falls_turn slots new p q at f has place ahead aside inner = go (is_round at f) refl
    where
      go : (b : Bool) → is_round at f ≡ b → FallsAt p slots q new at
      go true e = falls_nest slots new p q at f (filter (is_round at) (loops u)) (nested at) (all_round at) (has_filter (is_round at) (loops u) f has e) (inner e)
          (λ l h i. (
            round_from p l (let x = i.first in omega arith) (let x = i.last in omega arith),
            aside l (filter_has (is_round at) (loops u) l h).0 (λ same. (let x = i.first in absurd (omega arith))),
          ))
      go false e = falls_aside slots new p q at (filter (is_round at) (loops u)) (ahead e) (all_round at)
          (λ l h. (let r = filter_has (is_round at) (loops u) l h in aside l r.0
          (λ same. (let last = same_last l f r.0 has same in let x = round_parts at l r.1 in true≢false (sym (round_from at f (omega arith) (omega arith)) ∙ e)))))

  -- ---- the head of a loop

  -- it stands where no loop ends
  head_off : (f : Loop) → Has (loops u) f → (l : Loop) → Has (loops u) l → f.first ≡ l.last → ⊥
  head_off f has l h e =
      let q = last_is l h (a.is f has).head (ap (slice_get u.code) (sym e) ∙ (a.is f has).begins) in
      none-some f (ap (loop_head f.first) q ∙ (a.is f has).is)

  -- into the first turn of loop f
  falls_for : (slots : List Value) (at : ℕ) (f : Loop) → Has (loops u) f → f.slot < length slots
      → FallsAt f.first slots (f.first + 1) (slice_set slots f.slot (value.Number f.lo)) at
  falls_for slots at f has known =
      falls_turn slots new f.first (f.first + 1) at f has (omega arith, (let x = (a.ahead f has) in omega arith))
      (λ e. record { reach = λ h. omega arith; past = λ h. omega arith }) aside
      (falls_first slots new at f (a.ahead f has) one)
    where
      new : List Value
      new = slice_set slots f.slot (value.Number f.lo)

      one : turns_left new f + 1 ≡ turns f
      one = (let x = get_inside slots f.slot known in
          ap (λ o. turns_to f.hi o + 1) (get-set_same slots f.slot x.0 (value.Number f.lo) x.1) ∙ turns_first f.lo f.hi (a.order f has))

      aside : (l : Loop) → Has (loops u) l → (l.first ≡ f.first → ⊥) → Stays slots f.first new (f.first + 1) l
      aside l h differ = record {
        round = round_next f.first l (λ e. differ (sym e)) (head_off f has l h);
        same = λ r. ap (turns_to l.hi) (get-set_other slots f.slot l.slot (value.Number f.lo)
            (λ q. a.unwritten (a.is f has).head f.first l (a.is f has).begins h (within_same f.first l (head_off f has l h) ∙ r)
            (head_writes f.first (a.is f has).head f (a.is f has).is ∙ ap Some (sym q))));
      }

  -- ---- a `next`

  -- a place that lies not in a loop
  not_round : (at : ℕ) (l : Loop) → is_round at l ≡ false → (at ≤ l.first) ⊎ (l.last < at)
  not_round at l h = grind (arith, nat_tests)

  -- into the next turn of loop f
  falls_next : (slots : List Value) (at : ℕ) (f : Loop) (n : ℤ) → Has (loops u) f → int_lt n f.hi ≡ true → slice_get slots f.slot ≡ Some (value.Number n)
      → FallsAt f.last slots (f.first + 1) (slice_set slots f.slot (value.Number (n +ℤ pos 1))) at
  falls_next slots at f n has less number =
      falls_turn slots new f.last (f.first + 1) at f has ((let x = (a.ahead f has) in omega arith), omega arith)
      (λ e. (let x = not_round at f e in let y = (a.ahead f has) in record { reach = λ h. omega arith; past = λ h. omega arith })) aside
      (falls_again slots new at f (a.ahead f has) one)
    where
      new : List Value
      new = slice_set slots f.slot (value.Number (n +ℤ pos 1))

      one : turns_left new f + 1 ≡ turns_left slots f
      one = ap (λ o. turns_to f.hi o + 1) (get-set_same slots f.slot (value.Number n) (value.Number (n +ℤ pos 1)) number) ∙ turns_next n f.hi less ∙ ap (turns_to f.hi) (sym number)

      -- a loop round its `next` begins ahead of its `for`
      outer : (l : Loop) → Has (loops u) l → (l.first ≡ f.first → ⊥) → is_round f.last l ≡ true → l.first < f.first
      outer l h differ r = (let x = round_parts f.last l r in go x (cases_lt l.first f.first))
        where
          go : (l.first < f.last) × (f.last ≤ l.last) → (l.first < f.first) ⊎ (f.first ≤ l.first) → l.first < f.first
          go x (inl y) = y
          go x (inr y) = (let z = inside f l has h (let d = differ in omega arith) x.0 in let w = z.last in absurd (omega arith))

      aside : (l : Loop) → Has (loops u) l → (l.first ≡ f.first → ⊥) → Stays slots f.last new (f.first + 1) l
      aside l h differ = record {
        round = same_test (is_round f.last l) (is_round (f.first + 1) l)
            (λ r. (let x = round_parts f.last l r in let y = outer l h differ r in let z = (a.ahead f has) in round_from (f.first + 1) l (omega arith) (omega arith)))
            (λ r. (let x = round_parts (f.first + 1) l r in let z = inside l f h has (let d = differ in omega arith) (omega arith) in
            let w = (a.ahead f has) in let v = z.last in let s = z.first in round_from f.last l (omega arith) (omega arith)));
        same = λ r. ap (turns_to l.hi) (get-set_other slots f.slot l.slot (value.Number (n +ℤ pos 1)) (λ q. (let x = round_parts f.last l r in let z = (a.ahead f has) in
            a.unwritten (a.is f has).head f.first l (a.is f has).begins h (within_from f.first l (outer l h differ r) (omega arith))
            (head_writes f.first (a.is f has).head f (a.is f has).is ∙ ap Some (sym q)))));
      }

  -- and out of the last
  falls_last : (slots : List Value) (at : ℕ) (f : Loop) → Has (loops u) f → FallsAt f.last slots (f.last + 1) slots at
  falls_last slots at f has =
      falls_turn slots slots f.last (f.last + 1) at f has ((let x = (a.ahead f has) in omega arith), omega arith)
      (λ e. record { reach = λ h. omega arith; past = λ h. omega arith })
      (λ l h differ. record {
        round = round_next f.last l (λ e. head_off l h f has (sym e))
            (λ e. differ (same_first l f h has (sym e)));
        same = λ r. refl;
      })
      (falls_behind slots slots at f (a.ahead f has))

  -- a `next` at place p that names place b
  falls_turned : (b p : ℕ) (slots : List Value) (q : ℕ) (new : List Value) (at : ℕ) → slice_get u.code p ≡ Some (instr.Next b) → IsTurn u b p slots q new → FallsAt p slots q new at
  falls_turned b p slots q new at found m = subst (λ x. FallsAt x slots q new at) place (go m.goes)
    where
      f : Loop
      f = m.l

      has : Has (loops u) f
      has = (a.begun b m.head f m.here m.is).0

      first : f.first ≡ b
      first = head_first b m.head f m.is

      place : f.last ≡ p
      place =
          (let g = a.ended b p found in
          let i = get_once u.code b m.head g.head m.here g.here in
          ap (λ x. x.last) (same_Some f g.l (sym m.is ∙ ap (loop_head b) i ∙ g.is)) ∙ g.last)

      go : (int_lt m.n f.hi ≡ true) × (q ≡ b + 1) × (new ≡ slice_set slots f.slot (value.Number (m.n +ℤ pos 1))) ⊎ (q ≡ p + 1) × (new ≡ slots)
          → FallsAt f.last slots q new at
      go (inl g) = subst (λ x. FallsAt f.last slots x new at) (ap (λ x. x + 1) first ∙ sym g.1)
          (subst (λ y. FallsAt f.last slots (f.first + 1) y at) (sym g.2) (falls_next slots at f m.n has g.0 m.number))
      go (inr g) = subst (λ x. FallsAt f.last slots x new at) (ap (λ x. x + 1) place ∙ sym g.0)
          (subst (λ y. FallsAt f.last slots (f.last + 1) y at) (sym g.1) (falls_last slots at f has))

  -- ---- all others

  -- the instruction begins or ends turns of a loop
  abbrev is_turning : Instr → Bool
  is_turning (instr.For k lo hi e) = true
  is_turning (instr.ForTo k lo x hi e) = true
  is_turning (instr.Next b) = true
  is_turning _ = false

  -- a head does
  head_turning : (n : ℕ) (i : Instr) (l : Loop) → loop_head n i ≡ Some l → is_turning i ≡ true
  head_turning n (instr.For k lo hi e) l h = refl
  head_turning n (instr.ForTo k lo x hi e) l h = refl
  head_turning n _ l h = absurd (none-some l h)

  -- any other stands at no end of a loop
  off_first : (i : Instr) (p : ℕ) → slice_get u.code p ≡ Some i → is_turning i ≡ false → (l : Loop) → Has (loops u) l → p ≡ l.first → ⊥
  off_first i p found other l h e = true≢false
      (sym (head_turning l.first (a.is l h).head l (a.is l h).is) ∙ ap is_turning (first_is l h i (ap (slice_get u.code) (sym e) ∙ found)) ∙ other)

  off_last : (i : Instr) (p : ℕ) → slice_get u.code p ≡ Some i → is_turning i ≡ false → (l : Loop) → Has (loops u) l → p ≡ l.last → ⊥
  off_last i p found other l h e = true≢false (ap is_turning (last_is l h i (ap (slice_get u.code) (sym e) ∙ found)) ∙ other)

  -- on to the next instruction
  falls_on : (i : Instr) (p : ℕ) (slots : List Value) (new : List Value) (at : ℕ) → slice_get u.code p ≡ Some i → is_turning i ≡ false
      → ((s : ℕ) → (slot_written i ≡ Some s → ⊥) → slice_get new s ≡ slice_get slots s) → FallsAt p slots (p + 1) new at
  falls_on i p slots new at found other kept = falls_ahead slots new p (p + 1) at (omega arith) (λ l h. record {
    round = round_next p l (off_first i p found other l h) (off_last i p found other l h);
    same = λ r. ap (turns_to l.hi) (kept l.slot (a.unwritten i p l found h (within_same p l (off_last i p found other l h) ∙ r)));
  })

  -- to a target, from where no loop ends
  falls_to : (i : Instr) (p t : ℕ) (slots : List Value) (at : ℕ) → slice_get u.code p ≡ Some i → ((l : Loop) → Has (loops u) l → p ≡ l.last → ⊥)
      → target i ≡ Some t → FallsAt p slots t slots at
  falls_to i p t slots at found off aim = (let k = a.kept i p t found aim in falls_ahead slots slots p t at k.ahead (λ l h. record {
    round = sym (within_same p l (off l h)) ∙ k.same l h;
    same = λ r. refl;
  }))

  -- into a loop, or past it
  falls_forto : (k : ℕ) (lo : ℤ) (x : ℕ) (hi : ℤ) (e p : ℕ) (slots : List Value) (q : ℕ) (new : List Value) (at : ℕ) → slice_get u.code p ≡ Some (instr.ForTo k lo x hi e)
      → Goes u (instr.ForTo k lo x hi e) p slots q new → FallsAt p slots q new at
  falls_forto k lo x hi e p slots q new at found (inl m) = rw (m.0, m.2) (falls_for slots at _ (a.begun p (instr.ForTo k lo x hi e) _ found refl).0 m.1)
  falls_forto k lo x hi e p slots q new at found (inr m) = rw (m.0, m.1)
      (falls_to (instr.ForTo k lo x hi e) p (e + 1) slots at found (λ l h. head_off _ (a.begun p (instr.ForTo k lo x hi e) _ found refl).0 l h) refl)

  -- how often each instruction is left, after a step
  falls : (i : Instr) (p : ℕ) (slots : List Value) (q : ℕ) (new : List Value) (at : ℕ) → slice_get u.code p ≡ Some i → Goes u i p slots q new → FallsAt p slots q new at
  falls (instr.For k lo hi e) p slots q new at found m = rw (m.0, m.2) (falls_for slots at _ (a.begun p (instr.For k lo hi e) _ found refl).0 m.1)
  falls (instr.ForTo k lo x hi e) p slots q new at found m = falls_forto k lo x hi e p slots q new at found m
  falls (instr.Next b) p slots q new at found m = falls_turned b p slots q new at found m
  falls (instr.Unless op x y t) p slots q new at found (inl e, same) = rw (e, same) (falls_on (instr.Unless op x y t) p slots slots at found refl (λ s h. refl))
  falls (instr.Unless op x y t) p slots q new at found (inr e, same) = rw (e, same) (falls_to (instr.Unless op x y t) p t slots at found (off_last (instr.Unless op x y t) p found refl) refl)
  falls (instr.Jump t) p slots q new at found m = rw (m.0, m.1) (falls_to (instr.Jump t) p t slots at found (off_last (instr.Jump t) p found refl) refl)
  falls instr.Ret p slots q new at found m = absurd m
  falls i p slots q new at found m = rw (m.0) (falls_on i p slots new at found refl m.1)

-- ---- sums

-- a sum of less is less
sum_le : (f g : ℕ → ℕ) (weight : Instr → ℕ) → ((at : ℕ) → f at ≤ g at) → (at : ℕ) (is : List Instr)
    → sum_from (λ n i. f n * weight i) at is ≤ sum_from (λ n i. g n * weight i) at is
sum_le f g weight h at [] = omega arith
sum_le f g weight h at (i ∷ is) = omega (arith, times_le (f at) (g at) (weight i) (h at), sum_le f g weight h (suc at) is)

-- and by the weight of the instruction at place p, if it is once less there
sum_less : (f g : ℕ → ℕ) (weight : Instr → ℕ) (p : ℕ) → ((at : ℕ) → f at + here p at ≤ g at) → (at j : ℕ) (is : List Instr) (i : Instr) → slice_get is j ≡ Some i → p ≡ at + j
    → sum_from (λ n x. f n * weight x) at is + weight i ≤ sum_from (λ n x. g n * weight x) at is
sum_less f g weight p h at j [] i found e = absurd (none-some i found)
sum_less f g weight p h at zero (x ∷ is) i found e =
    let once : here p at ≡ 1 = rw (eq-eqb at p (omega arith)) in
    omega (
      arith,
      h at,
      times_more (f at) (g at) (weight x) (omega (arith, h at)),
      ap weight (same_Some x i found),
      sum_le f g weight (λ n. omega (arith, h n)) (suc at) is,
    )
sum_less f g weight p h at (suc j) (x ∷ is) i found e =
    omega (arith, times_le (f at) (g at) (weight x) (omega (arith, h at)), sum_less f g weight p h (suc at) j is i found (omega arith))

-- ---- what is due

-- at the start each instruction is due as often as it can be carried out
pub due_start : (u : UnitValue) (weight : Instr → ℕ) (slots : List Value) → due weight u 0 slots ≡ sum_from (λ at i. visits u at * weight i) 0 u.code
due_start u weight slots = ap (λ (f : ℕ → ℕ). sum_from (λ at i. f at * weight i) 0 u.code)
    (fun_ext (visits_left u 0 slots) (visits u) (λ at. left_ahead slots 0 at (filter (is_round at) (loops u)) (omega arith) (λ l h. omega arith)))

-- a step takes off its instruction
pub due_step : (u : UnitValue) → AreLoops u → (weight : Instr → ℕ) (i : Instr) (p : ℕ) (slots : List Value) (q : ℕ) (new : List Value)
    → slice_get u.code p ≡ Some i → Goes u i p slots q new
    → due weight u q new + weight i ≤ due weight u p slots
due_step u a weight i p slots q new found m = sum_less (visits_left u q new) (visits_left u p slots) weight p
    (λ at. falls u a i p slots q new at found m) 0 p u.code i found (omega arith)

-- the instruction that stands next is due
pub due_end : (u : UnitValue) (weight : Instr → ℕ) (i : Instr) (p : ℕ) (slots : List Value) → slice_get u.code p ≡ Some i → weight i ≤ due weight u p slots
due_end u weight i p slots found =
    let h = sum_less (λ at. 0) (visits_left u p slots) weight p
    (λ at. (let g = left_one slots p at (filter (is_round at) (loops u)) (λ l h. (filter_has (is_round at) (loops u) l h).1) in omega arith)) 0 p u.code i found (omega arith) in
    omega arith
