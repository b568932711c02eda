-- Runs by chance, one more and all of them; and that a tally is one text.
use Rattle.std.proofs.Common.{◌≡◌, ◌∙◌, ℕ, ℤ, suc, ◌+◌, ◌<◌, ◌^◌, true, List, [], ◌∷◌, ◌++◌, length, refl, sym, ap, ap₂, subst, arith}
use Rattle.std.proofs.lemmas.Bool.{true≢false}
use Rattle.std.proofs.lemmas.List.{length-append}
use Rattle.std.proofs.lemmas.Option.{same_Some}
use Rattle.xk_types.specs.declared.world.Event.{Event}
use Rattle.xk_types.specs.Code.{ModuleValue}
use Rattle.xk_types.specs.World.{World, opening}
use Rattle.xk_types.specs.Step.{Outcome, Blocked, Wrong, Stepped, step}
use Rattle.xk_types.specs.Schedule.{Through, all_ended, is_step, printed, run}
use Rattle.xk_law_schedules.proofs.ReachabilityLemmas.{first_step, same_through}
use Rattle.xk_scheduler.specs.Choosers.{Follows, enabled_in, goes_on}
use Rattle.xk_scheduler.specs.WholeRuns.{IsRunBy}
use Rattle.xk_scheduler.proofs.EnabledSetLemmas.{going}
use Rattle.xk_random.specs.Chance.{chance_after, chance_answer, chance_of}
use Rattle.xk_random.specs.Tally.{Share, seed_of, shares_from, tally_text}
use Rattle.xk_random.specs.Shares.{HasRoom, noted}
use Rattle.xk_random.specs.Runs.{ArePrinted, AreShares, IsPrinted, IsTallyText}
use Rattle.xk_random.proofs.TallyLemmas.{room_left, shares_more}

-- ---- one run more

printed_more : (m : ModuleValue) (args : List ℤ) (seed i j : ℕ) (lists : List (List ℤ)) (x : List ℤ) → j ≡ i + length lists
    → ArePrinted m args seed i lists
    → IsPrinted m args (seed_of seed j) x → ArePrinted m args seed i (lists ++ x ∷ [])
printed_more m args seed i j [] x at before p =
    let here : j ≡ i = omega (arith, at) in
    (subst (λ k. IsPrinted m args (seed_of seed k) x) here p, tt)
printed_more m args seed i j (y ∷ lists) x at before p = (before.0, printed_more m args seed (suc i) j lists x (omega (arith, at)) before.1 p)

pub no_shares : (m : ModuleValue) (args : List ℤ) (seed : ℕ) (shares : List Share) → shares ≡ [] → AreShares m args seed 0 shares
no_shares m args seed shares none = record { lists = []; runs_are = refl; printed = tt; shares_are = none }

pub one_more : (m : ModuleValue) (args : List ℤ) (seed n : ℕ) (x : List ℤ) (old new : List Share) → AreShares m args seed n old
    → IsPrinted m args (seed_of seed n) x
    → new ≡ noted (seed_of seed n) x old → AreShares m args seed (n + 1) new
one_more m args seed n x old new before p is =
    let at : n ≡ 0 + length before.lists = omega (arith, before.runs_are) in
    let count : length (before.lists ++ x ∷ []) ≡ length before.lists + 1 = length-append before.lists (x ∷ []) in
    record {
      lists = before.lists ++ x ∷ [];
      runs_are = count ∙ ap (λ k. k + 1) before.runs_are;
      printed = printed_more m args seed 0 n before.lists x at before.printed p;
      shares_are = is ∙ ap (noted (seed_of seed n) x) before.shares_are ∙ sym (shares_more seed 0 n before.lists x at);
    }

-- as long as there is one more run, each can be counted
pub has_room : (m : ModuleValue) (args : List ℤ) (seed n runs : ℕ) (shares : List Share) → AreShares m args seed n shares → n < runs
    → runs < 2 ^ 64 → HasRoom shares
has_room m args seed n runs shares a less fits =
    room_left seed runs a.lists shares a.shares_are (subst (λ k. k < runs) (sym a.runs_are) less) fits

-- ---- who chooses determines the run

-- who is chosen takes a step
taken : (o : Outcome) (P : World → Type 0) → goes_on o P → is_step o ≡ true
taken Blocked P h = absurd h
taken (Wrong c) P h = absurd h
taken (Stepped v e) P h = refl

same_step : (v w : World) (d e : Event) → Stepped v d ≡ Stepped w e → v ≡ w
same_step v w d e h = cc

module _ {S : Type 0} (answer : S → List ℕ → ℕ) (after : S → List ℕ → S) (m : ModuleValue) where
  -- two lists that follow one chooser to an end are one
  follows_once : (l k : List ℕ) (s : S) (w x y : World) → Follows answer after m s w l → Follows answer after m s w k
      → run m l w ≡ Through x → run m k w ≡ Through y
      → all_ended x ≡ true → all_ended y ≡ true → l ≡ k
  follows_once [] [] s w x y p q left right over end = refl
  follows_once [] (b ∷ k) s w x y p q left right over end =
      absurd (true≢false (sym (ap all_ended (same_through w x left) ∙ over) ∙ going m w b (taken (step m w b) _ q.1)))
  follows_once (a ∷ l) [] s w x y p q left right over end =
      absurd (true≢false (sym (ap all_ended (same_through w y right) ∙ end) ∙ going m w a (taken (step m w a) _ p.1)))
  follows_once (a ∷ l) (b ∷ k) s w x y p q left right over end =
      let same : a ≡ b = same_Some a b (sym p.0 ∙ q.0) in
      let f = first_step w x (step m w a) (run m l) left in
      let g = first_step w y (step m w b) (run m k) right in
      let there : f.0 ≡ g.0 = same_step f.0 g.0 f.1 g.1 (sym f.2 ∙ ap (step m w) same ∙ g.2) in
      let next = after s (enabled_in m w) in
      let here = subst (λ (o : Outcome). goes_on o (λ v. Follows answer after m next v l)) f.2 p.1 in
      let other = subst (λ (o : Outcome). goes_on o (λ v. Follows answer after m next v k)) g.2 q.1 in
      let rest = follows_once l k next f.0 x y here (subst (λ (v : World). Follows answer after m next v k) (sym there) other) f.3
      (subst (λ (v : World). run m k v ≡ Through y) (sym there) g.3) over end in
      ap (λ c. c ∷ l) same ∙ ap (λ t. b ∷ t) rest

  -- two runs that one chooser chooses print the same
  chosen_once : (args : List ℤ) (s : S) (numbers others : List ℤ) (n k : ℕ) → IsRunBy answer after m args s numbers n
      → IsRunBy answer after m args s others k
      → numbers ≡ others
  chosen_once args s numbers others n k p q =
      let here = subst (λ xs. run m p.list (opening m xs) ≡ Through p.last) p.given p.leads.1 in
      let there = subst (λ xs. run m q.list (opening m xs) ≡ Through q.last) q.given q.leads.1 in
      p.numbers_are
      ∙ ap (λ l. printed m l (opening m args)) (follows_once p.list q.list s (opening m args) p.last q.last p.follows q.follows here there p.over q.over)
      ∙ sym q.numbers_are

-- ---- a tally is one text

printed_once : (m : ModuleValue) (args : List ℤ) (seed i : ℕ) (lists others : List (List ℤ)) → length lists ≡ length others
    → ArePrinted m args seed i lists
    → ArePrinted m args seed i others → lists ≡ others
printed_once m args seed i [] [] same p q = refl
printed_once m args seed i [] (y ∷ others) same p q = absurd (omega (arith, same))
printed_once m args seed i (x ∷ lists) [] same p q = absurd (omega (arith, same))
printed_once m args seed i (x ∷ lists) (y ∷ others) same p q =
    let first : x ≡ y = chosen_once chance_answer chance_after m args (chance_of (seed_of seed i)) x y p.0.0 q.0.0 p.0.1 q.0.1 in
    let rest = printed_once m args seed (suc i) lists others (omega (arith, same)) p.1 q.1 in
    ap₂ ◌∷◌ first rest

pub tally_once : (m : ModuleValue) (args : List ℤ) (seed runs : ℕ) (text other : List ℕ) → IsTallyText m args seed runs text
    → IsTallyText m args seed runs other
    → text ≡ other
tally_once m args seed runs text other t u =
    let lists = printed_once m args seed 0 t.of.lists u.of.lists (t.of.runs_are ∙ sym u.of.runs_are) t.of.printed u.of.printed in
    let shares = t.of.shares_are ∙ ap (shares_from seed 0) lists ∙ sym u.of.shares_are in
    t.text_is ∙ ap (tally_text runs) shares ∙ sym u.text_is
