-- What changes of an activity's registrations make of where it stands.
use Rattle.std.proofs.Common.{◌≡◌, ℕ, ◌+◌, ◌-◌, ◌<◌, ◌==◌, ◌&&◌, Bool, true, false, cond, List, [], ◌∷◌, is_none, Option, Some, None, refl, sym, ap, ◌∙◌, subst, arith}
use Rattle.std.proofs.lemmas.Bool.{eqb-true}
use Rattle.std.proofs.lemmas.Bool.Decides.{nat_tests}
use Rattle.xk_types.specs.declared.world.Standing.{Standing}
use Rattle.xk_types.specs.declared.world.Standing.TheVariants as standing
use Rattle.xk_types.specs.Step.{is_pending, is_registered, is_signalled, advanced, resumed, passed}
use Rattle.std.specs.Option.{option_map_or}
use Rattle.std.proofs.lemmas.Option.{none-some, same_Some}
use Rattle.xk_clocks.specs.Table.{CountValue, one_if, count_dropped}
use Rattle.xk_registrations.specs.View.{Registration, standing_at, stands, WillAdvance, reg_on, AreDistinct, count_moved}
use Rattle.xk_registrations.specs.RegistrationChanges.{marked, mark_resumed, regs_resumed, regs_passed, regs_on, regs_where, regs_open, is_open, call_resume, call_drop}

-- where an activity stands that marks its registrations anew
stands_marked : (f : ℕ → Option ℕ → Option ℕ) (h : Standing → Standing) (rs : List Registration) (k p : ℕ) → h standing.Apart ≡ standing.Apart
    → ((m : Option ℕ) → stands rs k p ≡ standing_at p m → standing_at p (f k m) ≡ h (standing_at p m))
    → stands (marked f rs) k p ≡ h (stands rs k p)
stands_marked f h [] k p apart each = sym apart
stands_marked f h (r ∷ rs) k p apart each = go (r.clock == k) refl each (stands_marked f h rs k p apart)
  where
    go : (b : Bool) → (r.clock == k) ≡ b
        → ((m : Option ℕ) → cond b (standing_at p r.resumed) (stands rs k p) ≡ standing_at p m → standing_at p (f k m) ≡ h (standing_at p m))
        → (((m : Option ℕ) → stands rs k p ≡ standing_at p m → standing_at p (f k m) ≡ h (standing_at p m)) → stands (marked f rs) k p ≡ h (stands rs k p))
        → cond b (standing_at p (f r.clock r.resumed)) (stands (marked f rs) k p) ≡ h (cond b (standing_at p r.resumed) (stands rs k p))
    go true e here later = rw (eqb-true r.clock k e) (here r.resumed refl)
    go false e here later = later here

-- a mark will read rightly
abbrev WillBe : Option ℕ → ℕ → Type 0
WillBe m p = (q : ℕ) → p < q → standing_at q m ≡ advanced (standing_at p m)

ahead_marked : (f : ℕ → Option ℕ → Option ℕ) (rs : List Registration) (k p : ℕ) → ((m : Option ℕ) → WillBe m p → WillBe (f k m) p)
    → WillAdvance rs k p → WillAdvance (marked f rs) k p
ahead_marked f [] k p each ahead = ahead
ahead_marked f (r ∷ rs) k p each ahead = go (r.clock == k) refl ahead (ahead_marked f rs k p each)
  where
    go : (b : Bool) → (r.clock == k) ≡ b
        → ((q : ℕ) → p < q → cond b (standing_at q r.resumed) (stands rs k q) ≡ advanced (cond b (standing_at p r.resumed) (stands rs k p)))
        → (WillAdvance rs k p → WillAdvance (marked f rs) k p)
        → (q : ℕ) → p < q → cond b (standing_at q (f r.clock r.resumed)) (stands (marked f rs) k q) ≡ advanced (cond b (standing_at p (f r.clock r.resumed)) (stands (marked f rs) k p))
    go true e here later q h = rw (eqb-true r.clock k e) (each r.resumed here q h)
    go false e here later q h = later here q h

-- ---- some of them are kept

pub stands_left : (test : ℕ → Bool) (rs : List Registration) (k p : ℕ) → stands (regs_on test rs) k p ≡ cond (test k) (stands rs k p) standing.Apart
stands_left test [] k p = go (test k)
  where
    go : (b : Bool) → standing.Apart ≡ cond b standing.Apart standing.Apart
    go true = refl
    go false = refl
stands_left test (r ∷ rs) k p = go (r.clock == k) refl (test r.clock) refl (stands_left test rs k p)
  where
    go : (b : Bool) → (r.clock == k) ≡ b → (t : Bool) → test r.clock ≡ t → stands (regs_on test rs) k p ≡ cond (test k) (stands rs k p) standing.Apart
        → stands (cond t (r ∷ regs_on test rs) (regs_on test rs)) k p ≡ cond (test k) (cond b (standing_at p r.resumed) (stands rs k p)) standing.Apart
    go true e true is later = rw (e, ← eqb-true r.clock k e, is) refl
    go true e false is later = later ∙ rw (← eqb-true r.clock k e, is) refl
    go false e true is later = rw e later
    go false e false is later = later

pub ahead_left : (test : ℕ → Bool) (rs : List Registration) (k p : ℕ) → WillAdvance rs k p → WillAdvance (regs_on test rs) k p
ahead_left test rs k p ahead q h = stands_left test rs k q ∙ go (test k) ∙ ap advanced (sym (stands_left test rs k p))
  where
    go : (b : Bool) → cond b (stands rs k q) standing.Apart ≡ advanced (cond b (stands rs k p) standing.Apart)
    go true = ahead q h
    go false = refl

-- ---- a resume

pub same_number : (n : ℕ) → (n == n) ≡ true
same_number n = grind (arith, nat_tests)

pub other_number : (m n : ℕ) → m < n → (m == n) ≡ false
other_number m n h = grind (arith, nat_tests)

resumed_mark : (p : ℕ) (m : Option ℕ) → standing_at p (mark_resumed p m) ≡ resumed (standing_at p m)
resumed_mark p None = rw (same_number p) refl
resumed_mark p (Some q) = go (q == p)
  where
    go : (b : Bool) → cond b standing.Signalled standing.Ahead ≡ resumed (cond b standing.Signalled standing.Ahead)
    go true = refl
    go false = refl

resumed_ahead : (p : ℕ) (m : Option ℕ) → WillBe m p → WillBe (mark_resumed p m) p
resumed_ahead p None will q h = rw (same_number p, other_number p q h) refl
resumed_ahead p (Some r) will q h = will q h

-- on the clocks that pass the test
abbrev pub resumed_on : (ℕ → Bool) → ℕ → Standing → Standing
resumed_on test k s = cond (test k) (resumed s) s

pub stands_resumed : (test : ℕ → Bool) (phases : ℕ → ℕ) (rs : List Registration) (k : ℕ) → stands (regs_resumed test phases rs) k (phases k) ≡ resumed_on test k (stands rs k (phases k))
stands_resumed test phases rs k =
    stands_marked (λ j m. cond (test j) (mark_resumed (phases j) m) m) (resumed_on test k) rs k (phases k) (apart (test k)) (λ m e. each m (test k))
  where
    apart : (b : Bool) → cond b standing.Apart standing.Apart ≡ standing.Apart
    apart true = refl
    apart false = refl

    each : (m : Option ℕ) (b : Bool) → standing_at (phases k) (cond b (mark_resumed (phases k) m) m) ≡ cond b (resumed (standing_at (phases k) m)) (standing_at (phases k) m)
    each m true = resumed_mark (phases k) m
    each m false = refl

pub ahead_resumed : (test : ℕ → Bool) (phases : ℕ → ℕ) (rs : List Registration) (k : ℕ) → WillAdvance rs k (phases k) → WillAdvance (regs_resumed test phases rs) k (phases k)
ahead_resumed test phases rs k ahead =
    ahead_marked (λ j m. cond (test j) (mark_resumed (phases j) m) m) rs k (phases k) (λ m. each m (test k)) ahead
  where
    each : (m : Option ℕ) (b : Bool) → WillBe m (phases k) → WillBe (cond b (mark_resumed (phases k) m) m) (phases k)
    each m true = resumed_ahead (phases k) m
    each m false = λ will. will

-- ---- a pass

unsignalled_passed : (s : Standing) → is_signalled s ≡ false → is_registered s ≡ true → standing.Open ≡ passed s
unsignalled_passed standing.Apart e g = absurd (grind arith)
unsignalled_passed standing.Open e g = refl
unsignalled_passed standing.Signalled e g = absurd (grind arith)
unsignalled_passed standing.Ahead e g = refl

pub registered_mark : (p : ℕ) (m : Option ℕ) → is_registered (standing_at p m) ≡ true
registered_mark p None = refl
registered_mark p (Some q) = go (q == p)
  where
    go : (b : Bool) → is_registered (cond b standing.Signalled standing.Ahead) ≡ true
    go true = refl
    go false = refl

-- where it is signalled on no clock
pub stands_passed : (rs : List Registration) (k p : ℕ) → is_signalled (stands rs k p) ≡ false → stands (regs_passed rs) k p ≡ passed (stands rs k p)
stands_passed rs k p quiet =
    stands_marked (λ j m. None) passed rs k p refl
    (λ m e. unsignalled_passed (standing_at p m) (subst (λ (s : Standing). is_signalled s ≡ false) e quiet) (registered_mark p m))

pub ahead_passed : (rs : List Registration) (k p : ℕ) → WillAdvance rs k p → WillAdvance (regs_passed rs) k p
ahead_passed rs k p ahead = ahead_marked (λ j m. None) rs k p (λ m will q h. refl) ahead

-- ---- the registration on one clock

pub stands_reg : (rs : List Registration) (k p : ℕ) → stands rs k p ≡ option_map_or (λ r. standing_at p r.resumed) (reg_on rs k) standing.Apart
stands_reg [] k p = refl
stands_reg (r ∷ rs) k p = go (r.clock == k) (stands_reg rs k p)
  where
    go : (b : Bool) → stands rs k p ≡ option_map_or (λ r. standing_at p r.resumed) (reg_on rs k) standing.Apart
        → cond b (standing_at p r.resumed) (stands rs k p) ≡ option_map_or (λ r. standing_at p r.resumed) (cond b (Some r) (reg_on rs k)) standing.Apart
    go true later = refl
    go false later = later

pub reg_clock : (rs : List Registration) (k : ℕ) (r : Registration) → reg_on rs k ≡ Some r → r.clock ≡ k
reg_clock [] k r h = absurd (none-some r h)
reg_clock (s ∷ rs) k r h = go (s.clock == k) refl h (reg_clock rs k r)
  where
    go : (b : Bool) → (s.clock == k) ≡ b → cond b (Some s) (reg_on rs k) ≡ Some r → (reg_on rs k ≡ Some r → r.clock ≡ k) → r.clock ≡ k
    go true e is later = ap (λ (x : Registration). x.clock) (sym (same_Some s r is)) ∙ eqb-true s.clock k e
    go false e is later = later is

-- it passes, or there is none
abbrev pub if_passes : (Registration → Bool) → Option Registration → Option Registration
if_passes test None = None
if_passes test (Some r) = cond (test r) (Some r) None

pub reg_where : (test : Registration → Bool) (rs : List Registration) (k : ℕ) → AreDistinct rs → reg_on (regs_where test rs) k ≡ if_passes test (reg_on rs k)
reg_where test [] k distinct = refl
reg_where test (r ∷ rs) k distinct = go (r.clock == k) refl (test r) refl (reg_where test rs k distinct.1)
  where
    go : (b : Bool) → (r.clock == k) ≡ b → (t : Bool) → test r ≡ t → reg_on (regs_where test rs) k ≡ if_passes test (reg_on rs k)
        → reg_on (cond t (r ∷ regs_where test rs) (regs_where test rs)) k ≡ if_passes test (cond b (Some r) (reg_on rs k))
    go true e true is later = rw (e, is) refl
    go true e false is later =
        let alone : reg_on rs k ≡ None = ap (reg_on rs) (sym (eqb-true r.clock k e)) ∙ distinct.0 in
        later ∙ ap (if_passes test) alone ∙ rw is refl
    go false e true is later = rw e later
    go false e false is later = later

pub distinct_where : (test : Registration → Bool) (rs : List Registration) → AreDistinct rs → AreDistinct (regs_where test rs)
distinct_where test [] distinct = tt
distinct_where test (r ∷ rs) distinct = go (test r) (distinct_where test rs distinct.1)
  where
    go : (t : Bool) → AreDistinct (regs_where test rs) → AreDistinct (cond t (r ∷ regs_where test rs) (regs_where test rs))
    go true later = (reg_where test rs r.clock distinct.1 ∙ ap (if_passes test) distinct.0, later)
    go false later = later

pub reg_marked : (f : ℕ → Option ℕ → Option ℕ) (rs : List Registration) (k : ℕ) → reg_on rs k ≡ None → reg_on (marked f rs) k ≡ None
reg_marked f [] k h = refl
reg_marked f (r ∷ rs) k h = go (r.clock == k) h (reg_marked f rs k)
  where
    go : (b : Bool) → cond b (Some r) (reg_on rs k) ≡ None → (reg_on rs k ≡ None → reg_on (marked f rs) k ≡ None)
        → cond b (Some (record { clock = r.clock; resumed = f r.clock r.resumed })) (reg_on (marked f rs) k) ≡ None
    go true h later = absurd (none-some r (sym h))
    go false h later = later h

pub distinct_marked : (f : ℕ → Option ℕ → Option ℕ) (rs : List Registration) → AreDistinct rs → AreDistinct (marked f rs)
distinct_marked f [] distinct = tt
distinct_marked f (r ∷ rs) distinct = (reg_marked f rs r.clock distinct.0, distinct_marked f rs distinct.1)

-- ---- counting

pub same_numbers : (m n p : ℕ) (c : CountValue) → c.registered ≡ m → c.pending ≡ n → p ≡ c.phase → record { phase = p; registered = m; pending = n } ≡ c
same_numbers m n p c e f g = rw (← e, ← f, g) refl

pub count_same : (s : Standing) (c : CountValue) → count_moved s s c ≡ c
count_same s c = same_numbers (c.registered + one_if (is_registered s) - one_if (is_registered s)) (c.pending + one_if (is_pending s) - one_if (is_pending s)) c.phase c (omega arith) (omega arith) refl

resumed_again : (q p : ℕ) → resumed (standing_at p (Some q)) ≡ standing_at p (Some q)
resumed_again q p = go (q == p)
  where
    go : (b : Bool) → resumed (cond b standing.Signalled standing.Ahead) ≡ cond b standing.Signalled standing.Ahead
    go true = refl
    go false = refl

-- a resume: a call for each open one
resume_by : (test : ℕ → Bool) (k : ℕ) (c : CountValue) (o : Option Registration) → ((r : Registration) → o ≡ Some r → r.clock ≡ k)
    → option_map_or (λ r. call_resume r c) (if_passes (λ r. test r.clock && is_open r) o) c
    ≡ count_moved (option_map_or (λ r. standing_at c.phase r.resumed) o standing.Apart) (resumed_on test k (option_map_or (λ r. standing_at c.phase r.resumed) o standing.Apart)) c
resume_by test k c None clock = sym (rest (test k))
  where
    rest : (b : Bool) → count_moved standing.Apart (cond b standing.Apart standing.Apart) c ≡ c
    rest true = count_same standing.Apart c
    rest false = count_same standing.Apart c
resume_by test k c (Some r) clock = go (test r.clock) (test k) (ap test (clock r refl)) r.resumed
  where
    go : (b d : Bool) → b ≡ d → (m : Option ℕ)
        → option_map_or (λ r. call_resume r c) (cond (b && is_none m) (Some r) None) c
        ≡ count_moved (standing_at c.phase m) (cond d (resumed (standing_at c.phase m)) (standing_at c.phase m)) c
    go true false e m = absurd (grind arith)
    go false true e m = absurd (grind arith)
    go false false e m = sym (count_same (standing_at c.phase m) c)
    go true true e None = sym (same_numbers (c.registered + 1 - 1) (c.pending + 0 - 1) c.phase (record c { pending = c.pending - 1 }) (omega arith) (omega arith) refl)
    go true true e (Some q) = sym (ap (λ s. count_moved (standing_at c.phase (Some q)) s c) (resumed_again q c.phase) ∙ count_same (standing_at c.phase (Some q)) c)

pub resume_between : (test : ℕ → Bool) (rs : List Registration) (k : ℕ) (c : CountValue) → AreDistinct rs
    → option_map_or (λ r. call_resume r c) (reg_on (regs_open test rs) k) c ≡ count_moved (stands rs k c.phase) (resumed_on test k (stands rs k c.phase)) c
resume_between test rs k c distinct =
    rw (reg_where (λ r. test r.clock && is_open r) rs k distinct, stands_reg rs k c.phase) (resume_by test k c (reg_on rs k) (reg_clock rs k))

-- ---- an end of registrations

-- apart on the clocks that pass
abbrev pub left_on : (ℕ → Bool) → ℕ → Standing → Standing
left_on test k s = cond (test k) standing.Apart s

count_left : (p : ℕ) (m : Option ℕ) (c : CountValue) → count_moved (standing_at p m) standing.Apart c ≡ count_dropped (is_pending (standing_at p m)) c
count_left p m c =
    let is : is_registered (standing_at p m) ≡ true = registered_mark p m in
    let one : one_if (is_registered (standing_at p m)) ≡ 1 = ap one_if is in
    same_numbers (c.registered + 0 - one_if (is_registered (standing_at p m))) (c.pending + 0 - one_if (is_pending (standing_at p m))) c.phase
    (count_dropped (is_pending (standing_at p m)) c) (omega arith) (omega arith) refl

leave_by : (test : ℕ → Bool) (k : ℕ) (c : CountValue) (o : Option Registration) → ((r : Registration) → o ≡ Some r → r.clock ≡ k)
    → option_map_or (λ r. call_drop r c) (if_passes (λ r. test r.clock) o) c
    ≡ count_moved (option_map_or (λ r. standing_at c.phase r.resumed) o standing.Apart) (left_on test k (option_map_or (λ r. standing_at c.phase r.resumed) o standing.Apart)) c
leave_by test k c None clock = sym (rest (test k))
  where
    rest : (b : Bool) → count_moved standing.Apart (cond b standing.Apart standing.Apart) c ≡ c
    rest true = count_same standing.Apart c
    rest false = count_same standing.Apart c
leave_by test k c (Some r) clock = go (test r.clock) (test k) (ap test (clock r refl))
  where
    go : (b d : Bool) → b ≡ d
        → option_map_or (λ r. call_drop r c) (cond b (Some r) None) c
        ≡ count_moved (standing_at c.phase r.resumed) (cond d standing.Apart (standing_at c.phase r.resumed)) c
    go true false e = absurd (grind arith)
    go false true e = absurd (grind arith)
    go false false e = sym (count_same (standing_at c.phase r.resumed) c)
    go true true e = sym (count_left c.phase r.resumed c)

pub leave_between : (test : ℕ → Bool) (rs : List Registration) (k : ℕ) (c : CountValue) → AreDistinct rs
    → option_map_or (λ r. call_drop r c) (reg_on (regs_on test rs) k) c ≡ count_moved (stands rs k c.phase) (left_on test k (stands rs k c.phase)) c
leave_between test rs k c distinct =
    rw (reg_where (λ r. test r.clock) rs k distinct, stands_reg rs k c.phase) (leave_by test k c (reg_on rs k) (reg_clock rs k))
