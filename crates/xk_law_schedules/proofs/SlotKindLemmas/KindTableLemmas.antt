-- The table of kinds: what its rows give where they don't refuse, and how changes of standings move kinds.
use Rattle.std.proofs.Common.{◌≡◌, ℕ, Bool, true, false, ◌==◌, List, [], ◌∷◌, inl, inr, cond, refl, sym, ap, ◌∙◌, subst, arith, eqb-true, eq-eqb, ne_eqb}
use Rattle.std.proofs.lemmas.Bool.{eqb-false, or_cases}
use Rattle.xk_types.specs.declared.world.Standing.{Standing}
use Rattle.xk_types.specs.declared.world.Standing.TheVariants as standing
use Rattle.xk_types.specs.declared.rules.Rule.TheVariants as rule
use Rattle.xk_types.specs.declared.rules.Kind.{Kind}
use Rattle.xk_types.specs.declared.rules.Kind.TheVariants as kind
use Rattle.xk_types.specs.declared.unit.ParamKind.{ParamKind}
use Rattle.xk_types.specs.declared.unit.ParamKind.TheVariants as param
use Rattle.xk_types.specs.Order.{Has}
use Rattle.xk_types.specs.Step.{is_signalled, resumed, passed, only}
use Rattle.xk_types.specs.Walk.{After, MayBecome, becomes, as_number, as_clock, overwritten, let_go, awake, reads, writes, uses, hands_on, gives, is_lent}
use Rattle.xk_law_schedules.proofs.Invariant.{kind_by, is_held}
use Rattle.xk_law_schedules.proofs.SlotKindLemmas.WalkLemmas.{Allowed}

-- ---- rows

-- a number is read
number_row : (k : Kind) (go : After) → Allowed (as_number k go) → (k ≡ kind.Number) × (as_number k go ≡ go)
number_row kind.Unset go h = absurd (h rule.Use refl)
number_row kind.Number go h = (refl, refl)
number_row kind.Live go h = absurd (h rule.Use refl)
number_row kind.Resumed go h = absurd (h rule.Use refl)
number_row kind.Out go h = absurd (h rule.Use refl)

-- a clock is used
clock_row : (k : Kind) (go : After) → Allowed (as_clock k go) → (is_held k ≡ true) × (as_clock k go ≡ go)
clock_row kind.Unset go h = absurd (h rule.Use refl)
clock_row kind.Number go h = absurd (h rule.Use refl)
clock_row kind.Live go h = (refl, refl)
clock_row kind.Resumed go h = (refl, refl)
clock_row kind.Out go h = absurd (h rule.Use refl)

-- nothing that is held is overwritten
pub over_row : (k : Kind) (go : After) → Allowed (overwritten k go) → (is_held k ≡ false) × (overwritten k go ≡ go)
over_row kind.Unset go h = (refl, refl)
over_row kind.Number go h = (refl, refl)
over_row kind.Live go h = absurd (h rule.Leak refl)
over_row kind.Resumed go h = absurd (h rule.Leak refl)
over_row kind.Out go h = (refl, refl)

-- nothing that is held is there at the end of its home
pub let_go_row : (k : Kind) → Allowed (let_go k (becomes k)) → MayBecome (let_go k (becomes k)) k
let_go_row kind.Unset h = inl refl
let_go_row kind.Number h = inl refl
let_go_row kind.Live h = absurd (h rule.Held refl)
let_go_row kind.Resumed h = absurd (h rule.Held refl)
let_go_row kind.Out h = inl refl

pub let_go_held : (k : Kind) → Allowed (let_go k (becomes k)) → is_held k ≡ false
let_go_held kind.Unset h = refl
let_go_held kind.Number h = refl
let_go_held kind.Live h = absurd (h rule.Held refl)
let_go_held kind.Resumed h = absurd (h rule.Held refl)
let_go_held kind.Out h = refl

-- an instruction that reads slot x goes on, and finds a number there
pub reads_row : (x s : ℕ) (k : Kind) (go : After) → Allowed (reads x s k go) → (s ≡ x → k ≡ kind.Number) × (reads x s k go ≡ go)
reads_row x s k go h = cases (s == x) refl h
  where
    cases : (b : Bool) → (s == x) ≡ b → Allowed (cond b (as_number k go) go) → (s ≡ x → k ≡ kind.Number) × (cond b (as_number k go) go ≡ go)
    cases true e g = let r = number_row k go g in (λ same. r.0, r.1)
    cases false e g = (λ same. absurd (eqb-false s x e same), refl)

-- one that writes slot d leaves the new kind there, over one that isn't held, and all others
pub record IsWritten (row : After) (d : ℕ) (new : Kind) (s : ℕ) (k : Kind) : Type 0 where
  pub here : s ≡ d → (is_held k ≡ false) × MayBecome row new
  pub other : (s ≡ d → ⊥) → MayBecome row k

-- where the row of a write doesn't refuse
pub writes_row : (d : ℕ) (new : Kind) (s : ℕ) (k : Kind) → Allowed (writes d new s k) → IsWritten (writes d new s k) d new s k
writes_row d new s k h = let r = cases (s == d) refl h in record { here = r.0; other = r.1 }
  where
    cases : (b : Bool) → (s == d) ≡ b → Allowed (cond b (overwritten k (becomes new)) (becomes k))
        → (s ≡ d → (is_held k ≡ false) × MayBecome (cond b (overwritten k (becomes new)) (becomes k)) new)
        × ((s ≡ d → ⊥) → MayBecome (cond b (overwritten k (becomes new)) (becomes k)) k)
    cases true e g = let r = over_row k (becomes new) g in
        (λ same. (r.0, subst (λ z. MayBecome z new) (sym r.1) (inl refl)), λ differs. absurd (differs (eqb-true s d e)))
    cases false e g = (λ same. absurd (eqb-false s d e same), λ differs. inl refl)

-- one that uses the clock in slot c leaves the new kind there, after one that is held, and all others
pub record IsUsed (row : After) (c : ℕ) (new : Kind) (s : ℕ) (k : Kind) : Type 0 where
  pub here : s ≡ c → (is_held k ≡ true) × MayBecome row new
  pub other : (s ≡ c → ⊥) → MayBecome row k

-- where the row of a use doesn't refuse
pub uses_row : (c : ℕ) (new : Kind) (s : ℕ) (k : Kind) → Allowed (uses c new s k) → IsUsed (uses c new s k) c new s k
uses_row c new s k h = let r = cases (s == c) refl h in record { here = r.0; other = r.1 }
  where
    cases : (b : Bool) → (s == c) ≡ b → Allowed (cond b (as_clock k (becomes new)) (becomes k))
        → (s ≡ c → (is_held k ≡ true) × MayBecome (cond b (as_clock k (becomes new)) (becomes k)) new)
        × ((s ≡ c → ⊥) → MayBecome (cond b (as_clock k (becomes new)) (becomes k)) k)
    cases true e g = let r = clock_row k (becomes new) g in
        (λ same. (r.0, subst (λ z. MayBecome z new) (sym r.1) (inl refl)), λ differs. absurd (differs (eqb-true s c e)))
    cases false e g = (λ same. absurd (eqb-false s c e same), λ differs. inl refl)

-- an instruction that hands on the clock in slot x goes on, and finds one there that is held
pub hands_row : (x s : ℕ) (k : Kind) (go : After) → Allowed (hands_on x s k go) → (s ≡ x → is_held k ≡ true) × (hands_on x s k go ≡ go)
hands_row x s k go h = cases (s == x) refl h
  where
    cases : (b : Bool) → (s == x) ≡ b → Allowed (cond b (as_clock k go) go) → (s ≡ x → is_held k ≡ true) × (cond b (as_clock k go) go ≡ go)
    cases true e g = let r = clock_row k go g in (λ same. r.0, r.1)
    cases false e g = (λ same. absurd (eqb-false s x e same), refl)

-- one that gives arguments goes on
pub gives_row : (ps : List ParamKind) (xs : List ℕ) (s : ℕ) (k : Kind) (go : After) → Allowed (gives ps xs s k go) → gives ps xs s k go ≡ go
gives_row [] xs s k go h = refl
gives_row (p ∷ ps) [] s k go h = refl
gives_row (param.Number ∷ ps) (x ∷ xs) s k go h =
    let r = reads_row x s k (gives ps xs s k go) h in
    r.1 ∙ gives_row ps xs s k go (subst Allowed r.1 h)
gives_row (param.Clock ∷ ps) (x ∷ xs) s k go h =
    let r = hands_row x s k (gives ps xs s k go) h in
    r.1 ∙ gives_row ps xs s k go (subst Allowed r.1 h)

-- and what is lent is held
pub gives_held : (ps : List ParamKind) (xs : List ℕ) (s : ℕ) (k : Kind) (go : After) → Allowed (gives ps xs s k go) → is_lent ps xs s ≡ true → is_held k ≡ true
gives_held [] xs s k go h e = absurd (grind arith)
gives_held (p ∷ ps) [] s k go h e = absurd (grind arith)
gives_held (param.Number ∷ ps) (x ∷ xs) s k go h e =
    gives_held ps xs s k go (subst Allowed (reads_row x s k (gives ps xs s k go) h).1 h) e
gives_held (param.Clock ∷ ps) (x ∷ xs) s k go h e =
    let r = hands_row x s k (gives ps xs s k go) h in
    elim (or_cases (x == s) (is_lent ps xs s) e) [
      | inl here ↦ r.0 (sym (eqb-true x s here))
      | inr later ↦ gives_held ps xs s k go (subst Allowed r.1 h) later
    ]

-- ---- changes

-- after a resume a clock that was held is resumed
pub resumed_kind : (s : Standing) → is_held (kind_by s) ≡ true → kind_by (resumed s) ≡ kind.Resumed
resumed_kind standing.Apart h = absurd (grind arith)
resumed_kind standing.Open h = refl
resumed_kind standing.Signalled h = refl
resumed_kind standing.Ahead h = refl

-- a resume holds what was held
pub resumed_held : (s : Standing) → is_held (kind_by (resumed s)) ≡ true → is_held (kind_by s) ≡ true
resumed_held standing.Apart h = h
resumed_held standing.Open h = refl
resumed_held standing.Signalled h = refl
resumed_held standing.Ahead h = refl

-- a pass holds what was held
pub passed_held : (s : Standing) → is_held (kind_by (passed s)) ≡ true → is_held (kind_by s) ≡ true
passed_held standing.Apart h = h
passed_held standing.Open h = refl
passed_held standing.Signalled h = refl
passed_held standing.Ahead h = refl

-- a resume changes nothing of what the pass will leave
pub resumed_awake : (s : Standing) → awake (kind_by (resumed s)) ≡ awake (kind_by s)
resumed_awake standing.Apart = refl
resumed_awake standing.Open = refl
resumed_awake standing.Signalled = refl
resumed_awake standing.Ahead = refl

-- a pass leaves it, where the activity is signalled nowhere
pub passed_awake : (s : Standing) → is_signalled s ≡ false → kind_by (passed s) ≡ awake (kind_by s)
passed_awake standing.Apart h = refl
passed_awake standing.Open h = refl
passed_awake standing.Signalled h = absurd (grind arith)
passed_awake standing.Ahead h = refl

-- a clock that is held is live or resumed
pub held_entry : (s : Standing) → is_held (kind_by s) ≡ true → Has (kind.Live ∷ kind.Resumed ∷ []) (kind_by s)
held_entry standing.Apart h = absurd (grind arith)
held_entry standing.Open h = inl refl
held_entry standing.Signalled h = inr (inl refl)
held_entry standing.Ahead h = inr (inl refl)

-- a change of one clock alone
pub only_here : (c : ℕ) (f : Standing → Standing) (s : Standing) → only c f c s ≡ f s
only_here c f s = ap (λ b. cond b (f s) s) (eq-eqb c c refl)

-- all others stay
pub only_other : (c : ℕ) (f : Standing → Standing) (k : ℕ) (s : Standing) → (k ≡ c → ⊥) → only c f k s ≡ s
only_other c f k s h = ap (λ b. cond b (f s) s) (ne_eqb k c h)

-- one that holds nothing new
pub only_held : (c : ℕ) (f : Standing → Standing) → ((s : Standing) → is_held (kind_by (f s)) ≡ true → is_held (kind_by s) ≡ true)
    → (k : ℕ) (s : Standing) → is_held (kind_by (only c f k s)) ≡ true → is_held (kind_by s) ≡ true
only_held c f keeps k s h = cases (k == c) h
  where
    cases : (b : Bool) → is_held (kind_by (cond b (f s) s)) ≡ true → is_held (kind_by s) ≡ true
    cases true g = keeps s g
    cases false g = g
