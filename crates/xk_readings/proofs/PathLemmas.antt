-- Which lists stand along paths, each once.
use Rattle.std.proofs.Common.{◌≡◌, ◌∙◌, ℕ, ℤ, zero, suc, ◌<◌, ◌≤◌, ◌⊎◌, inl, inr, Bool, true, false, cond, eqb, List, [], ◌∷◌, ◌++◌}
use Rattle.std.proofs.Common.{eq-eqb, length, map, filter, Option, Some, refl, sym, ap, subst, arith}
use Rattle.std.specs.Option.{option_to_list}
use Rattle.std.proofs.lemmas.Bool.{cases_lt, true≢false}
use Rattle.std.proofs.lemmas.Bool.Decides.{eqb_tells}
use Rattle.std.proofs.lemmas.List.{length_push}
use Rattle.xk_readings.specs.declared.edge.Edge.{Edge}
use Rattle.xk_readings.specs.Automata.{AreForked}
use Rattle.xk_readings.specs.Paths.{Path, all_extended, extended, is_over, lists_below, longer, over_of, paths_of}
use Rattle.xk_readings.specs.Sets.{AreDifferent, Has}
use Rattle.xk_readings.proofs.SetLemmas.{different_append, has_append, has_left, has_right}

-- ---- what is among paths

-- it is one of the others, with the move
abbrev pub IsLonger : Edge → List Path → Path → Type 0
IsLonger e ps q = (p : Path) × Has ps p × (p.node ≡ e.from) × (q ≡ longer e p)

longer_of : (e : Edge) (ps : List Path) (q : Path) → Has (extended e ps) q → IsLonger e ps q
longer_of e [] q h = absurd h
longer_of e (p ∷ ps) q h = by (longer_of e ps q) (eqb_tells p.node e.from)
  where
    later : (Has (extended e ps) q → IsLonger e ps q) → Has (extended e ps) q → IsLonger e (p ∷ ps) q
    later rest has = (let was = rest has in (was.0, inr was.1, was.2, was.3))

    at : (Has (extended e ps) q → IsLonger e ps q) → (b : Bool) → (b ≡ true → p.node ≡ e.from)
        → Has (cond b (longer e p ∷ extended e ps) (extended e ps)) q
        → IsLonger e (p ∷ ps) q
    at rest true same (inl is) = (p, inl refl, same refl, is)
    at rest true same (inr has) = later rest has
    at rest false same has = later rest has

    by : (Has (extended e ps) q → IsLonger e ps q) → ((eqb p.node e.from ≡ true) × (p.node ≡ e.from))
        ⊎ ((eqb p.node e.from ≡ false) × (p.node ≡ e.from → ⊥)) → IsLonger e (p ∷ ps) q
    by rest (inl same) = at rest (eqb p.node e.from) (λ _. same.1) h
    by rest (inr other) = at rest (eqb p.node e.from) (λ yes'. absurd (true≢false (sym yes' ∙ other.0))) h

has_longer : (e : Edge) (ps : List Path) (p : Path) → Has ps p → p.node ≡ e.from → Has (extended e ps) (longer e p)
has_longer e [] p h same = absurd h
has_longer e (q ∷ ps) p (inl is) same =
    let test : eqb q.node e.from ≡ true = eq-eqb q.node e.from (ap (λ (z : Path). z.node) (sym is) ∙ same) in
    subst (λ (b : Bool). Has (cond b (longer e q ∷ extended e ps) (extended e ps)) (longer e p)) (sym test) (inl (ap (longer e) is))
has_longer e (q ∷ ps) p (inr later) same = at (eqb q.node e.from) (has_longer e ps p later same)
  where
    at : (b : Bool) → Has (extended e ps) (longer e p) → Has (cond b (longer e q ∷ extended e ps) (extended e ps)) (longer e p)
    at true rest = inr rest
    at false rest = rest

pub all_of : (moves : List Edge) (ps : List Path) (q : Path) → Has (all_extended moves ps) q → (e : Edge) × Has moves e × IsLonger e ps q
all_of [] ps q h = absurd h
all_of (e ∷ moves) ps q h = by (all_of moves ps q) (has_append (extended e ps) (all_extended moves ps) q h)
  where
    by : (Has (all_extended moves ps) q → (f : Edge) × Has moves f × IsLonger f ps q) → Has (extended e ps) q ⊎ Has (all_extended moves ps) q
        → (f : Edge) × Has (e ∷ moves) f × IsLonger f ps q
    by rest (inl a) = (e, inl refl, longer_of e ps q a)
    by rest (inr b) = (let was = rest b in (was.0, inr was.1, was.2))

pub has_all : (moves : List Edge) (ps : List Path) (e : Edge) (p : Path) → Has moves e → Has ps p → p.node ≡ e.from
    → Has (all_extended moves ps) (longer e p)
has_all [] ps e p h there same = absurd h
has_all (f ∷ moves) ps e p (inl is) there same =
    has_left (extended f ps) (all_extended moves ps) (longer e p)
    (subst (λ (g : Edge). Has (extended g ps) (longer e p)) is (has_longer e ps p there same))
has_all (f ∷ moves) ps e p (inr later) there same =
    has_right (extended f ps) (all_extended moves ps) (longer e p) (has_all moves ps e p later there same)

-- ---- those that are over

pub over_path : (ends : List Bool) (ps : List Path) (numbers : List ℤ) → Has (over_of ends ps) numbers
    → (p : Path) × Has ps p × (is_over ends p ≡ true) × (p.numbers ≡ numbers)
over_path ends [] numbers h = absurd h
over_path ends (p ∷ ps) numbers h = at (over_path ends ps numbers) (is_over ends p) refl h
  where
    later : (Has (over_of ends ps) numbers → (q : Path) × Has ps q × (is_over ends q ≡ true) × (q.numbers ≡ numbers)) → Has (over_of ends ps) numbers
        → (q : Path) × Has (p ∷ ps) q × (is_over ends q ≡ true) × (q.numbers ≡ numbers)
    later rest has = (let was = rest has in (was.0, inr was.1, was.2, was.3))

    at : (Has (over_of ends ps) numbers → (q : Path) × Has ps q × (is_over ends q ≡ true) × (q.numbers ≡ numbers)) → (b : Bool) → is_over ends p ≡ b
        → Has (map (λ (p : Path). p.numbers) (cond b (p ∷ filter (is_over ends) ps) (filter (is_over ends) ps))) numbers
        → (q : Path) × Has (p ∷ ps) q × (is_over ends q ≡ true) × (q.numbers ≡ numbers)
    at rest true over (inl is) = (p, inl refl, over, sym is)
    at rest true over (inr has) = later rest has
    at rest false over has = later rest has

pub has_over : (ends : List Bool) (ps : List Path) (p : Path) → Has ps p → is_over ends p ≡ true → Has (over_of ends ps) p.numbers
has_over ends [] p h over = absurd h
has_over ends (q ∷ ps) p (inl is) over =
    let test : is_over ends q ≡ true = ap (is_over ends) (sym is) ∙ over in
    subst (λ (b : Bool). Has (map (λ (p : Path). p.numbers) (cond b (q ∷ filter (is_over ends) ps) (filter (is_over ends) ps))) p.numbers) (sym test)
    (inl (ap (λ (z : Path). z.numbers) is))
has_over ends (q ∷ ps) p (inr later) over = at (is_over ends q) (has_over ends ps p later over)
  where
    at : (b : Bool) → Has (over_of ends ps) p.numbers
        → Has (map (λ (p : Path). p.numbers) (cond b (q ∷ filter (is_over ends) ps) (filter (is_over ends) ps))) p.numbers
    at true rest = inr rest
    at false rest = rest

-- which are read along fewer moves
pub below_of : (moves : List Edge) (ends : List Bool) (n : ℕ) (numbers : List ℤ) → Has (lists_below moves ends n) numbers
    → (k : ℕ) × (k < n) × Has (over_of ends (paths_of moves k)) numbers
below_of moves ends zero numbers h = absurd h
below_of moves ends (suc n) numbers h = by (below_of moves ends n numbers)
    (has_append (lists_below moves ends n) (over_of ends (paths_of moves n)) numbers h)
  where
    by : (Has (lists_below moves ends n) numbers → (k : ℕ) × (k < n) × Has (over_of ends (paths_of moves k)) numbers)
        → Has (lists_below moves ends n) numbers ⊎ Has (over_of ends (paths_of moves n)) numbers
        → (k : ℕ) × (k < suc n) × Has (over_of ends (paths_of moves k)) numbers
    by rest (inl a) = (let was = rest a in let less = was.1 in (was.0, omega (arith, less), was.2))
    by rest (inr b) = (n, omega arith, b)

pub has_below : (moves : List Edge) (ends : List Bool) (n k : ℕ) (numbers : List ℤ) → k < n → Has (over_of ends (paths_of moves k)) numbers
    → Has (lists_below moves ends n) numbers
has_below moves ends zero k numbers less h = absurd (omega (arith, less))
has_below moves ends (suc n) k numbers less h = by (has_below moves ends n k numbers) (cases_lt k n)
  where
    by : (k < n → Has (over_of ends (paths_of moves k)) numbers → Has (lists_below moves ends n) numbers) → (k < n) ⊎ (n ≤ k)
        → Has (lists_below moves ends (suc n)) numbers
    by rest (inl before) = has_left (lists_below moves ends n) (over_of ends (paths_of moves n)) numbers (rest before h)
    by rest (inr behind) =
        let same : k ≡ n = omega (arith, less, behind) in
        has_right (lists_below moves ends n) (over_of ends (paths_of moves n)) numbers
        (subst (λ m. Has (over_of ends (paths_of moves m)) numbers) same h)

-- ---- each once

-- each move prints a number
abbrev pub AreLoud : List Edge → Type 0
AreLoud moves = (e : Edge) → Has moves e → (x : ℤ) × (e.printed ≡ Some x)

abbrev numbers_all : List Path → List (List ℤ)
numbers_all ps = map (λ (p : Path). p.numbers) ps

has_numbers : (ps : List Path) (p : Path) → Has ps p → Has (numbers_all ps) p.numbers
has_numbers [] p h = absurd h
has_numbers (q ∷ ps) p (inl is) = inl (ap (λ (z : Path). z.numbers) is)
has_numbers (q ∷ ps) p (inr later) = inr (has_numbers ps p later)

path_of : (ps : List Path) (numbers : List ℤ) → Has (numbers_all ps) numbers → (p : Path) × Has ps p × (p.numbers ≡ numbers)
path_of [] numbers h = absurd h
path_of (p ∷ ps) numbers (inl is) = (p, inl refl, sym is)
path_of (p ∷ ps) numbers (inr later) = (let was = path_of ps numbers later in (was.0, inr was.1, was.2))

-- of the same numbers there is one path
one_path : (ps : List Path) (p q : Path) → AreDifferent (numbers_all ps) → Has ps p → Has ps q → p.numbers ≡ q.numbers → p ≡ q
one_path [] p q are h k same = absurd h
one_path (z ∷ ps) p q are (inl a) (inl b) same = a ∙ sym b
one_path (z ∷ ps) p q are (inl a) (inr b) same =
    absurd (are.0 (subst (Has (numbers_all ps)) (sym same ∙ ap (λ (z : Path). z.numbers) a) (has_numbers ps q b)))
one_path (z ∷ ps) p q are (inr a) (inl b) same =
    absurd (are.0 (subst (Has (numbers_all ps)) (same ∙ ap (λ (z : Path). z.numbers) b) (has_numbers ps p a)))
one_path (z ∷ ps) p q are (inr a) (inr b) same = one_path ps p q are.1 a b same

head_same : (x y : ℤ) (xs ys : List ℤ) → x ∷ xs ≡ y ∷ ys → x ≡ y
head_same x y xs ys h = cc

tail_same : (x y : ℤ) (xs ys : List ℤ) → x ∷ xs ≡ y ∷ ys → xs ≡ ys
tail_same x y xs ys h = cc

never_empty : (xs : List ℤ) (x : ℤ) → [] ≡ xs ++ x ∷ [] → ⊥
never_empty xs x h = (let count = ap length h in let more = length_push xs x in omega (arith, count, more))

-- lists with a number behind them are the same where these are
pub push_same : (xs ys : List ℤ) (x y : ℤ) → xs ++ x ∷ [] ≡ ys ++ y ∷ [] → (xs ≡ ys) × (x ≡ y)
push_same [] [] x y same = (refl, head_same x y [] [] same)
push_same [] (z ∷ ys) x y same = absurd (never_empty ys y (tail_same x z [] (ys ++ y ∷ []) same))
push_same (z ∷ xs) [] x y same = absurd (never_empty xs x (sym (tail_same z y (xs ++ x ∷ []) [] same)))
push_same (z ∷ xs) (w ∷ ys) x y same =
    let rest = push_same xs ys x y (tail_same z w (xs ++ x ∷ []) (ys ++ y ∷ []) same) in
    (ap (λ v. v ∷ xs) (head_same z w (xs ++ x ∷ []) (ys ++ y ∷ []) same) ∙ ap (λ (l : List ℤ). w ∷ l) rest.0, rest.1)

-- so are paths with one move, and with two moves that print
longer_same : (e f : Edge) (p q : Path) (x y : ℤ) → e.printed ≡ Some x → f.printed ≡ Some y → (longer e p).numbers ≡ (longer f q).numbers
    → (p.numbers ≡ q.numbers) × (e.printed ≡ f.printed)
longer_same e f p q x y prints prints' same =
    let is = push_same p.numbers q.numbers x y
    (ap (λ (o : Option ℤ). p.numbers ++ option_to_list o) (sym prints) ∙ same ∙ ap (λ (o : Option ℤ). q.numbers ++ option_to_list o) prints') in
    (is.0, prints ∙ ap Some is.1 ∙ sym prints')

different_extended : (e : Edge) (x : ℤ) (ps : List Path) → e.printed ≡ Some x → AreDifferent (numbers_all ps)
    → AreDifferent (numbers_all (extended e ps))
different_extended e x [] prints are = tt
different_extended e x (p ∷ ps) prints are = at (eqb p.node e.from) (different_extended e x ps prints are.1)
  where
    first : Has (numbers_all (extended e ps)) (longer e p).numbers → ⊥
    first h =
        let q = path_of (extended e ps) (longer e p).numbers h in
        let l = longer_of e ps q.0 q.1 in
        let same = longer_same e e l.0 p x x prints prints (ap (λ (z : Path). z.numbers) (sym l.3) ∙ q.2) in
        are.0 (subst (Has (numbers_all ps)) same.0 (has_numbers ps l.0 l.1))

    at : (b : Bool) → AreDifferent (numbers_all (extended e ps)) → AreDifferent (numbers_all (cond b (longer e p ∷ extended e ps) (extended e ps)))
    at true rest = (first, rest)
    at false rest = rest

map_append : (ps qs : List Path) → numbers_all (ps ++ qs) ≡ numbers_all ps ++ numbers_all qs
map_append [] qs = refl
map_append (p ∷ ps) qs = ap (λ (l : List (List ℤ)). p.numbers ∷ l) (map_append ps qs)

different_all : (moves : List Edge) (ps : List Path) → AreLoud moves → AreForked moves → AreDifferent (numbers_all ps)
    → AreDifferent (numbers_all (all_extended moves ps))
different_all [] ps loud forked are = tt
different_all (e ∷ moves) ps loud forked are =
    subst AreDifferent (sym (map_append (extended e ps) (all_extended moves ps)))
    (different_append (numbers_all (extended e ps)) (numbers_all (all_extended moves ps))
    (different_extended e (loud e (inl refl)).0 ps (loud e (inl refl)).1 are)
    (different_all moves ps (λ f h. loud f (inr h)) forked.1 are) apart)
  where
    apart : (numbers : List ℤ) → Has (numbers_all (extended e ps)) numbers → Has (numbers_all (all_extended moves ps)) numbers → ⊥
    apart numbers h k =
        let q = path_of (extended e ps) numbers h in
        let r = path_of (all_extended moves ps) numbers k in
        let l = longer_of e ps q.0 q.1 in
        let a = all_of moves ps r.0 r.1 in
        let f = a.0 in
        let m = a.2 in
        let x = loud e (inl refl) in
        let y = loud f (inr a.1) in
        let same = longer_same f e m.0 l.0 y.0 x.0 y.1 x.1 (ap (λ (z : Path). z.numbers) (sym m.3) ∙ r.2 ∙ sym q.2
        ∙ ap (λ (z : Path). z.numbers) l.3) in
        let one = one_path ps m.0 l.0 are m.1 l.1 same.0 in
        forked.0 f a.1 (sym m.2 ∙ ap (λ (z : Path). z.node) one ∙ l.2) same.1

different_paths : (moves : List Edge) (n : ℕ) → AreLoud moves → AreForked moves → AreDifferent (numbers_all (paths_of moves n))
different_paths moves zero loud forked = (λ h. h, tt)
different_paths moves (suc n) loud forked = different_all moves (paths_of moves n) loud forked (different_paths moves n loud forked)

different_over : (ends : List Bool) (ps : List Path) → AreDifferent (numbers_all ps) → AreDifferent (over_of ends ps)
different_over ends [] are = tt
different_over ends (p ∷ ps) are = at (is_over ends p) (different_over ends ps are.1)
  where
    first : Has (over_of ends ps) p.numbers → ⊥
    first h =
        let q = over_path ends ps p.numbers h in
        are.0 (subst (Has (numbers_all ps)) q.3 (has_numbers ps q.0 q.1))

    at : (b : Bool) → AreDifferent (over_of ends ps) → AreDifferent (map (λ (p : Path). p.numbers) (cond b (p ∷ filter (is_over ends) ps)
        (filter (is_over ends) ps)))
    at true rest = (first, rest)
    at false rest = rest

-- a path has as many numbers as moves
long_paths : (moves : List Edge) (n : ℕ) (p : Path) → AreLoud moves → Has (paths_of moves n) p → length p.numbers ≡ n
long_paths moves zero p loud (inl is) = ap (λ (z : Path). length z.numbers) is
long_paths moves zero p loud (inr none) = absurd none
long_paths moves (suc n) p loud h =
    let a = all_of moves (paths_of moves n) p h in
    let l = a.2 in
    let rest = long_paths moves n l.0 loud l.1 in
    let x = loud a.0 a.1 in
    let longer' = ap (λ (z : Path). length z.numbers) l.3 ∙ ap (λ (o : Option ℤ). length (l.0.numbers ++ option_to_list o)) x.1 in
    let more = length_push l.0.numbers x.0 in
    omega (arith, rest, longer', more)

pub different_lists : (moves : List Edge) (ends : List Bool) (n : ℕ) → AreLoud moves → AreForked moves → AreDifferent (lists_below moves ends n)
different_lists moves ends zero loud forked = tt
different_lists moves ends (suc n) loud forked =
    different_append (lists_below moves ends n) (over_of ends (paths_of moves n)) (different_lists moves ends n loud forked)
    (different_over ends (paths_of moves n) (different_paths moves n loud forked)) apart
  where
    apart : (numbers : List ℤ) → Has (lists_below moves ends n) numbers → Has (over_of ends (paths_of moves n)) numbers → ⊥
    apart numbers h k =
        let b = below_of moves ends n numbers h in
        let less = b.1 in
        let p = over_path ends (paths_of moves b.0) numbers b.2 in
        let q = over_path ends (paths_of moves n) numbers k in
        let short = long_paths moves b.0 p.0 loud p.1 in
        let long = long_paths moves n q.0 loud q.1 in
        let same = ap length (p.3 ∙ sym q.3) in
        omega (arith, less, short, long, same)
