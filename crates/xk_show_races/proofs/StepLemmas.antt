-- The steps of races, as the code keeps them, are those among the steps of the run.
use Rattle.std.proofs.Common.{◌≡◌, ◌∙◌, ℕ, ℤ, ◌+◌, ◌<◌, ◌≤◌, Bool, true, false, true≢false, ◌||◌, List, [], ◌∷◌, ◌++◌, length, take, get_or}
use Rattle.std.proofs.Common.{Option, Some, None, refl, sym, ap, eq-eqb, arith}
use Rattle.std.specs.Prelude.{cond, flat_map, is_some, nat_eq, if◌then◌else◌}
use Rattle.std.specs.List.{list_any}
use Rattle.std.specs.Option.{option_or}
use Rattle.std.specs.declared.cmp.Ordering.TheVariants.{Less, Equal, Greater}
use Rattle.std.specs.Ordering.{is_lt, nat_cmp}
use Rattle.std.specs.BTreeMap.{BTreeMap, get}
use Rattle.std.specs.BTreeMap as tree
use Rattle.std.specs.BTreeMap.{is_at}
use Rattle.std.specs.BTreeSet.{BTreeSet, IsUpperBound, Updates, btree_set_len, contains}
use Rattle.std.proofs.lemmas.Bool.{eqb-true, lt-ltb}
use Rattle.std.proofs.lemmas.List.{append-nil, take_more}
use Rattle.std.proofs.lemmas.Grind.{flat_map-append}
use Rattle.std.proofs.lemmas.List.Folds.{find-append, list_any-append}
use Rattle.xk_types.specs.declared.world.Entry.{Entry}
use Rattle.xk_types.specs.Code.{ModuleValue}
use Rattle.xk_types.specs.World.{opening}
use Rattle.xk_types.specs.Logs.{schedule_of}
use Rattle.xk_types.specs.Schedule.{is_local}
use Rattle.xk_show_events.specs.Events.{PlacesValue}
use Rattle.xk_show_events.specs.Steps.{IsSilentAfter}
use Rattle.xk_show_names.specs.declared.accounts.Account.{Account}
use Rattle.xk_show_names.specs.Accounts.{account, account_if_seen, recounted_by, seen_accounts, tell_seen_accounts}
use Rattle.xk_show_names.specs.ClockNames.{NamesValue}
use Rattle.xk_show_names.proofs.BirthLemmas.{told_of_told}
use Rattle.xk_races.specs.declared.pairs.Race.{Race}
use Rattle.xk_races.proofs.ToldPlaceLemmas.{tied}
use Rattle.xk_show_races.specs.Accounts.{AreByNumber, AreNumbers, AreRacing, account_if_among, accounts_among, is_of, is_of_any, kept_lines}
use Rattle.xk_show_races.specs.Text.{account_of, pair_lines, race_lines}

-- ---- the numbers of races

either_side : (e f c : Bool) → cond f true (cond e true c) ≡ (c || (e || f))
either_side true true true = refl
either_side true true false = refl
either_side true false true = refl
either_side true false false = refl
either_side false true true = refl
either_side false true false = refl
either_side false false true = refl
either_side false false false = refl

pub numbers_added : (old mid new : BTreeSet ℕ) (r : Race) → Updates nat_cmp old mid r.first.number true
    → Updates nat_cmp mid new r.second.number true → (n : ℕ) → contains nat_cmp new n ≡ (contains nat_cmp old n || is_of r n)
numbers_added old mid new r one two n =
    two.0 n ∙ ap (λ b. cond b true (contains nat_cmp mid n)) (tied r.second.number n)
    ∙ ap (λ b. cond (nat_eq n r.second.number) true b) (one.0 n ∙ ap (λ b. cond b true (contains nat_cmp old n)) (tied r.first.number n))
    ∙ either_side (nat_eq n r.first.number) (nat_eq n r.second.number) (contains nat_cmp old n)

or_false : (b : Bool) → (b || false) ≡ b
or_false true = refl
or_false false = refl

-- one race more
pub numbers_more : (old new : BTreeSet ℕ) (races : List Race) (i : ℕ) (z : Race) → i < length races → AreNumbers old (take i races)
    → ((n : ℕ) → contains nat_cmp new n ≡ (contains nat_cmp old n || is_of (get_or races i z) n)) → AreNumbers new (take (i + 1) races)
numbers_more old new races i z inside are more n =
    more n ∙ ap (λ b. b || is_of (get_or races i z) n) (are n)
    ∙ ap (λ b. is_of_any (take i races) n || b) (sym (or_false (is_of (get_or races i z) n)))
    ∙ sym (ap (λ l. is_of_any l n) (take_more races i z inside) ∙ list_any-append (λ r. is_of r n) (take i races) (get_or races i z ∷ []))

-- ---- steps by their numbers

or_none : (o : Option Account) → o ≡ option_or o None
or_none (Some a) = refl
or_none None = refl

-- a step whose number is there already changes nothing
pub found_already : (map : BTreeMap ℕ Account) (a : Account) → is_some (get nat_cmp map a.step.number) ≡ true → (n : ℕ)
    → get nat_cmp map n ≡ option_or (get nat_cmp map n) (if nat_eq n a.step.number then Some a else None)
found_already map a there n = of (nat_eq n a.step.number) refl
  where
    stays : (o : Option Account) → is_some o ≡ true → o ≡ option_or o (Some a)
    stays (Some y) h = refl
    stays None h = cc

    of : (b : Bool) → nat_eq n a.step.number ≡ b → get nat_cmp map n ≡ option_or (get nat_cmp map n) (if b then Some a else None)
    of true e = stays (get nat_cmp map n) (ap (λ k. is_some (get nat_cmp map k)) (eqb-true n a.step.number e) ∙ there)
    of false e = or_none (get nat_cmp map n)

-- one that wasn't there is
pub found_new : (old new : BTreeMap ℕ Account) (a : Account) → is_some (get nat_cmp old a.step.number) ≡ false
    → tree.Updates nat_cmp old new a.step.number (Some a) → (n : ℕ)
    → get nat_cmp new n ≡ option_or (get nat_cmp old n) (if nat_eq n a.step.number then Some a else None)
found_new old new a lacks more n =
    more.0 n ∙ ap (λ b. cond b (Some a) (get nat_cmp old n)) (tied a.step.number n) ∙ of (nat_eq n a.step.number) refl
  where
    comes : (o : Option Account) → is_some o ≡ false → Some a ≡ option_or o (Some a)
    comes (Some y) h = cc
    comes None h = refl

    of : (b : Bool) → nat_eq n a.step.number ≡ b
        → cond b (Some a) (get nat_cmp old n) ≡ option_or (get nat_cmp old n) (if b then Some a else None)
    of true e = comes (get nat_cmp old n) (ap (λ k. is_some (get nat_cmp old k)) (eqb-true n a.step.number e) ∙ lacks)
    of false e = or_none (get nat_cmp old n)

-- one step more
pub found_more : (old new : BTreeMap ℕ Account) (steps : List Account) (i : ℕ) (z : Account) → i < length steps
    → AreByNumber old (take i steps) → ((n : ℕ)
    → get nat_cmp new n ≡ option_or (get nat_cmp old n) (if nat_eq n (get_or steps i z).step.number then Some (get_or steps i z) else None))
    → AreByNumber new (take (i + 1) steps)
found_more old new steps i z inside are more n =
    more n ∙ ap (λ o. option_or o (if nat_eq n (get_or steps i z).step.number then Some (get_or steps i z) else None)) (are n)
    ∙ sym (ap (λ l. account_of l n) (take_more steps i z inside)
    ∙ find-append (λ a. nat_eq n a.step.number) (take i steps) (get_or steps i z ∷ []))

-- ---- those of a run

-- a step, if its number is among these
abbrev kept : BTreeSet ℕ → Account → List Account
kept numbers a = if contains nat_cmp numbers a.step.number then a ∷ [] else []

kept_if_seen : (numbers : BTreeSet ℕ) (a : Account) → account_if_among numbers a ≡ flat_map (kept numbers) (account_if_seen a)
kept_if_seen numbers a = of (is_local a.step.event)
  where
    neither : (b : Bool) → ◌≡◌ {A = List Account} (if b then [] else []) []
    neither true = refl
    neither false = refl

    of : (l : Bool) → (if contains nat_cmp numbers a.step.number then (if l then [] else a ∷ []) else [])
        ≡ flat_map (kept numbers) (if l then [] else a ∷ [])
    of true = neither (contains nat_cmp numbers a.step.number)
    of false = sym (append-nil (kept numbers a))

among_seen : (numbers : BTreeSet ℕ) (m : ModuleValue) (args : List ℤ) (log : List Entry)
    → accounts_among numbers m args log ≡ flat_map (kept numbers) (seen_accounts m args log)
among_seen numbers m args log =
    told_of_told (kept numbers) (tell_seen_accounts m) (recounted_by m (λ v a. account_if_among numbers a)) m
    (λ a w v e. kept_if_seen numbers (account m a w v e)) (schedule_of log) (opening m args)

-- behind the step of the greatest number none is kept
pub none_above : (numbers : BTreeSet ℕ) (last n : ℕ) (m : ModuleValue) → IsUpperBound nat_cmp numbers last → last ≤ n
    → IsSilentAfter (recounted_by m (λ v a. account_if_among numbers a)) n
none_above numbers last n m above up a w v e more = of (contains nat_cmp numbers v.steps) refl
  where
    lt : is_lt (nat_cmp last v.steps) ≡ true
    lt = ap (λ b. is_lt (cond b Less (cond (nat_eq last v.steps) Equal Greater))) (lt-ltb last v.steps (omega (arith, up, more)))

    of : (b : Bool) → contains nat_cmp numbers v.steps ≡ b → (if b then account_if_seen (account m a w v e) else []) ≡ []
    of true has = absurd (true≢false (sym lt ∙ above v.steps has))
    of false has = refl

-- nor is any of no numbers
pub none_of_none : (numbers : BTreeSet ℕ) (n : ℕ) (m : ModuleValue) → btree_set_len numbers ≡ 0
    → IsSilentAfter (recounted_by m (λ v a. account_if_among numbers a)) n
none_of_none numbers n m none a w v e more = of numbers.keys none
  where
    of : (ks : List ℕ) → length ks ≡ 0 → (if list_any (is_at (nat_cmp v.steps)) ks then account_if_seen (account m a w v e) else []) ≡ []
    of [] h = refl
    of (k ∷ ks) h = absurd (omega (arith, h))

-- a step of these numbers is the same among those that are kept
same_found : (numbers : BTreeSet ℕ) (n : ℕ) → contains nat_cmp numbers n ≡ true → (steps : List Account)
    → account_of (flat_map (kept numbers) steps) n ≡ account_of steps n
same_found numbers n has [] = refl
same_found numbers n has (a ∷ steps) = of (contains nat_cmp numbers a.step.number) refl (same_found numbers n has steps)
  where
    others : contains nat_cmp numbers a.step.number ≡ false → (b : Bool) → nat_eq n a.step.number ≡ b → nat_eq n a.step.number ≡ false
    others e true is = absurd (true≢false (sym has ∙ ap (contains nat_cmp numbers) (eqb-true n a.step.number is) ∙ e))
    others e false is = is

    of : (b : Bool) → contains nat_cmp numbers a.step.number ≡ b → account_of (flat_map (kept numbers) steps) n ≡ account_of steps n
        → account_of ((if b then a ∷ [] else []) ++ flat_map (kept numbers) steps) n ≡ account_of (a ∷ steps) n
    of true e rest = ap (λ o. cond (nat_eq n a.step.number) (Some a) o) rest
    of false e rest = rest ∙ sym (ap (λ b. cond b (Some a) (account_of steps n)) (others e (nat_eq n a.step.number) refl))

pub racing_found : (numbers : BTreeSet ℕ) (map : BTreeMap ℕ Account) (races : List Race) (steps : List Account)
    (m : ModuleValue) (args : List ℤ) (log : List Entry) → AreNumbers numbers races → steps ≡ accounts_among numbers m args log
    → AreByNumber map steps → AreRacing map races (seen_accounts m args log)
racing_found numbers map races steps m args log are is found = λ n of.
    found n ∙ ap (λ l. account_of l n) (is ∙ among_seen numbers m args log) ∙ same_found numbers n (are n ∙ of) (seen_accounts m args log)

-- ---- the lines of races

-- those of one race more
pub lines_more : (f : Race → List ℕ) (races : List Race) (i : ℕ) (z : Race) (old new : List ℕ) → i < length races
    → old ≡ flat_map f (take i races) → new ≡ old ++ f (get_or races i z) → new ≡ flat_map f (take (i + 1) races)
lines_more f races i z old new inside are more =
    more ∙ ap (λ l. l ++ f (get_or races i z)) are
    ∙ ap (λ l. flat_map f (take i races) ++ l) (sym (append-nil (f (get_or races i z))))
    ∙ sym (ap (flat_map f) (take_more races i z inside) ∙ flat_map-append f (take i races) (get_or races i z ∷ []))

-- are the same by what is kept and by all steps
pub same_lines : (p : PlacesValue) (names : NamesValue) (map : BTreeMap ℕ Account) (steps : List Account) (races : List Race)
    → AreRacing map races steps
    → flat_map (kept_lines p names map) races ≡ flat_map (race_lines p names steps) races
same_lines p names map steps [] found = refl
same_lines p names map steps (r ∷ races) found =
    let first = found r.first.number (ap (λ b. (b || nat_eq r.first.number r.second.number) || is_of_any races r.first.number)
    (eq-eqb r.first.number r.first.number refl)) in
    let second = found r.second.number (ap (λ b. (nat_eq r.second.number r.first.number || b) || is_of_any races r.second.number)
    (eq-eqb r.second.number r.second.number refl)
    ∙ ap (λ b. b || is_of_any races r.second.number) (or_true (nat_eq r.second.number r.first.number))) in
    let rest = same_lines p names map steps races (λ n is. found n (ap (λ b. is_of r n || b) is ∙ or_true (is_of r n))) in
    ap (λ o. pair_lines p names o (get nat_cmp map r.second.number) ++ flat_map (kept_lines p names map) races) first
    ∙ ap (λ o. pair_lines p names (account_of steps r.first.number) o ++ flat_map (kept_lines p names map) races) second
    ∙ ap (λ l. race_lines p names steps r ++ l) rest
  where
    or_true : (b : Bool) → (b || true) ≡ true
    or_true true = refl
    or_true false = refl
