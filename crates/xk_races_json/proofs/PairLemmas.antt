-- The steps of races are the same as they are kept and among all steps of a run.
use Rattle.std.proofs.Common.{◌≡◌, ◌∙◌, ℕ, ◌+◌, ◌<◌, Bool, true, false, List, [], ◌∷◌, ◌++◌, ◌||◌, length, take, get_or}
use Rattle.std.proofs.Common.{refl, sym, ap, eq-eqb}
use Rattle.std.specs.Prelude.{flat_map, nat_eq}
use Rattle.std.specs.BTreeMap.{BTreeMap, get}
use Rattle.std.specs.Ordering.{nat_cmp}
use Rattle.std.proofs.lemmas.List.{append-nil, take_more}
use Rattle.std.proofs.lemmas.Grind.{flat_map-append}
use Rattle.xk_show_names.specs.declared.accounts.Account.{Account}
use Rattle.xk_races.specs.declared.pairs.Race.{Race}
use Rattle.xk_show_races.specs.Accounts.{AreRacing, is_of, is_of_any}
use Rattle.xk_show_races.specs.Text.{account_of}
use Rattle.xk_races_json.specs.declared.pairs.Pair.{Pair}
use Rattle.xk_races_json.specs.Races.{both, kept_pair, pair_of}

-- those of one race more
pub pairs_more : (f : Race → List Pair) (races : List Race) (i : ℕ) (z : Race) (old new : List Pair) → i < length races
    → old ≡ flat_map f (take i races) → new ≡ old ++ f (get_or races i z) → new ≡ flat_map f (take (i + 1) races)
pairs_more f races i z old new inside are more =
    more ∙ ap (λ l. l ++ f (get_or races i z)) are
    ∙ ap (λ l. flat_map f (take i races) ++ l) (sym (append-nil (f (get_or races i z))))
    ∙ sym (ap (flat_map f) (take_more races i z inside) ∙ flat_map-append f (take i races) (get_or races i z ∷ []))

-- what is kept and all steps give the same
pub same_pairs : (map : BTreeMap ℕ Account) (steps : List Account) (races : List Race) → AreRacing map races steps
    → flat_map (kept_pair map) races ≡ flat_map (pair_of steps) races
same_pairs map steps [] found = refl
same_pairs map steps (r ∷ races) found =
    let first = found r.first.number (ap (λ b. (b || nat_eq r.first.number r.second.number) || is_of_any races r.first.number)
    (eq-eqb r.first.number r.first.number refl)) in
    let second = found r.second.number (ap (λ b. (nat_eq r.second.number r.first.number || b) || is_of_any races r.second.number)
    (eq-eqb r.second.number r.second.number refl)
    ∙ ap (λ b. b || is_of_any races r.second.number) (or_true (nat_eq r.second.number r.first.number))) in
    let rest = same_pairs map steps races (λ n is. found n (ap (λ b. is_of r n || b) is ∙ or_true (is_of r n))) in
    ap (λ o. both o (get nat_cmp map r.second.number) ++ flat_map (kept_pair map) races) first
    ∙ ap (λ o. both (account_of steps r.first.number) o ++ flat_map (kept_pair map) races) second
    ∙ ap (λ l. pair_of steps r ++ l) rest
  where
    or_true : (b : Bool) → (b || true) ≡ true
    or_true true = refl
    or_true false = refl
