-- What runs by chance print, and how it is told how often. This project's own.
use Rattle.std.specs.Prelude.{◌≡◌, ℕ, ℤ, ⊤, suc, List, [], ◌∷◌, length}
use Rattle.xk_types.specs.Code.{ModuleValue}
use Rattle.xk_scheduler.specs.WholeRuns.{IsRunBy}
use Rattle.xk_random.specs.Chance.{chance_after, chance_answer, chance_of}
use Rattle.xk_random.specs.Tally.{Share, seed_of, shares_from, tally_text}

-- the run by chance from this seed, with these arguments, prints these numbers
abbrev pub IsPrinted : ModuleValue → List ℤ → ℕ → List ℤ → Type 0
IsPrinted m args seed numbers = (steps : ℕ) × IsRunBy chance_answer chance_after m args (chance_of seed) numbers steps

-- the runs from run i on print these lists, one after the other
abbrev pub ArePrinted : ModuleValue → List ℤ → ℕ → ℕ → List (List ℤ) → Type 0
ArePrinted m args seed i [] = ⊤
ArePrinted m args seed i (x ∷ lists) = IsPrinted m args (seed_of seed i) x × ArePrinted m args seed (suc i) lists

-- So many runs print lists that have these shares. Run 0 has this seed.
pub record AreShares (m : ModuleValue) (args : List ℤ) (seed runs : ℕ) (shares : List Share) : Type 0 where
  pub lists : List (List ℤ)
  pub runs_are : length lists ≡ runs
  pub printed : ArePrinted m args seed 0 lists
  pub shares_are : shares ≡ shares_from seed 0 lists

-- the text tells how often what is printed in so many runs, of which run 0 has this seed
pub record IsTallyText (m : ModuleValue) (args : List ℤ) (seed runs : ℕ) (text : List ℕ) : Type 0 where
  pub shares : List Share
  pub of : AreShares m args seed runs shares
  pub text_is : text ≡ tally_text runs shares
