-- The shares of three runs, two of which print the same.
use Rattle.std.proofs.Common.{◌≡◌, ℤ, pos, List, [], ◌∷◌, refl}
use Rattle.xk_random.specs.Tally.{shares_from}

abbrev lists : List (List ℤ)
lists = (pos 1 ∷ pos 2 ∷ []) ∷ (pos 2 ∷ pos 1 ∷ []) ∷ (pos 1 ∷ pos 2 ∷ []) ∷ []

shares_are : shares_from 7 0 lists ≡ record { numbers = pos 1 ∷ pos 2 ∷ []; first = 7; runs = 2 } ∷ record { numbers = pos 2 ∷ pos 1 ∷ []; first = 8; runs = 1 } ∷ []
shares_are = refl

-- 0 follows the greatest seed
seeds_wrap : shares_from 18446744073709551615 0 lists
    ≡ record { numbers = pos 1 ∷ pos 2 ∷ []; first = 18446744073709551615; runs = 2 } ∷ record { numbers = pos 2 ∷ pos 1 ∷ []; first = 0; runs = 1 } ∷ []
seeds_wrap = refl
