-- A set of kinds is told by its bits. This project's own.
use Rattle.std.specs.Prelude.{◌≡◌, ℕ, zero, suc, ◌<◌, Bool, true, ◌&&◌, ◌==◌}
use Rattle.std.proofs.Common.{refl}
use Rattle.std.proofs.lemmas.Bool.Decides.{Decides-below_and, Decides-eqb}
use Rattle.xk_typestate.specs.KindSet.{kinds_of, bits_of}

-- each number below this one is the bits of its kinds
all_back : ℕ → Bool
all_back zero = true
all_back (suc n) = (bits_of (kinds_of n) == n) && all_back n

-- the bits of the kinds of a number are that number
pub bits_back : (n : ℕ) → n < 32 → bits_of (kinds_of n) ≡ n
unfolding all_back
bits_back = (Decides-below_and (λ n. bits_of (kinds_of n) == n) (λ n. bits_of (kinds_of n) ≡ n) all_back (λ n. Decides-eqb (bits_of (kinds_of n)) n) refl (λ _. refl) 32).0 refl
