-- Who is under a finish, looked at from owner to owner.
use Rattle.std.proofs.Common.{◌≡◌, ◌∙◌, ℕ, suc, Bool, true, false, ◌||◌, List, Option, Some, None, refl, ap, slice_get}
use Rattle.std.specs.Prelude.{option_map}
use Rattle.std.specs.Option.{option_map_or}
use Rattle.xk_types.specs.World.{Finish}
use Rattle.xk_types.specs.Step.{same_finish}
use Rattle.xk_finishes.specs.Tree.{NodeValue, under_within, governed_of}

-- this activity, if there is one, is under the finish, looking at no more than n
abbrev pub is_below : List NodeValue → Finish → ℕ → Option ℕ → Bool
is_below nodes f n o = option_map_or (under_within nodes f n) o false

-- by what governs it
abbrev below_by : List NodeValue → Finish → ℕ → Option Finish → Bool
below_by nodes f n None = false
below_by nodes f n (Some g) = same_finish g f || is_below nodes f n g.owner

look : (nodes : List NodeValue) (f : Finish) (n : ℕ) (o : Option ℕ) → is_below nodes f (suc n) o ≡ below_by nodes f n (governed_of nodes o)
unfolding under_within
look nodes f n None = refl
look nodes f n (Some b) = of (slice_get nodes b)
  where
    of : (p : Option NodeValue)
        → option_map_or (λ node. same_finish node.governed f || option_map_or (under_within nodes f n) node.governed.owner false) p false
        ≡ below_by nodes f n (option_map (λ node. node.governed) p)
    of None = refl
    of (Some x) = refl

-- nothing governs it
pub below_none : (nodes : List NodeValue) (f : Finish) (n k : ℕ) (o : Option ℕ) → n ≡ suc k → governed_of nodes o ≡ None → is_below nodes f n o ≡ false
below_none nodes f n k o is e = ap (λ j. is_below nodes f j o) is ∙ look nodes f k o ∙ ap (below_by nodes f k) e

-- the finish itself does
pub below_here : (nodes : List NodeValue) (f g : Finish) (n k : ℕ) (o : Option ℕ) → n ≡ suc k → governed_of nodes o ≡ Some g → same_finish g f ≡ true
    → is_below nodes f n o ≡ true
below_here nodes f g n k o is e same =
    ap (λ j. is_below nodes f j o) is ∙ look nodes f k o ∙ ap (below_by nodes f k) e ∙ ap (λ b. b || is_below nodes f k g.owner) same

-- another does: it goes by who opened that
pub below_on : (nodes : List NodeValue) (f g : Finish) (n k : ℕ) (o : Option ℕ) → n ≡ suc k → governed_of nodes o ≡ Some g → same_finish g f ≡ false
    → is_below nodes f n o ≡ is_below nodes f k g.owner
below_on nodes f g n k o is e other =
    ap (λ j. is_below nodes f j o) is ∙ look nodes f k o ∙ ap (below_by nodes f k) e ∙ ap (λ b. b || is_below nodes f k g.owner) other

-- nobody is left to look at
pub below_out : (nodes : List NodeValue) (f : Finish) (n : ℕ) (o : Option ℕ) → n ≡ 0 → is_below nodes f n o ≡ false
unfolding under_within
below_out nodes f n o is = ap (λ j. is_below nodes f j o) is ∙ of o
  where
    of : (p : Option ℕ) → is_below nodes f 0 p ≡ false
    of None = refl
    of (Some b) = refl
