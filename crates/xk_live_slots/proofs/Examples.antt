-- A lost update: by the words of its places, at its `put` the slot that held the 1 is dead, and the sum is live.
use Rattle.std.proofs.Common.{◌≡◌, ℕ, pos, true, false, List, [], ◌∷◌, refl}
use Rattle.xk_types.specs.declared.world.Value.{Value}
use Rattle.xk_types.specs.declared.world.Value.TheVariants as value
use Rattle.xk_types.specs.declared.world.Status.TheVariants as status
use Rattle.xk_types.specs.World.{World, root}
use Rattle.xk_liveness.specs.Liveness.{AreAlikeWhereLive}
use Rattle.xk_live_slots.specs.LiveSlots.{live_in}

-- of `get 0 0`, `lit 1 1`, `add 0 0 1`, `put 0 0`, `ret`
abbrev words : List (List ℕ)
words = (0 ∷ 1 ∷ 3 ∷ 1 ∷ 0 ∷ []) ∷ []

pub one_dead : live_in words 0 3 1 ≡ false
one_dead = refl

pub sum_live : live_in words 0 3 0 ≡ true
sum_live = refl

pub both_live : live_in words 0 2 1 ≡ true
both_live = refl

-- a world at the `put`, with this in slot 1
abbrev at_put : Value → World
at_put x = record {
  activities = record {
    frame = record { unit = 0; place = 3; slots = value.Number (pos 1) ∷ x ∷ [] };
    callers = [];
    status = status.Running;
    since = 0;
    opened = 0;
    governed = root;
  } ∷ [];
  clocks = [];
  cells = pos 0 ∷ [];
  steps = 3;
  arguments = [];
}

pub worlds_alike : AreAlikeWhereLive (live_in words) (at_put (value.Number (pos 1))) (at_put value.Unset)
worlds_alike = refl
