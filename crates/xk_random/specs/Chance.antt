-- Chance as an order: who takes the next step is drawn from a seed. X10 leaves the order of steps open (`xk_scheduler`, `Choosers.antt`); that it
-- is drawn so is this project's own. The formula is SplitMix64 (Steele, Lea, Flood: Fast Splittable Pseudorandom Number Generators, 2014). It is
-- for ever: a seed stands for one run of a program.
use Rattle.std.specs.Prelude.{ℕ, ◌+◌, ◌*◌, ◌/◌, ◌%◌, ◌^◌, ◌==◌, bit_xor, List, length, Option, Some, None, unwrap_or, slice_index_or, if◌then◌else◌}
use Rattle.std.specs.List.{position}

-- ---- numbers of 64 bits, which wrap

abbrev pub wrapped : ℕ → ℕ
wrapped n = n % 2 ^ 64

-- the state behind a draw
abbrev pub next_state : ℕ → ℕ
next_state s = wrapped (s + 11400714819323198485)

-- its upper bits, moved down so far, into the lower ones
abbrev pub folded : ℕ → ℕ → ℕ
folded z bits = bit_xor z (z / 2 ^ bits)

-- the number that is drawn in a state
abbrev pub drawn : ℕ → ℕ
drawn s = folded (wrapped (folded (wrapped (folded s 30 * 13787848793156543929)) 27 * 10723151780598845931)) 31

-- ---- who steps

-- the state of the numbers, and who was taken last
pub record Chance : Type 0 where
  pub state : ℕ
  pub taken : Option ℕ

-- before anybody was taken
abbrev pub chance_of : ℕ → Chance
chance_of seed = record { state = seed; taken = None }

-- where the one who was taken last stands in the list, if it is there
abbrev pub place_again : Option ℕ → List ℕ → Option ℕ
place_again None list = None
place_again (Some a) list = position (λ x. x == a) list

-- The place that a number stands for: by one chance in five any of the list, and else whoever was taken last, or any where that one isn't there. (Who
-- goes on for some steps before another does meets more of what may happen than who changes at each step.)
abbrev pub place_by : ℕ → Option ℕ → List ℕ → ℕ
place_by number taken list =
    if number % 5 == 0 then number / 5 % length list else unwrap_or (place_again taken list) (number / 5 % length list)

abbrev pub chance_answer : Chance → List ℕ → ℕ
chance_answer c list = place_by (drawn (next_state c.state)) c.taken list

abbrev pub chance_after : Chance → List ℕ → Chance
chance_after c list = record { state = next_state c.state; taken = Some (slice_index_or list (chance_answer c list) 0) }
