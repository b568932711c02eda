-- The digest of a world and of what was printed by then: a number of 64 bits by which most of them differ. Where it is looked at matters to nothing but
-- time; that those have the same which are alike lets a search tell them apart by it. This project's own.
use Rattle.std.specs.Prelude.{ℕ, ℤ, ◌*◌, ◌/◌, ◌%◌, ◌^◌, bit_xor, List, fold}
use Rattle.std.specs.Int.{w64, cast_unsigned}
use Rattle.xk_types.specs.declared.world.Value.{Value}
use Rattle.xk_types.specs.declared.world.Value.TheVariants as value
use Rattle.xk_types.specs.World.{Activity, World}
use Rattle.xk_liveness.specs.Liveness.{SlotTable, live_part}

-- with a word more
unfoldable pub mixed : ℕ → ℕ → ℕ
mixed digest word = let product = (bit_xor digest word * 11400714819323198485) % 2 ^ 64 in bit_xor product (product / 2 ^ 29)

-- with a number more
abbrev pub with_number : ℕ → ℤ → ℕ
with_number digest number = mixed digest (cast_unsigned w64 number)

-- with these numbers more
abbrev pub with_numbers : ℕ → List ℤ → ℕ
with_numbers digest numbers = fold with_number digest numbers

-- the word that stands for a value
abbrev pub word_of : Value → ℕ
word_of value.Unset = 1
word_of (value.Number number) = cast_unsigned w64 number
word_of (value.Clock clock) = clock

-- with these values more
abbrev pub with_values : ℕ → List Value → ℕ
with_values digest values = fold (λ d v. mixed d (word_of v)) digest values

-- with an activity more: where it stands, and its slots
abbrev pub with_activity : ℕ → Activity → ℕ
with_activity digest act = with_values (mixed (mixed digest act.frame.unit) act.frame.place) act.frame.slots

-- of all there is in a world, these numbers being printed by then: of them, of its shared numbers, and of its activities
abbrev pub whole_digest : World → List ℤ → ℕ
whole_digest w numbers = fold with_activity (with_numbers (with_numbers 0 numbers) w.cells) w.activities

-- the same of what of it may still count, by which slots are live
abbrev pub world_digest : SlotTable → World → List ℤ → ℕ
world_digest live w numbers = whole_digest (live_part live w) numbers
