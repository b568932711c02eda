-- Sets of instructions, kept coarsely: by what they do to shared numbers, and whether they print or drop a clock. In the field they are
-- footprints.
use Rattle.std.specs.Prelude.{◌≡◌, ℕ, ◌%◌, ◌==◌, Bool, true, not, ◌||◌}
use Rattle.std.specs.Int.{bit_at}
use Rattle.std.specs.Int.RustNames.{bit_or}
use Rattle.xk_types.specs.declared.instr.Instr.{Instr}
use Rattle.xk_types.specs.declared.instr.Instr.TheVariants as instr
use Rattle.xk_closed_sets.specs.declared.footprint.Footprint.{Footprint}

-- the bit that stands for shared number s, and for all that leave the same rest by 64, is set
abbrev pub is_set : ℕ → ℕ → Bool
is_set word s = bit_at word (s % 64) == 1

-- the instruction is in the footprint; one that none of its parts speaks of is in each
abbrev pub has : Footprint → Instr → Bool
has f (instr.Get d s) = is_set f.reads s
has f (instr.Put s x) = is_set f.puts s
has f (instr.AddTo s x) = is_set f.adds s
has f (instr.Print x) = f.prints
has f (instr.Drop k) = f.drops
has f _ = true

-- one of its instructions writes shared number s, or adds to it
abbrev pub stores_in : Footprint → ℕ → Bool
stores_in f s = is_set f.puts s || is_set f.adds s

-- none of its instructions conflicts with this one on a shared number, nor do both print
abbrev pub is_apart : Footprint → Instr → Bool
is_apart f (instr.Get d s) = not (stores_in f s)
is_apart f (instr.Put s x) = not (is_set f.reads s || stores_in f s)
is_apart f (instr.AddTo s x) = not (is_set f.reads s || is_set f.puts s)
is_apart f (instr.Print x) = not f.prints
is_apart f _ = true

-- what is in one or in the other
abbrev pub joined : Footprint → Footprint → Footprint
joined f g = record {
  reads = bit_or f.reads g.reads;
  puts = bit_or f.puts g.puts;
  adds = bit_or f.adds g.adds;
  prints = f.prints || g.prints;
  drops = f.drops || g.drops;
}

-- each instruction of the second is in the first
abbrev pub Covers : Footprint → Footprint → Type 0
Covers f g = (j : Instr) → has g j ≡ true → has f j ≡ true
