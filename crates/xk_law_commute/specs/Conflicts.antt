-- Which shared numbers an activity's next instruction reads or changes, and where two such instructions conflict. That `atomic S` is one step
-- for others is X10's (chapter Activities, Atomic blocks); that two additions to one number don't conflict comes of it.
use Rattle.std.specs.Prelude.{◌≡◌, ℕ, ◌==◌, Bool, true, false, Option, slice_get, option_and_then}
use Rattle.std.specs.Option.{option_map_or}
use Rattle.xk_types.specs.declared.instr.Instr.{Instr}
use Rattle.xk_types.specs.declared.instr.Instr.TheVariants as instr
use Rattle.xk_types.specs.Code.{ModuleValue}
use Rattle.xk_types.specs.World.{World, instruction_at}

-- it reads shared number s
abbrev pub reads : Instr → ℕ → Bool
reads (instr.Get d c) s = s == c
reads _ s = false

-- it writes shared number s, whatever that was
abbrev pub puts : Instr → ℕ → Bool
puts (instr.Put c x) s = s == c
puts _ s = false

-- it writes shared number s, or adds to it
abbrev pub stores : Instr → ℕ → Bool
stores (instr.Put c x) s = s == c
stores (instr.AddTo c x) s = s == c
stores _ s = false

-- the instruction that activity a stands at
abbrev pub next_instruction : ModuleValue → World → ℕ → Option Instr
next_instruction m w a = option_and_then (λ act. instruction_at m act.frame) (slice_get w.activities a)

-- the next instruction of activity a reads shared number s; writes it; writes it or adds to it
abbrev pub reads_next : ModuleValue → World → ℕ → ℕ → Bool
reads_next m w a s = option_map_or (λ i. reads i s) (next_instruction m w a) false

abbrev pub puts_next : ModuleValue → World → ℕ → ℕ → Bool
puts_next m w a s = option_map_or (λ i. puts i s) (next_instruction m w a) false

abbrev pub stores_next : ModuleValue → World → ℕ → ℕ → Bool
stores_next m w a s = option_map_or (λ i. stores i s) (next_instruction m w a) false

-- The next instructions of activities a and b don't conflict: neither writes or adds to what the other reads, and what one writes, the other
-- neither writes nor adds to.
pub record AreConflictFree (m : ModuleValue) (w : World) (a b : ℕ) : Type 0 where
  pub second_reads : (s : ℕ) → stores_next m w a s ≡ true → reads_next m w b s ≡ true → ⊥
  pub first_reads : (s : ℕ) → stores_next m w b s ≡ true → reads_next m w a s ≡ true → ⊥
  pub first_puts : (s : ℕ) → puts_next m w a s ≡ true → stores_next m w b s ≡ true → ⊥
  pub second_puts : (s : ℕ) → puts_next m w b s ≡ true → stores_next m w a s ≡ true → ⊥
