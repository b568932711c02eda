-- The statuses that the program ends with. This project's own.
use Rattle.std.specs.Prelude.{ℕ}

-- the job is done, or help was asked for
abbrev pub status_done : ℕ
status_done = 0

-- the program is refused
abbrev pub status_program : ℕ
status_program = 1

-- the words aren't understood, or exclude each other
abbrev pub status_words : ℕ
status_words = 2

-- the log is refused
abbrev pub status_log : ℕ
status_log = 3

-- memory ran out
abbrev pub status_memory : ℕ
status_memory = 4

-- a device failed
abbrev pub status_device : ℕ
status_device = 5

-- answered, but not whole
abbrev pub status_partial : ℕ
status_partial = 6

-- answered: an outcome isn't in the list
abbrev pub status_refuted : ℕ
status_refuted = 7
