-- How many workers there may be. This project's own.
use Rattle.std.specs.Prelude.{ℕ}

-- the most workers, the calling thread among them
abbrev pub most_workers : ℕ
most_workers = 64
