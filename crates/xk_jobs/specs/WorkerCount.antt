-- How many workers and processors there may be. This project's own.
use Rattle.std.specs.Prelude.{ℕ, ◌&&◌, nat_le, Option, Some, None, if◌then◌else◌}

-- the most worker threads
abbrev pub most_workers : ℕ
most_workers = 64

-- a number of workers is one from 1 to the most
abbrev pub count_within : ℕ → Option ℕ
count_within n = if nat_le 1 n && nat_le n most_workers then Some n else None

-- a number of processors is one from 1 on
abbrev pub some_processors : ℕ → Option ℕ
some_processors n = if nat_le 1 n then Some n else None
