-- Values whose text is known byte for byte: they have no float, and nest no deeper than n. This project's own.
use Rattle.std.specs.Prelude.{◌≡◌, ◌≤◌, ℕ, false}
use Rattle.serde_json.specs.Data.{Data, Members, depth, members_depth}
use Rattle.serde_json.specs.Written.{has_float, members_have_float}

pub record IsPlain (n : ℕ) (d : Data) : Type 0 where
  pub no_float : has_float d ≡ false
  pub nests : depth d ≤ n

pub record ArePlain (n : ℕ) (ms : Members) : Type 0 where
  pub no_float : members_have_float ms ≡ false
  pub nest : members_depth ms ≤ n
