-- Devices: what a program reads from and writes to, and the count of their failures. This project's own.
use Rattle.std.specs.Prelude.{◌≡◌, ℕ, ◌+◌, ◌-◌, ◌^◌, ◌<◌, ◌≤◌, ◌==◌, min, List, [], length, Option, Some, None, option_and_then, Result, MatchResult, IfOk, if◌then◌else◌}
use Rattle.xk_types.specs.declared.device.Failed.{Failed}
use Rattle.xk_types.specs.declared.std_devices.Counted.{Counted}

-- the count after one failure more; at its greatest it stays
abbrev pub after_failure : ℕ → ℕ
after_failure n = min (n + 1) (2 ^ 64 - 1)

-- what one call does to the count: a failure raises it, any other answer leaves it
abbrev pub CountsFailure : {A : Type 0} → ℕ → ℕ → Result A Failed → Type 0
CountsFailure old new r = MatchResult r (λ _. new ≡ old) (λ _. new ≡ after_failure old)

-- A failure was counted between two moments. From the greatest count on every call counts as one that failed.
abbrev pub Rose : ℕ → ℕ → Type 0
Rose old new = after_failure old ≤ new

-- a write takes a byte at least of a piece that isn't empty
abbrev pub TakesSome : Result ℕ Failed → List ℕ → Type 0
TakesSome r piece = IfOk r (λ n. 0 < length piece → 0 < n)

-- the reader or writer that is counted
abbrev pub counted_inner : {T : Type 0} → Counted T → T
counted_inner c = c.inner

-- how often it failed
abbrev pub counted_faults : {T : Type 0} → Counted T → ℕ
counted_faults c = c.faults

-- n less one, and nothing for 0
abbrev pub one_less : ℕ → Option ℕ
one_less n = if n == 0 then None else Some (n - 1)

-- a device over memory: the bytes that reads will give, those that were written, the failures counted, and, where a
-- call is set to fail, how many calls come before it
pub record TapeValue : Type 0 where
  pub rest : List ℕ
  pub written : List ℕ
  pub faults : ℕ
  pub before_failure : Option ℕ

-- a tape on which nothing was done yet
abbrev pub fresh_tape : List ℕ → TapeValue
fresh_tape input = record { rest = input; written = []; faults = 0; before_failure = None }

-- the tape with one call less before the one that fails
abbrev pub one_call_later : TapeValue → TapeValue
one_call_later t = record t { before_failure = option_and_then one_less t.before_failure }

-- the tape after a call that failed: nothing was read or written
abbrev pub failed_tape : TapeValue → TapeValue
failed_tape t = record (one_call_later t) { faults = after_failure t.faults }
