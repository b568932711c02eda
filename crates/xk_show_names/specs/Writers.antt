-- Which step wrote each shared number last, as the code keeps it: a row of numbers, in which all that isn't there is 0.
use Rattle.std.specs.Prelude.{◌≡◌, ℕ, suc, ◌-◌, List, ◌++◌, length, replicate, slice_index_or, slice_set, if◌then◌else◌}
use Rattle.xk_show_names.specs.declared.accounts.Account.{Account}
use Rattle.xk_show_names.specs.declared.accounts.Subject.{Subject}
use Rattle.xk_show_names.specs.declared.accounts.Subject.TheVariants as subject
use Rattle.xk_show_names.specs.Accounts.{puts, writer}

-- the row has for each shared number which of these steps wrote it last
abbrev pub AreWriters : List ℕ → List Account → Type 0
AreWriters row steps = (s : ℕ) → slice_index_or row s 0 ≡ writer s 0 steps

-- what it has for what a step is about
abbrev pub in_row : List ℕ → Subject → ℕ
in_row row (subject.Shared s) = slice_index_or row s 0
in_row row _ = 0

-- the row with n at place k
abbrev pub with_at : List ℕ → ℕ → ℕ → List ℕ
with_at row k n = slice_set (row ++ replicate (suc k - length row) 0) k n

abbrev pub set_for : List ℕ → ℕ → Subject → List ℕ
set_for row n (subject.Shared s) = with_at row s n
set_for row n _ = row

-- behind this step
abbrev pub noted : List ℕ → Account → List ℕ
noted row a = if puts a.step.event then set_for row a.step.number a.subject else row
