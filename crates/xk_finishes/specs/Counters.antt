-- One counter for each finish, instead of a walk over all activities. This project's own.
--
-- A finish counts those alone whom it governs itself. Whoever is under it by way of an inner finish hasn't to be counted: the owner of
-- that one hasn't ended before it is closed.
use Rattle.std.specs.Prelude.{◌≡◌, ℕ, ◌+◌, ◌<◌, ◌≤◌, Bool, false, not, ◌&&◌, List, [], ◌∷◌, length, Some, slice_get, slice_index_or, if◌then◌else◌}
use Rattle.xk_types.specs.World.{Finish}
use Rattle.xk_types.specs.Step.{same_finish}
use Rattle.xk_finishes.specs.Tree.{NodeValue, node_at, AreOwnersEarlier}

-- the finish that activity a opened when it then had d open
abbrev pub finish_at : ℕ → ℕ → Finish
finish_at a d = record { owner = Some a; depth = d }

-- the activity hasn't ended, and the finish itself governs it
abbrev pub is_counted : Finish → NodeValue → Bool
is_counted f node = not node.ended && same_finish node.governed f

-- one where it is so, else none
abbrev pub one_if : Bool → ℕ
one_if b = if b then 1 else 0

-- how many are
abbrev pub counter : Finish → List NodeValue → ℕ
counter f [] = 0
counter f (x ∷ xs) = one_if (is_counted f x) + counter f xs

-- ---- where the counters stand

-- Each activity has a list: the counter of the finish that it opened at depth d stands at place d. What isn't there is 0. The finish that
-- nobody opened has no counter, since nobody waits for it.
abbrev pub count_in : List (List ℕ) → ℕ → ℕ → ℕ
count_in lists a d = slice_index_or (slice_index_or lists a []) d 0

-- there is a place for the finish's counter, if somebody opened it
abbrev pub HasPlace : List (List ℕ) → Finish → Type 0
HasPlace lists f = (a : ℕ) → f.owner ≡ Some a → (a < length lists) × (f.depth < length (slice_index_or lists a []))

-- the number of the finish, if somebody opened it, is one of these
abbrev pub CountIs : (ℕ → Type 0) → List (List ℕ) → Finish → Type 0
CountIs P lists f = (a : ℕ) → f.owner ≡ Some a → P (count_in lists a f.depth)

-- all count as they did
abbrev pub CountsSame : List (List ℕ) → List (List ℕ) → Type 0
CountsSame old new = (a d : ℕ) → count_in new a d ≡ count_in old a d

-- the finish counts one more, and all others what they did
abbrev pub CountsOneMore : Finish → List (List ℕ) → List (List ℕ) → Type 0
CountsOneMore f old new = (a d : ℕ) → count_in new a d ≡ one_if (same_finish f (finish_at a d)) + count_in old a d

-- ---- what each tree keeps

-- the finish that governs somebody who hasn't ended is open: its owner, activity a, hasn't ended and has so many open
pub record IsOpen (nodes : List NodeValue) (f : Finish) (a : ℕ) : Type 0 where
  pub exists : a < length nodes
  pub runs : (node_at nodes a).ended ≡ false
  pub some : 0 < f.depth
  pub within : f.depth ≤ (node_at nodes a).opened

abbrev pub AreOpen : List NodeValue → Type 0
AreOpen nodes = (b : ℕ) (node : NodeValue) → slice_get nodes b ≡ Some node → node.ended ≡ false → (a : ℕ) → node.governed.owner ≡ Some a
    → IsOpen nodes node.governed a

-- the counter of each finish says how many it counts
abbrev pub AreCounted : List NodeValue → List (List ℕ) → Type 0
AreCounted nodes lists = (a d : ℕ) → count_in lists a d ≡ counter (finish_at a d) nodes

pub record IsCounting (nodes : List NodeValue) (lists : List (List ℕ)) : Type 0 where
  pub earlier : AreOwnersEarlier nodes
  pub held : AreOpen nodes
  pub counted : AreCounted nodes lists
