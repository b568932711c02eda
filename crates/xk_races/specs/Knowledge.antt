-- What each activity knows of a run, deed by deed: of each activity, its last deed that came before. Deeds are numbered from 1 in order of the
-- run; a row has the number of that deed for each activity, and 0 where there is none.
use Rattle.std.specs.Prelude.{ℕ, suc, nat_le, Bool, true, false, if◌then◌else◌, List, [], ◌∷◌, ◌++◌, length}
use Rattle.xk_races.specs.declared.deeds.Deed.{Deed}
use Rattle.xk_races.specs.declared.deeds.Part.{Part}
use Rattle.xk_races.specs.declared.deeds.Part.TheVariants as part
use Rattle.xk_races.specs.Lists.{number_at, row_at, with_at, joined}

-- ---- finishes

-- Which finish each activity is in, and which one is around each finish. Number 0 is the finish that governs main; the others have numbers in the
-- order in which they were opened.
pub record Scopes : Type 0 where
  pub within : List ℕ
  pub around : List ℕ

-- activity a goes into the finish that it opens
abbrev pub scope_opened : ℕ → Scopes → Scopes
scope_opened a s = record { within = with_at 0 s.within a (length s.around); around = s.around ++ number_at s.within a ∷ [] }

-- and out of the one that it closes
abbrev pub scope_closed : ℕ → Scopes → Scopes
scope_closed a s = record s { within = with_at 0 s.within a (number_at s.around (number_at s.within a)) }

-- behind a deed of activity a; whom it starts is where it is
abbrev pub scoped : ℕ → Part → Scopes → Scopes
scoped a (part.Start b) s = record s { within = with_at 0 s.within b (number_at s.within a) }
scoped a part.Open s = scope_opened a s
scoped a part.Close s = scope_closed a s
scoped a (part.Signal c) s = s
scoped a (part.Leave c) s = s
scoped a (part.Advance c) s = s
scoped a (part.Pass c) s = s
scoped a part.End s = s
scoped a (part.Access x) s = s
scoped a part.Print s = s

-- ---- knowledge

-- What each activity knows; of each clock, what those knew whom its next advance waits for, who left it behind a resume, and whom its last advance
-- waited for; of each finish, what those knew who ended in it.
pub record Known : Type 0 where
  pub acts : List (List ℕ)
  pub signals : List (List ℕ)
  pub leaves : List (List ℕ)
  pub advances : List (List ℕ)
  pub ends : List (List ℕ)
  pub scopes : Scopes

-- before the first deed
abbrev pub nothing_known : Known
nothing_known = record { acts = []; signals = []; leaves = []; advances = []; ends = []; scopes = record { within = []; around = 0 ∷ [] } }

-- row k learns what another row knows
abbrev pub told_to : List (List ℕ) → ℕ → List ℕ → List (List ℕ)
told_to rows k row = with_at [] rows k (joined (row_at rows k) row)

-- the finish that activity a is in
abbrev pub finish_of : ℕ → Known → ℕ
finish_of a k = number_at k.scopes.within a

-- what activity a learns by a deed: who passes a clock, what its advance knew; who closes a finish, what those knew who ended in it
abbrev pub heard : ℕ → Part → Known → List (List ℕ)
heard a (part.Pass c) k = told_to k.acts a (row_at k.advances c)
heard a part.Close k = told_to k.acts a (row_at k.ends (finish_of a k))
heard a (part.Start b) k = k.acts
heard a (part.Signal c) k = k.acts
heard a (part.Leave c) k = k.acts
heard a (part.Advance c) k = k.acts
heard a part.Open k = k.acts
heard a part.End k = k.acts
heard a (part.Access x) k = k.acts
heard a part.Print k = k.acts

-- activity a knows its deed number n
abbrev pub marked : ℕ → ℕ → List (List ℕ) → List (List ℕ)
marked a n acts = with_at [] acts a (with_at 0 (row_at acts a) a n)

-- activity b begins with what its starter knows
abbrev pub started : ℕ → ℕ → Known → Known
started a b k = record k { acts = told_to k.acts b (row_at k.acts a) }

-- a clock advances: its advance learns what those knew whom it waited for; the next one waits for those, too, who left before
abbrev pub advanced_by : ℕ → Known → Known
advanced_by c k = record k {
  advances = told_to k.advances c (row_at k.signals c);
  signals = told_to k.signals c (row_at k.leaves c);
}

-- who learns by a deed of activity a what it knows: whom it starts; the clock that it resumes or leaves; the finish that it ends in
abbrev pub taught : ℕ → Part → Known → Known
taught a (part.Start b) k = started a b k
taught a (part.Signal c) k = record k { signals = told_to k.signals c (row_at k.acts a) }
taught a (part.Leave c) k = record k { leaves = told_to k.leaves c (row_at k.acts a) }
taught a (part.Advance c) k = advanced_by c k
taught a part.End k = record k { ends = told_to k.ends (finish_of a k) (row_at k.acts a) }
taught a part.Open k = k
taught a (part.Pass c) k = k
taught a part.Close k = k
taught a (part.Access x) k = k
taught a part.Print k = k

abbrev pub with_acts : Known → List (List ℕ) → Known
with_acts k acts = record k { acts = acts }

abbrev pub with_scopes : Known → Scopes → Known
with_scopes k s = record k { scopes = s }

-- behind deed number n: its activity learns, knows the deed itself, and tells others
abbrev pub after : ℕ → Deed → Known → Known
after n d k =
    with_scopes (taught d.step.act d.part (with_acts k (marked d.step.act n (heard d.step.act d.part k)))) (scoped d.step.act d.part k.scopes)

-- ---- what is known where a shared number is read or changed, or a number is printed

-- a deed, its number, and what its activity knew at it
pub record Sight : Type 0 where
  pub number : ℕ
  pub deed : Deed
  pub row : List ℕ

abbrev pub is_sight : Part → Bool
is_sight (part.Access s) = true
is_sight part.Print = true
is_sight _ = false

abbrev pub sight : ℕ → Deed → Known → Sight
sight n d k = record { number = n; deed = d; row = row_at k.acts d.step.act }

abbrev pub sights_from : Known → ℕ → List Deed → List Sight
sights_from k n [] = []
sights_from k n (d ∷ ds) = (if is_sight d.part then sight (suc n) d (after (suc n) d k) ∷ [] else []) ++ sights_from (after (suc n) d k) (suc n) ds

-- those of a run
abbrev pub sights_of : List Deed → List Sight
sights_of ds = sights_from nothing_known 0 ds

-- x came before y
abbrev pub comes_before : Sight → Sight → Bool
comes_before x y = nat_le x.number (number_at y.row x.deed.step.act)
