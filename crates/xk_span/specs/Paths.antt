-- A critical path: the greatest chain that the marks of the pass lead back along.
use Rattle.std.specs.Prelude.{ℕ, zero, suc, nat_eq, List, [], ◌∷◌, if◌then◌else◌}
use Rattle.xk_races.specs.declared.deeds.Deed.{Deed}
use Rattle.xk_span.specs.declared.marks.Mark.{Mark}
use Rattle.xk_span.specs.Chains.{Weights}
use Rattle.xk_span.specs.Times.{mark_at, links_of, last_of}

-- at most n deeds that lead up to number j, the last first: where nothing that weighs is right before it, none
abbrev pub back_from : List Mark → ℕ → ℕ → List ℕ
back_from links zero j = []
back_from links (suc n) j =
    if nat_eq (mark_at links j).time 0 then []
    else (mark_at links j).from ∷ back_from links n (mark_at links j).from

-- back from the deed of this mark, if anything weighs up to there
abbrev pub path_back : List Mark → Mark → List ℕ
path_back links last = if nat_eq last.time 0 then [] else last.from ∷ back_from links last.from last.from

-- the numbers of the deeds of a greatest chain, the last first
abbrev pub path_of : Weights → List Deed → List ℕ
path_of w ds = path_back (links_of w ds) (last_of w ds)
