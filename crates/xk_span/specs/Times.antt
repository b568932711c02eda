-- One pass along the deeds of a run: of each activity, how much the greatest chain weighs up to its last deed, and which deed that
-- chain ends with. It goes as `Knowledge.antt` of `xk_races` does, with such a mark in the place of each row.
use Rattle.std.specs.Prelude.{ℕ, suc, ◌+◌, nat_lt, List, [], ◌∷◌, slice_index_or, if◌then◌else◌}
use Rattle.xk_races.specs.declared.deeds.Deed.{Deed}
use Rattle.xk_races.specs.declared.deeds.Part.{Part}
use Rattle.xk_races.specs.declared.deeds.Part.TheVariants as part
use Rattle.xk_races.specs.Lists.{number_at, with_at}
use Rattle.xk_races.specs.Knowledge.{Scopes, scoped}
use Rattle.xk_races.specs.Knowledge.{nothing_known as no_rows}
use Rattle.xk_span.specs.declared.marks.Mark.{Mark}
use Rattle.xk_span.specs.Chains.{Weights}

-- ---- marks

-- there is no deed yet
abbrev pub no_mark : Mark
no_mark = record { time = 0; from = 0 }

-- the later one of two, the first where they are as late
abbrev pub later : Mark → Mark → Mark
later r s = if nat_lt r.time s.time then s else r

-- mark k of a list in which all that isn't there is none
abbrev pub mark_at : List Mark → ℕ → Mark
mark_at marks k = slice_index_or marks k no_mark

-- mark k isn't earlier than this one
abbrev pub told_to : List Mark → ℕ → Mark → List Mark
told_to marks k t = with_at no_mark marks k (later (mark_at marks k) t)

-- ---- what is known

-- Of each activity its mark; of each clock that of those whom its next advance waits for, of who left it behind a resume, and of
-- those whom its last advance waited for; of each finish that of who ended in it.
pub record Known : Type 0 where
  pub acts : List Mark
  pub signals : List Mark
  pub leaves : List Mark
  pub advances : List Mark
  pub ends : List Mark
  pub scopes : Scopes

-- before the first deed
abbrev pub nothing_known : Known
nothing_known = record {
  acts = [];
  signals = [];
  leaves = [];
  advances = [];
  ends = [];
  scopes = no_rows.scopes;
}

-- the finish that activity a is in
abbrev pub finish_of : ℕ → Known → ℕ
finish_of a k = number_at k.scopes.within a

-- what activity a waits for by a deed
abbrev pub heard : ℕ → Part → Known → List Mark
heard a (part.Pass c) k = told_to k.acts a (mark_at k.advances c)
heard a part.Close k = told_to k.acts a (mark_at k.ends (finish_of a k))
heard a (part.Start b) k = k.acts
heard a (part.Signal c) k = k.acts
heard a (part.Leave c) k = k.acts
heard a (part.Advance c) k = k.acts
heard a part.Open k = k.acts
heard a part.End k = k.acts
heard a (part.Access x) k = k.acts
heard a part.Print k = k.acts

-- the latest of the deeds right before a deed of activity a
abbrev pub link : ℕ → Part → Known → Mark
link a p k = mark_at (heard a p k) a

-- behind this one, deed number n that weighs x
abbrev pub behind : ℕ → ℕ → Mark → Mark
behind n x l = record { time = l.time + x; from = n }

-- deed number n of activity a, which weighs x
abbrev pub marked : ℕ → ℕ → ℕ → List Mark → List Mark
marked a n x acts = with_at no_mark acts a (behind n x (mark_at acts a))

-- activity b begins behind its starter's deed
abbrev pub started : ℕ → ℕ → Known → Known
started a b k = record k { acts = told_to k.acts b (mark_at k.acts a) }

abbrev pub advanced_by : ℕ → Known → Known
advanced_by c k = record k {
  advances = told_to k.advances c (mark_at k.signals c);
  signals = told_to k.signals c (mark_at k.leaves c);
}

-- whom a deed of activity a lets go on
abbrev pub taught : ℕ → Part → Known → Known
taught a (part.Start b) k = started a b k
taught a (part.Signal c) k = record k { signals = told_to k.signals c (mark_at k.acts a) }
taught a (part.Leave c) k = record k { leaves = told_to k.leaves c (mark_at k.acts a) }
taught a (part.Advance c) k = advanced_by c k
taught a part.End k = record k { ends = told_to k.ends (finish_of a k) (mark_at k.acts a) }
taught a part.Open k = k
taught a (part.Pass c) k = k
taught a part.Close k = k
taught a (part.Access x) k = k
taught a part.Print k = k

abbrev pub with_acts : Known → List Mark → Known
with_acts k acts = record k { acts = acts }

abbrev pub with_scopes : Known → Scopes → Known
with_scopes k s = record k { scopes = s }

abbrev pub learnt : ℕ → ℕ → ℕ → Part → Known → Known
learnt a n x p k = with_acts k (marked a n x (heard a p k))

-- behind deed number n, which weighs x: its activity waits, takes it, and lets others go on
abbrev pub after : ℕ → ℕ → Deed → Known → Known
after n x d k =
    with_scopes (taught d.step.act d.part (learnt d.step.act n x d.part k)) (scoped d.step.act d.part k.scopes)

-- behind deeds of which the first has number n
abbrev pub known_from : Weights → ℕ → List Deed → Known → Known
known_from w n [] k = k
known_from w n (d ∷ ds) k = known_from w (suc n) ds (after n (w n) d k)

-- the link of each of them
abbrev pub links_from : Weights → ℕ → List Deed → Known → List Mark
links_from w n [] k = []
links_from w n (d ∷ ds) k = link d.step.act d.part k ∷ links_from w (suc n) ds (after n (w n) d k)

-- the time of each of them
abbrev pub times_from : Weights → ℕ → List Deed → Known → List ℕ
times_from w n [] k = []
times_from w n (d ∷ ds) k =
    (behind n (w n) (link d.step.act d.part k)).time ∷ times_from w (suc n) ds (after n (w n) d k)

-- ---- of deeds

-- of each deed, the latest of those right before it
abbrev pub links_of : Weights → List Deed → List Mark
links_of w ds = links_from w 0 ds nothing_known

-- the time of deed number j
abbrev pub time_at : Weights → List Deed → ℕ → ℕ
time_at w ds j = (mark_at (links_of w ds) j).time + w j

-- all times
abbrev pub times_of : Weights → List Deed → List ℕ
times_of w ds = times_from w 0 ds nothing_known

-- the latest of these, and of one before them
abbrev pub latest_from : Mark → List Mark → Mark
latest_from best [] = best
latest_from best (x ∷ xs) = latest_from (later best x) xs

-- the deed that the greatest chain ends with
abbrev pub last_of : Weights → List Deed → Mark
last_of w ds = latest_from no_mark (known_from w 0 ds nothing_known).acts

-- the span of these deeds
abbrev pub span_of : Weights → List Deed → ℕ
span_of w ds = (last_of w ds).time
