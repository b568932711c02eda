-- What is added to lists of accesses and of meetings.
use Rattle.std.proofs.Common.{◌≡◌, List, [], ◌∷◌, ◌++◌, refl, ap}
use Rattle.xk_hints.specs.declared.access.Access.{Access}
use Rattle.xk_hints.specs.declared.meeting.Meeting.{Meeting}
use Rattle.xk_hints.specs.Accesses.{access_value, accesses}
use Rattle.xk_hints.specs.Meetings.{meeting_value, meetings_here}

pub accesses_push : (bs : List Access) (a : Access) → accesses (bs ++ a ∷ []) ≡ accesses bs ++ access_value a ∷ []
accesses_push [] a = refl
accesses_push (b ∷ bs) a = ap (λ q. access_value b ∷ q) (accesses_push bs a)

pub meetings_push : (ms : List Meeting) (m : Meeting) → meetings_here (ms ++ m ∷ []) ≡ meetings_here ms ++ meeting_value m ∷ []
meetings_push [] m = refl
meetings_push (n ∷ ms) m = ap (λ q. meeting_value n ∷ q) (meetings_push ms m)
