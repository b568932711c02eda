-- What two cores have to have in common for their worlds to be alike where slots are live.
use Rattle.std.specs.Prelude.{◌≡◌, ℕ, ◌^◌, ◌<◌, List, [], ◌∷◌, length}
use Rattle.xk_types.specs.World.{Activity, Frame}
use Rattle.xk_liveness.specs.Liveness.{SlotTable, callers_left, frame_left, masked}

-- two frames run the same unit, and stand at the same place of it; and what is live at place p of that unit is the same
abbrev pub AreSameFrom : SlotTable → ℕ → Frame → Frame → Type 0
AreSameFrom live p f g = (f.unit ≡ g.unit) × (f.place ≡ g.place) × (masked (live f.unit p) f.slots ≡ masked (live f.unit p) g.slots)

-- what may still count of the frames of two activities is the same, by the status of the first
abbrev pub HasSameLeft : SlotTable → Activity → Activity → Type 0
HasSameLeft live x y = (frame_left live x.status x.frame ≡ frame_left live x.status y.frame)
    × (callers_left live x.status x.callers ≡ callers_left live x.status y.callers)

-- each of these frames has fewer slots than 16 bits number
abbrev pub AreFew : List Frame → Type 0
AreFew [] = Unit {0}
AreFew (f ∷ fs) = (length f.slots < 2 ^ 16) × AreFew fs
