-- What holds of standings as callers see them, of their parts as the code keeps them.
use Rattle.std.proofs.Common.{◌≡◌, ℕ, zero, suc, ◌+◌, ◌<◌, ◌^◌, Bool, true, List, [], ◌∷◌, ◌++◌, map, length, get_or, set, Option, Some, is_some, refl, sym, ap, ◌∙◌, subst, arith, slice_get, slice_index_or}
use Rattle.std.specs.List.{list_any, find}
use Rattle.std.specs.Option.{option_map_or, option_map}
use Rattle.xk_types.specs.declared.world.Standing.{Standing}
use Rattle.xk_types.specs.declared.world.Standing.TheVariants as standing
use Rattle.xk_types.specs.World.{Clock, standing_of}
use Rattle.xk_types.specs.Step.{is_signalled, settled_clock, joined}
use Rattle.xk_clocks.specs.Table.{count_at}
use Rattle.xk_registrations.specs.View.{Registration, standing_at, reg_on, AreDistinct, held, IsKept}
use Rattle.xk_registrations.specs.RegistrationChanges.{ClocksValue, RegistrationsValue, is_signalled_in, calls, call_register, IsGiven, AreToldAs, AreAllowed, OwesRegister}
use Rattle.xk_registrations.specs.Standings.{StandingsValue, Rooms, told_of, lists, rooms, rooms_of, is_held_by, registrations, AreKept, AreHandedOn, HasRoomToMake}
use Rattle.xk_registrations.proofs.AllRegistrationsLemmas.{held_item, length-lists, length-told, phase_in, last_in, standing_in, started_in}
use Rattle.xk_registrations.proofs.RegistrationCountLemmas.{registered_many}
use Rattle.xk_registrations.proofs.CallPreconditionLemmas.{may_register}
use Rattle.xk_registrations.proofs.SignalLemmas.{waits_in, find_any, held_in}

pub inside_clocks : (s t : StandingsValue) (k : ℕ) → s ≡ t → k < length (told_of t) → k < length s.numbers.table.clocks
inside_clocks s t k same h =
    subst (λ n. k < n) (length-told s.numbers.lasts s.held s.numbers.table.clocks) (subst (λ (v : StandingsValue). k < length (told_of v)) (sym same) h)

pub how_many : (s t : StandingsValue) (n : ℕ) → s ≡ t → n ≡ length s.numbers.table.clocks → n ≡ length (told_of t)
how_many s t n same is =
    is ∙ sym (length-told s.numbers.lasts s.held s.numbers.table.clocks) ∙ ap (λ (v : StandingsValue). length (told_of v)) same

pub inside_held : (s t : StandingsValue) (items : List RegistrationsValue) (a : ℕ) → s ≡ t → s.held ≡ lists items → a < length t.held → a < length items
inside_held s t items a same is h =
    subst (λ n. a < n) (ap (λ (l : List (List Registration)). length l) is ∙ length-lists items) (subst (λ (v : StandingsValue). a < length v.held) (sym same) h)

-- ---- one clock

pub phase_of : (s t : StandingsValue) (k n : ℕ) → s ≡ t → k < length (told_of t) → n ≡ (count_at s.numbers.table.clocks k).phase
    → option_map (λ (c : Clock). c.phase) (slice_get (told_of t) k) ≡ Some n
phase_of s t k n same h is =
    ap (λ (v : StandingsValue). option_map (λ (c : Clock). c.phase) (slice_get (told_of v) k)) (sym same)
    ∙ phase_in s.numbers.lasts s.held s.numbers.table.clocks k (inside_clocks s t k same h) ∙ ap Some (sym is)

pub last_of : (s t : StandingsValue) (k n : ℕ) → s ≡ t → k < length (told_of t) → n ≡ slice_index_or s.numbers.lasts k 0
    → option_map (λ (c : Clock). c.last) (slice_get (told_of t) k) ≡ Some n
last_of s t k n same h is =
    ap (λ (v : StandingsValue). option_map (λ (c : Clock). c.last) (slice_get (told_of v) k)) (sym same)
    ∙ last_in s.numbers.lasts s.held s.numbers.table.clocks k (inside_clocks s t k same h) ∙ ap Some (sym is)

-- where activity a stands, by what it is registered on
pub stands_of : (s t : StandingsValue) (items : List RegistrationsValue) (a k : ℕ) (x : RegistrationsValue) (o : Option Registration) → s ≡ t → s.held ≡ lists items
    → a < length t.held → x ≡ get_or items a x → k < length (told_of t) → o ≡ reg_on x.list k
    → option_map (λ c. standing_of c a) (slice_get (told_of t) k)
    ≡ Some (option_map_or (λ r. standing_at (count_at s.numbers.table.clocks k).phase r.resumed) o standing.Apart)
stands_of s t items a k x o same is there at h found =
    ap (λ (v : StandingsValue). option_map (λ c. standing_of c a) (slice_get (told_of v) k)) (sym same)
    ∙ standing_in s.numbers.lasts s.held s.numbers.table.clocks a k (inside_clocks s t k same h)
    ∙ ap (λ p. Some (option_map_or (λ r. standing_at (count_at s.numbers.table.clocks k).phase r.resumed) p standing.Apart))
    (ap (λ (acts : List (List Registration)). reg_on (held acts a) k) is
    ∙ ap (λ l. reg_on l k) (held_item items a x (inside_held s t items a same is there) at) ∙ sym found)

pub stands_some : (s t : StandingsValue) (items : List RegistrationsValue) (a k p : ℕ) (x : RegistrationsValue) (r : Registration) (st : Standing) → s ≡ t → s.held ≡ lists items
    → a < length t.held → x ≡ get_or items a x → k < length (told_of t) → Some r ≡ reg_on x.list k
    → p ≡ (count_at s.numbers.table.clocks k).phase → st ≡ standing_at p r.resumed
    → option_map (λ c. standing_of c a) (slice_get (told_of t) k) ≡ Some st
stands_some s t items a k p x r st same is there at h found phase reads =
    stands_of s t items a k x (Some r) same is there at h found
    ∙ ap (λ n. Some (standing_at n r.resumed)) (sym phase) ∙ ap (λ z. Some z) (sym reads)

-- ---- whether it waits

pub waits_of : (s t : StandingsValue) (items : List RegistrationsValue) (a : ℕ) (x : RegistrationsValue) (o : Option Registration) → s ≡ t → s.held ≡ lists items → AreKept s
    → a < length t.held → x ≡ get_or items a x → o ≡ find (is_signalled_in s.numbers.table.clocks) x.list
    → is_some o ≡ list_any (λ c. is_signalled (standing_of c a)) (told_of t)
waits_of s t items a x o same is kept there at first =
    find_any (is_signalled_in s.numbers.table.clocks) x.list o first
    ∙ ap (list_any (is_signalled_in s.numbers.table.clocks))
    (sym (held_item items a x (inside_held s t items a same is there) at) ∙ ap (λ (acts : List (List Registration)). held acts a) (sym is))
    ∙ waits_in s.numbers.lasts s.held s.numbers.table.clocks a kept
    ∙ ap (λ (v : StandingsValue). list_any (λ c. is_signalled (standing_of c a)) (told_of v)) same

-- the first registration that reads as signalled is on a clock that holds it back
pub held_of : (s t : StandingsValue) (items : List RegistrationsValue) (a k : ℕ) (x : RegistrationsValue) (r : Registration) → s ≡ t → s.held ≡ lists items → AreKept s
    → a < length t.held → x ≡ get_or items a x → Some r ≡ find (is_signalled_in s.numbers.table.clocks) x.list → k ≡ r.clock → is_held_by (told_of t) a k ≡ true
held_of s t items a k x r same is kept there at first clock =
    let here : held s.held a ≡ x.list = ap (λ (acts : List (List Registration)). held acts a) is ∙ held_item items a x (inside_held s t items a same is there) at in
    ap (is_held_by (told_of t) a) clock
    ∙ ap (λ (v : StandingsValue). is_held_by (told_of v) a r.clock) (sym same)
    ∙ held_in s.numbers.lasts s.held s.numbers.table.clocks a r kept (ap (find (is_signalled_in s.numbers.table.clocks)) here ∙ sym first)

-- ---- an activity is started

pub may_begin_of : (s t : StandingsValue) (new : List Registration) → s ≡ t → AreKept s → length t.held + 1 < 2 ^ 32 → AreHandedOn t new
    → AreAllowed OwesRegister s.numbers.table.clocks new
may_begin_of s t new same kept few handed =
    let inside : AreHandedOn s new = subst (λ (v : StandingsValue). AreHandedOn v new) (sym same) handed in
    may_register s.numbers.lasts s.held s.numbers.table.clocks inside.by kept inside.there
    (subst (λ (v : StandingsValue). length v.held + 1 < 2 ^ 32) (sym same) few) inside.given new inside.is

pub started_of : (now a : ℕ) (given : ℕ → Bool) (v v' : ClocksValue) (items items' : List RegistrationsValue) (places : List ℕ) (room : ℕ) (t : StandingsValue) (x : RegistrationsValue)
    → record { numbers = v; held = lists items; places = places; room = room } ≡ t → IsKept v.lasts (lists items) v.table.clocks → IsGiven given (held t.held a) x.list
    → AreDistinct x.list → v' ≡ calls now call_register x.list v → items' ≡ items ++ x ∷ []
    → AreToldAs (map (settled_clock now) (joined a given (told_of t))) v' (lists items')
started_of now a given v v' items items' places room t x same kept is distinct called longer =
    subst (λ l. AreToldAs (map (settled_clock now) (joined a given (told_of t))) v' (lists l)) (sym longer)
    (subst (λ (s : StandingsValue). AreToldAs (map (settled_clock now) (joined a given (told_of s))) v' (lists (items ++ x ∷ []))) same
    (started_in now a given v v' items x kept (subst (λ (s : StandingsValue). IsGiven given (held s.held a) x.list) (sym same) is) distinct called))

-- ---- room

rooms_set : (items : List RegistrationsValue) (a : ℕ) (x y : RegistrationsValue) → x ≡ get_or items a x → y.room ≡ x.room → a < length items → rooms (set items a y) ≡ rooms items
rooms_set [] a x y is same h = refl
rooms_set (r ∷ items) zero x y is same h = ap (λ n. n ∷ rooms items) (same ∙ ap (λ (z : RegistrationsValue). z.room) is)
rooms_set (r ∷ items) (suc a) x y is same h = ap (λ l. r.room ∷ l) (rooms_set items a x y is same (omega arith))

-- a call that changes neither the room of the clocks nor that of the activity's registrations leaves all rooms as they were
pub rooms_kept : (s t : StandingsValue) (v : ClocksValue) (items : List RegistrationsValue) (a : ℕ) (x y : RegistrationsValue) → s ≡ t → s.held ≡ lists items
    → s.places ≡ rooms items → a < length t.held → x ≡ get_or items a x → y.room ≡ x.room → v.table.room ≡ s.numbers.table.room
    → (let r : Rooms = record { clocks = v.table.room; places = rooms (set items a y) } in r) ≡ rooms_of t
rooms_kept s t v items a x y same is places there at kept clocks =
    ap (λ n. record { clocks = n; places = rooms (set items a y) }) clocks
    ∙ ap (λ l. record { clocks = s.numbers.table.room; places = l })
    (rooms_set items a x y at kept (inside_held s t items a same is there) ∙ sym places)
    ∙ ap (λ (z : StandingsValue). rooms_of z) same

-- an activity that has a place left has room for one more registration
pub place_left : (s t : StandingsValue) (items : List RegistrationsValue) (a : ℕ) (x : RegistrationsValue) → s ≡ t → s.held ≡ lists items → s.places ≡ rooms items → AreKept s
    → a < length t.held → x ≡ get_or items a x → HasRoomToMake (rooms_of t) (told_of t) a → length x.list < x.room
place_left s t items a x same is places kept there at has =
    let inside = inside_held s t items a same is there in
    let left : registrations (told_of s) a < slice_index_or s.places a 0 =
    subst (λ (z : StandingsValue). registrations (told_of z) a < slice_index_or z.places a 0) (sym same) has.place in
    let many = registered_many s.numbers.lasts s.held s.numbers.table.clocks a kept in
    let list : length (held s.held a) ≡ length x.list = ap length (ap (λ (acts : List (List Registration)). held acts a) is ∙ held_item items a x inside at) in
    let room : slice_index_or s.places a 0 ≡ x.room = ap (λ l. slice_index_or l a 0) places ∙ place_item items a x inside at in
    omega (arith, left, many, list, room)
  where
    place_item : (rs : List RegistrationsValue) (k : ℕ) (y : RegistrationsValue) → k < length rs → y ≡ get_or rs k y → slice_index_or (rooms rs) k 0 ≡ y.room
    place_item [] k y h e = absurd (omega arith)
    place_item (r ∷ rs) zero y h e = ap (λ (z : RegistrationsValue). z.room) (sym e)
    place_item (r ∷ rs) (suc k) y h e = place_item rs k y (omega arith) e

-- there is room for one more clock
pub clock_left : (s t : StandingsValue) (a : ℕ) → s ≡ t → HasRoomToMake (rooms_of t) (told_of t) a → length s.numbers.table.clocks < s.numbers.table.room
clock_left s t a same has =
    subst (λ n. n < s.numbers.table.room) (length-told s.numbers.lasts s.held s.numbers.table.clocks)
    (subst (λ (z : StandingsValue). length (told_of z) < z.numbers.table.room) (sym same) has.clock)
