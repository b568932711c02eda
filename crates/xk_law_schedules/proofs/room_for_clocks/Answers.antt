-- The law of the contract, from the lemmas on worlds that are reached.
use Rattle.xk_law_schedules.proofs.RoomLaw.{reached_has_room, made_has_room}
use Rattle.xk_law_schedules.proofs.room_for_clocks.Goals as goal

pub returns-clause-reached : goal.returns-clause-reached
returns-clause-reached c = reached_has_room

pub returns-clause-about_to_make : goal.returns-clause-about_to_make
returns-clause-about_to_make c = made_has_room
