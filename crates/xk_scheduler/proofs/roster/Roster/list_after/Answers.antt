use Rattle.std.proofs.Common.{◌∙◌, ap, sym, arith}
use Rattle.xk_scheduler.specs.Rosters.{RosterValue}
use Rattle.xk_scheduler.proofs.RosterLemmas.{listed_behind, listed_with, out_behind, room_other, there_behind}
use Rattle.xk_scheduler.proofs.roster.Roster.list_after.Goals as goal

pub list_woken-requires : goal.list_woken-requires
list_woken-requires c = there_behind c.args.core.now c.args.act c.args.event c.args.self.now c.requires

pub note_waiting-is_held-requires : goal.note_waiting-is_held-requires
note_waiting-is_held-requires c =
    out_behind c.args.core.now c.args.act c.args.event c.args.self.now c.requires c.list_woken.new.self c.list_woken.ensures.woken c.list_woken.ensures.room

pub list_own-requires : goal.list_own-requires
list_own-requires c =
    let out = out_behind c.args.core.now c.args.act c.args.event c.args.self.now c.requires c.list_woken.new.self c.list_woken.ensures.woken c.list_woken.ensures.room in
    omega (arith, out.there, out.room.acts, ap (λ (r : RosterValue). r.room) c.note_waiting-is_held.ensures.kept)

pub other_to_list-requires : goal.other_to_list-requires
other_to_list-requires c =
    (out_behind c.args.core.now c.args.act c.args.event c.args.self.now c.requires c.list_woken.new.self c.list_woken.ensures.woken c.list_woken.ensures.room).there

pub list_one-requires : goal.list_one-requires
list_one-requires c =
    room_other c.args.core.now c.args.act c.args.event c.args.self.now c.requires c.list_woken.new.self c.list_woken.ensures.woken c.list_woken.ensures.room
    c.note_waiting-is_held.new.self c.list_own.new.self c.note_waiting-is_held.result c.list_own.result c.note_waiting-is_held.ensures.noted c.note_waiting-is_held.ensures.kept
    c.note_waiting-is_held.ensures.held c.list_own.ensures.can c.list_own.ensures.members c.in-Some.other (sym c.other_to_list.ensures ∙ c.in-Some.is)

pub returns-in-Some : goal.returns-in-Some
returns-in-Some c =
    listed_with c.args.core.now c.args.act c.args.event c.args.self.now c.requires c.list_woken.new.self c.list_woken.ensures.woken c.list_woken.ensures.room
    c.note_waiting-is_held.new.self c.list_own.new.self c.note_waiting-is_held.result c.list_own.result c.note_waiting-is_held.ensures.noted c.note_waiting-is_held.ensures.kept
    c.note_waiting-is_held.ensures.held c.list_own.ensures.can c.list_own.ensures.members c.list_one.new.self c.in-Some.other (sym c.other_to_list.ensures ∙ c.in-Some.is) c.list_one.ensures

pub returns-in_default : goal.returns-in_default
returns-in_default c =
    listed_behind c.args.core.now c.args.act c.args.event c.args.self.now c.requires c.list_woken.new.self c.list_woken.ensures.woken c.list_woken.ensures.room
    c.note_waiting-is_held.new.self c.list_own.new.self c.note_waiting-is_held.result c.list_own.result c.note_waiting-is_held.ensures.noted c.note_waiting-is_held.ensures.kept
    c.note_waiting-is_held.ensures.held c.list_own.ensures.can c.list_own.ensures.members (sym c.in_default.ensures)
