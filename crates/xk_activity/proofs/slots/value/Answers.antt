use Rattle.std.proofs.Common.{rules, pos, refl, sym, ◌∙◌, true, false}
use Rattle.std.specs.Prelude.{slice_index_or}
use Rattle.xk_types.specs.declared.world.Value.TheVariants as value
use Rattle.xk_activity.specs.Slots.{unmarked}
use Rattle.xk_activity.proofs.SlotWordLemmas.{value_read}
use Rattle.xk_activity.proofs.slots.value.Goals as goal

pub returns-in-true : goal.returns-in-true
returns-in-true c =
    let h = value_read c.args.marks c.args.words.now c.args.s true (value.Number (slice_index_or c.args.words.now c.args.s (pos 0))) c.requires.slot (sym c.has.ensures ∙ c.in-true.is) refl in
    search (rules, h)

pub returns-in-false : goal.returns-in-false
returns-in-false c =
    let h = value_read c.args.marks c.args.words.now c.args.s false (unmarked (slice_index_or c.args.words.now c.args.s (pos 0))) c.requires.slot (sym c.has.ensures ∙ c.in-false.is) refl in
    search (rules, h, c.unmarked.ensures)
