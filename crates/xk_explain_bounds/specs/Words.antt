-- The words of notes. Units and slots have their names of the text; where it isn't known where a unit comes from, they have their numbers. This
-- project's own.
use Rattle.std.specs.Prelude.{ℕ, List, [], ◌++◌, Option, Some, None, codes, decimal, slice_get}
use Rattle.std.specs.Option.{option_map_or}
use Rattle.xk_types.specs.declared.rules.Kind.{Kind}
use Rattle.xk_types.specs.declared.rules.Kind.TheVariants as kind
use Rattle.xk_unit_origins.specs.UnitOrigins.{UnitOrigins}
use Rattle.xk_explain_words.specs.Names.{told_name}
use Rattle.xk_explain.specs.Notes.{NoteValue}
use Rattle.xk_explain.specs.SourceExplanations.{slot_title}
use Rattle.xk_explain_bounds.specs.declared.remark.Deed.{Deed}
use Rattle.xk_explain_bounds.specs.declared.remark.Deed.TheVariants as deed
use Rattle.xk_explain_bounds.specs.declared.remark.Fact.{Fact}
use Rattle.xk_explain_bounds.specs.declared.remark.Fact.TheVariants as fact
use Rattle.xk_explain_bounds.specs.declared.remark.Remark.{Remark}
use Rattle.xk_explain_bounds.specs.Amounts.{amount, counted}

-- ---- names

-- a unit by its name, with no more than 60 letters of it; by these words, if it has none; or by its number: `unit 2`
abbrev pub unit_words : List ℕ → List UnitOrigins → ℕ → List ℕ
unit_words nameless origins unit =
    option_map_or (λ u. option_map_or told_name u.head.name nameless) (slice_get origins unit) (codes "unit " ++ decimal unit)

-- one that is spoken of at its own place: `main`, ``this `async` ``
abbrev pub this_unit : List UnitOrigins → ℕ → List ℕ
this_unit origins unit = unit_words (codes "this `async`") origins unit

-- one that is spoken of at a place in it: `main`, ``the `async` around it``
abbrev pub unit_around : List UnitOrigins → ℕ → List ℕ
unit_around origins unit = unit_words (codes "the `async` around it") origins unit

-- a slot of a unit: `` `c` ``, or `slot 3`
abbrev pub slot_words : List UnitOrigins → ℕ → ℕ → List ℕ
slot_words origins unit slot = option_map_or (λ u. slot_title u.slots slot) (slice_get origins unit) (codes "slot " ++ decimal slot)

-- ---- words

-- ` 12 times in one run of main`
unfoldable pub times_words : ℕ → List ℕ → List ℕ
times_words n around = ((codes " " ++ counted n (codes " time") (codes " times")) ++ codes " in one run of ") ++ around

-- `this loop has 10 turns each time, 100 in one run of main`
unfoldable pub loop_words : ℕ → ℕ → List ℕ → List ℕ
loop_words turns all around =
    ((((codes "this loop has " ++ counted turns (codes " turn") (codes " turns")) ++ codes " each time, ") ++ amount all) ++ codes " in one run of ") ++ around

-- ` takes 20 steps at most`
unfoldable pub most_words : List ℕ → ℕ → List ℕ → List ℕ → List ℕ
most_words does n one many = (does ++ counted n one many) ++ codes " at most"

-- ` has 3 slots, at most 12 with those that it calls`
unfoldable pub slots_words : ℕ → ℕ → List ℕ
slots_words own all =
    (((codes " has " ++ counted own (codes " slot") (codes " slots")) ++ codes ", at most ") ++ amount all) ++ codes " with those that it calls"

-- what a slot may hold
abbrev pub may_hold : Kind → List ℕ
may_hold kind.Unset = codes " may hold nothing yet"
may_hold kind.Number = codes " may be a number"
may_hold kind.Live = codes " may be held still"
may_hold kind.Resumed = codes " may be held still"
may_hold kind.Out = codes " may be dropped already"

-- when: what is done with it in a unit
abbrev pub deed_words : List UnitOrigins → ℕ → Deed → List ℕ
deed_words origins unit deed.Resumed = codes " when it is resumed here"
deed_words origins unit deed.Dropped = codes " when it is dropped here"
deed_words origins unit deed.Started = codes " when it is handed on here"
deed_words origins unit (deed.Called t) = (codes " when it is lent to " ++ this_unit origins t) ++ codes " here"
deed_words origins unit deed.Finished = codes " when the finish ends here"
deed_words origins unit deed.MadeAnew = codes " when it is made anew here"
deed_words origins unit deed.Left = (codes " when " ++ this_unit origins unit) ++ codes " ends here"
deed_words origins unit deed.Other = codes " where it is used here"

-- those that a unit of this name starts
unfoldable pub started_by : List ℕ → List ℕ
started_by name = (codes "those that " ++ name) ++ codes " starts"

-- who is waited for at the end of a finish
abbrev pub started_words : List UnitOrigins → Deed → List ℕ
started_words origins (deed.Called t) = started_by (this_unit origins t)
started_words origins _ = codes "the one started here"

unfoldable pub waits_words : List ℕ → List ℕ → List ℕ
waits_words started clock =
    (((codes "at its end the finish waits for " ++ started) ++ codes ", which may wait on ") ++ clock) ++ codes " for this activity"

-- what is told of a place of a unit
abbrev pub words : List UnitOrigins → ℕ → Fact → List ℕ
words origins unit (fact.Loop turns all) = loop_words turns all (unit_around origins unit)
words origins unit (fact.Call t n) = (this_unit origins t ++ codes " is called here") ++ times_words n (unit_around origins unit)
words origins unit (fact.Start t n) = (this_unit origins t ++ codes " is started") ++ times_words n (unit_around origins unit)
words origins unit (fact.Make n) = codes "a clock is made here" ++ times_words n (unit_around origins unit)
words origins unit (fact.Steps n) = this_unit origins unit ++ most_words (codes " takes ") n (codes " step") (codes " steps")
words origins unit (fact.Activities n) = this_unit origins unit ++ most_words (codes " starts ") n (codes " activity") (codes " activities")
words origins unit (fact.Clocks n) = this_unit origins unit ++ most_words (codes " makes ") n (codes " clock") (codes " clocks")
words origins unit (fact.Slots own all) = this_unit origins unit ++ slots_words own all
words origins unit (fact.Made s) = slot_words origins unit s ++ codes " is made here"
words origins unit (fact.Outside s) = slot_words origins unit s ++ codes " comes from outside"
words origins unit (fact.Dropped s) = slot_words origins unit s ++ codes " is dropped here"
words origins unit fact.Open = codes "this finish is open"
words origins unit fact.Begins = codes "the finish begins here"
words origins unit (fact.Holds s k d) = (slot_words origins unit s ++ may_hold k) ++ deed_words origins unit d
words origins unit (fact.Waits s d) = waits_words (started_words origins d) (slot_words origins unit s)

-- ---- notes

-- `unit 0 at 3: `, before what is told of an instruction of a unit without origins
abbrev pub place_before : ℕ → Option ℕ → List ℕ
place_before unit None = []
place_before unit (Some at) = codes "unit " ++ (decimal unit ++ (codes " at " ++ (decimal at ++ codes ": ")))

-- where a remark on a unit with origins stands in the text
abbrev pub place_in : UnitOrigins → Option ℕ → Option ℕ
place_in u None = Some u.head.at
place_in u (Some at) = slice_get u.offsets at

-- the note of a remark
abbrev pub note_of : List UnitOrigins → Remark → NoteValue
note_of origins r =
    option_map_or (λ u. record { at = place_in u r.at; text = words origins r.unit r.fact; repair = None }) (slice_get origins r.unit)
    (record { at = None; text = place_before r.unit r.at ++ words origins r.unit r.fact; repair = None })
