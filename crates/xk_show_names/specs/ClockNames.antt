-- What the shared numbers and clocks of a run are called: clocks by the names that they were made under. This project's own.
use Rattle.std.specs.Prelude.{ℕ, ◌+◌, nat_eq, nat_le, ℤ, Bool, not, List, [], ◌∷◌, ◌++◌, length, map, flat_map, take, count_by, Option}
use Rattle.std.specs.Prelude.{Some, None}
use Rattle.std.specs.Prelude.{slice_get, slice_index_or, codes, decimal, if◌then◌else◌}
use Rattle.std.specs.List.{list_any}
use Rattle.std.specs.Cmp.Lexicographic.{pointwise}
use Rattle.xk_types.specs.declared.instr.Instr.{Instr}
use Rattle.xk_types.specs.declared.instr.Instr.TheVariants as instr
use Rattle.xk_types.specs.declared.world.Entry.{Entry}
use Rattle.xk_types.specs.declared.world.Event.{Event}
use Rattle.xk_types.specs.declared.world.Event.TheVariants as event
use Rattle.xk_types.specs.Code.{ModuleValue}
use Rattle.xk_lines.specs.declared.lines.Position.{Position}
use Rattle.xk_unit_origins.specs.UnitOrigins.{slots_at}
use Rattle.xk_show_names.specs.declared.accounts.Account.{Account}
use Rattle.xk_show_names.specs.declared.clock_names.Birth.{Birth}
use Rattle.xk_show_events.specs.declared.steps.RunStep.{RunStep}
use Rattle.xk_show_names.specs.Accounts.{instr_in, recounted_by}
use Rattle.xk_show_names.specs.Letters.{cut_name}
use Rattle.xk_show_names.specs.Methods.{prefix_at}
use Rattle.xk_show_events.specs.Events.{PlacesValue, origin_of}
use Rattle.xk_show_events.specs.Steps.{told_of_run}
use Rattle.xk_show_events.specs.Worlds.{each_below}

-- ---- where clocks are made

-- the slot that a clock is made in
abbrev pub made_in : Option Instr → ℕ
made_in (Some (instr.Make k)) = k
made_in _ = 0

-- where a step made a clock
abbrev pub birth : ModuleValue → RunStep → Birth
birth m s = record { unit = s.unit; place = s.place; slot = made_in (instr_in m s.unit s.place) }

abbrev pub birth_by : ModuleValue → RunStep → Event → List Birth
birth_by m s event.Made = birth m s ∷ []
birth_by m s _ = []

-- where the clocks of a run were made, in the order of their numbers
abbrev pub births : ModuleValue → List ℤ → List Entry → List Birth
births m args log = told_of_run (recounted_by m (λ v a. birth_by m a.step a.step.event)) m args log

-- of those that are made up to the step of this number
abbrev pub birth_until : ℕ → ModuleValue → Account → List Birth
birth_until last m a = if nat_le a.step.number last then birth_by m a.step a.step.event else []

abbrev pub births_until : ℕ → ModuleValue → List ℤ → List Entry → List Birth
births_until last m args log = told_of_run (recounted_by m (λ v a. birth_until last m a)) m args log

-- where these steps made clocks
abbrev pub births_among : ModuleValue → List Account → List Birth
births_among m steps = flat_map (λ a. birth_by m a.step a.step.event) steps

-- ---- names

-- a name of the text: those that no text has are of blanks
abbrev pub is_name : List ℕ → Bool
is_name name = list_any (λ b. not (nat_eq b 32)) name

-- `clock of 4:5`; where no origin says it, unit and place, as `clock of 0.3`
abbrev pub unnamed_by : ℕ → ℕ → Option Position → List ℕ
unnamed_by unit place (Some p) = codes "clock of " ++ (decimal p.line ++ (codes ":" ++ decimal p.column))
unnamed_by unit place None = codes "clock of " ++ (decimal unit ++ (codes "." ++ decimal place))

-- a clock whose name isn't in the text, by where it is made
abbrev pub unnamed : PlacesValue → Birth → List ℕ
unnamed p b = unnamed_by b.unit b.place (origin_of p b.unit b.place)

-- `c`, or `work.c` if a method other than main makes it
abbrev pub name_by : PlacesValue → Birth → Option (List ℕ) → List ℕ
name_by p b None = unnamed p b
name_by p b (Some name) = if is_name name then prefix_at p.origins b.unit ++ cut_name name else unnamed p b

-- by the name of the slot that a clock is made in
abbrev pub name_of : PlacesValue → Birth → List ℕ
name_of p b = name_by p b (slice_get (slots_at p.origins b.unit) b.slot)

-- ---- clocks of one name

abbrev pub is_text : List ℕ → List ℕ → Bool
is_text = pointwise nat_eq

-- nothing for the first clock of a name, `#2` for the second
abbrev pub among : ℕ → List ℕ
among before = if nat_eq before 0 then [] else codes "#" ++ decimal (before + 1)

-- name k of these, and its number among those that are the same
abbrev pub numbered : List (List ℕ) → ℕ → List ℕ
numbered names k = slice_index_or names k [] ++ among (count_by (is_text (slice_index_or names k [])) (take k names))

abbrev pub each_numbered : List (List ℕ) → List (List ℕ)
each_numbered names = each_below (λ k. numbered names k ∷ []) (length names)

-- the names of clocks that were made so
abbrev pub clock_names : PlacesValue → List Birth → List (List ℕ)
clock_names p births = each_numbered (map (name_of p) births)

-- what the shared numbers and clocks of a run are called, as far as it is known
pub record NamesValue : Type 0 where
  pub shared : List (List ℕ)
  pub clocks : List (List ℕ)

-- where the shared numbers have these names, and clocks, which were made so, those that they were made under
abbrev pub names_by : PlacesValue → List (List ℕ) → List Birth → NamesValue
names_by p shared births = record { shared = shared; clocks = clock_names p births }

-- of all clocks of the run that a log stands for
abbrev pub names_in_run : PlacesValue → List (List ℕ) → ModuleValue → List ℤ → List Entry → NamesValue
names_in_run p shared m args log = names_by p shared (births m args log)

-- of those that were made up to the step of this number: no later step tells what they are called
abbrev pub names_until : PlacesValue → List (List ℕ) → ℕ → ModuleValue → List ℤ → List Entry → NamesValue
names_until p shared last m args log = names_by p shared (births_until last m args log)
