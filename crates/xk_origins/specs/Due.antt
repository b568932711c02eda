-- What an activity has to do next in the source, where one of a module stands at a place. This project's own.
use Rattle.std.specs.Prelude.{◌≡◌, ℕ, ◌+◌, List, [], ◌∷◌, Some, None, slice_get, ⊤}
use Rattle.std.specs.Option.{option_map_or}
use Rattle.xk_types.specs.declared.instr.Instr.{Instr}
use Rattle.xk_types.specs.declared.instr.Instr.TheVariants as instr
use Rattle.xk_types.specs.declared.world.Status.{Status}
use Rattle.xk_types.specs.declared.world.Status.TheVariants as status
use Rattle.xk_types.specs.Code.{ModuleValue}
use Rattle.xk_types.specs.World.{Frame, Activity, World}
use Rattle.xk_types.specs.declared.instr.Comparison.{Comparison}
use Rattle.xk_tree.specs.declared.tree.Verb.{Verb}
use Rattle.xk_tree.specs.Tree.{Word, Expression, UpTo, Least, Statement, IfElse, For, Finish, Call, AdvanceAll, TreeValue}
use Rattle.xk_names.specs.Captures.{shared_texts}
use Rattle.xk_source_semantics.specs.Parts.{Part}
use Rattle.xk_source_semantics.specs.Source.{Todo, Do, Turn, Close, Doing, SourceActivity}
use Rattle.xk_source_semantics.specs.Meaning.{HasRun, Moment, have_ended}
use Rattle.xk_origins.specs.Origin.{Origin, Does, Ends, Leaves, part_origins}
use Rattle.xk_origins.specs.Laws.{code_at}

-- What is left to do begins with what an origin says: with the statement, with the end of a turn of the loop, or with the end of the `finish`; or nothing
-- is left. No activity of the source is ever about to jump over an `else`.
abbrev pub Begins : List Todo → Origin → Type 0
Begins todo (Does s) = (rest : List Todo) × (todo ≡ Do s ∷ rest)
Begins todo (Ends (For at i lo (UpTo hi) s)) = (rest : List Todo) × (todo ≡ Turn i None hi.value s ∷ rest)
Begins todo (Ends (For at i lo (Least x v e hi) s)) = (rest : List Todo) × (todo ≡ Turn i (Some x) hi.value s ∷ rest)
Begins todo (Ends (Finish at s)) = (rest : List Todo) × (todo ≡ Close ∷ rest)
Begins todo (Leaves p) = todo ≡ []
Begins todo _ = ⊥

-- What is due at a place of a unit, with this code and these origins: what the origin there says comes first. Where that is a jump over an `else`, the
-- source is behind it already: what is due is so where the jump leads.
pub data IsDue (code : List Instr) (origins : List Origin) (todo : List Todo) : ℕ → Type 0 where
  at_once : (place : ℕ) (o : Origin) → slice_get origins place ≡ Some o → Begins todo o → IsDue code origins todo place
  behind_else : (place next : ℕ) (at : ℕ) (l : Expression) (op : Comparison) (r : Expression) (s u : Statement)
      → slice_get origins place ≡ Some (Ends (IfElse at l op r s u)) → slice_get code place ≡ Some (instr.Jump next)
      → IsDue code origins todo next → IsDue code origins todo place

-- ---- where these parts of a program have the units of a module

-- the origins of a unit's instructions; none where there is no such unit
abbrev pub origins_of : TreeValue → List Part → ℕ → List Origin
origins_of t units unit = option_map_or (part_origins (shared_texts t.shared)) (slice_get units unit) []

-- what is due at a place of a unit
abbrev pub IsDueAt : TreeValue → ModuleValue → List Part → ℕ → ℕ → List Todo → Type 0
IsDueAt t m units unit place todo = IsDue (code_at m unit) (origins_of t units unit) todo place

-- A frame that waits stands at a call, and what its call in the source has left to do is due behind it.
pub record WaitsAs (t : TreeValue) (m : ModuleValue) (units : List Part) (f : Frame) (c : Doing) : Type 0 where
  pub method : Word
  pub at : ℕ
  pub arguments : List Expression
  pub calls : slice_get (origins_of t units f.unit) f.place ≡ Some (Does (Call method at arguments))
  pub due : IsDueAt t m units f.unit (f.place + 1) c.todo

-- one that has arrived has the first half of an `advanceAll` behind it
pub record HasArrived (t : TreeValue) (m : ModuleValue) (units : List Part) (f : Frame) (c : Doing) : Type 0 where
  pub at : ℕ
  pub verb : Verb
  pub arrives : slice_get (origins_of t units f.unit) f.place ≡ Some (Does (AdvanceAll at verb))
  pub due : IsDueAt t m units f.unit (f.place + 1) c.todo

-- the last frame of an activity, and its innermost call in the source, by status
abbrev pub StandsBy : TreeValue → ModuleValue → List Part → Status → Frame → Doing → Type 0
StandsBy t m units status.Running f c = IsDueAt t m units f.unit f.place c.todo
StandsBy t m units status.Arrived f c = HasArrived t m units f c
StandsBy t m units status.Ended f c = ⊤

-- one for one, and as many
abbrev pub AreBeside : {A B : Type 0} → (A → B → Type 0) → List A → List B → Type 0
AreBeside Is [] [] = ⊤
AreBeside Is (x ∷ xs) (y ∷ ys) = Is x y × AreBeside Is xs ys
AreBeside Is _ _ = ⊥

-- an activity of the module, and one of the source
pub record StandsAs (t : TreeValue) (m : ModuleValue) (units : List Part) (act : Activity) (call : SourceActivity) : Type 0 where
  pub status : act.status ≡ call.status
  pub opened : act.opened ≡ call.opened
  pub last : StandsBy t m units act.status act.frame call.frame
  pub waiting : AreBeside (WaitsAs t m units) act.callers call.callers

-- There is a run of the program with the same arguments and these moments, in whose last world each activity stands as the one of the module's.
pub record HasRunBeside (t : TreeValue) (m : ModuleValue) (units : List Part) (seen : List Moment) (w : World) : Type 0 where
  pub run : HasRun t w.arguments seen (have_ended w)
  pub stand : AreBeside (StandsAs t m units) w.activities run.last.activities
