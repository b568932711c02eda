-- An activity of the machine stands where one of the source does, and both move on.
use Rattle.std.proofs.Common.{◌≡◌, ℕ, ◌+◌, List, [], ◌∷◌, ◌++◌, length, Some, sym, ap, ◌∙◌, subst, ◌⊎◌, inl}
use Rattle.std.specs.Prelude.{slice_get, ⊤}
use Rattle.std.specs.Option.{option_and_then}
use Rattle.xk_types.specs.declared.instr.Instr.{Instr}
use Rattle.xk_types.specs.declared.instr.Instr.TheVariants as instr
use Rattle.xk_types.specs.declared.world.Value.{Value as Held}
use Rattle.xk_types.specs.declared.world.Status.{Status}
use Rattle.xk_types.specs.declared.world.Status.TheVariants as status
use Rattle.xk_types.specs.declared.world.Standing.{Standing}
use Rattle.xk_types.specs.declared.world.Event.{Event}
use Rattle.xk_types.specs.declared.world.Event.TheVariants as event
use Rattle.xk_types.specs.World.{Frame, Activity, World, instruction_at}
use Rattle.xk_types.specs.Step.{Outcome, done, none, past, carried_out, run_at}
use Rattle.xk_tree.specs.Tree.{Statement}
use Rattle.xk_emit.specs.CodeOf.{Scope, declared, before, code_of}
use Rattle.xk_source_semantics.specs.Parts.{Part}
use Rattle.xk_source_semantics.specs.Compilation.{unit_of_part}
use Rattle.xk_source_semantics.specs.Source.{Todo, Do, Turn, Close, Names, Doing, SourceActivity, SourceWorld, continued, source_by, source_of, source_step}
use Rattle.xk_law_compiler.proofs.ExpressionLemmas.{exec, IsMatched}
use Rattle.xk_law_compiler.proofs.PairwiseLemmas.{Pairs}
use Rattle.xk_law_compiler.proofs.WorldLemmas.{AreRelated, Follows, both_move, one_moves}
use Rattle.xk_law_compiler.proofs.PlaceLemmas.{code_in}
use Rattle.xk_law_compiler.proofs.RelationLemmas.{Whole, Stands, Rest, IsSimple}
use Rattle.xk_law_compiler.proofs.UnitEntryLemmas.{AreBuilt}

-- between two statements
pub record Between (cx : Whole) (part : Part) (place : ℕ) (slots : List Held) (todo : List Todo) (names : Names) : Type 0 where
  pub t : ℕ
  pub scope : Scope
  pub matched : IsMatched scope names slots
  pub rest : Rest cx t part scope place todo

-- within the first part of a statement's code, of which these instructions are done
pub record Within (cx : Whole) (part : Part) (place : ℕ) (slots : List Held) (s : Statement) (rest : List Todo) (names : Names) : Type 0 where
  pub t : ℕ
  pub scope : Scope
  pub n : ℕ
  pub first : ℕ
  pub start : List Held
  pub past : List Instr
  pub ahead : List Instr
  pub stands : Stands cx t part scope n first s
  pub matched : IsMatched scope names start
  pub simple : IsSimple s
  pub after : Rest cx t part (declared scope n s) (first + length (code_of cx.setting t scope n first s)) rest
  pub split : before cx.setting scope t n s ≡ past ++ ahead
  pub ran : exec past start ≡ Some slots
  pub at : place ≡ first + length past

abbrev pub WithinFirst : Whole → Part → ℕ → List Held → List Todo → Names → Type 0
WithinFirst cx part place slots [] names = ⊥
WithinFirst cx part place slots (Do s ∷ rest) names = Within cx part place slots s rest names
WithinFirst cx part place slots (Turn i x hi s ∷ rest) names = ⊥
WithinFirst cx part place slots (Close ∷ rest) names = ⊥

abbrev pub RunsAs : Whole → Part → ℕ → List Held → List Todo → Names → Type 0
RunsAs cx part place slots todo names = Between cx part place slots todo names ⊎ WithinFirst cx part place slots todo names

-- by status
abbrev pub Stage : Whole → Part → Status → Frame → Doing → Type 0
Stage cx part status.Running f c = RunsAs cx part f.place f.slots c.todo c.names
Stage cx part status.Arrived f c =
    (slice_get (code_in cx.setting part) f.place ≡ Some instr.Advance) × Between cx part (f.place + 1) f.slots c.todo c.names
Stage cx part status.Ended f c = ⊤

-- a frame that waits for a method to return
pub record Waits (cx : Whole) (f : Frame) (c : Doing) : Type 0 where
  pub part : Part
  pub placed : slice_get cx.units f.unit ≡ Some part
  pub found : slice_get cx.m.units f.unit ≡ Some (unit_of_part cx.setting part)
  pub callee : ℕ
  pub arguments : List ℕ
  pub calls : slice_get (code_in cx.setting part) f.place ≡ Some (instr.Call callee arguments)
  pub between : Between cx part (f.place + 1) f.slots c.todo c.names

pub record IsAs (cx : Whole) (act : Activity) (call : SourceActivity) : Type 0 where
  pub status : act.status ≡ call.status
  pub opened : act.opened ≡ call.opened
  pub governed : act.governed ≡ call.governed
  pub part : Part
  pub placed : slice_get cx.units act.frame.unit ≡ Some part
  pub found : slice_get cx.m.units act.frame.unit ≡ Some (unit_of_part cx.setting part)
  pub stage : Stage cx part act.status act.frame call.frame
  pub callers : Pairs (Waits cx) act.callers call.callers

-- an activity that runs, and the source's, which does the same
pub record RunningPair : Type 0 where
  pub cx : Whole
  pub built : AreBuilt cx
  pub w : World
  pub v : SourceWorld
  pub a : ℕ
  pub rel : AreRelated (IsAs cx) w v
  pub act : Activity
  pub call : SourceActivity
  pub here : slice_get w.activities a ≡ Some act
  pub there : slice_get v.activities a ≡ Some call
  pub like : IsAs cx act call
  pub running : act.status ≡ status.Running

module _ (pair : RunningPair) where
  open pair use {cx, w, v, a, rel, act, call, there, like, running}

  abbrev pub Good : Outcome → Type 0
  Good o = Follows cx.tree (IsAs cx) v a o

  -- the code that it is in
  abbrev pub its_code : List Instr
  its_code = code_in cx.setting like.part

  source_running : call.status ≡ status.Running
  source_running = sym like.status ∙ running

  -- what the source's activity does next
  pub source_runs : (todo : List Todo) → call.frame.todo ≡ todo → source_step cx.tree v a ≡ continued cx.tree v a call todo
  source_runs todo e = ap (source_of cx.tree v a) there ∙ (ap (source_by cx.tree v a call) source_running ∙ ap (continued cx.tree v a call) e)

  pub stage_of : (part : Part) (st : Status) (f : Frame) (c : Doing) → st ≡ status.Running → RunsAs cx part f.place f.slots c.todo c.names
      → Stage cx part st f c
  stage_of part st f c e r = subst (λ s. Stage cx part s f c) (sym e) r

  -- the same but for its frame's place and slots, for what is left and known, and for how many finishes are open
  pub goes_open : (place : ℕ) (slots : List Held) (todo : List Todo) (names : Names) (k l : ℕ) → k ≡ l
      → RunsAs cx like.part place slots todo names
      → IsAs cx (record act { frame = record { unit = act.frame.unit; place = place; slots = slots }; opened = k })
      (record call { frame = record { todo = todo; names = names }; opened = l })
  goes_open place slots todo names k l e r = record {
    status = like.status;
    opened = e;
    governed = like.governed;
    part = like.part;
    placed = like.placed;
    found = like.found;
    stage = stage_of like.part act.status (record { unit = act.frame.unit; place = place; slots = slots }) (record { todo = todo; names = names }) running r;
    callers = like.callers;
  }

  pub goes : (place : ℕ) (slots : List Held) (todo : List Todo) (names : Names) → RunsAs cx like.part place slots todo names
      → IsAs cx (record act { frame = record { unit = act.frame.unit; place = place; slots = slots } }) (record call { frame = record { todo = todo; names = names } })
  goes place slots todo names r = goes_open place slots todo names act.opened call.opened like.opened r

  pub at_place : (i : Instr) → slice_get its_code act.frame.place ≡ Some i → Good (carried_out cx.m w a act i)
      → Good (run_at cx.m w a act (instruction_at cx.m act.frame))
  at_place i e h =
      subst (λ o. Good (run_at cx.m w a act o)) (sym (ap (option_and_then (λ u. slice_get u.code act.frame.place)) like.found ∙ e)) h

  -- the source stays
  pub waits_here : (todo : List Todo) → call.frame.todo ≡ todo → (place : ℕ) (slots : List Held)
      → RunsAs cx like.part place slots todo call.frame.names
      → Good (done w a (record act { frame = record { unit = act.frame.unit; place = place; slots = slots } }) none event.Local)
  waits_here todo e place slots r =
      one_moves cx.tree (IsAs cx) w v a rel _ call there
      (goes place slots call.frame.todo call.frame.names (subst (λ x. RunsAs cx like.part place slots x call.frame.names) (sym e) r))

  -- both move on
  pub moves : (place : ℕ) (slots : List Held) (todo : List Todo) (names : Names) (change : ℕ → Standing → Standing) (e : Event)
      → source_step cx.tree v a ≡ done v a (record call { frame = record { todo = todo; names = names } }) change e
      → Between cx like.part place slots todo names
      → Good (done w a (record act { frame = record { unit = act.frame.unit; place = place; slots = slots } }) change e)
  moves place slots todo names change e st b = both_move cx.tree (IsAs cx) w v a rel _ _ change e st (goes place slots todo names (inl b))
