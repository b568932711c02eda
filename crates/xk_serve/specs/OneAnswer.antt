-- When two answers to one job are the same. Which walk to a refusal of kinds is told is left open, and so is what `explain` writes to standard output of
-- a refusal, which run workers take, and which fault is told of a source text that spells no tree, or has several recursive calls. This project's own.
use Rattle.std.specs.Prelude.{◌≡◌, ℕ, ℤ, ⊤, ◌⊎◌, true, List, [], ◌++◌, length}
use Rattle.xk_types.specs.declared.world.Entry.{Entry}
use Rattle.xk_types.specs.Code.{ModuleValue}
use Rattle.xk_tree.specs.Tree.{TreeValue}
use Rattle.xk_tree.specs.declared.fault.FrontFault.{FrontFault}
use Rattle.xk_codegen.specs.Faults.{AreRecursive}
use Rattle.xk_typestate.specs.declared.fault.KindFault.{KindFault}
use Rattle.xk_jobs.specs.Tasks.{By, Greedy, In, Way}
use Rattle.xk_io.specs.Lines.{number_lines}
use Rattle.xk_jobs.specs.Status.{status_done}
use Rattle.xk_replay.specs.Chart.{chart_text}
use Rattle.xk_answers.specs.declared.job_result.Done.{Done}
use Rattle.xk_answers.specs.declared.job_result.Done.TheVariants as done
use Rattle.xk_answers.specs.declared.picture.Picture.TheVariants as picture
use Rattle.xk_program.specs.declared.fault.Fault.{Fault}
use Rattle.xk_program.specs.declared.fault.Fault.TheVariants as fault
use Rattle.xk_bounds.specs.declared.refusal.Refusal.{Refusal}
use Rattle.xk_bounds.specs.declared.refusal.Refusal.TheVariants as refusal
use Rattle.xk_serve.specs.Answer.{Answers, IsSaidOf, Reply, Task, done_reply, fault_reply}
use Rattle.xk_answers.specs.Results.{Check, Count, Doing, Draw, Expected, Explain, IsLogText, Json, OutcomePage, Outcomes, Replay, Run}
use Rattle.xk_answers.specs.Results.{RunShown, Shown}
use Rattle.xk_messages.specs.Lines.{ended_line, kind_text, line, rounds_line}
use Rattle.xk_program.specs.Programs.{Gives, IsSource, SpellsNone}

-- one slot is refused at one place, where it is of one kind, by one rule, and neither fault has a longer walk there
pub record IsSameRefusal (f g : KindFault) : Type 0 where
  pub rule : f.rule ≡ g.rule
  pub unit : f.unit ≡ g.unit
  pub at : f.at ≡ g.at
  pub slot : f.slot ≡ g.slot
  pub kind : f.kind ≡ g.kind
  pub as_long : length f.walk.items ≡ length g.walk.items

-- both refusals are of one slot so, maybe with different walks to it
abbrev pub AreWalks : Refusal → Refusal → Type 0
AreWalks (refusal.Kind f) (refusal.Kind g) = IsSameRefusal f g
AreWalks _ _ = ⊥

-- both lines tell one refusal of kinds, maybe with different walks to it
pub record TellWalks (a b : List ℕ) : Type 0 where
  pub here : KindFault
  pub there : KindFault
  pub same : IsSameRefusal here there
  pub told_here : a ≡ line (kind_text here)
  pub told_there : b ≡ line (kind_text there)

-- the lines are one, but for the walk to a refusal of kinds
abbrev pub IsSameLine : List ℕ → List ℕ → Type 0
IsSameLine a b = (a ≡ b) ⊎ TellWalks a b

-- what is told as one value is one: of a run that no workers take
abbrev pub IsOneShown : Shown → Type 0
IsOneShown (RunShown (By n) kept) = ⊥
IsOneShown (RunShown way kept) = ⊤
IsOneShown _ = ⊥

-- and has one status: of any run
abbrev pub HasOneShownStatus : Shown → Type 0
HasOneShownStatus (RunShown way kept) = ⊤
HasOneShownStatus _ = ⊥

-- what it comes to is one: no workers take the steps, and no outcomes are looked for, which may be told in any order, and of which one may be without all
abbrev pub ComesToOne : Doing → Type 0
ComesToOne (Run (By n) kept) = ⊥
ComesToOne (Outcomes sets limit pick kept) = ⊥
ComesToOne (Count sets limit) = ⊥
ComesToOne (Expected sets limit) = ⊥
ComesToOne (Json s) = IsOneShown s
ComesToOne _ = ⊤

-- what goes to standard output is one: what it comes to is, and no page is made of an outcome, of which there may be several runs, and no refusal is
-- explained, to which there may be several walks
abbrev pub IsDetermined : Doing → Type 0
IsDetermined (Run (By n) kept) = ⊥
IsDetermined (Outcomes sets limit pick kept) = ⊥
IsDetermined (Count sets limit) = ⊥
IsDetermined (Expected sets limit) = ⊥
IsDetermined (OutcomePage window limit pick) = ⊥
IsDetermined (Explain json) = ⊥
IsDetermined (Json s) = IsOneShown s
IsDetermined _ = ⊤

-- the status is one: no outcomes are looked for, which may be all or not, and of which one may be there or not
abbrev pub HasOneStatus : Doing → Type 0
HasOneStatus (Outcomes sets limit pick kept) = ⊥
HasOneStatus (Count sets limit) = ⊥
HasOneStatus (Expected sets limit) = ⊥
HasOneStatus (OutcomePage window limit pick) = ⊥
HasOneStatus (Json s) = HasOneShownStatus s
HasOneStatus _ = ⊤

-- Two replies to a job are one, but for the walk to a refusal of kinds; where workers take the steps, but for the numbers and the log of the run; where
-- outcomes are looked for, but for what is found; of `explain`, but for standard output. (What it says there of a fault is `IsSaidOf`; of an accepted
-- program that is one, by `one_answer`; of one that is refused by `explanations`.)
pub record IsSameReply (what : Doing) (r s : Reply) : Type 0 where
  pub status : HasOneStatus what → r.status ≡ s.status
  pub err : IsSameLine r.err s.err
  pub out : IsDetermined what → r.out ≡ s.out
  pub log : ComesToOne what → r.log ≡ s.log

-- the reply tells this fault, and what is said of it
abbrev pub IsReplyOf : Task → List ℕ → Fault → Reply → Type 0
IsReplyOf t bytes f r = (said : List ℕ) × IsSaidOf t bytes f said × (r ≡ fault_reply t bytes said f)

-- ---- source texts

-- which of two faults of a source text is told is left open: the bytes spell no tree, or both are recursive calls of the tree that they spell
abbrev pub IsLeftOpen : List ℕ → FrontFault → FrontFault → Type 0
IsLeftOpen bytes f g = (SpellsNone bytes f × SpellsNone bytes g) ⊎ ((tree : TreeValue) × IsSource bytes tree × AreRecursive tree f g)

-- both replies refuse the source text, each by a fault of which that is left open
pub record TellFaults (t : Task) (bytes : List ℕ) (r s : Reply) : Type 0 where
  pub here : FrontFault
  pub there : FrontFault
  pub left : IsLeftOpen bytes here there
  pub said_here : List ℕ
  pub said_there : List ℕ
  pub of_here : IsSaidOf t bytes (fault.Front here) said_here
  pub of_there : IsSaidOf t bytes (fault.Front there) said_there
  pub told_here : r ≡ fault_reply t bytes said_here (fault.Front here)
  pub told_there : s ≡ fault_reply t bytes said_there (fault.Front there)

-- ---- what is explained

-- which of two faults of the bytes is told is left open
abbrev pub AreLeftOpen : List ℕ → Fault → Fault → Type 0
AreLeftOpen bytes (fault.Front f) (fault.Front g) = IsLeftOpen bytes f g
AreLeftOpen bytes (fault.Refused r) (fault.Refused q) = AreWalks r q
AreLeftOpen bytes _ _ = ⊥

-- both replies tell a fault, of which that is left open, and what is said of it
pub record ExplainFaults (t : Task) (bytes : List ℕ) (r s : Reply) : Type 0 where
  pub here : Fault
  pub there : Fault
  pub left : AreLeftOpen bytes here there
  pub of_here : IsReplyOf t bytes here r
  pub of_there : IsReplyOf t bytes there s

-- the same job with `check` in place of `explain`
abbrev pub checking : Task → Task
checking t = record { doing = Check; file = t.file; form = t.form; arguments = t.arguments }

-- `check` may answer with the same status and the same standard error
abbrev pub MayCheck : Task → List ℕ → List ℕ → Reply → Type 0
MayCheck t bytes logged r = (s : Reply) × Answers (checking t) bytes logged s × (s.status ≡ r.status) × (s.err ≡ r.err)

-- ---- the log of a run

-- What `replay` prints where a run in this way printed that: the same, but for the number of rounds.
abbrev pub PrintsAgain : Way → List ℕ → List ℕ → Type 0
PrintsAgain (Greedy p) out again = (numbers : List ℤ) × (steps : ℕ) × (rounds : ℕ)
    × (out ≡ number_lines numbers ++ rounds_line steps rounds) × (again ≡ number_lines numbers ++ ended_line steps)
PrintsAgain (In o) out again = again ≡ out
PrintsAgain (By n) out again = again ≡ out

-- the same job with the log of a run in place of the run
abbrev pub replaying : Task → Task
replaying t = record { doing = Replay; file = t.file; form = t.form; arguments = t.arguments }

abbrev pub charting : Task → Task
charting t = record { doing = Draw picture.Chart; file = t.file; form = t.form; arguments = t.arguments }

-- the job is done, and this is printed
abbrev pub done_with : List ℕ → Reply
done_with out = record { status = status_done; out = out; err = []; log = [] }

-- it is a chart, and has these bytes
abbrev pub IsChartOf : List ℕ → Done → Type 0
IsChartOf text (done.Told found whole) = (found.items ≡ text) × (whole ≡ true)
IsChartOf text _ = ⊥

-- the bytes of a log are the text of one, and whatever has the chart of its run may be the answer of `chart`
abbrev pub MayChart : Task → List ℕ → List ℕ → Type 0
MayChart t bytes logged = (m : ModuleValue) × (es : List Entry) × Gives t.form bytes m × IsLogText logged es
    × ((d : Done) → IsChartOf (chart_text m t.arguments es) d → Answers (charting t) bytes logged (done_reply d))

-- the reply is the chart of the run that the log has in these bytes
abbrev pub IsCharted : Task → List ℕ → List ℕ → Reply → Type 0
IsCharted t bytes logged s =
    (m : ModuleValue) × (es : List Entry) × Gives t.form bytes m × IsLogText logged es × (s ≡ done_with (chart_text m t.arguments es))
