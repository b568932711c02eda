-- What reading a log answers. This project's own, as the format is.
use Rattle.std.specs.Prelude.{◌≡◌, ℕ, ◌<◌, ⊤, List, [], ◌++◌, Result, Ok, Err}
use Rattle.xk_types.specs.declared.world.Entry.{Entry}
use Rattle.xk_types.specs.Device.{Rose}
use Rattle.xk_log.specs.declared.fault.LogFault.{LogFault}
use Rattle.xk_log.specs.declared.fault.LogFault.TheVariants as fault
use Rattle.xk_log.specs.declared.progress.Stage.{Stage}
use Rattle.xk_log.specs.declared.progress.Stage.TheVariants as stage
use Rattle.xk_log.specs.declared.progress.Progress.{Progress}
use Rattle.xk_log.specs.LogText.{head_line, entry_line, ended, FitsEntry, IsLog}
use Rattle.xk_log.specs.Verdicts.{Place, Start, Within, Behind, line_at, Fits, IsWrongAt, Verdict, Whole, Wrong, Cut, Says}

-- ---- of a text

-- the text has the first line and the line of an entry
pub record HasEntry (text : List ℕ) : Type 0 where
  pub entry : Entry
  pub more : List ℕ
  pub fits : FitsEntry entry
  pub split : text ≡ ended head_line ++ (ended (entry_line entry) ++ more)

-- An answer says of a text what is so. That memory was refused it says only where there is an entry to keep.
abbrev pub Tells : List ℕ → Result (List Entry) LogFault → Type 0
Tells text (Ok es) = Says (Whole es) text
Tells text (Err (fault.Grammar line)) = Says (Wrong line) text
Tells text (Err fault.Truncated) = Says Cut text
Tells text (Err fault.Device) = ⊤
Tells text (Err fault.OutOfMemory) = HasEntry text

-- an answer is this verdict, or there is none because a device failed or memory was refused
abbrev pub Answers : Verdict → Result (List Entry) LogFault → Type 0
Answers v (Ok es) = v ≡ Whole es
Answers v (Err (fault.Grammar line)) = v ≡ Wrong line
Answers v (Err fault.Truncated) = v ≡ Cut
Answers v (Err fault.Device) = ⊤
Answers v (Err fault.OutOfMemory) = ⊤

-- the device is answered only where a failure was counted, and anything else only where none was
abbrev pub CountsDevice : ℕ → ℕ → Result (List Entry) LogFault → Type 0
CountsDevice old new (Err fault.Device) = Rose old new
CountsDevice old new r = new ≡ old

-- ---- of what was read so far

-- the place that was come to, with these entries
abbrev pub place_of : Stage → List Entry → Place
place_of stage.Start es = Start
place_of stage.Within es = Within es
place_of stage.Behind es = Behind es

abbrev pub place : Progress → Place
place p = place_of p.stage p.entries.items

-- the entries are those of a log, and there are none before the first line
abbrev pub IsReadyAt : Stage → List Entry → Type 0
IsReadyAt stage.Start es = es ≡ []
IsReadyAt stage.Within es = IsLog es
IsReadyAt stage.Behind es = IsLog es

abbrev pub IsReady : Progress → Type 0
IsReady p = IsReadyAt p.stage p.entries.items

-- the line of an entry stands behind the first line
abbrev pub IsEntryAt : Place → List ℕ → Type 0
IsEntryAt (Within es) line = (e : Entry) × FitsEntry e × (line ≡ entry_line e)
IsEntryAt p line = ⊥

-- why a line isn't taken: it doesn't fit, or there is no memory for its entry
abbrev pub Refuses : Place → List ℕ → LogFault → Type 0
Refuses p line (fault.Grammar number) = (number ≡ line_at p) × ¬ Fits p line
Refuses p line fault.Truncated = ⊥
Refuses p line fault.Device = ⊥
Refuses p line fault.OutOfMemory = IsEntryAt p line

-- why a text isn't read to its end
abbrev pub StopsAt : List ℕ → LogFault → Type 0
StopsAt text (fault.Grammar number) = IsWrongAt text number
StopsAt text fault.Truncated = ⊥
StopsAt text fault.Device = ⊥
StopsAt text fault.OutOfMemory = HasEntry text

-- behind a log there is nothing more
abbrev pub IsNoneBehind : Place → ℕ → Type 0
IsNoneBehind (Behind es) left = left ≡ 0
IsNoneBehind p left = ⊤

-- bytes are left behind the last line
abbrev pub HasSurplus : Stage → ℕ → Type 0
HasSurplus stage.Behind left = 0 < left
HasSurplus s left = ⊥

-- what the place says where nothing more comes
abbrev pub Finishes : Place → Result (List Entry) LogFault → Type 0
Finishes (Behind es) r = r ≡ Ok es
Finishes p r = r ≡ Err fault.Truncated
