-- The words of hints. This project's own.
use Rattle.std.specs.Prelude.{ℕ, List, ◌++◌, map, codes}
use Rattle.xk_tree.specs.Tree.{TreeValue}
use Rattle.xk_explain_words.specs.Names.{told_name}
use Rattle.xk_hints.specs.declared.access.Act.{Act}
use Rattle.xk_hints.specs.declared.access.Act.TheVariants as act
use Rattle.xk_hints.specs.declared.remark.Matter.{Matter}
use Rattle.xk_hints.specs.declared.remark.Matter.TheVariants as matter
use Rattle.xk_hints.specs.Hints.{RemarkValue, remarks}

-- a hint: an offset in the text, and what is so there
pub record HintValue : Type 0 where
  pub at : ℕ
  pub text : List ℕ

-- before a name
abbrev pub opening : Matter → List ℕ
opening matter.Turnless = codes "hint: this loop has no turn: it goes up, and begins above its end"
opening matter.UnjoinedFinish = codes "hint: nobody joins the clock of this `clocked finish`; `clocked async` starts an activity on it"
opening matter.Beside =
    codes "hint: this activity isn't on the clock of the `clocked finish` around it: no advance of that clock waits for it"
opening matter.Clockless = codes "hint: this advanceAll waits for nobody: its activity is on no clock"
opening matter.Resumed = codes "hint: the advanceAll behind this resumes all clocks, and waits for all: to resume `"
opening _ = codes "hint: `"

-- what is done with a number
abbrev pub done : Act → List ℕ
done act.Read = codes "read"
done act.Write = codes "written"
done act.Add = codes "added to"

-- of what the schedule alone orders
abbrev pub unordered : Act → Act → List ℕ
unordered here there =
    (((codes "` is " ++ done here) ++ codes " here, and ") ++ done there)
    ++ codes " in an `async` before this one: only the schedule orders the two"

-- behind it
abbrev pub closing : Matter → List ℕ
closing matter.Unused = codes "` is never used"
closing matter.Unread = codes "` is written, and never read"
closing matter.Unwritten = codes "` is read, and never written"
closing matter.Uncalled = codes "` is never called"
closing matter.Unjoined = codes "` is given to no activity and to no method: nobody is on it but its maker"
closing matter.Unawaited = codes "` is read here, and nothing has waited for the end of the `async` that writes it"
closing matter.Overwritten =
    codes "` is read here, and written back later: what the `async` of another turn writes in between is lost; `atomic` adds in one step"
closing (matter.Unordered here there) = unordered here there
closing matter.Resumed = codes "` first gains nothing"
closing _ = codes ""

unfoldable pub words : RemarkValue → List ℕ
words r = (opening r.matter ++ told_name r.name.text) ++ closing r.matter

abbrev pub hint : RemarkValue → HintValue
hint r = record { at = r.name.at; text = words r }

-- the hints on a tree
abbrev pub hints : TreeValue → List HintValue
hints t = map hint (remarks t)
