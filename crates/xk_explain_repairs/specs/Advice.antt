-- The words of what is advised where a text has a fault. This project's own.
use Rattle.std.specs.Prelude.{ℕ, Bool, true, false, List, codes}
use Rattle.xk_tree.specs.declared.fault.FrontRule.{FrontRule}
use Rattle.xk_explain_repairs.specs.declared.advice.Advice.{Advice}
use Rattle.xk_explain_repairs.specs.declared.advice.Advice.TheVariants as advice
use Rattle.xk_explain_repairs.specs.declared.advice.Reserved.{Reserved}
use Rattle.xk_explain_repairs.specs.declared.advice.Reserved.TheVariants as reserved
use Rattle.xk_explain_repairs.specs.Rules.{front_repair}

-- nothing else is advised than what is usual
abbrev pub is_usual : Advice → Bool
is_usual advice.Usual = true
is_usual _ = false

-- where no token begins
abbrev pub sign_text : Advice → List ℕ → List ℕ
sign_text advice.CloseComment other = codes "close the comment by `*/`"
sign_text advice.NoRemainder other = codes "there is no remainder: go through the halves by a loop, with `val even = 2 * half;`"
sign_text advice.NoDivision other = codes "there is no division: count up, as `var q = 0; for (k in 1..100) if (k * b <= a) q = k;`"
sign_text advice.NoPower other = codes "there is no power: multiply, as `n * n`"
sign_text advice.NoArrays other = codes "there are no arrays: write a shared number for each cell, as `a0`, `a1`"
sign_text advice.NoTexts other = codes "there are no texts: print a number that tells who and when, as `10 * phase + who`"
sign_text advice.BothConditions other = codes "write an `if` in an `if`"
sign_text advice.EitherCondition other = codes "write an `else if` with the same statement"
sign_text advice.NoNegation other = codes "turn the comparison round: `!=` for `==`, `>=` for `<`"
sign_text advice.NoChoice other = codes "there is no choice in an expression: `var b = 2; if (a > 0) b = 1;`"
sign_text advice.CommentSign other = codes "a comment begins with `//`"
sign_text _ other = other

-- of signs that aren't of ASCII, and of the text's end
abbrev pub foreign_text : Advice → List ℕ → List ℕ
foreign_text advice.ByteOrderMark other =
    codes "the text begins with a byte order mark, which isn't to be seen: save it as UTF-8 without one"
foreign_text advice.TypographicQuote other = codes "a typographic quote, and there are no texts: print a number"
foreign_text advice.NoBreakSpace other = codes "a no-break space is here, which looks like a blank: write a blank"
foreign_text advice.Dash other = codes "this is a dash: write `-`"
foreign_text advice.WideSign other = codes "this sign is one of full width: write the one of ASCII"
foreign_text advice.AsciiNames other = codes "names are of letters, digits and `_` of ASCII; a comment may have any character, in UTF-8"
foreign_text advice.TextEnds other = codes "the text ends too early: look for a `}` that is missing, or a `;`"
foreign_text advice.NothingBack other = codes "a method gives nothing back: write to a shared number, and put an `if` around the rest"
foreign_text advice.LoopGoesOn other = codes "a loop goes on to its end: put an `if` around the rest of a turn"
foreign_text advice.Declaration other = codes "write `val n = 5;`, or `var` where it changes; a parameter is `n: Long`"
foreign_text advice.NoObjects other = codes "there are no objects: a clock is `val c = Clock.make();`, an activity `async work();`, and an array a shared number for each cell"
foreign_text advice.Loop other = codes "write `for (i in 1..9)` for 1 to 9: how often, at most, has to be known beforehand"
foreign_text _ other = other

-- of what stands before a token
abbrev pub behind_text : Advice → List ℕ → List ℕ
behind_text advice.Condition other = codes "write the condition in parentheses, as in `if (a == 1)`"
behind_text advice.Clocked other = codes "write `async clocked (c)`; or, for a clock without a name, `clocked finish` and `clocked async`"
behind_text advice.OneAddition other = codes "write `atomic s = s + 1;`: one addition, with a sum in parentheses"
behind_text advice.NegativeAddend other = codes "to take away, add a negative number: `atomic s = s + -1;`"
behind_text advice.MethodWord other = codes "a method begins with `def`: write `def main() {`"
behind_text advice.ReservedWord other = codes "this is a word of the language: take another name"
behind_text advice.FromStart other = codes "an activity is on a clock from its start, by `async clocked (c)`: leave `register` away"
behind_text advice.LowerBound other = codes "a loop begins with a number: write `for (i in 1..9)`, and in it `if (i >= n)`"
behind_text advice.LeastAlone other = codes "`Math.min(n, 100)` is the upper bound of a loop alone: take a `var` and an `if`"
behind_text advice.EndPart other = codes "end what stands before it: a `;` is missing there, or a `)`, or a `{`"
behind_text advice.WholeNumber other = codes "a number is whole, and of digits alone: `5`, `1000`"
behind_text _ other = other

-- of a token
abbrev pub there_text : Advice → List ℕ → List ℕ
there_text advice.AddOne other = codes "write `n = n + 1;`, or of a shared number `atomic n = n + 1;`"
there_text advice.AssignSign other = codes "write `=`"
there_text advice.NoValue other = codes "a method gives nothing back: call it by `f(1);`, and read the shared number that it writes"
there_text advice.Program other = codes "a program is `shared` numbers and methods: begin with `def main() {`"
there_text advice.Log other =
    codes "this is a log of a run, and no program: `x10clock replay FILE LOG` plays it"
there_text advice.SharedNumber other = codes "write `shared s = 0;`, with a number, in front of the methods"
there_text advice.MethodsBeside other = codes "methods stand beside each other: look for a `}` that is missing before it"
there_text advice.ElseBehind other =
    codes "an `else` stands behind the one statement of its `if`: look for a `;` too many, or a `{` that is missing"
there_text advice.AdvanceAll other = codes "write `Clock.advanceAll();`: it waits for all clocks of the activity"
there_text advice.MadeOrTaken other = codes "write `val c = Clock.make();` where a clock is made, and `c: Clock` where one is taken"
there_text advice.DropByName other = codes "a clock is dropped by its name, `c.drop();`; that of a `clocked finish` is dropped at its end"
there_text advice.Outside other = codes "outside of methods stand `shared` numbers and methods alone: look for a `}` too many before it"
there_text _ other = other

-- of statements
abbrev pub statement_text : Advice → List ℕ → List ℕ
statement_text advice.Waiting other =
    codes "wait for a phase: `clocked finish { clocked async { s = 1; Clock.advanceAll(); } Clock.advanceAll(); val t = s; }`"
statement_text advice.NoTime other = codes "there is no waiting for a time: put a `finish { .. }` around what comes first"
statement_text advice.Bounds other = codes "write `for (i in 1..3)` for 1, 2 and 3, or up to a name, as in `for (i in 1..Math.min(n, 100))`"
statement_text advice.Comparison other = codes "write `if (a == 1)`: two expressions, and one comparison between them"
statement_text advice.ElseIf other = codes "write `else if (a == 2)`"
statement_text advice.Cases other = codes "write an `if` for each case: `if (a == 1) { .. } else if (a == 2) { .. }`"
statement_text advice.Times other = codes "write `for (i in 1..3)` for 1, 2 and 3"
statement_text advice.Range other = codes "write `for (i in 0..2)` for 0, 1 and 2"
statement_text advice.Locked other = codes "write `atomic n = n + 1;`: it adds to a shared number in one step"
statement_text advice.OneName other = codes "write `val n = 2 * m;`: one name, and an expression of `+`, `-` and `*`"
statement_text advice.MethodHead other = codes "write `def f(n: Long, c: Clock) {`: a method gives nothing back"
statement_text advice.BodyBraces other = codes "write `{` for this `:`, and `}` behind the body"
statement_text advice.MethodBrace other = codes "a method gives nothing back: its `{` stands right behind the `)`"
statement_text _ other = other

-- of names and kinds
abbrev pub name_text : Advice → List ℕ → List ℕ
name_text advice.Taken other =
    codes "write `def main() {`, or for an `--arg` `def main(n: Long) {`"
name_text advice.MainNumbers other = codes "write `def main(n: Long)`, with a number for each `--arg`"
name_text advice.Print other = codes "write `Console.OUT.println(1);`, with one number"
name_text advice.ClockCalls other = codes "write `Clock.advanceAll();`, or `val c = Clock.make();`"
name_text advice.NamedClock other = codes "of a clock write `c.resume();` or `c.drop();`, and to wait `Clock.advanceAll();`"
name_text advice.Types other = codes "a type is `Long`, a number, or `Clock`"
name_text advice.Parentheses other = codes "a method is called with parentheses: write `work();`"
name_text advice.NoTruth other = codes "there are no truth values: write the number 1 or 0"
name_text advice.ClockBinding other =
    codes "a clock is a `val` that is made there, `val c = Clock.make();`, and isn't copied; all else is `Long`"
name_text advice.SharedAtomic other = codes "an `atomic` adds to a shared number alone: declare it `shared n = 0;` in front of the methods"
name_text advice.SameTwice other = codes "an `atomic` adds to the number that it writes, as `atomic n = n + 1;`"
name_text _ other = other

-- of what other languages have
abbrev pub habit_text : Advice → List ℕ → List ℕ
habit_text advice.Parallel other =
    codes "write `clocked finish for (i in 1..4) clocked async { .. }`; barriers are `Clock.advanceAll();`"
habit_text advice.NoAnnotations other = codes "there are no annotations: take it away"
habit_text advice.Returns other = codes "a method ends at its `}`: take the `return` away, or put an `if` around the rest"
habit_text advice.EndFirst other = codes "to wait until activities have ended, put a `finish { .. }` around them"
habit_text advice.StartActivity other = codes "start an activity by `async work();`"
habit_text advice.NoThen other = codes "there is no `then`: write `if (a == 1) b = 2;`"
habit_text advice.NothingDone other = codes "a statement that does nothing is `;`"
habit_text advice.NoExceptions other = codes "there are no exceptions: leave `try`, `catch`, `finally` and `throw` away"
habit_text advice.OnePlace other = codes "there is one place: leave `at (..)` away"
habit_text advice.NoShift other = codes "there are no shifts: multiply, as in `2 * n`"
habit_text _ other = other

-- of signs, and of parts of a statement
abbrev pub part_text : Advice → List ℕ → List ℕ
part_text advice.OtherBlank other = codes "a blank of another width is here: write a blank"
part_text advice.NoWidth other = codes "a sign without any width is here, which isn't to be seen: take it away"
part_text advice.ComparisonSign other = codes "write `<=`, `>=` or `!=`"
part_text advice.MultiplicationSign other = codes "write `*`"
part_text advice.TwoPoints other = codes "write two points, `..`"
part_text advice.NotEqual other = codes "write `!=`"
part_text advice.OrderSign other = codes "write `<=` or `>=`"
part_text advice.Parameter other = codes "a parameter is `n: Long`, and one that takes a clock is `c: Clock`"
part_text advice.OneEach other = codes "write each on its own, with a `;` behind it, as in `val a = 1; val b = 2;`"
part_text advice.NoComparison other = codes "a comparison stands in an `if` alone: `var b = 0; if (a == 1) b = 1;`"
part_text advice.FirstValue other = codes "a `val` and a `var` begin with a value: write `var n = 0;`"
part_text advice.MissingValue other = codes "a number or a name is missing before it"
part_text advice.PlainWrite other = codes "an `atomic` adds, as `atomic n = n + 5;`; to write a number is one step without it, `n = 5;`"
part_text advice.NeedlessZero other = codes "write it without the 0, from -9223372036854775808 to 9223372036854775807"
part_text advice.ClosesNothing other = codes "take this `}` away: no `{` is open"
part_text _ other = other

-- the word that may be meant
abbrev pub meant_text : Reserved → List ℕ
meant_text reserved.Async = codes "perhaps `async` is meant"
meant_text reserved.Atomic = codes "perhaps `atomic` is meant"
meant_text reserved.Clocked = codes "perhaps `clocked` is meant"
meant_text reserved.Def = codes "perhaps `def` is meant"
meant_text reserved.Else = codes "perhaps `else` is meant"
meant_text reserved.Finish = codes "perhaps `finish` is meant"
meant_text reserved.For = codes "perhaps `for` is meant"
meant_text reserved.If = codes "perhaps `if` is meant"
meant_text reserved.Shared = codes "perhaps `shared` is meant"
meant_text reserved.Val = codes "perhaps `val` is meant"
meant_text reserved.Var = codes "perhaps `var` is meant"

abbrev pub near_text : Advice → List ℕ → List ℕ
near_text (advice.Meant word) other = meant_text word
near_text _ other = other

-- the words of an advice on a fault of this rule
abbrev pub advice_text : Advice → FrontRule → List ℕ
advice_text a r =
    sign_text a (foreign_text a (behind_text a (there_text a (statement_text a (name_text a
    (habit_text a (part_text a (near_text a (front_repair r)))))))))
