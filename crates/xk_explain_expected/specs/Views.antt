-- What the code's rows are, apart from where they lie in memory. This project's own.
use Rattle.std.specs.Prelude.{◌++◌}
use Rattle.xk_explain_expected.specs.declared.grammar.Entry.{Entry}
use Rattle.xk_explain_expected.specs.declared.grammar.Entry.TheVariants as code
use Rattle.xk_explain_expected.specs.Grammar as table

abbrev pub entry_value : Entry → table.Entry
entry_value code.Refused = table.Refused
entry_value code.Skipped = table.Skipped
entry_value (code.Behind row more) = table.Behind (row.now ++ more.now)
