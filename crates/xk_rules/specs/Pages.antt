-- The page on each rule. This project's own.
use Rattle.std.specs.Prelude.{ℕ, List, [], Option, option_map}
use Rattle.xk_rules.specs.declared.page.RulePage.{RulePage}
use Rattle.xk_rules.specs.Codes.{page_named}
use Rattle.xk_rules.specs.Source.{source_page}
use Rattle.xk_rules.specs.Module.{module_page}
use Rattle.xk_rules.specs.Verifier.{verifier_page}
use Rattle.xk_rules.specs.Run.{run_page}

-- the text of a rule's page
abbrev pub page_text : RulePage → List ℕ
page_text p = source_page p (module_page p (verifier_page p (run_page p [])))

-- the page on the rule of a code
abbrev pub rule_text : List ℕ → Option (List ℕ)
rule_text code = option_map page_text (page_named code)
