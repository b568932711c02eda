-- Where all tokens are taken, one after another, each is taken by the stack behind those before it.
use Rattle.std.proofs.Common.{◌≡◌, ℕ, Bool, true, false, List, [], ◌∷◌, ◌++◌, map, Option, Some, None, refl}
use Rattle.std.specs.Prelude.{nat_lt, IsTrue, if◌then◌else◌}
use Rattle.xk_lexer.specs.Tokens.{TokenValue}
use Rattle.xk_lexer.specs.Lexing.{lexed}
use Rattle.xk_explain_expected.specs.declared.terminal.Terminal.TheVariants as terminal
use Rattle.xk_explain_expected.specs.declared.grammar.Symbol.{Symbol as Sym}
use Rattle.xk_explain_expected.specs.declared.grammar.Symbol.TheVariants as symbol
use Rattle.xk_explain_expected.specs.Expected.{taken, and_then, taken_before, is_found, takes, stack_at}
use Rattle.xk_explain_expected.specs.Laws.{all_taken, token_terminal, next_terminal, TakesWhatComes}
use Rattle.xk_explain_expected.proofs.TextTaken.{every_tree_taken}

found_first : (o : Option (List Sym)) (f : List Sym → Option (List Sym)) → and_then o f ≡ Some [] → is_found o ≡ true
found_first None f h = absurd cc
found_first (Some stack) f h = refl

-- where all of these are taken, the next one behind an offset is
abbrev Goes : ℕ → List TokenValue → Type 0
Goes at ts = (stack : List Sym) → all_taken stack (map token_terminal ts ++ terminal.End ∷ []) ≡ Some []
    → (next : List Sym) × (taken_before at stack ts ≡ Some next) × IsTrue (takes next (next_terminal at ts))

first_goes : (at : ℕ) (ts : List TokenValue) → Goes at ts
    → (o : Option (List Sym)) → and_then o (λ next. all_taken next (map token_terminal ts ++ terminal.End ∷ [])) ≡ Some []
    → (next : List Sym) × (and_then o (λ n. taken_before at n ts) ≡ Some next) × IsTrue (takes next (next_terminal at ts))
first_goes at ts g None k = absurd cc
first_goes at ts g (Some stack) k = g stack k

each_goes : (at : ℕ) (ts : List TokenValue) → Goes at ts
each_goes at [] stack h = (stack, refl, found_first (taken stack terminal.End) (λ next. Some next) h)
each_goes at (t ∷ ts) stack h = by (each_goes at ts) (nat_lt t.at at)
  where
    by : Goes at ts → (b : Bool) → (next : List Sym) × ((if b then and_then (taken stack (token_terminal t)) (λ n. taken_before at n ts) else Some stack) ≡ Some next)
        × IsTrue (takes next (if b then next_terminal at ts else token_terminal t))
    by g true = first_goes at ts g (taken stack (token_terminal t)) h
    by g false = (stack, refl, found_first (taken stack (token_terminal t)) (λ next. all_taken next (map token_terminal ts ++ terminal.End ∷ [])) h)

pub every_place_taken : TakesWhatComes
unfolding stack_at
every_place_taken text t at s = each_goes at (lexed text) (symbol.Program ∷ []) (every_tree_taken text t s)
