-- Small texts: trees that they spell, and texts that spell none.
use Rattle.std.proofs.Common.{◌≡◌, ℕ, zero, suc, ◌+◌, List, [], ◌∷◌, ◌++◌, map, Option, Some, None, codes, refl, lit≤}
use Rattle.std.specs.Prelude.{pos, negsuc, replicate}
use Rattle.std.specs.List.{AllByRecursion}
use Rattle.xk_types.specs.declared.instr.Comparison.TheVariants as comparison
use Rattle.xk_lexer.specs.Tokens.{keyword_of}
use Rattle.xk_lexer.specs.Pieces.{number_of}
use Rattle.xk_lexer.specs.Lexing.{lexed, sign_of_one, sign_of_two, comment_at, piece_at, sign_at as lexed_sign_at}
use Rattle.xk_tree.specs.declared.tree.Operator.TheVariants as operator
use Rattle.xk_tree.specs.declared.tree.Number as tree
use Rattle.xk_tree.specs.declared.tree.Written.TheVariants as written
use Rattle.xk_tree.specs.declared.tree.Binding.TheVariants as binding
use Rattle.xk_tree.specs.declared.tree.Verb.{Verb}
use Rattle.xk_tree.specs.Tree.{Word, Expression, Literal, Named, Binary, Make, UpTo, Least, Clocks, Statement, Statements, Done, More, Block, Empty, Declare, Assign, Atomic, If, IfElse, For, Async, Finish, Call, Resume, Drop, MethodValue, TreeValue}
use Rattle.xk_tree.specs.AsyncOffsets.{asyncs_of_methods}
use Rattle.xk_exprs.specs.ReaderCombinators.{turns, loop}
use Rattle.xk_exprs.specs.ExprReaders.{value_of, number_at, another, chain_at, terms, sums, factor_at, whole_at, whole_term_at}
use Rattle.xk_syntax.specs.Spelling.{hidden_clock, between, clocked_finish, token_mark, SpellsTree}
use Rattle.xk_syntax.specs.Readers.{bind, sign_at, keyword_at, open_at, close_at, plus_at, word_at, this_word_at, comparison_at, type_at, clock_at, next_item, more_at, commas_at, listed_at, verb_at, bare_verb_at, act_at, type_part_at, source_at, declare_at, atomic_at, advance_at, print_head_at, print_at, call_at, dotted_at, assign_at, named_at, flat_at, condition_at, least_at, bound_at, range_at, list_open_at, clocks_at, start_at, hiding_at, stmt_head_at, ahead_at, stmts_at, else_at, rest_at, stmt_at, param_at, method_at, shared_at, program_at}
use Rattle.xk_syntax.proofs.TextLemmas.{spelled_from_read, none_from_read}

abbrev name : ℕ → List ℕ → Word
name at text = record { at = at; text = text }

abbrev variable : ℕ → List ℕ → Expression
variable at text = Named (name at text)

abbrev digits : ℕ → ℕ → tree.Number
digits at n = record { minus = None; at = at; value = pos n }

abbrev number : ℕ → ℕ → Expression
number at n = Literal (digits at n)

-- `def main(){..}`, whose `}` stands at this offset
abbrev main : ℕ → Statements → MethodValue
main close body = record { name = name 4 (codes "main"); paren = 8; params = []; body = body; close = close }

abbrev only_main : ℕ → Statements → TreeValue
only_main close body = record { shared = []; methods = main close body ∷ [] }

abbrev SpellsNone : List ℕ → Type 0
SpellsNone text = (t : TreeValue) → ¬ SpellsTree text t

-- a text spells no tree where its tokens aren't read
abbrev reading : List ℕ → Option TreeValue
reading text = program_at (map token_mark (lexed text))

unread : (texts : List (List ℕ)) → map reading texts ≡ map (λ text. None) texts → AllByRecursion SpellsNone texts
unread [] e = tt
unread (text ∷ texts) e = (none_from_read text cc, unread texts cc)

-- ---- programs

nothing : SpellsTree [] (record { shared = []; methods = [] })
unfolding sign_of_one sign_of_two comment_at piece_at lexed_sign_at number_of keyword_of turns loop value_of number_at another chain_at terms sums factor_at whole_at
    whole_term_at bind sign_at keyword_at open_at close_at plus_at word_at this_word_at comparison_at type_at clock_at next_item more_at commas_at listed_at verb_at bare_verb_at act_at
    type_part_at source_at declare_at atomic_at advance_at print_head_at print_at call_at dotted_at assign_at named_at flat_at condition_at range_at list_open_at clocks_at start_at
    hiding_at stmt_head_at ahead_at stmts_at else_at rest_at stmt_at param_at method_at shared_at program_at
nothing = spelled_from_read _ _ (lit≤ tt) refl

empty_main : SpellsTree (codes "def main(){}") (only_main 11 Done)
unfolding sign_of_one sign_of_two comment_at piece_at lexed_sign_at number_of keyword_of turns loop value_of number_at another chain_at terms sums factor_at whole_at
    whole_term_at bind sign_at keyword_at open_at close_at plus_at word_at this_word_at comparison_at type_at clock_at next_item more_at commas_at listed_at verb_at bare_verb_at act_at
    type_part_at source_at declare_at atomic_at advance_at print_head_at print_at call_at dotted_at assign_at named_at flat_at condition_at range_at list_open_at clocks_at start_at
    hiding_at stmt_head_at ahead_at stmts_at else_at rest_at stmt_at param_at method_at shared_at program_at
empty_main = spelled_from_read _ _ (lit≤ tt) refl

one_brace_more : SpellsNone (codes "def main(){}}")
unfolding sign_of_one sign_of_two comment_at piece_at lexed_sign_at number_of keyword_of turns loop value_of number_at another chain_at terms sums factor_at whole_at
    whole_term_at bind sign_at keyword_at open_at close_at plus_at word_at this_word_at comparison_at type_at clock_at next_item more_at commas_at listed_at verb_at bare_verb_at act_at
    type_part_at source_at declare_at atomic_at advance_at print_head_at print_at call_at dotted_at assign_at named_at flat_at condition_at range_at list_open_at clocks_at start_at
    hiding_at stmt_head_at ahead_at stmts_at else_at rest_at stmt_at param_at method_at shared_at program_at
one_brace_more = none_from_read _ refl

-- both shared numbers are kept
two_shared : SpellsTree (codes "shared s=1;shared t=-2;") (record {
  shared =
      record { name = name 7 (codes "s"); start = record { minus = None; at = 9; value = pos 1 } }
      ∷ record { name = name 18 (codes "t"); start = record { minus = Some 20; at = 21; value = negsuc 1 } } ∷ [];
  methods = [];
})
unfolding sign_of_one sign_of_two comment_at piece_at lexed_sign_at number_of keyword_of turns loop value_of number_at another chain_at terms sums factor_at whole_at
    whole_term_at bind sign_at keyword_at open_at close_at plus_at word_at this_word_at comparison_at type_at clock_at next_item more_at commas_at listed_at verb_at bare_verb_at act_at
    type_part_at source_at declare_at atomic_at advance_at print_head_at print_at call_at dotted_at assign_at named_at flat_at condition_at range_at list_open_at clocks_at start_at
    hiding_at stmt_head_at ahead_at stmts_at else_at rest_at stmt_at param_at method_at shared_at program_at
two_shared = spelled_from_read _ _ (lit≤ tt) refl

-- ---- statements

-- an `else` belongs to the nearest `if`
nearest_if : SpellsTree (codes "def main(){if(a<b)if(c<d);else;}")
    (only_main 31 (More (If 13 (variable 14 (codes "a")) comparison.Lt (variable 16 (codes "b"))
    (IfElse 20 (variable 21 (codes "c")) comparison.Lt (variable 23 (codes "d")) Empty Empty)) Done))
unfolding sign_of_one sign_of_two comment_at piece_at lexed_sign_at number_of keyword_of turns loop value_of number_at another chain_at terms sums factor_at whole_at
    whole_term_at bind sign_at keyword_at open_at close_at plus_at word_at this_word_at comparison_at type_at clock_at next_item more_at commas_at listed_at verb_at bare_verb_at act_at
    type_part_at source_at declare_at atomic_at advance_at print_head_at print_at call_at dotted_at assign_at named_at flat_at condition_at range_at list_open_at clocks_at start_at
    hiding_at stmt_head_at ahead_at stmts_at else_at rest_at stmt_at param_at method_at shared_at program_at
nearest_if = spelled_from_read _ _ (lit≤ tt) refl

resume_and_drop : SpellsTree (codes "def main(){c.resume();c.drop();}")
    (only_main 31 (More (Resume (name 11 (codes "c")) (record { at = 13; paren = 19 })) (More (Drop (name 22 (codes "c")) (record { at = 24; paren = 28 })) Done)))
unfolding sign_of_one sign_of_two comment_at piece_at lexed_sign_at number_of keyword_of turns loop value_of number_at another chain_at terms sums factor_at whole_at
    whole_term_at bind sign_at keyword_at open_at close_at plus_at word_at this_word_at comparison_at type_at clock_at next_item more_at commas_at listed_at verb_at bare_verb_at act_at
    type_part_at source_at declare_at atomic_at advance_at print_head_at print_at call_at dotted_at assign_at named_at flat_at condition_at range_at list_open_at clocks_at start_at
    hiding_at stmt_head_at ahead_at stmts_at else_at rest_at stmt_at param_at method_at shared_at program_at
resume_and_drop = spelled_from_read _ _ (lit≤ tt) refl

no_other_act : SpellsNone (codes "def main(){c.make();}")
unfolding sign_of_one sign_of_two comment_at piece_at lexed_sign_at number_of keyword_of turns loop value_of number_at another chain_at terms sums factor_at whole_at
    whole_term_at bind sign_at keyword_at open_at close_at plus_at word_at this_word_at comparison_at type_at clock_at next_item more_at commas_at listed_at verb_at bare_verb_at act_at
    type_part_at source_at declare_at atomic_at advance_at print_head_at print_at call_at dotted_at assign_at named_at flat_at condition_at range_at list_open_at clocks_at start_at
    hiding_at stmt_head_at ahead_at stmts_at else_at rest_at stmt_at param_at method_at shared_at program_at
no_other_act = none_from_read _ refl

-- words that say what is done are names elsewhere
drop_is_a_name : SpellsTree (codes "def main(){drop();}") (only_main 18 (More (Call (name 11 (codes "drop")) 15 []) Done))
unfolding sign_of_one sign_of_two comment_at piece_at lexed_sign_at number_of keyword_of turns loop value_of number_at another chain_at terms sums factor_at whole_at
    whole_term_at bind sign_at keyword_at open_at close_at plus_at word_at this_word_at comparison_at type_at clock_at next_item more_at commas_at listed_at verb_at bare_verb_at act_at
    type_part_at source_at declare_at atomic_at advance_at print_head_at print_at call_at dotted_at assign_at named_at flat_at condition_at range_at list_open_at clocks_at start_at
    hiding_at stmt_head_at ahead_at stmts_at else_at rest_at stmt_at param_at method_at shared_at program_at
drop_is_a_name = spelled_from_read _ _ (lit≤ tt) refl

one_clock : SpellsTree (codes "def main(){async clocked(c);}")
    (only_main 28 (More (Async 11 (Some (record { written = written.Listed 17 24; names = name 25 (codes "c") ∷ [] })) Empty) Done))
unfolding sign_of_one sign_of_two comment_at piece_at lexed_sign_at number_of keyword_of turns loop value_of number_at another chain_at terms sums factor_at whole_at
    whole_term_at bind sign_at keyword_at open_at close_at plus_at word_at this_word_at comparison_at type_at clock_at next_item more_at commas_at listed_at verb_at bare_verb_at act_at
    type_part_at source_at declare_at atomic_at advance_at print_head_at print_at call_at dotted_at assign_at named_at flat_at condition_at range_at list_open_at clocks_at start_at
    hiding_at stmt_head_at ahead_at stmts_at else_at rest_at stmt_at param_at method_at shared_at program_at
one_clock = spelled_from_read _ _ (lit≤ tt) refl

-- where the words `async` of `def main(){async async;async;}` stand
three_asyncs : asyncs_of_methods (main 29 (More (Async 11 None (Async 17 None Empty)) (More (Async 23 None Empty) Done)) ∷ []) ≡ 11 ∷ 17 ∷ 23 ∷ []
three_asyncs = refl

no_clock : SpellsNone (codes "def main(){async clocked();}")
unfolding sign_of_one sign_of_two comment_at piece_at lexed_sign_at number_of keyword_of turns loop value_of number_at another chain_at terms sums factor_at whole_at
    whole_term_at bind sign_at keyword_at open_at close_at plus_at word_at this_word_at comparison_at type_at clock_at next_item more_at commas_at listed_at verb_at bare_verb_at act_at
    type_part_at source_at declare_at atomic_at advance_at print_head_at print_at call_at dotted_at assign_at named_at flat_at condition_at range_at list_open_at clocks_at start_at
    hiding_at stmt_head_at ahead_at stmts_at else_at rest_at stmt_at param_at method_at shared_at program_at
no_clock = none_from_read _ refl

term_is_added : SpellsTree (codes "def main(){atomic x=x+2*y;}")
    (only_main 26 (More (Atomic (name 18 (codes "x")) (name 20 (codes "x")) 21 (Binary operator.Times (number 22 2) 23 (variable 24 (codes "y")))) Done))
unfolding sign_of_one sign_of_two comment_at piece_at lexed_sign_at number_of keyword_of turns loop value_of number_at another chain_at terms sums factor_at whole_at
    whole_term_at bind sign_at keyword_at open_at close_at plus_at word_at this_word_at comparison_at type_at clock_at next_item more_at commas_at listed_at verb_at bare_verb_at act_at
    type_part_at source_at declare_at atomic_at advance_at print_head_at print_at call_at dotted_at assign_at named_at flat_at condition_at range_at list_open_at clocks_at start_at
    hiding_at stmt_head_at ahead_at stmts_at else_at rest_at stmt_at param_at method_at shared_at program_at
term_is_added = spelled_from_read _ _ (lit≤ tt) refl

no_sum_is_added : SpellsNone (codes "def main(){atomic x=x+2+y;}")
unfolding sign_of_one sign_of_two comment_at piece_at lexed_sign_at number_of keyword_of turns loop value_of number_at another chain_at terms sums factor_at whole_at
    whole_term_at bind sign_at keyword_at open_at close_at plus_at word_at this_word_at comparison_at type_at clock_at next_item more_at commas_at listed_at verb_at bare_verb_at act_at
    type_part_at source_at declare_at atomic_at advance_at print_head_at print_at call_at dotted_at assign_at named_at flat_at condition_at range_at list_open_at clocks_at start_at
    hiding_at stmt_head_at ahead_at stmts_at else_at rest_at stmt_at param_at method_at shared_at program_at
no_sum_is_added = none_from_read _ refl

no_needless_zero : SpellsNone (codes "def main(){x=007;}")
unfolding sign_of_one sign_of_two comment_at piece_at lexed_sign_at number_of keyword_of turns loop value_of number_at another chain_at terms sums factor_at whole_at
    whole_term_at bind sign_at keyword_at open_at close_at plus_at word_at this_word_at comparison_at type_at clock_at next_item more_at commas_at listed_at verb_at bare_verb_at act_at
    type_part_at source_at declare_at atomic_at advance_at print_head_at print_at call_at dotted_at assign_at named_at flat_at condition_at range_at list_open_at clocks_at start_at
    hiding_at stmt_head_at ahead_at stmts_at else_at rest_at stmt_at param_at method_at shared_at program_at
no_needless_zero = none_from_read _ refl

-- ---- loops with a limit

-- what the text says in the place of a loop's bound
abbrev bounded : List ℕ → List ℕ
bounded bound = codes "def main(){for(i in 1.." ++ bound ++ codes ");}"

-- its name is one space for each of the 64 levels that are left
a_limit : SpellsTree (bounded (codes "Math.min(n*n,10)")) (only_main 41 (More (For 14 (name 15 (codes "i")) (digits 20 1)
    (Least (name 23 (replicate 64 32)) (record { at = 28; paren = 31 }) (Binary operator.Times (variable 32 (codes "n")) 33 (variable 34 (codes "n"))) (digits 36 10))
    Empty) Done))
unfolding sign_of_one sign_of_two comment_at piece_at lexed_sign_at number_of keyword_of turns loop value_of number_at another chain_at terms sums factor_at whole_at
    whole_term_at bind sign_at keyword_at open_at close_at plus_at word_at this_word_at comparison_at type_at clock_at next_item more_at commas_at listed_at verb_at bare_verb_at act_at
    type_part_at source_at declare_at atomic_at advance_at print_head_at print_at call_at dotted_at assign_at named_at flat_at condition_at least_at bound_at range_at list_open_at clocks_at
    start_at hiding_at stmt_head_at ahead_at stmts_at else_at rest_at stmt_at param_at method_at shared_at program_at
a_limit = spelled_from_read _ _ (lit≤ tt) refl

-- two limits have two names
two_limits : SpellsTree (codes "def main(){for(i in 0..Math.min(2,-3)){for(j in 1..Math.min(i,2));}}") (only_main 67 (More (For 14 (name 15 (codes "i")) (digits 20 0)
    (Least (name 23 (replicate 64 32)) (record { at = 28; paren = 31 }) (number 32 2) (record { minus = Some 34; at = 35; value = negsuc 2 }))
    (Block 66 (More (For 42 (name 43 (codes "j")) (digits 48 1) (Least (name 51 (replicate 62 32)) (record { at = 56; paren = 59 }) (variable 60 (codes "i")) (digits 62 2))
    Empty) Done))) Done))
unfolding sign_of_one sign_of_two comment_at piece_at lexed_sign_at number_of keyword_of turns loop value_of number_at another chain_at terms sums factor_at whole_at
    whole_term_at bind sign_at keyword_at open_at close_at plus_at word_at this_word_at comparison_at type_at clock_at next_item more_at commas_at listed_at verb_at bare_verb_at act_at
    type_part_at source_at declare_at atomic_at advance_at print_head_at print_at call_at dotted_at assign_at named_at flat_at condition_at least_at bound_at range_at list_open_at clocks_at
    start_at hiding_at stmt_head_at ahead_at stmts_at else_at rest_at stmt_at param_at method_at shared_at program_at
two_limits = spelled_from_read _ _ (lit≤ tt) refl

-- `Math` and `min` are names elsewhere
math_is_a_name : SpellsTree (codes "def main(){Math=min;for(Math in 1..Math.min(Math,2));}") (only_main 53 (More (Assign (name 11 (codes "Math")) (variable 16 (codes "min")))
    (More (For 23 (name 24 (codes "Math")) (digits 32 1) (Least (name 35 (replicate 64 32)) (record { at = 40; paren = 43 }) (variable 44 (codes "Math")) (digits 49 2))
    Empty) Done)))
unfolding sign_of_one sign_of_two comment_at piece_at lexed_sign_at number_of keyword_of turns loop value_of number_at another chain_at terms sums factor_at whole_at
    whole_term_at bind sign_at keyword_at open_at close_at plus_at word_at this_word_at comparison_at type_at clock_at next_item more_at commas_at listed_at verb_at bare_verb_at act_at
    type_part_at source_at declare_at atomic_at advance_at print_head_at print_at call_at dotted_at assign_at named_at flat_at condition_at least_at bound_at range_at list_open_at clocks_at
    start_at hiding_at stmt_head_at ahead_at stmts_at else_at rest_at stmt_at param_at method_at shared_at program_at
math_is_a_name = spelled_from_read _ _ (lit≤ tt) refl

-- what is no bound
abbrev no_bounds : List (List ℕ)
no_bounds = codes "Math.max(n,2)" ∷ codes "Math(n,2)" ∷ codes "Math.min n,2)" ∷ codes "Math.min(n 2)" ∷ codes "Math.min(n)" ∷ codes "Math.min(n,)" ∷ codes "Math.min(2,n)"
    ∷ codes "Math.min(n,1+1)" ∷ codes "Math.min(,2)" ∷ codes "Math.min(n,2" ∷ codes "min(n,2)" ∷ codes "n" ∷ codes "1+1" ∷ []

no_limits : AllByRecursion SpellsNone (map bounded no_bounds)
unfolding sign_of_one sign_of_two comment_at piece_at lexed_sign_at number_of keyword_of turns loop value_of number_at another chain_at terms sums factor_at whole_at
    whole_term_at bind sign_at keyword_at open_at close_at plus_at word_at this_word_at comparison_at type_at clock_at next_item more_at commas_at listed_at verb_at bare_verb_at act_at
    type_part_at source_at declare_at atomic_at advance_at print_head_at print_at call_at dotted_at assign_at named_at flat_at condition_at least_at bound_at range_at list_open_at clocks_at
    start_at hiding_at stmt_head_at ahead_at stmts_at else_at rest_at stmt_at param_at method_at shared_at program_at
no_limits = unread (map bounded no_bounds) refl

no_limit_below : SpellsNone (codes "def main(){for(i in Math.min(n,2)..3);}")
unfolding sign_of_one sign_of_two comment_at piece_at lexed_sign_at number_of keyword_of turns loop value_of number_at another chain_at terms sums factor_at whole_at
    whole_term_at bind sign_at keyword_at open_at close_at plus_at word_at this_word_at comparison_at type_at clock_at next_item more_at commas_at listed_at verb_at bare_verb_at act_at
    type_part_at source_at declare_at atomic_at advance_at print_head_at print_at call_at dotted_at assign_at named_at flat_at condition_at least_at bound_at range_at list_open_at clocks_at
    start_at hiding_at stmt_head_at ahead_at stmts_at else_at rest_at stmt_at param_at method_at shared_at program_at
no_limit_below = none_from_read _ refl

-- behind the loop 63 levels are left
deep_in_a_limit : SpellsNone (bounded (codes "Math.min(" ++ replicate 64 40 ++ codes "1" ++ replicate 64 41 ++ codes ",2)"))
unfolding sign_of_one sign_of_two comment_at piece_at lexed_sign_at number_of keyword_of turns loop value_of number_at another chain_at terms sums factor_at whole_at
    whole_term_at bind sign_at keyword_at open_at close_at plus_at word_at this_word_at comparison_at type_at clock_at next_item more_at commas_at listed_at verb_at bare_verb_at act_at
    type_part_at source_at declare_at atomic_at advance_at print_head_at print_at call_at dotted_at assign_at named_at flat_at condition_at least_at bound_at range_at list_open_at clocks_at
    start_at hiding_at stmt_head_at ahead_at stmts_at else_at rest_at stmt_at param_at method_at shared_at program_at
deep_in_a_limit = none_from_read _ refl

-- ---- hidden clocks

-- the clocks of a `clocked async` whose `clocked` stands at this offset, where a hidden clock of so many levels is in force
abbrev clock_of : ℕ → ℕ → Option Clocks
clock_of at levels = Some (record { written = written.Ahead at; names = name at (replicate levels 32) ∷ [] })

abbrev no_clock_of : ℕ → Option Clocks
no_clock_of at = Some (record { written = written.Ahead at; names = name at [] ∷ [] })

abbrev verb_of : ℕ → Verb
verb_of at = record { at = at; paren = at }

-- what a `clocked finish` stands for, written out
a_hidden_clock : SpellsTree (codes "def main(){clocked finish clocked async{}}") (only_main 41 (More (Finish 19 (Block 19
    (More (Declare binding.Hidden (name 11 (replicate 64 32)) None (Make 11 (verb_of 11)))
    (More (Async 34 (clock_of 26 64) (Block 40 Done))
    (More (Drop (name 11 (replicate 64 32)) (verb_of 11)) Done))))) Done))
unfolding sign_of_one sign_of_two comment_at piece_at lexed_sign_at number_of keyword_of turns loop value_of number_at another chain_at terms sums factor_at whole_at
    whole_term_at bind sign_at keyword_at open_at close_at plus_at word_at this_word_at comparison_at type_at clock_at next_item more_at commas_at listed_at verb_at bare_verb_at act_at
    type_part_at source_at declare_at atomic_at advance_at print_head_at print_at call_at dotted_at assign_at named_at flat_at condition_at least_at bound_at range_at
    list_open_at clocks_at start_at hiding_at stmt_head_at ahead_at stmts_at else_at rest_at stmt_at param_at method_at shared_at program_at
a_hidden_clock = spelled_from_read _ _ (lit≤ tt) refl

-- each `clocked async` is given the nearest one
nested_clocks : SpellsTree (codes "def main(){clocked finish{clocked async clocked async;clocked finish clocked async;}}") (only_main 84 (More (clocked_finish 19 (hidden_clock 64 11)
    (Block 83 (More (Async 34 (clock_of 26 64) (Async 48 (clock_of 40 64) Empty))
    (More (clocked_finish 62 (hidden_clock 62 54) (Async 77 (clock_of 69 62) Empty)) Done)))) Done))
unfolding sign_of_one sign_of_two comment_at piece_at lexed_sign_at number_of keyword_of turns loop value_of number_at another chain_at terms sums factor_at whole_at
    whole_term_at bind sign_at keyword_at open_at close_at plus_at word_at this_word_at comparison_at type_at clock_at next_item more_at commas_at listed_at verb_at bare_verb_at act_at
    type_part_at source_at declare_at atomic_at advance_at print_head_at print_at call_at dotted_at assign_at named_at flat_at condition_at least_at bound_at range_at
    list_open_at clocks_at start_at hiding_at stmt_head_at ahead_at stmts_at else_at rest_at stmt_at param_at method_at shared_at program_at
nested_clocks = spelled_from_read _ _ (lit≤ tt) refl

-- loops and branches hand it on
behind_branches : SpellsTree (codes "def main(){clocked finish for(i in 0..2)if(a<b)clocked async;else clocked async;}") (only_main 80 (More (clocked_finish 19 (hidden_clock 64 11)
    (For 29 (name 30 (codes "i")) (digits 35 0) (UpTo (digits 38 2)) (IfElse 42 (variable 43 (codes "a")) comparison.Lt (variable 45 (codes "b"))
    (Async 55 (clock_of 47 64) Empty) (Async 74 (clock_of 66 64) Empty)))) Done))
unfolding sign_of_one sign_of_two comment_at piece_at lexed_sign_at number_of keyword_of turns loop value_of number_at another chain_at terms sums factor_at whole_at
    whole_term_at bind sign_at keyword_at open_at close_at plus_at word_at this_word_at comparison_at type_at clock_at next_item more_at commas_at listed_at verb_at bare_verb_at act_at
    type_part_at source_at declare_at atomic_at advance_at print_head_at print_at call_at dotted_at assign_at named_at flat_at condition_at least_at bound_at range_at
    list_open_at clocks_at start_at hiding_at stmt_head_at ahead_at stmts_at else_at rest_at stmt_at param_at method_at shared_at program_at
behind_branches = spelled_from_read _ _ (lit≤ tt) refl

-- a `finish` hides it
behind_a_finish : SpellsTree (codes "def main(){clocked finish finish clocked async;}")
    (only_main 47 (More (clocked_finish 19 (hidden_clock 64 11) (Finish 26 (Async 41 (no_clock_of 33) Empty))) Done))
unfolding sign_of_one sign_of_two comment_at piece_at lexed_sign_at number_of keyword_of turns loop value_of number_at another chain_at terms sums factor_at whole_at
    whole_term_at bind sign_at keyword_at open_at close_at plus_at word_at this_word_at comparison_at type_at clock_at next_item more_at commas_at listed_at verb_at bare_verb_at act_at
    type_part_at source_at declare_at atomic_at advance_at print_head_at print_at call_at dotted_at assign_at named_at flat_at condition_at least_at bound_at range_at
    list_open_at clocks_at start_at hiding_at stmt_head_at ahead_at stmts_at else_at rest_at stmt_at param_at method_at shared_at program_at
behind_a_finish = spelled_from_read _ _ (lit≤ tt) refl

-- and so does an `async`
behind_an_async : SpellsTree (codes "def main(){clocked finish async clocked async;}")
    (only_main 46 (More (clocked_finish 19 (hidden_clock 64 11) (Async 26 None (Async 40 (no_clock_of 32) Empty))) Done))
unfolding sign_of_one sign_of_two comment_at piece_at lexed_sign_at number_of keyword_of turns loop value_of number_at another chain_at terms sums factor_at whole_at
    whole_term_at bind sign_at keyword_at open_at close_at plus_at word_at this_word_at comparison_at type_at clock_at next_item more_at commas_at listed_at verb_at bare_verb_at act_at
    type_part_at source_at declare_at atomic_at advance_at print_head_at print_at call_at dotted_at assign_at named_at flat_at condition_at least_at bound_at range_at
    list_open_at clocks_at start_at hiding_at stmt_head_at ahead_at stmts_at else_at rest_at stmt_at param_at method_at shared_at program_at
behind_an_async = spelled_from_read _ _ (lit≤ tt) refl

-- or one with a list
behind_a_list : SpellsTree (codes "def main(){clocked finish async clocked(c)clocked async;}") (only_main 56 (More (clocked_finish 19 (hidden_clock 64 11)
    (Async 26 (Some (record { written = written.Listed 32 39; names = name 40 (codes "c") ∷ [] })) (Async 50 (no_clock_of 42) Empty))) Done))
unfolding sign_of_one sign_of_two comment_at piece_at lexed_sign_at number_of keyword_of turns loop value_of number_at another chain_at terms sums factor_at whole_at
    whole_term_at bind sign_at keyword_at open_at close_at plus_at word_at this_word_at comparison_at type_at clock_at next_item more_at commas_at listed_at verb_at bare_verb_at act_at
    type_part_at source_at declare_at atomic_at advance_at print_head_at print_at call_at dotted_at assign_at named_at flat_at condition_at least_at bound_at range_at
    list_open_at clocks_at start_at hiding_at stmt_head_at ahead_at stmts_at else_at rest_at stmt_at param_at method_at shared_at program_at
behind_a_list = spelled_from_read _ _ (lit≤ tt) refl

-- behind `async` a `clocked` begins a list only in front of a `(`
async_clocked_finish : SpellsTree (codes "def main(){async clocked finish;}") (only_main 32 (More (Async 11 None (clocked_finish 25 (hidden_clock 63 17) Empty)) Done))
unfolding sign_of_one sign_of_two comment_at piece_at lexed_sign_at number_of keyword_of turns loop value_of number_at another chain_at terms sums factor_at whole_at
    whole_term_at bind sign_at keyword_at open_at close_at plus_at word_at this_word_at comparison_at type_at clock_at next_item more_at commas_at listed_at verb_at bare_verb_at act_at
    type_part_at source_at declare_at atomic_at advance_at print_head_at print_at call_at dotted_at assign_at named_at flat_at condition_at least_at bound_at range_at
    list_open_at clocks_at start_at hiding_at stmt_head_at ahead_at stmts_at else_at rest_at stmt_at param_at method_at shared_at program_at
async_clocked_finish = spelled_from_read _ _ (lit≤ tt) refl

async_clocked_async : SpellsTree (codes "def main(){async clocked async;}") (only_main 31 (More (Async 11 None (Async 25 (no_clock_of 17) Empty)) Done))
unfolding sign_of_one sign_of_two comment_at piece_at lexed_sign_at number_of keyword_of turns loop value_of number_at another chain_at terms sums factor_at whole_at
    whole_term_at bind sign_at keyword_at open_at close_at plus_at word_at this_word_at comparison_at type_at clock_at next_item more_at commas_at listed_at verb_at bare_verb_at act_at
    type_part_at source_at declare_at atomic_at advance_at print_head_at print_at call_at dotted_at assign_at named_at flat_at condition_at least_at bound_at range_at
    list_open_at clocks_at start_at hiding_at stmt_head_at ahead_at stmts_at else_at rest_at stmt_at param_at method_at shared_at program_at
async_clocked_async = spelled_from_read _ _ (lit≤ tt) refl

-- space may stand between `clocked` and `(`
a_spaced_list : SpellsTree (codes "def main(){async clocked  (c);}")
    (only_main 30 (More (Async 11 (Some (record { written = written.Listed 17 26; names = name 27 (codes "c") ∷ [] })) Empty) Done))
unfolding sign_of_one sign_of_two comment_at piece_at lexed_sign_at number_of keyword_of turns loop value_of number_at another chain_at terms sums factor_at whole_at
    whole_term_at bind sign_at keyword_at open_at close_at plus_at word_at this_word_at comparison_at type_at clock_at next_item more_at commas_at listed_at verb_at bare_verb_at act_at
    type_part_at source_at declare_at atomic_at advance_at print_head_at print_at call_at dotted_at assign_at named_at flat_at condition_at least_at bound_at range_at
    list_open_at clocks_at start_at hiding_at stmt_head_at ahead_at stmts_at else_at rest_at stmt_at param_at method_at shared_at program_at
a_spaced_list = spelled_from_read _ _ (lit≤ tt) refl

-- an `else` belongs to the nearest `if`, also behind `clocked finish`
else_within : SpellsTree (codes "def main(){if(a<b)clocked finish if(c<d);else;}") (only_main 46 (More (If 13 (variable 14 (codes "a")) comparison.Lt (variable 16 (codes "b"))
    (clocked_finish 26 (hidden_clock 63 18) (IfElse 35 (variable 36 (codes "c")) comparison.Lt (variable 38 (codes "d")) Empty Empty))) Done))
unfolding sign_of_one sign_of_two comment_at piece_at lexed_sign_at number_of keyword_of turns loop value_of number_at another chain_at terms sums factor_at whole_at
    whole_term_at bind sign_at keyword_at open_at close_at plus_at word_at this_word_at comparison_at type_at clock_at next_item more_at commas_at listed_at verb_at bare_verb_at act_at
    type_part_at source_at declare_at atomic_at advance_at print_head_at print_at call_at dotted_at assign_at named_at flat_at condition_at least_at bound_at range_at
    list_open_at clocks_at start_at hiding_at stmt_head_at ahead_at stmts_at else_at rest_at stmt_at param_at method_at shared_at program_at
else_within = spelled_from_read _ _ (lit≤ tt) refl

-- what begins with `clocked` and is no statement
abbrev no_hiding : List (List ℕ)
no_hiding = codes "clocked;" ∷ codes "clocked{}" ∷ codes "clocked(c);" ∷ codes "clocked x=1;" ∷ codes "clocked clocked finish;" ∷ codes "clocked if(a<b);" ∷ codes "clocked finish"
    ∷ codes "clocked async(c);" ∷ codes "async clocked;" ∷ codes "async clocked{}" ∷ codes "async clocked c;" ∷ codes "async clocked finish" ∷ codes "finish clocked;" ∷ []

nothing_hidden : AllByRecursion SpellsNone (map (λ text. codes "def main(){" ++ text ++ codes "}") no_hiding)
unfolding sign_of_one sign_of_two comment_at piece_at lexed_sign_at number_of keyword_of turns loop value_of number_at another chain_at terms sums factor_at whole_at
    whole_term_at bind sign_at keyword_at open_at close_at plus_at word_at this_word_at comparison_at type_at clock_at next_item more_at commas_at listed_at verb_at bare_verb_at act_at
    type_part_at source_at declare_at atomic_at advance_at print_head_at print_at call_at dotted_at assign_at named_at flat_at condition_at least_at bound_at range_at
    list_open_at clocks_at start_at hiding_at stmt_head_at ahead_at stmts_at else_at rest_at stmt_at param_at method_at shared_at program_at
nothing_hidden = unread (map (λ text. codes "def main(){" ++ text ++ codes "}") no_hiding) refl

-- so many in one another
clocked_finishes : ℕ → List ℕ
clocked_finishes zero = []
clocked_finishes (suc n) = codes "clocked finish " ++ clocked_finishes n

abbrev deep : ℕ → List ℕ
deep n = codes "def main(){" ++ clocked_finishes n ++ codes ";}"

-- each counts as one statement
hidden_within : ℕ → ℕ → Statement
hidden_within zero at = Empty
hidden_within (suc n) at = clocked_finish (at + 8) (hidden_clock (suc (suc n)) at) (hidden_within n (at + 15))

deepest_hidden : SpellsTree (deep 63) (only_main 957 (More (hidden_within 63 11) Done))
unfolding sign_of_one sign_of_two comment_at piece_at lexed_sign_at number_of keyword_of turns loop value_of number_at another chain_at terms sums factor_at whole_at
    whole_term_at bind sign_at keyword_at open_at close_at plus_at word_at this_word_at comparison_at type_at clock_at next_item more_at commas_at listed_at verb_at bare_verb_at act_at
    type_part_at source_at declare_at atomic_at advance_at print_head_at print_at call_at dotted_at assign_at named_at flat_at condition_at least_at bound_at range_at
    list_open_at clocks_at start_at hiding_at stmt_head_at ahead_at stmts_at else_at rest_at stmt_at param_at method_at shared_at program_at clocked_finishes hidden_within
deepest_hidden = spelled_from_read _ _ (lit≤ tt) refl

too_deep_hidden : SpellsNone (deep 64)
unfolding sign_of_one sign_of_two comment_at piece_at lexed_sign_at number_of keyword_of turns loop value_of number_at another chain_at terms sums factor_at whole_at
    whole_term_at bind sign_at keyword_at open_at close_at plus_at word_at this_word_at comparison_at type_at clock_at next_item more_at commas_at listed_at verb_at bare_verb_at act_at
    type_part_at source_at declare_at atomic_at advance_at print_head_at print_at call_at dotted_at assign_at named_at flat_at condition_at least_at bound_at range_at
    list_open_at clocks_at start_at hiding_at stmt_head_at ahead_at stmts_at else_at rest_at stmt_at param_at method_at shared_at program_at clocked_finishes
too_deep_hidden = none_from_read _ refl

-- ---- offsets

-- each `finish` and each `}` keeps its own
their_offsets : SpellsTree (codes "def main(){finish{ finish ; } }") (only_main 30 (More (Finish 11 (Block 28 (More (Finish 19 Empty) Done))) Done))
unfolding sign_of_one sign_of_two comment_at piece_at lexed_sign_at number_of keyword_of turns loop value_of number_at another chain_at terms sums factor_at whole_at
    whole_term_at bind sign_at keyword_at open_at close_at plus_at word_at this_word_at comparison_at type_at clock_at next_item more_at commas_at listed_at verb_at bare_verb_at act_at
    type_part_at source_at declare_at atomic_at advance_at print_head_at print_at call_at dotted_at assign_at named_at flat_at condition_at least_at bound_at range_at
    list_open_at clocks_at start_at hiding_at stmt_head_at ahead_at stmts_at else_at rest_at stmt_at param_at method_at shared_at program_at
their_offsets = spelled_from_read _ _ (lit≤ tt) refl

-- the block that a `clocked finish` stands for has the offset of `finish`
its_offset : SpellsTree (codes "def main(){clocked  finish;}") (only_main 27 (More (clocked_finish 20 (hidden_clock 64 11) Empty) Done))
unfolding sign_of_one sign_of_two comment_at piece_at lexed_sign_at number_of keyword_of turns loop value_of number_at another chain_at terms sums factor_at whole_at
    whole_term_at bind sign_at keyword_at open_at close_at plus_at word_at this_word_at comparison_at type_at clock_at next_item more_at commas_at listed_at verb_at bare_verb_at act_at
    type_part_at source_at declare_at atomic_at advance_at print_head_at print_at call_at dotted_at assign_at named_at flat_at condition_at least_at bound_at range_at
    list_open_at clocks_at start_at hiding_at stmt_head_at ahead_at stmts_at else_at rest_at stmt_at param_at method_at shared_at program_at
its_offset = spelled_from_read _ _ (lit≤ tt) refl

-- and no other
no_other_offset : (close : ℕ) → SpellsTree (codes "def main(){clocked  finish;}")
    (only_main 27 (More (Finish 20 (Block close (between (hidden_clock 64 11) Empty))) Done)) → close ≡ 20
no_other_offset close s = let h = s.fits.methods_fit.0.0.0 in cc

-- ---- depth

-- so many blocks in one another
abbrev blocks : ℕ → List ℕ
blocks n = codes "def main(){" ++ replicate n 123 ++ replicate n 125 ++ codes "}"

-- those of so many, where the innermost `}` stands at this offset
nested : ℕ → ℕ → Statements
nested at zero = Done
nested at (suc n) = More (Block (at + n) (nested at n)) Done

sixty_four : SpellsTree (blocks 64) (only_main 139 (nested 75 64))
unfolding sign_of_one sign_of_two comment_at piece_at lexed_sign_at number_of keyword_of turns loop value_of number_at another chain_at terms sums factor_at whole_at
    whole_term_at bind sign_at keyword_at open_at close_at plus_at word_at this_word_at comparison_at type_at clock_at next_item more_at commas_at listed_at verb_at bare_verb_at act_at
    type_part_at source_at declare_at atomic_at advance_at print_head_at print_at call_at dotted_at assign_at named_at flat_at condition_at range_at list_open_at clocks_at start_at
    hiding_at stmt_head_at ahead_at stmts_at else_at rest_at stmt_at param_at method_at shared_at program_at nested
sixty_four = spelled_from_read _ _ (lit≤ tt) refl

sixty_five : SpellsNone (blocks 65)
unfolding sign_of_one sign_of_two comment_at piece_at lexed_sign_at number_of keyword_of turns loop value_of number_at another chain_at terms sums factor_at whole_at
    whole_term_at bind sign_at keyword_at open_at close_at plus_at word_at this_word_at comparison_at type_at clock_at next_item more_at commas_at listed_at verb_at bare_verb_at act_at
    type_part_at source_at declare_at atomic_at advance_at print_head_at print_at call_at dotted_at assign_at named_at flat_at condition_at range_at list_open_at clocks_at start_at
    hiding_at stmt_head_at ahead_at stmts_at else_at rest_at stmt_at param_at method_at shared_at program_at
sixty_five = none_from_read _ refl
