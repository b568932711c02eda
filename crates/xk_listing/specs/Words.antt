-- An instruction in words: its name, and its operands as they stand in a module's text. This project's own.
use Rattle.std.specs.Prelude.{ℕ, ℤ, List, [], ◌∷◌, ◌++◌, flat_map, codes, decimal}
use Rattle.std.specs.Fmt.{signed_decimal}
use Rattle.xk_types.specs.declared.instr.Comparison.{Comparison}
use Rattle.xk_types.specs.declared.instr.Comparison.TheVariants as comparison
use Rattle.xk_types.specs.declared.instr.Instr.{Instr}
use Rattle.xk_types.specs.declared.instr.Instr.TheVariants as instr

-- ---- a name, and so many operands behind it

unfoldable pub one : List ℕ → ℕ → List ℕ
one name a = name ++ (codes " " ++ decimal a)

unfoldable pub two : List ℕ → ℕ → ℕ → List ℕ
two name a b = name ++ (codes " " ++ (decimal a ++ (codes " " ++ decimal b)))

unfoldable pub three : List ℕ → ℕ → ℕ → ℕ → List ℕ
three name a b c = name ++ (codes " " ++ (decimal a ++ (codes " " ++ (decimal b ++ (codes " " ++ decimal c)))))

-- `lit 0 -5`
unfoldable pub lit : ℕ → ℤ → List ℕ
lit d n = codes "lit " ++ (decimal d ++ (codes " " ++ signed_decimal n))

abbrev pub comparison_name : Comparison → List ℕ
comparison_name comparison.Eq = codes "eq"
comparison_name comparison.Ne = codes "ne"
comparison_name comparison.Lt = codes "lt"
comparison_name comparison.Le = codes "le"
comparison_name comparison.Gt = codes "gt"
comparison_name comparison.Ge = codes "ge"

-- `unless le 2 1 4`
unfoldable pub unless : Comparison → ℕ → ℕ → ℕ → List ℕ
unless op a b t = codes "unless " ++ three (comparison_name op) a b t

-- `for 2 1 3 5`
unfoldable pub for_loop : ℕ → ℤ → ℤ → ℕ → List ℕ
for_loop k lo hi e =
    codes "for " ++ (decimal k ++ (codes " " ++ (signed_decimal lo ++ (codes " " ++ (signed_decimal hi ++ (codes " " ++ decimal e))))))

-- `forto 2 1 3 8 5`
unfoldable pub forto_loop : ℕ → ℤ → ℕ → ℤ → ℕ → List ℕ
forto_loop k lo x hi e =
    codes "forto " ++ (decimal k ++ (codes " " ++ (signed_decimal lo ++ (codes " " ++ (decimal x ++ (codes " " ++ (signed_decimal hi ++ (codes " " ++ decimal e))))))))

-- ---- a list of slots

unfoldable pub next_argument : ℕ → List ℕ
next_argument x = codes " " ++ decimal x

-- `0 1 2`
abbrev pub arguments : List ℕ → List ℕ
arguments [] = []
arguments (x ∷ xs) = decimal x ++ flat_map next_argument xs

-- `spawn 1 (0 1 2)`
abbrev pub run_words : List ℕ → ℕ → List ℕ → List ℕ
run_words name unit args = (one name unit ++ codes " (") ++ (arguments args ++ codes ")")

-- ---- instructions

abbrev pub words : Instr → List ℕ
words (instr.Lit d n) = lit d n
words (instr.Copy d a) = two (codes "copy") d a
words (instr.Add d a b) = three (codes "add") d a b
words (instr.Sub d a b) = three (codes "sub") d a b
words (instr.Mul d a b) = three (codes "mul") d a b
words (instr.Unless op a b t) = unless op a b t
words (instr.Jump t) = one (codes "jump") t
words (instr.ForTo k lo x hi e) = forto_loop k lo x hi e
words (instr.For k lo hi e) = for_loop k lo hi e
words (instr.Next b) = one (codes "next") b
words (instr.Finish e) = one (codes "finish") e
words (instr.EndFinish b) = one (codes "endfinish") b
words (instr.Get d s) = two (codes "get") d s
words (instr.Put s a) = two (codes "put") s a
words (instr.AddTo s a) = two (codes "addto") s a
words (instr.Print a) = one (codes "print") a
words (instr.Make k) = one (codes "make") k
words (instr.Resume k) = one (codes "resume") k
words (instr.Drop k) = one (codes "drop") k
words instr.Advance = codes "advance"
words (instr.Call unit args) = run_words (codes "call") unit args
words (instr.Spawn unit args) = run_words (codes "spawn") unit args
words instr.Ret = codes "ret"
