-- The arguments of a call or a start, and what the source hands over for them.
use Rattle.std.proofs.Common.{◌≡◌, ℕ, suc, ◌+◌, ◌<◌, Bool, true, false, cond, List, [], ◌∷◌, ◌++◌, map, length, ℤ, pos, Some, refl, sym, ap, ◌∙◌, subst, arith}
use Rattle.std.specs.Prelude.{slice_get, unwrap_or, ◌||◌, ⊤}
use Rattle.std.specs.Int.{w64, int_wrapping_sub}
use Rattle.std.specs.List.{AllByRecursion}
use Rattle.std.proofs.lemmas.Option.{none-some}
use Rattle.xk_types.specs.declared.instr.Instr.TheVariants as instr
use Rattle.xk_types.specs.declared.world.Value.{Value as Held}
use Rattle.xk_types.specs.declared.world.Value.TheVariants as value
use Rattle.xk_types.specs.declared.unit.ParamKind.{ParamKind}
use Rattle.xk_types.specs.declared.unit.ParamKind.TheVariants as param
use Rattle.xk_types.specs.Code.{UnitValue}
use Rattle.xk_types.specs.Step.{Outcome, Wrong, OutOfRange, none, slot_at, clock_in, arguments_in, is_given, names_clock}
use Rattle.xk_tree.specs.Tree.{Word, Expression, Literal, Named, Paren, Negation, Binary, ParamValue}
use Rattle.xk_names.specs.Scope.{find, texts}
use Rattle.xk_emit.specs.CodeOf.{Scope, slots_of as slots_among, instr_of, slot_for, behind, eval, eval_all, argument_slots}
use Rattle.xk_emit.specs.Unit.{kinds_of_params}
use Rattle.xk_emit.specs.NameCoverage.{IsFound, IsKnown}
use Rattle.xk_source_semantics.specs.Source.{Names, named, SourceOutcome, result_of, given_one, given, handed}
use Rattle.xk_law_compiler.proofs.ExpressionLemmas.{number_is, number_held, number_at, put_at, exec, exec_parts, exec_one, then_parts, put_parts, op_parts, sub_parts, number_written, name_held, IsBelow, IsMatched, below_more, still_matched, eval_keeps, eval_gives, args_keep, behind_least, slot_most, slot_behind}
use Rattle.xk_law_compiler.proofs.UnitEntryLemmas.{AreKnown}
use Rattle.xk_law_compiler.proofs.StepLemmas.ActivityLemmas.{RunningPair, Good}
use Rattle.xk_law_compiler.proofs.StepLemmas.OperandLemmas.{number_follows, Usable, clock_used}

-- what no name is brings a number
never_clock : (slots out : List Held) (d k : ℕ) (n : ℤ) → number_at out d ≡ Some n → slice_get out d ≡ Some (value.Clock k) → ⊥
never_clock slots out d k n h g = none-some n (ap number_held (sym g) ∙ h)

module _ (pair : RunningPair) where
  open pair use {w, v, a, act, call}

  abbrev ArgIs : ParamKind → ℕ → Held → Type 0
  ArgIs param.Number x val = (n : ℤ) × (val ≡ value.Number n) × (number_held (slot_at act x) ≡ Some n)
  ArgIs param.Clock x val = (k : ℕ) × (val ≡ value.Clock k) × (slot_at act x ≡ Some (value.Clock k)) × Usable pair k

  abbrev ArgsAre : List ParamKind → List ℕ → List Held → Type 0
  ArgsAre [] [] [] = ⊤
  ArgsAre (k ∷ ks) (x ∷ xs) (val ∷ vals) = ArgIs k x val × ArgsAre ks xs vals
  ArgsAre _ _ _ = ⊥

  arguments_follow : (ps : List ParamKind) (xs : List ℕ) (go : List Held → Outcome)
      → ((vals : List Held) → ArgsAre ps xs vals → Good pair (go vals))
      → Good pair (arguments_in w a act ps xs go)
  arguments_follow [] [] go h = h [] tt
  arguments_follow [] (x ∷ xs) go h = tt
  arguments_follow (p ∷ ps) [] go h = tt
  arguments_follow (param.Number ∷ ps) (x ∷ xs) go h =
      number_follows pair (slot_at act x) _ (λ n g. arguments_follow ps xs (λ vals. go (value.Number n ∷ vals)) (λ vals are. h (value.Number n ∷ vals) ((n, refl, g), are)))
  arguments_follow (param.Clock ∷ ps) (x ∷ xs) go h =
      clock_used pair (slot_at act x) _ (λ k e u. arguments_follow ps xs (λ vals. go (value.Clock k ∷ vals)) (λ vals are. h (value.Clock k ∷ vals) ((k, refl, e, u), are)))

  -- a unit is of the right kind, and takes its arguments
  pub by_kind : (u : UnitValue) (right : Bool) (xs : List ℕ) (kinds : List ParamKind) → u.params ≡ kinds → (go : List Held → Outcome)
      → ((vals : List Held) → ArgsAre kinds xs vals → Good pair (go vals))
      → Good pair (cond right (arguments_in w a act u.params xs go) (Wrong OutOfRange))
  by_kind u true xs kinds same go h = subst (λ ks. Good pair (arguments_in w a act ks xs go)) (sym same) (arguments_follow kinds xs go h)
  by_kind u false xs kinds same go h = tt

  -- an argument of a call
  given_same : (k : ParamKind) (e : Expression) (scope : Scope) (t : ℕ) (start mid : List Held) (val : Held) → IsBelow scope t
      → IsKnown scope e
      → IsMatched scope call.frame.names start → IsMatched scope call.frame.names act.frame.slots → exec (eval scope t e) start ≡ Some mid
      → ((s : ℕ) → s < behind t (slot_for scope t e) → slot_at act s ≡ slice_get mid s) → ArgIs k (slot_for scope t e) val
      → (go : Held → SourceOutcome) → given_one v a call.frame.names k e go ≡ go val
  given_same param.Number e scope t start mid val below ok mt held ran keeps is go =
      eval_gives scope call.frame.names t e start mid is.0 below ok mt ran
      (ap number_held (sym (keeps (slot_for scope t e) (slot_behind t (slot_for scope t e) (slot_most scope t e below ok)))) ∙ is.2) (λ n. go (value.Number n))
      ∙ ap go (sym is.1)
  given_same param.Clock (Named c) scope t start mid val below ok mt held ran keeps is go =
      ap (λ o. clock_in v a o (λ k. go (value.Clock k))) (name_held scope call.frame.names c act.frame.slots ok held ∙ is.2)
      ∙ (is.3 (λ k. go (value.Clock k)) ∙ ap go (sym is.1))
  given_same param.Clock (Paren at e) scope t start mid val below ok mt held ran keeps is go =
      given_same param.Clock e scope t start mid val below ok mt held ran keeps is go
  given_same param.Clock (Literal n) scope t start mid val below ok mt held ran keeps is go =
      let p = put_parts start mid t n.value (exec_one (instr.Lit t n.value) start mid ran) in
      absurd (never_clock start mid t is.0 n.value (number_written start mid t n.value p.0 p.1 p.2) (sym (keeps t (slot_behind t t (omega arith))) ∙ is.2))
  given_same param.Clock (Binary op l at r) scope t start mid val below ok mt held ran keeps is go =
      let u = behind t (slot_for scope t l) in
      let last = instr_of op t (slot_for scope t l) (slot_for scope u r) in
      let x = exec_parts (eval scope t l) (eval scope u r ++ last ∷ []) start mid ran in
      let y = exec_parts (eval scope u r) (last ∷ []) x.0 mid x.2 in
      let c = op_parts op t (slot_for scope t l) (slot_for scope u r) y.0 mid (exec_one last y.0 mid y.2) in
      absurd (never_clock y.0 mid t is.0 (result_of op c.p c.q) (number_written y.0 mid t (result_of op c.p c.q) c.old c.there c.made)
      (sym (keeps t (slot_behind t t (omega arith))) ∙ is.2))
  given_same param.Clock (Negation at e) scope t start mid val below ok mt held ran keeps is go =
      let last = instr.Sub t t (slot_for scope (t + 1) e) in
      let z = then_parts (put_at start t (pos 0)) (exec (eval scope (t + 1) e ++ last ∷ [])) mid ran in
      let y = exec_parts (eval scope (t + 1) e) (last ∷ []) z.0 mid z.2 in
      let c = sub_parts t t (slot_for scope (t + 1) e) y.0 mid (exec_one last y.0 mid y.2) in
      absurd (never_clock y.0 mid t is.0 (int_wrapping_sub w64 c.p c.q) (number_written y.0 mid t (int_wrapping_sub w64 c.p c.q) c.old c.there c.made)
      (sym (keeps t (slot_behind t t (omega arith))) ∙ is.2))

  -- all of them
  pub given_all : (ps : List ParamValue) (es : List Expression) (scope : Scope) (t : ℕ) (start : List Held) (vals : List Held)
      → IsBelow scope t
      → AllByRecursion (IsKnown scope) es
      → IsMatched scope call.frame.names start → IsMatched scope call.frame.names act.frame.slots
      → exec (eval_all scope t es) start ≡ Some act.frame.slots
      → ArgsAre (kinds_of_params ps) (argument_slots scope t es) vals → (go : Names → SourceOutcome)
      → given v a call.frame.names ps es go ≡ go (named ps vals)
  given_all [] [] scope t start vals below ok mt held ran are go = refl
  given_all [] (e ∷ es) scope t start [] below ok mt held ran are go = absurd are
  given_all [] (e ∷ es) scope t start (val ∷ vals) below ok mt held ran are go = absurd are
  given_all (p ∷ ps) [] scope t start [] below ok mt held ran are go = absurd are
  given_all (p ∷ ps) [] scope t start (val ∷ vals) below ok mt held ran are go = absurd are
  given_all (p ∷ ps) (e ∷ es) scope t start [] below ok mt held ran are go = absurd are
  given_all (p ∷ ps) (e ∷ es) scope t start (val ∷ vals) below ok mt held ran are go =
      let u = behind t (slot_for scope t e) in
      let x = exec_parts (eval scope t e) (eval_all scope u es) start act.frame.slots ran in
      let le = behind_least t (slot_for scope t e) in
      let mid = still_matched scope t call.frame.names start x.0 below (eval_keeps scope t e start x.0 x.1) mt in
      given_same p.takes.kind e scope t start x.0 val below ok.0 mt held x.1 (args_keep scope u es x.0 act.frame.slots x.2) are.0
      (λ y. given v a call.frame.names ps es (λ more. go ((p.name.text, y) ∷ more)))
      ∙ given_all ps es scope u x.0 vals (below_more scope t u le below) ok.1 mid held x.2 are.1 (λ more. go ((p.name.text, val) ∷ more))

  pub args_length : (ps : List ParamValue) (xs : List ℕ) (vals : List Held) → ArgsAre (kinds_of_params ps) xs vals → length vals ≡ length ps
  args_length [] [] [] are = refl
  args_length [] [] (y ∷ ys) are = absurd are
  args_length [] (x ∷ xs) [] are = absurd are
  args_length [] (x ∷ xs) (y ∷ ys) are = absurd are
  args_length (p ∷ ps) [] [] are = absurd are
  args_length (p ∷ ps) [] (y ∷ ys) are = absurd are
  args_length (p ∷ ps) (x ∷ xs) [] are = absurd are
  args_length (p ∷ ps) (x ∷ xs) (y ∷ ys) are = ap suc (args_length ps xs ys are.1)

  -- what is handed to an activity
  pub record IsHanded (cs : List Word) (xs : List (List ℕ)) (vals : List Held) : Type 0 where
    pub clocks : List Held
    pub source : (go : List Held → SourceOutcome) → handed v a call.frame.names cs go ≡ go clocks
    pub known : AreKnown call.frame.names (texts cs ++ xs) vals
    pub same : (c : ℕ) → is_given vals c ≡ is_given clocks c

  -- what a visible name stands for is in its slot
  held_there : (scope : Scope) (x : List ℕ) → IsFound scope x → IsMatched scope call.frame.names act.frame.slots
      → find call.frame.names x ≡ slot_at act (unwrap_or (find scope x) 0)
  held_there scope x known held = name_held scope call.frame.names (record { at = 0; text = x }) act.frame.slots known held

  numbers_handed : (scope : Scope) (xs : List (List ℕ)) (vals : List Held) → AllByRecursion (IsFound scope) xs
      → IsMatched scope call.frame.names act.frame.slots
      → ArgsAre (map (λ _. param.Number) xs) (slots_among scope xs) vals → IsHanded [] xs vals
  numbers_handed scope [] [] vis held are = record { clocks = []; source = λ go. refl; known = tt; same = λ c. refl }
  numbers_handed scope [] (y ∷ ys) vis held are = absurd are
  numbers_handed scope (x ∷ xs) [] vis held are = absurd are
  numbers_handed scope (x ∷ xs) (y ∷ ys) vis held are =
      let r = numbers_handed scope xs ys vis.1 held are.1 in
      record {
        clocks = r.clocks;
        source = r.source;
        known = (held_there scope x vis.0 held ∙ (number_is (slot_at act (unwrap_or (find scope x) 0)) are.0.0 are.0.2 ∙ ap (λ u. Some u) (sym are.0.1)), r.known);
        same = λ c. ap (λ u. names_clock c u || is_given ys c) are.0.1 ∙ r.same c;
      }

  pub all_handed : (scope : Scope) (cs : List Word) (xs : List (List ℕ)) (vals : List Held)
      → AllByRecursion (IsFound scope) (texts cs ++ xs)
      → IsMatched scope call.frame.names act.frame.slots
      → ArgsAre (map (λ _. param.Clock) (texts cs) ++ map (λ _. param.Number) xs) (slots_among scope (texts cs ++ xs)) vals
      → IsHanded cs xs vals
  all_handed scope [] xs vals vis held are = numbers_handed scope xs vals vis held are
  all_handed scope (c ∷ cs) xs [] vis held are = absurd are
  all_handed scope (c ∷ cs) xs (y ∷ ys) vis held are =
      let r = all_handed scope cs xs ys vis.1 held are.1 in
      let stood : find call.frame.names c.text ≡ Some (value.Clock are.0.0) = held_there scope c.text vis.0 held ∙ are.0.2 in
      record {
        clocks = y ∷ r.clocks;
        source = λ go. ap (λ o. clock_in v a o (λ k. handed v a call.frame.names cs (λ more. go (value.Clock k ∷ more)))) stood
            ∙ (are.0.3 (λ k. handed v a call.frame.names cs (λ more. go (value.Clock k ∷ more)))
            ∙ (r.source (λ more. go (value.Clock are.0.0 ∷ more)) ∙ ap (λ u. go (u ∷ r.clocks)) (sym are.0.1)));
        known = (stood ∙ ap (λ u. Some u) (sym are.0.1), r.known);
        same = λ d. ap (λ rest. names_clock d y || rest) (r.same d);
      }
