-- What follows where names are without faults: no loop's name is assigned to in its body, nor that of its limit, what is called fits, and no clock is given twice.
use Rattle.std.proofs.Common.{◌≡◌, ℕ, suc, Bool, true, false, cond, ◌<◌, List, [], ◌∷◌, ◌++◌, append_assoc, map, length, Option, Some, None, inl, inr, refl, sym, ap, ◌∙◌, subst}
use Rattle.std.specs.Prelude.{slice_get}
use Rattle.std.specs.List.{flat_map}
use Rattle.std.specs.Option.{option_map_or}
use Rattle.std.specs.Cmp.Lexicographic.{bytes_decides}
use Rattle.std.proofs.lemmas.Bool.{false≢true}
use Rattle.std.proofs.lemmas.List.{length-map}
use Rattle.std.proofs.lemmas.Option.{none-some, same_Some}
use Rattle.xk_types.specs.declared.unit.ParamKind.{ParamKind}
use Rattle.xk_types.specs.declared.unit.ParamKind.TheVariants as param
use Rattle.xk_types.specs.declared.unit.UnitKind.{UnitKind}
use Rattle.xk_types.specs.Code.{UnitValue, ModuleValue, params_of, is_method, is_body}
use Rattle.xk_tree.specs.declared.tree.Number.{Number}
use Rattle.xk_tree.specs.declared.tree.Verb.{Verb}
use Rattle.xk_tree.specs.Tree.{Word, Clocks, Expression, Bound, UpTo, Least, ParamValue, Statement, Block, Assign, If, IfElse, For, Async, Finish, Call, Statements, Done, More}
use Rattle.xk_names.specs.declared.binding.Known.{Known}
use Rattle.xk_names.specs.declared.binding.NameKind.TheVariants as kind
use Rattle.xk_names.specs.declared.binding.Want.TheVariants as want
use Rattle.xk_names.specs.Scope.{Table, find, is_text, is_assigned, declared, entries, texts, Has, Scope}
use Rattle.xk_names.specs.Uses.{Signatures, use_as, declares, bound_declares, bound_misfits, given_to, argument_misfits, argument_clocks, clocks_listed}
use Rattle.xk_names.specs.Places.{behind}
use Rattle.xk_names.specs.WellScoped.{IsSound, IsSoundInside, AreSound, with_all}
use Rattle.xk_emit.specs.CodeOf.{Setting, number_of, body_unit, body_params, captures_at}
use Rattle.xk_emit.specs.Unit.{kinds_of_params, body_kinds}
use Rattle.xk_emit.proofs.ShapeLemmas.InstructionLemmas.{EachInside, EachOf}
use Rattle.xk_emit.proofs.ShapeLemmas.LoopCounterLemmas.{SparesName, SparesLimitName, KeepsNames, AllKeepNames}
use Rattle.xk_emit.proofs.ShapeLemmas.CallTargetLemmas.{Fits, RunsFitting}
use Rattle.xk_emit.proofs.ShapeLemmas.ClockArgumentLemmas.{GivesOnce}

-- what is found stays so behind more names
found_before : (table more : Table Known) (x : List ℕ) (k : Known) → find table x ≡ Some k → find (table ++ more) x ≡ Some k
found_before [] more x k h = absurd (none-some k h)
found_before (e ∷ es) more x k h = go (is_text x e.0) (found_before es more x k) h
  where
    go : (b : Bool) → (find es x ≡ Some k → find (es ++ more) x ≡ Some k) → cond b (Some e.1) (find es x) ≡ Some k → cond b (Some e.1) (find (es ++ more) x) ≡ Some k
    go true later q = q
    go false later q = later q

-- a new name is found behind the others
found_new : (table : Table Known) (x : List ℕ) (k : Known) → find table x ≡ None → find (table ++ (x, k) ∷ []) x ≡ Some k
found_new [] x k h = ap (λ b. cond b (Some k) None) ((bytes_decides x x).1 refl)
found_new (e ∷ es) x k h = go (is_text x e.0) (found_new es x k) h
  where
    go : (b : Bool) → (find es x ≡ None → find (es ++ (x, k) ∷ []) x ≡ Some k) → cond b (Some e.1) (find es x) ≡ None → cond b (Some e.1) (find (es ++ (x, k) ∷ []) x) ≡ Some k
    go true later q = absurd (none-some e.1 (sym q))
    go false later q = later q

mutual
  -- a name that isn't of a kind that is assigned to
  spares_name : (ms : Signatures) (sc : Scope) (x : List ℕ) (k : Known) (s : Statement) → find sc.names x ≡ Some k → is_assigned k.kind ≡ false
      → IsSound ms sc s → IsSoundInside ms sc s → EachInside (SparesName x) s
  spares_name ms sc x k (Block close ss) f n h g = spare_name ms sc x k ss f n g
  spares_name ms sc x k (Assign y e) f n h g = λ same.
      let r = h.used (use_as want.Assigned y) (inl refl) in
      let one : k ≡ r.known = same_Some k r.known (sym f ∙ ap (find sc.names) (sym same) ∙ r.found) in
      false≢true (sym n ∙ ap (λ j. is_assigned j.kind) one ∙ r.right)
  spares_name ms sc x k (If at l op r s) f n h g = spares_name ms sc x k s f n g.0 g.1
  spares_name ms sc x k (IfElse at l op r s u) f n h g = (spares_name ms sc x k s f n g.0.0 g.0.1, spares_name ms sc x k u f n g.1.0 g.1.1)
  spares_name ms sc x k (For at i lo hi s) f n h g = λ turns.
      spares_name ms (with_all sc (declares (length sc.bodies) (For at i lo hi s))) x k s
      (found_before sc.names (entries (declares (length sc.bodies) (For at i lo hi s))) x k f) n g.0 g.1
  spares_name ms sc x k (Finish at s) f n h g = spares_name ms sc x k s f n g.0 g.1
  spares_name ms sc x k _ f n h g = tt

  spare_name : (ms : Signatures) (sc : Scope) (x : List ℕ) (k : Known) (ss : Statements) → find sc.names x ≡ Some k → is_assigned k.kind ≡ false → AreSound ms sc ss
      → EachOf (SparesName x) ss
  spare_name ms sc x k Done f n g = tt
  spare_name ms sc x k (More s ss) f n g =
      let ds = behind (length sc.bodies) s in
      (spares_name ms sc x k s f n g.0.0 g.0.1, spare_name ms (with_all sc ds) x k ss (found_before sc.names (entries ds) x k f) n g.1)

-- another name than the new one is as unknown as before
none_more : (table : Table Known) (x y : List ℕ) (k : Known) → find table y ≡ None → is_text y x ≡ false → find (table ++ (x, k) ∷ []) y ≡ None
none_more [] x y k h g = ap (λ b. cond b (Some k) None) g
none_more (e ∷ es) x y k h g = go (is_text y e.0) (λ q. none_more es x y k q g) h
  where
    go : (b : Bool) → (find es y ≡ None → find (es ++ (x, k) ∷ []) y ≡ None) → cond b (Some e.1) (find es y) ≡ None → cond b (Some e.1) (find (es ++ (x, k) ∷ []) y) ≡ None
    go true later q = q
    go false later q = later q

-- a loop without faults has a limit with another name
limit_differs : (i x : Word) (v : Verb) (e : Expression) (hi : Number) → ((at : ℕ) → Has (bound_misfits i (Least x v e hi)) at → ⊥) → is_text x.text i.text ≡ false
limit_differs i x v e hi h = go (is_text x.text i.text) h
  where
    go : (b : Bool) → ((at : ℕ) → Has (cond b (x.at ∷ []) []) at → ⊥) → b ≡ false
    go true none = absurd (none x.at (inl refl))
    go false none = refl

spares_limit : (ms : Signatures) (sc : Scope) (at : ℕ) (i : Word) (lo : Number) (b : Bound) (s : Statement) → IsSound ms sc (For at i lo b s)
    → let there = with_all sc (declares (length sc.bodies) (For at i lo b s)) in IsSound ms there s → IsSoundInside ms there s → SparesLimitName b s
spares_limit ms sc at i lo (UpTo hi) s h g k = tt
spares_limit ms sc at i lo (Least x v e hi) s h g k =
    let there = with_all sc (declares (length sc.bodies) (For at i lo (Least x v e hi) s)) in
    let d = declared i kind.Val (length sc.bodies) in
    let l = declared x kind.Val (length sc.bodies) in
    let none = none_more sc.names i.text x.text d.known (h.new l (inr (inl refl))) (limit_differs i x v e hi h.fitting) in
    let found =
    subst (λ (names : Table Known). find names x.text ≡ Some l.known) (append_assoc sc.names ((i.text, d.known) ∷ []) ((x.text, l.known) ∷ []))
    (found_new (sc.names ++ (i.text, d.known) ∷ []) x.text l.known none) in
    spares_name ms there x.text l.known s found refl g k

mutual
  pub keeps_names : (ms : Signatures) (sc : Scope) (s : Statement) → IsSound ms sc s → IsSoundInside ms sc s → KeepsNames s
  keeps_names ms sc (Block close ss) h g = keep_names ms sc ss g
  keeps_names ms sc (If at l op r s) h g = keeps_names ms sc s g.0 g.1
  keeps_names ms sc (IfElse at l op r s u) h g = (keeps_names ms sc s g.0.0 g.0.1, keeps_names ms sc u g.1.0 g.1.1)
  keeps_names ms sc (For at i lo b s) h g = λ turns.
      let d = declared i kind.Val (length sc.bodies) in
      let there = with_all sc (declares (length sc.bodies) (For at i lo b s)) in
      let first = found_new sc.names i.text d.known (h.new d (inl refl)) in
      let found =
      subst (λ (names : Table Known). find names i.text ≡ Some d.known) (append_assoc sc.names ((i.text, d.known) ∷ []) (entries (bound_declares (length sc.bodies) b)))
      (found_before (sc.names ++ (i.text, d.known) ∷ []) (entries (bound_declares (length sc.bodies) b)) i.text d.known first) in
      (spares_name ms there i.text d.known s found refl g.0 g.1, spares_limit ms sc at i lo b s h g.0 g.1, keeps_names ms there s g.0 g.1)
  keeps_names ms sc (Finish at s) h g = keeps_names ms sc s g.0 g.1
  keeps_names ms sc _ h g = tt

  keep_names : (ms : Signatures) (sc : Scope) (ss : Statements) → AreSound ms sc ss → AllKeepNames ss
  keep_names ms sc Done g = tt
  keep_names ms sc (More s ss) g = (keeps_names ms sc s g.0.0 g.0.1, keep_names ms (with_all sc (behind (length sc.bodies) s)) ss g.1)

-- ---- what is called and started

-- the unit that is called or started is of such a kind and comes behind this one
pub record Stands (kind : UnitKind → Bool) (m : ModuleValue) (unit t : ℕ) (params : List ParamKind) : Type 0 where
  pub v : UnitValue
  pub found : slice_get m.units t ≡ Some v
  pub is : kind v.kind ≡ true
  pub behind : unit < t
  pub takes : v.params ≡ params

-- of a method that the statement itself calls, or a body that it starts, the unit stands where the setting says
abbrev pub FindsUnits : ModuleValue → Setting → Signatures → ℕ → Statement → Type 0
FindsUnits m cx ms unit (Call f at es) = (ps : List ParamValue) → find ms f.text ≡ Some ps → Stands is_method m unit (number_of cx.methods f) (kinds_of_params ps)
FindsUnits m cx ms unit (Async at cs s) = Stands is_body m unit (body_unit cx at) (body_kinds cx at cs)
FindsUnits m cx ms unit _ = Unit {0}

-- a body's parameters are as many as their names
pub body_count : (cs ns : List (List ℕ)) → length (map (λ _. param.Clock) cs ++ map (λ _. param.Number) ns) ≡ length (cs ++ ns)
body_count [] ns = length-map ns (λ _. param.Number)
body_count (c ∷ cs) ns = ap suc (body_count cs ns)

module _ (m : ModuleValue) (cx : Setting) (ms : Signatures) (unit : ℕ) where
  -- the parameters of a unit that is there
  takes : (kind : UnitKind → Bool) (t : ℕ) (params : List ParamKind) → Stands kind m unit t params → params_of m t ≡ params
  takes kind t params h = ap (λ o. option_map_or (λ u. u.params) o []) h.found ∙ h.takes

  fits : (kind : UnitKind → Bool) (t n : ℕ) (params : List ParamKind) → Stands kind m unit t params → length params ≡ n → Fits kind m unit t n
  fits kind t n params h e = record { v = h.v; found = h.found; is = h.is; behind = h.behind; count = ap length h.takes ∙ e }

  call_fits : (sc : Scope) (f : Word) (at : ℕ) (es : List Expression) → IsSound ms sc (Call f at es) → FindsUnits m cx ms unit (Call f at es)
      → RunsFitting m cx unit (Call f at es)
  call_fits sc f at es h g =
      let c = h.callable f es refl in
      fits is_method (number_of cx.methods f) (length es) (kinds_of_params c.params) (g c.params c.found) (length-map c.params (λ p. p.takes.kind) ∙ c.count)

  body_fits : (at : ℕ) (cs : Option Clocks) (s : Statement) → FindsUnits m cx ms unit (Async at cs s) → RunsFitting m cx unit (Async at cs s)
  body_fits at cs s g = fits is_body (body_unit cx at) (length (body_params cx at cs)) (body_kinds cx at cs) g (body_count (texts (clocks_listed cs)) (captures_at cx at))

  call_once : (sc : Scope) (f : Word) (at : ℕ) (es : List Expression) → IsSound ms sc (Call f at es) → FindsUnits m cx ms unit (Call f at es) → GivesOnce m cx (Call f at es)
  call_once sc f at es h g =
      let c = h.callable f es refl in
      record {
        ps = c.params;
        kinds = takes is_method (number_of cx.methods f) (kinds_of_params c.params) (g c.params c.found);
        fitting = λ k q. h.fitting k (subst (λ o. Has (flat_map (λ a. argument_misfits a.0 a.1) (given_to o es)) k) (sym c.found) q);
        apart = λ before w after e. h.apart before w after (ap (λ o. flat_map (λ a. argument_clocks a.0 a.1) (given_to o es)) c.found ∙ e);
      }

  body_once : (sc : Scope) (at : ℕ) (cs : Option Clocks) (s : Statement) → IsSound ms sc (Async at cs s) → FindsUnits m cx ms unit (Async at cs s)
      → GivesOnce m cx (Async at cs s)
  body_once sc at cs s h g = record { kinds = takes is_body (body_unit cx at) (body_kinds cx at cs) g; apart = h.apart }

  mutual
    -- what a statement that is sound calls and starts
    pub runs_right : (sc : Scope) (s : Statement) → IsSound ms sc s → IsSoundInside ms sc s → EachInside (FindsUnits m cx ms unit) s
        → EachInside (RunsFitting m cx unit) s × EachInside (GivesOnce m cx) s
    runs_right sc (Block close ss) h g f = all_run_right sc ss g f
    runs_right sc (If at l op r s) h g f = runs_right sc s g.0 g.1 f
    runs_right sc (IfElse at l op r s u) h g f =
        let a = runs_right sc s g.0.0 g.0.1 f.0 in
        let b = runs_right sc u g.1.0 g.1.1 f.1 in
        ((a.0, b.0), (a.1, b.1))
    runs_right sc (For at i lo hi s) h g f =
        let there = with_all sc (declares (length sc.bodies) (For at i lo hi s)) in
        ((λ turns. (runs_right there s g.0 g.1 (f turns)).0), (λ turns. (runs_right there s g.0 g.1 (f turns)).1))
    runs_right sc (Finish at s) h g f = runs_right sc s g.0 g.1 f
    runs_right sc (Call w at es) h g f = (call_fits sc w at es h f, call_once sc w at es h f)
    runs_right sc (Async at cs s) h g f = (body_fits at cs s f, body_once sc at cs s h f)
    runs_right sc _ h g f = (tt, tt)

    pub all_run_right : (sc : Scope) (ss : Statements) → AreSound ms sc ss → EachOf (FindsUnits m cx ms unit) ss
        → EachOf (RunsFitting m cx unit) ss × EachOf (GivesOnce m cx) ss
    all_run_right sc Done g f = (tt, tt)
    all_run_right sc (More s ss) g f =
        let a = runs_right sc s g.0.0 g.0.1 f.0 in
        let b = all_run_right (with_all sc (behind (length sc.bodies) s)) ss g.1 f.1 in
        ((a.0, b.0), (a.1, b.1))
