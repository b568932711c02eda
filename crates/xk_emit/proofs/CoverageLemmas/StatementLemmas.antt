-- A statement without faults of names, in a place that has the slots which belong to it: its code has the names that it needs, and so has that
-- of each body of `async` which it leads to.
use Rattle.std.proofs.Common.{◌≡◌, inl, inr, ℕ, ◌+◌, Bool, true, false, cond, List, [], ◌∷◌, ◌++◌, length, Option, Some, None, refl, sym, ap, ◌∙◌, subst}
use Rattle.std.specs.Prelude.{is_some, int_le}
use Rattle.std.specs.Option.{option_map_or}
use Rattle.std.specs.List.{All, flat_map}
use Rattle.std.proofs.lemmas.List.Elements.{All-append, All-cons, All-nil}
use Rattle.xk_tree.specs.declared.tree.Number.{Number}
use Rattle.xk_tree.specs.Tree.{Word, Clocks, Expression, Bound, UpTo, Least, top, Statement, Statements, Done, More, Block, Empty, Declare, Assign, Atomic, If, IfElse, For, Async, Finish, Call, Resume, Drop, AdvanceAll, Print, ParamValue}
use Rattle.xk_names.specs.declared.binding.Known.{Known}
use Rattle.xk_names.specs.declared.binding.NameKind.TheVariants as kind
use Rattle.xk_names.specs.declared.binding.Want.TheVariants as want
use Rattle.xk_names.specs.Scope as names
use Rattle.xk_names.specs.Scope.{find, has, is_text, texts, Has, is_clock}
use Rattle.xk_names.specs.Uses.{Signatures, use_as, kind_of, numbers, bound_uses, declares, clocks_listed, given_to, argument_uses, argument_misfits}
use Rattle.xk_names.specs.Places as places
use Rattle.xk_names.specs.WellScoped.{IsRight, IsSound, IsSoundInside, AreSound, with_all, with_body}
use Rattle.xk_names.specs.FaultList.{put_text, put_texts}
use Rattle.xk_names.specs.Captures.{number_words, bound_words, loop_words, argument_words, words_used, words_besides, own_behind, outer_inside, outer_among, outer_words, captures}
use Rattle.xk_names.proofs.MembershipLemmas.{has_left, has_right, has_either, to_map}
use Rattle.xk_names.proofs.CaptureVisibilityLemmas.{AreRight, outer_found, outer_kept}
use Rattle.xk_emit.specs.CodeOf.{Setting, Body, Scope, body_params, loop_slots, within_loop, count, declared}
use Rattle.xk_emit.specs.Unit.{scope_from}
use Rattle.xk_emit.specs.NameCoverage.{IsFound, IsKnown, IsBoundKnown, IsLoopNew, IsCovered, AreCovered, IsUnitCovered}
use Rattle.xk_emit.specs.CodeReferences.{AsyncBody, bodies_in, bodies_in_all, calls_in, calls_in_all, IsSettled}
use Rattle.xk_emit.proofs.CoverageLemmas.TableLemmas.{Differ, differ_new, differ_append, differ_texts, param_found, still_absent, still_found, among_texts, in_right}
use Rattle.xk_emit.proofs.CoverageLemmas.ScopeSlotLemmas.{Seen, Texts, Fits, fits_behind, fits_loop, fits_body, body_names, is_captured}
use Rattle.xk_emit.proofs.CoverageLemmas.StatementNameLemmas.{AreTaken, taken_besides, HasPlaces, shared_known, clock_slot, has_slot, expression_known, source_known, assigned_known, arguments_known, all_texts}

-- ---- what is settled for a statement

pub record Settled (cx : Setting) (ms : Signatures) (shared : Texts) (calls : List Word) (bodies : List AsyncBody) : Type 0 where
  pub methods : (f : Word) → Has calls f → IsFound cx.methods f.text
  pub entries : (b : AsyncBody) → Has bodies b → IsSettled cx ms shared b

settled_left : (cx : Setting) (ms : Signatures) (shared : Texts) (fs gs : List Word) (bs ds : List AsyncBody) → Settled cx ms shared (fs ++ gs) (bs ++ ds)
    → Settled cx ms shared fs bs
settled_left cx ms shared fs gs bs ds s = record { methods = λ f h. s.methods f (has_left fs gs f h); entries = λ b h. s.entries b (has_left bs ds b h) }

settled_right : (cx : Setting) (ms : Signatures) (shared : Texts) (fs gs : List Word) (bs ds : List AsyncBody) → Settled cx ms shared (fs ++ gs) (bs ++ ds)
    → Settled cx ms shared gs ds
settled_right cx ms shared fs gs bs ds s = record { methods = λ f h. s.methods f (has_right fs gs f h); entries = λ b h. s.entries b (has_right bs ds b h) }

-- what a statement takes from outside has slots
abbrev pub IsTaken : Scope → List Word → Type 0
IsTaken scope ws = (w : Word) → Has ws w → IsFound scope w.text

taken_left : (scope : Scope) (ws vs : List Word) → IsTaken scope (ws ++ vs) → IsTaken scope ws
taken_left scope ws vs taken w h = taken w (has_left ws vs w h)

taken_right : (scope : Scope) (ws vs : List Word) → IsTaken scope (ws ++ vs) → IsTaken scope vs
taken_right scope ws vs taken w h = taken w (has_right ws vs w h)

-- the body's unit has the names that its code needs
abbrev pub IsBodyCovered : Setting → AsyncBody → Type 0
IsBodyCovered cx b = IsUnitCovered cx (body_params cx b.at b.clocks) b.body

abbrev pub AreBodiesCovered : Setting → List AsyncBody → Type 0
AreBodiesCovered cx bs = (b : AsyncBody) → Has bs b → IsBodyCovered cx b

both_covered : (cx : Setting) (bs ds : List AsyncBody) → AreBodiesCovered cx bs → AreBodiesCovered cx ds → AreBodiesCovered cx (bs ++ ds)
both_covered cx bs ds first second b h = elim (has_either bs ds b h) [ inl a ↦ first b a | inr c ↦ second b c ]

-- ---- the body of an `async`

entry_captures : (cx : Setting) (ms : Signatures) (shared : Texts) (b : AsyncBody) → IsSettled cx ms shared b → body_params cx b.at b.clocks ≡ body_names ms shared b.clocks b.body
entry_captures cx ms shared b s =
    ap (λ k. texts (clocks_listed b.clocks) ++ option_map_or (λ (e : Body). e.captures) k []) s.there ∙ ap (λ k. texts (clocks_listed b.clocks) ++ k) s.captures

-- the numbers that it takes have slots where it stands
captured_slot : (ms : Signatures) (shared : Texts) (sc : Seen) (scope : Scope) (own : Texts) (s : Statement) → Fits shared sc scope own → IsTaken scope (outer_words ms own s)
    → (w : Word) → Has (outer_words ms shared s) w → has shared w.text ≡ false → IsFound scope w.text
captured_slot ms shared sc scope own s there taken w h plain = has_slot shared sc scope own w.text there plain (λ other. taken w (outer_kept ms shared own s w other h))

-- and they aren't its clocks
other_names : (ms : Signatures) (sc : Seen) (shared : Texts) (cs : List Word) (s : Statement) → ((c : Word) → Has cs c → IsRight sc (use_as want.Clock c))
    → IsSound ms (with_body sc cs) s → IsSoundInside ms (with_body sc cs) s → (w : Word) → Has (outer_words ms shared s) w → has (texts cs) w.text ≡ false
other_names ms sc shared cs s clocks sound inner w h = go (has (texts cs) w.text) refl
  where
    go : (b : Bool) → has (texts cs) w.text ≡ b → b ≡ false
    go false e = refl
    go true e =
        let r = among_texts cs w.text e in
        let c = clocks r.0 r.1.0 in
        let n = (outer_found ms (with_body sc cs) shared s sound inner w h).there in
        let same : Some c.known ≡ Some n.known = sym c.found ∙ ap (find sc.names) r.1.1 ∙ n.found in
        let one : c.known ≡ n.known = cc in
        let never : true ≡ false = sym c.right ∙ ap (λ (k : Known). is_clock k.kind) one ∙ n.number in
        absurd cc

differ_clocks : (before cs : List Word) → ((front : List Word) (c : Word) (rest : List Word) → before ++ cs ≡ front ++ c ∷ rest → has (texts front) c.text ≡ false)
    → Differ (texts before) (texts cs)
differ_clocks before [] apart = tt
differ_clocks before (c ∷ cs) apart = (
  apart before c cs refl,
  subst (λ k. Differ k (texts cs)) (texts_end before c)
      (differ_clocks (before ++ c ∷ []) cs (λ front d rest e. apart front d rest (step before c cs ∙ e))),
)
  where
    texts_end : (ws : List Word) (v : Word) → texts (ws ++ v ∷ []) ≡ texts ws ++ v.text ∷ []
    texts_end [] v = refl
    texts_end (w ∷ ws) v = ap (λ r. w.text ∷ r) (texts_end ws v)

    step : (ws : List Word) (v : Word) (vs : List Word) → ws ++ v ∷ vs ≡ (ws ++ v ∷ []) ++ vs
    step [] v vs = refl
    step (w ∷ ws) v vs = ap (λ r. w ∷ r) (step ws v vs)

body_differs : (ms : Signatures) (shared : Texts) (cs : List Word) (s : Statement)
    → ((front : List Word) (c : Word) (rest : List Word) → cs ≡ front ++ c ∷ rest → has (texts front) c.text ≡ false)
    → ((w : Word) → Has (outer_words ms shared s) w → has (texts cs) w.text ≡ false) → Differ [] (texts cs ++ captures ms shared s)
body_differs ms shared cs s apart other =
    differ_append [] (texts cs) (captures ms shared s) (differ_clocks [] cs apart) (differ_texts (texts cs) [] (outer_words ms shared s) other tt)

-- the names of its parameters have slots where it stands
all_put : (scope : Scope) (ts : Texts) (ws : List Word) → All (IsFound scope) ts → IsTaken scope ws → All (IsFound scope) (put_texts ts ws)
all_put scope ts [] all taken = all
all_put scope ts (w ∷ ws) all taken = all_put scope (put_text ts w.text) ws (go (has ts w.text)) (λ v h. taken v (inr h))
  where
    go : (b : Bool) → All (IsFound scope) (cond b ts (ts ++ w.text ∷ []))
    go true = all
    go false = All-append (IsFound scope) ts (w.text ∷ []) all (All-cons (IsFound scope) w.text [] (taken w (inl refl)) (All-nil (IsFound scope)))

record AsyncFits (cx : Setting) (ms : Signatures) (shared : Texts) (sc : Seen) (scope : Scope) (own : Texts) (at : ℕ) (cs : Option Clocks) (s : Statement) : Type 0 where
  there : Fits shared sc scope own
  settled : IsSettled cx ms shared (record { at = at; clocks = cs; body = s })
  clocks : (c : Word) → Has (clocks_listed cs) c → IsRight sc (use_as want.Clock c)
  apart : (front : List Word) (c : Word) (rest : List Word) → clocks_listed cs ≡ front ++ c ∷ rest → has (texts front) c.text ≡ false
  sound : IsSound ms (with_body sc (clocks_listed cs)) s
  inner : IsSoundInside ms (with_body sc (clocks_listed cs)) s
  taken : IsTaken scope (outer_words ms own s)

async_starts : (cx : Setting) (ms : Signatures) (shared : Texts) (sc : Seen) (scope : Scope) (own : Texts) (n at : ℕ) (cs : Option Clocks) (s : Statement)
    → AsyncFits cx ms shared sc scope own at cs s → IsCovered cx scope n (Async at cs s)
async_starts cx ms shared sc scope own n at cs s f =
    let held : AsyncBody = record { at = at; clocks = cs; body = s } in (
      ap is_some f.settled.there,
      subst (λ xs. All (IsFound scope) xs) (sym (entry_captures cx ms shared held f.settled))
          (All-append (IsFound scope) (texts (clocks_listed cs)) (captures ms shared s)
          (all_texts scope (clocks_listed cs) (λ c h. clock_slot shared sc scope own c f.there (f.clocks c h)))
          (all_put scope [] (outer_words ms shared s) (All-nil (IsFound scope))
          (λ w h. captured_slot ms shared sc scope own s f.there f.taken w h (outer_found ms (with_body sc (clocks_listed cs)) shared s f.sound f.inner w h).other))),
    )

async_inside : (cx : Setting) (ms : Signatures) (shared : Texts) (sc : Seen) (scope : Scope) (own : Texts) (at : ℕ) (cs : Option Clocks) (s : Statement)
    → AsyncFits cx ms shared sc scope own at cs s → IsCovered cx (scope_from 0 (body_names ms shared cs s)) (length (body_names ms shared cs s)) s
    → IsBodyCovered cx (record { at = at; clocks = cs; body = s })
async_inside cx ms shared sc scope own at cs s f covered =
    let held : AsyncBody = record { at = at; clocks = cs; body = s } in
    subst (λ xs. IsUnitCovered cx xs s) (sym (entry_captures cx ms shared held f.settled)) (record {
      params = differ_new [] 0 [] (body_names ms shared cs s) (λ x e. refl)
          (body_differs ms shared (clocks_listed cs) s f.apart (λ w h. other_names ms sc shared (clocks_listed cs) s f.clocks f.sound f.inner w h));
      body = covered;
    })

async_fits : (cx : Setting) (ms : Signatures) (shared : Texts) (sc : Seen) (scope : Scope) (own : Texts) (at : ℕ) (cs : Option Clocks) (s : Statement)
    → AsyncFits cx ms shared sc scope own at cs s → Fits shared (with_body sc (clocks_listed cs)) (scope_from 0 (body_names ms shared cs s)) shared
async_fits cx ms shared sc scope own at cs s f =
    fits_body ms shared sc scope own cs s f.there (λ c h. let r = f.clocks c h in (r.known, r.found)) f.sound f.inner

body_taken : (ms : Signatures) (shared : Texts) (cs : Option Clocks) (s : Statement) → IsTaken (scope_from 0 (body_names ms shared cs s)) (outer_words ms shared s)
body_taken ms shared cs s w h =
    param_found 0 (body_names ms shared cs s) w.text ∙ in_right (texts (clocks_listed cs)) (captures ms shared s) w.text (is_captured ms shared s w h)

-- ---- statements

-- the statement's code has the names that it needs, and so has that of each body of `async` in it
abbrev Covered : Setting → Scope → ℕ → Statement → Type 0
Covered cx scope n s = IsCovered cx scope n s × AreBodiesCovered cx (bodies_in s)

none_there : (cx : Setting) → AreBodiesCovered cx []
none_there cx b h = absurd h

own_taken : (ms : Signatures) (scope : Scope) (own : Texts) (s : Statement) → IsTaken scope (outer_words ms own s) → AreTaken own scope (words_used ms s)
own_taken ms scope own s taken = taken_besides own scope (words_used ms s) (taken_left scope (words_besides own (words_used ms s)) (outer_inside ms own s) taken)

both_known : (shared : Texts) (sc : Seen) (scope : Scope) (own : Texts) (l r : Expression) → Fits shared sc scope own → AreRight sc (numbers l ++ numbers r)
    → AreTaken own scope (number_words l ++ number_words r) → IsKnown scope l × IsKnown scope r
both_known shared sc scope own l r there right taken = (
  expression_known shared sc scope own l there (λ u h. right u (has_left (numbers l) (numbers r) u h)) (λ w h. taken w (has_left (number_words l) (number_words r) w h)),
  expression_known shared sc scope own r there (λ u h. right u (has_right (numbers l) (numbers r) u h)) (λ w h. taken w (has_right (number_words l) (number_words r) w h)),
)

-- the shared number of an `atomic`
shared_place : (cx : Setting) (shared : Texts) (sc : Seen) (scope : Scope) (own : Texts) (x : Word) → HasPlaces cx shared → Fits shared sc scope own
    → IsRight sc (use_as want.Shared x) → IsFound cx.shared x.text
shared_place cx shared sc scope own x places there r = places x.text ∙ shared_known shared sc scope own x.text r.known there r.found ∙ r.right

-- the arguments of a call
call_known : (ms : Signatures) (shared : Texts) (sc : Seen) (scope : Scope) (own : Texts) (f : Word) (at : ℕ) (es : List Expression) → Fits shared sc scope own
    → IsSound ms sc (Call f at es) → AreTaken own scope (words_used ms (Call f at es)) → All (IsKnown scope) es
call_known ms shared sc scope own f at es there sound taken =
    let c = sound.callable f es refl in
    go c.params c.count (find ms f.text) c.found sound.used sound.fitting taken
  where
    go : (ps : List ParamValue) → length ps ≡ length es → (o : Option (List ParamValue)) → o ≡ Some ps → AreRight sc (flat_map (λ a. argument_uses a.0 a.1) (given_to o es))
        → ((p : ℕ) → Has (flat_map (λ a. argument_misfits a.0 a.1) (given_to o es)) p → ⊥)
        → AreTaken own scope (flat_map (λ a. argument_words a.0 a.1) (given_to o es)) → All (IsKnown scope) es
    go ps same None e right fitting words = absurd cc
    go ps same (Some qs) e right fitting words =
        let one : qs ≡ ps = cc in
        arguments_known shared sc scope own qs es (ap length one ∙ same) there right fitting words

loop_covered : (cx : Setting) (ms : Signatures) (shared : Texts) (scope : Scope) (n : ℕ) (i : Word) (b : Bound) (s : Statement) (turn : Bool)
    → Settled cx ms shared (cond turn (calls_in s) []) (cond turn (bodies_in s) []) → IsBoundKnown scope b → IsLoopNew scope n i b
    → (Settled cx ms shared (calls_in s) (bodies_in s) → Covered cx (within_loop scope n i b) (n + loop_slots b) s)
    → (turn ≡ true → IsBoundKnown scope b × IsLoopNew scope n i b × IsCovered cx (within_loop scope n i b) (n + loop_slots b) s)
    × AreBodiesCovered cx (cond turn (bodies_in s) [])
loop_covered cx ms shared scope n i b s true settled known new later = let r = later settled in (λ t. (known, new, r.0), r.1)
loop_covered cx ms shared scope n i b s false settled known new later = (λ t. absurd cc, none_there cx)

bound_known : (shared : Texts) (sc : Seen) (scope : Scope) (own : Texts) (b : Bound) → Fits shared sc scope own → AreRight sc (bound_uses b)
    → AreTaken own scope (bound_words b) → IsBoundKnown scope b
bound_known shared sc scope own (UpTo hi) there right taken = tt
bound_known shared sc scope own (Least x v e hi) there right taken = expression_known shared sc scope own e there right taken

-- the names of a loop are new, and the second isn't the first
loop_new : (ms : Signatures) (shared : Texts) (sc : Seen) (scope : Scope) (own : Texts) (n at : ℕ) (i : Word) (lo : Number) (b : Bound) (s : Statement)
    → Fits shared sc scope own → IsSound ms sc (For at i lo b s) → IsLoopNew scope n i b
loop_new ms shared sc scope own n at i lo (UpTo hi) s there sound =
    ap is_some (there.fresh i.text (sound.new (names.declared i kind.Val (length sc.bodies)) (inl refl)))
loop_new ms shared sc scope own n at i lo (Least x v e hi) s there sound = (
  ap is_some (there.fresh i.text (sound.new (names.declared i kind.Val (length sc.bodies)) (inl refl))),
  ap is_some (still_absent scope i.text n x.text (there.fresh x.text (sound.new (names.declared x kind.Val (length sc.bodies)) (inr (inl refl))))
      (other (is_text x.text i.text) sound.fitting)),
)
  where
    other : (b : Bool) → ((p : ℕ) → Has (cond b (x.at ∷ []) []) p → ⊥) → b ≡ false
    other true none = absurd (none x.at (inl refl))
    other false none = refl

loop_still : (scope : Scope) (n : ℕ) (i : Word) (b : Bound) (ws : List Word) → IsTaken scope ws → IsTaken (within_loop scope n i b) ws
loop_still scope n i (UpTo hi) ws taken w h = still_found scope i.text n w.text (taken w h)
loop_still scope n i (Least x v e hi) ws taken w h =
    still_found (scope ++ (i.text, n) ∷ []) x.text (n + 1) w.text (still_found scope i.text n w.text (taken w h))

-- what has a slot keeps it
still_taken : (scope : Scope) (n : ℕ) (s : Statement) (ws : List Word) → IsTaken scope ws → IsTaken (declared scope n s) ws
still_taken scope n (Declare b x ty r) ws taken w h = still_found scope x.text n w.text (taken w h)
still_taken scope n _ ws taken w h = taken w h

mutual
  covered : (cx : Setting) (ms : Signatures) (shared : Texts) (placed : HasPlaces cx shared) (sc : Seen) (scope : Scope) (own : Texts) (n : ℕ) (s : Statement)
      → Fits shared sc scope own → IsSound ms sc s → IsSoundInside ms sc s → IsTaken scope (outer_words ms own s) → Settled cx ms shared (calls_in s) (bodies_in s)
      → Covered cx scope n s
  covered cx ms shared placed sc scope own n (Block close ss) there sound inner taken settled = all_covered cx ms shared placed sc scope own n ss there inner taken settled
  covered cx ms shared placed sc scope own n Empty there sound inner taken settled = (tt, none_there cx)
  covered cx ms shared placed sc scope own n (Declare b x ty r) there sound inner taken settled = (
    (
      source_known cx shared sc scope own r placed there sound.used (own_taken ms scope own (Declare b x ty r) taken),
      ap is_some (there.fresh x.text (sound.new (names.declared x (kind_of b r) (length sc.bodies)) (inl refl))),
    ),
    none_there cx,
  )
  covered cx ms shared placed sc scope own n (Assign x e) there sound inner taken settled = (
    assigned_known cx shared sc scope own x e placed there (sound.used (use_as want.Assigned x) (inl refl)) (λ u h. sound.used u (inr h))
        (own_taken ms scope own (Assign x e) taken),
    none_there cx,
  )
  covered cx ms shared placed sc scope own n (Atomic x y at e) there sound inner taken settled = (
    (
      shared_place cx shared sc scope own x placed there (sound.used (use_as want.Shared x) (inl refl)),
      expression_known shared sc scope own e there (λ u h. sound.used u (inr (inr h))) (own_taken ms scope own (Atomic x y at e) taken),
    ),
    none_there cx,
  )
  covered cx ms shared placed sc scope own n (If at l op r s) there sound inner taken settled =
      let both = both_known shared sc scope own l r there sound.used (own_taken ms scope own (If at l op r s) taken) in
      let held = taken_right scope (words_besides own (words_used ms (If at l op r s))) (outer_words ms own s) taken in
      let k = covered cx ms shared placed sc scope own n s there inner.0 inner.1 held settled in
      ((both.0, both.1, k.0), k.1)
  covered cx ms shared placed sc scope own n (IfElse at l op r s u) there sound inner taken settled =
      let both = both_known shared sc scope own l r there sound.used (own_taken ms scope own (IfElse at l op r s u) taken) in
      let held = taken_right scope (words_besides own (words_used ms (IfElse at l op r s u))) (outer_words ms own s ++ outer_words ms own u) taken in
      let k = covered cx ms shared placed sc scope own n s there inner.0.0 inner.0.1 (taken_left scope (outer_words ms own s) (outer_words ms own u) held)
      (settled_left cx ms shared (calls_in s) (calls_in u) (bodies_in s) (bodies_in u) settled) in
      let j = covered cx ms shared placed sc scope own (n + count s) u there inner.1.0 inner.1.1 (taken_right scope (outer_words ms own s) (outer_words ms own u) held)
      (settled_right cx ms shared (calls_in s) (calls_in u) (bodies_in s) (bodies_in u) settled) in
      ((both.0, both.1, k.0, j.0), both_covered cx (bodies_in s) (bodies_in u) k.1 j.1)
  covered cx ms shared placed sc scope own n (For at i lo b s) there sound inner taken settled =
      let loop = For at i lo b s in
      let inside : Seen = with_all sc (declares (length sc.bodies) loop) in
      let names_there : Texts = put_texts own (loop_words i b) in
      loop_covered cx ms shared scope n i b s (int_le lo.value (top b)) settled (bound_known shared sc scope own b there sound.used (own_taken ms scope own loop taken))
      (loop_new ms shared sc scope own n at i lo b s there sound)
      (λ k. covered cx ms shared placed inside (within_loop scope n i b) names_there (n + loop_slots b) s (fits_loop shared sc scope own n at i lo b s there) inner.0 inner.1
      (loop_still scope n i b (outer_words ms names_there s) (taken_right scope (words_besides own (words_used ms loop)) (outer_words ms names_there s) taken)) k)
  covered cx ms shared placed sc scope own n (Async at cs s) there sound inner taken settled =
      let held : AsyncBody = record { at = at; clocks = cs; body = s } in
      let f : AsyncFits cx ms shared sc scope own at cs s = record {
        there = there;
        settled = settled.entries held (inl refl);
        clocks = λ c h. sound.used (use_as want.Clock c) (to_map (use_as want.Clock) (clocks_listed cs) c (use_as want.Clock c) h refl);
        apart = sound.apart;
        sound = inner.0;
        inner = inner.1;
        taken = taken;
      } in
      let k = covered cx ms shared placed (with_body sc (clocks_listed cs)) (scope_from 0 (body_names ms shared cs s)) shared (length (body_names ms shared cs s)) s
      (async_fits cx ms shared sc scope own at cs s f) inner.0 inner.1 (body_taken ms shared cs s)
      (record { methods = settled.methods; entries = λ b h. settled.entries b (inr h) }) in (
        async_starts cx ms shared sc scope own n at cs s f,
        λ b h. elim h [
          | inl e ↦ subst (λ (z : AsyncBody). IsBodyCovered cx z) (sym e) (async_inside cx ms shared sc scope own at cs s f k.0)
          | inr r ↦ k.1 b r
        ],
      )
  covered cx ms shared placed sc scope own n (Finish at s) there sound inner taken settled =
      covered cx ms shared placed sc scope own n s there inner.0 inner.1 taken settled
  covered cx ms shared placed sc scope own n (Call f at es) there sound inner taken settled =
      ((settled.methods f (inl refl), call_known ms shared sc scope own f at es there sound (own_taken ms scope own (Call f at es) taken)), none_there cx)
  covered cx ms shared placed sc scope own n (Resume c v) there sound inner taken settled =
      (clock_slot shared sc scope own c there (sound.used (use_as want.Clock c) (inl refl)), none_there cx)
  covered cx ms shared placed sc scope own n (Drop c v) there sound inner taken settled =
      (clock_slot shared sc scope own c there (sound.used (use_as want.Clock c) (inl refl)), none_there cx)
  covered cx ms shared placed sc scope own n (AdvanceAll at v) there sound inner taken settled = (tt, none_there cx)
  covered cx ms shared placed sc scope own n (Print at v e) there sound inner taken settled =
      (expression_known shared sc scope own e there sound.used (own_taken ms scope own (Print at v e) taken), none_there cx)

  pub all_covered : (cx : Setting) (ms : Signatures) (shared : Texts) (placed : HasPlaces cx shared) (sc : Seen) (scope : Scope) (own : Texts) (n : ℕ) (ss : Statements)
      → Fits shared sc scope own → AreSound ms sc ss → IsTaken scope (outer_among ms own ss) → Settled cx ms shared (calls_in_all ss) (bodies_in_all ss)
      → AreCovered cx scope n ss × AreBodiesCovered cx (bodies_in_all ss)
  all_covered cx ms shared placed sc scope own n Done there sound taken settled = (tt, none_there cx)
  all_covered cx ms shared placed sc scope own n (More s ss) there sound taken settled =
      let k = covered cx ms shared placed sc scope own n s there sound.0.0 sound.0.1 (taken_left scope (outer_words ms own s) (outer_among ms (own_behind own s) ss) taken)
      (settled_left cx ms shared (calls_in s) (calls_in_all ss) (bodies_in s) (bodies_in_all ss) settled) in
      let j = all_covered cx ms shared placed (with_all sc (places.behind (length sc.bodies) s)) (declared scope n s) (own_behind own s) (n + count s) ss
      (fits_behind shared sc scope own n s there) sound.1 (still_taken scope n s (outer_among ms (own_behind own s) ss)
      (taken_right scope (outer_words ms own s) (outer_among ms (own_behind own s) ss) taken))
      (settled_right cx ms shared (calls_in s) (calls_in_all ss) (bodies_in s) (bodies_in_all ss) settled) in
      ((k.0, j.0), both_covered cx (bodies_in s) (bodies_in_all ss) k.1 j.1)
