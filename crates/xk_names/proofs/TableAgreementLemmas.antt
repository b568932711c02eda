-- Tables that have each name once, and lists of all declarations: what is found by a name is the same.
use Rattle.std.proofs.Common.{◌≡◌, ℕ, suc, Bool, true, false, cond, ◌||◌, List, [], ◌∷◌, ◌++◌, length, Option, Some, None, refl, sym, ap, ◌∙◌, append-nil}
use Rattle.std.specs.Prelude.{is_some}
use Rattle.std.specs.Cmp.Lexicographic.{bytes_decides}
use Rattle.std.proofs.lemmas.Option.{none-some}
use Rattle.std.proofs.Math.Bool.{or-false}
use Rattle.xk_tree.specs.Tree.{Word, MethodValue}
use Rattle.xk_names.specs.declared.binding.Known.{Known}
use Rattle.xk_names.specs.Scope.{Table, find, has, is_text, Declaration, entry, entries, texts, Scope, is_given}
use Rattle.xk_names.specs.Uses.{Signatures, signature, signatures}
use Rattle.xk_names.specs.WellScoped.{with_all, with_body}
use Rattle.xk_names.specs.FaultList.{put, put_all, put_text, put_texts, put_methods, with_declared, body_of}

-- ---- tables

abbrev pub FindsSame : {A : Type 0} → Table A → Table A → Type 0
FindsSame a b = (x : List ℕ) → find a x ≡ find b x

abbrev pub or_entry : {A : Type 0} → Option A → Bool → A → Option A
or_entry None b a = cond b (Some a) None
or_entry (Some j) b a = Some j

-- behind one entry more
pub find_behind : {A : Type 0} (table : Table A) (y : List ℕ) (a : A) (x : List ℕ) → find (table ++ (y, a) ∷ []) x ≡ or_entry (find table x) (is_text x y) a
find_behind [] y a x = refl
find_behind {A} (e ∷ es) y a x = go (is_text x e.0) (find_behind es y a x)
  where
    go : (b : Bool) → find (es ++ (y, a) ∷ []) x ≡ or_entry (find es x) (is_text x y) a
        → cond b (Some e.1) (find (es ++ (y, a) ∷ []) x) ≡ or_entry (cond b (Some e.1) (find es x)) (is_text x y) a
    go true h = refl
    go false h = h

-- the first entry counts, so that one of a text that is there changes nothing
find_put : {A : Type 0} (table : Table A) (y : List ℕ) (a : A) (x : List ℕ) → find (put table y a) x ≡ or_entry (find table x) (is_text x y) a
find_put {A} table y a x = go (find table y) refl
  where
    there : (o : Option A) (j : A) → find table y ≡ Some j → find table x ≡ o → (b : Bool) → is_text x y ≡ b → o ≡ or_entry o b a
    there (Some i) j e f b g = refl
    there None j e f false g = refl
    there None j e f true g = absurd (none-some j (sym f ∙ ap (find table) ((bytes_decides x y).0 g) ∙ e))

    go : (o : Option A) → find table y ≡ o → find (cond (is_some o) table (table ++ (y, a) ∷ [])) x ≡ or_entry (find table x) (is_text x y) a
    go None e = find_behind table y a x
    go (Some j) e = there (find table x) j e refl (is_text x y) refl

pub put_same : {A : Type 0} (a b : Table A) (y : List ℕ) (k : A) → FindsSame a b → FindsSame (put a y k) (b ++ (y, k) ∷ [])
put_same a b y k same x = find_put a y k x ∙ ap (λ o. or_entry o (is_text x y) k) (same x) ∙ sym (find_behind b y k x)

pub append_step : {A : Type 0} (xs : List A) (y : A) (ys : List A) → xs ++ y ∷ ys ≡ (xs ++ y ∷ []) ++ ys
append_step [] y ys = refl
append_step (x ∷ xs) y ys = ap (λ r. x ∷ r) (append_step xs y ys)

pub put_all_same : (a b : Table Known) (ds : List Declaration) → FindsSame a b → FindsSame (put_all a ds) (b ++ entries ds)
put_all_same a b [] same x = same x ∙ ap (λ t. find t x) (sym (append-nil b))
put_all_same a b (d ∷ ds) same x =
    put_all_same (put a d.name.text d.known) (b ++ entry d ∷ []) ds (put_same a b d.name.text d.known same) x
    ∙ ap (λ t. find t x) (sym (append_step b (entry d) (entries ds)))

pub put_methods_same : (a b : Signatures) (ms : List MethodValue) → FindsSame a b → FindsSame (put_methods a ms) (b ++ signatures ms)
put_methods_same a b [] same x = same x ∙ ap (λ t. find t x) (sym (append-nil b))
put_methods_same a b (m ∷ ms) same x =
    put_methods_same (put a m.name.text m.params) (b ++ signature m ∷ []) ms (put_same a b m.name.text m.params same) x
    ∙ ap (λ t. find t x) (sym (append_step b (signature m) (signatures ms)))

-- ---- texts

pub same_text : (x y : List ℕ) → is_text x y ≡ true → x ≡ y
same_text x y e = (bytes_decides x y).0 e

abbrev pub HasSame : List (List ℕ) → List (List ℕ) → Type 0
HasSame a b = (x : List ℕ) → has a x ≡ has b x

pub has_behind : (ts : List (List ℕ)) (y x : List ℕ) → has (ts ++ y ∷ []) x ≡ (has ts x || is_text x y)
has_behind [] y x = or-false (is_text x y)
has_behind (t ∷ ts) y x = go (is_text x t) (has_behind ts y x)
  where
    go : (b : Bool) → has (ts ++ y ∷ []) x ≡ (has ts x || is_text x y) → (b || has (ts ++ y ∷ []) x) ≡ ((b || has ts x) || is_text x y)
    go true h = refl
    go false h = h

pub has_put : (ts : List (List ℕ)) (y x : List ℕ) → has (put_text ts y) x ≡ (has ts x || is_text x y)
has_put ts y x = go (has ts y) refl
  where
    there : (c : Bool) → has ts x ≡ c → has ts y ≡ true → (b : Bool) → is_text x y ≡ b → c ≡ (c || b)
    there true f e b g = refl
    there false f e false g = refl
    there false f e true g = sym f ∙ ap (has ts) ((bytes_decides x y).0 g) ∙ e

    go : (b : Bool) → has ts y ≡ b → has (cond b ts (ts ++ y ∷ [])) x ≡ (has ts x || is_text x y)
    go true e = there (has ts x) refl e (is_text x y) refl
    go false e = has_behind ts y x

pub put_text_same : (a b : List (List ℕ)) (y : List ℕ) → HasSame a b → HasSame (put_text a y) (b ++ y ∷ [])
put_text_same a b y same x = has_put a y x ∙ ap (λ c. c || is_text x y) (same x) ∙ sym (has_behind b y x)

pub put_texts_same : (a b : List (List ℕ)) (ws : List Word) → HasSame a b → HasSame (put_texts a ws) (b ++ texts ws)
put_texts_same a b [] same x = same x ∙ ap (λ t. has t x) (sym (append-nil b))
put_texts_same a b (w ∷ ws) same x =
    put_texts_same (put_text a w.text) (b ++ w.text ∷ []) ws (put_text_same a b w.text same) x
    ∙ ap (λ t. has t x) (sym (append_step b w.text (texts ws)))

-- ---- scopes

-- what is found by a name, and what is seen, is the same
pub record Agrees (a b : Scope) : Type 0 where
  pub names : FindsSame a.names b.names
  pub depth : length a.bodies ≡ length b.bodies
  pub given : (x : List ℕ) → is_given a x ≡ is_given b x

pub declared_agrees : (a b : Scope) (ds : List Declaration) → Agrees a b → Agrees (with_declared a ds) (with_all b ds)
declared_agrees a b ds same = record { names = put_all_same a.names b.names ds same.names; depth = same.depth; given = same.given }

pub body_agrees : (a b : Scope) (cs : List Word) → Agrees a b → Agrees (body_of a cs) (with_body b cs)
body_agrees a b cs same = record { names = same.names; depth = ap suc same.depth; given = put_texts_same [] [] cs (λ x. refl) }
