-- The clocks that advanced in the newest step, as a set.
use Rattle.std.proofs.Common.{◌≡◌, ◌∙◌, ℕ, zero, suc, ◌+◌, ◌<◌, ◌≤◌, ◌==◌, Bool, true, false, not, ◌&&◌, cond, max, nat_lt, List, [], ◌∷◌, ◌++◌, length, get_or, set, filter, slice_get, refl, sym, ap, subst, arith, add-one, All, length-set, length-append, get_or-set_same, get_or-set_other}
use Rattle.std.specs.List.{list_all}
use Rattle.std.proofs.Math.Seq.{get_or-append_seam}
use Rattle.std.proofs.lemmas.Bool.{eq-eqb, ne_eqb, ltb-true, ltb-false}
use Rattle.std.proofs.lemmas.List.{append-nil, length_push, get_or_append_left}
use Rattle.std.proofs.lemmas.List.Elements.{filter-append, All-push, All-set}
use Rattle.xk_collections.specs.NumberSets.{numbers_from, with_member, SetValue}
use Rattle.xk_collections.proofs.RisingListLemmas.{member_added, member_changed, member_passes, members_few, members_none, numbers_more, same_members}
use Rattle.xk_clocks.specs.Table.{TableValue}
use Rattle.xk_registrations.specs.RegistrationChanges.{noted_in, IsUpToDate}
use Rattle.xk_registrations.proofs.StandingLemmas.{other_number}

-- ---- the clocks whose last advance was in a step

abbrev pub is_noted : List ℕ → ℕ → ℕ → Bool
is_noted ls step k = get_or ls k 0 == step

-- one place more
place_more : (ls : List ℕ) (step n : ℕ) (list next : List ℕ) → list ≡ filter (is_noted ls step) (numbers_from 0 n)
    → next ≡ cond (is_noted ls step n) (list ++ n ∷ []) list → next ≡ filter (is_noted ls step) (numbers_from 0 (n + 1))
place_more ls step n list next is more =
    more ∙ either (is_noted ls step n)
    ∙ ap (λ l. l ++ cond (is_noted ls step n) (n ∷ []) []) is
    ∙ sym (ap (filter (is_noted ls step)) (numbers_more n) ∙ filter-append (is_noted ls step) (numbers_from 0 n) (n ∷ []))
  where
    either : (b : Bool) → cond b (list ++ n ∷ []) list ≡ list ++ cond b (n ∷ []) []
    either true = refl
    either false = sym (append-nil list)

pub place_found : (ls : List ℕ) (step n : ℕ) (list next : List ℕ) → list ≡ filter (is_noted ls step) (numbers_from 0 n)
    → get_or ls n 0 ≡ step → next ≡ list ++ n ∷ [] → next ≡ filter (is_noted ls step) (numbers_from 0 (n + 1))
place_found ls step n list next is here more = place_more ls step n list next is (more ∙ sym (ap (λ b. cond b (list ++ n ∷ []) list) (eq-eqb (get_or ls n 0) step here)))

pub place_passed : (ls : List ℕ) (step n : ℕ) (list next : List ℕ) → list ≡ filter (is_noted ls step) (numbers_from 0 n)
    → (get_or ls n 0 ≡ step → ⊥) → next ≡ list → next ≡ filter (is_noted ls step) (numbers_from 0 (n + 1))
place_passed ls step n list next is other same =
    place_more ls step n list next is (same ∙ sym (ap (λ b. cond b (list ++ n ∷ []) list) (ne_eqb (get_or ls n 0) step other)))

none_pass : (xs : List ℕ) → filter (λ k. false) xs ≡ []
none_pass [] = refl
none_pass (x ∷ xs) = none_pass xs

-- none in a step behind all of them
pub noted_none : (ls : List ℕ) (newest step : ℕ) → All (λ l. l ≤ newest) ls → newest < step → noted_in ls step ≡ []
noted_none ls newest step all lt =
    same_members (λ k. false) (is_noted ls step) 0 (length ls)
    (λ k from below. let le : get_or ls k 0 ≤ newest = all k 0 (omega (arith, below)) in other_number (get_or ls k 0) step (omega (arith, le, lt)))
    ∙ none_pass (numbers_from 0 (length ls))

-- a clock advances
noted_set : (ls : List ℕ) (c now step : ℕ) → c < length ls → noted_in (set ls c now) step ≡ with_member c (now == step) (noted_in ls step)
noted_set ls c now step lt =
    ap (λ n. filter (is_noted (set ls c now) step) (numbers_from 0 n)) (length-set ls c now)
    ∙ member_changed (is_noted ls step) (is_noted (set ls c now) step) (length ls) c lt (λ k below ne. ap (λ x. x == step) (get_or-set_other ls c k now 0 ne))
    ∙ ap (λ x. with_member c (x == step) (noted_in ls step)) (get_or-set_same ls c now 0 lt)

zero_first : (n : ℕ) → (0 == n) ≡ (n == 0)
zero_first zero = refl
zero_first (suc n) = ne_eqb 0 (suc n) (λ e. omega (arith, e)) ∙ sym (ne_eqb (suc n) 0 (λ e. omega (arith, e)))

-- a clock is made
noted_push : (ls : List ℕ) (step : ℕ) → noted_in (ls ++ 0 ∷ []) step ≡ with_member (length ls) (step == 0) (noted_in ls step)
noted_push ls step =
    ap (λ n. filter (is_noted (ls ++ 0 ∷ []) step) (numbers_from 0 n)) (length-append ls (0 ∷ []) ∙ add-one (length ls))
    ∙ member_added (is_noted ls step) (is_noted (ls ++ 0 ∷ []) step) (length ls) (λ k lt. ap (λ x. x == step) (get_or_append_left ls (0 ∷ []) 0 k lt))
    ∙ ap (λ b. with_member (length ls) b (noted_in ls step)) (ap (λ x. x == step) (get_or-append_seam ls 0 [] 0) ∙ zero_first step)

-- ---- whether there are any

quiet_all : (ls : List ℕ) (step : ℕ) → ((k : ℕ) → k < length ls → is_noted ls step k ≡ false) → list_all (λ l. not (l == step)) ls ≡ true
quiet_all [] step none = refl
quiet_all (l ∷ ls) step none = rw (none 0 (omega arith)) (quiet_all ls step (λ k lt. none (suc k) (omega arith)))

loud_one : (ls : List ℕ) (step k : ℕ) → k < length ls → is_noted ls step k ≡ true → list_all (λ l. not (l == step)) ls ≡ false
loud_one [] step k lt h = absurd (omega arith)
loud_one (l ∷ ls) step zero lt h = rw h refl
loud_one (l ∷ ls) step (suc k) lt h = either (not (l == step)) (loud_one ls step k (omega arith) h)
  where
    either : (b : Bool) → list_all (λ l. not (l == step)) ls ≡ false → (b && list_all (λ l. not (l == step)) ls) ≡ false
    either true e = e
    either false e = refl

pub quiet_noted : (ls : List ℕ) (step : ℕ) (list : List ℕ) → list ≡ noted_in ls step → (length list == 0) ≡ list_all (λ l. not (l == step)) ls
quiet_noted ls step [] is = sym (quiet_all ls step (λ k lt. members_none (is_noted ls step) (length ls) (sym is) k lt))
quiet_noted ls step (x ∷ list) is =
    let member = member_passes (is_noted ls step) (length ls) 0 x (ap (λ l. slice_get l 0) (sym is)) in
    ne_eqb (length (x ∷ list)) 0 (λ e. omega (arith, e)) ∙ sym (loud_one ls step x member.1 member.0)

-- ---- what is kept of all clocks

pub latest_few : (t : TableValue) (ls : List ℕ) (room newest : ℕ) (latest : SetValue) → IsUpToDate t ls room newest latest → length latest.members ≤ length ls
latest_few t ls room newest latest kept = omega (arith, ap length kept.latest_is, members_few (is_noted ls newest) (length ls))

-- a clock is made
pub made_noted : (t u : TableValue) (ls ms : List ℕ) (room more newest c : ℕ) (latest next : SetValue) → IsUpToDate t ls room newest latest
    → length t.clocks < t.room → c ≡ length t.clocks → length u.clocks ≡ length t.clocks + 1 → u.room ≡ t.room → ms ≡ ls ++ 0 ∷ [] → room ≤ more
    → next.members ≡ with_member c (newest == 0) latest.members → next.room ≡ latest.room → IsUpToDate u ms more newest next
made_noted t u ls ms room more newest c latest next kept left is longer same pushed wider put wide =
    let long : length ms ≡ length ls + 1 = ap length pushed ∙ length_push ls 0 in
    let here : c ≡ length ls = omega (arith, is, kept.lasts) in
    record {
      lasts = omega (arith, long, longer, kept.lasts);
      fits = omega (arith, long, left, same, kept.lasts);
      few = omega (arith, same, kept.few);
      room_for_lasts = omega (arith, same, wider, kept.room_for_lasts);
      room_for_latest = omega (arith, same, wide, kept.room_for_latest);
      newest_is = subst (λ (l : List ℕ). All (λ last. last ≤ newest) l) (sym pushed) (All-push (λ last. last ≤ newest) ls 0 kept.newest_is (omega arith));
      latest_is =
          put ∙ ap (with_member c (newest == 0)) kept.latest_is ∙ ap (λ n. with_member n (newest == 0) (noted_in ls newest)) here
          ∙ sym (ap (λ l. noted_in l newest) pushed ∙ noted_push ls newest);
    }

-- a clock advances
pub advance_noted : (t : TableValue) (ls : List ℕ) (room newest now newer c : ℕ) (latest mid next : SetValue) → IsUpToDate t ls room newest latest
    → c < length ls → newer ≡ max newest now → mid.members ≡ cond (nat_lt newest now) [] latest.members → mid.room ≡ latest.room
    → next.members ≡ with_member c (now == newer) mid.members → next.room ≡ mid.room → IsUpToDate t (set ls c now) room newer next
advance_noted t ls room newest now newer c latest mid next kept inside is emptied same put wide = record {
  lasts = omega (arith, length-set ls c now, kept.lasts);
  fits = omega (arith, length-set ls c now, kept.fits);
  few = kept.few;
  room_for_lasts = kept.room_for_lasts;
  room_for_latest = omega (arith, same, wide, kept.room_for_latest);
  newest_is = All-set (λ last. last ≤ newer) ls c now (omega (arith, is)) (λ k d lt. let le : get_or ls k d ≤ newest = kept.newest_is k d lt in omega (arith, le, is));
  latest_is = put ∙ ap (with_member c (now == newer)) (emptied ∙ left (nat_lt newest now) refl) ∙ sym (noted_set ls c now newer inside);
}
  where
    left : (b : Bool) → nat_lt newest now ≡ b → cond b [] latest.members ≡ noted_in ls newer
    left true e =
        let lt : newest < now = ltb-true newest now e in
        let here : newer ≡ now = omega (arith, lt, is) in
        sym (noted_none ls newest newer kept.newest_is (omega (arith, here, lt)))
    left false e =
        let le : now ≤ newest = ltb-false newest now e in
        let here : newest ≡ newer = omega (arith, le, is) in
        kept.latest_is ∙ ap (noted_in ls) here
