-- What a list of edges leads to.
use Rattle.std.proofs.Common.{◌≡◌, ◌∙◌, ℕ, zero, suc, ◌+◌, ◌<◌, ◌≤◌, ◌⊎◌, inl, inr, Bool, List}
use Rattle.std.proofs.Common.{[], ◌∷◌, ◌++◌, length, ◌-◌, get_or, Some, refl, sym, ap, subst, arith, slice_get}
use Rattle.std.specs.Prelude.{fold, reverse}
use Rattle.std.proofs.lemmas.List.{get_or_append_left, get_or_push, length_push}
use Rattle.std.proofs.lemmas.List.Sums.{fold_push}
use Rattle.std.proofs.lemmas.Option.{get_or_from_slice_get, slice_get-get_or, none-some, same_Some, slice_get_within}
use Rattle.xk_types.specs.Schedule.{all_ended}
use Rattle.xk_core.specs.Core.{CoreValue}
use Rattle.xk_ranks.specs.Reads.{IsCounting}
use Rattle.xk_outcomes.specs.declared.checkpoint.Checkpoint.{Checkpoint}
use Rattle.xk_outcomes.specs.declared.entries.Edge.{Edge}
use Rattle.xk_outcomes.specs.Alikeness.{Alikeness, counted}
use Rattle.xk_outcomes.specs.Entries.{AreBehind, AreEntries, led_by, with_edge}
use Rattle.xk_outcomes.specs.Found.{FoundValue, along, first_found, through}
use Rattle.xk_outcomes.specs.Ways.{way_of}
use Rattle.xk_outcomes.specs.Checkpoints.{AreCheckpoints}
use Rattle.xk_outcomes.specs.Links.{ends}
use Rattle.xk_outcomes.specs.Search.{AreDifferent, AreDigests, AreFound, AreSettled, Has, IsFound, IsSettled, found_digest}
use Rattle.xk_outcomes.proofs.CheckpointLemmas.{checkpoints_first, checkpoints_grown}
use Rattle.xk_outcomes.proofs.FoundLemmas.{along_append, along_reverse, found_through, settled_first, settled_found, settled_through}
use Rattle.xk_types.proofs.ListLemmas.{each_push}
use Rattle.xk_readings.proofs.ListLemmas.{place}
use Rattle.xk_outcomes.proofs.SearchLemmas.{different_push, digests_push, ends_push, way_wider}

-- what is in a list, or stands for what isn't
each_or : {X : Type 0} (P : X → Type 0) (xs : List X) (d : X) → ((k : ℕ) (x : X) → slice_get xs k ≡ Some x → P x) → P d
    → (k : ℕ) → P (get_or xs k d)
each_or P [] d all here k = here
each_or P (x ∷ xs) d all here zero = all zero x refl
each_or P (x ∷ xs) d all here (suc k) = each_or P xs d (λ j. all (suc j)) here k

-- ---- edges lead to more and more

module _ (ways : List (List ℕ)) (first : FoundValue) where
  many : (acc : List FoundValue) (edges : List Edge) → length (fold (with_edge ways first) acc edges) ≡ length acc + length edges
  many acc [] = omega arith
  many acc (e ∷ edges) =
      let new = through (way_of ways e.way) (get_or acc e.from first) in
      let rest = many (acc ++ new ∷ []) edges in
      let one = length_push acc new in
      omega (arith, rest, one)

  kept : (acc : List FoundValue) (edges : List Edge) (k : ℕ) → k < length acc
      → get_or (fold (with_edge ways first) acc edges) k first ≡ get_or acc k first
  kept acc [] k within = refl
  kept acc (e ∷ edges) k within =
      let new = through (way_of ways e.way) (get_or acc e.from first) in
      let one = length_push acc new in
      kept (acc ++ new ∷ []) edges k (omega (arith, one, within)) ∙ get_or_append_left acc (new ∷ []) first k within

  by_edge : (acc : List FoundValue) (edges : List Edge) (i : ℕ) (e : Edge) → slice_get edges i ≡ Some e → e.from < length acc + i
      → get_or (fold (with_edge ways first) acc edges) (length acc + i) first
      ≡ through (way_of ways e.way) (get_or (fold (with_edge ways first) acc edges) e.from first)
  by_edge acc [] i e there behind = absurd (none-some e there)
  by_edge acc (z ∷ edges) zero e there behind = subst (λ (y : Edge). y.from < length acc + zero → IsEnd y) (same_Some z e there) is behind
    where
      new : FoundValue
      new = through (way_of ways z.way) (get_or acc z.from first)

      all : List FoundValue
      all = fold (with_edge ways first) (acc ++ new ∷ []) edges

      IsEnd : Edge → Type 0
      IsEnd y = get_or all (length acc + zero) first ≡ through (way_of ways y.way) (get_or all y.from first)

      is : z.from < length acc + zero → IsEnd z
      is before =
          let one = length_push acc new in
          let end : length acc + zero ≡ length acc = omega arith in
          let inside : z.from < length acc = omega (arith, before) in
          ap (λ k. get_or all k first) end ∙ kept (acc ++ new ∷ []) edges (length acc) (omega (arith, one))
          ∙ get_or_push acc new first (length acc) refl
          ∙ sym (ap (through (way_of ways z.way)) (kept (acc ++ new ∷ []) edges z.from (omega (arith, one, inside))
          ∙ get_or_append_left acc (new ∷ []) first z.from inside))
  by_edge acc (z ∷ edges) (suc i) e there behind =
      let new = through (way_of ways z.way) (get_or acc z.from first) in
      let all = fold (with_edge ways first) (acc ++ new ∷ []) edges in
      let one = length_push acc new in
      let here : length acc + suc i ≡ length (acc ++ new ∷ []) + i = omega (arith, one) in
      ap (λ k. get_or all k first) here ∙ by_edge (acc ++ new ∷ []) edges i e there (omega (arith, one, behind))

-- so many are led to
pub many_led : (ways : List (List ℕ)) (start : CoreValue) (edges : List Edge) → length (led_by ways start edges) ≡ length edges + 1
many_led ways start edges = let h = many ways (first_found start) (first_found start ∷ []) edges in omega (arith, h)

-- the first one stays the first
first_led : (ways : List (List ℕ)) (start : CoreValue) (edges : List Edge)
    → get_or (led_by ways start edges) 0 (first_found start) ≡ first_found start
first_led ways start edges = kept ways (first_found start) (first_found start ∷ []) edges 0 (omega arith)

pub first_there : (ways : List (List ℕ)) (start : CoreValue) (edges : List Edge)
    → slice_get (led_by ways start edges) 0 ≡ Some (first_found start)
first_there ways start edges =
    let many = many_led ways start edges in
    slice_get-get_or (led_by ways start edges) 0 (first_found start) (omega (arith, many)) ∙ ap Some (first_led ways start edges)

-- an edge leads there from where it goes out
edge_leads : (ways : List (List ℕ)) (start : CoreValue) (edges : List Edge) (i : ℕ) (e : Edge) → AreBehind ways edges
    → slice_get edges i ≡ Some e
    → get_or (led_by ways start edges) (i + 1) (first_found start)
    ≡ through (way_of ways e.way) (get_or (led_by ways start edges) e.from (first_found start))
edge_leads ways start edges i e behind there =
    let before = (behind i e there).0 in
    let same : i + 1 ≡ 1 + i = omega arith in
    ap (λ k. get_or (led_by ways start edges) k (first_found start)) same
    ∙ by_edge ways (first_found start) (first_found start ∷ []) edges i e there (omega (arith, before))

-- A way that begins at one but the first is the same as one that begins an edge further back.
pub way_more : (ways : List (List ℕ)) (start : CoreValue) (edges : List Edge) (at : ℕ) (e : Edge) (way more : List ℕ) → AreBehind ways edges
    → at ≤ length edges → 0 < at → e ≡ get_or edges (at - 1) e → more ≡ way ++ reverse (way_of ways e.way)
    → (e.from < at)
    × (along more (get_or (led_by ways start edges) e.from (first_found start))
    ≡ along way (get_or (led_by ways start edges) at (first_found start)))
way_more ways start edges at e way more behind within some is longer =
    let there : slice_get edges (at - 1) ≡ Some e = slice_get-get_or edges (at - 1) e (omega (arith, within, some)) ∙ ap Some (sym is) in
    let before = (behind (at - 1) e there).0 in
    let same : (at - 1) + 1 ≡ at = omega (arith, some) in
    let from = get_or (led_by ways start edges) e.from (first_found start) in (
      omega (arith, before, some),
      ap (λ l. along l from) longer ∙ along_append way (reverse (way_of ways e.way)) from
          ∙ ap (along way) (along_reverse (way_of ways e.way) from ∙ sym (edge_leads ways start edges (at - 1) e behind there)
          ∙ ap (λ k. get_or (led_by ways start edges) k (first_found start)) same),
    )

-- all that edges lead to are settled
pub all_settled : (ways : List (List ℕ)) (start : CoreValue) (edges : List Edge) → AreSettled start (led_by ways start edges)
all_settled ways start edges =
    by (first_found start ∷ []) edges
    (each_push (λ i. IsSettled start) [] (first_found start) (λ k x h. absurd (none-some x h)) (settled_first start))
  where
    by : (acc : List FoundValue) (more : List Edge) → AreSettled start acc
        → AreSettled start (fold (with_edge ways (first_found start)) acc more)
    by acc [] all = all
    by acc (e ∷ more) all =
        let from = get_or acc e.from (first_found start) in
        let known = each_or (IsSettled start) acc (first_found start) all (settled_first start) e.from in
        let new = through (way_of ways e.way) from in
        by (acc ++ new ∷ []) more
        (each_push (λ i. IsSettled start) acc new all (settled_through start (way_of ways e.way) from known))

-- so they are found
pub all_led : (ways : List (List ℕ)) (start : CoreValue) (edges : List Edge) → AreFound start (led_by ways start edges)
all_led ways start edges k x there = settled_found start x (all_settled ways start edges k x there)

-- so is what a way leads to from one of them
pub new_found : (ways : List (List ℕ)) (start : CoreValue) (edges : List Edge) (k : ℕ) (way : List ℕ) (x new : FoundValue)
    → slice_get (led_by ways start edges) k ≡ Some x
    → new ≡ through way x → IsFound start new
new_found ways start edges k way x new there is =
    subst (IsFound start) (sym is) (found_through start way x (all_led ways start edges k x there))

-- ---- one way more

same_fold : (ways wider : List (List ℕ)) (first : FoundValue) (acc : List FoundValue) (edges : List Edge)
    → ((k : ℕ) (e : Edge) → slice_get edges k ≡ Some e → way_of wider e.way ≡ way_of ways e.way)
    → fold (with_edge wider first) acc edges ≡ fold (with_edge ways first) acc edges
same_fold ways wider first acc [] same = refl
same_fold ways wider first acc (e ∷ edges) same =
    let from = get_or acc e.from first in
    ap (λ way. fold (with_edge wider first) (acc ++ through way from ∷ []) edges) (same 0 e refl)
    ∙ same_fold ways wider first (acc ++ through (way_of ways e.way) from ∷ []) edges (λ k z there. same (suc k) z there)

-- edges lead where they did
pub led_wider : (ways wider : List (List ℕ)) (w : List ℕ) (start : CoreValue) (edges : List Edge) → wider ≡ ways ++ w ∷ []
    → AreBehind ways edges
    → led_by wider start edges ≡ led_by ways start edges
led_wider ways wider w start edges one behind =
    same_fold ways wider (first_found start) (first_found start ∷ []) edges
    (λ k e there. way_wider ways wider w e.way one (behind k e there).1)

pub entries_wider : (start : CoreValue) (like : Alikeness) (ways wider : List (List ℕ)) (w : List ℕ) (edges : List Edge) (digests : List ℕ)
    → (over : List Bool) (checkpoints : List Checkpoint) → wider ≡ ways ++ w ∷ []
    → AreEntries start like ways edges digests over checkpoints → AreEntries start like wider edges digests over checkpoints
entries_wider start like ways wider w edges digests over checkpoints one were =
    let same : led_by ways start edges ≡ led_by wider start edges = sym (led_wider ways wider w start edges one were.behind) in
    let many : length wider ≡ length ways + 1 = ap (λ (k : List (List ℕ)). length k) one ∙ length_push ways w in
    record {
      root = were.root;
      counting = were.counting;
      behind = λ k e at. let b = were.behind k e at in let known = b.1 in (b.0, omega (arith, many, known));
      digests_are = subst (λ all. AreDigests like all digests) same were.digests_are;
      over_are = were.over_are ∙ ap ends same;
      checkpoints_are = subst (λ all. AreCheckpoints all checkpoints) same were.checkpoints_are;
      different = subst (AreDifferent like) same were.different;
    }

-- ---- the first one alone

one_alone : {X : Type 0} (a x : X) (i : ℕ) → slice_get (a ∷ []) i ≡ Some x → i ≡ 0
one_alone a x zero h = refl
one_alone a x (suc k) h = absurd (none-some x h)

-- what is put behind none
pub alone : {X : Type 0} (list old : List X) (x : X) → list ≡ old ++ x ∷ [] → old ≡ [] → list ≡ x ∷ []
alone list old x more none = more ∙ ap (λ l. l ++ x ∷ []) none

pub entries_first : (start : CoreValue) (like : Alikeness) (ways : List (List ℕ)) (edges : List Edge) (digests : List ℕ)
    → (over : List Bool) (checkpoints : List Checkpoint) → start.world.steps ≡ 0 → IsCounting start.module_run (counted like) → edges ≡ []
    → digests ≡ found_digest like (first_found start) ∷ []
    → over ≡ all_ended (first_found start).core.world ∷ [] → checkpoints ≡ record { number = 0; found = first_found start } ∷ []
    → AreEntries start like ways edges digests over checkpoints
entries_first start like ways edges digests over checkpoints root counting none digest ended kept =
    subst (λ l. AreEntries start like ways l digests over checkpoints) (sym none) (record {
      root = root;
      counting = counting;
      behind = λ k e at. absurd (none-some e at);
      digests_are = digest;
      over_are = ended;
      checkpoints_are = checkpoints_first (first_found start) checkpoints (record { number = 0; found = first_found start }) kept refl refl;
      different = λ i j x y hi hj same. one_alone (first_found start) x i hi ∙ sym (one_alone (first_found start) y j hj);
    })

-- ---- one more

-- what one edge more leads to
pub led_push : (ways : List (List ℕ)) (start : CoreValue) (edges more : List Edge) (e : Edge) (x new : FoundValue) → more ≡ edges ++ e ∷ []
    → slice_get (led_by ways start edges) e.from ≡ Some x → new ≡ through (way_of ways e.way) x
    → led_by ways start more ≡ led_by ways start edges ++ new ∷ []
led_push ways start edges more e x new one there is =
    ap (led_by ways start) one
    ∙ fold_push (with_edge ways (first_found start)) (first_found start ∷ []) edges e
    ∙ ap (λ (y : FoundValue). led_by ways start edges ++ through (way_of ways e.way) y ∷ [])
    (get_or_from_slice_get (led_by ways start edges) e.from x (first_found start) there)
    ∙ ap (λ (y : FoundValue). led_by ways start edges ++ y ∷ []) (sym is)

pub entries_push : (start : CoreValue) (like : Alikeness) (ways : List (List ℕ)) (edges more : List Edge) (digests longer : List ℕ)
    → (over still : List Bool) (checkpoints : List Checkpoint) (e : Edge) (x new : FoundValue)
    → AreEntries start like ways edges digests over checkpoints → e.way < length ways → more ≡ edges ++ e ∷ []
    → longer ≡ digests ++ found_digest like new ∷ []
    → still ≡ over ++ all_ended new.core.world ∷ [] → slice_get (led_by ways start edges) e.from ≡ Some x
    → new ≡ through (way_of ways e.way) x
    → (Has like (led_by ways start edges) new.core.world new.printed → ⊥) → AreEntries start like ways more longer still checkpoints
entries_push start like ways edges more digests longer over still checkpoints e x new were known one digest ended there is fresh =
    let grown = led_push ways start edges more e x new one there is in
    record {
      root = were.root;
      counting = were.counting;
      behind = λ k z at. by k z (place edges e k z (subst (λ (l : List Edge). slice_get l k ≡ Some z) one at));
      digests_are = digests_push like (led_by ways start edges) (led_by ways start more) digests longer new grown digest were.digests_are;
      over_are = ends_push (led_by ways start edges) (led_by ways start more) over still new grown ended were.over_are;
      checkpoints_are = checkpoints_grown (led_by ways start edges) (led_by ways start more) new checkpoints grown were.checkpoints_are;
      different = different_push like (led_by ways start edges) (led_by ways start more) new grown fresh were.different;
    }
  where
    within : e.from ≤ length edges
    within =
        let inside = slice_get_within (led_by ways start edges) e.from x there in
        let count = many_led ways start edges in
        omega (arith, inside, count)

    by : (k : ℕ) (z : Edge) → (slice_get edges k ≡ Some z) ⊎ ((k ≡ length edges) × (e ≡ z)) → (z.from ≤ k) × (z.way < length ways)
    by k z (inl a) = were.behind k z a
    by k z (inr b) = let at = b.0 in subst (λ (y : Edge). (y.from ≤ k) × (y.way < length ways)) b.1 (omega (arith, within, at), known)
