-- A run of the module is followed by one of the source.
use Rattle.std.proofs.Common.{◌≡◌, ℕ, cond, ◌&&◌, List, [], ◌∷◌, map, refl, sym, ap, ◌∙◌, subst, inl, inr}
use Rattle.std.specs.List.{list_all}
use Rattle.xk_types.specs.declared.world.Event.{Event}
use Rattle.xk_types.specs.Code.{ModuleValue}
use Rattle.xk_types.specs.World.{Activity, Clock, World, is_ended}
use Rattle.xk_types.specs.Step.{Stepped, step}
use Rattle.xk_types.specs.Schedule.{Through, run, is_local}
use Rattle.xk_types.proofs.RunLemmas.{same_through, first_step}
use Rattle.xk_tree.specs.Tree.{TreeValue}
use Rattle.xk_source_semantics.specs.Source.{SourceActivity, SourceWorld, source_step}
use Rattle.xk_source_semantics.specs.Meaning.{Stand, shown, Moment, moments_on, moments, Goes, have_ended}
use Rattle.xk_law_compiler.proofs.PairwiseLemmas.{Pairs}
use Rattle.xk_law_compiler.proofs.WorldLemmas.{IsAlike, AreRelated, Follows}

-- what all share is the same
clocks_shown : (cs ds : List Clock) → Pairs IsAlike cs ds
    → ◌≡◌ {A = List Stand} (map (λ c. record { phase = c.phase; standings = c.standings }) cs) (map (λ c. record { phase = c.phase; standings = c.standings }) ds)
clocks_shown [] [] h = refl
clocks_shown [] (d ∷ ds) h = absurd h
clocks_shown (c ∷ cs) [] h = absurd h
clocks_shown (c ∷ cs) (d ∷ ds) h =
    let rest = clocks_shown cs ds h.1 in
    λ i. record { phase = h.0.phase i; standings = h.0.standings i } ∷ rest i

shown_same : (R : Activity → SourceActivity → Type 0) (w : World) (v : SourceWorld) → AreRelated R w v → shown w ≡ shown v
shown_same R w v rel = let cs = clocks_shown w.clocks v.clocks rel.clocks in let ns = rel.cells in λ i. record { clocks = cs i; cells = ns i }

ended_same : (R : Activity → SourceActivity → Type 0) → ((x : Activity) (y : SourceActivity) → R x y → x.status ≡ y.status)
    → (xs : List Activity) (ys : List SourceActivity) → Pairs R xs ys
    → list_all (λ act. is_ended act.status) xs ≡ list_all (λ act. is_ended act.status) ys
ended_same R k [] [] h = refl
ended_same R k [] (y ∷ ys) h = absurd h
ended_same R k (x ∷ xs) [] h = absurd h
ended_same R k (x ∷ xs) (y ∷ ys) h =
    ap (λ s. is_ended s && list_all (λ act. is_ended act.status) xs) (k x y h.0) ∙ ap (λ b. is_ended y.status && b) (ended_same R k xs ys h.1)

-- The source goes on from a world with these moments to one that is related to the module's, and has ended where the module has.
pub record GoesOn (t : TreeValue) (R : Activity → SourceActivity → Type 0) (v : SourceWorld) (seen : List Moment) (after : World) : Type 0 where
  pub list : List ℕ
  pub last : SourceWorld
  pub goes : Goes (source_step t) list v last
  pub same : moments (source_step t) list v ≡ seen
  pub ends : have_ended last ≡ have_ended after
  pub related : AreRelated R after last

-- a run from related worlds is followed
pub run_follows : (t : TreeValue) (R : Activity → SourceActivity → Type 0) (m : ModuleValue)
    → ((w : World) (v : SourceWorld) (a : ℕ) → AreRelated R w v → Follows t R v a (step m w a))
    → ((x : Activity) (y : SourceActivity) → R x y → x.status ≡ y.status)
    → (list : List ℕ) (w after : World) (v : SourceWorld) → AreRelated R w v → run m list w ≡ Through after
    → GoesOn t R v (moments (step m) list w) after
run_follows t R m follows same [] w after v rel h = record {
  list = [];
  last = v;
  goes = refl;
  same = refl;
  ends = sym (ap have_ended (sym (same_through w after h)) ∙ ended_same R same w.activities v.activities rel.activities);
  related = subst (λ (u : World). AreRelated R u v) (same_through w after h) rel;
}
run_follows t R m follows same (a ∷ list) w after v rel h =
    let f = first_step w after (step m w a) (run m list) h in
    by f.0 f.1 f.2 (subst (Follows t R v a) f.2 (follows w v a rel)) (λ u r. run_follows t R m follows same list f.0 after u r f.3)
  where
    by : (next : World) (e : Event) → step m w a ≡ Stepped next e → Follows t R v a (Stepped next e)
        → ((u : SourceWorld) → AreRelated R next u → GoesOn t R u (moments (step m) list next) after)
        → GoesOn t R v (moments (step m) (a ∷ list) w) after
    by next e st (inl q) later =
        let r = later v q.1 in
        record {
          list = r.list;
          last = r.last;
          goes = r.goes;
          same = r.same
              ∙ sym (ap (λ o. moments_on a o (moments (step m) list)) st
              ∙ ap (λ b. cond b (moments (step m) list next) (record { activity = a; event = e; after = shown next } ∷ moments (step m) list next)) q.0);
          ends = r.ends;
          related = r.related;
        }
    by next e st (inr q) later =
        let r = later q.0 q.2 in
        record {
          list = a ∷ r.list;
          last = r.last;
          goes = (q.0, e, q.1, r.goes);
          same = sym (ap (λ o. moments_on a o (moments (step m) list)) st
              ∙ (ap (λ s. cond (is_local e) (moments (step m) list next) (record { activity = a; event = e; after = s } ∷ moments (step m) list next))
              (shown_same R next q.0 q.2)
              ∙ (ap (λ rest. cond (is_local e) rest (record { activity = a; event = e; after = shown q.0 } ∷ rest)) (sym r.same)
              ∙ ap (λ o. moments_on a o (moments (source_step t) r.list)) (sym q.1))));
          ends = r.ends;
          related = r.related;
        }
