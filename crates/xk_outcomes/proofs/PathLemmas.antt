-- What is read along links is listed: from readings to outcomes, and as many outcomes as there are readings.
use Rattle.std.proofs.Common.{◌≡◌, ◌∙◌, ℕ, ◌+◌, ◌<◌, ◌⊎◌, inl, inr, List, [], ◌++◌, length, Some, sym, ap, subst, arith, slice_get}
use Rattle.std.proofs.lemmas.Option.{same_Some, slice_get_within}
use Rattle.xk_types.specs.Acceptance.{IsAccepted}
use Rattle.xk_types.specs.Code.{IsWithinLimits}
use Rattle.xk_types.specs.World.{AreArguments, opening}
use Rattle.xk_core.specs.Core.{CoreValue}
use Rattle.xk_readings.specs.declared.edge.Edge.{Edge}
use Rattle.xk_readings.specs.declared.listing.Reading.{Reading}
use Rattle.xk_readings.specs.Graphs.{graph}
use Rattle.xk_readings.specs.Readings.{AreAllListed, AreShown}
use Rattle.xk_ranks.specs.Reads.{Counting, IsCounting}
use Rattle.xk_outcomes.specs.declared.listing.Outcome.{Outcome}
use Rattle.xk_outcomes.specs.declared.order.Order.TheVariants as order
use Rattle.xk_outcomes.specs.Found.{FoundValue, first_found}
use Rattle.xk_outcomes.specs.Ways.{steps_of}
use Rattle.xk_outcomes.specs.Links.{AreLinked, ends}
use Rattle.xk_outcomes.specs.Listing.{AreMet, AreNoted, ArePlayed, AreRead, AreReadingsPut, IsPlayed, KeepsListed}
use Rattle.xk_outcomes.specs.Outcomes.{IsListed}
use Rattle.xk_outcomes.specs.Search.{AreFound}
use Rattle.xk_outcomes.proofs.FollowLemmas.{read_follows, read_to}
use Rattle.xk_outcomes.proofs.FoundLemmas.{first_silent}

-- ---- from readings to outcomes

pub readings_more : (start : CoreValue) (ways : List (List ℕ)) (found : List Reading) (place : ℕ) (here : Reading) (old new : List Outcome)
    → slice_get found place ≡ Some here → KeepsListed old new
    → (IsPlayed start (steps_of ways here.acts.items) here.numbers.items → IsListed new here.numbers.items)
    → AreReadingsPut start ways found place old
    → AreReadingsPut start ways found (place + 1) new
readings_more start ways found place here old new there kept listed before i r less at played = by (split i place less)
  where
    split : (i n : ℕ) → i < n + 1 → (i < n) ⊎ (i ≡ n)
    split i n h = grind arith

    by : (i < place) ⊎ (i ≡ place) → IsListed new r.numbers.items
    by (inl l) = kept r.numbers.items (before i r l at played)
    by (inr e) =
        let same : here ≡ r = same_Some here r (sym there ∙ (sym (ap (slice_get found) e) ∙ at)) in
        subst (λ (q : Reading). IsPlayed start (steps_of ways q.acts.items) q.numbers.items → IsListed new q.numbers.items) same listed
        played

-- each reading is played, and so listed
pub readings_listed : (start : CoreValue) (ways : List (List ℕ)) (all : List FoundValue) (links : List Edge) (found : List Reading)
    → (list : List Outcome) → ArePlayed start ways all links
    → AreShown (graph links (ends all)) found → AreReadingsPut start ways found (length found) list → (i : ℕ) (r : Reading)
    → slice_get found i ≡ Some r
    → IsListed list r.numbers.items
readings_listed start ways all links found list played shown put i r there =
    let s = shown i r there in
    put i r (slice_get_within found i r there) there (played s.0 r.acts.items r.numbers.items s.1)

pub all_read : (all : List FoundValue) (links : List Edge) (found : List Reading) (list : List Outcome)
    → AreAllListed (graph links (ends all)) found
    → ((i : ℕ) (r : Reading) → slice_get found i ≡ Some r → IsListed list r.numbers.items) → AreRead all links list
all_read all links found list whole listed n acts numbers reads =
    let h = whole n acts numbers reads in
    subst (IsListed list) h.3 (listed h.0 h.1 h.2)

-- whatever can be read is played by its steps
pub played : (start : CoreValue) (counts : Counting) → IsCounting start.module_run counts → (ways : List (List ℕ)) (all : List FoundValue)
    → (links : List Edge) → AreLinked counts start.module_run ways all links → AreFound start all
    → slice_get all 0 ≡ Some (first_found start) → IsWithinLimits start.module_run → IsAccepted start.module_run
    → AreArguments start.module_run start.world.arguments → start.world ≡ opening start.module_run start.world.arguments
    → ArePlayed start ways all links
played start counts counting ways all links linked found first limits ok taken begins n acts numbers reads =
    let f = read_follows start counts counting ways all links linked found first limits ok taken begins n acts numbers reads in
    record {
      ended = f.ended;
      prints = f.prints ∙ ap (λ ns. ns ++ numbers) (first_silent start limits ok);
    }

-- ---- what stands along links

pub met_printed : (all : List FoundValue) (links : List Edge) (list : List Outcome) → AreRead all links list
    → AreMet order.Printed all links list
met_printed all links list read k x numbers there ended same led =
    read (led.0 + 0) (led.1 ++ []) numbers (read_to all links k x numbers there ended led)

pub met_rising : (all : List FoundValue) (links : List Edge) (list : List Outcome) → AreNoted order.Rising all (length all) list
    → AreMet order.Rising all links list
met_rising all links list noted k x numbers there ended same led =
    subst (IsListed list) same (noted k x (slice_get_within all k x there) there ended)
