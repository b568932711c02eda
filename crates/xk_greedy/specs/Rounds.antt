-- Runs by rounds, as on processors that take a step at the same time, none of which is idle while it could take one: such runs
-- are called greedy (Graham, "Bounds for certain multiprocessing anomalies", 1966). That an activity takes one instruction a round is this project's own.
use Rattle.std.specs.Prelude.{◌≡◌, ℕ, ◌<◌, ℤ, true, List, [], ◌∷◌, length, map, take, Option, Some, None, ⊤}
use Rattle.xk_types.specs.declared.world.Entry.{Entry}
use Rattle.xk_types.specs.Code.{ModuleValue}
use Rattle.xk_types.specs.World.{World, opening}
use Rattle.xk_types.specs.Schedule.{Through, all_ended, run}
use Rattle.xk_types.specs.Logs.{one_step_of}
use Rattle.xk_scheduler.specs.Choosers.{enabled_in}
use Rattle.xk_law_rounds.specs.Rounds.{steps_in}

-- of those who can take a step: all, or the first, as many as there are processors
abbrev pub chosen : Option ℕ → List ℕ → List ℕ
chosen None acts = acts
chosen (Some n) acts = take n acts

-- there is a processor
abbrev pub AreSome : Option ℕ → Type 0
AreSome None = ⊤
AreSome (Some n) = 0 < n

-- By a round from world w to world v: those chosen of whoever can take a step in w take one each, in the order of their numbers.
pub record IsRoundBy (processors : Option ℕ) (m : ModuleValue) (w : World) (list : List ℕ) (v : World) : Type 0 where
  pub chosen_are : list ≡ chosen processors (enabled_in m w)
  pub some : 0 < length list
  pub leads : run m list w ≡ Through v

-- rounds one after another
abbrev pub AreRoundsBy : Option ℕ → ModuleValue → World → List (List ℕ) → World → Type 0
AreRoundsBy processors m w [] z = w ≡ z
AreRoundsBy processors m w (r ∷ rs) z = (v : World) × IsRoundBy processors m w r v × AreRoundsBy processors m v rs z

-- A log has an entry for each step of so many rounds, which lead from the opening world with these arguments to this one.
pub record IsByRounds (processors : Option ℕ) (m : ModuleValue) (args : List ℤ) (log : List Entry) (last : World) (count : ℕ)
    : Type 0 where
  pub rounds : List (List ℕ)
  pub are : AreRoundsBy processors m (opening m args) rounds last
  pub log_is : log ≡ map one_step_of (steps_in rounds)
  pub as_many : length rounds ≡ count

-- a list of steps is that of so many rounds, which lead from the opening world with these arguments to one in which all have ended
abbrev pub FollowsRounds : Option ℕ → ModuleValue → List ℤ → ℕ → List ℕ → Type 0
FollowsRounds processors m args count list =
    (last : World) × (all_ended last ≡ true) × IsByRounds processors m args (map one_step_of list) last count
