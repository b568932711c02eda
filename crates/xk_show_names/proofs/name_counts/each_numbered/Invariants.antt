use Rattle.std.proofs.Common.{◌≡◌, ◌∷◌, [], map, take}
use Rattle.xk_show_names.specs.ClockNames.{numbered}
use Rattle.xk_show_names.specs.NameCounts.{AreCounted}
use Rattle.xk_show_events.specs.Worlds.{each_below}
use Rattle.xk_show_names.proofs.name_counts.each_numbered.Given as goal

-- the names so far have their numbers, and are counted
abbrev pub invariant-loop-name : goal.invariant-loop-name
invariant-loop-name l =
    let names = map (λ x. x.items) l.names in
    (map (λ x. x.items) l.list.items ≡ each_below (λ k. numbered names k ∷ []) l.name-index) × AreCounted l.counts (take l.name-index names)
