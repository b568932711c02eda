-- Where the columns of a picture stand. This project's own.
use Rattle.std.specs.Prelude.{ℕ, ◌+◌, ◌*◌, nat_eq, min, max, if◌then◌else◌}
use Rattle.xk_show_lanes.specs.declared.grid.Grid.{Grid}
use Rattle.xk_show_picture.specs.declared.sheet.Sheet.{Sheet}

-- Eight for each sign of a column, of 40 at most in that of places and 100 in a lane, which nothing that stands there has; bands for the first eight
-- clocks; and room for so many signs behind bars.
abbrev pub sheet_of : Grid → ℕ → ℕ → Sheet
sheet_of g signs clocks = record {
  window = g.window;
  left = 96 + 8 * min 40 g.place;
  half = 4 * min 100 g.lane;
  lanes = g.lanes;
  bands = min 8 clocks;
  signs = signs;
}

abbrev pub lane_left : Sheet → ℕ → ℕ
lane_left s b = s.left + 2 * (s.half * b)

abbrev pub middle : Sheet → ℕ → ℕ
middle s b = lane_left s b + s.half

abbrev pub bands_left : Sheet → ℕ
bands_left s = lane_left s s.lanes + 8

abbrev pub band_left : Sheet → ℕ → ℕ
band_left s c = bands_left s + 14 * c

-- where what is said of bars begins
abbrev pub labels : Sheet → ℕ
labels s = band_left s s.bands + 8

-- the room for what is said of bars, if there are clocks
abbrev pub room : Sheet → ℕ
room s = if nat_eq s.bands 0 then 0 else 8 * s.signs

-- how wide the picture is: so that there is room for what is said of bars, and for the legend
abbrev pub wide : Sheet → ℕ
wide s = max (labels s + (room s + 8)) 680
