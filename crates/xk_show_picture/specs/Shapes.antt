-- The pieces of a picture, each a line of SVG or less. Attributes stand in single quotes. What is filled in are numbers and words of letters, digits,
-- blanks, dots, colons and such signs as `_`, `#` and `->`: nothing of it has to be escaped. This project's own.
use Rattle.std.specs.Prelude.{ℕ, ◌+◌, ◌*◌, List, ◌++◌, codes, decimal}

-- how far down row k begins
abbrev pub top : ℕ → ℕ
top k = 112 + 24 * k

-- `<use href='#held' x='180' y='184'/>`: one of the shapes that stand in the head
unfoldable pub shape : List ℕ → ℕ → ℕ → List ℕ
shape name x y = codes "<use href='#" ++ (name ++ (codes "' x='" ++ (decimal x ++ (codes "' y='" ++ (decimal y ++ codes "'/>\n")))))

-- a stroke of a bar, to the right from here
unfoldable pub stroke : ℕ → ℕ → ℕ → List ℕ
stroke x y long = codes "<path class='bar' d='M" ++ (decimal x ++ (codes " " ++ (decimal y ++ (codes "h" ++ (decimal long ++ codes "'/>\n")))))

-- the arrow of a start, to the right from x to the place to
unfoldable pub arrow : ℕ → ℕ → ℕ → List ℕ
arrow x y to = codes "<path class='start' d='M" ++ (decimal x ++ (codes " " ++ (decimal y ++ (codes "H" ++ (decimal to ++ codes "'/>\n")))))

-- words, which begin here
unfoldable pub label : ℕ → ℕ → List ℕ → List ℕ
label x y words = codes "<text x='" ++ (decimal x ++ (codes "' y='" ++ (decimal y ++ (codes "'>" ++ (words ++ codes "</text>\n")))))

-- the title of a lane, round this place
unfoldable pub lane_title : ℕ → List ℕ → List ℕ
lane_title x words = codes "<text class='lane' x='" ++ (decimal x ++ (codes "' y='104'>" ++ (words ++ codes "</text>\n")))

-- a step's number and place
unfoldable pub front : ℕ → ℕ → List ℕ → List ℕ
front y number spot =
    codes "<text class='number' x='80' y='" ++ (decimal y ++ (codes "'>" ++ (decimal number ++ (codes "</text><text class='at' x='88' y='" ++ (decimal y
    ++ (codes "'>" ++ (spot ++ codes "</text>\n")))))))

-- a box: what kind of step it is for, and what is told of it where it is pointed at
unfoldable pub box_head : List ℕ → ℕ → ℕ → List ℕ → List ℕ → List ℕ
box_head kind number act spot words =
    codes "<g class='" ++ (kind ++ (codes "'><title>step " ++ (decimal number ++ (codes " act " ++ (decimal act ++ (codes " at " ++ (spot ++ (codes " "
    ++ (words ++ codes "</title>")))))))))

-- its frame, from here, so wide
unfoldable pub box_frame : ℕ → ℕ → ℕ → List ℕ
box_frame x y wide =
    codes "<rect x='" ++ (decimal x ++ (codes "' y='" ++ (decimal y ++ (codes "' width='" ++ (decimal wide ++ codes "' height='20' rx='3'/>")))))

-- its words, round this place
unfoldable pub box_words : ℕ → ℕ → List ℕ → List ℕ
box_words x y words = codes "<text class='words' x='" ++ (decimal x ++ (codes "' y='" ++ (decimal y ++ (codes "'>" ++ (words ++ codes "</text></g>\n")))))

-- how large the picture is
unfoldable pub svg_head : ℕ → ℕ → List ℕ
svg_head wide high =
    codes "<svg xmlns='http://www.w3.org/2000/svg' width='" ++ (decimal wide ++ (codes "' height='" ++ (decimal high ++ (codes "' viewBox='0 0 " ++ (decimal wide
    ++ (codes " " ++ (decimal high ++ codes "' role='img' aria-labelledby='title desc'>\n")))))))

-- what is told to who doesn't see it
unfoldable pub described : ℕ → ℕ → List ℕ
described activities rows =
    codes "<title id='title'>The lanes of a run</title>\n<desc id='desc'>A lane for each of " ++ (decimal activities ++ (codes " activities, and " ++ (decimal rows
    ++ codes " rows, from the top: one for each step that others see, and one for each advance of a clock.</desc>\n")))

-- in the place of a picture that would be too large
unfoldable pub too_large : ℕ → ℕ → List ℕ
too_large rows activities =
    codes "picture too large: " ++ (decimal rows ++ (codes " rows, " ++ (decimal activities
    ++ codes " activities; at most 2000 and 64 are drawn, and --from and --to ask for fewer rows\n")))
