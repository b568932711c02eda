-- Small texts: positions, lines and excerpts.
use Rattle.std.proofs.Common.{◌≡◌, ℕ, [], ◌∷◌, ◌++◌, replicate, refl}
use Rattle.std.specs.Prelude.{codes}
use Rattle.std.specs.Fmt.{digits}
use Rattle.std.specs.Str.{chars, is_utf8}
use lib.Utf8.{encode}
use Rattle.xk_lines.specs.declared.lines.Position.{Position}
use Rattle.xk_lines.specs.Excerpts.{excerpt}
use Rattle.xk_lines.specs.Lines.{line_at, line_starts, position_of}
use Rattle.xk_lines.specs.Signs.{signs, shown_signs}

-- ---- positions

abbrev place : ℕ → ℕ → Position
place line column = record { line = line; column = column }

no_bytes : position_of [] 0 ≡ place 1 1
no_bytes = refl

first_byte : position_of (codes "ab\ncd") 0 ≡ place 1 1
first_byte = refl

-- a line feed stands in the line that it ends
line_feed_itself : position_of (codes "ab\ncd") 2 ≡ place 1 3
line_feed_itself = refl

second_line : position_of (codes "ab\ncd") 4 ≡ place 2 2
second_line = refl

end_of_text : position_of (codes "ab\ncd") 5 ≡ place 2 3
end_of_text = refl

end_behind_line_feed : position_of (codes "ab\n") 3 ≡ place 2 1
end_behind_line_feed = refl

beginnings : line_starts (codes "ab\n\ncd\n") ≡ 0 ∷ 3 ∷ 4 ∷ 7 ∷ []
beginnings = refl

-- a tab is one column, and so is a letter e with an accent; a byte that continues no character is none
behind_a_tab : position_of (9 ∷ codes "a") 1 ≡ place 1 2
behind_a_tab = refl

behind_an_accent : position_of (195 ∷ 169 ∷ codes "a") 2 ≡ place 1 2
behind_an_accent = refl

behind_a_stray_byte : position_of (128 ∷ codes "a") 1 ≡ place 1 1
behind_a_stray_byte = refl

-- ---- lines

behind_carriage_return : position_of (codes "a" ++ 13 ∷ 10 ∷ codes "b") 3 ≡ place 2 1
behind_carriage_return = refl

without_its_end : line_at (codes "a" ++ 13 ∷ 10 ∷ codes "b") 1 ≡ codes "a"
without_its_end = refl

-- by itself it ends no line
lone_carriage_return : line_at (codes "a" ++ 13 ∷ codes "b") 2 ≡ codes "a" ++ 13 ∷ codes "b"
lone_carriage_return = refl

-- ---- what is shown

an_accent : shown_signs (signs (195 ∷ 169 ∷ codes "a")) ≡ 195 ∷ 169 ∷ codes "a"
unfolding signs is_utf8 chars encode
an_accent = refl

-- half a character, and a byte of none
no_characters : shown_signs (signs (195 ∷ codes "a" ++ 255 ∷ [])) ≡ 92 ∷ codes "xc3a" ++ 92 ∷ codes "xff"
unfolding signs is_utf8 chars encode
no_characters = refl

control_signs : shown_signs (signs (9 ∷ 27 ∷ 127 ∷ [])) ≡ 32 ∷ 92 ∷ codes "x1b" ++ 92 ∷ codes "x7f"
unfolding signs is_utf8 chars encode
control_signs = refl

-- U+009B
control_sign_of_two_bytes : shown_signs (signs (194 ∷ 155 ∷ [])) ≡ 92 ∷ codes "xc2" ++ 92 ∷ codes "x9b"
unfolding signs is_utf8 chars encode
control_sign_of_two_bytes = refl

-- U+202E turns the order of letters, U+2028 ends a line
marks : shown_signs (signs (codes "a" ++ 0xE2 ∷ 0x80 ∷ 0xAE ∷ codes "b" ++ 0xE2 ∷ 0x80 ∷ 0xA8 ∷ []))
    ≡ codes "a" ++ 92 ∷ codes "u{202e}b" ++ 92 ∷ codes "u{2028}"
unfolding signs is_utf8 chars encode
marks = refl

isolates : shown_signs (signs (0xE2 ∷ 0x81 ∷ 0xA6 ∷ 0xE2 ∷ 0x81 ∷ 0xA9 ∷ [])) ≡ 92 ∷ codes "u{2066}" ++ 92 ∷ codes "u{2069}"
unfolding signs is_utf8 chars encode
isolates = refl

-- their neighbours: U+2027, U+202F, U+2065, U+206A, and U+10AE, which ends as U+202E does
no_marks : shown_signs (signs (0xE2 ∷ 0x80 ∷ 0xA7 ∷ 0xE2 ∷ 0x80 ∷ 0xAF ∷ 0xE2 ∷ 0x81 ∷ 0xA5 ∷ 0xE2 ∷ 0x81 ∷ 0xAA ∷ 0xE1 ∷ 0x82 ∷ 0xAE ∷ []))
    ≡ 0xE2 ∷ 0x80 ∷ 0xA7 ∷ 0xE2 ∷ 0x80 ∷ 0xAF ∷ 0xE2 ∷ 0x81 ∷ 0xA5 ∷ 0xE2 ∷ 0x81 ∷ 0xAA ∷ 0xE1 ∷ 0x82 ∷ 0xAE ∷ []
unfolding signs is_utf8 chars encode
no_marks = refl

-- ---- excerpts

a_byte : excerpt (codes "a\nb = c;\nd") 6 1 ≡ codes "   |\n 2 | b = c;\n   |     ^"
unfolding signs is_utf8 chars encode digits
a_byte = refl

a_word : excerpt (codes "  Clock.make()") 2 5 ≡ codes "   |\n 1 |   Clock.make()\n   |   ^^^^^"
unfolding signs is_utf8 chars encode digits
a_word = refl

-- a caret stands at a line's end, also before a carriage return and behind it
at_the_end : excerpt (codes "ab") 2 1 ≡ codes "   |\n 1 | ab\n   |   ^"
unfolding signs is_utf8 chars encode digits
at_the_end = refl

within_the_end : excerpt (codes "ab" ++ 13 ∷ 10 ∷ []) 3 1 ≡ codes "   |\n 1 | ab\n   |   ^"
unfolding signs is_utf8 chars encode digits
within_the_end = refl

-- behind a tab, an accent and an escape
behind_wide_signs : excerpt (9 ∷ 195 ∷ 169 ∷ 27 ∷ codes "a") 4 1 ≡ codes "   |\n 1 |  " ++ 195 ∷ 169 ∷ 92 ∷ codes "x1ba\n   |       ^"
unfolding signs is_utf8 chars encode digits
behind_wide_signs = refl

-- all that an escape takes is marked
an_escape : excerpt (codes "a" ++ 0 ∷ codes "b") 1 1 ≡ codes "   |\n 1 | a" ++ 92 ∷ codes "x00b\n   |  ^^^^"
unfolding signs is_utf8 chars encode digits
an_escape = refl

-- and behind a mark the caret stands under the right sign
behind_a_mark : excerpt (0xE2 ∷ 0x80 ∷ 0xAE ∷ codes "a") 3 1 ≡ codes "   |\n 1 | " ++ 92 ∷ codes "u{202e}a\n   |         ^"
unfolding signs is_utf8 chars encode digits
behind_a_mark = refl

-- the margin is as wide as the number
tenth_line : excerpt (replicate 9 10 ++ codes "ab") 10 1 ≡ codes "    |\n 10 | ab\n    |  ^"
unfolding signs is_utf8 chars encode digits
tenth_line = refl

a_long_line : excerpt (replicate 81 97 ++ replicate 81 98) 81 1
    ≡ codes "   |\n 1 | .." ++ replicate 80 97 ++ replicate 80 98 ++ codes "..\n   | " ++ replicate 82 32 ++ codes "^"
unfolding signs is_utf8 chars encode digits
a_long_line = refl
