-- What stands in each picture: how things look, in light and in dark; shapes that are used again and again; and what they mean. Bytes that mean
-- nothing to a run. This project's own.
use Rattle.std.specs.Prelude.{ℕ, List, ◌++◌, codes}

-- colours and letters
unfoldable pub style : List ℕ
style =
    codes "<style>\n"
    ++ (codes "text{font:12px monospace;fill:#1f2328}\n"
    ++ (codes ".paper{fill:#ffffff}\n"
    ++ (codes ".number{text-anchor:end}\n"
    ++ (codes ".at,.number{fill:#656d76}\n"
    ++ (codes ".lane,.words{text-anchor:middle}\n"
    ++ (codes ".lane{font-weight:bold}\n"
    ++ (codes ".life rect{fill:#e4e7ec;stroke:#7a828e}\n"
    ++ (codes ".clock rect{fill:#dbe9fb;stroke:#2f6fc0}\n"
    ++ (codes ".shared rect{fill:#dcf3e0;stroke:#2b8a4b}\n"
    ++ (codes ".print rect{fill:#fdeec6;stroke:#b58110}\n"
    ++ (codes ".free{stroke:#8c959f;stroke-width:2}\n"
    ++ (codes ".held{fill:url(#hatch)}\n"
    ++ (codes ".hatch{fill:#fbe3e1}\n"
    ++ (codes ".lines{stroke:#cf4a3f;stroke-width:1}\n"
    ++ (codes ".bar{stroke:#b3261e;stroke-width:3}\n"
    ++ (codes ".ring{fill:#ffffff;stroke:#b3261e;stroke-width:2}\n"
    ++ (codes ".start{stroke:#57606a;stroke-dasharray:5 3;marker-end:url(#tip)}\n"
    ++ (codes ".tip{fill:#57606a}\n"
    ++ (codes ".even{fill:#b6c9e6}\n"
    ++ (codes ".odd{fill:#e9cda0}\n"
    ++ (codes "@media (prefers-color-scheme:dark){\n"
    ++ (codes "text{fill:#e6edf3}\n"
    ++ (codes ".paper{fill:#0d1117}\n"
    ++ (codes ".at,.number{fill:#9198a1}\n"
    ++ (codes ".life rect{fill:#2a3038}\n"
    ++ (codes ".clock rect{fill:#14335c;stroke:#5c9ded}\n"
    ++ (codes ".shared rect{fill:#123d22;stroke:#4cb86f}\n"
    ++ (codes ".print rect{fill:#4a3808;stroke:#d9a62e}\n"
    ++ (codes ".hatch{fill:#3a1a18}\n"
    ++ (codes ".bar,.ring{stroke:#ff7b72}\n"
    ++ (codes ".ring{fill:#0d1117}\n"
    ++ (codes ".start{stroke:#adb5bf}\n"
    ++ (codes ".tip{fill:#adb5bf}\n"
    ++ (codes ".even{fill:#36507a}\n"
    ++ (codes ".odd{fill:#6e5426}\n"
    ++ (codes "}\n"
    ++ (codes "</style>\n")))))))))))))))))))))))))))))))))))))

-- shapes, and the paper
unfoldable pub shapes : List ℕ
shapes =
    codes "<defs>\n"
    ++ (codes "<pattern id='hatch' width='8' height='8' patternUnits='userSpaceOnUse'><rect class='hatch' width='8' height='8'/><path class='lines' d='M-1 1l2 -2M0 8l8 -8M7 9l2 -2'/></pattern>\n"
    ++ (codes "<marker id='tip' markerWidth='10' markerHeight='10' refX='8' refY='4' orient='auto' markerUnits='userSpaceOnUse'><path class='tip' d='M0 0l9 4l-9 4z'/></marker>\n"
    ++ (codes "<path id='free' class='free' d='M0 0v24'/>\n"
    ++ (codes "<rect id='held' class='held' x='-6' width='12' height='24'/>\n"
    ++ (codes "<circle id='ring' class='ring' r='4'/>\n"
    ++ (codes "<rect id='even' class='even' width='10' height='24'/>\n"
    ++ (codes "<rect id='odd' class='odd' width='10' height='24'/>\n"
    ++ (codes "</defs>\n"
    ++ (codes "<rect class='paper' width='100%' height='100%'/>\n")))))))))

-- what the shapes mean, and the titles of the first two columns
unfoldable pub legend : List ℕ
legend =
    codes "<g class='life'><rect x='16' y='14' width='32' height='18' rx='3'/></g><text x='60' y='27'>a step that others see</text>\n"
    ++ (codes "<use href='#free' x='264' y='11'/><text x='284' y='27'>can take a step</text>\n"
    ++ (codes "<use href='#held' x='464' y='11'/><text x='484' y='27'>is held back</text>\n"
    ++ (codes "<path class='bar' d='M16 55h32'/><use href='#ring' x='32' y='55'/><text x='60' y='59'>a clock advances</text>\n"
    ++ (codes "<path class='start' d='M248 55h28'/><text x='284' y='59'>starts an activity</text>\n"
    ++ (codes "<use href='#even' x='454' y='43'/><use href='#odd' x='464' y='43'/><text x='484' y='59'>phases of a clock</text>\n"
    ++ (codes "<text class='number' x='80' y='104'>step</text><text class='at' x='88' y='104'>at</text>\n"))))))
