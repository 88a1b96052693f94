-- The style sheet: the colours of tones, on a light and on a dark page, and how shapes of each kind look (this project's own).
use Rattle.std.specs.Prelude.{ℕ, List, ◌++◌, codes}

-- colours on a light page, line 1
unfoldable pub first_of_light : List ℕ
first_of_light = codes "svg{--bg:#fff;--ink:#1c2430;--soft:#5b6675;--line:#c3cad5;--card:#eef2f8;--ask:#1f4f9e;--answer:#56606e;\n"

-- colours on a light page, line 2
unfoldable pub second_of_light : List ℕ
second_of_light = codes "--bad:#b8281c;--pending:#ead300;--manager:#0072b2;--first:#d98200;--second:#009e73;--third:#c25c95;\n"

-- colours on a light page, line 3
unfoldable pub third_of_light : List ℕ
third_of_light = codes "--fourth:#56b4e9;--fifth:#7a5c00;background:var(--bg);font:12px system-ui,-apple-system,'Segoe UI',sans-serif}\n"

-- colours on a light page
unfoldable pub light : List ℕ
light = first_of_light ++ second_of_light ++ third_of_light

-- colours on a dark page, line 1
unfoldable pub first_of_dark : List ℕ
first_of_dark = codes "@media(prefers-color-scheme:dark){svg{--bg:#14181f;--ink:#e6eaf0;--soft:#a0aaba;--line:#3d4655;--card:#1f2631;\n"

-- colours on a dark page, line 2
unfoldable pub second_of_dark : List ℕ
second_of_dark = codes "--ask:#8ab6ff;--answer:#aab4c2;--bad:#ff8a7a;--pending:#d9c22e;--manager:#4aa8e8;--first:#f2ae3a;\n"

-- colours on a dark page, line 3
unfoldable pub third_of_dark : List ℕ
third_of_dark = codes "--second:#2fc79b;--third:#e39ac4;--fourth:#9ad4f7;--fifth:#c9a94a}}\n"

-- colours on a dark page
unfoldable pub dark : List ℕ
dark = first_of_dark ++ second_of_dark ++ third_of_dark

-- the colour of each tone, line 1
unfoldable pub first_of_tones : List ℕ
first_of_tones = codes ".plain,.title,.heading,.entry,.decided,.changed{--c:var(--ink)}.soft,.rule{--c:var(--soft)}.lane{--c:var(--line)}\n"

-- the colour of each tone, line 2
unfoldable pub second_of_tones : List ℕ
second_of_tones = codes ".ask{--c:var(--ask)}.answer{--c:var(--answer)}.refused,.alarm{--c:var(--bad)}.on-alarm{--c:var(--bg)}\n"

-- the colour of each tone, line 3
unfoldable pub third_of_tones : List ℕ
third_of_tones = codes ".pending{--c:var(--pending)}.manager{--c:var(--manager)}.first{--c:var(--first)}.second{--c:var(--second)}\n"

-- the colour of each tone, line 4
unfoldable pub fourth_of_tones : List ℕ
fourth_of_tones = codes ".third{--c:var(--third)}.fourth{--c:var(--fourth)}.fifth{--c:var(--fifth)}\n"

-- the colour of each tone
unfoldable pub tones : List ℕ
tones = first_of_tones ++ second_of_tones ++ third_of_tones ++ fourth_of_tones

-- how lines, boxes and signs look, line 1
unfoldable pub first_of_outlines : List ℕ
first_of_outlines = codes "line{stroke:var(--c);stroke-width:1.2}.lane{stroke-width:1.5}.rule{stroke-dasharray:2 4}.dashed{stroke-dasharray:4 3}\n"

-- how lines, boxes and signs look, line 2
unfoldable pub second_of_outlines : List ℕ
second_of_outlines = codes "path,rect,circle{fill:var(--c)}.hollow{fill:var(--bg);stroke:var(--c);stroke-width:1.4}\n"

-- how lines, boxes and signs look, line 3
unfoldable pub third_of_outlines : List ℕ
third_of_outlines = codes ".sign,.cross{fill:none;stroke:var(--c);stroke-width:2;stroke-linecap:round}.sign{fill:var(--bg)}\n"

-- how lines, boxes and signs look, line 4
unfoldable pub fourth_of_outlines : List ℕ
fourth_of_outlines = codes "circle.changed{fill:var(--bg);stroke:var(--c);stroke-width:2}rect.entry,rect.decided{fill:var(--card);stroke:var(--line)}\n"

-- how lines, boxes and signs look, line 5
unfoldable pub fifth_of_outlines : List ℕ
fifth_of_outlines = codes "rect.decided{stroke:var(--c);stroke-width:1.8}\n"

-- how lines, boxes and signs look
unfoldable pub outlines : List ℕ
outlines = first_of_outlines ++ second_of_outlines ++ third_of_outlines ++ fourth_of_outlines ++ fifth_of_outlines

-- how words look, line 1
unfoldable pub first_of_letters : List ℕ
first_of_letters = codes "text{fill:var(--c);stroke:var(--bg);stroke-width:3px;stroke-linejoin:round;paint-order:stroke}\n"

-- how words look, line 2
unfoldable pub second_of_letters : List ℕ
second_of_letters = codes "text.entry,text.decided,text.on-alarm{stroke:none}text.refused,text.on-alarm,text.decided{font-weight:600}\n"

-- how words look, line 3
unfoldable pub third_of_letters : List ℕ
third_of_letters = codes "text.title{font-size:17px;font-weight:700}text.heading{font-size:13px;font-weight:700}\n"

-- how words look, line 4
unfoldable pub fourth_of_letters : List ℕ
fourth_of_letters = codes ".middle{text-anchor:middle}.end{text-anchor:end}\n"

-- how words look
unfoldable pub letters : List ℕ
letters = first_of_letters ++ second_of_letters ++ third_of_letters ++ fourth_of_letters

-- the style sheet
unfoldable pub style : List ℕ
style = light ++ dark ++ tones ++ outlines ++ letters
