-- The tones that tell operators apart (this project's own).
use Rattle.std.specs.Prelude.{ℕ, ◌%◌, ◌==◌, if◌then◌else◌}
use Rattle.nm_picture_svg.specs.declared.shape.Tone.{Tone}
use Rattle.nm_picture_svg.specs.declared.shape.Tone.TheVariants.{FirstOperator, SecondOperator, ThirdOperator, FourthOperator, FifthOperator}

-- the tone of one in five
abbrev pub tone_in_turn : ℕ → Tone
tone_in_turn place =
    if place == 0 then FirstOperator else (
    if place == 1 then SecondOperator else (
    if place == 2 then ThirdOperator else (
    if place == 3 then FourthOperator else FifthOperator)))

-- the tone of what an operator holds, the first of whom has number 0: five tones, in turn
abbrev pub operator_tone : ℕ → Tone
operator_tone number = tone_in_turn (number % 5)
