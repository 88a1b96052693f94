-- The shapes that the rows of a picture are made of (this project's own).
use Rattle.std.specs.Prelude.{ℕ, List}
use Rattle.nm_picture_svg.specs.declared.shape.Point.{Point}
use Rattle.nm_picture_svg.specs.declared.shape.Anchor.{Anchor}
use Rattle.nm_picture_svg.specs.declared.shape.Anchor.TheVariants.{Start}
use Rattle.nm_picture_svg.specs.declared.shape.Fault.{Fault}
use Rattle.nm_picture_svg.specs.declared.shape.Fill.TheVariants.{Solid}
use Rattle.nm_picture_svg.specs.declared.shape.Shape.{Shape}
use Rattle.nm_picture_svg.specs.declared.shape.Shape.TheVariants as shape
use Rattle.nm_picture_svg.specs.declared.shape.Stroke.{Stroke}
use Rattle.nm_picture_svg.specs.declared.shape.Tip.{Tip}
use Rattle.nm_picture_svg.specs.declared.shape.Tone.{Tone}
use Rattle.nm_picture_svg.specs.declared.shape.Tone.TheVariants.{Refused}
use Rattle.nm_picture_frame.specs.Frame.{left_of, right_of}

-- a place
abbrev pub point : ℕ → ℕ → Point
point x y = record { x = x; y = y }

-- a line from a place to another of the same height
abbrev pub level : ℕ → ℕ → ℕ → Tip → Stroke → Tone → Shape
level from to y tip stroke tone = shape.Line (point from y) (point to y) tip stroke tone

-- what was lost
abbrev pub cross : ℕ → ℕ → Shape
cross x y = shape.Cross (point x y) Refused

-- the sign of a fault
abbrev pub sign : ℕ → ℕ → Fault → Shape
sign x y fault = shape.Sign (point x y) fault

-- a box around a lane, 160 pixels wide and 20 high
abbrev pub entry_box : ℕ → ℕ → Tone → Shape
entry_box x y tone = shape.Rectangle (point (left_of x 80) (left_of y 10)) 160 20 Solid tone

-- words at a height
abbrev pub words_at : ℕ → ℕ → Anchor → Tone → List ℕ → Shape
words_at x y anchor tone words = shape.Text (point x y) anchor tone words

-- words above the arrow of a line, from a place on
abbrev pub words_above : ℕ → ℕ → Tone → List ℕ → Shape
words_above x y tone words = words_at x (left_of y 2) Start tone words

-- words in the middle of a line
abbrev pub words_amid : ℕ → ℕ → Anchor → Tone → List ℕ → Shape
words_amid x y anchor tone words = words_at x (right_of y 4) anchor tone words
