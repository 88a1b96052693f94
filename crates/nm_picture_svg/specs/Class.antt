-- The classes of tones, by which the style sheet knows them, and the outlines of signs (this project's own).
use Rattle.std.specs.Prelude.{ℕ, List, [], codes, nat_lt, if◌then◌else◌}
use Rattle.nm_picture_svg.specs.declared.shape.Point.{Point}
use Rattle.nm_picture_svg.specs.declared.shape.Tone.{Tone}
use Rattle.nm_picture_svg.specs.declared.shape.Tone.TheVariants as tones
use Rattle.nm_picture_svg.specs.declared.shape.Anchor.{Anchor}
use Rattle.nm_picture_svg.specs.declared.shape.Anchor.TheVariants.{Start, Middle, End}
use Rattle.nm_picture_svg.specs.declared.shape.Stroke.{Stroke}
use Rattle.nm_picture_svg.specs.declared.shape.Stroke.TheVariants.{Whole, Dashed}
use Rattle.nm_picture_svg.specs.declared.shape.Fill.{Fill}
use Rattle.nm_picture_svg.specs.declared.shape.Fill.TheVariants.{Solid, Hollow}
use Rattle.nm_picture_svg.specs.declared.shape.Fault.{Fault}
use Rattle.nm_picture_svg.specs.declared.shape.Fault.TheVariants.{Restart, Loss, Break, Timer, Crash, Forgetting}

-- the class of a tone
abbrev pub class_of : Tone → List ℕ
class_of tones.Plain = codes "plain"
class_of tones.Soft = codes "soft"
class_of tones.Title = codes "title"
class_of tones.Heading = codes "heading"
class_of tones.Lane = codes "lane"
class_of tones.Rule = codes "rule"
class_of tones.Ask = codes "ask"
class_of tones.Answer = codes "answer"
class_of tones.Refused = codes "refused"
class_of tones.Entry = codes "entry"
class_of tones.Decided = codes "decided"
class_of tones.Alarm = codes "alarm"
class_of tones.OnAlarm = codes "on-alarm"
class_of tones.Pending = codes "pending"
class_of tones.Changed = codes "changed"
class_of tones.Manager = codes "manager"
class_of tones.FirstOperator = codes "first"
class_of tones.SecondOperator = codes "second"
class_of tones.ThirdOperator = codes "third"
class_of tones.FourthOperator = codes "fourth"
class_of tones.FifthOperator = codes "fifth"

-- the further class of a line
abbrev pub class_of_stroke : Stroke → List ℕ
class_of_stroke Whole = []
class_of_stroke Dashed = codes " dashed"

-- the further class of a rectangle
abbrev pub class_of_fill : Fill → List ℕ
class_of_fill Solid = []
class_of_fill Hollow = codes " hollow"

-- the further class of a text
abbrev pub class_of_anchor : Anchor → List ℕ
class_of_anchor Start = []
class_of_anchor Middle = codes " middle"
class_of_anchor End = codes " end"

-- the outline of a fault's sign, around its center (SVG 1.1 section 8.3): an arrow that goes round, a circle that is struck through, a line in
-- two parts, a clock, a bolt, an empty page
abbrev pub outline_of : Fault → List ℕ
outline_of Restart = codes "M6 -4A7 7 0 1 0 7 2M7 -9V-4H2"
outline_of Loss = codes "M-7 0A7 7 0 1 0 7 0A7 7 0 1 0 -7 0M-5 5L5 -5"
outline_of Break = codes "M-9 0H-3M3 0H9M-1 -7L-4 7M4 -7L1 7"
outline_of Timer = codes "M-7 0A7 7 0 1 0 7 0A7 7 0 1 0 -7 0M0 -4V0L3 2"
outline_of Crash = codes "M2 -9L-5 1H0L-2 9L5 -1H0z"
outline_of Forgetting = codes "M-5 -8H2L6 -4V8H-5zM2 -8V-4H6"

-- the outline of what was lost: two strokes that cross
abbrev pub outline_of_cross : List ℕ
outline_of_cross = codes "M-5 -5L5 5M-5 5L5 -5"

-- the outline of an arrow's tip, by where its line begins and ends
abbrev pub outline_of_tip : Point → Point → List ℕ
outline_of_tip from to = if nat_lt to.x from.x then codes "M8 -4L0 0L8 4z" else codes "M-8 -4L0 0L-8 4z"
