-- What goes wrong, as shapes (this project's own).
use Rattle.std.specs.Prelude.{ℕ, List, [], ◌∷◌, ◌++◌, codes}
use Rattle.nm_proto.specs.declared.plan.Event.{Event}
use Rattle.nm_proto.specs.declared.plan.Event.TheVariants as event
use Rattle.nm_picture_svg.specs.declared.shape.Anchor.TheVariants.{Start, End}
use Rattle.nm_picture_svg.specs.declared.shape.Fault.{Fault}
use Rattle.nm_picture_svg.specs.declared.shape.Fault.TheVariants.{Restart, Loss, Break, Timer, Crash, Forgetting}
use Rattle.nm_picture_svg.specs.declared.shape.Shape.{Shape}
use Rattle.nm_picture_svg.specs.declared.shape.Stroke.TheVariants.{Whole}
use Rattle.nm_picture_svg.specs.declared.shape.Tip.TheVariants.{Bare}
use Rattle.nm_picture_svg.specs.declared.shape.Tone.TheVariants.{Refused}
use Rattle.nm_picture_frame.specs.Frame.{left_of, right_of, manager_x}
use Rattle.nm_picture_words.specs.Words.{prefix_words, broken_words, left_words, passed_words, forgot_words}
use Rattle.nm_picture_events.specs.Pieces.{level, sign, words_amid}
use Rattle.nm_picture_events.specs.declared.scene.Place.{Place}

-- at the lane of a device: the words end at the lane
abbrev pub at_device : ℕ → ℕ → Fault → List ℕ → List Shape
at_device lane y fault words = sign lane y fault ∷ words_amid (left_of lane 14) y End Refused words ∷ []

-- at the manager's lane
abbrev pub at_manager : Place → Fault → List ℕ → List Shape
at_manager place fault words =
    sign (manager_x place.frame) place.y fault ∷ words_amid (right_of (manager_x place.frame) 16) place.y Start Refused words ∷ []

-- a break in the manager's lane: two lines across it
abbrev pub gap_shapes : Place → List Shape
gap_shapes place =
    level (left_of (manager_x place.frame) 14) (right_of (manager_x place.frame) 14) (left_of place.y 10) Bare Whole Refused
    ∷ level (left_of (manager_x place.frame) 14) (right_of (manager_x place.frame) 14) (right_of place.y 10) Bare Whole Refused ∷ []

-- which link broke
abbrev pub link_words : Event → List ℕ
link_words (event.Break change device) = broken_words device
link_words _ = codes "link broken"

-- the manager's side of a link ended
unfoldable pub broken_shapes : Place → Event → List Shape
broken_shapes place what = at_manager place Break (prefix_words place.named ++ link_words what)

-- the device's side of a link ended
unfoldable pub lost_shapes : Place → ℕ → List Shape
lost_shapes place lane = at_device lane place.y Loss (prefix_words place.named ++ codes "session lost")

-- whose session was lost
abbrev pub leaving_words : Event → List ℕ
leaving_words (event.Leave operator device) = left_words operator
leaving_words _ = codes "session lost"

-- an operator's session was lost
unfoldable pub left_shapes : Place → ℕ → Event → List Shape
left_shapes place lane what = at_device lane place.y Loss (leaving_words what)

-- how far a clock rose
abbrev pub time_words : Event → List ℕ
time_words (event.Advance device seconds) = passed_words seconds
time_words _ = codes "time passes"

-- the clock of a device rose
unfoldable pub now_shapes : Place → ℕ → Event → List Shape
now_shapes place lane what = at_device lane place.y Timer (time_words what)

-- a device restarted
unfoldable pub restarted_shapes : Place → ℕ → List Shape
restarted_shapes place lane = at_device lane place.y Restart (codes "restart")

-- what was forgotten
abbrev pub forgotten_words : Event → List ℕ
forgotten_words (event.Forget change) = forgot_words change
forgotten_words _ = codes "forgotten"

-- what the manager knew of a change set was lost
unfoldable pub forgot_shapes : Place → Event → List Shape
forgot_shapes place what = gap_shapes place ++ at_manager place Forgetting (forgotten_words what)

-- the words of a crash
unfoldable pub crash_words : List ℕ
crash_words = codes "crash: it goes on from its journal"

-- all that the manager knew was lost
unfoldable pub crashed_shapes : Place → List Shape
crashed_shapes place = gap_shapes place ++ at_manager place Crash crash_words
