-- Requests and replies as shapes (this project's own).
use Rattle.std.specs.Prelude.{ℕ, ◌*◌, max, List, [], ◌∷◌, ◌++◌, length, nat_lt, Bool, true, false, Option, Some, None, codes, if◌then◌else◌}
use Rattle.nm_proto.specs.declared.message.Reply.{Reply}
use Rattle.nm_proto.specs.declared.message.Reply.TheVariants.{Error}
use Rattle.nm_proto.specs.declared.message.Request.{Request}
use Rattle.nm_picture_svg.specs.declared.shape.Anchor.TheVariants.{Start}
use Rattle.nm_picture_svg.specs.declared.shape.Shape.{Shape}
use Rattle.nm_picture_svg.specs.declared.shape.Shape.TheVariants as shape
use Rattle.nm_picture_svg.specs.declared.shape.Stroke.TheVariants.{Whole, Dashed}
use Rattle.nm_picture_svg.specs.declared.shape.Tip.TheVariants.{Bare, Arrow}
use Rattle.nm_picture_svg.specs.declared.shape.Tone.{Tone}
use Rattle.nm_picture_svg.specs.declared.shape.Tone.TheVariants.{Ask, Answer, Refused, Soft}
use Rattle.nm_picture_frame.specs.Frame.{left_of, right_of, manager_x, device_x}
use Rattle.nm_picture_words.specs.Words.{prefix_words, request_words, reply_words}
use Rattle.nm_picture_events.specs.Pieces.{point, level, cross, words_above, words_amid}
use Rattle.nm_picture_events.specs.declared.fate.Fate.{Fate}
use Rattle.nm_picture_events.specs.declared.fate.Fate.TheVariants.{Arrives, IsLost, Waits}
use Rattle.nm_picture_events.specs.declared.messages.Way.{Way}
use Rattle.nm_picture_events.specs.declared.scene.Place.{Place}

-- a message: an arrow where it arrives, dashed and short of it where it waits to the end, and ended by a cross where it is lost
abbrev pub way_shapes : Way → Fate → List Shape
way_shapes way Arrives = level way.from way.to way.y Arrow Whole way.tone ∷ []
way_shapes way Waits = level way.from way.short way.y Bare Dashed way.tone ∷ []
way_shapes way IsLost = level way.from way.short way.y Bare Whole way.tone ∷ cross way.short way.y ∷ []

-- a device refused what was asked
abbrev pub is_refusal : Reply → Bool
is_refusal (Error tag session path) = true
is_refusal _ = false

-- the tone of a reply: a refusal stands out
abbrev pub answer_tone : Reply → Tone
answer_tone reply = if is_refusal reply then Refused else Answer

-- the way of a request, from the manager's lane to the device's
abbrev pub request_way : Place → ℕ → Way
request_way place device = record {
  from = manager_x place.frame;
  to = left_of (device_x place.frame device) 8;
  short = left_of (device_x place.frame device) 48;
  y = right_of place.y 5;
  tone = Ask;
}

-- a request of the manager
unfoldable pub sent_shapes : Place → ℕ → Request → Fate → List Shape
sent_shapes place device request fate =
    way_shapes (request_way place device) fate
    ++ words_above (right_of (manager_x place.frame) 10) place.y Ask (prefix_words place.named ++ request_words request) ∷ []

-- the way of a reply, from the device's lane to the manager's
abbrev pub reply_way : Place → ℕ → Tone → Way
reply_way place lane tone = record {
  from = left_of lane 8;
  to = manager_x place.frame;
  short = right_of (manager_x place.frame) 40;
  y = right_of place.y 5;
  tone = tone;
}

-- a reply to the manager
unfoldable pub told_shapes : Place → ℕ → Reply → Fate → List Shape
told_shapes place lane reply fate =
    way_shapes (reply_way place lane (answer_tone reply)) fate
    ++ words_above (right_of (manager_x place.frame) 10) place.y (answer_tone reply) (prefix_words place.named ++ reply_words reply) ∷ []

-- the manager handled a reply
unfoldable pub handled_shapes : Place → List Shape
handled_shapes place =
    shape.Dot (point (manager_x place.frame) place.y) Answer
    ∷ words_amid (right_of (manager_x place.frame) 10) place.y Start Soft (prefix_words place.named ++ codes "handled") ∷ []

-- how wide words are at most: 7 pixels a letter
abbrev pub width_of : List ℕ → ℕ
width_of words = if nat_lt (length words) 1000 then length words * 7 else 7000

-- where the words of a reply to an operator begin: they end at the device's lane, and stand behind those of the request
unfoldable pub behind_request : ℕ → ℕ → List ℕ → List ℕ → ℕ
behind_request operator lane request reply = max (left_of (left_of lane 12) (width_of reply)) (right_of (right_of operator 22) (width_of request))

-- the two arrows of a request of an operator and its reply
abbrev pub there_and_back : ℕ → ℕ → ℕ → Tone → List Shape
there_and_back y operator lane tone =
    level operator (left_of lane 8) (right_of y 3) Arrow Whole Ask ∷ level (left_of lane 8) operator (right_of y 8) Arrow Whole tone ∷ []

-- a request of an operator, with the reply
unfoldable pub asked_shapes : Place → ℕ → ℕ → Request → Reply → List Shape
asked_shapes place operator lane request reply =
    there_and_back place.y operator lane (answer_tone reply)
    ++ words_above (right_of operator 8) place.y Ask (request_words request)
    ∷ words_above (behind_request operator lane (request_words request) (reply_words reply)) place.y (answer_tone reply) (reply_words reply) ∷ []
