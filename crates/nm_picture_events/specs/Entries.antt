-- The journal's entries as shapes (this project's own).
use Rattle.std.specs.Prelude.{ℕ, List, [], ◌∷◌, ◌++◌}
use Rattle.nm_proto.specs.declared.journal.Verdict.{Verdict}
use Rattle.nm_proto.specs.declared.journal.Verdict.TheVariants.{Commit, Abort}
use Rattle.nm_picture_svg.specs.declared.shape.Anchor.TheVariants.{Start, Middle}
use Rattle.nm_picture_svg.specs.declared.shape.Shape.{Shape}
use Rattle.nm_picture_svg.specs.declared.shape.Tone.{Tone}
use Rattle.nm_picture_svg.specs.declared.shape.Tone.TheVariants.{Plain, Decided, Refused}
use Rattle.nm_picture_frame.specs.Frame.{right_of, manager_x}
use Rattle.nm_picture_words.specs.Words.{prefix_words, verdict_words, cause_words}
use Rattle.nm_picture_events.specs.Pieces.{entry_box, words_amid}
use Rattle.nm_picture_events.specs.declared.scene.Place.{Place}

-- an entry: a box on the manager's lane, and its words
unfoldable pub entry_shapes : Place → Tone → List ℕ → List Shape
entry_shapes place tone text =
    entry_box (manager_x place.frame) place.y tone ∷ words_amid (manager_x place.frame) place.y Middle Plain (prefix_words place.named ++ text) ∷ []

-- why a change set is aborted, beside the box
abbrev pub why_shapes : Place → Verdict → List Shape
why_shapes place Commit = []
why_shapes place (Abort cause) = words_amid (right_of (manager_x place.frame) 88) place.y Start Refused (cause_words cause) ∷ []

-- a decision
unfoldable pub decided_shapes : Place → Verdict → List Shape
decided_shapes place verdict = entry_shapes place Decided (verdict_words verdict) ++ why_shapes place verdict
