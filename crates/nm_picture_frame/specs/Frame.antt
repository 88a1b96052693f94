-- Where the lanes and lines of a picture stand, in pixels (this project's own).
use Rattle.std.specs.Prelude.{ℕ, ◌+◌, ◌-◌, ◌*◌, min, max, nat_le, Option, Some, None, if◌then◌else◌}
use Rattle.nm_picture_frame.specs.declared.frame.Frame.{Frame}

-- so many pixels to the right, or below, as far as 32 bits go
abbrev pub right_of : ℕ → ℕ → ℕ
right_of place by = min (place + by) 4294967295

-- so many pixels to the left, or above
abbrev pub left_of : ℕ → ℕ → ℕ
left_of place by = place - by

-- so many steps
abbrev pub steps : ℕ → ℕ → ℕ
steps step count = min (step * count) 4294967295

-- the lane of an operator
abbrev pub operator_x : ℕ → ℕ
operator_x operator = right_of 48 (steps 60 (operator - 1))

-- the manager's lane is behind those of the operators
abbrev pub manager_x : Frame → ℕ
manager_x frame = right_of 96 (steps 60 frame.operators)

-- the lane of a device is behind the manager's
abbrev pub device_x : Frame → ℕ → ℕ
device_x frame device = right_of (right_of (manager_x frame) 250) (steps 124 (device - 1))

-- how many lines stand before a line
abbrev pub lines_before : Option ℕ → ℕ → ℕ
lines_before None line = line
lines_before (Some rest) line = if nat_le rest line then right_of line 1 else line

-- the middle of a line
unfoldable pub line_y : Frame → ℕ → ℕ
line_y frame line = right_of (right_of frame.top (steps 24 (lines_before frame.rest line))) 12

-- the middle of the words that stand above the line of a run's rest
abbrev pub rest_of : Frame → Option ℕ → Option ℕ
rest_of frame None = None
rest_of frame (Some rest) = Some (left_of (line_y frame rest) 24)

-- the same of a frame
abbrev pub rest_y : Frame → Option ℕ
rest_y frame = rest_of frame frame.rest

-- where the lanes end
abbrev pub bottom : Frame → ℕ → ℕ
bottom frame lines = right_of (line_y frame lines) 12

-- the width
abbrev pub width : Frame → ℕ
width frame = max 760 (right_of (device_x frame frame.devices) 114)
