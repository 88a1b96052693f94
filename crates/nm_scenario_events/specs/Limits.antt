-- How many of everything a scenario may have (this project's own).
use Rattle.std.specs.Prelude.{ℕ}

-- the greatest number of a device
abbrev pub device_limit : ℕ
device_limit = 32

-- the greatest number of a change set
abbrev pub change_limit : ℕ
change_limit = 64

-- the greatest number of an operator
abbrev pub operator_limit : ℕ
operator_limit = 16

-- elementary events
abbrev pub event_limit : ℕ
event_limit = 100000

-- the turns of one round
abbrev pub turn_limit : ℕ
turn_limit = 1000

-- the texts of one selection
abbrev pub select_limit : ℕ
select_limit = 64

-- the bytes of a token
abbrev pub token_limit : ℕ
token_limit = 64
