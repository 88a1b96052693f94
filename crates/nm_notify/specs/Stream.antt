-- A stream of notices with its subscribers (this project's own, over RFC 6470): what is left for each. The code keeps each notice
-- once, and for each subscriber how far it has come.
use Rattle.std.specs.Prelude.{ℕ, ◌+◌, ◌-◌, ◌^◌, ◌==◌, nat_le, List, [], ◌∷◌, ◌++◌, length, map, filter, Bool, not, ◌||◌, Option, Some, None, option_to_list, if◌then◌else◌}
use Rattle.std.specs.List.{list_any}
use Rattle.nm_history.specs.declared.event.Noted.{Noted}
use Rattle.nm_notify.specs.declared.notice.Notice.{Notice}
use Rattle.nm_notify.specs.Notices.{noticed}

-- how many entries were observed, the last number that a subscriber got, 0 before the first, and what is left for each subscriber
-- by its number, in the order in which they came
pub record StreamState : Type 0 where
  pub entries : ℕ
  pub last : ℕ
  pub left : List (ℕ × List Notice)

-- nothing was observed, and nobody has subscribed
abbrev pub fresh_stream : StreamState
fresh_stream = record { entries = 0; last = 0; left = [] }

-- how many may be subscribed at once (this project's own)
abbrev pub subscriber_limit : ℕ
subscriber_limit = 16

-- the greatest number of a subscriber: numbers have 32 bits (this project's own)
abbrev pub greatest_number : ℕ
greatest_number = 2 ^ 32 - 1

-- ---- what is told

-- one subscriber gets a notice too, where there is one
abbrev pub with_notice : Option Notice → ℕ × List Notice → ℕ × List Notice
with_notice notice one = (one.0, one.1 ++ option_to_list notice)

-- the device's next entry comes, where a commit was pending before it or wasn't, and is pending after it or isn't: each subscriber
-- gets what it tells
abbrev pub observed : StreamState → Bool → Bool → Noted → StreamState
observed s was now entry = record s { entries = s.entries + 1; left = map (with_notice (noticed (s.entries + 1) entry was now)) s.left }

-- ---- who subscribes

-- the number after the last. None where as many are subscribed as may be, or the greatest number was given
abbrev pub number_after : ℕ → ℕ → Option ℕ
number_after count last = if nat_le subscriber_limit count || last == greatest_number then None else Some (last + 1)

-- the number of the next subscriber
abbrev pub next_number : StreamState → Option ℕ
next_number s = number_after (length s.left) s.last

-- one subscribes: nothing is left for it yet
abbrev pub subscribed : StreamState → StreamState
subscribed s = record s { last = s.last + 1; left = s.left ++ (s.last + 1, []) ∷ [] }

-- the subscriber has this number
abbrev pub is_of : ℕ → ℕ × List Notice → Bool
is_of number one = one.0 == number

-- somebody is subscribed under this number
abbrev pub is_subscribed : StreamState → ℕ → Bool
is_subscribed s number = list_any (is_of number) s.left

-- nobody is subscribed under this number any more
abbrev pub unsubscribed : StreamState → ℕ → StreamState
unsubscribed s number = record s { left = filter (λ one. not (is_of number one)) s.left }

-- ---- who takes

-- what is left for the subscriber of a number, None where there is none
abbrev pub left_for : List (ℕ × List Notice) → ℕ → Option (List Notice)
left_for [] number = None
left_for (one ∷ others) number = if is_of number one then Some one.1 else left_for others number

-- the oldest of what is left
abbrev pub oldest : List Notice → Option Notice
oldest [] = None
oldest (notice ∷ notices) = Some notice

-- what is left but for the oldest
abbrev pub without_oldest : List Notice → List Notice
without_oldest [] = []
without_oldest (notice ∷ notices) = notices

-- what the subscriber of a number takes: None exactly where there is none, or it has taken all that was told since it subscribed
abbrev pub taken_from : Option (List Notice) → Option Notice
taken_from None = None
taken_from (Some left) = oldest left

-- what is left once it took that
abbrev pub left_after : List (ℕ × List Notice) → ℕ → List (ℕ × List Notice)
left_after [] number = []
left_after (one ∷ others) number = if is_of number one then (one.0, without_oldest one.1) ∷ others else one ∷ left_after others number

-- the stream after that
abbrev pub after_taking : StreamState → ℕ → StreamState
after_taking s number = record s { left = left_after s.left number }
