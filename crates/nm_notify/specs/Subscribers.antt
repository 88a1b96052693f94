-- What is left for subscribers, by how far each has come with notices of which so many are gone (this project's own).
use Rattle.std.specs.Prelude.{ℕ, ◌+◌, ◌-◌, ◌≤◌, ◌==◌, nat_lt, List, [], ◌∷◌, drop, Bool, Option, Some, None, if◌then◌else◌}
use Rattle.nm_notify.specs.declared.notice.Notice.{Notice}
use Rattle.nm_notify.specs.declared.subscriber.Subscriber.{Subscriber}

-- the subscriber has this number
abbrev pub is_numbered : ℕ → Subscriber → Bool
is_numbered number s = s.number == number

-- something is left for the subscriber of the notices before this place
abbrev pub is_before : ℕ → Subscriber → Bool
is_before end s = nat_lt s.place end

-- what is left for each subscriber
abbrev pub left_of : ℕ → List Notice → List Subscriber → List (ℕ × List Notice)
left_of gone notices [] = []
left_of gone notices (s ∷ ss) = (s.number, drop (s.place - gone) notices) ∷ left_of gone notices ss

-- a place that is before the end
abbrev pub place_before : ℕ → ℕ → Option ℕ
place_before end place = if nat_lt place end then Some place else None

-- the place of what the subscriber of a number gets next
abbrev pub place_of : ℕ → ℕ → List Subscriber → Option ℕ
place_of number end [] = None
place_of number end (s ∷ ss) = if is_numbered number s then place_before end s.place else place_of number end ss

-- a subscriber that has got what is left next, where anything is
abbrev pub one_on : ℕ → Subscriber → Subscriber
one_on end s = if nat_lt s.place end then record s { place = s.place + 1 } else s

-- the same of the subscriber of a number
abbrev pub gone_on : ℕ → ℕ → List Subscriber → List Subscriber
gone_on number end [] = []
gone_on number end (s ∷ ss) = if is_numbered number s then one_on end s ∷ ss else s ∷ gone_on number end ss

-- the subscriber has all that is gone and nothing that isn't there, and a number that was given
pub record IsSubscriber (last gone end : ℕ) (s : Subscriber) : Type 0 where
  pub low : gone ≤ s.place
  pub high : s.place ≤ end
  pub given : s.number ≤ last
