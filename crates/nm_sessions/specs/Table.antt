-- How the sessions lie in a slab. No public clause cites this module.
use Rattle.std.specs.Prelude.{◌≡◌, ℕ, ◌≤◌, List, [], ◌∷◌, length, count_by, is_some, Option, Some, None, slice_index_or}
use Rattle.std.specs.Ordering.{nat_cmp}
use Rattle.std.specs.FinMap.Entries.{put}
use Rattle.nm_sessions.specs.Sessions.{session_limit}

-- the sessions of the slots, in ascending order of their ids
unfoldable pub users_in : List (Option (ℕ × List ℕ)) → List (ℕ × List ℕ)
users_in [] = []
users_in (None ∷ slots) = users_in slots
users_in (Some session ∷ slots) = put nat_cmp session.0 session.1 (users_in slots)

-- no two slots hold one id
abbrev pub AreDistinct : List (Option (ℕ × List ℕ)) → Type 0
AreDistinct slots = (j k : ℕ) (a b : ℕ × List ℕ) → slice_index_or slots j None ≡ Some a → slice_index_or slots k None ≡ Some b → a.0 ≡ b.0 → j ≡ k

-- the slots hold open sessions of a device whose last id given is this one
pub record IsSound (slots : List (Option (ℕ × List ℕ))) (last : ℕ) : Type 0 where
  pub distinct : AreDistinct slots
  pub in_range : (key : ℕ) (session : ℕ × List ℕ) → slice_index_or slots key None ≡ Some session → (1 ≤ session.0) × (session.0 ≤ last)
  pub counted : length (users_in slots) ≡ count_by is_some slots
  pub few : count_by is_some slots ≤ session_limit
