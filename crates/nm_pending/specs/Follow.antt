-- What follow-ups of a confirmed commit add up to (RFC 6241 section 8.4.1). The code changes one pending commit at
-- each; these look at all of them.
use Rattle.std.specs.Prelude.{◌≡◌, ℕ, ◌==◌, List, [], ◌∷◌, ◌||◌, Option, Some, None}
use Rattle.std.specs.List.{list_any}
use Rattle.nm_pending.specs.Pending.{PendingState, followed, is_author}

-- a confirmed commit that follows another up: its session, the token that it gives, and the deadline that it sets
pub record FollowUp : Type 0 where
  pub session : ℕ
  pub persist : Option (List ℕ)
  pub deadline : ℕ

-- the first that there is
abbrev pub either : Option (List ℕ) → Option (List ℕ) → Option (List ℕ)
either (Some token) other = Some token
either None other = other

-- the token that the last of the follow-ups gives that gives one
abbrev pub last_token : List FollowUp → Option (List ℕ)
last_token [] = None
last_token (up ∷ ups) = either (last_token ups) up.persist

-- the deadline that the last one sets, and this one where there is none
abbrev pub last_deadline : ℕ → List FollowUp → ℕ
last_deadline deadline [] = deadline
last_deadline deadline (up ∷ ups) = last_deadline up.deadline ups

module _ {Before : Type 0} where
  -- what is pending after follow-ups, one after another
  abbrev pub followed_all : PendingState Before → List FollowUp → PendingState Before
  followed_all pending [] = pending
  followed_all pending (up ∷ ups) = followed_all (followed pending up.session up.persist up.deadline) ups

  -- what all of them leave of a pending commit, and what they make of it
  pub record AddsUp (pending : PendingState Before) (ups : List FollowUp) (after : PendingState Before) : Type 0 where
    -- what was before it, and who began it, stay as they were
    pub before : after.before ≡ pending.before
    pub issuer : after.issuer ≡ pending.issuer
    -- whoever committed is an author, and nobody else
    pub authors : (session : ℕ) → is_author after session ≡ (is_author pending session || list_any (λ up. up.session == session) ups)
    pub token : after.token ≡ either (last_token ups) pending.token
    pub deadline : after.deadline ≡ last_deadline pending.deadline ups
