-- What a disk's calls do to its bytes, and what a crash may leave of them (this project's own model of a disk).
use Rattle.std.specs.Prelude.{◌≡◌, ◌⊎◌, ◌≤◌, ◌+◌, ℕ, max, List, ◌++◌, length, take, drop, Option, Some, None}

-- a disk, as its callers know it
pub record DiskState : Type 1 where
  -- the bytes that a read gives, where the disk tells them
  pub contents : Option (List ℕ)
  -- how many faults there were. A count that stands at 2^64 - 1 stays there
  pub faults : ℕ
  -- what a crash now may leave
  pub crash_images : List ℕ → Type 0
  -- the clock: a moment, as a number that never falls
  pub moment : ℕ
  -- what a crash at some moment from the given one on might have left, during a call or between two
  pub images_since : ℕ → List ℕ → Type 0

-- the bytes with a piece written over them at a place, and past their end where it reaches so far
abbrev pub with_piece : List ℕ → ℕ → List ℕ → List ℕ
with_piece bytes at piece = take at bytes ++ piece ++ drop (at + length piece) bytes

-- the same of the bytes that a disk tells
abbrev pub contents_with_piece : Option (List ℕ) → ℕ → List ℕ → Option (List ℕ)
contents_with_piece None at piece = None
contents_with_piece (Some bytes) at piece = Some (with_piece bytes at piece)

-- the same of a cut to a length
abbrev pub contents_cut : Option (List ℕ) → ℕ → Option (List ℕ)
contents_cut None to = None
contents_cut (Some bytes) to = Some (take to bytes)

-- a write of n bytes that no sync came after, or that failed: its range holds any bytes, as much of it as lies
-- past the old end may be missing from its end on, and the other bytes stay
pub record IsTorn (at n : ℕ) (before after : List ℕ) : Type 0 where
  pub front : take at after ≡ take at before
  pub back : drop (at + n) after ≡ drop (at + n) before
  pub no_shorter : length before ≤ length after
  pub no_longer : length after ≤ max (length before) (at + n)

-- a cut that answered Ok: what it took away is gone for good
abbrev pub IsCut : ℕ → List ℕ → List ℕ → Type 0
IsCut to before after = after ≡ take to before

-- a cut that failed, or in which a crash fell: it is done or not done
abbrev pub IsPerhapsCut : ℕ → List ℕ → List ℕ → Type 0
IsPerhapsCut to before after = (after ≡ before) ⊎ (after ≡ take to before)

-- the bytes told after a call are a step from those told before, and a disk that doesn't tell them goes on so
abbrev pub ContentsStep : (List ℕ → List ℕ → Type 0) → Option (List ℕ) → Option (List ℕ) → Type 0
ContentsStep step None None = Unit {0}
ContentsStep step (Some before) (Some after) = step before after
ContentsStep step None (Some after) = ⊥
ContentsStep step (Some before) None = ⊥

-- each image that a crash may leave now is a step from one that it might have left before
abbrev pub ImageStep : (List ℕ → List ℕ → Type 0) → DiskState → DiskState → Type 0
ImageStep step before now = (image : List ℕ) → now.crash_images image → (old : List ℕ) × before.crash_images old × step old image

-- a crash now leaves no image that it couldn't have left before
abbrev pub NoNewImage : DiskState → DiskState → Type 0
NoNewImage before now = (image : List ℕ) → now.crash_images image → before.crash_images image

-- a crash leaves these bytes and no others
abbrev pub LeavesOnly : List ℕ → DiskState → Type 0
LeavesOnly bytes disk = (image : List ℕ) → disk.crash_images image → image ≡ bytes

-- the clock goes on from one moment to a later one: a crash since an earlier moment might have left what it might
-- have left by then, and what it may leave now, and nothing else
pub record GoesOn (before now : DiskState) : Type 0 where
  pub later : before.moment ≤ now.moment
  pub nothing_else : (since : ℕ) (image : List ℕ) → since ≤ before.moment → now.images_since since image
      → before.images_since since image ⊎ now.crash_images image
  pub keeps : (since : ℕ) (image : List ℕ) → since ≤ before.moment → before.images_since since image → now.images_since since image

-- a crash at any moment from the disk's old state to its new one leaves an image of which P holds
pub record AnyMoment (old new : DiskState) (P : List ℕ → Type 0) : Type 0 where
  pub later : old.moment ≤ new.moment
  pub each : (image : List ℕ) → new.images_since old.moment image → P image
  -- for a run of calls that began at an earlier moment
  pub before : (start : ℕ) (image : List ℕ) → start ≤ old.moment → new.images_since start image → old.images_since start image ⊎ P image
