-- How a run of disk calls goes on: what holds of the images of each call holds of those of the run.
use Rattle.std.proofs.Common.{inl, inr, ⊎_elim, ℕ, ◌≤◌, List, arith}
use Rattle.nm_disk.specs.Image.{DiskState, GoesOn, AnyMoment}

-- one call
pub one_call : (old new : DiskState) (P : List ℕ → Type 0) → ((image : List ℕ) → old.images_since old.moment image → old.crash_images image)
    → GoesOn old new → ((image : List ℕ) → old.crash_images image → P image) → ((image : List ℕ) → new.crash_images image → P image) → AnyMoment old new P
one_call old new P only time was is = record {
  later = time.later;
  each = λ image left. ⊎_elim (λ had. was image (only image had)) (is image) (time.nothing_else old.moment image (omega arith) left);
  before = λ start image le left. ⊎_elim (λ had. inl had) (λ now. inr (is image now)) (time.nothing_else start image le left);
}

-- one run after another
pub and_then : (old mid new : DiskState) (P : List ℕ → Type 0) → AnyMoment old mid P → AnyMoment mid new P → AnyMoment old new P
and_then old mid new P first second = record {
  later = omega (arith, first.later, second.later);
  each = λ image left. ⊎_elim (first.each image) (λ now. now) (second.before old.moment image first.later left);
  before = λ start image le left. ⊎_elim (first.before start image le) (λ now. inr now) (second.before start image (omega (arith, first.later)) left);
}

-- what holds of each image, and so what follows from it
pub weaker : (old new : DiskState) (P Q : List ℕ → Type 0) → ((image : List ℕ) → P image → Q image) → AnyMoment old new P → AnyMoment old new Q
weaker old new P Q f run = record {
  later = run.later;
  each = λ image left. f image (run.each image left);
  before = λ start image le left. ⊎_elim (λ had. inl had) (λ now. inr (f image now)) (run.before start image le left);
}

-- what holds at any moment holds now
pub holds_now : (old new : DiskState) (P : List ℕ → Type 0) → ((since : ℕ) (image : List ℕ) → since ≤ new.moment
    → new.crash_images image → new.images_since since image)
    → AnyMoment old new P → (image : List ℕ) → new.crash_images image → P image
holds_now old new P counts run image now = run.each image (counts old.moment image run.later now)
