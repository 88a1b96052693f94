-- How the images of a disk in memory change by a write.
use Rattle.std.proofs.Common.{inl, inr, ℕ, ◌≤◌, true, false, cond, List, ◌∷◌, length, drop, replicate, refl, sym, ◌∙◌, ap, subst, nat_lt}
use Rattle.std.proofs.lemmas.List.{take_at}
use Rattle.nm_disk.specs.Image.{with_piece, IsTorn, ImageStep}
use Rattle.nm_disk.specs.ImageLaws.{torn_same, torn_whole}
use Rattle.nm_disk.specs.Memory.{MemoryState, bytes_after, memory_state, noted, wrote}

-- a write that answered Ok may be torn in a crash
pub wrote_step : (disk : MemoryState) (at : ℕ) (piece : List ℕ) → at ≤ length (bytes_after disk.calls)
    → ImageStep (IsTorn at (length piece)) (memory_state disk) (memory_state (noted disk (wrote at piece)))
wrote_step disk at piece le =
    elim (nat_lt (length disk.calls) disk.room) as (λ room. ImageStep (IsTorn at (length piece)) (memory_state disk) (memory_state (cond room (record disk { calls = wrote at piece ∷ disk.calls }) disk))) [
      | true ↦ step
      | false ↦ λ image now. (image, now, torn_same at (length piece) image)
    ]
  where
    step : ImageStep (IsTorn at (length piece)) (memory_state disk) (memory_state (record disk { calls = wrote at piece ∷ disk.calls }))
    step image (inl reads) =
        let noted_piece = take_at piece (drop (length piece) (replicate 32 0)) (length piece) refl in
        let whole = reads ∙ ap (with_piece (bytes_after disk.calls) at) noted_piece in
        (bytes_after disk.calls, inl refl, subst (IsTorn at (length piece) (bytes_after disk.calls)) (sym whole) (torn_whole (bytes_after disk.calls) at piece le))
    step image (inr torn) = (torn.0, inr torn.1, torn.2)
