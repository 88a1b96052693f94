use Rattle.std.proofs.Common.{◌≡◌, ℕ, ◌<◌, length, slice_index_or}
use Rattle.nm_schema_typing.specs.Listing as spec
use Rattle.nm_schema_typing.proofs.listing.judgements_of.Given as goal

-- the judgements so far
abbrev pub invariant-loop-at : goal.invariant-loop-at
invariant-loop-at l = (length l.judgements.items ≡ l.at) × ((i : ℕ) → i < l.at → slice_index_or l.judgements.items i spec.all_fine ≡ spec.judgement_at l.rows l.typedefs i)
