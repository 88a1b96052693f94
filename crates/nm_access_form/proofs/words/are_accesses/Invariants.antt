use Rattle.std.proofs.Common.{◌≡◌, length}
use Rattle.nm_access_form.specs.Words.{are_accesses}
use Rattle.nm_access_form.proofs.words.are_accesses.Given as goal

abbrev pub invariant-words : goal.invariant-words
invariant-words l = are_accesses l.rest ≡ are_accesses l.words

abbrev pub decreases-words : goal.decreases-words
decreases-words l = length l.rest
