-- A token is a change set's where it names it.
use Rattle.std.proofs.Common.{◌≡◌, ℕ, ◌≤◌, List, Option, Some, None, sym}
use Rattle.nm_base.specs.Token.{token_of}
use Rattle.nm_history.specs.Outcome.{is_token}
use Rattle.nm_chronicle.specs.Phases.{named_by}
use Rattle.nm_chronicle.proofs.Named.{Names, names_at}
use Rattle.nm_slots.specs.Course.{is_named}

told_by : (change : ℕ) (token : Option (List ℕ)) (found : Option ℕ) → Names token found → 1 ≤ change → change ≤ 64 → is_named change found ≡ is_token (token_of change) token
told_by change token None names low high = sym (names change low high)
told_by change token (Some other) names low high = sym (names.its change high)

pub its_token : (change : ℕ) (token : Option (List ℕ)) → 1 ≤ change → change ≤ 64 → is_named change (named_by token) ≡ is_token (token_of change) token
its_token change token low high = told_by change token (named_by token) (names_at token) low high
