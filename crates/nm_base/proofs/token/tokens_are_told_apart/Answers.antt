use Rattle.nm_base.proofs.Tokens.{token_its_own, token_told}
use Rattle.nm_base.proofs.token.tokens_are_told_apart.Goals as goal

pub returns-clause-its_own : goal.returns-clause-its_own
returns-clause-its_own g c d small_c small_d e = token_its_own c d small_c small_d e

pub returns-clause-told : goal.returns-clause-told
returns-clause-told g c d small_c small_d = token_told c d small_c small_d
