use Rattle.nm_io.proofs.Bytes.{ReadsFront-more}
use Rattle.nm_io.proofs.reading.fill.Goals as goal

pub returns-then-limit-len-clause-front : goal.returns-then-limit-len-clause-front
returns-then-limit-len-clause-front g c = ReadsFront-more _ _ _ _ _ c.loop-bytes.invariant.read c.in-Ok.ensures.given
