use Rattle.std.proofs.Common.{lit<}
use Rattle.nm_json.specs.Findings.{has_colon, is_colon}
use Rattle.nm_json.proofs.Colons.{any-past, any-within}
use Rattle.nm_json.proofs.names.parts.Goals as goal

pub returns-in-None : goal.returns-in-None
unfolding has_colon
returns-in-None c = any-past is_colon c.args.name.now (c.in-None.ensures.byte (lit< tt) (λ w o h. h))

pub returns-in-Some : goal.returns-in-Some
unfolding has_colon
returns-in-Some c =
    let h = c.in-Some.ensures.byte (lit< tt) (λ w o h. h) in
    (any-within is_colon c.args.name.now h.2, h.0, h.1)
