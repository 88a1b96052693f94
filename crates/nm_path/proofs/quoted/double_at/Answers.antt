use Rattle.std.proofs.Common.{sym, refl, lit<}
use Rattle.std.proofs.lemmas.Str.Pattern.{split_once_first}
use Rattle.nm_path.specs.Reading.{double_at, is_double}
use Rattle.nm_path.proofs.Texts.{any-past, any-within}
use Rattle.nm_path.proofs.quoted.double_at.Goals as goal

pub returns-in-None-clause-read : goal.returns-in-None-clause-read
unfolding double_at
returns-in-None-clause-read c =
    let split = split_once_first 34 c.args.text.now c.split_once.result c.split_once.ensures.cases (lit< tt) in
    let parts = rw c.in-None.is at split in
    rw (any-past is_double c.args.text.now parts) refl

pub returns-in_ok-new-in-Some-clause-read : goal.returns-in_ok-new-in-Some-clause-read
unfolding double_at
returns-in_ok-new-in-Some-clause-read c =
    let split = split_once_first 34 c.args.text.now c.split_once.result c.split_once.ensures.cases (lit< tt) in
    let parts = rw c.in-Some.is at split in
    rw (any-within is_double c.args.text.now parts.0, sym parts.1, sym parts.2) (rw c.in_ok-new-in-Some.ensures refl)
