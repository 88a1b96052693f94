use Rattle.std.proofs.lemmas.Str.{is_utf8-from_IsUtf8}
use Rattle.nm_yang.proofs.Texts.{is_utf8-false}
use Rattle.nm_yang.proofs.word.label_of.Goals as goal

pub returns-in_ok-label-in-Ok : goal.returns-in_ok-label-in-Ok
returns-in_ok-label-in-Ok c =
    let e = is_utf8-from_IsUtf8 c.args.bytes.now c.in-Ok.ensures.cases.1 in
    let f = c.in-Ok.ensures.cases.0 in
    let g = c.in_ok-label-in-Ok.ensures in
    rw e cc

pub returns-in-Err : goal.returns-in-Err
returns-in-Err c =
    let e = is_utf8-false c.args.bytes.now c.in-Err.ensures.cases.0 in
    rw (c.refused.ensures, e) cc
