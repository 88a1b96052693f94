use Rattle.std.proofs.Common.{ℕ, List, min, ◌^◌, option_map, ap, ◌∙◌, lit<}
use Rattle.std.proofs.lemmas.Str.Pattern.{split_once_first}
use Rattle.nm_types.specs.Reading.{pointed_of, is_point}
use Rattle.std.specs.List.{before_first}
use Rattle.nm_types.proofs.Decimals.{magnitude_pointed, magnitude_whole}
use Rattle.nm_types.proofs.decimal.magnitude.Goals as goal

pub returns-in-Some : goal.returns-in-Some
returns-in-Some c =
    let split = split_once_first 46 c.args.text.now c.split_once.result c.split_once.ensures.cases (lit< tt) in
    let parts = rw c.in-Some.is at split in
    c.pointed.ensures ∙ ap (option_map (λ m. min m (2 ^ 64)))
    (ap (λ (w : List ℕ). pointed_of c.args.digits w c.in-Some.part.now) parts.1
    ∙ ap (pointed_of c.args.digits (before_first is_point c.args.text.now)) parts.2
    ∙ magnitude_pointed c.args.digits c.args.text.now parts.0)

pub returns-in-None : goal.returns-in-None
returns-in-None c =
    let split = split_once_first 46 c.args.text.now c.split_once.result c.split_once.ensures.cases (lit< tt) in
    let whole = rw c.in-None.is at split in
    c.whole_alone.ensures ∙ ap (option_map (λ m. min m (2 ^ 64))) (magnitude_whole c.args.digits c.args.text.now whole)
