use Rattle.std.proofs.Common.{rules, ◌≡◌, ◌<◌, ◌^◌, ℕ, List, length, Ok, ap, ◌∙◌, sym, arith}
use Rattle.std.specs.Str.{chars}
use Rattle.std.proofs.lemmas.Str.{chars_from_encodes}
use Rattle.nm_types.specs.declared.value.Value.TheVariants.{Text}
use Rattle.nm_types.proofs.Texts.{text_bad, text_out, text_in}
use Rattle.nm_types.proofs.read.read_text.Goals as goal

pub returns-then-not-are_characters : goal.returns-then-not-are_characters
returns-then-not-are_characters c = text_bad _ c.args.text.now c.if-not-are_characters.ensures

pub returns-then-not-meets_range : goal.returns-then-not-meets_range
returns-then-not-meets_range c =
    let n : c.count.result ≡ length (chars c.args.text.now) = search (rules, chars_from_encodes) in
    let small : c.count.result < 2 ^ 64 = omega arith in
    text_out _ c.args.text.now c.if-not-are_characters.ensures c.count.result n small c.if-not-meets_range.ensures

pub returns : goal.returns
returns c =
    let n : c.count.result ≡ length (chars c.args.text.now) = search (rules, chars_from_encodes) in
    let small : c.count.result < 2 ^ 64 = omega arith in
    text_in _ c.args.text.now c.if-not-are_characters.ensures c.count.result n small c.if-not-meets_range.ensures ∙ ap (λ (b : List ℕ). Ok (Text b)) (sym c.in_ok-new.ensures)
