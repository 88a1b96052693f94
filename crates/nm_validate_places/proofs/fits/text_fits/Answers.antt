use Rattle.std.proofs.Common.{rules, ◌≡◌, ◌<◌, ◌^◌, length, ap, ◌∙◌, sym, arith}
use Rattle.std.specs.Ordering.{is_eq}
use Rattle.std.specs.Str.{chars}
use Rattle.std.proofs.lemmas.Cmp.{tied_itself}
use Rattle.std.proofs.lemmas.Str.{chars_from_encodes}
use Rattle.nm_types.specs.Canonical.{canonical}
use Rattle.nm_types.specs.ValueLaws.{values_total}
use Rattle.nm_types.specs.declared.value.Value.TheVariants.{Text}
use Rattle.nm_types.proofs.Texts.{text_bad, text_out, text_in}
use Rattle.nm_validate_rules.specs.Violated.{is_read, is_of_type}
use Rattle.nm_validate_places.proofs.fits.text_fits.Goals as goal

pub returns-then-not-are_characters : goal.returns-then-not-are_characters
unfolding is_of_type canonical
returns-then-not-are_characters c =
    let text = c.args.text.now in
    sym (ap (is_read (Text text)) (text_bad c.args.length.now text c.if-not-are_characters.ensures))

pub returns-then-not-meets_range : goal.returns-then-not-meets_range
unfolding is_of_type canonical
returns-then-not-meets_range c =
    let text = c.args.text.now in
    let n : c.count.result ≡ length (chars text) = search (rules, chars_from_encodes) in
    let small : c.count.result < 2 ^ 64 = omega arith in
    sym (ap (is_read (Text text)) (text_out c.args.length.now text c.if-not-are_characters.ensures c.count.result n small c.if-not-meets_range.ensures))

pub returns : goal.returns
unfolding is_of_type canonical
returns c =
    let text = c.args.text.now in
    let n : c.count.result ≡ length (chars text) = search (rules, chars_from_encodes) in
    let small : c.count.result < 2 ^ 64 = omega arith in
    sym (ap (is_read (Text text)) (text_in c.args.length.now text c.if-not-are_characters.ensures c.count.result n small c.if-not-meets_range.ensures) ∙ ap is_eq (tied_itself values_total (Text text)))
