use Rattle.std.proofs.Common.{◌≡◌, ◌++◌, List, ℕ, IfOk, ap, sym, ◌∙◌, subst, lit<}
use Rattle.std.specs.String.{string_bytes}
use Rattle.std.specs.Prelude.{unsigned_abs}
use Rattle.std.specs.Int.{w64}
use Rattle.std.proofs.lemmas.Int.{to_z-of_z}
use Rattle.nm_types.specs.Canonical.{minus}
use Rattle.nm_types.proofs.Writing.{decimal_pieces}
use Rattle.nm_types.proofs.write.write_decimal.Goals as goal

pub returns : goal.returns
returns c =
    let z = to_z-of_z w64 c.args.scaled c.ranges.scaled in
    let text = decimal_pieces c.args.scaled c.args.digits c.unsigned_abs.result c.from.result c.len.result c.deref.result.now c.split_at.result.0.now c.split_at.result.1.now c.sign.result.now _ _ _ c.part_digits.result.now
    (c.unsigned_abs.ensures.value ∙ ap unsigned_abs z) (c.deref.ensures.value ∙ c.in_ok-all.ensures.value) c.from.ensures (c.len.ensures ∙ sym c.deref.ensures.len) c.split_at.ensures.front c.split_at.ensures.back
    (c.sign.ensures ∙ ap minus z) (c.in_ok-push_digits.ensures ∙ ap (λ (l : List ℕ). l ++ c.split_at.result.0.now) c.in_ok-text.ensures.ok) (c.in_ok-push.ensures.bytes ∙ ap (λ (l : List ℕ). string_bytes c.push_digits.new.text ++ l) (c.in_ok-push.ensures.ascii (lit< tt))) c.part_digits.ensures.value c.in_ok-push_digits-2.ensures in
    subst (λ (t : List ℕ). IfOk c.new.result (λ label. label ≡ t)) (c.as_str.ensures.value ∙ text) c.new.ensures
