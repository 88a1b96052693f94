use Rattle.std.proofs.Common.{◌≡◌, List, [], ◌∷◌, length, Err, refl, arith}
use Rattle.serde_json.specs.View.{items_view}
use Rattle.serde_json.specs.Data.{array}
use Rattle.serde_json.specs.declared.value.Value.{Value}
use Rattle.nm_json.specs.declared.fault.JsonKind.TheVariants.{BadValue}
use Rattle.nm_json.specs.Values.{empty_value}
use Rattle.nm_json.proofs.leafs.only_null.Goals as goal

others : (vs : List Value) → (length vs ≡ 1 → ⊥) → empty_value (array (items_view vs)) ≡ Err BadValue
others [] e = refl
others (v ∷ []) e = absurd (e (omega arith))
others (v ∷ w ∷ vs) e = refl

pub returns-then-items-ne1 : goal.returns-then-items-ne1
returns-then-items-ne1 c = others c.args.items.now c.if-items-ne1.true
