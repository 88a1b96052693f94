use Rattle.std.proofs.Common.{◌≡◌, List, [], ◌∷◌, length, None, String, rules, refl, sym, ap, ◌∙◌, arith}
use Rattle.std.specs.declared.alloc.Global.{Global}
use Rattle.serde_json.specs.View.{members_view}
use Rattle.serde_json.specs.Find.{get_member}
use Rattle.serde_json.specs.declared.value.Value.{Value}
use Rattle.nm_edit_json.specs.Annotations.{operation_among, operation_at, operation_name}
use Rattle.nm_edit_json.proofs.said.operation_in_members.Goals as goal

others : (es : List (String Global × Value)) → (length es ≡ 1 → ⊥) → operation_among (members_view es) ≡ None
others [] e = refl
others (v ∷ []) e = absurd (e (omega arith))
others (v ∷ w ∷ es) e = refl

only : (es : List (String Global × Value)) → length es ≡ 1 → operation_at (get_member operation_name (members_view es)) ≡ operation_among (members_view es)
only [] e = absurd (let k : 0 ≡ 1 = e in omega (arith, k))
only (v ∷ []) e = refl
only (v ∷ w ∷ es) e = absurd (omega (arith, e))

pub returns-then-len-ne1 : goal.returns-then-len-ne1
returns-then-len-ne1 c =
    let held : c.len.result ≡ length c.args.members.now.entries = search rules in
    sym (others c.args.members.now.entries (λ one. c.if-len-ne1.true (held ∙ one)))

pub returns : goal.returns
returns c =
    let held : c.len.result ≡ length c.args.members.now.entries = search rules in
    c.operation_at.ensures ∙ ap operation_at c.member.ensures ∙ only c.args.members.now.entries (sym held ∙ c.if-len-ne1.false)
