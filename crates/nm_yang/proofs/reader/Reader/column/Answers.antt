use Rattle.std.proofs.Common.{◌≡◌, ◌≤◌, ◌*◌, ℕ, take, refl, subst, ◌∙◌, arith, length-take, length-drop}
use Rattle.nm_yang.specs.Page.{Page, column_from, column_of, place_of}
use Rattle.nm_yang.proofs.Texts.{columns_over}
use Rattle.nm_yang.proofs.reader.Reader.column.Goals as goal
use Rattle.nm_yang.proofs.reader.Reader.column.Goals.{then-self-place, else-self-place}

value : (c : goal.After-self-2-1) → c.columns-column.result ≡ column_from 0 (take c.saturating_sub-place.result c.self.inside.text.now)
value c =
    elim c.if-self-place.branch [
      | then-self-place w ↦
          let e = columns_over c.self.inside.text.now c.self.inside.marked c.saturating_sub-place.result c.self.inside.column (omega arith) c.self.invariant.2 in
          c.columns-column.ensures.value ∙ rw w.from-is e
      | else-self-place w ↦
          let e = columns_over c.self.inside.text.now 0 c.saturating_sub-place.result 0 (omega arith) refl in
          c.columns-column.ensures.value ∙ rw w.from-is e
    ]

near : (c : goal.After-self-2-1) → c.columns-column.result ≤ 8 * c.saturating_sub-place.result
near c =
    elim c.if-self-place.branch [
      | then-self-place w ↦
          let h = rw w.from-is at c.columns-column.ensures.near in
          omega (arith, length-take {A = ℕ}, length-drop {A = ℕ})
      | else-self-place w ↦
          let h = rw w.from-is at c.columns-column.ensures.near in
          omega (arith, length-take {A = ℕ}, length-drop {A = ℕ})
    ]

pub invariant_of-self : goal.invariant_of-self
invariant_of-self c = (c.self.invariant.0, omega arith, value c, near c)

pub returns-clause-value : goal.returns-clause-value
unfolding column_of
returns-clause-value c =
    let e = value c in
    let p = c.saturating_sub-place.ensures in
    let v = c.self.view_is in
    subst (λ (page : Page). c.columns-column.result ≡ column_from 0 (take (place_of page c.args.rest.now) page.text)) v (rw (← p) e)
