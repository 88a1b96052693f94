use Rattle.std.proofs.Common.{rules, ◌≡◌, ℕ, ℤ, List, [], ◌∷◌, ◌++◌, Some, cond, nat_cmp, int_cmp, FitsSigned, to_z, of_z, ap, sym, ◌∙◌}
use Rattle.std.specs.Int.{w64}
use Rattle.std.specs.BTreeMap.{get, is_at}
use Rattle.std.specs.Cmp.Lexicographic.{slice_cmp}
use Rattle.std.proofs.lemmas.Int.{to_z-of_z}
use Rattle.nm_schema_derive.specs.declared.members.Member.{Member}
use Rattle.nm_schema_derive.specs.Members.{number_in, has_number, highest_in, higher}
use Rattle.nm_schema_derive.proofs.Takings.{name_taken, number_taken, highest_taken}
use Rattle.nm_schema_derive.proofs.taken.Taken.with.Goals as goal

pub invariant_of-result : goal.invariant_of-result
invariant_of-result c =
    let name = c.args.name.now in
    let number = c.args.number in
    let passed = to_z w64 (of_z w64 number) in
    let e : passed ≡ number = to_z-of_z w64 number c.ranges.number in
    let members = c.self.inside.members.items in
    let member : Member = record { name = name; number = number } in
    let items : c.push.new.self.items ≡ members ++ member ∷ [] =
    c.in_ok-push.ensures.items
    ∙ ap (λ (n : List ℕ). let m : Member = record { name = n; number = passed } in members ++ m ∷ []) c.in_ok-copy.ensures
    ∙ ap (λ (z : ℤ). let m : Member = record { name = name; number = z } in members ++ m ∷ []) e in
    let fits : FitsSigned w64 c.higher.result = search rules in (
      λ q. name_taken members member q (get (slice_cmp nat_cmp) c.self.inside.names q) (get (slice_cmp nat_cmp) c.insert.new.self q)
          (c.in_ok-insert.ensures.updates.0 q
          ∙ ap (λ (n : List ℕ). cond (is_at (slice_cmp nat_cmp n) q) (Some passed) (get (slice_cmp nat_cmp) c.self.inside.names q)) c.in_ok-copy-2.ensures
          ∙ ap (λ (z : ℤ). cond (is_at (slice_cmp nat_cmp name) q) (Some z) (get (slice_cmp nat_cmp) c.self.inside.names q)) e)
          (c.self.invariant.0 q)
          ∙ ap (number_in q) (sym items),
      λ q. number_taken tt members member q (get int_cmp c.self.inside.numbers q) (get int_cmp c.insert-2.new.self q)
          (c.in_ok-insert-2.ensures.updates.0 q
          ∙ ap (λ (z : ℤ). cond (is_at (int_cmp z) q) (Some tt) (get int_cmp c.self.inside.numbers q)) e)
          (c.self.invariant.1 q)
          ∙ ap (has_number q) (sym items),
      ap (λ (z : ℤ). Some z) (to_z-of_z w64 c.higher.result fits)
          ∙ highest_taken members member c.self.inside.highest c.higher.result
          (c.higher.ensures ∙ ap (higher c.self.inside.highest) e)
          c.self.invariant.2
          ∙ ap highest_in (sym items),
    )
