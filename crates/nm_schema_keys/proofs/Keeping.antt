-- Values of rows that are kept.
use Rattle.std.proofs.Common.{◌≡◌, ◌∙◌, ℕ, List, [], Bool, true, false, ◌==◌, cond, Option, Some, IfSome, refl, sym, ap, subst, arith}
use Rattle.std.proofs.lemmas.Bool.{eqb-true}
use Rattle.std.proofs.lemmas.Bool.Decides.{nat_tests}
use Rattle.std.specs.Ordering.{is_eq, nat_cmp}
use Rattle.std.specs.BTreeMap.{BTreeMap, get}
use Rattle.nm_schema_statements.specs.declared.row.Row.{Row}
use Rattle.nm_schema_keys.specs.declared.found.Found.{Found}
use Rattle.nm_schema_keys.specs.Found.{seen_among, member_named}
use Rattle.nm_schema_keys.specs.Membership.{Sight}
use Rattle.nm_schema_keys.specs.Kept.{Keeps, members_at}

-- nothing is kept
pub keeps_none : {X : Type 0} (value : ℕ → X) (map : BTreeMap ℕ X) → map.entries ≡ [] → Keeps value map
unfolding Keeps
keeps_none value map empty = λ i. rw empty tt

tied : (i n : ℕ) → is_eq (nat_cmp n i) ≡ (i == n)
tied i n = grind (arith, nat_tests)

-- a value more
pub keeps_more : {X : Type 0} (value : ℕ → X) (old new : BTreeMap ℕ X) (k : ℕ) (x : X) → Keeps value old → ((i : ℕ) → get nat_cmp new i ≡ cond (is_eq (nat_cmp k i)) (Some x) (get nat_cmp old i)) → x ≡ value k → Keeps value new
unfolding Keeps
keeps_more value old new k x kept put is = λ i. subst (λ o. IfSome o (λ y. y ≡ value i)) (sym (put i ∙ ap (λ b. cond b (Some x) (get nat_cmp old i)) (tied i k))) (
    (elim (i == k) as (λ b. (i == k) ≡ b → IfSome (cond b (Some x) (get nat_cmp old i)) (λ y. y ≡ value i)) [
      | true ↦ λ same. is ∙ ap value (sym (eqb-true i k same))
      | false ↦ λ other. kept i
    ]) refl)

-- what is kept is the value
pub kept_is : {X : Type 0} (value : ℕ → X) (map : BTreeMap ℕ X) (i : ℕ) (x : X) → Keeps value map → Some x ≡ get nat_cmp map i → x ≡ value i
unfolding Keeps
kept_is value map i x kept is = subst (λ o. IfSome o (λ y. y ≡ value i)) (sym is) (kept i)

-- the same is kept where the entries are the same
pub keeps_same : {X : Type 0} (value : ℕ → X) (old new : BTreeMap ℕ X) → Keeps value old → new.entries ≡ old.entries → Keeps value new
unfolding Keeps
keeps_same value old new kept same = λ i. rw same (kept i)

-- a name among the members that are kept
pub kept-found : (rows : List Row) (groupings : List (Option ℕ)) (map : BTreeMap ℕ Sight) (loses : Bool) (at : ℕ) (s : Sight) (name : List ℕ) (found : Found) → Keeps (members_at rows groupings) map → Some s ≡ get nat_cmp map at
    → found ≡ seen_among s.rows loses s.nodes s.kept name → found ≡ member_named rows groupings loses at name
unfolding members_at
kept-found rows groupings map loses at s name found kept is told = told ∙ ap (λ (t : Sight). seen_among t.rows loses t.nodes t.kept name) (kept_is (members_at rows groupings) map at s kept is)

-- what is kept, if it is
pub kept_if : {X : Type 0} (value : ℕ → X) (map : BTreeMap ℕ X) (i : ℕ) (o : Option X) → Keeps value map → o ≡ get nat_cmp map i → IfSome o (λ x. x ≡ value i)
unfolding Keeps
kept_if value map i o kept is = subst (λ p. IfSome p (λ y. y ≡ value i)) (sym is) (kept i)
