-- No node has more than 64 above it, and what has grown is the tree.
use Rattle.std.proofs.Common.{◌≡◌, ◌<◌, ◌≤◌, ◌+◌, ◌-◌, ◌∙◌, ℕ, zero, suc, List, [], ◌∷◌, length, map, All, filter, Bool, true, false, ◌==◌, ◌&&◌, Option, None, Some, slice_get, if◌then◌else◌, refl, ap, subst, arith}
use Rattle.std.proofs.lemmas.Bool.Decides.{nat_tests}
use Rattle.std.proofs.lemmas.Option.{slice_get_within}
use Rattle.std.proofs.lemmas.List.Elements.{All-nil, All-head, All-tail}
use Rattle.nm_schema_statements.specs.declared.row.Row.{Row}
use Rattle.nm_schema_statements.specs.Rows.{roots, same_parent}
use Rattle.nm_schema_nodes.specs.declared.instance.Instance.{Instance}
use Rattle.nm_schema_nodes.specs.Expansion.{height_at, height_in, has_count, comes_before, first_large, kept_below, kept_in, grown_members, module_row, is_grown, is_below, is_top, children, tops, HasAbove, outermost, within, IsExpansion}
use Rattle.nm_schema_nodes.specs.Growing.{its_row, rows_below, rows_top, IsGrowing}
use Rattle.nm_schema_nodes.proofs.Bounds.{and-both, grown-small, large-height}
use Rattle.nm_schema_nodes.proofs.Heights.{IsLow, lower, node-low, row-low}
use Rattle.nm_schema_nodes.proofs.Growth.{counted-at}
use Rattle.nm_schema_nodes.proofs.Places.{places-rows}

-- what holds of each row of the nodes that pass a test holds of the row of one that passes
passing-head : (P : ℕ → Type 0) (passes : Bool) (node : Instance) (others : List Instance) → passes ≡ true → All P (map its_row (if passes then node ∷ others else others)) → P (its_row node)
passing-head P true node others is each = All-head P (its_row node) (map its_row others) each
passing-head P false node others is each = absurd (cc)

passing-tail : (P : ℕ → Type 0) (passes : Bool) (node : Instance) (others : List Instance) → All P (map its_row (if passes then node ∷ others else others)) → All P (map its_row others)
passing-tail P true node others each = All-tail P (its_row node) (map its_row others) each
passing-tail P false node others each = each

passing-each : (P : ℕ → Type 0) (test : Instance → Bool) (nodes : List Instance) (i : ℕ) (node : Instance) → All P (map its_row (filter test nodes)) → slice_get nodes i ≡ Some node → test node ≡ true → P (its_row node)
passing-each P test [] i node each at is = absurd (cc)
passing-each P test (first ∷ nodes) zero node each at is =
    let e : first ≡ node = cc in
    subst (λ (n : Instance). P (its_row n)) e (passing-head P (test first) first (filter test nodes) (ap test e ∙ is) each)
passing-each P test (first ∷ nodes) (suc i) node each at is = passing-each P test nodes i node (passing-tail P (test first) first (filter test nodes) each) at is

below-itself : (p : ℕ) (parent : Option ℕ) → parent ≡ Some p → same_parent parent (Some p) ≡ true
below-itself p parent is = rw is (grind (arith, nat_tests))

top-itself : (owner : ℕ) (parent : Option ℕ) → parent ≡ None → (same_parent parent None && owner == owner) ≡ true
top-itself owner parent is = rw is (grind (arith, nat_tests))

is_below-itself : (p : ℕ) (node : Instance) → node.parent ≡ Some p → is_below p node ≡ true
unfolding is_below
is_below-itself p node is = below-itself p node.parent is

is_top-itself : (node : Instance) → node.parent ≡ None → is_top node.owner node ≡ true
unfolding is_top
is_top-itself node is = top-itself node.owner node.parent is

module _ (rows : List Row) (groupings : List (Option ℕ)) where
  root-low : (row : Option ℕ) → has_count rows groupings row ≡ true → height_in rows groupings row ≤ 65 → All (IsLow rows groupings 65) (kept_in rows groupings row)
  root-low None has le = absurd (cc)
  root-low (Some root) has le = lower rows groupings (height_at rows groupings root) 65 le (kept_below rows groupings root) (row-low rows groupings root has)

  grown-low : (m : ℕ) → m < length (roots rows) → (grown : Bool) → is_grown rows groupings m ≡ grown → All (IsLow rows groupings 65) (if grown then kept_in rows groupings (module_row rows m) else [])
  unfolding is_grown
  grown-low m lt false is = All-nil (IsLow rows groupings 65)
  grown-low m lt true is =
      let both = and-both (comes_before m (first_large rows groupings)) (has_count rows groupings (module_row rows m)) is in
      root-low (module_row rows m) (both.1) (large-height rows groupings m (grown-small rows groupings m lt (both.0)))

  members-low : (m : ℕ) → m < length (roots rows) → All (IsLow rows groupings 65) (grown_members rows groupings m)
  unfolding grown_members
  members-low m lt = grown-low m lt (is_grown rows groupings m) refl

  -- a node with so many above it, and what stands below it, go no deeper than the limit
  pub record IsShallow (nodes : List Instance) (i n : ℕ) : Type 0 where
    pub node : Instance
    pub at : slice_get nodes i ≡ Some node
    pub some : 0 < height_at rows groupings (its_row node)
    pub most : n + height_at rows groupings (its_row node) ≤ 65

  module _ (next : ℕ) (nodes : List Instance) (le : length nodes ≤ next) (g : IsGrowing rows groupings (length (roots rows)) next nodes) where
    top-shallow : (i : ℕ) (node : Instance) → slice_get nodes i ≡ Some node → node.parent ≡ None → IsShallow nodes i 0
    unfolding rows_top
    top-shallow i node at top =
        let lt : node.owner < length (roots rows) = g.owners i node at in
        let low : All (IsLow rows groupings 65) (rows_top nodes node.owner) = rw (g.outermost node.owner lt) (members-low node.owner lt) in
        let l = passing-each (IsLow rows groupings 65) (is_top node.owner) nodes i node low at (is_top-itself node top) in
        record { node = node; at = at; some = l.some; most = omega (arith, l.most) }

    below-shallow : (i p n : ℕ) (node : Instance) → slice_get nodes i ≡ Some node → node.parent ≡ Some p → IsShallow nodes p n → IsShallow nodes i (suc n)
    unfolding rows_below its_row
    below-shallow i p n node at parent s =
        let before : p < next = omega (arith, le, slice_get_within nodes p s.node s.at) in
        let low : All (IsLow rows groupings (height_at rows groupings (its_row s.node) - 1)) (rows_below nodes p) =
        rw (g.done p s.node before s.at) (node-low rows groupings s.node.row s.some (counted-at rows groupings nodes p s.node s.at g.counted).unit) in
        let l = passing-each (IsLow rows groupings (height_at rows groupings (its_row s.node) - 1)) (is_below p) nodes i node low at (is_below-itself p node parent) in
        record { node = node; at = at; some = l.some; most = omega (arith, l.most, s.most, s.some) }

    shallow : {i n : ℕ} → HasAbove nodes i n → IsShallow nodes i n
    shallow (outermost node at top) = top-shallow _ node at top
    shallow (within node p at parent above) = below-shallow _ p _ node at parent (shallow above)

    -- all nodes are there
    pub grown_all : IsExpansion rows groupings nodes
    unfolding children tops rows_below rows_top
    grown_all = record {
      outermost = λ m lt. places-rows (is_top m) nodes ∙ ap (λ (l : List ℕ). map (λ row. Some row) l) (g.outermost m lt);
      below = λ i node at. places-rows (is_below i) nodes ∙ ap (λ (l : List ℕ). map (λ row. Some row) l) (g.done i node (omega (arith, le, slice_get_within nodes i node at)) at);
      parents = g.parents;
      owners = g.owners;
      numbered = g.numbered;
      few = omega (arith, le, g.begun, g.bound);
      shallow = λ i n above. let s = shallow above in omega (arith, s.some, s.most);
    }
