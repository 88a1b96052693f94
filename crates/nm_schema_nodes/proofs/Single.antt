-- Rows have one list of nodes: after the same nodes in front, the next one stands at the earliest place that has rows left, and has the first of them.
use Rattle.std.proofs.Common.{◌≡◌, ◌<◌, ◌+◌, ◌∙◌, ℕ, zero, suc, List, [], ◌∷◌, ◌++◌, length, map, filter, get_or, Bool, true, false, ◌==◌, Option, None, Some, IfSome, slice_get, refl, sym, ap, subst, arith}
use Rattle.std.proofs.lemmas.Bool.{eqb-true}
use Rattle.std.proofs.lemmas.Bool.Decides.{nat_tests}
use Rattle.std.proofs.lemmas.Option.{slice_get-get_or}
use Rattle.std.proofs.lemmas.List.{append_cancel_left, append_assoc, map-append}
use Rattle.std.proofs.lemmas.List.Elements.{filter-append}
use Rattle.nm_schema_statements.specs.declared.row.Row.{Row}
use Rattle.nm_schema_statements.specs.Rows.{roots, same_parent}
use Rattle.nm_schema_nodes.specs.declared.instance.Instance.{Instance}
use Rattle.nm_schema_nodes.specs.Expansion.{places_of, row_of, owner_in, owner_of, is_below, is_top, children, tops, kept_below, grown_members, IsNoLater, AreNumbered, IsExpansion}
use Rattle.nm_schema_nodes.specs.Growing.{instance, its_row}
use Rattle.nm_schema_nodes.proofs.Bounds.{and-both}
use Rattle.nm_schema_nodes.proofs.Places.{slice_get-left, places-rows}

-- ---- the rows of the nodes at a place

-- a node stands at a place: at the top of a module, or in a node
abbrev stands : Option ℕ → ℕ → Instance → Bool
stands None owner node = is_top owner node
stands (Some p) owner node = is_below p node

-- the rows of the nodes that pass a test
abbrev rows_at : (Instance → Bool) → List Instance → List ℕ
rows_at test nodes = map its_row (filter test nodes)

-- a node stands at its own place
stands-self : (parent : Option ℕ) (node : Instance) → node.parent ≡ parent → stands parent node.owner node ≡ true
unfolding is_top is_below
stands-self None node is = rw is (grind (arith, nat_tests))
stands-self (Some p) node is = rw is (grind (arith, nat_tests))

-- lists of rows that are known and equal have equal rows
some-same : (xs ys : List ℕ) → map (λ row. Some row) xs ≡ map (λ row. Some row) ys → xs ≡ ys
some-same [] [] is = refl
some-same [] (y ∷ ys) is = absurd (cc)
some-same (x ∷ xs) [] is = absurd (cc)
some-same (x ∷ xs) (y ∷ ys) is =
    let first : x ≡ y = cc in
    let others : map (λ row. Some row) xs ≡ map (λ row. Some row) ys = cc in
    rw (first, some-same xs ys others) refl

-- the rows of the nodes at these places are known, so they are those of the nodes that pass the test
known-rows : (test : Instance → Bool) (nodes : List Instance) (those : List ℕ) → map (row_of nodes) (places_of test 0 nodes) ≡ map (λ row. Some row) those → rows_at test nodes ≡ those
known-rows test nodes those is = some-same (rows_at test nodes) those (sym (places-rows test nodes) ∙ is)

-- the rows of two lists of nodes, one after the other
rows-append : (test : Instance → Bool) (xs ys : List Instance) → rows_at test (xs ++ ys) ≡ rows_at test xs ++ rows_at test ys
rows-append test xs ys = ap (λ (l : List Instance). map its_row l) (filter-append test xs ys) ∙ map-append its_row (filter test xs) (filter test ys)

-- a node that passes gives the first row
rows-first : (test : Instance → Bool) (node : Instance) (nodes : List Instance) → test node ≡ true → rows_at test (node ∷ nodes) ≡ node.row ∷ rows_at test nodes
unfolding its_row
rows-first test node nodes is = rw is refl

-- a node that doesn't pass gives none
rows-other : (test : Instance → Bool) (node : Instance) (nodes : List Instance) → test node ≡ false → rows_at test (node ∷ nodes) ≡ rows_at test nodes
rows-other test node nodes is = rw is refl

-- ---- a node that passes

-- one of the nodes passes a test
record HasOne (test : Instance → Bool) (nodes : List Instance) : Type 0 where
  at : ℕ
  node : Instance
  is : slice_get nodes at ≡ Some node
  passes : test node ≡ true

-- the first node passes, or one of the others
one-more : (test : Instance → Bool) (node : Instance) (nodes : List Instance) (passes : Bool) → test node ≡ passes → (test node ≡ false → HasOne test nodes) → HasOne test (node ∷ nodes)
one-more test node nodes true is later = record { at = 0; node = node; is = refl; passes = is }
one-more test node nodes false is later = let one = later is in record { at = suc one.at; node = one.node; is = one.is; passes = one.passes }

-- where there is a row of a node that passes, there is such a node
one-of-rows : (test : Instance → Bool) (nodes : List Instance) (row : ℕ) (those : List ℕ) → rows_at test nodes ≡ row ∷ those → HasOne test nodes
one-of-rows test [] row those is = absurd (cc)
one-of-rows test (node ∷ nodes) row those is =
    one-more test node nodes (test node) refl (λ other. one-of-rows test nodes row those (sym (rows-other test node nodes other) ∙ is))

-- ---- places in order

-- an element that comes after the front
slice_get-after : {X : Type 0} (front rest : List X) (i k : ℕ) → i ≡ length front + k → slice_get (front ++ rest) i ≡ slice_get rest k
slice_get-after [] rest i k is = ap (slice_get rest) (omega (arith, is))
slice_get-after (x ∷ front) rest zero k is = absurd (omega (arith, is))
slice_get-after (x ∷ front) rest (suc i) k is = slice_get-after front rest i k (omega (arith, is))

-- the first element after the front
slice_get-first : {X : Type 0} (front rest : List X) (x : X) → slice_get (front ++ x ∷ rest) (length front) ≡ Some x
slice_get-first front rest x = slice_get-after front (x ∷ rest) (length front) 0 (omega arith)

-- a place comes no later than itself
no-later-self : (parent : Option ℕ) (owner : ℕ) → IsNoLater parent owner parent owner
no-later-self None owner = omega arith
no-later-self (Some p) owner = omega arith

-- equal parents are one
same-parents : (a b : Option ℕ) → same_parent a b ≡ true → a ≡ b
same-parents None None is = refl
same-parents None (Some q) is = absurd (cc)
same-parents (Some p) None is = absurd (cc)
same-parents (Some p) (Some q) is = ap Some (eqb-true p q is)

-- a node that stands at a place has its parent
stands-parent : (place : Option ℕ) (owner : ℕ) (node : Instance) → stands place owner node ≡ true → node.parent ≡ place
unfolding is_top is_below
stands-parent None owner node at = same-parents node.parent None (and-both (same_parent node.parent None) (node.owner == owner) at).0
stands-parent (Some p) owner node at = same-parents node.parent (Some p) at

-- a node at the top of a module is of that module
stands-owner : (owner : ℕ) (node : Instance) → stands None owner node ≡ true → node.owner ≡ owner
unfolding is_top
stands-owner owner node at = eqb-true node.owner owner (and-both (same_parent node.parent None) (node.owner == owner) at).1

-- what comes no later than where a node stands comes no later than a place where the node stands
no-later-place : (earlier : Option ℕ) (of : ℕ) (place : Option ℕ) (owner : ℕ) (node : Instance) → stands place owner node ≡ true → IsNoLater earlier of node.parent node.owner → IsNoLater earlier of place owner
no-later-place earlier of None owner node at le =
    subst (λ n. IsNoLater earlier of None n) (stands-owner owner node at) (subst (λ o. IsNoLater earlier of o node.owner) (stands-parent None owner node at) le)
no-later-place None of (Some p) owner node at le = tt
no-later-place (Some q) of (Some p) owner node at le = subst (λ o. IsNoLater (Some q) of o node.owner) (stands-parent (Some p) owner node at) le

-- the first node after the front stands no later than any place at which one of the others stands
first-no-later : (front : List Instance) (first : Instance) (others : List Instance) (place : Option ℕ) (owner : ℕ) → AreNumbered (front ++ first ∷ others) → (at : ℕ) (node : Instance)
    → slice_get (first ∷ others) at ≡ Some node → stands place owner node ≡ true
    → IsNoLater first.parent first.owner place owner
first-no-later front first others place owner numbered zero node is passes =
    let same : first ≡ node = cc in
    no-later-place first.parent first.owner place owner first (ap (stands place owner) same ∙ passes) (no-later-self first.parent first.owner)
first-no-later front first others place owner numbered (suc k) node is passes =
    no-later-place first.parent first.owner place owner node passes
    (numbered (length front) (length front + suc k) first node (omega arith) (slice_get-first front others first) (slice_get-after front (first ∷ others) (length front + suc k) (suc k) refl ∙ is))

-- a node stands in one of those in front, of its module, or at the top
abbrev IsPlaced : List Instance → Option ℕ → ℕ → Type 0
IsPlaced front parent owner = IfSome parent (λ p. (p < length front) × (owner_of front p ≡ Some owner))

-- what a node stands in is in front of it
placed-front : (front rest : List Instance) (parent : Option ℕ) (owner : ℕ) → IfSome parent (λ p. (p < length front) × (owner_of (front ++ rest) p ≡ Some owner)) → IsPlaced front parent owner
unfolding owner_of
placed-front front rest None owner h = tt
placed-front front rest (Some p) owner h = (h.0, sym (ap owner_in (slice_get-left front rest p h.0)) ∙ h.1)

-- a place in a node in front
placed-before : (front : List Instance) (parent : Option ℕ) (owner : ℕ) → IsPlaced front parent owner → IfSome parent (λ p. p < length front)
placed-before front None owner h = tt
placed-before front (Some p) owner h = h.0

-- places of which none is later than the other are one place
one-place : (front : List Instance) (p q : Option ℕ) (m n : ℕ) → IsPlaced front p m → IsPlaced front q n → IsNoLater p m q n → IsNoLater q n p m → (p ≡ q) × (m ≡ n)
one-place front None None m n h k le ge = (refl, omega arith)
one-place front None (Some q) m n h k le ge = absurd ge
one-place front (Some p) None m n h k le ge = absurd le
one-place front (Some p) (Some q) m n h k le ge =
    let same : p ≡ q = omega arith in
    let owner : Some m ≡ Some n = sym h.1 ∙ ap (owner_of front) same ∙ k.1 in
    (ap Some same, cc)

-- nodes of one place and one row are one
one-node : (x y : Instance) → x.parent ≡ y.parent → x.row ≡ y.row → x.owner ≡ y.owner → x ≡ y
unfolding instance
one-node x y parent row owner =
    ap (λ p. instance p x.owner x.row) parent ∙ ap (λ m. instance y.parent m x.row) owner ∙ ap (λ r. instance y.parent y.owner r) row

-- ---- one node after another

module _ (rows : List Row) (groupings : List (Option ℕ)) where
  -- the rows at a place: the members of the module, or of the node in front
  place-rows : List Instance → Option ℕ → ℕ → List ℕ
  place-rows front None owner = grown_members rows groupings owner
  place-rows front (Some p) owner = kept_below rows groupings (get_or front p (instance None 0 0)).row

  -- the rows of the nodes at a place are these
  rows-known : (front rest : List Instance) (place : Option ℕ) (owner : ℕ) → IsExpansion rows groupings (front ++ rest) → IfSome place (λ p. p < length front) → owner < length (roots rows)
      → rows_at (stands place owner) (front ++ rest) ≡ place-rows front place owner
  unfolding tops children place-rows
  rows-known front rest None owner h before lt = known-rows (is_top owner) (front ++ rest) (grown_members rows groupings owner) (h.outermost owner lt)
  rows-known front rest (Some p) owner h before lt =
      known-rows (is_below p) (front ++ rest) (kept_below rows groupings (get_or front p (instance None 0 0)).row)
      (h.below p (get_or front p (instance None 0 0)) (slice_get-left front rest p before ∙ slice_get-get_or front p (instance None 0 0) before))

  -- so after the same front, those that are left at a place have the same rows
  rest-rows : (front xs ys : List Instance) (place : Option ℕ) (owner : ℕ) → IsExpansion rows groupings (front ++ xs) → IsExpansion rows groupings (front ++ ys) → IfSome place (λ p. p < length front) → owner < length (roots rows)
      → rows_at (stands place owner) xs ≡ rows_at (stands place owner) ys
  rest-rows front xs ys place owner h k before lt =
      append_cancel_left (rows_at (stands place owner) front) (rows_at (stands place owner) xs) (rows_at (stands place owner) ys)
      (sym (rows-append (stands place owner) front xs) ∙ rows-known front xs place owner h before lt ∙ sym (rows-known front ys place owner k before lt) ∙ rows-append (stands place owner) front ys)

  -- the first node that is left stands in one in front, or at the top
  first-placed : (front xs : List Instance) (x : Instance) → IsExpansion rows groupings (front ++ x ∷ xs) → IsPlaced front x.parent x.owner
  first-placed front xs x h = placed-front front (x ∷ xs) x.parent x.owner (h.parents (length front) x (slice_get-first front xs x))

  -- the rows that are left at the place of the first node begin with its row
  first-rows : (front xs ys : List Instance) (x : Instance) → IsExpansion rows groupings (front ++ x ∷ xs) → IsExpansion rows groupings (front ++ ys) → rows_at (stands x.parent x.owner) ys ≡ x.row ∷ rows_at (stands x.parent x.owner) xs
  first-rows front xs ys x h k =
      rest-rows front ys (x ∷ xs) x.parent x.owner k h (placed-before front x.parent x.owner (first-placed front xs x h)) (h.owners (length front) x (slice_get-first front xs x))
      ∙ rows-first (stands x.parent x.owner) x xs (stands-self x.parent x refl)

  -- the first node of one list stands no later than that of the other
  first-earlier : (front xs ys : List Instance) (x y : Instance) → IsExpansion rows groupings (front ++ x ∷ xs) → IsExpansion rows groupings (front ++ y ∷ ys) → IsNoLater y.parent y.owner x.parent x.owner
  first-earlier front xs ys x y h k =
      let one = one-of-rows (stands x.parent x.owner) (y ∷ ys) x.row (rows_at (stands x.parent x.owner) xs) (first-rows front xs (y ∷ ys) x h k) in
      first-no-later front y ys x.parent x.owner k.numbered one.at one.node one.is one.passes

  -- so they stand at one place, and have the first row there
  first-same : (front xs ys : List Instance) (x y : Instance) → IsExpansion rows groupings (front ++ x ∷ xs) → IsExpansion rows groupings (front ++ y ∷ ys) → x ≡ y
  first-same front xs ys x y h k =
      let place = one-place front x.parent y.parent x.owner y.owner (first-placed front xs x h) (first-placed front ys y k) (first-earlier front ys xs y x k h) (first-earlier front xs ys x y h k) in
      let at : stands x.parent x.owner y ≡ true = ap (λ m. stands x.parent m y) place.1 ∙ stands-self x.parent y (sym place.0) in
      let both : y.row ∷ rows_at (stands x.parent x.owner) ys ≡ x.row ∷ rows_at (stands x.parent x.owner) xs = sym (rows-first (stands x.parent x.owner) y ys at) ∙ first-rows front xs (y ∷ ys) x h k in
      let row : x.row ≡ y.row = cc in
      one-node x y place.0 row place.1

  -- where one list ends, the other does
  none-left : (front xs : List Instance) (x : Instance) → IsExpansion rows groupings (front ++ x ∷ xs) → IsExpansion rows groupings (front ++ []) → ⊥
  none-left front xs x h k = let none = first-rows front xs [] x h k in cc

  -- the nodes that are left after the same front are the same
  rest-single : (xs ys front : List Instance) → IsExpansion rows groupings (front ++ xs) → IsExpansion rows groupings (front ++ ys) → xs ≡ ys
  rest-single [] [] front h k = refl
  rest-single [] (y ∷ ys) front h k = absurd (none-left front ys y k h)
  rest-single (x ∷ xs) [] front h k = absurd (none-left front xs x h k)
  rest-single (x ∷ xs) (y ∷ ys) front h k =
      let first : x ≡ y = first-same front xs ys x y h k in
      let more : front ++ y ∷ ys ≡ (front ++ x ∷ []) ++ ys = ap (λ (n : Instance). front ++ n ∷ ys) (sym first) ∙ sym (append_assoc front (x ∷ []) ys) in
      let others : xs ≡ ys = rest-single xs ys (front ++ x ∷ []) (subst (IsExpansion rows groupings) (sym (append_assoc front (x ∷ []) xs)) h) (subst (IsExpansion rows groupings) more k) in
      rw (first, others) refl

-- rows have one list of nodes
pub single : (rows : List Row) (groupings : List (Option ℕ)) (nodes others : List Instance) → IsExpansion rows groupings nodes → IsExpansion rows groupings others → nodes ≡ others
single rows groupings nodes others h k = rest-single rows groupings nodes others [] h k
