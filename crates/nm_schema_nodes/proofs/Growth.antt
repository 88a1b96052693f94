-- The tree while it grows.
use Rattle.std.proofs.Common.{◌≡◌, ◌≢◌, ◌<◌, ◌≤◌, ◌+◌, ◌∙◌, ◌⊎◌, inl, inr, ℕ, zero, suc, List, [], ◌∷◌, ◌++◌, length, map, drop, take, get_or, All, filter, Bool, true, false, Option, None, Some, IfSome, slice_get, if◌then◌else◌, refl, sym, ap, subst, arith}
use Rattle.std.proofs.lemmas.Bool.{cases_lt, cases_eq}
use Rattle.std.proofs.lemmas.Bool.Decides.{nat_tests}
use Rattle.std.proofs.lemmas.Option.{slice_get_within, slice_get-get_or, get_or_from_slice_get}
use Rattle.std.proofs.lemmas.List.{map-append, length-append, append-nil, drop-append-le, drop_more, take_more}
use Rattle.std.proofs.lemmas.List.Elements.{All-nil, All-cons, All-head, All-tail, All-append, All-get_or, filter-append}
use Rattle.nm_schema_statements.specs.declared.row.Row.{Row}
use Rattle.nm_schema_statements.specs.Rows.{roots}
use Rattle.nm_schema_uses.specs.Sizes.{total_of}
use Rattle.nm_schema_nodes.specs.declared.instance.Instance.{Instance}
use Rattle.nm_schema_nodes.specs.Expansion.{count_at, counts_before, kept_below, kept_in, has_count, grown_members, module_row, is_grown, comes_before, first_large, is_below, is_top, owner_in, owner_of, IsNoLater, AreNumbered}
use Rattle.nm_schema_nodes.specs.Growing.{instance, its_row, rows_below, rows_top, weight, IsCounted, HasCount, IsGrowing}
use Rattle.nm_schema_nodes.proofs.Counting.{node-covered, row-covered, total-append}
use Rattle.nm_schema_nodes.proofs.Bounds.{and-both, grown-bound}
use Rattle.nm_schema_nodes.proofs.Places.{slice_get-left, slice_get-right}

-- ---- nodes that are made of rows

pub made-is : (parent : Option ℕ) (owner : ℕ) (rows : List ℕ) (k : ℕ) (node : Instance) → slice_get (map (instance parent owner) rows) k ≡ Some node → (node.parent ≡ parent) × (node.owner ≡ owner)
unfolding instance
made-is parent owner [] k node is = absurd (cc)
made-is parent owner (row ∷ rows) zero node is =
    let e : instance parent owner row ≡ node = cc in
    (ap (λ (n : Instance). n.parent) (sym e), ap (λ (n : Instance). n.owner) (sym e))
made-is parent owner (row ∷ rows) (suc k) node is = made-is parent owner rows k node is

its_row-made : (parent : Option ℕ) (owner : ℕ) (rows : List ℕ) → map its_row (map (instance parent owner) rows) ≡ rows
unfolding instance its_row
its_row-made parent owner [] = refl
its_row-made parent owner (row ∷ rows) = ap (λ (l : List ℕ). row ∷ l) (its_row-made parent owner rows)

filter-made : (test : Instance → Bool) (parent : Option ℕ) (owner : ℕ) → ((row : ℕ) → test (instance parent owner row) ≡ true) → (rows : List ℕ) → filter test (map (instance parent owner) rows) ≡ map (instance parent owner) rows
filter-made test parent owner all [] = refl
filter-made test parent owner all (row ∷ rows) = rw (all row, filter-made test parent owner all rows) refl

filter-none : (test : Instance → Bool) (parent : Option ℕ) (owner : ℕ) → ((row : ℕ) → test (instance parent owner row) ≡ false) → (rows : List ℕ) → filter test (map (instance parent owner) rows) ≡ []
filter-none test parent owner none [] = refl
filter-none test parent owner none (row ∷ rows) = rw (none row, filter-none test parent owner none rows) refl

abbrev passing : (Instance → Bool) → List Instance → List ℕ
passing test nodes = map its_row (filter test nodes)

passing-append : (test : Instance → Bool) (xs ys : List Instance) → passing test (xs ++ ys) ≡ passing test xs ++ passing test ys
passing-append test xs ys = ap (λ (l : List Instance). map its_row l) (filter-append test xs ys) ∙ map-append its_row (filter test xs) (filter test ys)

passing-made : (test : Instance → Bool) (parent : Option ℕ) (owner : ℕ) (nodes : List Instance) → ((row : ℕ) → test (instance parent owner row) ≡ true) → (rows : List ℕ) → passing test (nodes ++ map (instance parent owner) rows) ≡ passing test nodes ++ rows
passing-made test parent owner nodes all rows =
    passing-append test nodes (map (instance parent owner) rows)
    ∙ ap (λ (l : List ℕ). passing test nodes ++ l) (ap (λ (l : List Instance). map its_row l) (filter-made test parent owner all rows) ∙ its_row-made parent owner rows)

passing-other : (test : Instance → Bool) (parent : Option ℕ) (owner : ℕ) (nodes : List Instance) → ((row : ℕ) → test (instance parent owner row) ≡ false) → (rows : List ℕ) → passing test (nodes ++ map (instance parent owner) rows) ≡ passing test nodes
passing-other test parent owner nodes none rows =
    passing-append test nodes (map (instance parent owner) rows)
    ∙ ap (λ (l : List ℕ). passing test nodes ++ l) (ap (λ (l : List Instance). map its_row l) (filter-none test parent owner none rows))
    ∙ append-nil (passing test nodes)

-- ---- where such nodes stand

below-same : (i owner row : ℕ) → is_below i (instance (Some i) owner row) ≡ true
unfolding is_below instance
below-same i owner row = grind (arith, nat_tests)

below-other : (i j owner row : ℕ) → i ≢ j → is_below i (instance (Some j) owner row) ≡ false
unfolding is_below instance
below-other i j owner row differ = grind (arith, nat_tests)

below-top : (i owner row : ℕ) → is_below i (instance None owner row) ≡ false
unfolding is_below instance
below-top i owner row = refl

top-same : (m row : ℕ) → is_top m (instance None m row) ≡ true
unfolding is_top instance
top-same m row = grind (arith, nat_tests)

top-other : (m n row : ℕ) → m ≢ n → is_top m (instance None n row) ≡ false
unfolding is_top instance
top-other m n row differ = grind (arith, nat_tests)

top-below : (m j owner row : ℕ) → is_top m (instance (Some j) owner row) ≡ false
unfolding is_top instance
top-below m j owner row = refl

owner_of-left : (nodes more : List Instance) (p : ℕ) → p < length nodes → owner_of (nodes ++ more) p ≡ owner_of nodes p
unfolding owner_of
owner_of-left nodes more p lt = ap owner_in (slice_get-left nodes more p lt)

parent-left : (nodes more : List Instance) (i owner : ℕ) (parent : Option ℕ) → i < length nodes → IfSome parent (λ p. (p < i) × (owner_of nodes p ≡ Some owner)) → IfSome parent (λ p. (p < i) × (owner_of (nodes ++ more) p ≡ Some owner))
parent-left nodes more i owner None lt h = tt
parent-left nodes more i owner (Some p) lt h = (h.0, owner_of-left nodes more p (omega (arith, lt, h.0)) ∙ h.1)

owner-at : (nodes : List Instance) (p : ℕ) (node : Instance) → slice_get nodes p ≡ Some node → owner_of nodes p ≡ Some node.owner
unfolding owner_of
owner-at nodes p node at = ap owner_in at

abbrev IsPlaced : List Instance → ℕ → Instance → Type 0
IsPlaced nodes i node = IfSome node.parent (λ p. (p < i) × (owner_of nodes p ≡ Some node.owner))

-- what stands in an earlier node still does, and so do nodes that are added at the end
placed-cases : (nodes : List Instance) (parent : Option ℕ) (owner : ℕ) (rows : List ℕ) → ((i : ℕ) (node : Instance) → slice_get nodes i ≡ Some node → IsPlaced nodes i node)
    → IfSome parent (λ p. (p < length nodes) × (owner_of nodes p ≡ Some owner)) → (i : ℕ) (node : Instance) → slice_get (nodes ++ map (instance parent owner) rows) i ≡ Some node → (i < length nodes) ⊎ (length nodes ≤ i) → IsPlaced (nodes ++ map (instance parent owner) rows) i node
placed-cases nodes parent owner rows old new i node is (inl lt) =
    parent-left nodes (map (instance parent owner) rows) i node.owner node.parent lt (old i node (sym (slice_get-left nodes (map (instance parent owner) rows) i lt) ∙ is))
placed-cases nodes parent owner rows old new i node is (inr le) =
    let r = slice_get-right nodes (map (instance parent owner) rows) i le in
    let made = made-is parent owner rows (r.0) node (sym (r.1) ∙ is) in
    rw (made.0, made.1) (later parent new)
  where
    later : (parent : Option ℕ) → IfSome parent (λ p. (p < length nodes) × (owner_of nodes p ≡ Some owner)) → IfSome parent (λ p. (p < i) × (owner_of (nodes ++ map (instance parent owner) rows) p ≡ Some owner))
    later None h = tt
    later (Some p) h = (omega (arith, h.0, le), owner_of-left nodes (map (instance (Some p) owner) rows) p (h.0) ∙ h.1)

owned-cases : (nodes : List Instance) (parent : Option ℕ) (owner n : ℕ) (rows : List ℕ) → ((i : ℕ) (node : Instance) → slice_get nodes i ≡ Some node → node.owner < n) → owner < n
    → (i : ℕ) (node : Instance) → slice_get (nodes ++ map (instance parent owner) rows) i ≡ Some node → (i < length nodes) ⊎ (length nodes ≤ i) → node.owner < n
owned-cases nodes parent owner n rows old new i node is (inl lt) = old i node (sym (slice_get-left nodes (map (instance parent owner) rows) i lt) ∙ is)
owned-cases nodes parent owner n rows old new i node is (inr le) =
    let r = slice_get-right nodes (map (instance parent owner) rows) i le in
    let made = made-is parent owner rows (r.0) node (sym (r.1) ∙ is) in
    rw (made.1) new

-- nodes that are added at the end stand no earlier than those before them
numbered-cases : (nodes : List Instance) (parent : Option ℕ) (owner : ℕ) (rows : List ℕ) → AreNumbered nodes → ((i : ℕ) (x : Instance) → slice_get nodes i ≡ Some x → IsNoLater x.parent x.owner parent owner) → IsNoLater parent owner parent owner
    → (i j : ℕ) (x y : Instance) → i < j → slice_get (nodes ++ map (instance parent owner) rows) i ≡ Some x → slice_get (nodes ++ map (instance parent owner) rows) j ≡ Some y → (i < length nodes) ⊎ (length nodes ≤ i) → (j < length nodes) ⊎ (length nodes ≤ j)
    → IsNoLater x.parent x.owner y.parent y.owner
numbered-cases nodes parent owner rows old before itself i j x y lt ix jy (inl li) (inl lj) =
    old i j x y lt (sym (slice_get-left nodes (map (instance parent owner) rows) i li) ∙ ix) (sym (slice_get-left nodes (map (instance parent owner) rows) j lj) ∙ jy)
numbered-cases nodes parent owner rows old before itself i j x y lt ix jy (inl li) (inr lj) =
    let r = slice_get-right nodes (map (instance parent owner) rows) j lj in
    let made = made-is parent owner rows (r.0) y (sym (r.1) ∙ jy) in
    rw (made.0, made.1) (before i x (sym (slice_get-left nodes (map (instance parent owner) rows) i li) ∙ ix))
numbered-cases nodes parent owner rows old before itself i j x y lt ix jy (inr li) (inl lj) = absurd (omega (arith, lt, li, lj))
numbered-cases nodes parent owner rows old before itself i j x y lt ix jy (inr li) (inr lj) =
    let r = slice_get-right nodes (map (instance parent owner) rows) i li in
    let one = made-is parent owner rows (r.0) x (sym (r.1) ∙ ix) in
    let s = slice_get-right nodes (map (instance parent owner) rows) j lj in
    let other = made-is parent owner rows (s.0) y (sym (s.1) ∙ jy) in
    rw (one.0, one.1, other.0, other.1) itself

held-cases : (nodes : List Instance) (parent : Option ℕ) (owner next : ℕ) (rows : List ℕ) → ((i : ℕ) (node : Instance) → slice_get nodes i ≡ Some node → IfSome node.parent (λ p. p < next)) → IfSome parent (λ p. p < next)
    → (i : ℕ) (node : Instance) → slice_get (nodes ++ map (instance parent owner) rows) i ≡ Some node → (i < length nodes) ⊎ (length nodes ≤ i) → IfSome node.parent (λ p. p < next)
held-cases nodes parent owner next rows old new i node is (inl lt) = old i node (sym (slice_get-left nodes (map (instance parent owner) rows) i lt) ∙ is)
held-cases nodes parent owner next rows old new i node is (inr le) =
    let r = slice_get-right nodes (map (instance parent owner) rows) i le in
    let made = made-is parent owner rows (r.0) node (sym (r.1) ∙ is) in
    rw (made.0) new

held-more : (next : ℕ) (parent : Option ℕ) → IfSome parent (λ p. p < next) → IfSome parent (λ p. p < next + 1)
held-more next None h = tt
held-more next (Some p) h = omega (arith, h)

-- what stands in earlier nodes, or at the top, comes before what stands in a node
earlier-below : (next m n : ℕ) (parent : Option ℕ) → IfSome parent (λ p. p < next) → IsNoLater parent m (Some next) n
earlier-below next m n None h = tt
earlier-below next m n (Some p) h = omega (arith, h)

-- what stands in no node comes before the top of a later module
earlier-top : (m n : ℕ) (parent : Option ℕ) → IfSome parent (λ p. p < 0) → m < n → IsNoLater parent m None n
earlier-top m n None h lt = omega (arith, lt)
earlier-top m n (Some p) h lt = absurd (omega (arith, h))

-- ---- weights

weight-append : (rows : List Row) (groupings : List (Option ℕ)) (xs ys : List Instance) → weight rows groupings (xs ++ ys) ≡ weight rows groupings xs + weight rows groupings ys
unfolding weight
weight-append rows groupings xs ys = rw (map-append its_row xs ys, map-append (count_at rows groupings) (map its_row xs) (map its_row ys)) (total-append (map (count_at rows groupings) (map its_row xs)) (map (count_at rows groupings) (map its_row ys)))

weight-made : (rows : List Row) (groupings : List (Option ℕ)) (parent : Option ℕ) (owner : ℕ) (those : List ℕ) → weight rows groupings (map (instance parent owner) those) ≡ total_of (map (count_at rows groupings) those)
unfolding weight
weight-made rows groupings parent owner those = rw (its_row-made parent owner those) refl

counted-made : (rows : List Row) (groupings : List (Option ℕ)) (parent : Option ℕ) (owner : ℕ) (those : List ℕ) → All (IsCounted rows groupings) those → All (HasCount rows groupings) (map (instance parent owner) those)
unfolding instance its_row
counted-made rows groupings parent owner [] each = All-nil (HasCount rows groupings)
counted-made rows groupings parent owner (row ∷ those) each = All-cons (HasCount rows groupings) (instance parent owner row) (map (instance parent owner) those) (All-head (IsCounted rows groupings) row those each) (counted-made rows groupings parent owner those (All-tail (IsCounted rows groupings) row those each))

-- ---- the modules that are expanded

module _ (rows : List Row) (groupings : List (Option ℕ)) where
  -- a module more
  pub counts_before-more : (n : ℕ) → n < length (roots rows) → counts_before rows groupings (n + 1) ≡ counts_before rows groupings n + count_at rows groupings (get_or (roots rows) n 0)
  unfolding counts_before
  counts_before-more n lt =
      let more : take (n + 1) (roots rows) ≡ take n (roots rows) ++ get_or (roots rows) n 0 ∷ [] = take_more (roots rows) n 0 lt in
      rw (more, map-append (count_at rows groupings) (take n (roots rows)) (get_or (roots rows) n 0 ∷ [])) (total-append (map (count_at rows groupings) (take n (roots rows))) (count_at rows groupings (get_or (roots rows) n 0) ∷ []) ∙ omega arith)

  pub module_row-is : (n : ℕ) → n < length (roots rows) → module_row rows n ≡ Some (get_or (roots rows) n 0)
  unfolding module_row
  module_row-is n lt = slice_get-get_or (roots rows) n 0 lt

  -- what is added for a module: nothing, or what is counted at its row
  pub record IsAdded (n : ℕ) (those : List ℕ) : Type 0 where
    pub each : All (IsCounted rows groupings) those
    pub most : total_of (map (count_at rows groupings) those) ≤ count_at rows groupings (get_or (roots rows) n 0)
    pub bound : (those ≡ []) ⊎ (counts_before rows groupings (n + 1) ≤ 20000)

  added-in : (n : ℕ) → (row : Option ℕ) → row ≡ Some (get_or (roots rows) n 0) → has_count rows groupings row ≡ true → counts_before rows groupings (n + 1) ≤ 20000 → IsAdded n (kept_in rows groupings row)
  added-in n None is has bound = absurd (cc)
  added-in n (Some root) is has bound =
      let c = row-covered rows groupings root has in
      let e : root ≡ get_or (roots rows) n 0 = cc in
      record { each = c.each; most = rw (← e) (c.most); bound = inr bound }

  pub added : (n : ℕ) → n < length (roots rows) → (grown : Bool) → is_grown rows groupings n ≡ grown → IsAdded n (if grown then kept_in rows groupings (module_row rows n) else [])
  unfolding is_grown
  added n lt false is = record { each = All-nil (IsCounted rows groupings); most = omega arith; bound = inl refl }
  added n lt true is =
      let both = and-both (comes_before n (first_large rows groupings)) (has_count rows groupings (module_row rows n)) is in
      added-in n (module_row rows n) (module_row-is n lt) (both.1) (grown-bound rows groupings n lt (both.0))

  -- ---- a module's nodes are added

  weigh-added : (n : ℕ) (nodes : List Instance) (those : List ℕ) → IsAdded n those → n < length (roots rows) → weight rows groupings nodes ≤ counts_before rows groupings n → weight rows groupings (nodes ++ map (instance None n) those) ≤ counts_before rows groupings (n + 1)
  weigh-added n nodes those h lt few =
      omega (arith, weight-append rows groupings nodes (map (instance None n) those), weight-made rows groupings None n those, h.most, few, counts_before-more n lt)

  bound-added : (n : ℕ) (nodes : List Instance) (those : List ℕ) → weight rows groupings (nodes ++ map (instance None n) those) ≤ counts_before rows groupings (n + 1) → weight rows groupings nodes ≤ 20000 → (those ≡ []) ⊎ (counts_before rows groupings (n + 1) ≤ 20000)
      → weight rows groupings (nodes ++ map (instance None n) those) ≤ 20000
  bound-added n nodes those few bound (inr le) = omega (arith, few, le)
  bound-added n nodes those few bound (inl none) = rw (none, append-nil nodes) bound

  tops-added : (n m : ℕ) (nodes : List Instance) (those : List ℕ) → those ≡ grown_members rows groupings n → ((m : ℕ) → m < n → rows_top nodes m ≡ grown_members rows groupings m) → ((m : ℕ) → n ≤ m → rows_top nodes m ≡ [])
      → m < n + 1 → (m ≡ n) ⊎ (m ≢ n) → rows_top (nodes ++ map (instance None n) those) m ≡ grown_members rows groupings m
  unfolding rows_top
  tops-added n m nodes those is old new lt (inl same) =
      rw same (passing-made (is_top n) None n nodes (top-same n) those ∙ ap (λ (l : List ℕ). l ++ those) (new n (omega arith)) ∙ is)
  tops-added n m nodes those is old new lt (inr differ) = passing-other (is_top m) None n nodes (λ row. top-other m n row differ) those ∙ old m (grind (arith))

  pub seeded : (n : ℕ) (nodes : List Instance) (those : List ℕ) → n < length (roots rows) → those ≡ grown_members rows groupings n → IsAdded n those → IsGrowing rows groupings n 0 nodes → IsGrowing rows groupings (n + 1) 0 (nodes ++ map (instance None n) those)
  unfolding rows_below rows_top
  seeded n nodes those lt is h g =
      let few : weight rows groupings (nodes ++ map (instance None n) those) ≤ counts_before rows groupings (n + 1) = weigh-added n nodes those h lt (omega (arith, g.few)) in
      let bound : weight rows groupings (nodes ++ map (instance None n) those) ≤ 20000 = bound-added n nodes those few (omega (arith, g.bound)) h.bound in
      record {
        done = λ i node before. absurd (omega (arith, before));
        rest = λ i le. passing-other (is_below i) None n nodes (below-top i n) those ∙ g.rest i le;
        outermost = λ m before. tops-added n m nodes those is g.outermost g.others before (cases_eq m n);
        others = λ m le. let differ : m ≢ n = omega arith in passing-other (is_top m) None n nodes (λ row. top-other m n row differ) those ∙ g.others m (omega (arith, le));
        parents = λ i node at. placed-cases nodes None n those g.parents tt i node at (cases_lt i (length nodes));
        owners = λ i node at. owned-cases nodes None n (n + 1) those (λ i node at. omega (arith, g.owners i node at)) (omega arith) i node at (cases_lt i (length nodes));
        numbered = λ i j x y lt ix jy. numbered-cases nodes None n those g.numbered (λ i x at. earlier-top x.owner n x.parent (g.held i x at) (g.owners i x at)) (omega arith) i j x y lt ix jy (cases_lt i (length nodes)) (cases_lt j (length nodes));
        held = λ i node at. held-cases nodes None n 0 those g.held tt i node at (cases_lt i (length nodes));
        counted = All-append (HasCount rows groupings) nodes (map (instance None n) those) g.counted (counted-made rows groupings None n those h.each);
        begun = omega arith;
        few = omega (arith, few);
        bound = omega (arith, bound);
      }

  pub seeds_none : (nodes : List Instance) → nodes ≡ [] → IsGrowing rows groupings 0 0 nodes
  unfolding rows_below rows_top weight
  seeds_none nodes is = rw is (record {
    done = λ i node before. absurd (omega (arith, before));
    rest = λ i le. refl;
    outermost = λ m before. absurd (omega (arith, before));
    others = λ m le. refl;
    parents = λ i node at. absurd (cc);
    owners = λ i node at. absurd (cc);
    numbered = λ i j x y lt ix jy. absurd (cc);
    held = λ i node at. absurd (cc);
    counted = All-nil (HasCount rows groupings);
    begun = omega arith;
    few = omega arith;
    bound = omega arith;
  })

  -- ---- what stands in a node is added

  front-row : (nodes : List Instance) (next : ℕ) (node : Instance) → next < length nodes → slice_get nodes next ≡ Some node → drop next nodes ≡ node ∷ drop (next + 1) nodes
  front-row nodes next node lt at = drop_more nodes next node lt ∙ ap (λ (n : Instance). n ∷ drop (next + 1) nodes) (get_or_from_slice_get nodes next node node at)

  pub counted-at : (nodes : List Instance) (next : ℕ) (node : Instance) → slice_get nodes next ≡ Some node → All (HasCount rows groupings) nodes → IsCounted rows groupings (its_row node)
  counted-at nodes next node at each =
      subst (λ (n : Instance). HasCount rows groupings n) (get_or_from_slice_get nodes next node node at) (All-get_or (HasCount rows groupings) nodes next node (slice_get_within nodes next node at) each)

  weight-front : (node : Instance) (nodes : List Instance) → weight rows groupings (node ∷ nodes) ≡ count_at rows groupings (its_row node) + weight rows groupings nodes
  unfolding weight
  weight-front node nodes = refl

  -- a node's nodes weigh less than itself
  pub weigh-grown : (next : ℕ) (nodes : List Instance) (node : Instance) (parent : Option ℕ) (owner : ℕ) → slice_get nodes next ≡ Some node → All (HasCount rows groupings) nodes
      → next + 1 + weight rows groupings (drop (next + 1) (nodes ++ map (instance parent owner) (kept_below rows groupings (its_row node)))) ≤ next + weight rows groupings (drop next nodes)
  weigh-grown next nodes node parent owner at each =
      let lt : next < length nodes = slice_get_within nodes next node at in
      let those : List ℕ = kept_below rows groupings (its_row node) in
      let c = node-covered rows groupings (its_row node) (counted-at nodes next node at each) in
      let now : weight rows groupings (drop next nodes) ≡ count_at rows groupings (its_row node) + weight rows groupings (drop (next + 1) nodes) =
      ap (λ (l : List Instance). weight rows groupings l) (front-row nodes next node lt at) ∙ weight-front node (drop (next + 1) nodes) in
      let after : weight rows groupings (drop (next + 1) (nodes ++ map (instance parent owner) those)) ≡ weight rows groupings (drop (next + 1) nodes) + total_of (map (count_at rows groupings) those) =
      ap (λ (l : List Instance). weight rows groupings l) (drop-append-le (next + 1) nodes (map (instance parent owner) those) (omega (arith, lt)))
      ∙ weight-append rows groupings (drop (next + 1) nodes) (map (instance parent owner) those)
      ∙ ap (λ k. weight rows groupings (drop (next + 1) nodes) + k) (weight-made rows groupings parent owner those) in
      omega (arith, now, after, c.0, (c.1).most)

  -- the nodes that are left weigh something
  pub weigh-next : (next : ℕ) (nodes : List Instance) (node : Instance) → slice_get nodes next ≡ Some node → All (HasCount rows groupings) nodes → 0 < weight rows groupings (drop next nodes)
  weigh-next next nodes node at each =
      let h = weigh-grown next nodes node None 0 at each in
      omega (arith, h)

  done-cases : (next i : ℕ) (nodes : List Instance) (node here : Instance) → ((i : ℕ) (node : Instance) → i < next → slice_get nodes i ≡ Some node → rows_below nodes i ≡ kept_below rows groupings node.row) → ((i : ℕ) → next ≤ i → rows_below nodes i ≡ [])
      → slice_get nodes next ≡ Some node → i < next + 1 → slice_get (nodes ++ map (instance (Some next) node.owner) (kept_below rows groupings node.row)) i ≡ Some here → (i ≡ next) ⊎ (i ≢ next)
      → rows_below (nodes ++ map (instance (Some next) node.owner) (kept_below rows groupings node.row)) i ≡ kept_below rows groupings here.row
  unfolding rows_below
  done-cases next i nodes node here done rest at lt is (inl same) =
      let within : next < length nodes = slice_get_within nodes next node at in
      let e : Some node ≡ Some here = sym at ∙ sym (slice_get-left nodes (map (instance (Some next) node.owner) (kept_below rows groupings node.row)) next within) ∙ ap (λ k. slice_get (nodes ++ map (instance (Some next) node.owner) (kept_below rows groupings node.row)) k) (sym same) ∙ is in
      let f : node ≡ here = cc in
      ap (λ k. passing (is_below k) (nodes ++ map (instance (Some next) node.owner) (kept_below rows groupings node.row))) same
      ∙ passing-made (is_below next) (Some next) node.owner nodes (below-same next node.owner) (kept_below rows groupings node.row)
      ∙ ap (λ (l : List ℕ). l ++ kept_below rows groupings node.row) (rest next (omega arith))
      ∙ ap (λ (n : Instance). kept_below rows groupings n.row) f
  done-cases next i nodes node here done rest at lt is (inr differ) =
      let within : next < length nodes = slice_get_within nodes next node at in
      let before : i < next = grind arith in
      passing-other (is_below i) (Some next) node.owner nodes (λ row. below-other i next node.owner row differ) (kept_below rows groupings node.row)
      ∙ done i here before (sym (slice_get-left nodes (map (instance (Some next) node.owner) (kept_below rows groupings node.row)) i (omega (arith, before, within))) ∙ is)

  pub grown : (n next : ℕ) (nodes : List Instance) (node : Instance) → slice_get nodes next ≡ Some node → IsGrowing rows groupings n next nodes
      → IsGrowing rows groupings n (next + 1) (nodes ++ map (instance (Some next) node.owner) (kept_below rows groupings node.row))
  unfolding rows_below rows_top its_row
  grown n next nodes node at g =
      let within : next < length nodes = slice_get_within nodes next node at in
      let those : List ℕ = kept_below rows groupings node.row in
      let less : next + 1 + weight rows groupings (drop (next + 1) (nodes ++ map (instance (Some next) node.owner) (kept_below rows groupings node.row))) ≤ next + weight rows groupings (drop next nodes) = weigh-grown next nodes node (Some next) node.owner at g.counted in
      let c = node-covered rows groupings node.row (counted-at nodes next node at g.counted) in
      record {
        done = λ i here before is. done-cases next i nodes node here g.done g.rest at before is (cases_eq i next);
        rest = λ i le. let differ : i ≢ next = omega arith in passing-other (is_below i) (Some next) node.owner nodes (λ row. below-other i next node.owner row differ) (kept_below rows groupings node.row) ∙ g.rest i (omega (arith, le));
        outermost = λ m before. passing-other (is_top m) (Some next) node.owner nodes (top-below m next node.owner) (kept_below rows groupings node.row) ∙ g.outermost m before;
        others = λ m le. passing-other (is_top m) (Some next) node.owner nodes (top-below m next node.owner) (kept_below rows groupings node.row) ∙ g.others m le;
        parents = λ i here is. placed-cases nodes (Some next) node.owner (kept_below rows groupings node.row) g.parents (within, owner-at nodes next node at) i here is (cases_lt i (length nodes));
        owners = λ i here is. owned-cases nodes (Some next) node.owner n (kept_below rows groupings node.row) g.owners (g.owners next node at) i here is (cases_lt i (length nodes));
        numbered = λ i j x y lt ix jy. numbered-cases nodes (Some next) node.owner (kept_below rows groupings node.row) g.numbered (λ i x is. earlier-below next x.owner node.owner x.parent (g.held i x is)) (omega arith) i j x y lt ix jy (cases_lt i (length nodes)) (cases_lt j (length nodes));
        held = λ i here is. held-cases nodes (Some next) node.owner (next + 1) (kept_below rows groupings node.row) (λ i here is. held-more next here.parent (g.held i here is)) (omega arith) i here is (cases_lt i (length nodes));
        counted = All-append (HasCount rows groupings) nodes (map (instance (Some next) node.owner) (kept_below rows groupings node.row)) g.counted (counted-made rows groupings (Some next) node.owner (kept_below rows groupings node.row) (c.1).each);
        begun = omega (arith, within, length-append nodes (map (instance (Some next) node.owner) (kept_below rows groupings node.row)));
        few = omega (arith, less, g.few);
        bound = omega (arith, less, g.bound);
      }

  pub members-added : (n : ℕ) → n < length (roots rows) → IsAdded n (grown_members rows groupings n)
  unfolding grown_members
  members-added n lt = added n lt (is_grown rows groupings n) refl
