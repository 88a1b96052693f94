-- What is unique in the lists of a tree: leafs below them through containers alone (RFC 7950 section 7.8.3).
use Rattle.std.proofs.Common.{◌≡◌, ◌∙◌, ◌<◌, ℕ, List, [], ◌∷◌, ◌++◌, length, map, fold, filter, Bool, true, false, cond, ◌==◌, Option, Some, None, inl, inr, option_map, slice_get, refl, sym, ap, subst, arith}
use Rattle.std.specs.Prelude.{Contains, is_some, not, eqb}
use Rattle.std.specs.List.{find, slice_split}
use Rattle.std.proofs.lemmas.Bool.{and_parts}
use Rattle.std.proofs.lemmas.Option.{same_Some}
use Rattle.std.proofs.lemmas.List.Splits.{length-slice_split}
use Rattle.nm_schema_statements.specs.declared.row.Row.{Row}
use Rattle.nm_schema_statements.specs.declared.word.Word.{Word}
use Rattle.nm_schema_statements.specs.declared.word.Word.TheVariants as word
use Rattle.nm_schema_statements.specs.Rows.{has_word, children}
use Rattle.nm_graph.specs.Value.{all_there}
use Rattle.nm_schema_uses.specs.Members.{members}
use Rattle.nm_schema_uses.specs.Passing.{kept_members}
use Rattle.nm_schema_keys.specs.declared.found.Found.{Found}
use Rattle.nm_schema_keys.specs.declared.found.Found.TheVariants as found
use Rattle.nm_schema_keys.specs.declared.passage.Passage.{Passage}
use Rattle.nm_schema_keys.specs.declared.passage.Passage.TheVariants as passage
use Rattle.nm_schema_keys.specs.ConfigUse.{ConfigUse, loses_state, is_lost}
use Rattle.nm_schema_keys.specs.Words.{words_of, pieces_of, own_name}
use Rattle.nm_schema_keys.specs.Found.{is_called, row_or_missing, found_among, agreed, seen_among, is_fit, fitting, member_called, fit_member}
use Rattle.nm_schema_keys.specs.Said.{Said, said_at}
use Rattle.nm_schema_keys.specs.Uniques.{word_before, next_row, behind, passage_from, passage_along, passage_of, way_through, way_of, unique_words_ways, said_unique, unique_at, is_unique, uniques_of}
use Rattle.nm_schema_nodes.specs.declared.instance.Instance.{Instance}
use Rattle.nm_schema_nodes.specs.Expansion.{IsExpansion}
use Rattle.nm_schema_tree.specs.declared.node.Node.{Node}
use Rattle.nm_schema_tree.specs.declared.node.NodeKind.{NodeKind}
use Rattle.nm_schema_tree.specs.Nodes.{uniques_of as uniques_of_node}
use Rattle.nm_schema_faults.specs.Facts.{Facts, definitions, standing}
use Rattle.nm_schema.specs.Kind.{named_as, further, reached, group_in, groups_of, groups_in}
use Rattle.nm_schema.specs.Node.{node_of}
use Rattle.nm_schema.specs.Whole.{is_container, IsThrough, directly, within, IsLeafBelow}
use Rattle.nm_schema.proofs.Elements.{here, later, nothing, first_or_later, of_filter, finds_some}
use Rattle.nm_schema.specs.Faultless.{AreFaultless}
use Rattle.nm_schema.proofs.Claims.{AreOrderly}
use Rattle.nm_schema.proofs.Siblings.{Stands, member_stands}
use Rattle.nm_schema.proofs.Keys.{said_in_list}
use Rattle.nm_schema.proofs.Shapes.{IsShape, container, leaf, leaf_list, listed}
use Rattle.nm_schema.proofs.Nodes.{placed, given_shape, leaf_by, IsRowNode, row_node}

-- ---- lists of values

module _ {X Y : Type 0} (f : X → Option Y) where
  found_among_others : (x : X) (xs : List X) (ys : List Y) (y z : Y) (zs : List Y) → (Contains zs y → (w : X) × Contains xs w × (f w ≡ Some y)) → f x ≡ Some z → z ∷ zs ≡ ys → Contains ys y → (w : X) × Contains (x ∷ xs) w × (f w ≡ Some y)
  found_among_others x xs ys y z zs rest is same c = elim (first_or_later z y zs (subst (λ (l : List Y). Contains l y) (sym same) c)) [
    | inl at ↦ (x, here x x xs refl, is ∙ ap (λ (v : Y). Some v) at)
    | inr d ↦ let r = rest d in (r.0, later x r.0 xs r.1, r.2)
  ]

  others_of : (x : X) (xs : List X) (ys : List Y) (y z : Y) (p : Option (List Y)) → ((zs : List Y) → p ≡ Some zs → Contains zs y → (w : X) × Contains xs w × (f w ≡ Some y)) → f x ≡ Some z → option_map (λ others. z ∷ others) p ≡ Some ys → Contains ys y
      → (w : X) × Contains (x ∷ xs) w × (f w ≡ Some y)
  others_of x xs ys y z None rest is e c = absurd (cc)
  others_of x xs ys y z (Some zs) rest is e c = found_among_others x xs ys y z zs (rest zs refl) is (same_Some (z ∷ zs) ys e) c

  first_of : (x : X) (xs : List X) (ys : List Y) (y : Y) (o : Option Y) → ((zs : List Y) → all_there (map f xs) ≡ Some zs → Contains zs y → (w : X) × Contains xs w × (f w ≡ Some y)) → f x ≡ o → all_there (o ∷ map f xs) ≡ Some ys → Contains ys y
      → (w : X) × Contains (x ∷ xs) w × (f w ≡ Some y)
  first_of x xs ys y None rest is e c = absurd (cc)
  first_of x xs ys y (Some z) rest is e c = others_of x xs ys y z (all_there (map f xs)) rest is e c

  -- one of values that are all there is the value of an element
  pub all_of : (xs : List X) (ys : List Y) (y : Y) → all_there (map f xs) ≡ Some ys → Contains ys y → (w : X) × Contains xs w × (f w ≡ Some y)
  all_of [] ys y e c = let none : [] ≡ ys = same_Some [] ys e in absurd (nothing y (subst (λ (l : List Y). Contains l y) (sym none) c))
  all_of (x ∷ xs) ys y e c = first_of x xs ys y (f x) (λ zs are d. all_of xs zs y are d) refl e c

-- ---- the rows that a word leads through

-- rows lead down from row l, each in the one before: containers, and a leaf at the end
abbrev IsWay : List Row → List (Option ℕ) → ℕ → List ℕ → Type 0
IsWay rows groupings l [] = ⊥
IsWay rows groupings l (i ∷ []) = Stands rows groupings l i × (has_word word.Leaf (slice_get rows i) ≡ true)
IsWay rows groupings l (i ∷ j ∷ way) = Stands rows groupings l i × (has_word word.Container (slice_get rows i) ≡ true) × IsWay rows groupings i (j ∷ way)

module _ (rows : List Row) (groupings : List (Option ℕ)) (loses : Bool) where
  agreed_first : (a b : Found) (i : ℕ) → agreed a b ≡ found.Row i → a ≡ found.Row i
  agreed_first found.Missing b i e = absurd (cc)
  agreed_first found.Unknown b i e = absurd (cc)
  agreed_first (found.Row j) found.Missing i e = absurd (cc)
  agreed_first (found.Row j) found.Unknown i e = absurd (cc)
  agreed_first (found.Row j) (found.Row k) i e = by (j == k) e
    where
      by : (b : Bool) → cond b (found.Row j) found.Missing ≡ found.Row i → found.Row j ≡ found.Row i
      by true f = f
      by false f = absurd (cc)

  seen_first : (nodes kept : Option (List ℕ)) (name : List ℕ) (i : ℕ) → seen_among rows loses nodes kept name ≡ found.Row i → found_among rows nodes name ≡ found.Row i
  seen_first nodes kept name i e = by loses e
    where
      by : (b : Bool) → cond b (agreed (found_among rows nodes name) (found_among rows kept name)) (found_among rows nodes name) ≡ found.Row i → found_among rows nodes name ≡ found.Row i
      by true f = agreed_first (found_among rows nodes name) (found_among rows kept name) i f
      by false f = f

  pub row_is : (o : Option ℕ) (i : ℕ) → row_or_missing o ≡ found.Row i → o ≡ Some i
  row_is None i e = absurd (cc)
  row_is (Some j) i e = let same : j ≡ i = cc in ap (λ (k : ℕ). Some k) same

  found_stands : (l i : ℕ) (nodes : Option (List ℕ)) (name : List ℕ) → members rows groupings l ≡ nodes → found_among rows nodes name ≡ found.Row i → Stands rows groupings l i
  found_stands l i None name are e = absurd (cc)
  found_stands l i (Some nodes) name are e = member_stands rows groupings l nodes are i (finds_some (is_called rows name) nodes i (row_is (find (is_called rows name) nodes) i e)).0

  member_found : (l i : ℕ) (name : Option (List ℕ)) → member_called rows groupings loses l name ≡ found.Row i → Stands rows groupings l i
  member_found l i None e = absurd (cc)
  member_found l i (Some name) e = found_stands l i (members rows groupings l) name refl (seen_first (members rows groupings l) (kept_members rows groupings l) name i e)

  fitting_row : (wanted : Word) (f : Found) (i : ℕ) → fitting rows loses wanted f ≡ found.Row i → (f ≡ found.Row i) × (has_word wanted (slice_get rows i) ≡ true)
  unfolding is_fit
  fitting_row wanted found.Missing i e = absurd (cc)
  fitting_row wanted found.Unknown i e = absurd (cc)
  fitting_row wanted (found.Row j) i e = by (is_fit rows loses wanted j) refl e
    where
      by : (b : Bool) → is_fit rows loses wanted j ≡ b → cond b (found.Row j) found.Missing ≡ found.Row i → (found.Row j ≡ found.Row i) × (has_word wanted (slice_get rows i) ≡ true)
      by false is f = absurd (cc)
      by true is f =
          let same : j ≡ i = cc in
          let has = (and_parts (has_word wanted (slice_get rows j)) (not (is_lost rows loses j)) is).0 in
          (f, sym (ap (λ (k : ℕ). has_word wanted (slice_get rows k)) same) ∙ has)

  next_stands : (m l i : ℕ) (piece : List ℕ) (pieces : List (List ℕ)) → next_row rows groupings loses m l piece pieces ≡ found.Row i → Stands rows groupings l i × (has_word (word_before pieces) (slice_get rows i) ≡ true)
  unfolding next_row fit_member
  next_stands m l i piece pieces e =
      let f = fitting_row (word_before pieces) (member_called rows groupings loses l (own_name rows m piece)) i e in
      (member_found l i (own_name rows m piece) f.0, f.1)

  through_is : (front way rest : List ℕ) → passage.Through (front ++ rest) ≡ passage.Through way → front ++ rest ≡ way
  through_is front way rest e = cc

  joined : (l i : ℕ) (piece : List ℕ) (pieces : List (List ℕ)) (rest : List ℕ) → Stands rows groupings l i → has_word word.Container (slice_get rows i) ≡ true → IsWay rows groupings i rest → IsWay rows groupings l (i ∷ rest)
  joined l i piece pieces [] stands has way = absurd way
  joined l i piece pieces (j ∷ rest) stands has way = (stands, has, way)

  behind_way : (i : ℕ) (p : Passage) (way : List ℕ) → behind (i ∷ []) p ≡ passage.Through way → (rest : List ℕ) × (p ≡ passage.Through rest) × (i ∷ rest ≡ way)
  behind_way i passage.Missing way e = absurd (cc)
  behind_way i passage.Unknown way e = absurd (cc)
  behind_way i (passage.Through rest) way e = (rest, refl, through_is (i ∷ []) way rest e)

  from_row : (m l : ℕ) (piece : List ℕ) (pieces : List (List ℕ)) (f : Found) (way : List ℕ) → next_row rows groupings loses m l piece pieces ≡ f → passage_from f (λ j. passage_along rows groupings loses m j pieces) ≡ passage.Through way
      → (i : ℕ) × (next_row rows groupings loses m l piece pieces ≡ found.Row i) × (behind (i ∷ []) (passage_along rows groupings loses m i pieces) ≡ passage.Through way)
  from_row m l piece pieces found.Missing way is e = absurd (cc)
  from_row m l piece pieces found.Unknown way is e = absurd (cc)
  from_row m l piece pieces (found.Row i) way is e = (i, is, e)

  way_along : (m l : ℕ) (piece : List ℕ) (pieces : List (List ℕ)) (way : List ℕ) → passage_along rows groupings loses m l (piece ∷ pieces) ≡ passage.Through way → IsWay rows groupings l way
  way_along m l piece [] way e =
      let r = from_row m l piece [] (next_row rows groupings loses m l piece []) way refl e in
      let s = next_stands m l r.0 piece [] r.1 in
      let b = behind_way r.0 (passage.Through []) way r.2 in
      let none : [] ≡ b.0 = (let is = b.1 in cc) in
      let it : IsWay rows groupings l (r.0 ∷ []) = s in
      subst (λ (w : List ℕ). IsWay rows groupings l w) (ap (λ (w : List ℕ). r.0 ∷ w) none ∙ b.2) it
  way_along m l piece (next ∷ pieces) way e =
      let r = from_row m l piece (next ∷ pieces) (next_row rows groupings loses m l piece (next ∷ pieces)) way refl e in
      let s = next_stands m l r.0 piece (next ∷ pieces) r.1 in
      let b = behind_way r.0 (passage_along rows groupings loses m r.0 (next ∷ pieces)) way r.2 in
      let rest = way_along m r.0 next pieces b.0 b.1 in
      subst (λ (w : List ℕ). IsWay rows groupings l w) b.2 (joined l r.0 piece (next ∷ pieces) b.0 s.0 s.1 rest)

  some_pieces : (m l : ℕ) (pieces : List (List ℕ)) (way : List ℕ) → 0 < length pieces → passage_along rows groupings loses m l pieces ≡ passage.Through way → IsWay rows groupings l way
  some_pieces m l [] way some e = absurd (omega (arith, some))
  some_pieces m l (piece ∷ pieces) way some e = way_along m l piece pieces way e

  through_way : (p : Passage) (way : List ℕ) → way_through p ≡ Some way → p ≡ passage.Through way
  through_way passage.Missing way e = absurd (cc)
  through_way passage.Unknown way e = absurd (cc)
  through_way (passage.Through w) way e = ap (λ (v : List ℕ). passage.Through v) (same_Some w way e)

  way_is : (m l : ℕ) (text way : List ℕ) → way_of rows groupings loses m l text ≡ Some way → IsWay rows groupings l way
  unfolding way_of passage_of pieces_of
  way_is m l text way e =
      let pieces = slice_split (λ b. eqb b 47) text in
      let some : 0 < length pieces = omega (arith, length-slice_split (λ (b : ℕ). eqb b 47) text) in
      some_pieces m l pieces way some (through_way (passage_along rows groupings loses m l pieces) way e)

  words_way : (m l : ℕ) (texts : List (List ℕ)) (ways : List (List ℕ)) (way : List ℕ) → unique_words_ways (way_of rows groupings loses m l) texts ≡ Some ways → Contains ways way → IsWay rows groupings l way
  words_way m l [] ways way e c = absurd (cc)
  words_way m l (text ∷ texts) ways way e c = let r = all_of (way_of rows groupings loses m l) (text ∷ texts) ways way e c in way_is m l r.0 way r.2

-- ---- unique statements

module _ (rows : List Row) (groupings : List (Option ℕ)) (standing : ConfigUse) (l : ℕ) where
  said_way : (o : Option Said) (ways : List (List ℕ)) (way : List ℕ) → ((s : Said) → o ≡ Some s → s.list ≡ l) → said_unique rows groupings standing o ≡ Some ways → Contains ways way → IsWay rows groupings l way
  said_way None ways way of e c = absurd (cc)
  said_way (Some s) ways way of e c =
      subst (λ (k : ℕ). IsWay rows groupings k way) (of s refl) (words_way rows groupings (loses_state standing s.list) s.owner s.list (words_of s.text) ways way e c)

  -- the ways of a unique statement in list l
  unique_way : (uniques : List (List (List ℕ))) (ways : List (List ℕ)) (way : List ℕ) → uniques_of rows groupings standing l ≡ Some uniques → Contains uniques ways → Contains ways way → IsWay rows groupings l way
  unfolding uniques_of unique_at
  unique_way uniques ways way e c d =
      let r = all_of (unique_at rows groupings standing) (filter (is_unique rows) (children rows l)) uniques ways e c in
      let among = (of_filter (is_unique rows) (children rows l) r.0 r.1).0 in
      said_way (said_at rows word.Unique r.0) ways way (λ s is. said_in_list rows word.Unique l r.0 s among is) r.2 d

-- ---- nodes

container_by : (rows : List Row) (facts : Facts) (y : ℕ) (c : Instance) (r : Row) (k : NodeKind) → has_word word.Container (Some r) ≡ true → IsShape rows facts y c r.word k → is_container k ≡ true
container_by rows facts y c r k has (container p w e) = rw e refl
container_by rows facts y c r k has (leaf t d m f w e u l z) = absurd (let no = rw w at has in cc)
container_by rows facts y c r k has (leaf_list t f n w e u z) = absurd (let no = rw w at has in cc)
container_by rows facts y c r k has (listed keys u n w e s z) = absurd (let no = rw w at has in cc)

fold_none : (rows : List Row) (facts : Facts) (way : List ℕ) (k : ℕ) → fold (further rows facts) None way ≡ Some k → ⊥
fold_none rows facts [] k e = cc
fold_none rows facts (i ∷ way) k e = fold_none rows facts way k e

module _ (rows : List Row) (facts : Facts) (all : AreFaultless rows facts) (order : AreOrderly rows (definitions rows)) (expansion : IsExpansion rows (definitions rows) facts.nodes) (known : (x : ℕ) → x < length facts.nodes → is_some (node_of rows facts x) ≡ true) (nodes : List Node) (at : (x : ℕ) (n : Node) → node_of rows facts x ≡ Some n → slice_get nodes x ≡ Some n) where
  down_to : (x : ℕ) (a : Instance) (i y : ℕ) → slice_get facts.nodes x ≡ Some a → Stands rows (definitions rows) a.row i → named_as rows facts x i ≡ Some y → IsRowNode rows facts all order expansion known x i y
  unfolding named_as
  down_to x a i y is stands e = row_node rows facts all order expansion known x a i y is stands e

  through_parent : (root x : ℕ) (o : Option ℕ) → IsThrough nodes root (Some x) → o ≡ Some x → IsThrough nodes root o
  through_parent root x o t e = subst (λ (p : Option ℕ). IsThrough nodes root p) (sym e) t

  leaf_at_end : (root x : ℕ) (a : Instance) (i k : ℕ) → slice_get facts.nodes x ≡ Some a → IsThrough nodes root (Some x) → Stands rows (definitions rows) a.row i → has_word word.Leaf (slice_get rows i) ≡ true → named_as rows facts x i ≡ Some k → IsLeafBelow nodes root k
  leaf_at_end root x a i k is t stands has e =
      let n = down_to x a i k is stands e in
      let own : has_word word.Leaf (Some n.place.row) ≡ true = sym (ap (has_word word.Leaf) n.row_there) ∙ has in
      record {
        node = n.node;
        there = at k n.node n.there;
        leaf = leaf_by rows facts all order expansion k n.place.place n.place.row n.node.kind own (given_shape rows facts all order expansion k n.node n.place);
        through = through_parent root x n.node.parent t n.parent;
      }

  -- a container on the way
  record IsNext (root : ℕ) (i y : ℕ) : Type 0 where
    place : Instance
    there : slice_get facts.nodes y ≡ Some place
    row_is : place.row ≡ i
    through : IsThrough nodes root (Some y)

  next_down : (root x : ℕ) (a : Instance) (i y : ℕ) → slice_get facts.nodes x ≡ Some a → IsThrough nodes root (Some x) → Stands rows (definitions rows) a.row i → has_word word.Container (slice_get rows i) ≡ true → named_as rows facts x i ≡ Some y → IsNext root i y
  next_down root x a i y is t stands has e =
      let n = down_to x a i y is stands e in
      let own : has_word word.Container (Some n.place.row) ≡ true = sym (ap (has_word word.Container) n.row_there) ∙ has in
      let kind_is = container_by rows facts y n.place.place n.place.row n.node.kind own (given_shape rows facts all order expansion y n.node n.place) in
      record {
        place = n.place.place;
        there = n.place.there;
        row_is = n.row_is;
        through = within n.node (at y n.node n.there) kind_is (through_parent root x n.node.parent t n.parent);
      }

  further_down : (root x : ℕ) (a : Instance) (i j : ℕ) (rest : List ℕ) (k : ℕ) → slice_get facts.nodes x ≡ Some a → IsThrough nodes root (Some x) → Stands rows (definitions rows) a.row i → has_word word.Container (slice_get rows i) ≡ true
      → IsWay rows (definitions rows) i (j ∷ rest) → (o : Option ℕ) → named_as rows facts x i ≡ o → fold (further rows facts) o (j ∷ rest) ≡ Some k
      → ((y : ℕ) (b : Instance) → slice_get facts.nodes y ≡ Some b → IsThrough nodes root (Some y) → IsWay rows (definitions rows) b.row (j ∷ rest) → fold (further rows facts) (Some y) (j ∷ rest) ≡ Some k → IsLeafBelow nodes root k) → IsLeafBelow nodes root k
  further_down root x a i j rest k is t stands has way None none f below = absurd (fold_none rows facts (j ∷ rest) k f)
  further_down root x a i j rest k is t stands has way (Some y) to f below =
      let n = next_down root x a i y is t stands has to in
      below y n.place n.there n.through (subst (λ (r : ℕ). IsWay rows (definitions rows) r (j ∷ rest)) (sym n.row_is) way) f

  leaf_below : (way : List ℕ) (root x : ℕ) (a : Instance) (k : ℕ) → slice_get facts.nodes x ≡ Some a → IsThrough nodes root (Some x) → IsWay rows (definitions rows) a.row way → fold (further rows facts) (Some x) way ≡ Some k → IsLeafBelow nodes root k
  leaf_below [] root x a k is t way e = absurd way
  leaf_below (i ∷ []) root x a k is t way e = leaf_at_end root x a i k is t way.0 way.1 e
  leaf_below (i ∷ j ∷ rest) root x a k is t way e = further_down root x a i j rest k is t way.0 way.1 way.2 (named_as rows facts x i) refl e (λ y b at_y through below f. leaf_below (j ∷ rest) root y b k at_y through below f)

  -- the groups of a list
  group_leaf : (x : ℕ) (a : Instance) (u : List (List ℕ)) (group : List ℕ) (k : ℕ) (o : Option (List (List (List ℕ)))) → slice_get facts.nodes x ≡ Some a → uniques_of rows (definitions rows) (standing facts) a.row ≡ o → groups_of rows facts x o ≡ Some u
      → Contains u group → Contains group k → IsLeafBelow nodes x k
  unfolding group_in reached
  group_leaf x a u group k None is of e c d = absurd (cc)
  group_leaf x a u group k (Some uniques) is of e c d =
      let ways = all_of (group_in rows facts x) uniques u group e c in
      let way = all_of (reached rows facts x) ways.0 group k ways.2 d in
      leaf_below way.0 x x a k is directly (unique_way rows (definitions rows) (standing facts) a.row uniques ways.0 way.0 of ways.1 way.1) way.2

  unique_by : (x : ℕ) (a : Instance) (w : Word) (m : NodeKind) (group : List ℕ) (k : ℕ) → slice_get facts.nodes x ≡ Some a → IsShape rows facts x a w m → Contains (uniques_of_node m) group → Contains group k → IsLeafBelow nodes x k
  unfolding groups_in
  unique_by x a w m group k is (container p i e) c d = absurd (nothing group (subst (λ (n : NodeKind). Contains (uniques_of_node n) group) e c))
  unique_by x a w m group k is (leaf t v b to i e y l f) c d = absurd (nothing group (subst (λ (n : NodeKind). Contains (uniques_of_node n) group) e c))
  unique_by x a w m group k is (leaf_list t to n i e y f) c d = absurd (nothing group (subst (λ (n : NodeKind). Contains (uniques_of_node n) group) e c))
  unique_by x a w m group k is (listed keys u n i e s g) c d =
      group_leaf x a u group k (uniques_of rows (definitions rows) (standing facts) a.row) is refl g (subst (λ (n : NodeKind). Contains (uniques_of_node n) group) e c) d

  pub unique_leaf : (x : ℕ) (n : Node) (group : List ℕ) (k : ℕ) → node_of rows facts x ≡ Some n → Contains (uniques_of_node n.kind) group → Contains group k → IsLeafBelow nodes x k
  unique_leaf x n group k e c d =
      let p = placed rows facts x n e in
      unique_by x p.place p.row.word n.kind group k p.there (given_shape rows facts all order expansion x n p) c d
