-- The first path that was changed is the least of those that are gone through.
use Rattle.std.proofs.Common.{◌≡◌, ◌⊎◌, List, [], ◌∷◌, ◌++◌, map as each, fold, filter, Bool, true, false, cond, ◌||◌, Option, Some, None, is_some, if◌then◌else◌, refl, sym, ap, subst, ◌∙◌, inl, inr}
use Rattle.std.specs.List.{flat_map}
use Rattle.std.specs.Option.{option_or}
use Rattle.std.specs.FinMap.{get, keys, contains_key}
use Rattle.nm_types.specs.declared.value.Value.{Value}
use Rattle.nm_schema_tree.specs.Nodes.{SchemaTree}
use Rattle.nm_path.specs.Spelling.{node_of}
use Rattle.nm_config.specs.Rows.{Rows}
use Rattle.nm_config.specs.Under.{is_under}
use Rattle.nm_validate_rules.specs.Standing.{is_own_at}
use Rattle.nm_validate_rules.specs.Values.{is_same_path}
use Rattle.nm_validate_rules.specs.Violation.{lesser, least_of}
use Rattle.nm_validate_rules.proofs.Among.{Among, both, any_passes, among_map, among_left, among_right, among_flat, among_filter, filter_passes}
use Rattle.nm_validate_rules.proofs.Areas.{key_among}
use Rattle.nm_validate_rules.proofs.Least.{least_is, least_passes, least_first, none_passes}
use Rattle.nm_validate_rules.proofs.Lists.{either, or_left, or_right, not_true, among_append}
use Rattle.nm_validate_rules.proofs.Placed.{any_at, both_true}
use Rattle.nm_overlay.specs.Differences.{differs}
use Rattle.nm_overlay.specs.Places.{Pair, gone_at}
use Rattle.nm_overlay.proofs.Order.{Place}
use Rattle.nm_edit.specs.Acts.{coming}
use Rattle.nm_edit.specs.Laws.{last_at, goes}
use Rattle.nm_edit.specs.Said.{gone_below}
use Rattle.nm_edit.proofs.Data.{among_last}
use Rattle.nm_edit.proofs.Named.{same_path, path_itself}
use Rattle.nm_undo.specs.Inverse.{Undoing}
use Rattle.nm_undo.specs.Since.{is_among, is_brought, is_taken, looks_at, acts_of, is_changed, IsFirstOf, path_alone, own_alone, ArePaths, differs_at, noted}
use Rattle.nm_undo.proofs.Maps.{has, from_flat}

-- ---- the least of paths that pass a test

abbrev paths : List Pair → List Place
paths pairs = each (λ p. p.0) pairs

noted_some : (test : Place → Bool) (m : Place) (ps : List Pair) → fold (noted test) (Some m) ps ≡ Some (fold lesser m (filter test (paths ps)))
noted_some test m [] = refl
noted_some test m (p ∷ ps) = by (test p.0) (noted_some test m ps) (noted_some test (lesser m p.0) ps)
  where
    by : (b : Bool) → fold (noted test) (Some m) ps ≡ Some (fold lesser m (filter test (paths ps))) → fold (noted test) (Some (lesser m p.0)) ps ≡ Some (fold lesser (lesser m p.0) (filter test (paths ps)))
        → fold (noted test) (if b then Some (lesser m p.0) else Some m) ps ≡ Some (fold lesser m (cond b (p.0 ∷ filter test (paths ps)) (filter test (paths ps))))
    by true less more = more
    by false less more = less

noted_none : (test : Place → Bool) (ps : List Pair) → fold (noted test) None ps ≡ least_of (filter test (paths ps))
noted_none test [] = refl
noted_none test (p ∷ ps) = by (test p.0) (noted_none test ps)
  where
    by : (b : Bool) → fold (noted test) None ps ≡ least_of (filter test (paths ps))
        → fold (noted test) (if b then Some p.0 else None) ps ≡ least_of (cond b (p.0 ∷ filter test (paths ps)) (filter test (paths ps)))
    by true less = noted_some test p.0 ps
    by false less = less

filter_among : (test : Place → Bool) (xs : List Place) (x : Place) → Among (filter test xs) x → Among xs x
filter_among test [] x a = a
filter_among test (y ∷ ys) x a = by (test y) (filter_among test ys x) a
  where
    by : (b : Bool) → (Among (filter test ys) x → Among ys x) → Among (cond b (y ∷ filter test ys) (filter test ys)) x → (x ≡ y) ⊎ Among ys x
    by true more (inl same) = inl same
    by true more (inr later) = inr (more later)
    by false more later = inr (more later)

-- ---- the paths that are gone through

pub record PathOf (pairs : List Pair) (path : Place) : Type 0 where
  pub pair : Pair
  pub among : Among pairs pair
  pub is : path ≡ pair.0

path_later : (p : Pair) (pairs : List Pair) (path : Place) → PathOf pairs path → PathOf (p ∷ pairs) path
path_later p pairs path h = record { pair = h.pair; among = inr h.among; is = h.is }

path_of : (pairs : List Pair) (path : Place) → Among (paths pairs) path → PathOf pairs path
path_of [] path a = absurd a
path_of (p ∷ pairs) path (inl same) = record { pair = p; among = inl refl; is = same }
path_of (p ∷ pairs) path (inr a) = path_later p pairs path (path_of pairs path a)

own_looks : (row : Place × Value) (own b : Bool) → own ≡ b → (pair : Pair) → Among (if b then gone_at row.0 ∷ [] else []) pair → (own ≡ true) × (pair.0 ≡ row.0)
own_looks row own true is pair (inl same) = (is, ap (λ (p : Pair). p.0) same)
own_looks row own true is pair (inr a) = absurd a
own_looks row own false is pair a = absurd a

alone_of : (rows : List Pair) (pair : Pair) → Among (each path_alone rows) pair → is_among rows pair.0 ≡ true
alone_of [] pair a = absurd a
alone_of (r ∷ rows) pair (inl same) = or_left (is_same_path pair.0 r.0) (is_among rows pair.0) (path_itself pair.0 r.0 (ap (λ (p : Pair). p.0) same))
alone_of (r ∷ rows) pair (inr a) = or_right (is_same_path pair.0 r.0) (is_among rows pair.0) (alone_of rows pair a)

alone_there : (rows : List Pair) (path : Place) → is_among rows path ≡ true → Among (each path_alone rows) (gone_at path)
alone_there [] path e = absurd (cc)
alone_there (r ∷ rows) path e = elim (either (is_same_path path r.0) (is_among rows path) e) [
  | inl here ↦ inl (ap gone_at (same_path path r.0 here))
  | inr later ↦ inr (alone_there rows path later)
]

gone_passes : (node : Place) (ps : List Place) → ((p : Place) → Among ps p → is_under node p ≡ true) → (pair : Pair) → Among (each gone_at ps) pair → is_under node pair.0 ≡ true
gone_passes node [] passes pair a = absurd a
gone_passes node (p ∷ ps) passes pair (inl same) = ap (λ (x : Pair). is_under node x.0) same ∙ passes p (inl refl)
gone_passes node (p ∷ ps) passes pair (inr a) = gone_passes node ps (λ q b. passes q (inr b)) pair a

below_of : (rows : Rows) (nodes : List Place) (pair : Pair) → Among (flat_map (gone_below rows) nodes) pair → goes nodes pair.0 ≡ true
below_of rows nodes pair a =
    let f = from_flat (gone_below rows) nodes pair a in
    any_at (λ node. is_under node pair.0) nodes f.x f.among
    (gone_passes f.x (filter (is_under f.x) (keys rows)) (λ p b. filter_passes (is_under f.x) (keys rows) p b) pair f.of)

below_there : (rows : Rows) (nodes : List Place) (path : Place) → goes nodes path ≡ true → contains_key rows path ≡ true → Among (flat_map (gone_below rows) nodes) (gone_at path)
below_there rows nodes path e there =
    let h = any_passes (λ node. is_under node path) nodes e in
    among_flat (gone_below rows) nodes h.x (gone_at path) h.among
    (among_map gone_at (filter (is_under h.x) (keys rows)) path (among_filter (is_under h.x) (keys rows) path (key_among rows path there) h.passes))

-- where two configurations differ a row stands in one of them
one_there : (x y : Option Value) → differs x y ≡ true → (is_some x ≡ true) ⊎ (is_some y ≡ true)
one_there (Some v) y e = inl refl
one_there None (Some w) e = inr refl
one_there None None e = absurd (cc)

or_some : {X : Type 0} (a b : Option X) → is_some b ≡ true → is_some (option_or a b) ≡ true
or_some (Some x) b e = refl
or_some None b e = e

some_or : {X : Type 0} (a b : Option X) → is_some a ≡ true → is_some (option_or a b) ≡ true
some_or (Some x) b e = refl
some_or None b e = absurd (cc)

some_last_at : (rows : List (Place × Value)) (row : Place × Value) → Among rows row → is_some (last_at rows row.0) ≡ true
some_last_at [] row a = absurd a
some_last_at (r ∷ rows) row (inl same) =
    or_some (last_at rows row.0) (if is_same_path row.0 r.0 then Some r.1 else None)
    (ap (λ b. is_some (if b then Some r.1 else None)) (path_itself row.0 r.0 (ap (λ (x : Place × Value). x.0) same)))
some_last_at (r ∷ rows) row (inr a) = some_or (last_at rows row.0) (if is_same_path row.0 r.0 then Some r.1 else None) (some_last_at rows row a)

clash : (b : Bool) → b ≡ true → b ≡ false → ⊥
clash true e h = cc
clash false e h = cc

module _ (t : SchemaTree) (u : Undoing) (made now : Rows) (pairs : List Pair) (are : ArePaths t u made now pairs) where
  -- the parts of the paths
  abbrev rows_part : List Pair
  rows_part = each path_alone u.rows

  abbrev own_part : List Pair
  own_part = flat_map (own_alone t) (coming (acts_of u))

  abbrev made_part : List Pair
  made_part = flat_map (gone_below made) are.nodes

  abbrev now_part : List Pair
  now_part = flat_map (gone_below now) are.nodes

  looks_taken : (path : Place) → goes are.nodes path ≡ true → looks_at t u (acts_of u) path ≡ true
  looks_taken path g =
      or_right (is_among u.rows path) (is_brought t (acts_of u) path || is_taken t (acts_of u) path)
      (or_right (is_brought t (acts_of u) path) (is_taken t (acts_of u) path) (sym (are.once path) ∙ g))

  looks_own : (pair : Pair) → Among own_part pair → looks_at t u (acts_of u) pair.0 ≡ true
  looks_own pair a =
      let f = from_flat (own_alone t) (coming (acts_of u)) pair a in
      let h = own_looks f.x (is_own_at t.nodes (node_of t f.x.0)) (is_own_at t.nodes (node_of t f.x.0)) refl pair f.of in
      let own : is_own_at t.nodes (node_of t pair.0) ≡ true = ap (λ (p : Place). is_own_at t.nodes (node_of t p)) h.1 ∙ h.0 in
      let comes : is_some (last_at (coming (acts_of u)) pair.0) ≡ true = ap (λ (p : Place). is_some (last_at (coming (acts_of u)) p)) h.1 ∙ some_last_at (coming (acts_of u)) f.x f.among in
      or_right (is_among u.rows pair.0) (is_brought t (acts_of u) pair.0 || is_taken t (acts_of u) pair.0)
      (or_left (is_brought t (acts_of u) pair.0) (is_taken t (acts_of u) pair.0) (both_true (is_own_at t.nodes (node_of t pair.0)) (is_some (last_at (coming (acts_of u)) pair.0)) own comes))

  -- what is gone through is looked at
  looks : (pair : Pair) → Among pairs pair → looks_at t u (acts_of u) pair.0 ≡ true
  looks pair a =
      elim (among_append (rows_part ++ own_part ++ made_part) now_part pair (subst (λ (ps : List Pair). Among ps pair) are.all a)) [
        | inr last ↦ looks_taken pair.0 (below_of now are.nodes pair last)
        | inl front ↦ elim (among_append (rows_part ++ own_part) made_part pair front) [
          | inr third ↦ looks_taken pair.0 (below_of made are.nodes pair third)
          | inl former ↦ elim (among_append rows_part own_part pair former) [
            | inl first ↦ or_left (is_among u.rows pair.0) (is_brought t (acts_of u) pair.0 || is_taken t (acts_of u) pair.0) (alone_of u.rows pair first)
            | inr second ↦ looks_own pair second
          ]
        ]
      ]

  to_now : (path : Place) → goes are.nodes path ≡ true → contains_key now path ≡ true → Among pairs (gone_at path)
  to_now path g there = subst (λ (ps : List Pair). Among ps (gone_at path)) (sym are.all) (among_right (rows_part ++ own_part ++ made_part) now_part (gone_at path) (below_there now are.nodes path g there))

  to_made : (path : Place) → goes are.nodes path ≡ true → contains_key made path ≡ true → Among pairs (gone_at path)
  to_made path g there =
      subst (λ (ps : List Pair). Among ps (gone_at path)) (sym are.all)
      (among_left (rows_part ++ own_part ++ made_part) now_part (gone_at path) (among_right (rows_part ++ own_part) made_part (gone_at path) (below_there made are.nodes path g there)))

  to_own : (path : Place) → is_brought t (acts_of u) path ≡ true → Among pairs (gone_at path)
  to_own path b =
      let h = both (is_own_at t.nodes (node_of t path)) (is_some (last_at (coming (acts_of u)) path)) b in
      let v = has (last_at (coming (acts_of u)) path) h.1 in
      let one : Among (own_alone t (path, v.value)) (gone_at path) = subst (λ b. Among (if b then gone_at path ∷ [] else []) (gone_at path)) (sym h.0) (inl refl) in
      let own = among_flat (own_alone t) (coming (acts_of u)) (path, v.value) (gone_at path) (among_last (coming (acts_of u)) path v.value v.is) one in
      subst (λ (ps : List Pair). Among ps (gone_at path)) (sym are.all)
      (among_left (rows_part ++ own_part ++ made_part) now_part (gone_at path) (among_left (rows_part ++ own_part) made_part (gone_at path) (among_right rows_part own_part (gone_at path) own)))

  to_rows : (path : Place) → is_among u.rows path ≡ true → Among pairs (gone_at path)
  to_rows path e =
      subst (λ (ps : List Pair). Among ps (gone_at path)) (sym are.all)
      (among_left (rows_part ++ own_part ++ made_part) now_part (gone_at path) (among_left (rows_part ++ own_part) made_part (gone_at path) (among_left rows_part own_part (gone_at path) (alone_there u.rows path e))))

  -- what is changed is gone through
  goes_through : (path : Place) → looks_at t u (acts_of u) path ≡ true → differs (get made path) (get now path) ≡ true → Among pairs (gone_at path)
  goes_through path l d = elim (either (is_among u.rows path) (is_brought t (acts_of u) path || is_taken t (acts_of u) path) l) [
    | inl rows_have ↦ to_rows path rows_have
    | inr rest ↦ elim (either (is_brought t (acts_of u) path) (is_taken t (acts_of u) path) rest) [
      | inl brought_there ↦ to_own path brought_there
      | inr taken_there ↦ elim (one_there (get made path) (get now path) d) [
        | inl before ↦ to_made path (are.once path ∙ taken_there) before
        | inr after ↦ to_now path (are.once path ∙ taken_there) after
      ]
    ]
  ]

  changed_through : (path : Place) → is_changed t u made now path ≡ true → Among (paths pairs) path × (differs_at made now path ≡ true)
  changed_through path c =
      let h = both (looks_at t u (acts_of u) path) (differs (get made path) (get now path)) c in
      (among_map (λ (p : Pair). p.0) pairs (gone_at path) (goes_through path h.0 h.1), h.1)

  first_by : (o : Option Place) → least_of (filter (differs_at made now) (paths pairs)) ≡ o → IsFirstOf (is_changed t u made now) o
  first_by None e = λ path. not_true (is_changed t u made now path) (λ c.
      let h = changed_through path c in
      clash (differs_at made now path) h.1 (none_passes (differs_at made now) (paths pairs) path e h.0))
  first_by (Some f) e =
      let among = filter_among (differs_at made now) (paths pairs) f (least_is (filter (differs_at made now) (paths pairs)) f e).among in
      let p = path_of pairs f among in
      let its : looks_at t u (acts_of u) f ≡ true = ap (looks_at t u (acts_of u)) p.is ∙ looks p.pair p.among in
      record {
        passes = both_true (looks_at t u (acts_of u) f) (differs_at made now f) its (least_passes (differs_at made now) (paths pairs) f e);
        least = λ other c. let h = changed_through other c in least_first (differs_at made now) (paths pairs) f other e h.0 h.1;
      }

  -- the least of the paths that are gone through, of those at which the two differ, is the first that was changed
  pub first_is : IsFirstOf (is_changed t u made now) (fold (noted (differs_at made now)) None pairs)
  first_is = subst (IsFirstOf (is_changed t u made now)) (sym (noted_none (differs_at made now) pairs)) (first_by (least_of (filter (differs_at made now) (paths pairs))) refl)
