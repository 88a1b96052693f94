-- The places of a node lead to it, and it may stand there.
use Rattle.std.proofs.Common.{◌≡◌, ℕ, zero, suc, ◌+◌, ◌<◌, List, [], ◌∷◌, ◌++◌, map, length, Bool, true, false, cond, ◌&&◌, ◌||◌, Option, Some, None, if◌then◌else◌, slice_get, refl, sym, ap, ◌∙◌, subst, append-nil, append_assoc, inl, inr, arith}
use Rattle.std.proofs.lemmas.Grind.{common_steps, fold-append}
use Rattle.std.proofs.lemmas.Option.{none-some}
use Rattle.std.proofs.lemmas.Slice.Eq.{bytes_eq-Decides}
use Rattle.std.specs.Prelude.{filter, Contains, ◌↔◌}
use Rattle.std.specs.List.{fold, position_from, list_any}
use Rattle.std.specs.Str.{bytes_eq}
use Rattle.std.specs.Ordering.{eq_by_cmp}
use Rattle.std.specs.FinMap.{contains_key, contains_key-keys, keys}
use Rattle.nm_types.specs.Path.{PathStep, path_cmp}
use Rattle.nm_types.specs.PathLaws.{paths_equiv}
use Rattle.nm_schema_tree.specs.declared.node.Node.{Node}
use Rattle.nm_schema_tree.specs.Nodes.{SchemaTree, same_parent, is_named, is_top, first_named, first_top, parent_in, parent_of, module_in, module_at, case_at, is_guard_at}
use Rattle.nm_schema_tree.specs.Levels.{IsTree}
use Rattle.nm_schema_tree.proofs.Positions.{first_passes}
use Rattle.nm_path.specs.Spelling.{is_module, if_of, found_of, below, node_of}
use Rattle.nm_path.specs.Sound.{AreApart, IsSound}
use Rattle.nm_config.specs.Rows.{Rows}
use Rattle.nm_config.specs.Under.{is_whole}
use Rattle.nm_validate_rules.specs.Standing.{is_own_at}
use Rattle.nm_validate_rules.specs.Cases.{bare_in, bare, is_allowed}
use Rattle.nm_validate_rules.specs.Guards.{is_allowed_at, is_open_step, holds_below, holds_from, holds_at, stands_from, stands, leads_to, is_node}
use Rattle.nm_validate_rules.specs.Places.{chain_of, placed, areas_below, areas, places}
use Rattle.nm_validate_rules.specs.Violated.{is_area_of}
use Rattle.nm_validate_rules.proofs.Among.{Among, filter_passes, contains_among, among_contains}
use Rattle.nm_validate_rules.proofs.Leading.{top_named, child_named, node_is, itself, place_at, node_last}
use Rattle.nm_validate_rules.proofs.Areas.{ends, holds_by_last, among_places}

-- ---- lists

kept_by : {X : Type 0} (b : Bool) (y : X) (kept ys : List X) (x : X) → (Among kept x → Among ys x) → Among (cond b (y ∷ kept) kept) x → Among (y ∷ ys) x
kept_by true y kept ys x more (inl same) = inl same
kept_by true y kept ys x more (inr a) = inr (more a)
kept_by false y kept ys x more a = inr (more a)

filter_among : {X : Type 0} (test : X → Bool) (xs : List X) (x : X) → Among (filter test xs) x → Among xs x
filter_among test [] x a = a
filter_among test (y ∷ ys) x a = kept_by (test y) y (filter test ys) ys x (filter_among test ys x) a

-- what was mapped
record Mapped {X Y : Type 0} (f : X → Y) (xs : List X) (y : Y) : Type 0 where
  x : X
  among : Among xs x
  is : y ≡ f x

mapped_later : {X Y : Type 0} (f : X → Y) (z : X) (xs : List X) (y : Y) → Mapped f xs y → Mapped f (z ∷ xs) y
mapped_later f z xs y h = record { x = h.x; among = inr h.among; is = h.is }

map_among : {X Y : Type 0} (f : X → Y) (xs : List X) (y : Y) → Among (map f xs) y → Mapped f xs y
map_among f [] y a = absurd a
map_among f (z ∷ zs) y (inl same) = record { x = z; among = inl refl; is = same }
map_among f (z ∷ zs) y (inr a) = mapped_later f z zs y (map_among f zs y a)

later_by : (a b : Bool) → b ≡ true → (a || b) ≡ true
later_by true b e = refl
later_by false b e = e

pub any_at : {X : Type 0} (test : X → Bool) (xs : List X) (x : X) → Among xs x → test x ≡ true → list_any test xs ≡ true
any_at test [] x a e = absurd a
any_at test (y ∷ ys) x (inl same) e = ap (λ b. b || list_any test ys) (ap test (sym same) ∙ e)
any_at test (y ∷ ys) x (inr a) e = later_by (test y) (list_any test ys) (any_at test ys x a e)

pub key_there : (rows : Rows) (path : List PathStep) → Among (keys rows) path → contains_key rows path ≡ true
key_there rows path a = contains_key-keys rows path ∙ any_at (eq_by_cmp path_cmp path) (keys rows) path a (paths_equiv.refl path)

-- ---- the first node of a name is the one

position_by : {X : Type 0} (f : X → Bool) (b : Bool) (n : ℕ) (o : Option ℕ) → (i : ℕ) × (o ≡ Some i) → (i : ℕ) × (cond b (Some n) o ≡ Some i)
position_by f true n o h = (n, refl)
position_by f false n o h = h

position_here : (b : Bool) (n : ℕ) (o : Option ℕ) → b ≡ true → (i : ℕ) × (cond b (Some n) o ≡ Some i)
position_here true n o e = (n, refl)
position_here false n o e = absurd (cc)

some_position : {X : Type 0} (f : X → Bool) (n : ℕ) (xs : List X) (k : ℕ) (x : X) → slice_get xs k ≡ Some x → f x ≡ true → (i : ℕ) × (position_from f n xs ≡ Some i)
some_position f n [] k x e passes = absurd (none-some x e)
some_position f n (y ∷ ys) zero x e passes =
    let same : y ≡ x = cc in
    position_here (f y) n (position_from f (n + 1) ys) (ap f same ∙ passes)
some_position f n (y ∷ ys) (suc k) x e passes = position_by f (f y) n (position_from f (n + 1) ys) (some_position f (n + 1) ys k x e passes)

same_bytes : (a : List ℕ) → bytes_eq a a ≡ true
same_bytes a = (bytes_eq-Decides a a).1 refl

all_three : (a b c : Bool) → a ≡ true → b ≡ true → c ≡ true → (a && (b && c)) ≡ true
all_three a b c p q r = ap (λ x. x && (b && c)) p ∙ ap (λ x. x && c) q ∙ r

pub both_true : (a b : Bool) → a ≡ true → b ≡ true → (a && b) ≡ true
both_true a b p q = ap (λ x. x && b) p ∙ q

same_itself : (o : Option ℕ) → same_parent o o ≡ true
same_itself None = refl
same_itself (Some i) = grind (arith, common_steps)

nowhere : (t : SchemaTree) (x : ℕ) → node_of t [] ≡ Some x → ⊥
unfolding node_of
nowhere t x e = cc

module _ (t : SchemaTree) (tree : IsTree t.nodes) (apart : AreApart t.nodes) where
  top_is : (x : ℕ) (n : Node) → slice_get t.nodes x ≡ Some n → n.parent ≡ None → first_top t.nodes n.«module» n.name ≡ Some x
  unfolding first_top
  top_is x n there parent =
      let passes = all_three (bytes_eq n.«module» n.«module») (same_parent n.parent None) (bytes_eq n.name n.name) (same_bytes n.«module») (ap (λ o. same_parent o None) parent) (same_bytes n.name) in
      let at = some_position (is_top n.«module» n.name) 0 t.nodes x n there passes in
      let h = top_named t.nodes n.«module» n.name at.0 at.1 in
      at.1 ∙ ap Some (apart at.0 x h.node n h.there there (record { parent = h.parent_is ∙ sym parent; «module» = h.owner_is; name = h.name_is }))

  one_module : (a b : List ℕ) (o : Option (List ℕ)) → o ≡ Some a → o ≡ Some b → a ≡ b
  one_module a b o p q = cc

  child_is : (p x : ℕ) (n : Node) → slice_get t.nodes x ≡ Some n → n.parent ≡ Some p → first_named t.nodes p n.name ≡ Some x
  unfolding first_named
  child_is p x n there parent =
      let passes = both_true (same_parent n.parent (Some p)) (bytes_eq n.name n.name) (ap (λ o. same_parent o (Some p)) parent ∙ same_itself (Some p)) (same_bytes n.name) in
      let at = some_position (is_named (Some p) n.name) 0 t.nodes x n there passes in
      let h = first_passes (is_named (Some p) n.name) t.nodes at.0 at.1 in
      let k = child_named t.nodes p n.name at.0 h.x h.here at.1 in
      let owner = one_module h.x.«module» n.«module» (module_at t.nodes p) (tree.modules at.0 p h.x h.here k.0) (tree.modules x p n there parent) in
      at.1 ∙ ap Some (apart at.0 x h.x n h.here there (record { parent = k.0 ∙ sym parent; «module» = owner; name = k.1 }))

  if_is : (x : ℕ) (n : Node) → slice_get t.nodes x ≡ Some n → if_of t.nodes n.«module» (Some x) ≡ Some x
  if_is x n there = ap (λ (b : Bool). if b then Some x else None) (ap (is_module n.«module») there ∙ same_bytes n.«module»)

  to_place : (o : Option ℕ) (x : ℕ) (n : Node) (above : List PathStep) → slice_get t.nodes x ≡ Some n → n.parent ≡ o → is_area_of t o above ≡ true
      → found_of t.nodes (place_at t above) n.«module» n.name ≡ Some x
  to_place None x n [] there parent area = top_is x n there parent
  to_place None x n (s ∷ ss) there parent area = absurd (cc)
  to_place (Some p) x n [] there parent area = absurd (nowhere t p (node_is p (node_of t []) area))
  to_place (Some p) x n (s ∷ ss) there parent area =
      ap (λ (o : Option ℕ). found_of t.nodes (below o) n.«module» n.name) (node_is p (node_of t (s ∷ ss)) area)
      ∙ ap (if_of t.nodes n.«module») (child_is p x n there parent) ∙ if_is x n there

  -- the bare step of a node leads to it from where its parent leads
  pub bare_leads : (x : ℕ) (n : Node) (above : List PathStep) → slice_get t.nodes x ≡ Some n → is_area_of t n.parent above ≡ true → node_of t (above ++ bare t.nodes x ∷ []) ≡ Some x
  bare_leads x n above there area =
      node_last t above (bare t.nodes x) ∙ ap (λ (s : PathStep). found_of t.nodes (place_at t above) s.«module» s.name) (ap bare_in there) ∙ to_place n.parent x n above there refl area

-- ---- places

-- a place whose guard holds
record IsArea (t : SchemaTree) (rows : Rows) (parent : Option ℕ) (above : List PathStep) : Type 0 where
  leads : is_area_of t parent above ≡ true
  holds : holds_at t rows above ≡ true

-- where node x may stand
record IsPlace (t : SchemaTree) (rows : Rows) (x : ℕ) (path : List PathStep) : Type 0 where
  leads : node_of t path ≡ Some x
  there : stands t rows path ≡ true
  holds : is_guard_at t.nodes x ≡ false → holds_at t rows path ≡ true

start : List (List PathStep)
start = [] ∷ []

stands_by_last : (t : SchemaTree) (rows : Rows) (holds : Bool) (at ss : List PathStep) (s : PathStep) → stands_from t rows holds at (ss ++ s ∷ []) ≡ (holds_from t rows holds at ss && is_open_step t rows (at ++ ss) s)
stands_by_last t rows holds at [] s = ap (λ p. holds && is_open_step t rows p s) (sym (append-nil at))
stands_by_last t rows holds at (r ∷ []) s = refl
stands_by_last t rows holds at (r ∷ q ∷ ss) s =
    stands_by_last t rows (holds_below t rows holds at r) (at ++ r ∷ []) (q ∷ ss) s
    ∙ ap (λ p. holds_from t rows (holds_below t rows holds at r) (at ++ r ∷ []) (q ∷ ss) && is_open_step t rows p s) (append_assoc at (r ∷ []) (q ∷ ss))

module _ (t : SchemaTree) (rows : Rows) (tree : IsTree t.nodes) (apart : AreApart t.nodes) where
  open_bare : (x : ℕ) (n : Node) (a : List PathStep) → slice_get t.nodes x ≡ Some n → node_of t (a ++ bare t.nodes x ∷ []) ≡ Some x → is_allowed t rows a (case_at t.nodes x) ≡ true
      → is_open_step t rows a (bare t.nodes x) ≡ true
  open_bare x n a there at allowed =
      both_true (is_whole (bare t.nodes x).chosen) (is_allowed_at t rows a (node_of t (a ++ bare t.nodes x ∷ []))) (ap (λ o. is_whole (bare_in o).chosen) there) (ap (is_allowed_at t rows a) at ∙ allowed)

  below_is : (b : Bool) (own : Bool) (path : List PathStep) (other : Bool) → own ≡ b → b ≡ false → (if own then contains_key rows path else other) ≡ other
  below_is b own path other is f = ap (λ c. if c then contains_key rows path else other) (is ∙ f)

  placed_is : (below_it : List (List PathStep)) (x : ℕ) (n : Node) → slice_get t.nodes x ≡ Some n → ((above : List PathStep) → Among below_it above → IsArea t rows n.parent above)
      → (path : List PathStep) → Among (placed t rows below_it x) path → IsPlace t rows x path
  placed_is below_it x n there each path a =
      let m = map_among (λ (above : List PathStep). above ++ bare t.nodes x ∷ []) (filter (λ above. is_allowed t rows above (case_at t.nodes x)) below_it) path a in
      let area = each m.x (filter_among (λ above. is_allowed t rows above (case_at t.nodes x)) below_it m.x m.among) in
      let allowed = filter_passes (λ above. is_allowed t rows above (case_at t.nodes x)) below_it m.x m.among in
      let at = bare_leads t tree apart x n m.x there area.leads in
      let open_step = open_bare x n m.x there at allowed in
      let both_hold = both_true (holds_at t rows m.x) (is_open_step t rows m.x (bare t.nodes x)) area.holds open_step in
      record {
        leads = ap (node_of t) m.is ∙ at;
        there = ap (stands t rows) m.is ∙ stands_by_last t rows true [] m.x (bare t.nodes x) ∙ both_hold;
        holds = λ f. ap (holds_at t rows) m.is ∙ holds_by_last t rows true [] m.x (bare t.nodes x)
            ∙ below_is (is_guard_at t.nodes x) (is_own_at t.nodes (node_of t (m.x ++ bare t.nodes x ∷ []))) (m.x ++ bare t.nodes x ∷ []) (holds_at t rows m.x && is_open_step t rows m.x (bare t.nodes x)) (ap (is_own_at t.nodes) at) f
            ∙ both_hold;
      }

  own_holds : (x : ℕ) (path : List PathStep) → is_guard_at t.nodes x ≡ true → node_of t path ≡ Some x → contains_key rows path ≡ true → holds_at t rows path ≡ true
  own_holds x [] guard at there = absurd (nowhere t x at)
  own_holds x (s ∷ ss) guard at there =
      let e = ends s ss in
      let own : is_own_at t.nodes (node_of t (e.above ++ e.step ∷ [])) ≡ true = ap (is_own_at t.nodes) (ap (node_of t) (sym e.is) ∙ at) ∙ guard in
      ap (holds_at t rows) e.is ∙ holds_by_last t rows true [] e.above e.step
      ∙ ap (λ (b : Bool). if b then contains_key rows (e.above ++ e.step ∷ []) else (holds_at t rows e.above && is_open_step t rows e.above e.step)) own
      ∙ ap (contains_key rows) (sym e.is) ∙ there

  area_by : (g : Bool) (below_it : List (List PathStep)) (x : ℕ) (n : Node) → is_guard_at t.nodes x ≡ g → slice_get t.nodes x ≡ Some n → ((above : List PathStep) → Among below_it above → IsArea t rows n.parent above)
      → (path : List PathStep) → Among (if g then filter (leads_to t x) (keys rows) else placed t rows below_it x) path → IsArea t rows (Some x) path
  area_by true below_it x n guard there each path a =
      let at = filter_passes (leads_to t x) (keys rows) path a in
      record { leads = at; holds = own_holds x path guard (node_is x (node_of t path) at) (key_there rows path (filter_among (leads_to t x) (keys rows) path a)) }
  area_by false below_it x n guard there each path a =
      let h = placed_is below_it x n there each path a in
      record { leads = ap (is_node x) h.leads ∙ itself x; holds = h.holds guard }

  -- the node that another stands in is there
  parent_there : (x p : ℕ) (n : Node) → slice_get t.nodes x ≡ Some n → n.parent ≡ Some p → (o : Option Node) → slice_get t.nodes p ≡ o → (m : Node) × (slice_get t.nodes p ≡ Some m)
  parent_there x p n there parent None is = absurd (none-some n.«module» (sym (ap module_in is) ∙ tree.modules x p n there parent))
  parent_there x p n there parent (Some m) is = (m, is)

  from_top : (above : List PathStep) → Among start above → IsArea t rows None above
  unfolding start
  from_top above (inl same) = record { leads = ap (is_area_of t None) same; holds = ap (holds_at t rows) same }
  from_top above (inr a) = absurd a

  areas_above : (k x : ℕ) (n : Node) → x < suc k → slice_get t.nodes x ≡ Some n → ((p : ℕ) (m : Node) → p < k → slice_get t.nodes p ≡ Some m
      → (above : List PathStep) → Among (fold (areas_below t rows) start (chain_of t.nodes k (Some p))) above → IsArea t rows (Some p) above)
      → (o : Option ℕ) → n.parent ≡ o → (above : List PathStep) → Among (fold (areas_below t rows) start (chain_of t.nodes k o)) above → IsArea t rows o above
  areas_above k x n lt there more None parent above a = from_top above a
  areas_above k x n lt there more (Some p) parent above a =
      let m = parent_there x p n there parent (slice_get t.nodes p) refl in
      let lower = tree.parents x p n there parent in
      more p m.0 (omega (arith, lower, lt)) m.1 above a

  areas_from : (k x : ℕ) (n : Node) → x < k → slice_get t.nodes x ≡ Some n → (above : List PathStep) → Among (fold (areas_below t rows) start (chain_of t.nodes k (Some x))) above → IsArea t rows (Some x) above
  areas_from zero x n lt there above a = absurd (omega (arith, lt))
  areas_from (suc k) x n lt there above a =
      let f = areas_below t rows in
      let parent : parent_of t.nodes x ≡ n.parent = ap parent_in there in
      let below_it = fold f start (chain_of t.nodes k (parent_of t.nodes x)) in
      let is : fold f start (chain_of t.nodes (suc k) (Some x)) ≡ f below_it x = fold-append f start (chain_of t.nodes k (parent_of t.nodes x)) (x ∷ []) in
      let each = λ (path : List PathStep) (b : Among below_it path).
      areas_above k x n lt there (λ p m less at q c. areas_from k p m less at q c) n.parent refl path (subst (λ (o : Option ℕ). Among (fold f start (chain_of t.nodes k o)) path) parent b) in
      area_by (is_guard_at t.nodes x) below_it x n refl there each above (subst (λ l. Among l above) is a)

  areas_are : (x : ℕ) (n : Node) → slice_get t.nodes x ≡ Some n → (o : Option ℕ) → n.parent ≡ o → (above : List PathStep) → Among (areas t rows o) above → IsArea t rows o above
  unfolding start
  areas_are x n there None parent above a = from_top above a
  areas_are x n there (Some p) parent above a =
      let m = parent_there x p n there parent (slice_get t.nodes p) refl in
      areas_from (suc p) p m.0 (omega arith) m.1 above a

  -- each place of a node leads to it, and it may stand there
  pub places_are : (x : ℕ) (n : Node) → slice_get t.nodes x ≡ Some n → (path : List PathStep) → Among (places t rows x) path → (node_of t path ≡ Some x) × (stands t rows path ≡ true)
  unfolding places
  places_are x n there path a =
      let parent : parent_of t.nodes x ≡ n.parent = ap parent_in there in
      let h = placed_is (areas t rows (parent_of t.nodes x)) x n there (λ above b. areas_are x n there n.parent refl above (subst (λ (o : Option ℕ). Among (areas t rows o) above) parent b)) path a in
      (h.leads, h.there)

get_none : (xs : List Node) (i : ℕ) → i < length xs → slice_get xs i ≡ None → ⊥
get_none [] i lt e = absurd (omega (arith, lt))
get_none (y ∷ ys) zero lt e = cc
get_none (y ∷ ys) (suc i) lt e = get_none ys i (omega (arith, lt)) e

within : (t : SchemaTree) (x : ℕ) → x < length t.nodes → (o : Option Node) → slice_get t.nodes x ≡ o → (n : Node) × (slice_get t.nodes x ≡ Some n)
within t x lt None is = absurd (get_none t.nodes x lt is)
within t x lt (Some n) is = (n, is)

-- the places of a node are the paths at which it may stand
pub placed_law : (t : SchemaTree) (rows : Rows) (x : ℕ) (path : List PathStep) → IsSound t.nodes → x < length t.nodes
    → Contains (places t rows x) path ↔ ((node_of t path ≡ Some x) × (stands t rows path ≡ true))
placed_law t rows x path sound lt =
    let n = within t x lt (slice_get t.nodes x) refl in (
      λ c. places_are t rows sound.tree sound.apart x n.0 n.1 path (contains_among (places t rows x) path c),
      λ h. among_contains (places t rows x) path (among_places t rows sound.tree x path h.0 h.1),
    )
