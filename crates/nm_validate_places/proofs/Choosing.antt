-- Where mandatory choices have no node.
use Rattle.std.proofs.Common.{◌≡◌, ℕ, zero, suc, ◌-◌, ◌<◌, List, [], ◌∷◌, ◌++◌, map, length, Bool, true, false, cond, not, ◌&&◌, Option, Some, None, if◌then◌else◌, slice_get, refl, sym, ap, ◌∙◌, subst, inl, inr, append-nil, append_assoc, arith}
use Rattle.std.proofs.lemmas.Bool.Decides.{nat_tests}
use Rattle.std.specs.Prelude.{filter, nat_lt}
use Rattle.std.specs.List.{list_any, flat_map, range_with_len, find}
use Rattle.std.specs.FinMap.{contains_key, keys}
use Rattle.nm_types.specs.Path.{PathStep}
use Rattle.nm_types.specs.PathLaws.{same_path_decides, paths_equiv}
use Rattle.nm_schema_tree.specs.declared.choice.ChoiceNode.{ChoiceNode}
use Rattle.nm_schema_tree.specs.Nodes.{SchemaTree, choice_at, outer_case, parent_of, is_guard_at}
use Rattle.nm_schema_tree.specs.Levels.{IsTree}
use Rattle.nm_path.specs.Spelling.{node_of}
use Rattle.nm_path.specs.Sound.{IsSound}
use Rattle.nm_config.specs.Rows.{Rows}
use Rattle.nm_validate_rules.specs.declared.rule.Rule.TheVariants.{MandatoryChoice}
use Rattle.nm_validate_rules.specs.Standing.{is_own_at}
use Rattle.nm_validate_rules.specs.Cases.{numbers, is_choice, outwards, exists_at, is_allowed}
use Rattle.nm_validate_rules.specs.Guards.{front, is_node, leads_to, holds_below, holds_from, holds_at, stands_from, stands, is_open_step}
use Rattle.nm_validate_rules.specs.Places.{areas, placed, places, choice_step, choice_places, choice_places_of}
use Rattle.nm_validate_rules.specs.Values.{is_same_path}
use Rattle.nm_validate_rules.specs.Violated.{is_area_of, is_of_choice, has_node, is_choice_path, is_missing, violated}
use Rattle.nm_validate_rules.specs.Violation.{least_at}
use Rattle.nm_validate_rules.proofs.Among.{Among, any_passes, both, among_filter, filter_passes, among_map, among_flat, among_contains}
use Rattle.nm_validate_rules.proofs.Leading.{node_is, itself, by_last}
use Rattle.nm_validate_rules.proofs.Areas.{ends, holds_by_last, among_areas}
use Rattle.nm_validate_rules.proofs.Looked.{get_within}
use Rattle.nm_validate_rules.proofs.Placed.{any_at, key_there, placed_law}
use Rattle.nm_validate_places.specs.Least.{least_with}
use Rattle.nm_validate_places.specs.Choosing.{is_within, missing_by, missing_places}
use Rattle.nm_validate_places.proofs.Below.{any_kept, areas_are}
use Rattle.nm_validate_places.proofs.Gathered.{filter_among, flat_among, same_least}
use Rattle.nm_validate_places.proofs.Leasts.{filter_none, least_is_found}

-- ---- a choice among those outwards of a case

module _ (t : SchemaTree) (k : ℕ) where
  abbrev pub first_case : ℕ → Option ℕ → Option ℕ
  first_case n o = find (λ c. is_choice k (choice_at t.cases c)) (outwards t n o)

  pub case_none : (n : ℕ) → first_case n None ≡ None
  case_none n = refl

  pub case_zero : (n : ℕ) (o : Option ℕ) → n ≡ 0 → first_case n o ≡ None
  case_zero zero None e = refl
  case_zero zero (Some own) e = refl
  case_zero (suc n) o e = absurd (omega (arith, e))

  pub case_here : (n own : ℕ) → 0 < n → is_choice k (choice_at t.cases own) ≡ true → first_case n (Some own) ≡ Some own
  case_here zero own lt e = absurd (omega (arith, lt))
  case_here (suc n) own lt e = ap (λ b. cond b (Some own) (first_case n (outer_case t.choices t.cases own))) e

  less_one : (n : ℕ) → n ≡ suc n - 1
  less_one n = omega arith

  pub case_on : (n own : ℕ) → 0 < n → is_choice k (choice_at t.cases own) ≡ false → first_case n (Some own) ≡ first_case (n - 1) (outer_case t.choices t.cases own)
  case_on zero own lt e = absurd (omega (arith, lt))
  case_on (suc n) own lt e =
      ap (λ b. cond b (Some own) (first_case n (outer_case t.choices t.cases own))) e ∙ ap (λ (m : ℕ). first_case m (outer_case t.choices t.cases own)) (less_one n)

-- ---- the places below what a choice stands in

pub stands_by_last : (t : SchemaTree) (rows : Rows) (holds : Bool) (at ss : List PathStep) (s : PathStep) → stands_from t rows holds at (ss ++ s ∷ []) ≡ (holds_from t rows holds at ss && is_open_step t rows (at ++ ss) s)
stands_by_last t rows holds at [] s = ap (λ p. holds && is_open_step t rows p s) (sym (append-nil at))
stands_by_last t rows holds at (r ∷ []) s = refl
stands_by_last t rows holds at (r ∷ q ∷ ss) s =
    stands_by_last t rows (holds_below t rows holds at r) (at ++ r ∷ []) (q ∷ ss) s
    ∙ ap (λ p. holds_from t rows (holds_below t rows holds at r) (at ++ r ∷ []) (q ∷ ss) && is_open_step t rows p s) (append_assoc at (r ∷ []) (q ∷ ss))

nowhere : (t : SchemaTree) (x : ℕ) → node_of t [] ≡ Some x → ⊥
unfolding node_of
nowhere t x e = cc

lower_is : (a b : ℕ) → a < b → nat_lt a b ≡ true
lower_is a b e = grind (arith, nat_tests)

contrary : true ≡ false → ⊥
contrary e = cc

not_passing : (b : Bool) → (b ≡ true → ⊥) → b ≡ false
not_passing true h = absurd (h refl)
not_passing false h = refl

pub front_last : (above : List PathStep) (s : PathStep) → front (above ++ s ∷ []) ≡ above
front_last [] s = refl
front_last (r ∷ []) s = refl
front_last (r ∷ q ∷ ss) s = ap (λ p. r ∷ p) (front_last (q ∷ ss) s)

-- ---- lists

pub one_or : {Y : Type 0} (c : Bool) (y : Y) (ys : List Y) → (if c then y ∷ [] else []) ++ ys ≡ cond c (y ∷ ys) ys
one_or true y ys = refl
one_or false y ys = refl

gathered_one : {X Y : Type 0} (b c : Bool) (x : X) (xs : List X) (f : X → Y) (test : Y → Bool) → test (f x) ≡ (b && c)
    → (if b && c then f x ∷ [] else []) ++ filter test (map f xs) ≡ filter test (map f (cond b (x ∷ xs) xs))
gathered_one true c x xs f test e = one_or c (f x) (filter test (map f xs)) ∙ ap (λ d. cond d (f x ∷ filter test (map f xs)) (filter test (map f xs))) (sym e)
gathered_one false c x xs f test e = refl

-- what is put for each of a list is what passes a test of what is mapped
gathered : {X Y : Type 0} (allowed more : X → Bool) (f : X → Y) (test : Y → Bool) (put : X → List Y) (xs : List X) → ((x : X) → Among xs x → test (f x) ≡ (allowed x && more x))
    → ((x : X) → put x ≡ (if allowed x && more x then f x ∷ [] else [])) → flat_map put xs ≡ filter test (map f (filter allowed xs))
gathered allowed more f test put [] tests made = refl
gathered allowed more f test put (x ∷ xs) tests made =
    ap (λ l. l ++ flat_map put xs) (made x)
    ∙ ap (λ l. (if allowed x && more x then f x ∷ [] else []) ++ l) (gathered allowed more f test put xs (λ y a. tests y (inr a)) made)
    ∙ gathered_one (allowed x) (more x) x (filter allowed xs) f test (tests x (inl refl))

lower_by : (a b : ℕ) → nat_lt a b ≡ true → a < b
lower_by a b e = grind (arith, nat_tests)

-- what a choice that misses its nodes at a path has there
record Misses (t : SchemaTree) (rows : Rows) (c : ChoiceNode) (path : List PathStep) : Type 0 where
  same : path ≡ front path ++ choice_step c ∷ []
  area : is_area_of t c.parent (front path) ≡ true
  holds : holds_at t rows (front path) ≡ true
  allowed : is_allowed t rows (front path) c.case_in ≡ true

module _ (t : SchemaTree) (rows : Rows) where
  -- the path of a list or a container with presence that has a row
  own_holds : (x : ℕ) (path : List PathStep) → is_guard_at t.nodes x ≡ true → node_of t path ≡ Some x → contains_key rows path ≡ true → holds_at t rows path ≡ true
  own_holds x [] guard at there = absurd (nowhere t x at)
  own_holds x (s ∷ ss) guard at there =
      let e = ends s ss in
      let own : is_own_at t.nodes (node_of t (e.above ++ e.step ∷ [])) ≡ true = ap (is_own_at t.nodes) (ap (node_of t) (sym e.is) ∙ at) ∙ guard in
      ap (holds_at t rows) e.is ∙ holds_by_last t rows true [] e.above e.step
      ∙ ap (λ (b : Bool). if b then contains_key rows (e.above ++ e.step ∷ []) else (holds_at t rows e.above && is_open_step t rows e.above e.step)) own
      ∙ ap (contains_key rows) (sym e.is) ∙ there

  -- that of a container without presence
  other_holds : (x : ℕ) (path : List PathStep) → is_guard_at t.nodes x ≡ false → node_of t path ≡ Some x → stands t rows path ≡ true → holds_at t rows path ≡ true
  other_holds x [] guard at there = absurd (nowhere t x at)
  other_holds x (s ∷ ss) guard at there =
      let e = ends s ss in
      let other : is_own_at t.nodes (node_of t (e.above ++ e.step ∷ [])) ≡ false = ap (is_own_at t.nodes) (ap (node_of t) (sym e.is) ∙ at) ∙ guard in
      ap (holds_at t rows) e.is ∙ holds_by_last t rows true [] e.above e.step
      ∙ ap (λ (b : Bool). if b then contains_key rows (e.above ++ e.step ∷ []) else (holds_at t rows e.above && is_open_step t rows e.above e.step)) other
      ∙ sym (stands_by_last t rows true [] e.above e.step) ∙ ap (stands t rows) (sym e.is) ∙ there

  abbrev Holds : Option ℕ → List PathStep → Type 0
  Holds parent above = (is_area_of t parent above ≡ true) × (holds_at t rows above ≡ true)

  below_node : IsSound t.nodes → (p : ℕ) → p < length t.nodes → (g : Bool) → is_guard_at t.nodes p ≡ g → (above : List PathStep)
      → Among (if g then filter (leads_to t p) (keys rows) else placed t rows (areas t rows (parent_of t.nodes p)) p) above → Holds (Some p) above
  unfolding places
  below_node sound p lt true guard above a =
      let leads = filter_passes (leads_to t p) (keys rows) above a in
      (leads, own_holds p above guard (node_is p (node_of t above) leads) (key_there rows above (filter_among (leads_to t p) (keys rows) above a)))
  below_node sound p lt false guard above a =
      let h = (placed_law t rows p above sound lt).0 (among_contains (places t rows p) above a) in
      (ap (is_node p) h.0 ∙ itself p, other_holds p above guard h.0 h.1)

  -- each place below what a choice stands in leads there, and what guards it holds
  pub area_holds : IsSound t.nodes → (parent : Option ℕ) → is_within t parent ≡ true → (above : List PathStep) → Among (areas t rows parent) above → Holds parent above
  area_holds sound None within above (inl same) = (ap (is_area_of t None) same, ap (holds_at t rows) same)
  area_holds sound None within above (inr a) = absurd a
  area_holds sound (Some p) within above a =
      below_node sound p (lower_by p (length t.nodes) within) (is_guard_at t.nodes p) refl above (subst (λ l. Among l above) (areas_are t sound.tree rows p) a)

  -- ---- where a choice has no node though it has to have one

  pub node_within : (q : ℕ) (path : List PathStep) → node_of t path ≡ Some q → q < length t.nodes
  node_within q [] at = absurd (nowhere t q at)
  node_within q (s ∷ ss) at =
      let e = ends s ss in
      let leads = by_last t e.above e.step q (ap (node_of t) (sym e.is) ∙ at) in
      get_within t.nodes q leads.node leads.there

  area_within : (o : Option ℕ) (above : List PathStep) → is_area_of t o above ≡ true → is_within t o ≡ true
  area_within None above e = refl
  area_within (Some q) above e = lower_is q (length t.nodes) (node_within q above (node_is q (node_of t above) e))

  misses : (c : ChoiceNode) (k : ℕ) (path : List PathStep) → is_missing t rows path k (Some c) ≡ true → Misses t rows c path
  misses c k path e =
      let a = both (c.mandatory && is_choice_path t c path && holds_at t rows (front path) && is_allowed t rows (front path) c.case_in) (not (has_node t rows (front path) k)) e in
      let b = both (c.mandatory && is_choice_path t c path && holds_at t rows (front path)) (is_allowed t rows (front path) c.case_in) a.0 in
      let d = both (c.mandatory && is_choice_path t c path) (holds_at t rows (front path)) b.0 in
      let f = both c.mandatory (is_choice_path t c path) d.0 in
      let p = both (is_same_path path (front path ++ choice_step c ∷ [])) (is_area_of t c.parent (front path)) f.1 in
      record {
        same = (same_path_decides path (front path ++ choice_step c ∷ []) (is_same_path path (front path ++ choice_step c ∷ [])) refl).0 p.0;
        area = p.1;
        holds = d.1;
        allowed = b.1;
      }

  misses_placed : IsTree t.nodes → (k : ℕ) (o : Option ChoiceNode) → slice_get t.choices k ≡ o → (path : List PathStep) → is_missing t rows path k o ≡ true → Among (choice_places t rows k) path
  unfolding choice_places
  misses_placed tree k None there path e = absurd (cc)
  misses_placed tree k (Some c) there path e =
      let h = misses c k path e in
      let test = λ (above : List PathStep). is_allowed t rows above c.case_in in
      let kept = among_filter test (areas t rows c.parent) (front path) (among_areas t rows tree c.parent (front path) h.area h.holds) h.allowed in
      let put = among_map (λ (above : List PathStep). above ++ choice_step c ∷ []) (filter test (areas t rows c.parent)) (front path) kept in
      subst (λ o. Among (choice_places_of t rows o) path) (sym there) (subst (λ q. Among (choice_places_of t rows (Some c)) q) (sym h.same) put)

  -- ---- the places of a choice, one after another

  pub not_there : (k : ℕ) → slice_get t.choices k ≡ None → missing_places t rows k ≡ []
  unfolding choice_places
  not_there k e = ap (λ o. filter (λ path. is_missing t rows path k o) (choice_places_of t rows o)) e

  pub not_wanted : (k : ℕ) (c : ChoiceNode) → slice_get t.choices k ≡ Some c → c.mandatory ≡ false → missing_places t rows k ≡ []
  not_wanted k c there e = filter_none (λ path. is_missing t rows path k (slice_get t.choices k)) (choice_places t rows k) (λ p a. ap (is_missing t rows p k) there
      ∙ ap (λ b. b && is_choice_path t c p && holds_at t rows (front p) && is_allowed t rows (front p) c.case_in && not (has_node t rows (front p) k)) e)

  pub beyond : (k : ℕ) (c : ChoiceNode) → slice_get t.choices k ≡ Some c → is_within t c.parent ≡ false → missing_places t rows k ≡ []
  beyond k c there e = filter_none (λ path. is_missing t rows path k (slice_get t.choices k)) (choice_places t rows k) (λ p a. ap (is_missing t rows p k) there
      ∙ not_passing (is_missing t rows p k (Some c)) (λ m. contrary (sym (area_within c.parent (front p) (misses c k p m).area) ∙ e)))

  wanted : (m cp h a n : Bool) → m ≡ true → cp ≡ true → h ≡ true → (m && cp && h && a && n) ≡ (a && n)
  wanted m cp h a n e f g = ap (λ b. b && cp && h && a && n) e ∙ ap (λ b. b && h && a && n) f ∙ ap (λ b. b && a && n) g

  at_area : (k : ℕ) (c : ChoiceNode) → c.mandatory ≡ true → (above : List PathStep) → Holds c.parent above
      → is_missing t rows (above ++ choice_step c ∷ []) k (Some c) ≡ (is_allowed t rows above c.case_in && not (has_node t rows above k))
  at_area k c must above h =
      let path = above ++ choice_step c ∷ [] in
      ap (λ (f : List PathStep). c.mandatory && (is_same_path path (f ++ choice_step c ∷ []) && is_area_of t c.parent f) && holds_at t rows f && is_allowed t rows f c.case_in && not (has_node t rows f k))
      (front_last above (choice_step c))
      ∙ wanted c.mandatory (is_same_path path path && is_area_of t c.parent above) (holds_at t rows above) (is_allowed t rows above c.case_in) (not (has_node t rows above k)) must
      (ap (λ b. b && is_area_of t c.parent above) (paths_equiv.refl path) ∙ h.0) h.1

  missing_at : (k : ℕ) (c : ChoiceNode) (nodes : List ℕ) → nodes ≡ filter (is_of_choice t k) (numbers t.nodes) → (above : List PathStep)
      → missing_by t rows c nodes above ≡ (if is_allowed t rows above c.case_in && not (has_node t rows above k) then (above ++ choice_step c ∷ []) ∷ [] else [])
  unfolding has_node
  missing_at k c nodes is above =
      let put = λ (b : Bool). if b then (above ++ choice_step c ∷ []) ∷ [] else [] in
      ap (λ b. put (is_allowed t rows above c.case_in && not b)) (ap (list_any (exists_at t rows above)) is ∙ any_kept (is_of_choice t k) (exists_at t rows above) (numbers t.nodes))

  -- the places of a choice that has to have a node, those where it has none
  pub choice_missing : IsSound t.nodes → (k : ℕ) (c : ChoiceNode) (nodes : List ℕ) → slice_get t.choices k ≡ Some c → c.mandatory ≡ true → is_within t c.parent ≡ true
      → nodes ≡ filter (is_of_choice t k) (numbers t.nodes) → flat_map (missing_by t rows c nodes) (areas t rows c.parent) ≡ missing_places t rows k
  unfolding choice_places
  choice_missing sound k c nodes there must within is =
      gathered (λ a. is_allowed t rows a c.case_in) (λ a. not (has_node t rows a k)) (λ a. a ++ choice_step c ∷ []) (λ path. is_missing t rows path k (Some c)) (missing_by t rows c nodes)
      (areas t rows c.parent) (λ a m. at_area k c must a (area_holds sound c.parent within a m)) (missing_at k c nodes is)
      ∙ ap (λ o. filter (λ path. is_missing t rows path k o) (choice_places_of t rows o)) (sym there)

  -- ---- all choices

  to_violated : (path : List PathStep) → Among (flat_map (missing_places t rows) (range_with_len 0 (length t.choices))) path
      → Among (filter (violated t rows MandatoryChoice) (flat_map (choice_places t rows) (range_with_len 0 (length t.choices)))) path
  to_violated path a =
      let g = flat_among (missing_places t rows) (range_with_len 0 (length t.choices)) path a in
      let test = λ (p : List PathStep). is_missing t rows p g.x (slice_get t.choices g.x) in
      among_filter (violated t rows MandatoryChoice) (flat_map (choice_places t rows) (range_with_len 0 (length t.choices))) path
      (among_flat (choice_places t rows) (range_with_len 0 (length t.choices)) g.x path g.among (filter_among test (choice_places t rows g.x) path g.within))
      (any_at (λ k. is_missing t rows path k (slice_get t.choices k)) (range_with_len 0 (length t.choices)) g.x g.among (filter_passes test (choice_places t rows g.x) path g.within))

  from_violated : IsTree t.nodes → (path : List PathStep) → Among (filter (violated t rows MandatoryChoice) (flat_map (choice_places t rows) (range_with_len 0 (length t.choices)))) path
      → Among (flat_map (missing_places t rows) (range_with_len 0 (length t.choices))) path
  from_violated tree path a =
      let v = filter_passes (violated t rows MandatoryChoice) (flat_map (choice_places t rows) (range_with_len 0 (length t.choices))) path a in
      let h = any_passes (λ k. is_missing t rows path k (slice_get t.choices k)) (range_with_len 0 (length t.choices)) v in
      among_flat (missing_places t rows) (range_with_len 0 (length t.choices)) h.x path h.among
      (among_filter (λ p. is_missing t rows p h.x (slice_get t.choices h.x)) (choice_places t rows h.x) path (misses_placed tree h.x (slice_get t.choices h.x) refl path h.passes) h.passes)

  -- once all choices are looked at, what is found is the least
  pub all_choices : IsTree t.nodes → (i : ℕ) (found : Option (List PathStep)) → length t.choices - i ≡ 0
      → least_with found (flat_map (missing_places t rows) (range_with_len i (length t.choices - i))) ≡ least_with None (flat_map (missing_places t rows) (range_with_len 0 (length t.choices)))
      → found ≡ least_at t rows MandatoryChoice
  unfolding least_at
  all_choices tree i found done h =
      ap (λ (k : ℕ). least_with found (flat_map (missing_places t rows) (range_with_len i k))) (sym done) ∙ h
      ∙ least_is_found (flat_map (missing_places t rows) (range_with_len 0 (length t.choices)))
      ∙ same_least (flat_map (missing_places t rows) (range_with_len 0 (length t.choices))) (filter (violated t rows MandatoryChoice) (flat_map (choice_places t rows) (range_with_len 0 (length t.choices))))
      to_violated (from_violated tree)
