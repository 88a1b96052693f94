-- Where a node may stand is among its places.
use Rattle.std.proofs.Common.{◌≡◌, ℕ, zero, suc, ◌<◌, List, [], ◌∷◌, ◌++◌, Bool, true, false, ◌&&◌, Option, Some, None, if◌then◌else◌, refl, sym, ap, ◌∙◌, subst, append-nil, append_assoc, inl, arith}
use Rattle.std.specs.Prelude.{filter}
use Rattle.std.specs.List.{fold}
use Rattle.std.specs.Ordering.{eq_by_cmp}
use Rattle.std.specs.FinMap.{contains_key, contains_key-keys, keys}
use Rattle.std.proofs.lemmas.Grind.{fold-append}
use Rattle.nm_types.specs.Path.{PathStep, Choice, whole, keys as by_keys, entry, path_cmp}
use Rattle.nm_types.specs.PathLaws.{same_path_decides}
use Rattle.nm_schema_tree.specs.Nodes.{SchemaTree, parent_in, parent_of, case_at, is_guard_at}
use Rattle.nm_schema_tree.specs.Levels.{IsTree}
use Rattle.nm_path.specs.Spelling.{node_of}
use Rattle.nm_config.specs.Rows.{Rows}
use Rattle.nm_config.specs.Under.{is_whole}
use Rattle.nm_validate_rules.specs.Standing.{is_own_at}
use Rattle.nm_validate_rules.specs.Cases.{bare, is_allowed}
use Rattle.nm_validate_rules.specs.Guards.{is_allowed_at, is_open_step, holds_below, holds_from, holds_at, stands_from, stands, leads_to, is_node}
use Rattle.nm_validate_rules.specs.Places.{chain_of, placed, areas_below, areas, places}
use Rattle.nm_validate_rules.specs.Violated.{is_area_of}
use Rattle.nm_validate_rules.proofs.Among.{Among, any_passes, both, among_filter, among_map}
use Rattle.nm_validate_rules.proofs.Leading.{LeadsBy, by_last, bare_is, node_is, itself}

-- ---- rows

pub key_among : (rows : Rows) (path : List PathStep) → contains_key rows path ≡ true → Among (keys rows) path
key_among rows path e =
    let h = any_passes (eq_by_cmp path_cmp path) (keys rows) (sym (contains_key-keys rows path) ∙ e) in
    let same : path ≡ h.x = (same_path_decides path h.x (eq_by_cmp path_cmp path h.x) refl).0 h.passes in
    subst (λ p. Among (keys rows) p) (sym same) h.among

-- ---- the last step of a path

-- a path ends with a step
pub record Ends (path : List PathStep) : Type 0 where
  pub above : List PathStep
  pub step : PathStep
  pub is : path ≡ above ++ step ∷ []

longer : (s : PathStep) (path : List PathStep) → Ends path → Ends (s ∷ path)
longer s path h = record { above = s ∷ h.above; step = h.step; is = ap (λ p. s ∷ p) h.is }

pub ends : (s : PathStep) (ss : List PathStep) → Ends (s ∷ ss)
ends s [] = record { above = []; step = s; is = refl }
ends s (r ∷ ss) = longer s (r ∷ ss) (ends r ss)

pub whole_is : (c : Choice) → is_whole c ≡ true → c ≡ whole
whole_is whole e = refl
whole_is (by_keys vs) e = absurd (cc)
whole_is (entry v) e = absurd (cc)

-- what stands at the end of steps: what guards its place holds, and its own case does
record StandsBy (t : SchemaTree) (rows : Rows) (holds : Bool) (at ss : List PathStep) : Type 0 where
  above : List PathStep
  step : PathStep
  is : ss ≡ above ++ step ∷ []
  holds_above : holds_from t rows holds at above ≡ true
  open_step : is_open_step t rows (at ++ above) step ≡ true

module _ (t : SchemaTree) (rows : Rows) where
  pub holds_by_last : (holds : Bool) (at : List PathStep) (ss : List PathStep) (s : PathStep)
      → holds_from t rows holds at (ss ++ s ∷ []) ≡ holds_below t rows (holds_from t rows holds at ss) (at ++ ss) s
  holds_by_last holds at [] s = ap (λ p. holds_below t rows holds p s) (sym (append-nil at))
  holds_by_last holds at (r ∷ ss) s =
      holds_by_last (holds_below t rows holds at r) (at ++ r ∷ []) ss s
      ∙ ap (λ p. holds_below t rows (holds_from t rows (holds_below t rows holds at r) (at ++ r ∷ []) ss) p s) (append_assoc at (r ∷ []) ss)

  stands_by : (holds : Bool) (at : List PathStep) (ss : List PathStep) → stands_from t rows holds at ss ≡ true → StandsBy t rows holds at ss
  stands_by holds at [] e = absurd (cc)
  stands_by holds at (s ∷ []) e =
      let h = both holds (is_open_step t rows at s) e in
      record { above = []; step = s; is = refl; holds_above = h.0; open_step = ap (λ p. is_open_step t rows p s) (append-nil at) ∙ h.1 }
  stands_by holds at (s ∷ r ∷ ss) e =
      let h = stands_by (holds_below t rows holds at s) (at ++ s ∷ []) (r ∷ ss) e in
      record {
        above = s ∷ h.above;
        step = h.step;
        is = ap (λ p. s ∷ p) h.is;
        holds_above = h.holds_above;
        open_step = ap (λ p. is_open_step t rows p h.step) (sym (append_assoc at (s ∷ []) h.above)) ∙ h.open_step;
      }

  -- ---- places below places

  among_placed : (below : List (List PathStep)) (x : ℕ) (above : List PathStep) (s : PathStep) → Among below above → is_allowed t rows above (case_at t.nodes x) ≡ true → bare t.nodes x ≡ s
      → Among (placed t rows below x) (above ++ s ∷ [])
  among_placed below x above s a allowed is =
      let kept = among_filter (λ p. is_allowed t rows p (case_at t.nodes x)) below above a allowed in
      subst (λ r. Among (placed t rows below x) (above ++ r ∷ [])) is (among_map (λ p. p ++ bare t.nodes x ∷ []) (filter (λ p. is_allowed t rows p (case_at t.nodes x)) below) above kept)

  own_by : (g : Bool) (x : ℕ) (below : List (List PathStep)) (above : List PathStep) (s : PathStep) (holds : Bool)
      → (if g then contains_key rows (above ++ s ∷ []) else (holds && is_open_step t rows above s)) ≡ true → node_of t (above ++ s ∷ []) ≡ Some x → LeadsBy t above s x
      → (holds ≡ true → Among below above) → Among (if g then filter (leads_to t x) (keys rows) else placed t rows below x) (above ++ s ∷ [])
  own_by true x below above s holds there at leads more =
      among_filter (leads_to t x) (keys rows) (above ++ s ∷ []) (key_among rows (above ++ s ∷ []) there) (ap (is_node x) at ∙ itself x)
  own_by false x below above s holds there at leads more =
      let h = both holds (is_open_step t rows above s) there in
      let k = both (is_whole s.chosen) (is_allowed_at t rows above (node_of t (above ++ s ∷ []))) h.1 in
      among_placed below x above s (more h.0) (sym (ap (is_allowed_at t rows above) at) ∙ k.1) (bare_is t s x leads.node leads.there leads.owner_is leads.name_is (whole_is s.chosen k.0))

  one_more : (x : ℕ) (below : List (List PathStep)) (above : List PathStep) (s : PathStep) → node_of t (above ++ s ∷ []) ≡ Some x → holds_at t rows (above ++ s ∷ []) ≡ true
      → (holds_at t rows above ≡ true → Among below above) → Among (areas_below t rows below x) (above ++ s ∷ [])
  one_more x below above s at holds more =
      own_by (is_guard_at t.nodes x) x below above s (holds_at t rows above)
      (sym (ap (λ b. if b then contains_key rows (above ++ s ∷ []) else (holds_at t rows above && is_open_step t rows above s)) (ap (is_own_at t.nodes) at)) ∙ sym (holds_by_last true [] above s) ∙ holds)
      at (by_last t above s x at) more

  -- ---- from the top down

  start : List (List PathStep)
  start = [] ∷ []

  nowhere : (x : ℕ) → node_of t [] ≡ Some x → ⊥
  unfolding node_of
  nowhere x e = cc

  top_is : (above : List PathStep) → is_area_of t None above ≡ true → Among start above
  unfolding start
  top_is [] e = inl refl
  top_is (s ∷ ss) e = absurd (cc)

  -- the places below node x, where those below what it stands in are known
  reached-by : (n : ℕ) (o : Option ℕ) (above : List PathStep) → is_area_of t o above ≡ true
      → ((p : ℕ) → o ≡ Some p → node_of t above ≡ Some p → Among (fold (areas_below t rows) start (chain_of t.nodes n (Some p))) above)
      → Among (fold (areas_below t rows) start (chain_of t.nodes n o)) above
  reached-by n None above area more = top_is above area
  reached-by n (Some p) above area more = more p refl (node_is p (node_of t above) area)

  reached-last : (n x : ℕ) (above : List PathStep) (s : PathStep) → x < suc n → IsTree t.nodes → node_of t (above ++ s ∷ []) ≡ Some x → holds_at t rows (above ++ s ∷ []) ≡ true
      → ((p : ℕ) → p < n → node_of t above ≡ Some p → holds_at t rows above ≡ true → Among (fold (areas_below t rows) start (chain_of t.nodes n (Some p))) above)
      → Among (fold (areas_below t rows) start (chain_of t.nodes (suc n) (Some x))) (above ++ s ∷ [])
  reached-last n x above s lt tree at holds more =
      let f = areas_below t rows in
      let leads = by_last t above s x at in
      let parent : parent_of t.nodes x ≡ leads.node.parent = ap parent_in leads.there in
      let below = fold f start (chain_of t.nodes n (parent_of t.nodes x)) in
      let is : fold f start (chain_of t.nodes (suc n) (Some x)) ≡ f below x = fold-append f start (chain_of t.nodes n (parent_of t.nodes x)) (x ∷ []) in
      subst (λ l. Among l (above ++ s ∷ [])) (sym is) (one_more x below above s at holds (λ held. reached-by n (parent_of t.nodes x) above (ap (λ o. is_area_of t o above) parent ∙ leads.area)
      (λ p is_p there. let lower = tree.parents x p leads.node leads.there (sym parent ∙ is_p) in more p (omega (arith, lower, lt)) there held)))

  -- a place below a node, where its guard holds, is among the places below the node
  reached : (n x : ℕ) (above : List PathStep) → x < n → IsTree t.nodes → node_of t above ≡ Some x → holds_at t rows above ≡ true
      → Among (fold (areas_below t rows) start (chain_of t.nodes n (Some x))) above
  reached zero x above lt tree at holds = absurd (omega (arith, lt))
  reached (suc n) x [] lt tree at holds = absurd (nowhere x at)
  reached (suc n) x (s ∷ ss) lt tree at holds =
      let e = ends s ss in
      subst (λ p. Among (fold (areas_below t rows) start (chain_of t.nodes (suc n) (Some x))) p) (sym e.is)
      (reached-last n x e.above e.step lt tree (ap (node_of t) (sym e.is) ∙ at) (ap (holds_at t rows) (sym e.is) ∙ holds) (λ p less there held. reached n p e.above less tree there held))

  -- a place whose guard holds is among the places below its node
  pub among_areas : IsTree t.nodes → (parent : Option ℕ) (above : List PathStep) → is_area_of t parent above ≡ true → holds_at t rows above ≡ true → Among (areas t rows parent) above
  unfolding start
  among_areas tree None above area holds = top_is above area
  among_areas tree (Some p) above area holds = reached (suc p) p above (omega arith) tree (node_is p (node_of t above) area) holds

  -- where node x may stand is one of its places
  pub among_places : IsTree t.nodes → (x : ℕ) (path : List PathStep) → node_of t path ≡ Some x → stands t rows path ≡ true → Among (places t rows x) path
  unfolding places
  among_places tree x path at holds =
      let h = stands_by true [] path holds in
      let at_last : node_of t (h.above ++ h.step ∷ []) ≡ Some x = ap (node_of t) (sym h.is) ∙ at in
      let leads = by_last t h.above h.step x at_last in
      let parent : leads.node.parent ≡ parent_of t.nodes x = ap parent_in (sym leads.there) in
      let k = both (is_whole h.step.chosen) (is_allowed_at t rows h.above (node_of t (h.above ++ h.step ∷ []))) h.open_step in
      let area = among_areas tree (parent_of t.nodes x) h.above (ap (λ o. is_area_of t o h.above) (sym parent) ∙ leads.area) h.holds_above in
      subst (λ p. Among (placed t rows (areas t rows (parent_of t.nodes x)) x) p) (sym h.is)
      (among_placed (areas t rows (parent_of t.nodes x)) x h.above h.step area (sym (ap (is_allowed_at t rows h.above) at_last) ∙ k.1)
      (bare_is t h.step x leads.node leads.there leads.owner_is leads.name_is (whole_is h.step.chosen k.0)))
