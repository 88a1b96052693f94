-- The nodes of a tree are used as configuration, and what is kept stands in it (RFC 7950 section 7.21.1).
use Rattle.std.proofs.Common.{◌≡◌, ◌∙◌, ◌<◌, inl, inr, ℕ, zero, suc, List, [], ◌∷◌, length, map, filter, Bool, true, false, cond, ◌&&◌, Option, Some, None, slice_get, refl, sym, ap, subst, arith}
use Rattle.std.specs.Prelude.{Contains, not, unwrap_or}
use Rattle.std.specs.Str.{bytes_eq}
use Rattle.std.proofs.lemmas.Bool.{and_parts}
use Rattle.std.proofs.lemmas.Option.{same_Some}
use Rattle.nm_schema_statements.specs.declared.row.Row.{Row}
use Rattle.nm_schema_statements.specs.declared.word.Word.{Word}
use Rattle.nm_schema_statements.specs.declared.word.Word.TheVariants as word
use Rattle.nm_schema_statements.specs.Flaw.{is_data}
use Rattle.nm_schema_statements.specs.Rows.{roots, same_parent, first_below}
use Rattle.nm_graph.specs.Value.{strict, all_there}
use Rattle.nm_schema_uses.specs.Arguments.{argument_at}
use Rattle.nm_schema_uses.specs.Holding.{is_fork, is_fork_row, is_fork_at, is_node, is_data_row, is_data_at, holding, bringing}
use Rattle.nm_schema_uses.specs.Config.{says_false, state_in, is_state, is_kept, kept_of, configuring, LeadsBy, one, further, ReachesBy, IsConfiguration}
use Rattle.nm_schema_uses.specs.Worth.{worth_within, worth_of}
use Rattle.nm_schema_uses.specs.Members.{bring, bring_step}
use Rattle.nm_schema_uses.specs.Passing.{is_plain, plain_of, brought_along, kept_members, plain_members}
use Rattle.nm_schema_nodes.specs.declared.instance.Instance.{Instance}
use Rattle.nm_schema_nodes.specs.Expansion.{kept_below, kept_in, module_row, is_grown, grown_members, children, tops, is_below, row_in, row_of, IsExpansion}
use Rattle.nm_schema_nodes.specs.Named.{has_name, is_child_named, child_named}
use Rattle.nm_schema_nodes.proofs.Unfolding.{unfold_one, unfold_within}
use Rattle.nm_schema_tree.proofs.Positions.{first_passes}
use Rattle.nm_schema_faults.specs.Facts.{Facts, definitions}
use Rattle.nm_schema.specs.Faultless.{AreFaultless}
use Rattle.nm_schema.proofs.Elements.{here, nothing, first_or_later, of_map, in_map, of_filter, in_list}
use Rattle.nm_schema.proofs.Onces.{own_bytes, same_bytes}
use Rattle.nm_schema.proofs.Claims.{AreOrderly, of_concat, in_concat, in_filter, same_holder}
use Rattle.nm_schema.proofs.Siblings.{Brings, alone, through, gathers, kept_stands, one_stands, of_bringing, value, made_by, kept_along}
use Rattle.nm_schema.proofs.Givens.{position_upto, parent_is}
use Rattle.nm_schema.proofs.Beside as beside
use Rattle.nm_schema.proofs.Nodes.{kept_in_parent, parent_there, row_at_place, parent_before}
use Rattle.nm_schema.proofs.Membered.{held_within, kept_known, along_known}

-- ---- what is kept

module _ (rows : List Row) (groupings : List (Option ℕ)) where
  abbrev kept_next : ℕ → List ℕ
  kept_next = kept_of (bringing rows groupings) rows

  kept_leads : (i k : ℕ) → Contains (kept_next i) k → Contains (configuring rows groupings i) k
  unfolding kept_of
  kept_leads i k c = let f = of_filter (is_kept rows) (bringing rows groupings i) k c in in_filter (is_kept rows) (holding rows groupings i) k (of_bringing rows groupings i k f.0).1 f.1

  leads_more : (i k j : ℕ) → LeadsBy (configuring rows groupings) i k → ReachesBy (configuring rows groupings) k j → LeadsBy (configuring rows groupings) i j
  leads_more i k j l (inl e) = subst (λ (x : ℕ). LeadsBy (configuring rows groupings) i x) e l
  leads_more i k j (one c) (inr m) = further k c m
  leads_more i k j (further o c l) (inr m) = further o c (leads_more o k j l (inr m))

  -- what is brought through what is kept is reached through it
  value_reaches : (steps i : ℕ) (nodes : List ℕ) (n : ℕ) → value rows groupings kept_next (kept_along rows groupings) steps i ≡ Some nodes → Contains nodes n → ReachesBy (configuring rows groupings) i n
  value_reaches zero i nodes n e c = absurd (cc)
  value_reaches (suc steps) i nodes n e c =
      let u = unfold_one (bring_step rows groupings) kept_next steps i nodes e in
      elim (made_by rows groupings i u.known nodes u.made) [
        | inl m ↦ elim (first_or_later i n [] (subst (λ (l : List ℕ). Contains l n) m.1 c)) [
          | inl same ↦ inl same
          | inr d ↦ absurd (nothing n d)
        ]
        | inr all ↦
            let r = of_concat (value rows groupings kept_next (kept_along rows groupings) steps) (kept_next i) u.known n u.there (subst (λ (l : List ℕ). Contains l n) all c) in
            inr (leads_more i r.row n (one (kept_leads i r.row r.among)) (value_reaches steps r.row r.nodes n r.known r.there))
      ]

  kept_reached : (i : ℕ) (nodes : List ℕ) (n : ℕ) → kept_members rows groupings i ≡ Some nodes → Contains nodes n → LeadsBy (configuring rows groupings) i n
  unfolding kept_members brought_along worth_of
  kept_reached i nodes n e c =
      let g = gathers (length rows) (all_there (map (brought_along rows groupings kept_next) (configuring rows groupings i))) nodes e in
      let r = of_concat (brought_along rows groupings kept_next) (configuring rows groupings i) g.0 n g.1 (subst (λ (l : List ℕ). Contains l n) g.2 c) in
      leads_more i r.row n (one r.among) (value_reaches (length rows) r.row r.nodes n r.known r.there)

  pub below_reached : (i n : ℕ) → Contains (kept_below rows groupings i) n → LeadsBy (configuring rows groupings) i n
  unfolding kept_below
  below_reached i n c = by (kept_members rows groupings i) refl c
    where
      by : (o : Option (List ℕ)) → kept_members rows groupings i ≡ o → Contains (unwrap_or o []) n → LeadsBy (configuring rows groupings) i n
      by None e d = absurd (nothing n d)
      by (Some nodes) e d = kept_reached i nodes n e d

  -- ---- what stands in no choice, and is no state, is kept

  plain_state : (k : ℕ) (o : Option Row) → is_fork_row o ≡ false → is_data_row o ≡ false → state_in rows k o ≡ false
  plain_state k None f d = refl
  plain_state k (Some r) f d = by r.word refl f d
    where
      by : (w : Word) → r.word ≡ w → is_fork w ≡ false → is_data w ≡ false → (is_node r.word && says_false rows (first_below rows k word.Config)) ≡ false
      by word.Choice is fork data_not = absurd (cc)
      by word.Container is fork data_not = absurd (cc)
      by word.Leaf is fork data_not = absurd (cc)
      by word.LeafList is fork data_not = absurd (cc)
      by word.List is fork data_not = absurd (cc)
      by _ is fork data_not = rw is refl

  not_state : (k : ℕ) → is_plain rows k ≡ true → is_data_at rows k ≡ false → is_state rows k ≡ false
  unfolding is_plain is_fork_at is_state
  not_state k plain data_not = plain_state k (slice_get rows k) (turned (is_fork_row (slice_get rows k)) plain) data_not
    where
      turned : (b : Bool) → not b ≡ true → b ≡ false
      turned true e = absurd (cc)
      turned false e = refl

  in_configuring : (i k : ℕ) → Contains (holding rows groupings i) k → is_kept rows k ≡ true → Contains (configuring rows groupings i) k
  unfolding kept_of
  in_configuring i k c kept = in_filter (is_kept rows) (holding rows groupings i) k c kept

  kept_row : (k : ℕ) → is_state rows k ≡ false → is_kept rows k ≡ true
  unfolding is_kept
  kept_row k e = ap not e

  abbrev plain_next : ℕ → List ℕ
  plain_next = plain_of (bringing rows groupings) rows

  module _ (are : AreOrderly rows groupings) where
    -- what row i brings through what is kept
    record IsBrought (i n : ℕ) : Type 0 where
      nodes : List ℕ
      known : brought_along rows groupings kept_next i ≡ Some nodes
      among : Contains nodes n

    -- a node of data brings itself
    data_made : (i : ℕ) (known : List (List ℕ)) (nodes : List ℕ) → is_data_at rows i ≡ true → bring_step rows groupings i known ≡ Some nodes → nodes ≡ i ∷ []
    unfolding bring_step
    data_made i known nodes d e = sym (same_Some (i ∷ []) nodes (sym (by (slice_get rows i) d) ∙ e))
      where
        by : (o : Option Row) → is_data_row o ≡ true → bring rows groupings i o known ≡ Some (i ∷ [])
        by None f = absurd (cc)
        by (Some r) f = rw f refl

    data_value : (next : ℕ → List ℕ) (steps i n : ℕ) (nodes : List ℕ) → is_data_at rows i ≡ true → worth_within (strict (bring_step rows groupings)) next steps i ≡ Some nodes → Contains nodes n → i ≡ n
    data_value next steps i n nodes d e c =
        let u = unfold_within (bring_step rows groupings) next steps i nodes e in
        elim (first_or_later i n [] (subst (λ (l : List ℕ). Contains l n) (data_made i u.known nodes d u.made) c)) [
          | inl same ↦ same
          | inr more ↦ absurd (nothing n more)
        ]

    own_brought : (i : ℕ) → i < length rows → is_data_at rows i ≡ true → IsBrought i i
    unfolding brought_along worth_of
    own_brought i lt d =
        let k = along_known rows groupings are kept_next (kept_along rows groupings) i lt in
        let u = unfold_within (bring_step rows groupings) kept_next (length rows) i k.0 k.1 in
        record { nodes = k.0; known = k.1; among = subst (λ (l : List ℕ). Contains l i) (sym (data_made i u.known k.0 d u.made)) (here i i [] refl) }

    through_brought : (i k n : ℕ) → i < length rows → is_data_at rows i ≡ false → Contains (kept_next i) k → IsBrought k n → IsBrought i n
    unfolding brought_along worth_of
    through_brought i k n lt data_not c b =
        let a = along_known rows groupings are kept_next (kept_along rows groupings) i lt in
        let u = unfold_within (bring_step rows groupings) kept_next (length rows) i a.0 a.1 in
        elim (made_by rows groupings i u.known a.0 u.made) [
          | inl m ↦ absurd (let no : true ≡ false = sym m.0 ∙ data_not in cc)
          | inr all ↦
              let there = in_concat (worth_within (strict (bring_step rows groupings)) kept_next (length rows)) (kept_next i) u.known k n b.nodes u.there c b.known b.among in
              record { nodes = a.0; known = a.1; among = subst (λ (l : List ℕ). Contains l n) (sym all) there }
        ]

    -- a row that brings what is no state is none, where it is neither a choice nor a case
    brings_none : (steps k n : ℕ) (nodes : List ℕ) → is_plain rows k ≡ true → worth_within (strict (bring_step rows groupings)) plain_next steps k ≡ Some nodes → Contains nodes n → is_state rows n ≡ false → is_state rows k ≡ false
    brings_none steps k n nodes plain e c none = by (is_data_at rows k) refl
      where
        by : (b : Bool) → is_data_at rows k ≡ b → is_state rows k ≡ false
        by true d = ap (is_state rows) (data_value plain_next steps k n nodes d e c) ∙ none
        by false d = not_state k plain d

    plain_brought : (steps i n : ℕ) (nodes : List ℕ) → worth_within (strict (bring_step rows groupings)) plain_next steps i ≡ Some nodes → i < length rows → Contains nodes n → is_state rows n ≡ false → IsBrought i n
    unfolding plain_of kept_of
    plain_brought zero i n nodes e lt c none = absurd (cc)
    plain_brought (suc steps) i n nodes e lt c none = by (is_data_at rows i) refl (λ k those f low d. plain_brought steps k n those f low d none)
      where
        by : (b : Bool) → is_data_at rows i ≡ b → ((k : ℕ) (those : List ℕ) → worth_within (strict (bring_step rows groupings)) plain_next steps k ≡ Some those → k < length rows → Contains those n → IsBrought k n) → IsBrought i n
        by true d rest = subst (λ (x : ℕ). IsBrought i x) (data_value plain_next (suc steps) i n nodes d e c) (own_brought i lt d)
        by false d rest =
            let u = unfold_one (bring_step rows groupings) plain_next steps i nodes e in
            elim (made_by rows groupings i u.known nodes u.made) [
              | inl m ↦ absurd (let no : true ≡ false = sym m.0 ∙ d in cc)
              | inr all ↦
                  let r = of_concat (worth_within (strict (bring_step rows groupings)) plain_next steps) (plain_next i) u.known n u.there (subst (λ (l : List ℕ). Contains l n) all c) in
                  let f = of_filter (is_plain rows) (bringing rows groupings i) r.row r.among in
                  let low = held_within rows groupings are i r.row (of_bringing rows groupings i r.row f.0).1 in
                  let kept = in_filter (is_kept rows) (bringing rows groupings i) r.row f.0 (kept_row r.row (brings_none steps r.row n r.nodes f.1 r.known r.there none)) in
                  through_brought i r.row n lt d kept (rest r.row r.nodes r.known low r.there)
            ]

    gathered_kept : (i k n : ℕ) → Contains (configuring rows groupings i) k → IsBrought k n → Contains (kept_below rows groupings i) n
    unfolding kept_below kept_members
    gathered_kept i k n c b =
        let a = kept_known rows groupings are i in
        let g = gathers (length rows) (all_there (map (brought_along rows groupings kept_next) (configuring rows groupings i))) a.0 a.1 in
        let there = in_concat (brought_along rows groupings kept_next) (configuring rows groupings i) g.0 k n b.nodes g.1 c b.known b.among in
        let among : Contains a.0 n = subst (λ (l : List ℕ). Contains l n) (sym g.2) there in
        subst (λ (o : Option (List ℕ)). Contains (unwrap_or o []) n) (sym a.1) among

    -- a member that stands in no choice is kept, where it is no state
    pub plain_kept : (i n : ℕ) (nodes : List ℕ) → plain_members rows groupings i ≡ Some nodes → Contains nodes n → is_state rows n ≡ false → Contains (kept_below rows groupings i) n
    unfolding plain_members brought_along worth_of plain_of
    plain_kept i n nodes e c none =
        let g = gathers (length rows) (all_there (map (worth_within (strict (bring_step rows groupings)) plain_next (length rows)) (filter (is_plain rows) (holding rows groupings i)))) nodes e in
        let r = of_concat (worth_within (strict (bring_step rows groupings)) plain_next (length rows)) (filter (is_plain rows) (holding rows groupings i)) g.0 n g.1 (subst (λ (l : List ℕ). Contains l n) g.2 c) in
        let f = of_filter (is_plain rows) (holding rows groupings i) r.row r.among in
        let low = held_within rows groupings are i r.row f.0 in
        let kept = in_configuring i r.row f.0 (kept_row r.row (brings_none (length rows) r.row n r.nodes f.1 r.known r.there none)) in
        gathered_kept i r.row n kept (plain_brought (length rows) r.row n r.nodes r.known low r.there none)

-- ---- the nodes of the tree

module _ (rows : List Row) (facts : Facts) (all : AreFaultless rows facts) (order : AreOrderly rows (definitions rows)) (expansion : IsExpansion rows (definitions rows) facts.nodes) where
  abbrev defs : List (Option ℕ)
  defs = definitions rows

  top_row : (x : ℕ) (place : Instance) → slice_get facts.nodes x ≡ Some place → place.parent ≡ None → Contains (grown_members rows defs place.owner) place.row
  top_row x place there none =
      let ks = grown_members rows defs place.owner in
      let lt = expansion.owners x place there in
      let shown : Contains (map (λ row. Some row) ks) (row_of facts.nodes x) = subst (λ (l : List (Option ℕ)). Contains l (row_of facts.nodes x)) (expansion.outermost place.owner lt) (in_map (row_of facts.nodes) (tops facts.nodes place.owner) x (beside.in_tops facts.nodes x place there none)) in
      let r = of_map (λ (row : ℕ). Some row) ks (Some place.row) (subst (λ (o : Option ℕ). Contains (map (λ row. Some row) ks) o) (row_at_place rows facts all order expansion x place there) shown) in
      subst (λ (k : ℕ). Contains ks k) (same_Some r.0 place.row r.2) r.1

  top_rooted : (m n : ℕ) → Contains (grown_members rows defs m) n → IsConfiguration rows defs n
  unfolding grown_members module_row
  top_rooted m n c = by (is_grown rows defs m) (slice_get (roots rows) m) refl c
    where
      by : (b : Bool) (o : Option ℕ) → slice_get (roots rows) m ≡ o → Contains (cond b (kept_in rows defs o) []) n → IsConfiguration rows defs n
      by false o is d = absurd (nothing n d)
      by true None is d = absurd (nothing n d)
      by true (Some root) is d = (root, in_list (roots rows) m root is, inr (below_reached rows defs root n d))

  further_rooted : (i n : ℕ) → IsConfiguration rows defs i → LeadsBy (configuring rows defs) i n → IsConfiguration rows defs n
  further_rooted i n (root, c, inl same) l = (root, c, inr (subst (λ (x : ℕ). LeadsBy (configuring rows defs) x n) (sym same) l))
  further_rooted i n (root, c, inr m) l = (root, c, inr (leads_more rows defs root i n m (inr l)))

  configured_within : (steps x : ℕ) (place : Instance) → x < steps → slice_get facts.nodes x ≡ Some place → IsConfiguration rows defs place.row
  configured_within zero x place lt there = absurd (omega (arith, lt))
  configured_within (suc steps) x place lt there = by place.parent refl (λ p a before is. configured_within steps p a (omega (arith, before, lt)) is)
    where
      by : (o : Option ℕ) → place.parent ≡ o → ((p : ℕ) (a : Instance) → p < x → slice_get facts.nodes p ≡ Some a → IsConfiguration rows defs a.row) → IsConfiguration rows defs place.row
      by None none rest = top_rooted place.owner place.row (top_row x place there none)
      by (Some p) parent rest =
          let a = parent_there rows facts all order expansion x p place there parent in
          let before = (parent_before rows facts all order expansion x p place there parent).0 in
          further_rooted a.0.row place.row (rest p a.0 before a.1) (below_reached rows defs a.0.row place.row (kept_in_parent rows facts all order expansion x p place a.0 there parent a.1))

  -- the row of a node is used as configuration
  pub configured : (x : ℕ) (place : Instance) → slice_get facts.nodes x ≡ Some place → IsConfiguration rows defs place.row
  configured x place there = configured_within (suc x) x place (omega arith) there

  brings_data : (i n : ℕ) → Brings rows defs i n → is_data_at rows n ≡ true
  brings_data i n (alone d) = d
  brings_data i n (through k c b) = brings_data k n b

  grown_data : (m n : ℕ) → Contains (grown_members rows defs m) n → is_data_at rows n ≡ true
  unfolding grown_members
  grown_data m n c = by (is_grown rows defs m) (module_row rows m) c
    where
      by : (b : Bool) (o : Option ℕ) → Contains (cond b (kept_in rows defs o) []) n → is_data_at rows n ≡ true
      by false o d = absurd (nothing n d)
      by true None d = absurd (nothing n d)
      by true (Some root) d = let s = kept_stands rows defs root n d in brings_data s.part n s.brings

  -- the row of a node is one of data
  pub data_row : (x : ℕ) (place : Instance) → slice_get facts.nodes x ≡ Some place → is_data_at rows place.row ≡ true
  data_row x place there = by place.parent refl
    where
      by : (o : Option ℕ) → place.parent ≡ o → is_data_at rows place.row ≡ true
      by None none = grown_data place.owner place.row (top_row x place there none)
      by (Some p) parent =
          let a = parent_there rows facts all order expansion x p place there parent in
          let s = kept_stands rows defs a.0.row place.row (kept_in_parent rows facts all order expansion x p place a.0 there parent a.1) in
          brings_data s.part place.row s.brings

  -- ---- the nodes that stand in a node

  -- a node in node x with a row
  pub record IsChild (x k y : ℕ) : Type 0 where
    pub place : Instance
    pub there : slice_get facts.nodes y ≡ Some place
    pub row_is : place.row ≡ k
    pub parent : place.parent ≡ Some x

  child_in : (ys : List ℕ) (ks : List ℕ) (k : ℕ) → map (row_of facts.nodes) ys ≡ map (λ row. Some row) ks → Contains ks k → (y : ℕ) × Contains ys y × (row_of facts.nodes y ≡ Some k)
  child_in ys ks k e c =
      let d : Contains (map (row_of facts.nodes) ys) (Some k) = subst (λ (l : List (Option ℕ)). Contains l (Some k)) (sym e) (in_map (λ (row : ℕ). Some row) ks k c) in
      of_map (row_of facts.nodes) ys (Some k) d

  child_of : (x k y : ℕ) → Contains (children facts.nodes x) y → row_of facts.nodes y ≡ Some k → IsChild x k y
  unfolding children row_of is_below
  child_of x k y c e =
      let p = beside.of_places (is_below x) 0 facts.nodes y c in
      let at : slice_get facts.nodes y ≡ Some p.x = ap (slice_get facts.nodes) (omega (arith, p.at)) ∙ p.there in
      record { place = p.x; there = at; row_is = same_Some p.x.row k (sym (ap row_in at) ∙ e); parent = parent_is p.x.parent x p.passes }

  -- a row that is kept below the row of a node has a node in it
  kept_child : (x k : ℕ) (a : Instance) → slice_get facts.nodes x ≡ Some a → Contains (kept_below rows defs a.row) k → (y : ℕ) × IsChild x k y
  kept_child x k a is c =
      let r = child_in (children facts.nodes x) (kept_below rows defs a.row) k (expansion.below x a is) c in
      (r.0, child_of x k r.0 r.1 r.2)

  passes_child : (x k : ℕ) (c : Instance) → c.parent ≡ Some x → c.row ≡ k → is_child_named rows x (argument_at rows k) c ≡ true
  unfolding is_below has_name
  passes_child x k c parent row =
      let one : same_parent c.parent (Some x) ≡ true = ap (λ (o : Option ℕ). same_parent o (Some x)) parent ∙ same_holder x in
      let two : bytes_eq (argument_at rows c.row) (argument_at rows k) ≡ true = ap (λ (n : ℕ). bytes_eq (argument_at rows n) (argument_at rows k)) row ∙ own_bytes (argument_at rows k) in
      rw (one, two) refl

  -- and it is found by its name
  pub child_found : (x k : ℕ) (a : Instance) → slice_get facts.nodes x ≡ Some a → Contains (kept_below rows defs a.row) k → (y : ℕ) × (child_named rows facts.nodes x (argument_at rows k) ≡ Some y) × IsChild x k y
  unfolding child_named is_below has_name
  child_found x k a is c =
      let child = kept_child x k a is c in
      let p = position_upto (is_child_named rows x (argument_at rows k)) 0 child.0 facts.nodes child.1.place child.1.there (passes_child x k child.1.place child.1.parent child.1.row_is) in
      let h = first_passes (is_child_named rows x (argument_at rows k)) facts.nodes p.0 p.1 in
      let both = and_parts (same_parent h.x.parent (Some x)) (bytes_eq (argument_at rows h.x.row) (argument_at rows k)) h.passes in
      let parent : h.x.parent ≡ Some x = parent_is h.x.parent x both.0 in
      let named : argument_at rows h.x.row ≡ argument_at rows k = same_bytes (argument_at rows h.x.row) (argument_at rows k) both.1 in
      let member = kept_stands rows defs a.row h.x.row (kept_in_parent rows facts all order expansion p.0 x h.x a h.here parent is) in
      let row : h.x.row ≡ k = one_stands rows defs order a.row h.x.row k member (kept_stands rows defs a.row k c) named in
      (p.0, p.1, record { place = h.x; there = h.here; row_is = row; parent = parent })
