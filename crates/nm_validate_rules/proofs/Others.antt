-- A child of another case than the first is told at a place that the rows which it reads are below.
use Rattle.std.proofs.Common.{◌≡◌, ℕ, suc, ◌<◌, [], ◌∷◌, ◌++◌, take, drop, length, Bool, true, false, ◌&&◌, Option, Some, None, is_some, if◌then◌else◌, slice_get, refl, sym, ap, ◌∙◌, subst, append-nil, append_assoc, inl, inr, arith}
use Rattle.std.proofs.lemmas.List.{take-append-drop}
use Rattle.std.proofs.lemmas.Option.{same_Some}
use Rattle.std.proofs.lemmas.Bool.Decides.{nat_tests}
use Rattle.std.specs.Prelude.{nat_lt, Contains}
use Rattle.std.specs.List.{filter_map, range_with_len}
use Rattle.std.specs.FinMap.{contains_key, keys}
use Rattle.nm_types.specs.Path.{PathStep, Choice, whole, keys as by_keys, entry}
use Rattle.nm_schema_tree.specs.declared.node.Node.{Node}
use Rattle.nm_schema_tree.specs.declared.node.NodeKind.{NodeKind}
use Rattle.nm_schema_tree.specs.declared.node.NodeKind.TheVariants.{Container, Leaf, LeafList, List as ListOf}
use Rattle.nm_schema_tree.specs.Nodes.{SchemaTree}
use Rattle.nm_path.specs.Spelling.{found_of, node_of}
use Rattle.nm_config.specs.Rows.{Rows}
use Rattle.nm_config.specs.Under.{is_under, Continues, EntersList}
use Rattle.nm_config.proofs.Meaning.{under-means}
use Rattle.nm_validate_rules.specs.declared.rule.Rule.TheVariants.{OneCase}
use Rattle.nm_validate_rules.specs.Standing.{is_chosen, is_chosen_in, is_chosen_at, is_row_from, is_row_path, StandsIn}
use Rattle.nm_validate_rules.specs.Guards.{front}
use Rattle.nm_validate_rules.specs.Violated.{Child, child_by, case_of_node, child_over, children_of, first_other, is_path_of, violated}
use Rattle.nm_validate_rules.proofs.Among.{both, any_passes, among_given, among_flat, among_numbers, among_contains}
use Rattle.nm_validate_rules.proofs.Leading.{node_last, place_at}
use Rattle.nm_validate_rules.proofs.Areas.{ends}
use Rattle.nm_validate_rules.proofs.Placed.{key_there}
use Rattle.nm_validate_rules.specs.Reads.{child_reads, reads}
use Rattle.nm_validate_rules.specs.Candidates.{path_of_child, other_children}
use Rattle.nm_validate_rules.proofs.Lists.{among_filter_map}
use Rattle.nm_validate_rules.proofs.Agreeing.{Path, path_is}
use Rattle.nm_validate_rules.proofs.Entries.{entry_is, front_last}
use Rattle.nm_validate_rules.proofs.Local.{first_among}

-- ---- the last step

end_of : Path → Option PathStep
end_of [] = None
end_of (s ∷ []) = Some s
end_of (s ∷ r ∷ ss) = end_of (r ∷ ss)

end_last : (a : Path) (s : PathStep) → end_of (a ++ s ∷ []) ≡ Some s
unfolding end_of
end_last [] s = refl
end_last (b ∷ []) s = refl
end_last (b ∷ c ∷ a) s = end_last (c ∷ a) s

same_ends : (a b : Path) (s r : PathStep) → a ++ s ∷ [] ≡ b ++ r ∷ [] → (a ≡ b) × (s ≡ r)
same_ends a b s r e = (sym (front_last a s) ∙ ap front e ∙ front_last b r, same_Some s r (sym (end_last a s) ∙ ap end_of e ∙ end_last b r))

-- ---- what rows choose on their way

chosen_on_way : (t : SchemaTree) (ab at : Path) (s : PathStep) (rest : Path) → is_row_from t ab (at ++ s ∷ rest) ≡ true → is_chosen_at t.nodes (node_of t ((ab ++ at) ++ s ∷ [])) s.chosen ≡ true
chosen_on_way t ab [] s rest e =
    ap (λ (p : Path). is_chosen_at t.nodes (node_of t (p ++ s ∷ [])) s.chosen) (append-nil ab)
    ∙ (both (is_chosen_at t.nodes (node_of t (ab ++ s ∷ [])) s.chosen) (is_row_from t (ab ++ s ∷ []) rest) e).0
chosen_on_way t ab (a ∷ past) s rest e =
    ap (λ (p : Path). is_chosen_at t.nodes (node_of t (p ++ s ∷ [])) s.chosen) (sym (append_assoc ab (a ∷ []) past))
    ∙ chosen_on_way t (ab ++ a ∷ []) past s rest (both (is_chosen_at t.nodes (node_of t (ab ++ a ∷ [])) a.chosen) (is_row_from t (ab ++ a ∷ []) (past ++ s ∷ rest)) e).1

-- of a node of which nothing is chosen nothing else is
nothing_chosen : (k : NodeKind) (c : Choice) → is_chosen k whole ≡ true → is_chosen k c ≡ true → c ≡ whole
nothing_chosen (Container p) whole w e = refl
nothing_chosen (Container p) (by_keys vs) w e = absurd (cc)
nothing_chosen (Container p) (entry v) w e = absurd (cc)
nothing_chosen (Leaf ty d m r) whole w e = refl
nothing_chosen (Leaf ty d m r) (by_keys vs) w e = absurd (cc)
nothing_chosen (Leaf ty d m r) (entry v) w e = absurd (cc)
nothing_chosen (LeafList ty r es) c w e = absurd (cc)
nothing_chosen (ListOf ks u es) c w e = absurd (cc)

nothing_in : (o : Option Node) (c : Choice) → is_chosen_in o whole ≡ true → is_chosen_in o c ≡ true → c ≡ whole
nothing_in None c w e = absurd (cc)
nothing_in (Some n) c w e = nothing_chosen n.kind c w e

nothing_at : (t : SchemaTree) (o : Option ℕ) (c : Choice) → is_chosen_at t.nodes o whole ≡ true → is_chosen_at t.nodes o c ≡ true → c ≡ whole
nothing_at t None c w e = absurd (cc)
nothing_at t (Some x) c w e = nothing_in (slice_get t.nodes x) c w e

module _ (t : SchemaTree) (above other row : Path) (s : PathStep) (more : Path) (is : other ≡ above ++ s ∷ more) (there : is_row_path t other ≡ true) (row_there : is_row_path t row ≡ true) where
  enters : EntersList (above ++ s ∷ []) row → Continues (above ++ s ∷ []) row
  enters h =
      let last = same_ends above h.above s h.list h.ends in
      let before : h.above ≡ above = sym last.0 in
      let list : h.list ≡ s = sym last.1 in
      let chosen : s.chosen ≡ whole = ap (λ (r : PathStep). r.chosen) (sym list) ∙ h.as_whole in
      let begins : row ≡ above ++ h.entry ∷ h.rest = h.begins ∙ ap (λ (p : Path). p ++ h.entry ∷ h.rest) before in
      let module_is : s.«module» ≡ h.entry.«module» = ap (λ (r : PathStep). r.«module») (sym list) ∙ h.same_module in
      let name_is : s.name ≡ h.entry.name = ap (λ (r : PathStep). r.name) (sym list) ∙ h.same_name in
      let node : node_of t (above ++ h.entry ∷ []) ≡ node_of t (above ++ s ∷ []) =
      node_last t above h.entry ∙ sym (λ i. found_of t.nodes (place_at t above) (module_is i) (name_is i)) ∙ sym (node_last t above s) in
      let own = chosen_on_way t [] above s more (ap (is_row_path t) (sym is) ∙ there) in
      let its = chosen_on_way t [] above h.entry h.rest (ap (is_row_path t) (sym begins) ∙ row_there) in
      let entry_whole : h.entry.chosen ≡ whole =
      nothing_at t (node_of t (above ++ s ∷ [])) h.entry.chosen (ap (is_chosen_at t.nodes (node_of t (above ++ s ∷ []))) (sym chosen) ∙ own) (ap (λ (o : Option ℕ). is_chosen_at t.nodes o h.entry.chosen) (sym node) ∙ its) in
      let step : h.entry ≡ s = λ i. record { «module» = sym module_is i; name = sym name_is i; chosen = (entry_whole ∙ sym chosen) i } in
      record { rest = h.rest; begins = begins ∙ ap (λ (r : PathStep). above ++ r ∷ h.rest) step ∙ sym (append_assoc above (s ∷ []) h.rest) }

-- what is at or below a front of a row, as rows are, goes on behind that front
front_goes : (t : SchemaTree) (g other more row : Path) → other ≡ g ++ more → is_row_path t other ≡ true → is_row_path t row ≡ true → is_under g row ≡ true → Continues g row
front_goes t [] other more row is there row_there e = record { rest = row; begins = refl }
front_goes t (s ∷ ss) other more row is there row_there e =
    let d = ends s ss in
    let other_is : other ≡ d.above ++ d.step ∷ more = is ∙ ap (λ (p : Path). p ++ more) d.is ∙ append_assoc d.above (d.step ∷ []) more in
    let under : is_under (d.above ++ d.step ∷ []) row ≡ true = ap (λ (p : Path). is_under p row) (sym d.is) ∙ e in
    let goes : Continues (d.above ++ d.step ∷ []) row = elim ((under-means (d.above ++ d.step ∷ []) row).0 under) [
      | inl so ↦ so
      | inr list ↦ enters t d.above other row d.step more other_is there row_there list
    ] in
    subst (λ (p : Path). Continues p row) (sym d.is) goes

before_last : (path other rest : Path) → other ≡ path ++ rest → (more : Path) × (other ≡ front path ++ more)
before_last [] other rest is = (rest, is)
before_last (s ∷ ss) other rest is =
    let d = ends s ss in
    let above : front (s ∷ ss) ≡ d.above = ap front d.is ∙ front_last d.above d.step in
    (d.step ∷ rest, is ∙ ap (λ (p : Path). p ++ rest) d.is ∙ append_assoc d.above (d.step ∷ []) rest ∙ ap (λ (p : Path). p ++ d.step ∷ rest) (sym above))

-- ---- children

child_by_path : (p : Path) (o : Option ℕ) (e : Child) → child_by p o ≡ Some e → p ≡ e.path
child_by_path p None e given = absurd (cc)
child_by_path p (Some c) e given = ap (λ (d : Child). d.path) (same_Some (record { path = p; case_is = c }) e given)

child_if : (b : Bool) (p : Path) (o : Option ℕ) (e : Child) → (if b then child_by p o else None) ≡ Some e → p ≡ e.path
child_if true p o e given = child_by_path p o e given
child_if false p o e given = absurd (cc)

over_if : (b : Bool) (p : Path) (o : Option ℕ) → is_some (if b then child_by p o else None) ≡ true → b ≡ true
over_if true p o e = refl
over_if false p o e = absurd (cc)

path_told : (path : Path) (o : Option Child) → is_path_of path o ≡ true → (e : Child) × (o ≡ Some e) × (path ≡ e.path)
path_told path None e = absurd (cc)
path_told path (Some c) e = (c, refl, path_is path c.path e)

less : (a b : ℕ) → nat_lt a b ≡ true → a < b
less a b e = grind (arith, nat_tests)

module _ (t : SchemaTree) (rows : Rows) (path row : Path) where
  -- the row of a child that is told
  told_row : (k : ℕ) (e : Child) → path ≡ e.path → first_other (children_of t rows k (front path)) ≡ Some e → (other : Path) × (contains_key rows other ≡ true) × (more : Path) × (other ≡ front path ++ more)
  unfolding children_of
  told_row k e same first =
      let above = front path in
      let g = among_given (child_over t k above) (keys rows) e (first_among (children_of t rows k above) e first) in
      let n = suc (length above) in
      let at : take n g.x ≡ e.path = child_if (is_under above g.x && nat_lt (length above) (length g.x)) (take n g.x) (case_of_node t k (node_of t (take n g.x))) e g.gives in
      let is : g.x ≡ path ++ drop n g.x = sym (take-append-drop n g.x) ∙ ap (λ (p : Path). p ++ drop n g.x) (at ∙ sym same) in
      let b = before_last path g.x (drop n g.x) is in
      (g.x, key_there rows g.x g.among, b.0, b.1)

  -- what is told of cases of one choice and reads a row is among the children at places that the row is below
  pub other_child : StandsIn t rows → is_row_path t row ≡ true → violated t rows OneCase path ≡ true → reads t OneCase path row ≡ true → Contains (other_children t rows row) path
  other_child stand row_there bad read =
      let above = front path in
      let choices = range_with_len 0 (length t.choices) in
      let h = any_passes (λ k. is_path_of path (first_other (children_of t rows k (front path)))) choices bad in
      let f = path_told path (first_other (children_of t rows h.x (front path))) h.passes in
      let o = told_row h.x f.0 f.2 f.1 in
      let r = any_passes (λ k. child_reads t k path row) choices read in
      let over = (both (is_some (case_of_node t r.x (node_of t path))) (is_some (child_over t r.x above row)) r.passes).1 in
      let n = length above in
      let b = both (is_under above row) (nat_lt n (length row)) (over_if (is_under above row && nat_lt n (length row)) (take (suc n) row) (case_of_node t r.x (node_of t (take (suc n) row))) over) in
      let goes : Continues above row = front_goes t above o.0 o.2 row o.3 (stand.each o.0 o.1) row_there b.0 in
      let taken : take n row ≡ above = entry_is t row above goes in
      let child : path_of_child (first_other (children_of t rows h.x (take n row))) ≡ Some path =
      ap (λ (p : Path). path_of_child (first_other (children_of t rows h.x p))) taken ∙ ap path_of_child f.1 ∙ ap Some (sym f.2) in
      among_contains (other_children t rows row) path
      (among_flat (λ m. filter_map (λ k. path_of_child (first_other (children_of t rows k (take m row)))) choices) (range_with_len 0 (length row)) n path (among_numbers (length row) n (less n (length row) b.1))
      (among_filter_map (λ k. path_of_child (first_other (children_of t rows k (take n row)))) choices h.x path h.among child))
