-- What stands below rows, and what is at or below a row as rows are.
use Rattle.std.proofs.Common.{◌≡◌, ◌⊎◌, ℕ, [], ◌∷◌, ◌++◌, Bool, true, false, Option, Some, None, slice_get, refl, sym, ap, subst, ◌∙◌, append-nil, append_assoc, inl, inr}
use Rattle.nm_types.specs.Path.{PathStep, Choice, whole, keys as by_keys, entry}
use Rattle.nm_schema_tree.specs.declared.node.Node.{Node}
use Rattle.nm_schema_tree.specs.declared.node.NodeKind.{NodeKind}
use Rattle.nm_schema_tree.specs.declared.node.NodeKind.TheVariants.{Container, Leaf, LeafList, List as ListOf}
use Rattle.nm_schema_tree.specs.Nodes.{SchemaTree, is_key, is_guard, is_guard_in}
use Rattle.nm_path.specs.Spelling.{node_of, found_of}
use Rattle.nm_path.specs.Sound.{IsSound, is_holder}
use Rattle.nm_config.specs.Under.{is_under, Continues, EntersList}
use Rattle.nm_config.proofs.Meaning.{under-means}
use Rattle.nm_validate_rules.specs.Standing.{is_chosen, is_chosen_in, is_chosen_at, is_row, is_row_in, is_row_at, is_row_from, is_row_path, is_own_at}
use Rattle.nm_validate_rules.proofs.Among.{both}
use Rattle.nm_validate_rules.proofs.Areas.{ends}
use Rattle.nm_validate_rules.proofs.Chains.{area_node}
use Rattle.nm_validate_rules.proofs.Leading.{by_last, node_last, place_at}
use Rattle.nm_validate_rules.proofs.Entries.{front_last}
use Rattle.nm_validate_rules.specs.Guards.{front}
use Rattle.nm_undo.proofs.Maps.{some_is}
use Rattle.nm_overlay.proofs.Order.{Place}

-- ---- a path that is below a node's place, and not the node's place itself

-- a path goes on behind a place by a step to the node that another step names
pub record GoesOn (place : Place) (b : PathStep) (path : Place) : Type 0 where
  pub step : PathStep
  pub rest : Place
  pub begins : path ≡ place ++ step ∷ rest
  pub same_module : b.module ≡ step.module
  pub same_name : b.name ≡ step.name
  pub same_choice : (b.chosen ≡ whole) ⊎ (b.chosen ≡ step.chosen)

-- the last step of a path
end_of : Place → Option PathStep
end_of [] = None
end_of (s ∷ []) = Some s
end_of (s ∷ r ∷ ss) = end_of (r ∷ ss)

end_last : (a : Place) (s : PathStep) → end_of (a ++ s ∷ []) ≡ Some s
unfolding end_of
end_last [] s = refl
end_last (b ∷ []) s = refl
end_last (b ∷ c ∷ a) s = end_last (c ∷ a) s

same_ends : (a b : Place) (s r : PathStep) → a ++ s ∷ [] ≡ b ++ r ∷ [] → (a ≡ b) × (s ≡ r)
same_ends a b s r e = (sym (front_last a s) ∙ ap front e ∙ front_last b r, some_is s r (sym (end_last a s) ∙ ap end_of e ∙ end_last b r))

entered : (place : Place) (b : PathStep) (path : Place) → EntersList (place ++ b ∷ []) path → GoesOn place b path
entered place b path of =
    let last = same_ends place of.above b of.list of.ends in
    record {
      step = of.entry;
      rest = of.rest;
      begins = of.begins ∙ ap (λ (p : Place). p ++ of.entry ∷ of.rest) (sym last.0);
      same_module = ap (λ (s : PathStep). s.module) last.1 ∙ of.same_module;
      same_name = ap (λ (s : PathStep). s.name) last.1 ∙ of.same_name;
      same_choice = inl (ap (λ (s : PathStep). s.chosen) last.1 ∙ of.as_whole);
    }

-- what is at or below a node goes on behind the place of the node, by a step to it
pub goes_on : (place : Place) (b : PathStep) (path : Place) → is_under (place ++ b ∷ []) path ≡ true → GoesOn place b path
goes_on place b path e = elim ((under-means (place ++ b ∷ []) path).0 e) [
  | inl on ↦ record {
    step = b;
    rest = on.rest;
    begins = on.begins ∙ append_assoc place (b ∷ []) on.rest;
    same_module = refl;
    same_name = refl;
    same_choice = inr refl;
  }
  | inr of ↦ entered place b path of
]

-- a step to the same node
pub node_same : (t : SchemaTree) (place : Place) (s r : PathStep) → s.module ≡ r.module → s.name ≡ r.name → node_of t (place ++ s ∷ []) ≡ node_of t (place ++ r ∷ [])
node_same t place s r m n = node_last t place s ∙ (λ i. found_of t.nodes (place_at t place) (m i) (n i)) ∙ sym (node_last t place r)

-- ---- what rows choose on their way

chosen_from : (t : SchemaTree) (ab at : Place) (s : PathStep) (rest : Place) → is_row_from t ab (at ++ s ∷ rest) ≡ true → is_chosen_at t.nodes (node_of t ((ab ++ at) ++ s ∷ [])) s.chosen ≡ true
chosen_from t ab [] s rest e =
    ap (λ (p : Place). is_chosen_at t.nodes (node_of t (p ++ s ∷ [])) s.chosen) (append-nil ab)
    ∙ (both (is_chosen_at t.nodes (node_of t (ab ++ s ∷ [])) s.chosen) (is_row_from t (ab ++ s ∷ []) rest) e).0
chosen_from t ab (a ∷ past) s rest e =
    ap (λ (p : Place). is_chosen_at t.nodes (node_of t (p ++ s ∷ [])) s.chosen) (sym (append_assoc ab (a ∷ []) past))
    ∙ chosen_from t (ab ++ a ∷ []) past s rest (both (is_chosen_at t.nodes (node_of t (ab ++ a ∷ [])) a.chosen) (is_row_from t (ab ++ a ∷ []) (past ++ s ∷ rest)) e).1

-- each step on the way of a row chooses what its node's kind does
pub chosen_on : (t : SchemaTree) (row at : Place) (s : PathStep) (rest : Place) → is_row_path t row ≡ true → row ≡ at ++ s ∷ rest → is_chosen_at t.nodes (node_of t (at ++ s ∷ [])) s.chosen ≡ true
chosen_on t row at s rest there e = chosen_from t [] at s rest (ap (is_row_path t) (sym e) ∙ there)

pub some_chosen : (t : SchemaTree) (o : Option ℕ) (c : Choice) → is_chosen_at t.nodes o c ≡ true → (x : ℕ) × (o ≡ Some x)
some_chosen t None c e = absurd (cc)
some_chosen t (Some x) c e = (x, refl)

-- of a node of which nothing is chosen nothing else is
nothing_chosen : (k : NodeKind) (c : Choice) → is_chosen k whole ≡ true → is_chosen k c ≡ true → c ≡ whole
nothing_chosen (Container p) whole w e = refl
nothing_chosen (Container p) (by_keys vs) w e = absurd (cc)
nothing_chosen (Container p) (entry v) w e = absurd (cc)
nothing_chosen (Leaf ty d m r) whole w e = refl
nothing_chosen (Leaf ty d m r) (by_keys vs) w e = absurd (cc)
nothing_chosen (Leaf ty d m r) (entry v) w e = absurd (cc)
nothing_chosen (LeafList ty r es) c w e = absurd (cc)
nothing_chosen (ListOf ks u es) c w e = absurd (cc)

nothing_in : (o : Option Node) (c : Choice) → is_chosen_in o whole ≡ true → is_chosen_in o c ≡ true → c ≡ whole
nothing_in None c w e = absurd (cc)
nothing_in (Some n) c w e = nothing_chosen n.kind c w e

nothing_at : (t : SchemaTree) (o : Option ℕ) (c : Choice) → is_chosen_at t.nodes o whole ≡ true → is_chosen_at t.nodes o c ≡ true → c ≡ whole
nothing_at t None c w e = absurd (cc)
nothing_at t (Some x) c w e = nothing_in (slice_get t.nodes x) c w e

step_same : (s r : PathStep) → s.module ≡ r.module → s.name ≡ r.name → s.chosen ≡ r.chosen → s ≡ r
step_same s r m n c = λ i. record { «module» = m i; name = n i; chosen = c i }

-- what is at or below a place of rows, as rows are, goes on behind that place
module _ (t : SchemaTree) (other row : Place) (there : is_row_path t other ≡ true) (row_there : is_row_path t row ≡ true) where
  by_step : (above : Place) (s : PathStep) (more : Place) → other ≡ above ++ s ∷ more → is_under (above ++ s ∷ []) row ≡ true → Continues (above ++ s ∷ []) row
  by_step above s more is e =
      let on = goes_on above s row e in
      let own = chosen_on t other above s more there is in
      let its = chosen_on t row above on.step on.rest row_there on.begins in
      let node = node_same t above on.step s (sym on.same_module) (sym on.same_name) in
      let chosen : s.chosen ≡ on.step.chosen = elim on.same_choice [
        | inl bare ↦
            bare ∙ sym (nothing_at t (node_of t (above ++ s ∷ [])) on.step.chosen
            (ap (is_chosen_at t.nodes (node_of t (above ++ s ∷ []))) (sym bare) ∙ own)
            (ap (λ (o : Option ℕ). is_chosen_at t.nodes o on.step.chosen) (sym node) ∙ its))
        | inr same ↦ same
      ] in
      let same : on.step ≡ s = step_same on.step s (sym on.same_module) (sym on.same_name) (sym chosen) in
      record { rest = on.rest; begins = on.begins ∙ ap (λ (r : PathStep). above ++ r ∷ on.rest) same ∙ sym (append_assoc above (s ∷ []) on.rest) }

  pub front_goes : (place more : Place) → other ≡ place ++ more → is_under place row ≡ true → Continues place row
  front_goes [] more is e = record { rest = row; begins = refl }
  front_goes (s ∷ ss) more is e =
      let d = ends s ss in
      let other_is : other ≡ d.above ++ d.step ∷ more = is ∙ ap (λ (p : Place). p ++ more) d.is ∙ append_assoc d.above (d.step ∷ []) more in
      let under : is_under (d.above ++ d.step ∷ []) row ≡ true = ap (λ (p : Place). is_under p row) (sym d.is) ∙ e in
      subst (λ (p : Place). Continues p row) (sym d.is) (by_step d.above d.step more other_is under)

-- ---- rows below which nothing is

holder_is_own : (b : Bool) (k : NodeKind) → is_holder k ≡ true → is_row b k ≡ true → is_guard k ≡ true
holder_is_own b (Container p) h r = r
holder_is_own b (Leaf ty d m r) h e = absurd (cc)
holder_is_own b (LeafList ty r es) h e = absurd (cc)
holder_is_own b (ListOf ks u es) h r = refl

pub row_of_path : (t : SchemaTree) (above ss : Place) → is_row_from t above ss ≡ true → is_row_at t.nodes (node_of t (above ++ ss)) ≡ true
row_of_path t above [] e = ap (λ (p : Place). is_row_at t.nodes (node_of t p)) (append-nil above) ∙ e
row_of_path t above (s ∷ ss) e =
    ap (λ (p : Place). is_row_at t.nodes (node_of t p)) (sym (append_assoc above (s ∷ []) ss))
    ∙ row_of_path t (above ++ s ∷ []) ss (both (is_chosen_at t.nodes (node_of t (above ++ s ∷ [])) s.chosen) (is_row_from t (above ++ s ∷ []) ss) e).1

row_holds : (t : SchemaTree) (p : ℕ) (n : Node) → slice_get t.nodes p ≡ Some n → is_holder n.kind ≡ true → is_row_at t.nodes (Some p) ≡ true → is_own_at t.nodes (Some p) ≡ true
row_holds t p n there holder row =
    ap is_guard_in there ∙ holder_is_own (is_key t.nodes p) n.kind holder (ap (is_row_in (is_key t.nodes p)) (sym there) ∙ row)

-- a row that others stand below is a list entry or a container with presence
pub holds_own : (t : SchemaTree) → IsSound t.nodes → (path row : Place) (s : PathStep) (more : Place) → is_row_path t path ≡ true → is_row_path t row ≡ true → row ≡ path ++ s ∷ more
    → is_own_at t.nodes (node_of t path) ≡ true
holds_own t sound path row s more own_row there e =
    let x = some_chosen t (node_of t (path ++ s ∷ [])) s.chosen (chosen_on t row path s more there e) in
    let leads = by_last t path s x.0 x.1 in
    by x.0 leads.node leads.there leads.node.parent refl (area_node t leads.node.parent path leads.area)
  where
    at_row : is_row_at t.nodes (node_of t path) ≡ true
    at_row = row_of_path t [] path own_row

    by : (x : ℕ) (n : Node) → slice_get t.nodes x ≡ Some n → (o : Option ℕ) → n.parent ≡ o → node_of t path ≡ n.parent → is_own_at t.nodes (node_of t path) ≡ true
    by x n there None parent at =
        let none : is_row_at t.nodes (node_of t path) ≡ false = ap (is_row_at t.nodes) (at ∙ parent) in
        let has_row = at_row in
        absurd (cc)
    by x n there (Some p) parent at =
        let h = sound.holders x p n there parent in
        let node : node_of t path ≡ Some p = at ∙ parent in
        ap (is_own_at t.nodes) node ∙ row_holds t p h.node h.there h.holder (ap (is_row_at t.nodes) (sym node) ∙ at_row)

-- the top is no row
pub top_no_row : (t : SchemaTree) → is_row_path t [] ≡ true → ⊥
unfolding node_of
top_no_row t e = cc

pub top_no_node : (t : SchemaTree) (x : ℕ) → node_of t [] ≡ Some x → ⊥
unfolding node_of
top_no_node t x e = cc

pub own_node : (t : SchemaTree) (o : Option ℕ) → is_own_at t.nodes o ≡ true → (x : ℕ) × (o ≡ Some x)
own_node t None e = absurd (cc)
own_node t (Some x) e = (x, refl)
