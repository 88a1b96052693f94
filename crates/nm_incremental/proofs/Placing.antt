-- Where a rule on single places reads a row, something of the row stands: its own path, or a place below what the path begins with.
use Rattle.std.proofs.Common.{◌≡◌, ℕ, zero, suc, List, [], ◌∷◌, ◌++◌, map, take, drop, length, Bool, true, false, Option, Some, None, refl, sym, ap, ◌∙◌, subst, inl, inr, arith, length-append}
use Rattle.std.specs.Prelude.{filter, is_some, slice_get, ◌&&◌}
use Rattle.std.specs.List.{list_all, flat_map, range_with_len}
use Rattle.std.proofs.lemmas.List.{take-append-le, drop-append-le}
use Rattle.std.proofs.Math.Seq.{take-append_seam, drop-append_seam}
use Rattle.nm_types.specs.Path.{PathStep}
use Rattle.nm_schema_tree.specs.declared.node.Node.{Node}
use Rattle.nm_schema_tree.specs.declared.choice.ChoiceNode.{ChoiceNode}
use Rattle.nm_schema_tree.specs.Nodes.{SchemaTree, is_mandatory_at, elements_at}
use Rattle.nm_validate_rules.specs.declared.rule.Rule.{Rule}
use Rattle.nm_validate_rules.specs.declared.rule.Rule.TheVariants.{ValueType, Key, Mandatory, Leafref, Unique, MinElements, MaxElements, MandatoryChoice, OneCase}
use Rattle.nm_validate_rules.specs.Cases.{bare, bare_in, numbers}
use Rattle.nm_validate_rules.specs.Places.{chain, choice_step}
use Rattle.nm_validate_rules.specs.Values.{path_in}
use Rattle.nm_validate_rules.specs.Candidates.{fronts_of, is_above, below_fronts, areas_below_fronts, choices_below_fronts, is_mandatory_choice, candidates}
use Rattle.nm_validate_rules.proofs.Among.{Among}
use Rattle.nm_validate_places.proofs.Gathered.{filter_among, flat_among}
use Rattle.nm_incremental.specs.Bound.{is_open, Continues}
use Rattle.nm_incremental.proofs.Mapping.{mapped}

-- ---- steps that choose no entries

open_bare : (node : Option Node) → is_open (bare_in node) ≡ true
open_bare None = refl
open_bare (Some n) = refl

open_bares : (nodes : List Node) (xs : List ℕ) → list_all is_open (map (bare nodes) xs) ≡ true
open_bares nodes [] = refl
open_bares nodes (x ∷ xs) = let a = open_bare (slice_get nodes x) in rw a (open_bares nodes xs)

open_behind : (steps : List PathStep) (s : PathStep) → list_all is_open steps ≡ true → is_open s ≡ true → list_all is_open (steps ++ s ∷ []) ≡ true
open_behind [] s h e = rw e refl
open_behind (r ∷ steps) s h e = by (is_open r) refl (λ k. open_behind steps s k e) h
  where
    by : (b : Bool) → is_open r ≡ b → (list_all is_open steps ≡ true → list_all is_open (steps ++ s ∷ []) ≡ true)
        → (b && list_all is_open steps) ≡ true → (is_open r && list_all is_open (steps ++ s ∷ [])) ≡ true
    by true is rest k = rw is (rest k)
    by false is rest k = absurd (cc)

-- ---- fronts

take_itself : {X : Type 0} (n : ℕ) (xs : List X) → take (length (take n xs)) xs ≡ take n xs
take_itself zero xs = refl
take_itself (suc n) [] = refl
take_itself (suc n) (x ∷ xs) = ap (λ ys. x ∷ ys) (take_itself n xs)

drop_all : {X : Type 0} (xs : List X) → drop (length xs) xs ≡ []
drop_all [] = refl
drop_all (x ∷ xs) = drop_all xs

itself : (row : List PathStep) → Continues row row
itself row = record {
  size = length row;
  within = omega arith;
  begins = refl;
  goes_on = ap (list_all is_open) (drop_all row);
}

from_front : (row bares : List PathStep) (n : ℕ) → list_all is_open bares ≡ true → Continues row (take n row ++ bares)
from_front row bares n h = record {
  size = length (take n row);
  within = omega (arith, length-append (take n row) bares);
  begins = take-append_seam (take n row) bares ∙ sym (take_itself n row);
  goes_on = ap (list_all is_open) (drop-append_seam (take n row) bares) ∙ h;
}

one_more : (row path : List PathStep) (s : PathStep) → Continues row path → is_open s ≡ true → Continues row (path ++ s ∷ [])
one_more row path s c e = record {
  size = c.size;
  within = omega (arith, c.within, length-append path (s ∷ []));
  begins = take-append-le c.size path (s ∷ []) c.within ∙ c.begins;
  goes_on = ap (list_all is_open) (drop-append-le c.size path (s ∷ []) c.within) ∙ open_behind (drop c.size path) s c.goes_on e;
}

module _ (t : SchemaTree) (row : List PathStep) where
  below_front : (x : ℕ) (above : List PathStep) → Among (fronts_of row) above → Continues row (path_in t above x)
  below_front x above a =
      let m = mapped (λ n. take n row) (range_with_len 0 (suc (length row))) above a in
      subst (λ (front : List PathStep). Continues row (path_in t front x)) (sym m.is)
      (from_front row (map (bare t.nodes) (drop (length (take m.x row)) (chain t.nodes (Some x)))) m.x
      (open_bares t.nodes (drop (length (take m.x row)) (chain t.nodes (Some x)))))

  below : (x : ℕ) (path : List PathStep) → Among (below_fronts t row x) path → Continues row path
  below x path a =
      let m = mapped (λ above. path_in t above x) (filter (is_above t x) (fronts_of row)) path a in
      subst (Continues row) (sym m.is) (below_front x m.x (filter_among (is_above t x) (fronts_of row) m.x m.among))

  in_area : (parent : Option ℕ) (path : List PathStep) → Among (areas_below_fronts t row parent) path → Continues row path
  in_area None path (inl e) = subst (Continues row) (sym e) (from_front row [] 0 refl)
  in_area None path (inr a) = absurd a
  in_area (Some x) path a = below x path a

  of_choice : (k : Option ChoiceNode) (path : List PathStep) → Among (choices_below_fronts t row k) path → Continues row path
  of_choice None path a = absurd a
  of_choice (Some k) path a =
      let m = mapped (λ above. above ++ choice_step k ∷ []) (areas_below_fronts t row k.parent) path a in
      subst (Continues row) (sym m.is) (one_more row m.x (choice_step k) (in_area k.parent m.x m.among) refl)

  of_nodes : (nodes : List ℕ) (path : List PathStep) → Among (flat_map (below_fronts t row) nodes) path → Continues row path
  of_nodes nodes path a = let g = flat_among (below_fronts t row) nodes path a in below g.x path g.within

  of_row : (path : List PathStep) → Among (row ∷ []) path → Continues row path
  of_row path (inl e) = subst (Continues row) (sym e) (itself row)
  of_row path (inr a) = absurd a

  -- each candidate of a row is the row, or a place below what it begins with
  pub candidate_placed : (rule : Rule) (path : List PathStep) → Among (candidates t rule row) path → Continues row path
  candidate_placed ValueType path a = of_row path a
  candidate_placed Key path a = of_row path a
  candidate_placed Mandatory path a = of_nodes (filter (is_mandatory_at t.nodes) (numbers t.nodes)) path a
  candidate_placed MinElements path a = of_nodes (filter (λ x. is_some (elements_at t.nodes x).min) (numbers t.nodes)) path a
  candidate_placed MaxElements path a = of_nodes (filter (λ x. is_some (elements_at t.nodes x).max) (numbers t.nodes)) path a
  candidate_placed MandatoryChoice path a =
      let g = flat_among (λ k. choices_below_fronts t row (slice_get t.choices k)) (filter (λ k. is_mandatory_choice (slice_get t.choices k)) (range_with_len 0 (length t.choices))) path a in
      of_choice (slice_get t.choices g.x) path g.within
  candidate_placed Leafref path a = absurd a
  candidate_placed Unique path a = absurd a
  candidate_placed OneCase path a = absurd a
