-- The nodes that steps lead to, one after the other.
use Rattle.std.proofs.Common.{◌≡◌, ◌<◌, ℕ, List, [], ◌∷◌, length, Option, Some, None, refl, sym, ap, ◌∙◌}
use Rattle.std.specs.Prelude.{option_and_then}
use Rattle.std.proofs.lemmas.List.Splits.{slice_split_first}
use Rattle.std.specs.List.{position_or_len, before_first, after_first, slice_split}
use Rattle.nm_schema_tree.specs.Nodes.{SchemaTree}
use Rattle.nm_json.specs.Findings.{node_named}
use Rattle.nm_explain.specs.Place.{name_in, led, led_below, is_slash}
use Rattle.nm_explain.proofs.Parting.{split_none}

from_node : (tree : SchemaTree) (i : ℕ) (steps : List (List ℕ)) → led_below tree steps i ≡ led tree (Some i) steps
from_node tree i [] = refl
from_node tree i (step ∷ steps) = refl

no_more : (tree : SchemaTree) (at : Option ℕ) → option_and_then (led_below tree []) at ≡ at
no_more tree None = refl
no_more tree (Some i) = refl

-- ---- what a loop over the steps of a text keeps

module _ (tree : SchemaTree) (within total found : Option ℕ) (rest step behind name : List ℕ) (lt : position_or_len is_slash rest < length rest) (s : step ≡ before_first is_slash rest)
    (b : behind ≡ after_first is_slash rest) (n : name ≡ name_in step) (f : found ≡ node_named tree within name) (so_far : led tree within (slice_split is_slash rest) ≡ total) where
  parts : slice_split is_slash rest ≡ step ∷ slice_split is_slash behind
  parts = rw (s, b) (slice_split_first is_slash rest 0 lt)

  first_led : led tree within (slice_split is_slash rest) ≡ option_and_then (led_below tree (slice_split is_slash behind)) found
  first_led = rw (parts, f, n) refl

  pub led_lost : found ≡ None → None ≡ total
  led_lost e = sym (ap (option_and_then (led_below tree (slice_split is_slash behind))) e) ∙ sym first_led ∙ so_far

  pub led_on : (at : ℕ) → found ≡ Some at → led tree (Some at) (slice_split is_slash behind) ≡ total
  led_on at e = sym (from_node tree at (slice_split is_slash behind)) ∙ sym (ap (option_and_then (led_below tree (slice_split is_slash behind))) e) ∙ sym first_led ∙ so_far

pub led_last : (tree : SchemaTree) (within total found : Option ℕ) (rest name : List ℕ) → position_or_len is_slash rest ≡ length rest → name ≡ name_in rest → found ≡ node_named tree within name
    → led tree within (slice_split is_slash rest) ≡ total → found ≡ total
led_last tree within total found rest name past n f so_far =
    let last : led tree within (slice_split is_slash rest) ≡ found = rw (split_none is_slash rest past, f, n) (no_more tree (node_named tree within (name_in rest))) in
    sym last ∙ so_far
