-- The rows that are found to differ are all at which two configurations differ, and each lies at or below a touched path.
use Rattle.std.proofs.Common.{◌≡◌, ◌⊎◌, List, Bool, true, false, not, ◌||◌, Option, Some, None, is_some, refl, sym, ap, ◌∙◌, inl, inr}
use Rattle.std.specs.Prelude.{filter}
use Rattle.std.specs.FinMap.{get, contains_key, keys}
use Rattle.nm_types.specs.declared.value.Value.{Value}
use Rattle.nm_types.specs.Path.{PathStep}
use Rattle.nm_types.specs.Value.{is_same_value}
use Rattle.nm_types.specs.ValueLaws.{same_value_decides, values_equiv}
use Rattle.nm_schema_tree.specs.Nodes.{SchemaTree}
use Rattle.nm_config.specs.Rows.{Rows}
use Rattle.nm_config.specs.Under.{is_under}
use Rattle.nm_validate_rules.specs.declared.rule.Rule.{Rule}
use Rattle.nm_validate_rules.proofs.Among.{Among, among_filter, filter_passes, among_flat, among_left, among_right, contains_among, among_contains}
use Rattle.nm_validate_rules.proofs.Areas.{key_among}
use Rattle.nm_validate_rules.proofs.Placed.{key_there}
use Rattle.nm_validate_places.proofs.Gathered.{filter_among, flat_among, either}
use Rattle.nm_validate_rules.specs.Reads.{reads}
use Rattle.nm_validate_rules.specs.Reaches.{Covers, DifferAmong, Reaches}
use Rattle.nm_validate_rules.proofs.Lists.{contrary, or_left, or_right}
use Rattle.nm_incremental.specs.Differing.{rows_at, is_same_row, differs, differing_at, differing}

same_by : (o p : Option Value) → is_same_row o p ≡ true → o ≡ p
same_by None None e = refl
same_by (Some v) (Some w) e = ap Some ((same_value_decides v w (is_same_value v w) refl).0 e)
same_by None (Some w) e = absurd (cc)
same_by (Some v) None e = absurd (cc)

back : (b : Bool) → not b ≡ false → b ≡ true
back true e = refl
back false e = absurd (cc)

in_rows : (rows : Rows) (by row : List PathStep) → contains_key rows row ≡ true → is_under by row ≡ true → Among (rows_at rows by) row
in_rows rows by row there under = among_filter (is_under by) (keys rows) row (key_among rows row there) under

module _ (base next : Rows) (touched : List (List PathStep)) where
  is_differing : (by row : List PathStep) → Among touched by → Among (differing_at base next by) row → Among (differing base next touched) row
  is_differing by row a here = among_flat (differing_at base next) touched by row a here

  module _ (row : List PathStep) (by : List PathStep) (a : Among touched by) (under : is_under by row ≡ true) (out : Among (differing base next touched) row → ⊥) where
    changed : contains_key base row ≡ true → differs base next row ≡ true → ⊥
    changed there d = out (is_differing by row a (among_left (filter (differs base next) (rows_at base by)) (filter (λ r. not (contains_key base r)) (rows_at next by)) row
        (among_filter (differs base next) (rows_at base by) row (in_rows base by row there under) d)))

    added : contains_key next row ≡ true → not (contains_key base row) ≡ true → ⊥
    added there d = out (is_differing by row a (among_right (filter (differs base next) (rows_at base by)) (filter (λ r. not (contains_key base r)) (rows_at next by)) row
        (among_filter (λ r. not (contains_key base r)) (rows_at next by) row (in_rows next by row there under) d)))

    decided : contains_key base row ≡ true → (d : Bool) → differs base next row ≡ d → get base row ≡ get next row
    decided there true e = absurd (changed there e)
    decided there false e = same_by (get base row) (get next row) (back (is_same_row (get base row) (get next row)) e)

    by_next : get base row ≡ None → (p : Option Value) → get next row ≡ p → get base row ≡ get next row
    by_next none None e = none ∙ sym e
    by_next none (Some w) e = absurd (added (ap is_some e) (ap (λ o. not (is_some o)) none))

    by_base : (o : Option Value) → get base row ≡ o → get base row ≡ get next row
    by_base None e = by_next e (get next row) refl
    by_base (Some v) e = decided (ap is_some e) (differs base next row) refl

  told_same : (o p : Option Value) → o ≡ p → is_same_row o p ≡ true
  told_same o None e = ap (λ q. is_same_row q None) e
  told_same o (Some w) e = ap (λ q. is_same_row q (Some w)) e ∙ values_equiv.refl w

  by_cover : Covers touched base next → (row : List PathStep) → (Among (differing base next touched) row → ⊥) → (c : Bool) → is_same_row (get base row) (get next row) ≡ c → get base row ≡ get next row
  by_cover cover row out true e = same_by (get base row) (get next row) e
  by_cover cover row out false e =
      let h = cover row (λ same. contrary (is_same_row (get base row) (get next row)) (told_same (get base row) (get next row) same) e) in
      by_base row h.by (contains_among touched h.by h.among) h.under out (get base row) refl

  -- where touched paths cover the difference, all rows that differ are found
  pub differ_among : Covers touched base next → DifferAmong (differing base next touched) base next
  differ_among cover row out = by_cover cover row (λ a. out (among_contains (differing base next touched) row a)) (is_same_row (get base row) (get next row)) refl

  record Lies (row : List PathStep) : Type 0 where
    by : List PathStep
    among : Among touched by
    under : is_under by row ≡ true
    there : (contains_key base row || contains_key next row) ≡ true

  lies_by : (row by : List PathStep) → Among touched by → Among (filter (differs base next) (rows_at base by)) row ⊎ Among (filter (λ r. not (contains_key base r)) (rows_at next by)) row → Lies row
  lies_by row by a (inl here) =
      let at = filter_among (differs base next) (rows_at base by) row here in
      record {
        by = by;
        among = a;
        under = filter_passes (is_under by) (keys base) row at;
        there = or_left (contains_key base row) (contains_key next row) (key_there base row (filter_among (is_under by) (keys base) row at));
      }
  lies_by row by a (inr here) =
      let at = filter_among (λ r. not (contains_key base r)) (rows_at next by) row here in
      record {
        by = by;
        among = a;
        under = filter_passes (is_under by) (keys next) row at;
        there = or_right (contains_key base row) (contains_key next row) (key_there next row (filter_among (is_under by) (keys next) row at));
      }

  -- a row that differs is a row of the one or the other
  pub differing_there : (row : List PathStep) → Among (differing base next touched) row → (contains_key base row || contains_key next row) ≡ true
  differing_there row a =
      let g = flat_among (differing_at base next) touched row a in
      (lies_by row g.x g.among (either (filter (differs base next) (rows_at base g.x)) (filter (λ r. not (contains_key base r)) (rows_at next g.x)) row g.within)).there

  -- what reads a row that differs is reached
  pub is_reached : (t : SchemaTree) (rule : Rule) (path row : List PathStep) → Among (differing base next touched) row → reads t rule path row ≡ true → Reaches t base next touched rule path
  is_reached t rule path row a read =
      let g = flat_among (differing_at base next) touched row a in
      let l = lies_by row g.x g.among (either (filter (differs base next) (rows_at base g.x)) (filter (λ r. not (contains_key base r)) (rows_at next g.x)) row g.within) in
      record {
        row = row;
        by = l.by;
        there = l.there;
        read = read;
        touched_by = among_contains touched l.by l.among;
        meets = or_left (is_under l.by row) (is_under row l.by) l.under;
      }
