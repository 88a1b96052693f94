-- A number is of an integer type where it is within the bounds and ranges of the type: its canonical text spells it.
use Rattle.std.proofs.Common.{◌≡◌, Bool, true, false, List, Option, Some, ℤ, FitsSigned, ap, ◌∙◌}
use Rattle.std.specs.Prelude.{◌&&◌}
use Rattle.std.specs.Ordering.{is_eq}
use Rattle.std.specs.Int.{w128}
use Rattle.std.specs.Fmt.{signed_decimal}
use Rattle.std.proofs.lemmas.Cmp.{tied_itself}
use Rattle.nm_types.specs.declared.value.Value.TheVariants.{Int}
use Rattle.nm_types.specs.Canonical.{canonical}
use Rattle.nm_types.specs.LeafType.{integer, TypeOfLeaf}
use Rattle.nm_types.specs.Limits.{is_within, meets_range}
use Rattle.nm_types.specs.Reading.{spelled}
use Rattle.nm_types.specs.ValueLaws.{values_total}
use Rattle.nm_types.proofs.Canonicals.{integer-canonical}
use Rattle.nm_types.proofs.Readings.{spelled-complete}
use Rattle.nm_types.proofs.Integers.{reading_some, reading_out}
use Rattle.nm_validate_rules.specs.Violated.{is_read, is_of_type}

module _ (low high : ℤ) (range : Option (List (ℤ × ℤ))) (z : ℤ) (held : FitsSigned w128 z) where
  abbrev t : TypeOfLeaf
  t = record { kind = integer low high; limits = range }

  is_spelled : spelled (integer low high) (signed_decimal z) ≡ Some (Int z)
  is_spelled = spelled-complete (integer low high) (signed_decimal z) (Int z) (integer-canonical z held)

  pub within_fits : (test : Bool) → is_within z (low, high) && meets_range range z ≡ test → is_of_type (Int z) t ≡ test
  unfolding is_of_type canonical
  within_fits true e = ap (is_read (Int z)) (reading_some t (signed_decimal z) (Int z) is_spelled e) ∙ ap is_eq (tied_itself values_total (Int z))
  within_fits false e = ap (is_read (Int z)) (reading_out t (signed_decimal z) (Int z) is_spelled e)
