use Rattle.std.proofs.Common.{◌≡◌, true, drop}
use Rattle.std.specs.List.{list_all}
use Rattle.nm_types.specs.Parts.{is_ascending}
use Rattle.nm_schema_derive.specs.Cover.{is_inside}
use Rattle.nm_schema_derive.proofs.cover.covers_all.Given as goal

-- what is left of the base ascends, and has the numbers of the parts that are left where the base has them
abbrev pub invariant-loop-part : goal.invariant-loop-part
invariant-loop-part l = record {
  left : is_ascending l.rest ≡ true;
  ascend : is_ascending (drop l.part-index l.parts) ≡ true;
  same : list_all (is_inside l.rest) (drop l.part-index l.parts) ≡ list_all (is_inside l.base) l.parts;
}
