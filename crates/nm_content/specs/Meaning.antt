-- YANG contents as a content (RFC 6241 section 7.2, RFC 7950 section 8).
use Rattle.std.specs.Prelude.{◌≡◌, ℕ, List, false, None, Result, Ok, Err}
use Rattle.serde_json.specs.Written.{compact_text}
use Rattle.nm_proto.specs.Content.{Meaning, Refusal}
use Rattle.nm_schema_tree.specs.Nodes.{SchemaTree}
use Rattle.nm_path.specs.Sound.{IsSound}
use Rattle.nm_config.specs.Rows.{Rows}
use Rattle.nm_overlay.specs.Differences.{Overlaid}
use Rattle.nm_json.specs.Writing.{config_data}
use Rattle.nm_validate_rules.specs.Standing.{StandsIn}
use Rattle.nm_validate.specs.Told.{violation_told}
use Rattle.nm_edit.specs.declared.edit.EditNode.{EditNode}
use Rattle.nm_edit.specs.EditOf.{IsEditOf}
use Rattle.nm_edit.specs.Edited.{edited_rows}
use Rattle.nm_schema.specs.Marker.{HasMarker}
use Rattle.nm_content_place.specs.declared.place.YangNode.{YangNode}
use Rattle.nm_content_place.specs.Place.{found, exists, overlaps, part, same_at}
use Rattle.nm_content.specs.Mark.{has_mark, names_marks, with_marks, same_marks, outside_rows}

-- rows over themselves, of which nothing is changed (this project's own)
abbrev pub lifted : Rows → Overlaid
lifted rows = record { base = rows; rows = rows }

-- what becomes of rows over a base that stays
abbrev pub over : Rows → Result Rows Refusal → Result Overlaid Refusal
over base (Ok rows) = Ok (record { base = base; rows = rows })
over base (Err refusal) = Err refusal

-- a configuration of a schema tree as modules give it, with the list of marks. What it lies over is valid
pub record Belongs (t : SchemaTree) (config : Overlaid) : Type 0 where
  pub sound : IsSound t.nodes
  pub marker : HasMarker t
  pub stands : StandsIn t config.rows
  pub base_stands : StandsIn t config.base
  pub base_valid : violation_told t config.base ≡ None

-- what YANG contents of a schema tree mean
abbrev pub yang_meaning : SchemaTree → Meaning Overlaid (List EditNode) YangNode
yang_meaning t = record {
  belongs = Belongs t;
  edit_belongs = IsEditOf t;
  is_plain = λ nodes. names_marks nodes ≡ false;
  edited = λ config nodes operation marks. over config.base (with_marks (edited_rows t config.rows nodes operation) marks);
  violation = λ config. violation_told t config.rows;
  found = found t;
  exists = λ config. exists config.rows;
  overlaps = overlaps;
  part = λ config node. lifted (part config.rows node);
  same_at = λ one other. same_at one.rows other.rows;
  same_marks = λ one other. same_marks one.rows other.rows;
  has_mark = λ config. has_mark config.rows;
  rows = λ config. outside_rows config.rows;
}

-- the JSON text of a configuration (RFC 7951)
unfoldable pub yang_text : SchemaTree → Overlaid → List ℕ
yang_text t config = compact_text (config_data t config.rows)
