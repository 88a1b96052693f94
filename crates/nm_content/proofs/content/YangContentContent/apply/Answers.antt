use Rattle.std.proofs.Common.{◌≡◌, Result, Ok, sym, ap, ◌∙◌}
use Rattle.nm_proto.specs.Content.{Refusal}
use Rattle.nm_schema_tree.specs.Nodes.{SchemaTree}
use Rattle.nm_overlay.specs.Differences.{Overlaid}
use Rattle.nm_edit.specs.Edited.{edited_rows}
use Rattle.nm_content.specs.Meaning.{over}
use Rattle.nm_content.specs.Laws.{yang_laws}
use Rattle.nm_content.proofs.Over.{over_marked}
use Rattle.nm_content.proofs.content.YangContentContent.apply.Goals as goal

pub returns-clause-belongs : goal.returns-clause-belongs
returns-clause-belongs c =
    let laws = yang_laws c.args.self.now in
    let config = c.args.config.now in
    let by : SchemaTree → Result Overlaid Refusal = λ t. over config.base (edited_rows t config.rows c.args.edit.now c.args.default_operation) in
    let made : by c.args.self.now ≡ Ok c.in_ok-edited.edited = ap by (sym c.self.view_is) ∙ c.in_ok-edited.ensures in
    laws.edited_belongs config c.args.edit.now c.args.default_operation c.args.marks c.in_ok-marked.field-0 c.requires.config c.requires.edit
    (over_marked config.base (edited_rows c.args.self.now config.rows c.args.edit.now c.args.default_operation) c.args.marks c.in_ok-edited.edited c.in_ok-marked.field-0 made c.in_ok-marked.ensures)
