-- YANG contents keep the laws of every content.
use Rattle.std.specs.Prelude.{◌≡◌, ◌≤◌, ℕ, List, [], ◌∷◌, Bool, true, false, Option, Some, None, Result, Ok, Err, nat_lt, if◌then◌else◌, refl}
use Rattle.std.proofs.Common.{sym, ◌∙◌, ap, subst, lit≤}
use Rattle.std.specs.Prelude.{option_map}
use Rattle.std.specs.FinMap.{len}
use Rattle.nm_base.specs.declared.tag.Tag.{Tag}
use Rattle.nm_base.specs.declared.tag.Tag.TheVariants.{DataExists, DataMissing, ResourceDenied}
use Rattle.nm_base.specs.Tag.{tag_number}
use Rattle.nm_types.specs.Path.{PathStep}
use Rattle.nm_proto.specs.declared.message.DefaultOperation.{DefaultOperation}
use Rattle.nm_proto.specs.declared.message.Marks.{Marks}
use Rattle.nm_proto.specs.Content.{Refusal, Laws, IsAnswerable}
use Rattle.nm_schema_tree.specs.Nodes.{SchemaTree}
use Rattle.nm_path.specs.Written.{path_text}
use Rattle.nm_config.specs.Rows.{Rows}
use Rattle.nm_overlay.specs.Differences.{Overlaid}
use Rattle.nm_json.specs.Whole.{row_limit}
use Rattle.nm_validate_rules.specs.declared.rule.Rule.{Rule}
use Rattle.nm_validate_rules.specs.declared.rule.Rule.TheVariants as rule
use Rattle.nm_validate_rules.specs.Rule.{rule_tag}
use Rattle.nm_validate_rules.specs.Standing.{StandsIn}
use Rattle.nm_validate_rules.specs.Violation.{Violation, violation}
use Rattle.nm_validate.specs.Told.{refusal_of, violation_told}
use Rattle.nm_edit.specs.declared.edit.EditNode.{EditNode}
use Rattle.nm_edit.specs.declared.act.Act.{Act}
use Rattle.nm_edit.specs.declared.operation.Effective.{Effective}
use Rattle.nm_edit.specs.declared.operation.Effective.TheVariants.{Merge, Replace, Create, Delete, Remove, Nothing}
use Rattle.nm_edit.specs.Acts.{acts}
use Rattle.nm_edit.specs.Refusals.{refused_by, refused_at, refusal_or, first_refusal}
use Rattle.nm_edit.specs.Edited.{base_of, brought, limited, unless, edited_rows}
use Rattle.nm_edit.proofs.Data.{edited_stand}
use Rattle.nm_content.specs.Mark.{has_mark, marked, with_marks}
use Rattle.nm_content.specs.MarkLaws.{has_mark-marked, after_added, after_old, after_kept}
use Rattle.nm_content.specs.PlaceLaws.{parts_tell, marks_tell, overlaps_turned}
use Rattle.nm_content.specs.StandLaws.{marked_stand}
use Rattle.nm_content.specs.EditLaws.{mark_before, mark_stays}
use Rattle.nm_content.specs.Meaning.{over, lifted, yang_meaning}

-- ---- what an edit makes, apart from its marks

-- rows that an edit made, before the marks went and came
record Made (made : Result Rows Refusal) (marks : Option Marks) (after : Rows) : Type 0 where
  rows : Rows
  is : made ≡ Ok rows
  with : marked rows marks ≡ after

made_of : (made : Result Rows Refusal) (marks : Option Marks) (after : Rows) → with_marks made marks ≡ Ok after → Made made marks after
made_of (Ok rows) marks after e = record { rows = rows; is = refl; with = cc }
made_of (Err refusal) marks after e = absurd (cc)

refused : (made : Result Rows Refusal) (marks : Option Marks) (refusal : Refusal) → with_marks made marks ≡ Err refusal → made ≡ Err refusal
refused (Ok rows) marks refusal e = absurd (cc)
refused (Err given) marks refusal e = cc

-- what is made of rows over a base, and that base
record Kept (base : Rows) (made : Result Rows Refusal) (after : Overlaid) : Type 0 where
  rows : made ≡ Ok after.rows
  base_is : after.base ≡ base

kept_over : (base : Rows) (made : Result Rows Refusal) (after : Overlaid) → over base made ≡ Ok after → Kept base made after
kept_over base (Ok rows) after e =
    let same : record { base = base; rows = rows } ≡ after = cc in
    record { rows = ap (λ (o : Overlaid). Ok o.rows) same; base_is = sym (ap (λ (o : Overlaid). o.base) same) }
kept_over base (Err refusal) after e = absurd (cc)

refused_over : (base : Rows) (made : Result Rows Refusal) (refusal : Refusal) → over base made ≡ Err refusal → made ≡ Err refusal
refused_over base (Ok rows) refusal e = absurd (cc)
refused_over base (Err given) refusal e = cc

-- ---- refusals

answerable : (tag : Tag) (path : List ℕ) (refusal : Refusal) → tag_number tag ≤ 8
    → Some (record { tag = tag; path = path }) ≡ Some refusal → IsAnswerable refusal
answerable tag path refusal small e = let t : refusal.tag ≡ tag = cc in rw t small

by_exists : (e : Effective) (exists passed : Bool) (tag : Tag) → refused_by e exists passed ≡ Some tag → tag_number tag ≤ 8
by_exists Create true passed tag e = let t : tag ≡ DataExists = cc in rw t (lit≤ tt)
by_exists Create false passed tag e = absurd (cc)
by_exists Delete true passed tag e = absurd (cc)
by_exists Delete false passed tag e = let t : tag ≡ DataMissing = cc in rw t (lit≤ tt)
by_exists Nothing true passed tag e = absurd (cc)
by_exists Nothing false true tag e = absurd (cc)
by_exists Nothing false false tag e = let t : tag ≡ DataMissing = cc in rw t (lit≤ tt)
by_exists Merge exists passed tag e = absurd (cc)
by_exists Replace exists passed tag e = absurd (cc)
by_exists Remove exists passed tag e = absurd (cc)

module _ (t : SchemaTree) where
  first_by : (path : List PathStep) (here : Option Tag) (later : Option Refusal) (refusal : Refusal)
      → ((tag : Tag) → here ≡ Some tag → tag_number tag ≤ 8) → (later ≡ Some refusal → IsAnswerable refusal)
      → refusal_or t path here later ≡ Some refusal → IsAnswerable refusal
  first_by path None later refusal h k e = k e
  first_by path (Some tag) later refusal h k e = answerable tag (path_text t path) refusal (h tag refl) e

  first_answerable : (old : Rows) (done : List Act) (refusal : Refusal) → first_refusal t old done ≡ Some refusal → IsAnswerable refusal
  first_answerable old [] refusal e = absurd (cc)
  first_answerable old (a ∷ done) refusal e =
      first_by a.path (refused_at t old a) (first_refusal t old done) refusal (by_exists a.operation _ _) (first_answerable old done refusal) e

  limit_by : (b : Bool) (rows : Rows) (refusal : Refusal)
      → (if b then Err (record { tag = ResourceDenied; path = [] }) else Ok rows) ≡ Err refusal → IsAnswerable refusal
  limit_by true rows refusal e = let t : refusal.tag ≡ ResourceDenied = cc in rw t (lit≤ tt)
  limit_by false rows refusal e = absurd (cc)

  refused_by_all : (first : Option Refusal) (rows : Rows) (refusal : Refusal) → (first ≡ Some refusal → IsAnswerable refusal)
      → unless first (limited rows) ≡ Err refusal → IsAnswerable refusal
  refused_by_all None rows refusal h e = limit_by (nat_lt row_limit (len rows)) rows refusal e
  refused_by_all (Some given) rows refusal h e = h (cc)

  edit_answerable : (old : Rows) (nodes : List EditNode) (d : DefaultOperation) (refusal : Refusal)
      → edited_rows t old nodes d ≡ Err refusal → IsAnswerable refusal
  edit_answerable old nodes d refusal e =
      refused_by_all (first_refusal t old (acts nodes d)) (brought t old (base_of d old) (acts nodes d)) refusal (first_answerable old (acts nodes d) refusal) e

  rule_small : (r : Rule) → tag_number (rule_tag r) ≤ 8
  rule_small rule.ValueType = lit≤ tt
  rule_small rule.Key = lit≤ tt
  rule_small rule.Mandatory = lit≤ tt
  rule_small rule.Leafref = lit≤ tt
  rule_small rule.Unique = lit≤ tt
  rule_small rule.MinElements = lit≤ tt
  rule_small rule.MaxElements = lit≤ tt
  rule_small rule.MandatoryChoice = lit≤ tt
  rule_small rule.OneCase = lit≤ tt

  told_answerable : (found : Option Violation) (refusal : Refusal) → option_map (refusal_of t) found ≡ Some refusal → IsAnswerable refusal
  told_answerable None refusal e = absurd (cc)
  told_answerable (Some v) refusal e = answerable (rule_tag v.rule) (path_text t v.path) refusal (rule_small v.rule) e

-- ---- the laws

-- what the core asks of a content holds of YANG contents
pub yang_laws : (t : SchemaTree) → Laws (yang_meaning t)
yang_laws t = record {
  edited_belongs = λ config edit operation marks after b eb e.
      let k = kept_over config.base (with_marks (edited_rows t config.rows edit operation) marks) after e in
      let m = made_of (edited_rows t config.rows edit operation) marks after.rows k.rows in
      record {
        sound = b.sound;
        marker = b.marker;
        stands = subst (StandsIn t) m.with (marked_stand t b.sound b.marker m.rows marks (edited_stand t config.rows edit operation b.stands eb m.rows m.is));
        base_stands = subst (StandsIn t) (sym k.base_is) b.base_stands;
        base_valid = ap (violation_told t) k.base_is ∙ b.base_valid;
      };
  added = λ config edit operation marks after b eb e n a.
      let k = kept_over config.base (with_marks (edited_rows t config.rows edit operation) marks) after e in
      let m = made_of (edited_rows t config.rows edit operation) marks after.rows k.rows in
      ap (λ (rows : Rows). has_mark rows n) (sym m.with) ∙ has_mark-marked m.rows marks n ∙ after_added marks (has_mark m.rows) n a;
  only_old = λ config edit operation marks after b eb plain e n a there.
      let k = kept_over config.base (with_marks (edited_rows t config.rows edit operation) marks) after e in
      let m = made_of (edited_rows t config.rows edit operation) marks after.rows k.rows in
      let h = after_old marks (has_mark m.rows) n a (sym (has_mark-marked m.rows marks n) ∙ ap (λ (rows : Rows). has_mark rows n) m.with ∙ there) in
      (mark_before t config.rows edit operation plain m.rows n m.is h.0, h.1);
  kept = λ config edit operation marks after b eb plain e merges n had stays.
      let k = kept_over config.base (with_marks (edited_rows t config.rows edit operation) marks) after e in
      let m = made_of (edited_rows t config.rows edit operation) marks after.rows k.rows in
      ap (λ (rows : Rows). has_mark rows n) (sym m.with) ∙ has_mark-marked m.rows marks n
      ∙ after_kept marks (has_mark m.rows) n (mark_stays t config.rows edit operation plain b.sound b.marker eb m.rows n merges m.is had) stays;
  overlaps_both_ways = overlaps_turned;
  same_parts = λ one other node. (
    λ same. ap lifted ((parts_tell one.rows other.rows node).0 same),
    λ same. (parts_tell one.rows other.rows node).1 (ap (λ (o : Overlaid). o.rows) same),
  );
  same_numbers = λ one other. marks_tell one.rows other.rows;
  refusals = λ config edit operation marks refusal b eb e.
      edit_answerable t config.rows edit operation refusal
      (refused (edited_rows t config.rows edit operation) marks refusal
      (refused_over config.base (with_marks (edited_rows t config.rows edit operation) marks) refusal e));
  violations = λ config refusal b e. told_answerable t (violation t config.rows) refusal e;
}
