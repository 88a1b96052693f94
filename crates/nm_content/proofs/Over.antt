-- What an edit makes of rows over a base, once its marks went and came.
use Rattle.std.proofs.Common.{◌≡◌, Option, Result, Ok, Err, sym, ap, ◌∙◌}
use Rattle.nm_proto.specs.declared.message.Marks.{Marks}
use Rattle.nm_proto.specs.Content.{Refusal}
use Rattle.nm_config.specs.Rows.{Rows}
use Rattle.nm_overlay.specs.Differences.{Overlaid}
use Rattle.nm_content.specs.Mark.{marked, with_marks}
use Rattle.nm_content.specs.Meaning.{over}

pub over_marked : (base : Rows) (made : Result Rows Refusal) (marks : Option Marks) (edited after : Overlaid) → over base made ≡ Ok edited
    → after ≡ record { base = edited.base; rows = marked edited.rows marks } → over base (with_marks made marks) ≡ Ok after
over_marked base (Ok rows) marks edited after e is =
    let same : record { base = base; rows = rows } ≡ edited = cc in
    let made : Overlaid = record { base = edited.base; rows = marked edited.rows marks } in
    ◌∙◌ {b = Ok made} (ap (λ (o : Overlaid). Ok (record { base = o.base; rows = marked o.rows marks })) same) (ap Ok (sym is))
over_marked base (Err refusal) marks edited after e is = absurd (cc)
