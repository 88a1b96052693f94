use Rattle.std.proofs.Common.{◌∙◌, ◌≤◌, Some, sym, ap, subst}
use Rattle.serde_json.specs.Data.{Data, depth}
use Rattle.serde_json.specs.Read.{max_depth}
use Rattle.serde_json.specs.View.{view}
use Rattle.serde_json.specs.Written.{has_float, compact_text}
use Rattle.nm_json.proofs.Floats.{no_float}
use Rattle.nm_json.proofs.Rounds.{text_law}
use Rattle.nm_json.proofs.write.write_config.Goals as goal

pub returns-clause-text : goal.returns-clause-text
returns-clause-text c =
    let is = c.in_ok-whole.ensures.value in
    c.in_ok-to_string.ensures.text (ap has_float is ∙ no_float c.args.schema.now c.args.config.now) ∙ ap compact_text is

pub returns-clause-reads_back : goal.returns-clause-reads_back
returns-clause-reads_back c =
    let is = c.in_ok-whole.ensures.value in
    λ shallow. c.in_ok-to_string.ensures.reads_back (subst (λ (d : Data). depth d ≤ max_depth) (sym is) shallow) ∙ ap (λ (d : Data). Some d) is

pub returns-clause-same_config : goal.returns-clause-same_config
returns-clause-same_config c =
    text_law c.in_ok-to_string.field-0 c.args.schema.now c.args.config.now (view c.in_ok-whole.whole) c.in_ok-whole.ensures.value c.in_ok-to_string.ensures.reads_back
