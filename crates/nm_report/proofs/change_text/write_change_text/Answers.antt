use Rattle.std.proofs.Common.{◌≡◌, ◌∙◌, ◌++◌, List, ℕ, OnOk, subst, ap, append_assoc}
use Rattle.nm_proto.specs.Plan.{devices_in}
use Rattle.nm_report.specs.Text.{change_line, change_text, outcome_texts}
use Rattle.nm_report.proofs.change_text.write_change_text.Goals as goal

pub returns : goal.returns
unfolding change_text
returns g c =
    let line = change_line c.args.change c.args.entries.now in
    let whole : c.write_change.new.out.items ++ outcome_texts c.args.change c.devices.result.0 1 c.args.devices.now
    ≡ c.args.out.now.items ++ change_text c.args.devices.now c.args.entries.now c.args.change (devices_in c.args.plan.now.edits) =
    ap (λ (text : List ℕ). text ++ outcome_texts c.args.change c.devices.result.0 1 c.args.devices.now) c.in_ok-write_change.ensures
    ∙ append_assoc c.args.out.now.items line (outcome_texts c.args.change c.devices.result.0 1 c.args.devices.now)
    ∙ ap (λ m. c.args.out.now.items ++ (line ++ outcome_texts c.args.change m 1 c.args.devices.now)) c.devices.ensures.value in
    subst (λ text. OnOk c.write_outcomes.result (c.write_outcomes.new.out.items ≡ text)) whole c.write_outcomes.ensures
