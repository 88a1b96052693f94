use Rattle.std.proofs.Common.{◌≡◌, ◌≤◌, ◌∙◌, ◌++◌, length, sym, subst, OnOk}
use Rattle.nm_report.specs.Text.{change_texts}
use Rattle.nm_report.proofs.change_text.write_change_sets.Goals as goal

pub write_each_change-requires-clause-few_devices : goal.write_each_change-requires-clause-few_devices
write_each_change-requires-clause-few_devices g c = subst (λ devices. length devices ≤ 32) (sym (c.as_slice.ensures.value ∙ c.in_ok-tellings.ensures)) c.requires.few_devices

pub returns : goal.returns
returns g c =
    subst (λ devices. OnOk c.write_each_change.result (c.write_each_change.new.out.items ≡ c.args.out.now.items ++ change_texts devices c.args.entries.now 1 c.args.plans.now))
    (c.as_slice.ensures.value ∙ c.in_ok-tellings.ensures) c.write_each_change.ensures
