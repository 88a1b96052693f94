use Rattle.std.proofs.Common.{◌≡◌, ◌-◌, ◌++◌, ℕ, List, ap, sym, ◌∙◌, arith}
use Rattle.nm_report.specs.Journal.{line_if_started, up_to}
use Rattle.nm_report.proofs.Ascending.{up_to-none, up_to-next}
use Rattle.nm_report.proofs.journal_text.write_changes.Goals as goal

pub loop-number-init : goal.loop-number-init
loop-number-init c = up_to-none (line_if_started c.args.entries.now) c.args.out.now.items

pub loop-number-preserved : goal.loop-number-preserved
loop-number-preserved c =
    c.in_ok-write_if_started.ensures ∙ ap (λ (before : List ℕ). before ++ line_if_started c.args.entries.now c.loop-number.number) c.loop-number.invariant
    ∙ up_to-next (line_if_started c.args.entries.now) c.args.out.now.items c.loop-number.number (omega arith)

pub returns : goal.returns
returns c =
    let all : c.loop-number.number - 1 ≡ 64 = omega arith in
    c.loop-number.invariant ∙ ap (λ n. c.args.out.now.items ++ up_to (line_if_started c.args.entries.now) n) all
