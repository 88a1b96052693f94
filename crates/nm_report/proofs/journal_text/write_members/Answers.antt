use Rattle.std.proofs.Common.{◌≡◌, ◌-◌, ◌++◌, ℕ, List, ap, sym, ◌∙◌, arith}
use Rattle.nm_report.specs.Journal.{member_text, members_text, up_to}
use Rattle.nm_report.proofs.Ascending.{up_to-none, up_to-next}
use Rattle.nm_report.proofs.journal_text.write_members.Goals as goal

pub loop-number-init : goal.loop-number-init
loop-number-init c = up_to-none (member_text c.args.devices.0) c.args.out.now.items

pub loop-number-preserved : goal.loop-number-preserved
loop-number-preserved c =
    c.in_ok-write_member.ensures ∙ ap (λ (before : List ℕ). before ++ member_text c.args.devices.0 c.loop-number.number) c.loop-number.invariant
    ∙ up_to-next (member_text c.args.devices.0) c.args.out.now.items c.loop-number.number (omega arith)

pub returns : goal.returns
unfolding members_text
returns c =
    let all : c.loop-number.number - 1 ≡ 32 = omega arith in
    c.loop-number.invariant ∙ ap (λ n. c.args.out.now.items ++ up_to (member_text c.args.devices.0) n) all
