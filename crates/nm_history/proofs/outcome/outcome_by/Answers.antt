use Rattle.std.proofs.Common.{◌+◌, drop, map, sym, ◌∙◌}
use Rattle.nm_history.specs.Outcome.{outcome_of}
use Rattle.nm_history.proofs.Standings.{read_one, final_stays}
use Rattle.nm_history.proofs.outcome.outcome_by.Goals as goal

pub loop-entry-preserved : goal.loop-entry-preserved
loop-entry-preserved c =
    read_one c.args.token.now (record { outcome = c.loop-entry.standing.outcome; other = c.loop-entry.standing.other })
    (record { outcome = c.after-standing.result.outcome; other = c.after-standing.result.other }) (λ entry. entry.now) c.args.entries.now c.loop-entry.entry-index c.entry-item.result
    (outcome_of c.args.token.now (map (λ entry. entry.now) c.args.entries.now)) c.loop-entry-test.true c.entry-item.is c.after-standing.ensures.outcome c.after-standing.ensures.other c.loop-entry.invariant

pub returns-then-is_final : goal.returns-then-is_final
returns-then-is_final c =
    let rest = map (λ entry. entry.now) (drop (c.loop-entry.entry-index + 1) c.args.entries.now) in
    sym (final_stays c.args.token.now c.after-standing.result.outcome c.after-standing.result.other rest (sym (c.is_final.ensures) ∙ c.if-is_final.true))
    ∙ read_one c.args.token.now (record { outcome = c.loop-entry.standing.outcome; other = c.loop-entry.standing.other })
    (record { outcome = c.after-standing.result.outcome; other = c.after-standing.result.other }) (λ entry. entry.now) c.args.entries.now c.loop-entry.entry-index c.entry-item.result
    (outcome_of c.args.token.now (map (λ entry. entry.now) c.args.entries.now)) c.loop-entry-test.true c.entry-item.is c.after-standing.ensures.outcome c.after-standing.ensures.other c.loop-entry.invariant
