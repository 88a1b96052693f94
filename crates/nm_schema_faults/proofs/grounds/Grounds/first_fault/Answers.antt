use Rattle.std.proofs.Common.{◌≡◌, ◌∙◌, ◌<◌, List, length, map, Some, None, sym, ap, arith}
use Rattle.std.specs.List.{range_with_len}
use Rattle.nm_schema_statements.specs.declared.row.Row.{Row}
use Rattle.nm_schema_faults.specs.Grounded.{Grounded}
use Rattle.nm_schema_faults.specs.Fault.{first_fault, first_some, fault_at}
use Rattle.nm_schema_faults.proofs.Ranges.{first_found, none_more}
use Rattle.nm_schema_faults.proofs.grounds.Grounds.first_fault.Goals as goal

pub returns-in-Ok-Some : goal.returns-in-Ok-Some
unfolding first_fault
returns-in-Ok-Some c =
    let count : length c.rows.result.now ≡ length c.args.self.now.rows = ap (λ (r : List Row). length r) (c.rows.ensures ∙ ap (λ (g : Grounded). g.rows) c.self.view_is) in
    let within : c.loop-at.at < length c.args.self.now.rows = omega (arith, count, c.len-at-end.ensures, c.loop-at-test.true) in
    let here : Some c.in-Ok-Some.fault ≡ fault_at c.args.self.now.rows c.args.self.now.facts c.loop-at.at = cc (c.in-Ok-Some.ensures, c.in-Ok-Some.field-0-is) in
    first_found (fault_at c.args.self.now.rows c.args.self.now.facts) (length c.args.self.now.rows) c.loop-at.at c.in-Ok-Some.fault within c.loop-at.invariant here

pub loop-at-preserved : goal.loop-at-preserved
loop-at-preserved c =
    let none : fault_at c.args.self.now.rows c.args.self.now.facts c.loop-at.at ≡ None = cc (c.in-Ok-None.ensures, c.in-Ok-None.field-0-is) in
    none_more (fault_at c.args.self.now.rows c.args.self.now.facts) c.loop-at.at c.loop-at.invariant none

pub returns : goal.returns
unfolding first_fault
returns c =
    let count : length c.rows.result.now ≡ length c.args.self.now.rows = ap (λ (r : List Row). length r) (c.rows.ensures ∙ ap (λ (g : Grounded). g.rows) c.self.view_is) in
    let bound = c.loop-at.auto.at-end in
    let all : length c.args.self.now.rows ≡ c.loop-at.at = omega (arith, count, bound, c.len-at-end.ensures, c.loop-at-test.false) in
    sym (ap (λ n. first_some (map (fault_at c.args.self.now.rows c.args.self.now.facts) (range_with_len 0 n))) all ∙ c.loop-at.invariant)
