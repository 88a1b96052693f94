use Rattle.std.proofs.Common.{◌≡◌, ◌∙◌, ◌≤◌, ◌+◌, ℕ, List, length, Bool, Option, is_some, ap, subst, arith}
use Rattle.std.proofs.lemmas.Bool.{cases_lt}
use Rattle.std.proofs.lemmas.List.{length_push}
use Rattle.nm_schema_statements.specs.declared.flaw.Flaw.{Flaw}
use Rattle.nm_schema_uses.specs.Outline.{Outline}
use Rattle.nm_schema_keys.specs.ConfigUse.{ConfigUse, IsConfigUse}
use Rattle.nm_schema_keys.specs.Uniques.{unique_flaw}
use Rattle.nm_schema_keys.proofs.Flawing.{marked_all, marked_more}
use Rattle.nm_schema_keys.proofs.finder.Finder.marks.Goals as goal

pub loop-at-preserved : goal.loop-at-preserved
loop-at-preserved c =
    let same = c.loop-at.invariant.same in
    let flaw = subst (λ (o : Outline). (standing : ConfigUse) → IsConfigUse o.rows o.groupings standing → c.in-Ok.flaw ≡ unique_flaw o.rows o.groupings standing c.loop-at.at) same c.in-Ok.ensures.flaw in
    record {
      same = c.in-Ok.ensures.same ∙ same;
      size = ap (λ (marks : List Bool). length marks) c.in_ok-push-in-Ok.ensures.items ∙ length_push c.loop-at.marks.items c.is_there.result ∙ ap (λ (n : ℕ). n + 1) c.loop-at.invariant.size;
      marks = λ standing is. marked_more _ c.loop-at.at c.loop-at.marks.items c.push.new.self.items c.is_there.result (c.loop-at.invariant.marks standing is) (c.is_there.ensures ∙ ap (λ (f : Option Flaw). is_some f) (flaw standing is)) c.in_ok-push-in-Ok.ensures.items;
    }

pub returns-clause-marks : goal.returns-clause-marks
returns-clause-marks c =
    let outline = c.args.self.now in
    let all : length outline.rows ≤ c.loop-at.at = omega (arith, c.requires, c.loop-at-test.false) in
    λ standing is at. marked_all outline.rows outline.groupings standing c.loop-at.at at c.loop-at.marks.items (c.loop-at.invariant.marks standing is) all (cases_lt at c.loop-at.at)
