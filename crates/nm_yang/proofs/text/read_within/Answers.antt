use Rattle.std.proofs.Common.{◌≡◌, true, refl, sym, ap, ◌∙◌}
use Rattle.nm_yang.specs.Page.{Page}
use Rattle.nm_yang.specs.Module.{module_at, page_of}
use Rattle.nm_yang.proofs.Modules.{attempt-answers}
use Rattle.nm_yang.proofs.text.read_within.Goals as goal

pub returns-then-is_ok : goal.returns-then-is_ok
returns-then-is_ok c =
    let s = c.in_ok-strict.strict in
    let now : Page = record { text = c.cut-stop.result.0.now; stop = c.cut-stop.result.1; strict = true } in
    let p : now ≡ page_of c.args.limit true c.args.text.now = rw (c.cut-stop.ensures.front, c.cut-stop.ensures.stop) refl in
    let e = ap (λ (x : Page). (module_at x).1) (sym p) ∙ c.in_ok-strict.ensures.1 in
    attempt-answers c.args.limit c.args.text.now s.end s.below.items c.statement_of.result (sym c.if-is_ok.ensures.value) e c.statement_of.ensures
