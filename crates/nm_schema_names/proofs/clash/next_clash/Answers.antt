use Rattle.std.proofs.Common.{◌≡◌, ◌||◌, ◌∙◌, ◌<◌, List, Some, get_or, length, sym, ap, arith}
use Rattle.std.proofs.lemmas.List.{get_or_default}
use Rattle.nm_schema_statements.specs.declared.row.Row.{Row}
use Rattle.nm_schema_names.specs.Clash.{Parts, no_parts, brought_by, clash_by, has_part, holder_of, known_at}
use Rattle.nm_schema_names.proofs.Holders.{some_if}
use Rattle.nm_schema_names.proofs.Naming.{clash_none, taken_none, taken_more, clash-source, brought-source}
use Rattle.nm_schema_names.proofs.clash.next_clash.Goals as goal

pub returns-in-None-clause-clash : goal.returns-in-None-clause-clash
returns-in-None-clause-clash c = clash_none (known_at c.args.known.now.brought) c.args.rows.now c.args.at (sym c.requires.holder ∙ c.in-None.is)

pub returns-in-None-clause-taken : goal.returns-in-None-clause-taken
returns-in-None-clause-taken c = taken_none c.args.known.now c.args.taken.now.items c.args.at c.requires.taken (ap (λ (rows : List Row). holder_of rows c.args.at) c.requires.rows ∙ sym c.requires.holder ∙ c.in-None.is)

pub returns-clause-clash : goal.returns-clause-clash
returns-clause-clash c =
    let held = some_if c.args.holder (λ h. h < length c.args.rows.now) c.in-Some.holder c.in-Some.is c.requires.held in
    let size = c.requires.taken.size in
    let same : length c.args.known.now.rows ≡ length c.args.rows.now = ap (λ (rows : List Row). length rows) c.requires.rows in
    let here : c.index_mut.result.now ≡ get_or c.args.taken.now.items c.in-Some.holder no_parts = c.index_mut.ensures.value ∙ get_or_default c.args.taken.now.items c.in-Some.holder c.index_mut.result.now no_parts (omega arith) in
    let is : holder_of c.args.known.now.rows c.args.at ≡ Some c.in-Some.holder = ap (λ (rows : List Row). holder_of rows c.args.at) c.requires.rows ∙ sym c.requires.holder ∙ c.in-Some.is in
    let shared : known_at c.args.known.now.brought c.source_at-source.result ≡ known_at c.args.known.now.brought c.args.at = ap (λ i. known_at c.args.known.now.brought i) c.source_at-source.ensures ∙ c.requires.sources c.args.at in
    c.in_ok-clash.ensures.clash
    ∙ clash-source c.args.known.now c.args.taken.now.items c.source_at-source.result c.args.at c.in-Some.holder c.index_mut.result.now c.requires.taken is (omega arith) here shared
    ∙ ap (λ (rows : List Row). clash_by (known_at c.args.known.now.brought) rows c.args.at) c.requires.rows

pub returns-clause-taken : goal.returns-clause-taken
returns-clause-taken c =
    let held = some_if c.args.holder (λ h. h < length c.args.rows.now) c.in-Some.holder c.in-Some.is c.requires.held in
    let size = c.requires.taken.size in
    let same : length c.args.known.now.rows ≡ length c.args.rows.now = ap (λ (rows : List Row). length rows) c.requires.rows in
    let here : c.index_mut.result.now ≡ get_or c.args.taken.now.items c.in-Some.holder no_parts = c.index_mut.ensures.value ∙ get_or_default c.args.taken.now.items c.in-Some.holder c.index_mut.result.now no_parts (omega arith) in
    let is : holder_of c.args.known.now.rows c.args.at ≡ Some c.in-Some.holder = ap (λ (rows : List Row). holder_of rows c.args.at) c.requires.rows ∙ sym c.requires.holder ∙ c.in-Some.is in
    let shared : known_at c.args.known.now.brought c.source_at-source.result ≡ known_at c.args.known.now.brought c.args.at = ap (λ i. known_at c.args.known.now.brought i) c.source_at-source.ensures ∙ c.requires.sources c.args.at in
    taken_more c.args.known.now c.args.taken.now.items c.args.at c.in-Some.holder c.take.new.self c.requires.taken is (omega arith)
    (λ n. c.in_ok-clash.ensures.taken n
    ∙ ap (λ b. b || has_part c.args.known.now c.index_mut.result.now n) (brought-source c.args.known.now c.source_at-source.result c.args.at n shared)
    ∙ ap (λ (p : Parts). brought_by c.args.known.now c.args.at n || has_part c.args.known.now p n) here)
