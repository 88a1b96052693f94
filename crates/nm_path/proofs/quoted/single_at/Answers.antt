use Rattle.std.proofs.Common.{◌∙◌, ◌++◌, [], ◌∷◌, false, List, ℕ, rules, ap, lit<, arith}
use Rattle.std.specs.Prelude.{string_bytes}
use Rattle.std.proofs.lemmas.Str.Pattern.{split_once_first}
use Rattle.nm_path.specs.Reading.{single_at}
use Rattle.nm_path.proofs.Texts.{with_front-nil, is_single, single_last, single_next, single_over, after-shorter}
use Rattle.nm_path.proofs.quoted.single_at.Goals as goal

pub parts-init : goal.parts-init
parts-init c = (rw c.new-value.ensures.bytes (with_front-nil (single_at false c.args.text.now)), omega arith, c.utf8.text)

pub returns-in_default-after-clause-read : goal.returns-in_default-after-clause-read
returns-in_default-after-clause-read c =
    let split = split_once_first 39 c.parts.rest.now c.split_once.result c.split_once.ensures.cases (lit< tt) in
    let parts = rw c.in-Some.is at split in
    single_last (string_bytes c.parts.value) c.in-Some.front.now c.parts.rest.now c.in-Some.behind.now _ parts.0 parts.1 parts.2 c.parts.invariant.0 c.in_ok-new.field-0 c.in_default-after.ensures.rest (c.in_ok-new.ensures ∙ c.as_str.ensures.value ∙ c.in_ok-push_str.ensures.bytes)

pub parts-preserved : goal.parts-preserved
unfolding lib.Utf8.encode
parts-preserved c =
    let split = split_once_first 39 c.parts.rest.now c.split_once.result c.split_once.ensures.cases (lit< tt) in
    let parts = rw c.in-Some.is at split in
    let shorter = rw (← parts.2) at (after-shorter is_single c.parts.rest.now parts.0) in
    (single_next (string_bytes c.parts.value) c.in-Some.front.now c.parts.rest.now c.in-Some.behind.now _ parts.0 parts.1 parts.2 c.parts.invariant.0 c.in-Some-after.more.now (string_bytes c.push.new.self) c.in-Some-after.ensures.rest (c.in_ok-push.ensures.bytes ∙ ap (λ (x : List ℕ). x ++ 39 ∷ []) c.in_ok-push_str.ensures.bytes), omega (arith, parts.2, c.in-Some-after.ensures.shorter, shorter, c.parts.invariant.1), search rules)

pub returns-clause-read : goal.returns-clause-read
returns-clause-read c =
    let split = split_once_first 39 c.parts.rest.now c.split_once.result c.split_once.ensures.cases (lit< tt) in
    let past = rw c.in_default.is at split in
    single_over (string_bytes c.parts.value) c.parts.rest.now _ past c.parts.invariant.0
