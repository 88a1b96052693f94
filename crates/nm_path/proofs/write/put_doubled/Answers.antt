use Rattle.std.proofs.Common.{◌∙◌, ◌++◌, [], ◌∷◌, ap, lit<, List, ℕ, rules}
use Rattle.std.specs.Prelude.{string_bytes}
use Rattle.std.proofs.lemmas.Str.Pattern.{split_once_first}
use Rattle.nm_path.proofs.Texts.{doubled_next, doubled_over}
use Rattle.nm_path.proofs.write.put_doubled.Goals as goal

pub split_once-requires-text-self : goal.split_once-requires-text-self
split_once-requires-text-self c κs = c.parts.invariant.1

pub parts-preserved : goal.parts-preserved
parts-preserved c =
    let split = split_once_first 39 c.parts.rest.now c.split_once.result c.split_once.ensures.cases (lit< tt) in
    let parts = rw c.in-Some.is at split in
    (doubled_next (string_bytes c.parts.out) c.in-Some.front.now c.parts.rest.now c.in-Some.behind.now (string_bytes c.push_str-in-Some.new.self) _ parts.0 parts.1 parts.2 (c.in_ok-push_str-2.ensures.bytes ∙ ap (λ (x : List ℕ). x ++ 39 ∷ 39 ∷ []) c.in_ok-push_str.ensures.bytes) c.parts.invariant.0, search rules)

pub push_str-requires-2-text-string : goal.push_str-requires-2-text-string
push_str-requires-2-text-string c κs = c.parts.invariant.1

pub returns : goal.returns
returns c =
    let split = split_once_first 39 c.parts.rest.now c.split_once.result c.split_once.ensures.cases (lit< tt) in
    let past = rw c.in_default.is at split in
    doubled_over (string_bytes c.parts.out) c.parts.rest.now (string_bytes c.push_str-2.new.self) _ past c.in_ok-push_str-3.ensures.bytes c.parts.invariant.0
