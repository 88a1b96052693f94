-- Words are told apart by their numbers.
use Rattle.std.proofs.Common.{◌≡◌, ℕ, ◌==◌, true, if◌then◌else◌, refl, sym, ap, ◌∙◌, arith}
use Rattle.std.proofs.lemmas.Grind.{common_steps}
use Rattle.nm_schema_statements.specs.declared.word.Word.{Word}
use Rattle.nm_schema_statements.specs.declared.word.Word.TheVariants as word
use Rattle.nm_schema_statements.specs.Word.{word_number, same_word}

abbrev word_at : ℕ → Word
word_at n =
    if n == 0 then word.Module else (
    if n == 1 then word.YangVersion else (
    if n == 2 then word.Namespace else (
    if n == 3 then word.Prefix else (
    if n == 4 then word.Import else (
    if n == 5 then word.Container else (
    if n == 6 then word.Presence else (
    if n == 7 then word.Leaf else (
    if n == 8 then word.LeafList else (
    if n == 9 then word.List else (
    if n == 10 then word.Key else (
    if n == 11 then word.Unique else (
    if n == 12 then word.«Type» else (
    if n == 13 then word.Range else (
    if n == 14 then word.Length else (
    if n == 15 then word.Enum else (
    if n == 16 then word.Value else (
    if n == 17 then word.Bit else (
    if n == 18 then word.Position else (
    if n == 19 then word.FractionDigits else (
    if n == 20 then word.Path else (
    if n == 21 then word.Typedef else (
    if n == 22 then word.Grouping else (
    if n == 23 then word.Uses else (
    if n == 24 then word.Default else (
    if n == 25 then word.Mandatory else (
    if n == 26 then word.MinElements else (
    if n == 27 then word.MaxElements else (
    if n == 28 then word.Config else (
    if n == 29 then word.OrderedBy else (
    if n == 30 then word.Skipped else (
    if n == 31 then word.Unsupported else (
    if n == 32 then word.Unknown else (
    if n == 33 then word.Choice else (
    word.Case))))))))))))))))))))))))))))))))))

back : (w : Word) → word_at (word_number w) ≡ w
back word.Module = refl
back word.YangVersion = refl
back word.Namespace = refl
back word.Prefix = refl
back word.Import = refl
back word.Container = refl
back word.Presence = refl
back word.Leaf = refl
back word.LeafList = refl
back word.List = refl
back word.Key = refl
back word.Unique = refl
back word.Choice = refl
back word.Case = refl
back word.«Type» = refl
back word.Range = refl
back word.Length = refl
back word.Enum = refl
back word.Value = refl
back word.Bit = refl
back word.Position = refl
back word.FractionDigits = refl
back word.Path = refl
back word.Typedef = refl
back word.Grouping = refl
back word.Uses = refl
back word.Default = refl
back word.Mandatory = refl
back word.MinElements = refl
back word.MaxElements = refl
back word.Config = refl
back word.OrderedBy = refl
back word.Skipped = refl
back word.Unsupported = refl
back word.Unknown = refl

pub same_words : (one other : Word) → same_word one other ≡ true → one ≡ other
same_words one other e =
    let n : word_number one ≡ word_number other = grind (arith, common_steps) in
    sym (back one) ∙ ap word_at n ∙ back other

pub same_itself : (one other : Word) → one ≡ other → same_word one other ≡ true
same_itself one other e =
    let n : word_number one ≡ word_number other = ap word_number e in
    grind (arith, common_steps)
