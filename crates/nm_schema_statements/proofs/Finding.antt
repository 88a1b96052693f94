-- The first row that has a word, from a place on.
use Rattle.std.proofs.Common.{◌≡◌, ℕ, ◌+◌, ◌<◌, List, length, get_or, drop, true, false, Option, Some, if◌then◌else◌, refl, sym, ◌∙◌, slice_get, drop-cons, add-one}
use Rattle.nm_schema_statements.specs.declared.row.Row.{Row}
use Rattle.nm_schema_statements.specs.declared.word.Word.{Word}
use Rattle.nm_schema_statements.specs.Rows.{has_word, first_with}

first_with-drop : (rows : List Row) (wanted : Word) (numbers : List ℕ) (i : ℕ) → i < length numbers
    → first_with rows wanted (drop i numbers) ≡ (if has_word wanted (slice_get rows (get_or numbers i 0)) then Some (get_or numbers i 0) else first_with rows wanted (drop (i + 1) numbers))
first_with-drop rows wanted numbers i lt = rw (drop-cons numbers i 0, add-one) refl

pub found : (rows : List Row) (wanted : Word) (numbers : List ℕ) (i : ℕ) (all : Option ℕ) → i < length numbers → all ≡ first_with rows wanted (drop i numbers)
    → has_word wanted (slice_get rows (get_or numbers i 0)) ≡ true → Some (get_or numbers i 0) ≡ all
found rows wanted numbers i all lt is e = sym (is ∙ first_with-drop rows wanted numbers i lt ∙ rw e refl)

pub passed : (rows : List Row) (wanted : Word) (numbers : List ℕ) (i : ℕ) (all : Option ℕ) → i < length numbers → all ≡ first_with rows wanted (drop i numbers)
    → has_word wanted (slice_get rows (get_or numbers i 0)) ≡ false → all ≡ first_with rows wanted (drop (i + 1) numbers)
passed rows wanted numbers i all lt is e = is ∙ first_with-drop rows wanted numbers i lt ∙ rw e refl
