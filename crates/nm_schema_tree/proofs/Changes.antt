-- What names lead to, after a name more.
use Rattle.std.proofs.Common.{◌≡◌, ◌⊎◌, ℕ, List, Bool, true, false, cond, Option, Some, None, if◌then◌else◌, refl, sym, ap, ◌∙◌, ◌&&◌, inl, inr}
use Rattle.std.specs.Option.{option_or}
use Rattle.std.specs.Str.{bytes_eq}
use Rattle.std.proofs.lemmas.Slice.Eq.{bytes_eq-Decides}
use Rattle.nm_schema_tree.specs.declared.level.Level.{Level}
use Rattle.nm_schema_tree.specs.Levels.{found, found_in}

or_none : (o : Option ℕ) → o ≡ option_or o None
or_none None = refl
or_none (Some i) = refl

named_by : (name q : List ℕ) (b : Bool) → bytes_eq name q ≡ b → ((bytes_eq name q ≡ true) × (name ≡ q)) ⊎ (bytes_eq name q ≡ false)
named_by name q true e = inl (e, (bytes_eq-Decides name q).0 e)
named_by name q false e = inr e

named_is : (name q : List ℕ) → ((bytes_eq name q ≡ true) × (name ≡ q)) ⊎ (bytes_eq name q ≡ false)
named_is name q = named_by name q (bytes_eq name q) refl

-- a name that led nowhere
pub put_new : (f : List ℕ → Option ℕ) (name q : List ℕ) (at : ℕ) → f name ≡ None → cond (bytes_eq name q) (Some at) (f q) ≡ option_or (f q) (if bytes_eq name q then Some at else None)
put_new f name q at none = elim (named_is name q) [
  | inl same ↦ rw (same.0, ap f (sym same.1) ∙ none) refl
  | inr other ↦ rw other (or_none (f q))
]

-- a level of a module more, or another one
pub put_level : (before after : List ℕ → Option Level) (owner name : List ℕ) (at : ℕ) (old : Option Level) (level : Level) → before owner ≡ old → ((o : List ℕ) → after o ≡ cond (bytes_eq owner o) (Some level) (before o))
    → ((q : List ℕ) → found level q ≡ option_or (found_in old q) (if bytes_eq name q then Some at else None))
    → (o q : List ℕ) → found_in (after o) q ≡ option_or (found_in (before o) q) (if bytes_eq owner o && bytes_eq name q then Some at else None)
put_level before after owner name at old level was is put o q = elim (named_is owner o) [
  | inl same ↦ ap (λ l. found_in l q) (is o) ∙ rw (same.0, ap before (sym same.1) ∙ was) (put q)
  | inr other ↦ ap (λ l. found_in l q) (is o) ∙ rw other (or_none (found_in (before o) q))
]

pub same_level : (before after : List ℕ → Option Level) (owner : List ℕ) (old : Option Level) (level : Level) → before owner ≡ old → ((o : List ℕ) → after o ≡ cond (bytes_eq owner o) (Some level) (before o))
    → ((q : List ℕ) → found level q ≡ found_in old q) → (o q : List ℕ) → found_in (after o) q ≡ found_in (before o) q
same_level before after owner old level was is put o q = elim (named_is owner o) [
  | inl same ↦ ap (λ l. found_in l q) (is o) ∙ rw (same.0, ap before (sym same.1) ∙ was) (put q)
  | inr other ↦ ap (λ l. found_in l q) (is o) ∙ rw other refl
]
