-- Loops that gather values, of which one may be missing.
use Rattle.std.proofs.Common.{◌≡◌, ◌<◌, ◌≤◌, ◌+◌, ◌∙◌, ℕ, List, [], ◌∷◌, ◌++◌, length, map, drop, get_or, Option, Some, None, sym, ap, append-nil}
use Rattle.std.proofs.lemmas.List.{drop_all, drop_more}
use Rattle.nm_graph.specs.Value.{all_there}
use Rattle.nm_schema_keys.proofs.Ways.{in_front}
use Rattle.nm_schema_keys.proofs.Left.{front_step}

module _ {X Y : Type 0} (f : X → Option Y) (xs : List X) (i : ℕ) where
  -- a value more
  pub front_more : (d : X) (front after : List Y) (y : Y) (whole : Option (List Y)) → i < length xs → after ≡ front ++ y ∷ [] → Some y ≡ f (get_or xs i d)
      → in_front front (all_there (map f (drop i xs))) ≡ whole → in_front after (all_there (map f (drop (i + 1) xs))) ≡ whole
  front_more d front after y whole lt put is before =
      ap (λ (ys : List Y). in_front ys (all_there (map f (drop (i + 1) xs)))) put ∙ front_step f (get_or xs i d) (drop (i + 1) xs) front y is
      ∙ ap (λ (l : List X). in_front front (all_there (map f l))) (sym (drop_more xs i d lt)) ∙ before

  -- a value that is missing
  pub front_missing : (d : X) (front : List Y) (whole : Option (List Y)) → i < length xs → None ≡ f (get_or xs i d) → in_front front (all_there (map f (drop i xs))) ≡ whole → None ≡ whole
  front_missing d front whole lt is before =
      ap (λ (o : Option Y). in_front front (all_there (o ∷ map f (drop (i + 1) xs)))) is ∙ ap (λ (l : List X). in_front front (all_there (map f l))) (sym (drop_more xs i d lt)) ∙ before

  -- no value is left
  pub front_over : (front : List Y) (whole : Option (List Y)) → length xs ≤ i → in_front front (all_there (map f (drop i xs))) ≡ whole → Some front ≡ whole
  front_over front whole le before =
      ap (λ (ys : List Y). Some ys) (sym (append-nil front)) ∙ ap (λ (l : List X). in_front front (all_there (map f l))) (sym (drop_all i xs le)) ∙ before
