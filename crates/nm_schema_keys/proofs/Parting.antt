-- Texts that several marks part.
use Rattle.std.proofs.Common.{◌≡◌, ◌∙◌, ℕ, List, [], ◌∷◌, ◌++◌, Bool, true, false, ◌||◌, cond, refl, sym, ap}
use Rattle.std.specs.List.{slice_split, onto_first, flat_map}
use Rattle.std.proofs.Common.{◌<◌, ◌+◌, Bor, eqb, filter, map, take, get_or, length}
use Rattle.std.proofs.lemmas.List.{take_more, map-append, append-nil}
use Rattle.std.proofs.lemmas.List.Concat.{flat_map-append}
use Rattle.nm_schema_statements.specs.Text.{is_some_text}
use Rattle.nm_schema_keys.specs.Words.{words_of}

-- a list of parts has a first one
data IsSome : List (List ℕ) → Type 0 where
  some : (part : List ℕ) (parts : List (List ℕ)) → IsSome (part ∷ parts)

onto_some : (x : ℕ) (parts : List (List ℕ)) → IsSome (onto_first x parts)
onto_some x [] = some (x ∷ []) []
onto_some x (part ∷ parts) = some (x ∷ part) parts

split_some : (p : ℕ → Bool) (xs : List ℕ) → IsSome (slice_split p xs)
split_some p [] = some [] []
split_some p (x ∷ xs) = elim (p x) as (λ b. IsSome (cond b ([] ∷ slice_split p xs) (onto_first x (slice_split p xs)))) [ true ↦ some [] (slice_split p xs) | false ↦ onto_some x (slice_split p xs) ]

onto-append : (x : ℕ) (parts more : List (List ℕ)) → IsSome parts → onto_first x parts ++ more ≡ onto_first x (parts ++ more)
onto-append x _ more (some part parts) = refl

-- parts of a first part that is longer by one
onto-flat_map : (p : ℕ → Bool) (x : ℕ) (parts : List (List ℕ)) → IsSome parts
    → flat_map (slice_split p) (onto_first x parts) ≡ cond (p x) ([] ∷ flat_map (slice_split p) parts) (onto_first x (flat_map (slice_split p) parts))
onto-flat_map p x _ (some part parts) =
    elim (p x) as (λ b. cond b ([] ∷ slice_split p part) (onto_first x (slice_split p part)) ++ flat_map (slice_split p) parts ≡ cond b ([] ∷ flat_map (slice_split p) (part ∷ parts)) (onto_first x (flat_map (slice_split p) (part ∷ parts)))) [
      | true ↦ refl
      | false ↦ onto-append x (slice_split p part) (flat_map (slice_split p) parts) (split_some p part)
    ]

-- what one mark parts and then another, both part
pub split_twice : (q p : ℕ → Bool) (xs : List ℕ) → flat_map (slice_split p) (slice_split q xs) ≡ slice_split (λ b. q b || p b) xs
split_twice q p [] = refl
split_twice q p (x ∷ xs) =
    elim (q x) as (λ b. flat_map (slice_split p) (cond b ([] ∷ slice_split q xs) (onto_first x (slice_split q xs))) ≡ cond (b || p x) ([] ∷ slice_split (λ b. q b || p b) xs) (onto_first x (slice_split (λ b. q b || p b) xs))) [
      | true ↦ ap (λ (parts : List (List ℕ)). [] ∷ parts) (split_twice q p xs)
      | false ↦ onto-flat_map p x (slice_split q xs) (split_some q xs) ∙ ap (λ (parts : List (List ℕ)). cond (p x) ([] ∷ parts) (onto_first x parts)) (split_twice q p xs)
    ]

-- what all blanks part, one after another
pub white_parts : (text : List ℕ) (a b c d : List (List ℕ)) → a ≡ slice_split (λ x. eqb x 32) text → b ≡ flat_map (λ t. slice_split (λ x. eqb x 9) t) a
    → c ≡ flat_map (λ t. slice_split (λ x. eqb x 13) t) b → d ≡ flat_map (λ t. slice_split (λ x. eqb x 10) t) c → filter is_some_text d ≡ words_of text
unfolding words_of
white_parts text a b c d ea eb ec ed =
    let first : b ≡ slice_split (λ x. eqb x 32 || eqb x 9) text = eb ∙ ap (λ (l : List (List ℕ)). flat_map (slice_split (λ x. eqb x 9)) l) ea ∙ split_twice (λ x. eqb x 32) (λ x. eqb x 9) text in
    let second : c ≡ slice_split (λ x. (eqb x 32 || eqb x 9) || eqb x 13) text = ec ∙ ap (λ (l : List (List ℕ)). flat_map (slice_split (λ x. eqb x 13)) l) first ∙ split_twice (λ x. eqb x 32 || eqb x 9) (λ x. eqb x 13) text in
    let third : d ≡ slice_split (λ x. ((eqb x 32 || eqb x 9) || eqb x 13) || eqb x 10) text = ed ∙ ap (λ (l : List (List ℕ)). flat_map (slice_split (λ x. eqb x 10)) l) second ∙ split_twice (λ x. (eqb x 32 || eqb x 9) || eqb x 13) (λ x. eqb x 10) text in
    ap (λ (l : List (List ℕ)). filter is_some_text l) third

-- texts without where they lie in memory
pub texts_same : {xs ys : List (Bor (List ℕ))} → xs ≡ ys → map (λ (t : Bor (List ℕ)). t.now) xs ≡ map (λ (t : Bor (List ℕ)). t.now) ys
texts_same e = ap (λ (l : List (Bor (List ℕ))). map (λ (t : Bor (List ℕ)). t.now) l) e

-- the pieces of one text more
pub split_more : (p : ℕ → Bool) (texts : List (Bor (List ℕ))) (k : ℕ) (d : Bor (List ℕ)) (old more : List (Bor (List ℕ))) → k < length texts
    → map (λ (t : Bor (List ℕ)). t.now) old ≡ flat_map (slice_split p) (map (λ (t : Bor (List ℕ)). t.now) (take k texts)) → map (λ (t : Bor (List ℕ)). t.now) more ≡ slice_split p (get_or texts k d).now
    → map (λ (t : Bor (List ℕ)). t.now) (old ++ more) ≡ flat_map (slice_split p) (map (λ (t : Bor (List ℕ)). t.now) (take (k + 1) texts))
split_more p texts k d old more lt before parts =
    let now : Bor (List ℕ) → List ℕ = λ t. t.now in
    map-append now old more
    ∙ ap (λ (l : List (List ℕ)). l ++ map now more) before
    ∙ ap (λ (l : List (List ℕ)). flat_map (slice_split p) (map now (take k texts)) ++ l) (parts ∙ sym (append-nil (slice_split p (get_or texts k d).now)))
    ∙ sym (flat_map-append (slice_split p) (map now (take k texts)) ((get_or texts k d).now ∷ []))
    ∙ ap (λ (l : List (List ℕ)). flat_map (slice_split p) l) (sym (map-append now (take k texts) (get_or texts k d ∷ [])))
    ∙ ap (λ (l : List (Bor (List ℕ))). flat_map (slice_split p) (map now l)) (sym (take_more texts k d lt))
