-- The canonical text of bits is a spelling of them.
use Rattle.std.proofs.Common.{◌≡◌, ℕ, Bool, true, false, List, [], ◌∷◌, ◌++◌, filter, fold, length, ap, refl, sym, ◌∙◌, inl, inr, append_assoc}
use Rattle.std.specs.Prelude.{◌==◌, ◌&&◌, not, All}
use Rattle.std.specs.List.{slice_split, onto_first, list_all}
use Rattle.std.proofs.lemmas.Bool.{cases_Bool, false_from_ne_true, false≢true}
use Rattle.std.proofs.lemmas.List.{append-nil}
use Rattle.std.proofs.lemmas.List.Splits.{slice_split_none, slice_split_at}
use Rattle.std.proofs.lemmas.List.Elements.{All-nil, All-cons}
use Rattle.nm_types.specs.Names.{has_text, is_once}
use Rattle.nm_types.specs.Reading.{words, are_bits, spaced, bits_text}
use Rattle.nm_types.specs.Spells.{IsOnce, SpellsBits}
use Rattle.nm_types.proofs.Decimals.{and_parts}
use Rattle.nm_types.proofs.Readings.{are_bits-sound, has_text-sound, has_text-complete}
use Rattle.nm_types.proofs.BitNames.{list_all-from, list_all-at, chosen-has, chosen-once, chosen-same, bits-from}

-- ---- words

abbrev is_space : ℕ → Bool
is_space b = b == 32

abbrev no_space : List ℕ → Bool
no_space w = list_all (λ b. not (b == 32)) w

abbrev is_filled : List ℕ → Bool
is_filled w = not (length w == 0)

abbrev is_word : List ℕ → Bool
is_word w = is_filled w && no_space w

onto-spaceless : (c : ℕ) (parts : List (List ℕ)) → (c == 32) ≡ false → list_all no_space parts ≡ true → list_all no_space (onto_first c parts) ≡ true
onto-spaceless c [] e h = rw e refl
onto-spaceless c (part ∷ parts) e h = rw e h

split-spaceless : (text : List ℕ) → list_all no_space (slice_split is_space text) ≡ true
split-spaceless [] = refl
split-spaceless (c ∷ text) = elim (cases_Bool (c == 32)) [
  | inl y ↦ rw y (split-spaceless text)
  | inr n ↦ rw n (onto-spaceless c (slice_split is_space text) n (split-spaceless text))
]

filter-words : (parts : List (List ℕ)) → list_all no_space parts ≡ true → list_all is_word (filter is_filled parts) ≡ true
filter-words [] h = refl
filter-words (w ∷ ws) h =
    let p = and_parts (no_space w) (list_all no_space ws) h in
    elim (cases_Bool (is_filled w)) [
      | inl y ↦ (let a = p.0 in rw y (rw (y, a) (filter-words ws p.1)))
      | inr n ↦ rw n (filter-words ws p.1)
    ]

-- the words of a text are words
words-are-words : (text : List ℕ) → list_all is_word (words text) ≡ true
unfolding words
words-are-words text = filter-words (slice_split is_space text) (split-spaceless text)

-- ---- names that are parted by one space

tails : List (List ℕ) → List ℕ
tails [] = []
tails (w ∷ ws) = 32 ∷ (w ++ tails ws)

fold-spaced : (a : ℕ) (as' : List ℕ) (ws : List (List ℕ)) → fold spaced (a ∷ as') ws ≡ (a ∷ as') ++ tails ws
unfolding tails
fold-spaced a as' [] = sym (append-nil (a ∷ as'))
fold-spaced a as' (w ∷ ws) = fold-spaced a (as' ++ 32 ∷ w) ws ∙ ap (λ (l : List ℕ). a ∷ l) (append_assoc as' (32 ∷ w) (tails ws))

spaceless : (w : List ℕ) → no_space w ≡ true → All (λ b. (b == 32) ≡ false) w
spaceless [] h = All-nil _
spaceless (b ∷ bs) h =
    let p = and_parts (not (b == 32)) (no_space bs) h in
    All-cons (λ b. (b == 32) ≡ false) b bs (elim (cases_Bool (b == 32)) [ inl y ↦ (let g = rw y at p.0 in cc) | inr n ↦ n ]) (spaceless bs p.1)

split-tails : (w : List ℕ) (ws : List (List ℕ)) → no_space w ≡ true → list_all no_space ws ≡ true → slice_split is_space (w ++ tails ws) ≡ w ∷ ws
unfolding tails
split-tails w [] h k = ap (slice_split is_space) (append-nil w) ∙ slice_split_none is_space w (spaceless w h)
split-tails w (v ∷ vs) h k =
    let p = and_parts (no_space v) (list_all no_space vs) k in
    slice_split_at is_space w 32 (v ++ tails vs) (spaceless w h) refl ∙ ap (λ (l : List (List ℕ)). w ∷ l) (split-tails v vs p.0 p.1)

filled-words : (ws : List (List ℕ)) → list_all is_word ws ≡ true → filter is_filled ws ≡ ws
filled-words [] h = refl
filled-words (w ∷ ws) h =
    let p = and_parts (is_word w) (list_all is_word ws) h in
    let q = and_parts (is_filled w) (no_space w) p.0 in
    let a = q.0 in rw a (ap (λ (l : List (List ℕ)). w ∷ l) (filled-words ws p.1))

all-spaceless : (ws : List (List ℕ)) → list_all is_word ws ≡ true → list_all no_space ws ≡ true
all-spaceless [] h = refl
all-spaceless (w ∷ ws) h =
    let p = and_parts (is_word w) (list_all is_word ws) h in
    let a = (and_parts (is_filled w) (no_space w) p.0).1 in rw a (all-spaceless ws p.1)

-- the words of names parted by one space are the names
words-spaced : (ws : List (List ℕ)) → list_all is_word ws ≡ true → words (fold spaced [] ws) ≡ ws
unfolding words
words-spaced [] h = refl
words-spaced ([] ∷ ws) h = cc
words-spaced ((a ∷ as') ∷ ws) h =
    let s = all-spaceless ((a ∷ as') ∷ ws) h in
    let p = and_parts (no_space (a ∷ as')) (list_all no_space ws) s in
    ap (λ (t : List ℕ). filter is_filled (slice_split is_space t)) (fold-spaced a as' ws)
    ∙ ap (filter is_filled) (split-tails (a ∷ as') ws p.0 p.1)
    ∙ filled-words ((a ∷ as') ∷ ws) h

-- ---- the canonical text

pub once-test : (ts : List (List ℕ)) → IsOnce ts → is_once ts ≡ true
unfolding is_once
once-test [] h = refl
once-test (t ∷ ts) h = let a = false_from_ne_true (has_text ts t) (λ m. h.0 (has_text-sound ts t m)) in rw a (once-test ts h.1)

pub once-fact : (ts : List (List ℕ)) → is_once ts ≡ true → IsOnce ts
unfolding is_once
once-fact [] e = tt
once-fact (t ∷ ts) e =
    let p = and_parts (not (has_text ts t)) (is_once ts) e in
    (λ c. let h = has_text-complete ts t c in false≢true (rw h at p.0), once-fact ts p.1)

pub bits-canonical : (names : List (List ℕ)) (text t : List ℕ) → IsOnce names → SpellsBits names text t → SpellsBits names t t
unfolding bits_text
bits-canonical names text t distinct s =
    let p = has_text (words text) in
    let ns = filter p names in
    let ns-once : is_once ns ≡ true = chosen-once p names (once-test names distinct) in
    let ns-words : list_all is_word ns ≡ true = list_all-from is_word ns (λ x m. list_all-at is_word (words text) (words-are-words text) x (and_parts (has_text names x) (p x) (sym (chosen-has p names x) ∙ m)).1) in
    let ns-names : (x : List ℕ) → has_text ns x ≡ true → has_text names x ≡ true = λ x m. (and_parts (has_text names x) (p x) (sym (chosen-has p names x) ∙ m)).0 in
    let same : filter (has_text ns) names ≡ ns = chosen-same p (has_text ns) names (λ x m. chosen-has p names x ∙ rw m refl) in
    let back : words t ≡ ns = ap words s.canonical ∙ words-spaced ns ns-words in
    record {
      named = are_bits-sound names (words t) (ap (are_bits names) back ∙ bits-from names ns ns-names ns-once);
      canonical = s.canonical ∙ ap (fold spaced []) (sym same) ∙ ap (λ (l : List (List ℕ)). fold spaced [] (filter (has_text l) names)) (sym back);
    }
