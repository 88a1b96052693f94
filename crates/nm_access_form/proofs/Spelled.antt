-- Which texts spell accesses.
use Rattle.std.proofs.Common.{◌≡◌, ◌↔◌, ◌⊎◌, inl, inr, ℕ, List, [], ◌∷◌, codes, Bool, true, false, cond, All, Some, Ok, Err, refl, sym, ap, ◌∙◌}
use Rattle.std.specs.Prelude.{◌&&◌, ◌||◌, ◌==◌, not}
use Rattle.std.specs.List.{list_all, join_with_byte}
use Rattle.std.specs.Str.{bytes_eq}
use Rattle.std.specs.Cmp.Lexicographic.{bytes_decides}
use Rattle.std.proofs.lemmas.Bool.{and_parts, or_cases}
use Rattle.std.proofs.lemmas.List.Elements.{All-cons, All-nil}
use Rattle.std.proofs.lemmas.List.Splits.{join_with_byte-slice_split, slice_split_none, slice_split_at}
use Rattle.nm_proto.specs.declared.kind.ScenarioKind.TheVariants.{BadValue}
use Rattle.nm_access.specs.declared.rule.Accesses.{Accesses}
use Rattle.nm_scenario_form.specs.Reading.{plain}
use Rattle.nm_access_form.specs.Words.{parted, is_access, has_word, are_accesses, named, all_accesses, of_words, accesses_in, SpellsWords, SpellsAccesses}

-- ---- words have no spaces

not_parts : (a b : Bool) → (not a && b) ≡ true → (a ≡ false) × (b ≡ true)
not_parts true b e = cc
not_parts false b e = (refl, e)

no_spaces : (word : List ℕ) → list_all (λ b. not (b == 32)) word ≡ true → All (λ b. (b == 32) ≡ false) word
no_spaces [] e = All-nil (λ b. (b == 32) ≡ false)
no_spaces (b ∷ word) e = let parts = not_parts (b == 32) (list_all (λ c. not (c == 32)) word) e in
    All-cons (λ c. (c == 32) ≡ false) b word parts.0 (no_spaces word parts.1)

one_word : (word text : List ℕ) → list_all (λ b. not (b == 32)) text ≡ true → bytes_eq word text ≡ true → All (λ b. (b == 32) ≡ false) word
one_word word text none e = no_spaces word (ap (list_all (λ b. not (b == 32))) ((bytes_decides word text).0 e) ∙ none)

access_word : (word : List ℕ) → is_access word ≡ true → All (λ b. (b == 32) ≡ false) word
access_word word e = last (or_cases _ _ e)
  where
    first : (bytes_eq word (codes "create") ≡ true) ⊎ (bytes_eq word (codes "read") ≡ true) → All (λ b. (b == 32) ≡ false) word
    first (inl is) = one_word word (codes "create") refl is
    first (inr is) = one_word word (codes "read") refl is

    second : ((bytes_eq word (codes "create") || bytes_eq word (codes "read")) ≡ true) ⊎ (bytes_eq word (codes "update") ≡ true)
        → All (λ b. (b == 32) ≡ false) word
    second (inl is) = first (or_cases _ _ is)
    second (inr is) = one_word word (codes "update") refl is

    third : ((bytes_eq word (codes "create") || bytes_eq word (codes "read") || bytes_eq word (codes "update")) ≡ true)
        ⊎ (bytes_eq word (codes "delete") ≡ true) → All (λ b. (b == 32) ≡ false) word
    third (inl is) = second (or_cases _ _ is)
    third (inr is) = one_word word (codes "delete") refl is

    last : ((bytes_eq word (codes "create") || bytes_eq word (codes "read") || bytes_eq word (codes "update") || bytes_eq word (codes "delete")) ≡ true)
        ⊎ (bytes_eq word (codes "exec") ≡ true) → All (λ b. (b == 32) ≡ false) word
    last (inl is) = third (or_cases _ _ is)
    last (inr is) = one_word word (codes "exec") refl is

-- ---- words that are joined are parted again

parted_again : (first : List ℕ) (others : List (List ℕ)) → are_accesses (first ∷ others) ≡ true
    → parted (join_with_byte 32 (first ∷ others)) ≡ first ∷ others
parted_again first [] e =
    slice_split_none (λ b. b == 32) first (access_word first (and_parts (is_access first) (not (has_word [] first) && are_accesses []) e).0)
parted_again first (second ∷ others) e =
    let parts = and_parts (is_access first) (not (has_word (second ∷ others) first) && are_accesses (second ∷ others)) e in
    let rest = and_parts (not (has_word (second ∷ others) first)) (are_accesses (second ∷ others)) parts.1 in
    slice_split_at (λ b. b == 32) first 32 (join_with_byte 32 (second ∷ others)) (access_word first parts.0) refl
    ∙ ap (λ words. first ∷ words) (parted_again second others rest.1)

-- ---- texts

words_from : (text : List ℕ) (a : Accesses) (words : List (List ℕ)) → parted text ≡ words → of_words words ≡ Ok a → SpellsWords text a
words_from text a [] is e = let joined : join_with_byte 32 (parted text) ≡ text = join_with_byte-slice_split 32 text in
    let empty : text ≡ [] = sym joined ∙ ap (join_with_byte 32) is in
    let never : parted text ≡ [] ∷ [] = ap parted empty in
    let clash : [] ∷ [] ≡ [] = sym never ∙ is in cc
words_from text a (first ∷ others) is e = by (are_accesses (first ∷ others)) refl e
  where
    by : (b : Bool) → are_accesses (first ∷ others) ≡ b → cond b (Ok (named (first ∷ others))) (Err (plain BadValue)) ≡ Ok a → SpellsWords text a
    by true are e = record {
      first = first;
      others = others;
      joined = sym (join_with_byte-slice_split 32 text) ∙ ap (join_with_byte 32) is;
      words = are;
      names = let same : named (first ∷ others) ≡ a = cc in sym same;
    }
    by false are e = cc

text_from : (text : List ℕ) (a : Accesses) (all : Bool) → bytes_eq text (codes "*") ≡ all
    → cond all (Ok all_accesses) (of_words (parted text)) ≡ Ok a → SpellsAccesses text a
text_from text a true is e = let same : all_accesses ≡ a = cc in inl ((bytes_decides text (codes "*")).0 is, sym same)
text_from text a false is e = inr (words_from text a (parted text) refl e)

-- words aren't `*`
words_only : (text : List ℕ) (a : Accesses) → SpellsWords text a → (all : Bool) → bytes_eq text (codes "*") ≡ all
    → cond all (Ok all_accesses) (of_words (parted text)) ≡ Ok a
words_only text a s true is =
    let star : codes "*" ≡ join_with_byte 32 (s.first ∷ s.others) = sym ((bytes_decides text (codes "*")).0 is) ∙ s.joined in
    let words : codes "*" ∷ [] ≡ s.first ∷ s.others = ap parted star ∙ parted_again s.first s.others s.words in
    let never : false ≡ true = ap are_accesses words ∙ s.words in
    cc
words_only text a s false is =
    ap (λ words. cond (are_accesses words) (Ok (named words)) (Err (plain BadValue))) (ap parted s.joined ∙ parted_again s.first s.others s.words)
    ∙ ap (λ b. cond b (Ok (named (s.first ∷ s.others))) (Err (plain BadValue))) s.words
    ∙ ap Ok (sym s.names)

text_to : (text : List ℕ) (a : Accesses) → SpellsAccesses text a → accesses_in (Some text) ≡ Ok a
text_to text a (inl is) =
    ap (λ t. cond (bytes_eq t (codes "*")) (Ok all_accesses) (of_words (parted t))) is.0 ∙ ap Ok (sym is.1)
text_to text a (inr s) = words_only text a s (bytes_eq text (codes "*")) refl

pub spelled : (text : List ℕ) (a : Accesses) → (accesses_in (Some text) ≡ Ok a) ↔ SpellsAccesses text a
spelled text a = (text_from text a (bytes_eq text (codes "*")) refl, text_to text a)
