-- The names of bits in order of position are those of the bits, each once.
use Rattle.std.proofs.Common.{◌≡◌, ℕ, Bool, true, false, List, [], ◌∷◌, map, fold, refl, ap, ◌∙◌, inl, inr}
use Rattle.std.specs.Prelude.{◌&&◌, ◌||◌, not, nat_lt, ⊤}
use Rattle.std.specs.Str.{bytes_eq}
use Rattle.std.specs.Cmp.Lexicographic.{nat_list_eq_equiv}
use Rattle.std.proofs.lemmas.Bool.{cases_Bool, and_parts}
use Rattle.nm_types.specs.Names.{has_text, is_once}
use Rattle.nm_types.specs.Spells.{IsOnce}
use Rattle.nm_types.proofs.BitTexts.{once-test, once-fact}
use Rattle.nm_schema_derive.specs.declared.members.Member.{Member}
use Rattle.nm_schema_derive.specs.Kinds.{member_name}
use Rattle.nm_schema_derive.specs.Order.{bit_of, bit_name, insert_bit, in_order, names_in_order}

or_swap : (a b c : Bool) → a || (b || c) ≡ b || (a || c)
or_swap true true c = refl
or_swap true false c = refl
or_swap false b c = refl

insert-has : (s : List (List ℕ × ℕ)) (b : List ℕ × ℕ) (x : List ℕ) → has_text (map bit_name (insert_bit s b)) x ≡ bytes_eq b.0 x || has_text (map bit_name s) x
unfolding insert_bit
insert-has [] b x = refl
insert-has (c ∷ cs) b x = elim (cases_Bool (nat_lt b.1 c.1)) [
  | inl before ↦ rw before refl
  | inr behind ↦ rw behind (ap (λ (o : Bool). bytes_eq c.0 x || o) (insert-has cs b x) ∙ or_swap (bytes_eq c.0 x) (bytes_eq b.0 x) (has_text (map bit_name cs) x))
]

once_swap : (p q r o : Bool) → not (p || q) && (not r && o) ≡ not (p || r) && (not q && o)
once_swap true q r o = refl
once_swap false true true o = refl
once_swap false true false o = refl
once_swap false false true o = refl
once_swap false false false o = refl

insert-once : (s : List (List ℕ × ℕ)) (b : List ℕ × ℕ) → is_once (map bit_name (insert_bit s b)) ≡ not (has_text (map bit_name s) b.0) && is_once (map bit_name s)
unfolding insert_bit is_once
insert-once [] b = refl
insert-once (c ∷ cs) b = elim (cases_Bool (nat_lt b.1 c.1)) [
  | inl before ↦ rw before refl
  | inr behind ↦ rw behind (
      ap (λ (o : Bool). not o && is_once (map bit_name (insert_bit cs b))) (insert-has cs b c.0)
      ∙ ap (λ (o : Bool). not (bytes_eq b.0 c.0 || has_text (map bit_name cs) c.0) && o) (insert-once cs b)
      ∙ once_swap (bytes_eq b.0 c.0) (has_text (map bit_name cs) c.0) (has_text (map bit_name cs) b.0) (is_once (map bit_name cs))
      ∙ ap (λ (e : Bool). not (e || has_text (map bit_name cs) b.0) && (not (has_text (map bit_name cs) c.0) && is_once (map bit_name cs))) (nat_list_eq_equiv.symm b.0 c.0))
]

-- no text of the second list is in the first
Apart : List (List ℕ) → List (List ℕ) → Type 0
Apart ss [] = ⊤
Apart ss (x ∷ xs) = (has_text ss x ≡ false) × Apart ss xs

or_parts : (a b : Bool) → a || b ≡ false → (a ≡ false) × (b ≡ false)
or_parts true b e = cc
or_parts false b e = (refl, e)

not_parts : (a : Bool) → not a ≡ true → a ≡ false
not_parts true e = cc
not_parts false e = refl

apart-insert : (s : List (List ℕ × ℕ)) (b : List ℕ × ℕ) (xs : List (List ℕ)) → Apart (map bit_name s) xs → has_text xs b.0 ≡ false → Apart (map bit_name (insert_bit s b)) xs
unfolding Apart
apart-insert s b [] h e = tt
apart-insert s b (x ∷ xs) h e =
    let p = or_parts (bytes_eq x b.0) (has_text xs b.0) e in
    let q : bytes_eq b.0 x ≡ false = nat_list_eq_equiv.symm b.0 x ∙ p.0 in
    (insert-has s b x ∙ rw (q, h.0) refl, apart-insert s b xs h.1 p.1)

order-once : (s bs : List (List ℕ × ℕ)) → is_once (map bit_name s) ≡ true → is_once (map bit_name bs) ≡ true → Apart (map bit_name s) (map bit_name bs) → is_once (map bit_name (fold insert_bit s bs)) ≡ true
unfolding is_once Apart
order-once s [] a b h = a
order-once s (x ∷ xs) a b h =
    let p = and_parts (not (has_text (map bit_name xs) x.0)) (is_once (map bit_name xs)) b in
    let f = h.0 in
    order-once (insert_bit s x) xs (insert-once s x ∙ rw (f, a) refl) p.1 (apart-insert s x (map bit_name xs) h.1 (not_parts (has_text (map bit_name xs) x.0) p.0))

apart-none : (xs : List (List ℕ)) → Apart [] xs
unfolding Apart
apart-none [] = tt
apart-none (x ∷ xs) = (refl, apart-none xs)

bit_names : (members : List Member) → map bit_name (map bit_of members) ≡ map member_name members
bit_names [] = refl
bit_names (m ∷ members) = ap (λ (names : List (List ℕ)). member_name m ∷ names) (bit_names members)

-- the names of members that have a name each, as a test
pub once_listed : (members : List Member) → IsOnce (map member_name members) → is_once (map member_name members) ≡ true
once_listed members once = once-test (map member_name members) once

-- and those of bits in order
pub once_in_order : (members : List Member) → IsOnce (map member_name members) → is_once (names_in_order members) ≡ true
unfolding in_order is_once
once_in_order members once =
    let test : is_once (map bit_name (map bit_of members)) ≡ true = ap is_once (bit_names members) ∙ once_listed members once in
    order-once [] (map bit_of members) refl test (apart-none (map bit_name (map bit_of members)))

-- no two bits in order have one name where no two members have
pub in_order_once : (members : List Member) → IsOnce (map member_name members) → IsOnce (names_in_order members)
in_order_once members once = once-fact (names_in_order members) (once_in_order members once)
