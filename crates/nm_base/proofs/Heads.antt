-- Texts whose heads differ are ordered as their heads are; and a head goes on by a byte.
use Rattle.std.proofs.Common.{◌≡◌, ◌≢◌, ℕ, zero, suc, ◌+◌, ◌-◌, ◌*◌, ◌^◌, ◌<◌, ◌≤◌, List, [], ◌∷◌, drop, get_or, refl, sym, ap, subst, ◌∙◌, arith, Bool, true, false, Ordering, ne_eqb, le_trans, pow_mono, pow-add}
use Rattle.std.proofs.Common.{Less, Equal, Greater, nat_eq}
use Rattle.std.specs.Ordering.{MatchOrdering, nat_cmp, ordering_then}
use Rattle.std.specs.Cmp.{nat_cmp_is, ranks}
use Rattle.std.specs.Cmp.Lexicographic.{pointwise, slice_cmp, told_text}
use Rattle.nm_base.specs.Head.{IsHead}

-- what stands before decides
ordered : (k n m : ℕ) (xs ys : List ℕ) (g h : ℕ) → n < m → IsHead k n xs g → IsHead k m ys h → g < h
ordered zero n m xs ys g h less p q = omega (arith, less, p, q)
ordered (suc k) n m [] [] g h less p q = ordered k (n * 256) (m * 256) [] [] g h (omega (arith, less)) p q
ordered (suc k) n m [] (c ∷ ys) g h less p q = ordered k (n * 256) (m * 256 + c) [] ys g h (omega (arith, less)) p q.1
ordered (suc k) n m (b ∷ xs) [] g h less p q = ordered k (n * 256 + b) (m * 256) xs [] g h (omega (arith, less, p.0)) p.1 q
ordered (suc k) n m (b ∷ xs) (c ∷ ys) g h less p q = ordered k (n * 256 + b) (m * 256 + c) xs ys g h (omega (arith, less, p.0)) p.1 q.1

-- a text that ended has the lesser head
ended : (k n : ℕ) (ys : List ℕ) (g h : ℕ) → IsHead k n [] g → IsHead k n ys h → g ≢ h → g < h
ended zero n ys g h p q apart = absurd (apart (p ∙ sym q))
ended (suc k) n [] g h p q apart = ended k (n * 256) [] g h p q apart
ended (suc k) n (zero ∷ ys) g h p q apart = ended k (n * 256) ys g h p (subst (λ x. IsHead k x ys h) (omega arith) q.1) apart
ended (suc k) n (suc c ∷ ys) g h p q apart = ordered k (n * 256) (n * 256 + suc c) [] ys g h (omega arith) p q.1

-- the first byte decides, and where it is the same the rest does
by_first : (k n b c : ℕ) (xs ys : List ℕ) (g h : ℕ) (r rest : Ordering) → MatchOrdering r (b < c) (b ≡ c) (c < b) → b < 256 → c < 256
    → IsHead k (n * 256 + b) xs g → IsHead k (n * 256 + c) ys h → (b ≡ c → nat_cmp g h ≡ rest) → nat_cmp g h ≡ ordering_then r rest
by_first k n b c xs ys g h Less rest less small low p q go = sym (nat_cmp_is g h Less (ordered k _ _ xs ys g h (omega (arith, less)) p q))
by_first k n b c xs ys g h Equal rest same small low p q go = go same
by_first k n b c xs ys g h Greater rest more small low p q go = sym (nat_cmp_is g h Greater (ordered k _ _ ys xs h g (omega (arith, more)) q p))

-- heads that differ are in the order of their texts
pub heads_order : (k n : ℕ) (xs ys : List ℕ) (g h : ℕ) → IsHead k n xs g → IsHead k n ys h → g ≢ h → nat_cmp g h ≡ slice_cmp nat_cmp xs ys
heads_order zero n xs ys g h p q apart = absurd (apart (p ∙ sym q))
heads_order (suc k) n [] [] g h p q apart = heads_order k (n * 256) [] [] g h p q apart
heads_order (suc k) n [] (c ∷ ys) g h p q apart = sym (nat_cmp_is g h Less (ended (suc k) n (c ∷ ys) g h p q apart))
heads_order (suc k) n (b ∷ xs) [] g h p q apart = sym (nat_cmp_is g h Greater (ended (suc k) n (b ∷ xs) h g q p (λ e. apart (sym e))))
heads_order (suc k) n (b ∷ xs) (c ∷ ys) g h p q apart =
    by_first k n b c xs ys g h (nat_cmp b c) (slice_cmp nat_cmp xs ys) (ranks b c) p.0 q.0 p.1 q.1
    (λ same. heads_order k (n * 256 + b) xs ys g h p.1 (subst (λ x. IsHead k (n * 256 + x) ys h) (sym same) q.1) apart)

-- one byte more of a text stands in its head
pub one_more : (left n place : ℕ) (bytes : List ℕ) (head : ℕ) → get_or bytes place 0 < 256 → IsHead left (n * 256 + get_or bytes place 0) (drop (suc place) bytes) head → IsHead (suc left) n (drop place bytes) head
one_more left n zero [] head small p = subst (λ x. IsHead left x [] head) (omega arith) p
one_more left n (suc place) [] head small p = subst (λ x. IsHead left x [] head) (omega arith) p
one_more left n zero (b ∷ bytes) head small p = (small, p)
one_more left n (suc place) (b ∷ bytes) head small p = one_more left n place bytes head small p

-- a head of so many bytes is as long as they are
pub grown : (n byte place : ℕ) → n < 2 ^ (8 * place) → byte < 256 → n * 256 + byte < 2 ^ (8 * (place + 1))
grown n byte place fits small =
    let power : 2 ^ (8 * (place + 1)) ≡ 2 ^ (8 * place) * 256 = ap (λ x. 2 ^ x) (omega arith) ∙ pow-add 2 (8 * place) 8 in
    subst (λ x. n * 256 + byte < x) (sym power) (omega (arith, fits, small))

pub fits_number : (place : ℕ) → place < 8 → 2 ^ (8 * (place + 1)) ≤ 2 ^ 64
fits_number place less = let few : 8 * (place + 1) ≤ 64 = omega (arith, less) in pow_mono few

-- equal texts have one head
pub one_head : (k n : ℕ) (bytes : List ℕ) (g h : ℕ) → IsHead k n bytes g → IsHead k n bytes h → g ≡ h
one_head zero n bytes g h p q = p ∙ sym q
one_head (suc k) n [] g h p q = one_head k (n * 256) [] g h p q
one_head (suc k) n (b ∷ bytes) g h p q = one_head k (n * 256 + b) bytes g h p.1 q.1

-- texts whose heads differ are not the same, and the test of their bytes would say so
pub apart_by_heads : (xs ys : List ℕ) (g h : ℕ) → IsHead 8 0 xs g → IsHead 8 0 ys h → g ≢ h → xs ≢ ys
apart_by_heads xs ys g h p q apart e = apart (one_head 8 0 ys g h (subst (λ bytes. IsHead 8 0 bytes g) e p) q)

tested : (xs ys : List ℕ) (r : Bool) → xs ≢ ys → r ≡ pointwise nat_eq xs ys → false ≡ r
tested xs ys true apart e = absurd (apart (told_text xs ys true e))
tested xs ys false apart e = refl

pub test_of_heads : (xs ys : List ℕ) (g h : ℕ) → IsHead 8 0 xs g → IsHead 8 0 ys h → g ≢ h → nat_eq g h ≡ pointwise nat_eq xs ys
test_of_heads xs ys g h p q apart = ne_eqb g h apart ∙ tested xs ys _ (apart_by_heads xs ys g h p q apart) refl
