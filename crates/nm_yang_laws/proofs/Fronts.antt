-- How much of a text is UTF-8, and what texts that begin alike share of it.
use Rattle.std.proofs.Common.{◌≡◌, ℕ, zero, suc, ◌+◌, ◌-◌, ◌≤◌, ◌<◌, Bool, true, false, ltb, List, [], ◌∷◌, ◌++◌, length, take, refl, sym, ap, subst, ◌∙◌, append_assoc, arith, length-append}
use Rattle.std.specs.Prelude.{IsUtf8}
use Rattle.std.specs.Str.{is_utf8}
use Rattle.std.specs.Str.Lossy.{utf8_valid_len, valid_len_up_to}
use Rattle.std.proofs.lemmas.Bool.{ltb-true, ltb-false}
use Rattle.std.proofs.lemmas.List.{take-take, take_at, length-take}
use Rattle.std.proofs.lemmas.Str.{IsUtf8-nil, IsUtf8-from_is_utf8, is_utf8-from_IsUtf8, utf8_valid_len_le, length-encode, len_utf8_bounds}
use lib.Utf8.{encode, encodes, scalar, scalars}
use Rattle.nm_yang.proofs.Again.{and_true}

-- characters are cut behind a place, or up to three bytes on
record Cut (cs : List ℕ) (m : ℕ) : Type 0 where
  pub first : List ℕ
  pub rest : List ℕ
  pub valid : scalars first ≡ true
  pub parts : encodes cs ≡ encodes first ++ rest
  pub enough : m ≤ length (encodes first)
  pub near : length (encodes first) ≤ m + 3

one-char : (c : ℕ) → (1 ≤ length (encode c)) × (length (encode c) ≤ 4)
one-char c =
    let l = length-encode c in
    let b = len_utf8_bounds c in
    (omega (arith, l, b.0), omega (arith, l, b.1))

cut-by : (c : ℕ) (cs : List ℕ) (m : ℕ) (longer : Bool) → ltb (length (encode c)) m ≡ longer → 1 ≤ m → scalar c ≡ true → (length (encode c) < m → Cut cs (m - length (encode c))) → Cut (c ∷ cs) m
cut-by c cs m true is le s k =
    let lt = ltb-true (length (encode c)) m is in
    let h = k lt in
    record {
      first = c ∷ h.first;
      rest = h.rest;
      valid = rw (s, h.valid) refl;
      parts = ap (λ (l : List ℕ). encode c ++ l) h.parts ∙ sym (append_assoc (encode c) (encodes h.first) h.rest);
      enough = omega (arith, h.enough, lt, length-append (encode c) (encodes h.first));
      near = omega (arith, h.near, lt, length-append (encode c) (encodes h.first));
    }
cut-by c cs m false is le s k =
    let ge = ltb-false (length (encode c)) m is in
    let l = length-append (encode c) [] in
    record {
      first = c ∷ [];
      rest = encodes cs;
      valid = rw s refl;
      parts = sym (append_assoc (encode c) [] (encodes cs));
      enough = omega (arith, ge, l);
      near = omega (arith, (one-char c).1, le, l);
    }

cut-at : (cs : List ℕ) (m : ℕ) → m ≤ length (encodes cs) → scalars cs ≡ true → Cut cs m
cut-at cs zero le s = record { first = []; rest = encodes cs; valid = refl; parts = refl; enough = omega arith; near = omega arith }
cut-at [] (suc k) le s = absurd (omega arith)
cut-at (c ∷ cs) (suc k) le s =
    let p = and_true (scalar c) (scalars cs) s in
    cut-by c cs (suc k) (ltb (length (encode c)) (suc k)) refl (omega arith) p.0 (λ lt. cut-at cs (suc k - length (encode c)) (omega (arith, le, lt, length-append (encode c) (encodes cs))) p.1)

-- a front that is UTF-8, behind a place of a text or up to three bytes on
pub record NearFront (text : List ℕ) (m : ℕ) : Type 0 where
  pub size : ℕ
  pub enough : m ≤ size
  pub near : size ≤ m + 3
  pub within : size ≤ length text
  pub front : IsUtf8 (take size text)

near-front : (text : List ℕ) (m : ℕ) → IsUtf8 text → m ≤ length text → NearFront text m
near-front text m u le =
    let l = ap length u.1.1 in
    let c = cut-at u.0 m (omega (arith, l, le)) u.1.0 in
    let n : ℕ = length (encodes c.first) in
    let t : text ≡ encodes c.first ++ c.rest = sym u.1.1 ∙ c.parts in
    let f : take n text ≡ encodes c.first = ap (take n) t ∙ take_at (encodes c.first) c.rest n refl in
    record { size = n; enough = c.enough; near = c.near; within = (let k = ap length t in omega (arith, k, length-append (encodes c.first) c.rest)); front = (c.first, (c.valid, sym f)) }

-- ---- the longest front

up_to-front-by : (text : List ℕ) (n : ℕ) (ok : Bool) → is_utf8 (take (suc n) text) ≡ ok → IsUtf8 (take (valid_len_up_to text n) text) → IsUtf8 (take (valid_len_up_to text (suc n)) text)
up_to-front-by text n true e h = rw e (IsUtf8-from_is_utf8 (take (suc n) text) e)
up_to-front-by text n false e h = rw e h

up_to-front : (text : List ℕ) (n : ℕ) → IsUtf8 (take (valid_len_up_to text n) text)
up_to-front text zero = IsUtf8-nil
up_to-front text (suc n) = up_to-front-by text n (is_utf8 (take (suc n) text)) refl (up_to-front text n)

pub valid-front : (text : List ℕ) → IsUtf8 (take (utf8_valid_len text) text)
unfolding utf8_valid_len
valid-front text = up_to-front text (length text)

up_to-longest-by : (text : List ℕ) (k n : ℕ) (ok : Bool) → is_utf8 (take (suc n) text) ≡ ok → IsUtf8 (take k text) → k ≤ suc n → (k ≤ n → k ≤ valid_len_up_to text n) → k ≤ valid_len_up_to text (suc n)
up_to-longest-by text k n true e u le h = rw e le
up_to-longest-by text k n false e u le h = rw e (last (ltb n k) refl)
  where
    last : (b : Bool) → ltb n k ≡ b → k ≤ valid_len_up_to text n
    last true is =
        let lt = ltb-true n k is in
        let same : k ≡ suc n = omega (arith, lt, le) in
        let v : is_utf8 (take (suc n) text) ≡ true = is_utf8-from_IsUtf8 (take (suc n) text) (subst (λ (j : ℕ). IsUtf8 (take j text)) same u) in
        absurd cc
    last false is = h (let ge = ltb-false n k is in omega (arith, ge))

up_to-longest : (text : List ℕ) (k n : ℕ) → IsUtf8 (take k text) → k ≤ n → k ≤ valid_len_up_to text n
up_to-longest text k zero u le = omega (arith, le)
up_to-longest text k (suc n) u le = up_to-longest-by text k n (is_utf8 (take (suc n) text)) refl u le (λ l. up_to-longest text k n u l)

pub valid-longest : (text : List ℕ) (k : ℕ) → IsUtf8 (take k text) → k ≤ length text → k ≤ utf8_valid_len text
unfolding utf8_valid_len
valid-longest text k u le = up_to-longest text k (length text) u le

pub valid-within : (limit : ℕ) (text : List ℕ) → utf8_valid_len (take limit text) ≤ limit
valid-within limit text = let l = utf8_valid_len_le (take limit text) in omega (arith, l, length-take limit text)

pub valid-cut : (limit k : ℕ) (text : List ℕ) → IsUtf8 (take k text) → k ≤ limit → k ≤ length text → k ≤ utf8_valid_len (take limit text)
valid-cut limit k text u le long = valid-longest (take limit text) k (subst IsUtf8 (sym (take-take k limit text le)) u) (omega (arith, le, long, length-take limit text))

-- behind a place up to which the text is UTF-8
pub near-valid : (text : List ℕ) (m : ℕ) → m ≤ utf8_valid_len text → NearFront text m
near-valid text m le =
    let v : ℕ = utf8_valid_len text in
    let l = utf8_valid_len_le text in
    let f = near-front (take v text) m (valid-front text) (omega (arith, le, l, length-take v text)) in
    let k : f.size ≤ v = (let w = f.within in omega (arith, w, length-take v text)) in
    record { size = f.size; enough = f.enough; near = f.near; within = omega (arith, k, l); front = subst IsUtf8 (take-take f.size v text k) f.front }

-- ---- texts that begin alike

pub take-less : (one other : List ℕ) (k n : ℕ) → k ≤ n → take n one ≡ take n other → take k one ≡ take k other
take-less one other k n le e = sym (shorter one) ∙ ap (take k) e ∙ shorter other
  where
    shorter : (text : List ℕ) → take k (take n text) ≡ take k text
    shorter text = take-take k n text le

-- three bytes behind a place decide whether the text is UTF-8 up to there
pub valid-shared : (one other : List ℕ) (m : ℕ) → take (m + 3) one ≡ take (m + 3) other → m + 3 ≤ length other → m ≤ utf8_valid_len one → m ≤ utf8_valid_len other
valid-shared one other m e long le =
    let f = near-valid one m le in
    let j : ℕ = f.size in
    let u : IsUtf8 (take j other) = subst IsUtf8 (take-less one other j (m + 3) f.near e) f.front in
    let w = valid-longest other j u (let n = f.near in omega (arith, n, long)) in
    let x = f.enough in
    omega (arith, w, x)

-- where it is UTF-8 up to less than that
pub valid-same : (one other : List ℕ) (n : ℕ) → take n one ≡ take n other → n ≤ length one → n ≤ length other → utf8_valid_len one ≤ n → utf8_valid_len other ≤ n → utf8_valid_len one ≡ utf8_valid_len other
valid-same one other n e lo lp le lf =
    let a = valid-longest other (utf8_valid_len one) (subst IsUtf8 (take-less one other (utf8_valid_len one) n le e) (valid-front one)) (omega (arith, le, lp)) in
    let b = valid-longest one (utf8_valid_len other) (subst IsUtf8 (sym (take-less one other (utf8_valid_len other) n lf e)) (valid-front other)) (omega (arith, lf, lo)) in
    omega (arith, a, b)
