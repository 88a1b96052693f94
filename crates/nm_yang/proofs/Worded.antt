-- Keywords and words: what is read is one, and one is read.
use Rattle.std.proofs.Common.{◌≡◌, ℕ, Bool, true, false, cond, eqb, List, [], ◌∷◌, ◌++◌, Result, Ok, Err, refl, sym, ap, subst, ◌∙◌, append_assoc, inl, inr, arith}
use Rattle.std.specs.Prelude.{◌||◌, ◌⊎◌}
use Rattle.std.proofs.lemmas.Bool.{eqb-true}
use Rattle.std.proofs.lemmas.Bool.Decides.{nat_tests}
use Rattle.nm_yang.specs.declared.fault.Fault.{Fault}
use Rattle.nm_yang.specs.Page.{Page, ◌>>=◌, front}
use Rattle.nm_yang.specs.Byte.{is_start, is_name, is_ending, begins_mark, begins, opens_comment}
use Rattle.nm_yang.specs.Word.{name_end, name_at, colon_at, parted, keyword_at, bare_end, begins_close, bare_at}
use Rattle.nm_yang.specs.Grammar.{names, IsIdentifier}
use Rattle.nm_yang.specs.Grammar.{can_follow, IsKeywordAt, ends_word, IsWord}
use Rattle.nm_yang.proofs.Again.{and_true, front-append, Parts, keyword-again}

-- the value of a step that did not fail
pub bind_ok : {A B : Type 0} (r : Result A Fault) (f : A → Result B Fault) (y : B) → (r >>= f) ≡ Ok y → (x : A) × (r ≡ Ok x) × (f x ≡ Ok y)
bind_ok (Ok x) f y e = (x, refl, e)
bind_ok (Err d) f y e = absurd cc

abbrev done : {A : Type 0} → A → Result A Fault
done x = Ok x

pub ok_same : {A : Type 0} (x y : A) → done x ≡ done y → x ≡ y
ok_same x y e = cc

pub chosen : {A : Type 0} (b : Bool) (x y z : A) → cond b x y ≡ z → ((b ≡ true) × (x ≡ z)) ⊎ ((b ≡ false) × (y ≡ z))
chosen true x y z e = inl (refl, e)
chosen false x y z e = inr (refl, e)

-- a test that had to hold, and one that had not to
pub guard_true : {A : Type 0} (b : Bool) (d : Fault) (r : Result A Fault) (y : A) → cond b r (Err d) ≡ Ok y → (b ≡ true) × (r ≡ Ok y)
guard_true true d r y e = (refl, e)
guard_true false d r y e = absurd cc

pub guard_false : {A : Type 0} (b : Bool) (d : Fault) (r : Result A Fault) (y : A) → cond b (Err d) r ≡ Ok y → (b ≡ false) × (r ≡ Ok y)
guard_false true d r y e = absurd cc
guard_false false d r y e = (refl, e)

names-by : (b : ℕ) (bytes : List ℕ) (is : Bool) → is_name b ≡ is → ((piece : List ℕ) × (bytes ≡ piece ++ name_end bytes) × (names piece ≡ true)) → (piece : List ℕ) × (b ∷ bytes ≡ piece ++ cond is (name_end bytes) (b ∷ bytes)) × (names piece ≡ true)
names-by b bytes true is h = (b ∷ h.0, ap (λ (l : List ℕ). b ∷ l) h.1, rw (is, h.2) refl)
names-by b bytes false is h = ([], refl, refl)

name_end-takes : (bytes : List ℕ) → (piece : List ℕ) × (bytes ≡ piece ++ name_end bytes) × (names piece ≡ true)
name_end-takes [] = ([], refl, refl)
name_end-takes (b ∷ bytes) = names-by b bytes (is_name b) refl (name_end-takes bytes)

name_at-takes : (page : Page) (ending : Fault) (bytes rest : List ℕ) → name_at page ending bytes ≡ Ok rest → (piece : List ℕ) × (bytes ≡ piece ++ rest) × IsIdentifier piece
unfolding name_at
name_at-takes page ending [] rest e = absurd cc
name_at-takes page ending (b ∷ bytes) rest e =
    let p = guard_true (is_start b) _ (Ok (name_end bytes)) rest e in
    let n = name_end-takes bytes in
    let r : name_end bytes ≡ rest = ok_same (name_end bytes) rest p.1 in
    (b ∷ n.0, ap (λ (l : List ℕ). b ∷ l) (n.1 ∙ ap (λ (l : List ℕ). n.0 ++ l) r), (p.0, n.2))

colon_at-takes : (page : Page) (ending : Fault) (bytes rest : List ℕ) → colon_at page ending bytes ≡ Ok rest → (bytes ≡ rest) ⊎ ((name : List ℕ) × (bytes ≡ 58 ∷ (name ++ rest)) × IsIdentifier name)
unfolding colon_at
colon_at-takes page ending [] rest e = inl (ok_same [] rest e)
colon_at-takes page ending (b ∷ bytes) rest e =
    elim (chosen (eqb b 58) (name_at page ending bytes) (Ok (b ∷ bytes)) (Ok rest) e) [
      | inl c ↦
          let n = name_at-takes page ending bytes rest c.1 in
          inr (n.0, ap (λ (x : ℕ). x ∷ bytes) (eqb-true b 58 c.0) ∙ ap (λ (l : List ℕ). 58 ∷ l) n.1, n.2)
      | inr c ↦ inl (ok_same (b ∷ bytes) rest c.1)
    ]

parted-takes : (page : Page) (ending : Fault) (bytes rest : List ℕ) → parted page ending bytes ≡ Ok rest → (bytes ≡ rest) × (can_follow bytes ≡ true)
unfolding parted
parted-takes page ending [] rest e = absurd cc
parted-takes page ending (b ∷ bytes) rest e =
    let p = guard_true (is_ending b || opens_comment b bytes) _ (Ok (b ∷ bytes)) rest e in
    (ok_same (b ∷ bytes) rest p.1, p.0)

keyword-of : (bytes name whole rest piece k : List ℕ) → bytes ≡ piece ++ name → IsIdentifier piece → ((name ≡ whole) ⊎ ((more : List ℕ) × (name ≡ 58 ∷ (more ++ whole)) × IsIdentifier more)) → whole ≡ rest → can_follow whole ≡ true → front bytes rest ≡ k
    → IsKeywordAt bytes k rest
keyword-of bytes name whole rest piece k e i c w f is =
    elim c [
      | inl n ↦
          let p : bytes ≡ piece ++ rest = e ∙ ap (λ (l : List ℕ). piece ++ l) (n ∙ w) in
          let q : k ≡ piece = sym is ∙ ap (λ (l : List ℕ). front l rest) p ∙ front-append piece rest in
          record { parts = rw q p; keyword_is = rw q (inl i); follows = rw w at f }
      | inr n ↦
          let p : bytes ≡ (piece ++ 58 ∷ n.0) ++ rest = e ∙ ap (λ (l : List ℕ). piece ++ l) (n.1 ∙ ap (λ (l : List ℕ). 58 ∷ (n.0 ++ l)) w) ∙ sym (append_assoc piece (58 ∷ n.0) rest) in
          let q : k ≡ piece ++ 58 ∷ n.0 = sym is ∙ ap (λ (l : List ℕ). front l rest) p ∙ front-append (piece ++ 58 ∷ n.0) rest in
          record { parts = rw q p; keyword_is = rw q (inr (piece, n.0, refl, i, n.2)); follows = rw w at f }
    ]

pub keyword-takes : (page : Page) (ending : Fault) (bytes k rest : List ℕ) → keyword_at page ending bytes ≡ Ok (k, rest) → IsKeywordAt bytes k rest
unfolding keyword_at
keyword-takes page ending bytes k rest e =
    let first = guard_false (begins_mark bytes) _ (name_at page ending bytes >>= λ name. colon_at page ending name >>= λ whole. parted page ending whole >>= λ r. Ok (front bytes r, r)) (k, rest) e in
    let a = bind_ok (name_at page ending bytes) (λ name. colon_at page ending name >>= λ whole. parted page ending whole >>= λ r. Ok (front bytes r, r)) (k, rest) first.1 in
    let b = bind_ok (colon_at page ending a.0) (λ whole. parted page ending whole >>= λ r. Ok (front bytes r, r)) (k, rest) a.2 in
    let c = bind_ok (parted page ending b.0) (λ r. Ok (front bytes r, r)) (k, rest) b.2 in
    let last : (front bytes c.0, c.0) ≡ (k, rest) = ok_same (front bytes c.0, c.0) (k, rest) c.2 in
    let n = name_at-takes page ending bytes a.0 a.1 in
    let p = parted-takes page ending b.0 c.0 c.1 in
    let r : c.0 ≡ rest = ap (λ (x : List ℕ × List ℕ). x.1) last in
    let f : front bytes rest ≡ k = ap (front bytes) (sym r) ∙ ap (λ (x : List ℕ × List ℕ). x.0) last in
    keyword-of bytes a.0 b.0 rest n.0 k n.1 n.2 (colon_at-takes page ending a.0 b.0 b.1) (p.0 ∙ r) p.1 f

opens-slash : (b : ℕ) (rest : List ℕ) → opens_comment b rest ≡ true → eqb b 47 ≡ true
opens-slash b rest h = (and_true (eqb b 47) (begins rest 47 || begins rest 42) h).0

or_true : (a b : Bool) → (a || b) ≡ true → (a ≡ true) ⊎ (b ≡ true)
or_true true b e = inl refl
or_true false b e = inr e

ending-parts : (b : ℕ) → is_ending b ≡ true → (is_name b ≡ false) × (eqb b 58 ≡ false)
ending-parts b h = (grind (arith, nat_tests), grind (arith, nat_tests))

slash-parts : (b : ℕ) → eqb b 47 ≡ true → (is_name b ≡ false) × (eqb b 58 ≡ false)
slash-parts b h = let e : b ≡ 47 = eqb-true b 47 h in (rw e refl, rw e refl)

follow-parts : (b : ℕ) (rest : List ℕ) → (is_ending b || opens_comment b rest) ≡ true → Parts b rest
follow-parts b rest h =
    let p : (is_name b ≡ false) × (eqb b 58 ≡ false) = elim (or_true (is_ending b) (opens_comment b rest) h) [ inl e ↦ ending-parts b e | inr e ↦ slash-parts b (opens-slash b rest e) ] in
    record { name = p.0; colon = p.1; ending = h }

pub keyword-read : (page : Page) (ending : Fault) (bytes k rest : List ℕ) → IsKeywordAt bytes k rest → keyword_at page ending bytes ≡ Ok (k, rest)
keyword-read page ending bytes k [] h = absurd (let e : false ≡ true = h.follows in cc)
keyword-read page ending bytes k (b ∷ rest) h = ap (keyword_at page ending) h.parts ∙ keyword-again page ending k b rest h.keyword_is (follow-parts b rest h.follows)

-- ---- words

word-by : (b : ℕ) (bytes : List ℕ) (is : Bool) → ends_word (b ∷ bytes) ≡ is → begins_close (cond is (b ∷ bytes) (bare_end bytes)) ≡ false
    → (begins_close (bare_end bytes) ≡ false → (w : List ℕ) × (bytes ≡ w ++ bare_end bytes) × IsWord w (bare_end bytes))
    → (w : List ℕ) × (b ∷ bytes ≡ w ++ cond is (b ∷ bytes) (bare_end bytes)) × IsWord w (cond is (b ∷ bytes) (bare_end bytes))
word-by b bytes true is off h = ([], refl, (is, off))
word-by b bytes false is off h =
    let w = h off in
    let e : ends_word (b ∷ (w.0 ++ bare_end bytes)) ≡ false = ap (λ (l : List ℕ). ends_word (b ∷ l)) (sym w.1) ∙ is in
    (b ∷ w.0, ap (λ (l : List ℕ). b ∷ l) w.1, (e, w.2))

word-takes : (bytes : List ℕ) → begins_close (bare_end bytes) ≡ false → (w : List ℕ) × (bytes ≡ w ++ bare_end bytes) × IsWord w (bare_end bytes)
word-takes [] off = ([], refl, (refl, refl))
word-takes (b ∷ bytes) off = word-by b bytes (ends_word (b ∷ bytes)) refl off (word-takes bytes)

pub bare-takes : (page : Page) (bytes w rest : List ℕ) → bare_at page bytes ≡ Ok (w, rest) → (bytes ≡ w ++ rest) × IsWord w rest
unfolding bare_at
bare-takes page bytes w rest e =
    let p = guard_false (begins_close (bare_end bytes)) _ (Ok (front bytes (bare_end bytes), bare_end bytes)) (w, rest) e in
    let last = ok_same (front bytes (bare_end bytes), bare_end bytes) (w, rest) p.1 in
    let t = word-takes bytes p.0 in
    let f : front bytes (bare_end bytes) ≡ t.0 = ap (λ (l : List ℕ). front l (bare_end bytes)) t.1 ∙ front-append t.0 (bare_end bytes) in
    let both : (t.0, bare_end bytes) ≡ (w, rest) = ap (λ (x : List ℕ). (x, bare_end bytes)) (sym f) ∙ last in
    subst (λ (x : List ℕ × List ℕ). (bytes ≡ x.0 ++ x.1) × IsWord x.0 x.1) both (t.1, t.2)

word-again : (w rest : List ℕ) → IsWord w rest → bare_end (w ++ rest) ≡ rest
word-again [] [] h = refl
word-again [] (b ∷ rest) h = rw h.0 refl
word-again (b ∷ w) rest h = rw h.0 (word-again w rest h.1)

word-close : (w rest : List ℕ) → IsWord w rest → begins_close rest ≡ false
word-close [] rest h = h.1
word-close (b ∷ w) rest h = word-close w rest h.1

pub bare-read : (page : Page) (w rest : List ℕ) → IsWord w rest → bare_at page (w ++ rest) ≡ Ok (w, rest)
unfolding bare_at
bare-read page w rest h = rw (word-again w rest h, word-close w rest h, front-append w rest) refl
