-- What is written is read again.
use Rattle.std.proofs.Common.{◌≡◌, ℕ, ◌-◌, Bool, true, false, eqb, List, [], ◌∷◌, ◌++◌, length, Ok, refl, ap, ◌∙◌, append_assoc, inl, inr, arith, length-append}
use Rattle.std.specs.Prelude.{◌&&◌, ◌||◌}
use Rattle.std.proofs.lemmas.List.{take_at}
use Rattle.std.proofs.lemmas.Bool.Decides.{nat_tests}
use Rattle.nm_yang.specs.declared.fault.Fault.{Fault}
use Rattle.nm_yang.specs.Page.{Page, front}
use Rattle.nm_yang.specs.Byte.{is_start, is_name, is_mark, is_ending, begins_mark, opens_comment}
use Rattle.nm_yang.specs.Word.{name_end, name_at, colon_at, parted, keyword_at}
use Rattle.nm_yang.specs.Grammar.{names, IsIdentifier, IsKeyword}

pub front-append : (a b : List ℕ) → front (a ++ b) b ≡ a
front-append a b = take_at a b (length (a ++ b) - length b) (omega (arith, length-append a b))

pub and_true : (a b : Bool) → (a && b) ≡ true → (a ≡ true) × (b ≡ true)
and_true true b e = (refl, e)
and_true false b e = absurd cc

start-no_mark : (b : ℕ) → is_start b ≡ true → is_mark b ≡ false
start-no_mark b h = grind (arith, nat_tests)

name_end-again : (k : List ℕ) (b : ℕ) (rest : List ℕ) → names k ≡ true → is_name b ≡ false → name_end (k ++ b ∷ rest) ≡ b ∷ rest
name_end-again [] b rest h off = rw off refl
name_end-again (c ∷ k) b rest h off =
    let p = and_true (is_name c) (names k) h in
    rw p.0 (name_end-again k b rest p.1 off)

name_at-again : (page : Page) (ending : Fault) (k : List ℕ) (b : ℕ) (rest : List ℕ) → IsIdentifier k → is_name b ≡ false → name_at page ending (k ++ b ∷ rest) ≡ Ok (b ∷ rest)
unfolding name_at
name_at-again page ending [] b rest h off = absurd h
name_at-again page ending (c ∷ k) b rest h off = rw (h.0, name_end-again k b rest h.1 off) refl

-- what may stand after a keyword
pub record Parts (b : ℕ) (rest : List ℕ) : Type 0 where
  pub name : is_name b ≡ false
  pub colon : eqb b 58 ≡ false
  pub ending : (is_ending b || opens_comment b rest) ≡ true

no_mark-again : (k : List ℕ) (rest : List ℕ) → IsIdentifier k → begins_mark (k ++ rest) ≡ false
no_mark-again [] rest h = absurd h
no_mark-again (c ∷ k) rest h = start-no_mark c h.0

identifier-again : (page : Page) (ending : Fault) (k : List ℕ) (b : ℕ) (rest : List ℕ) → IsIdentifier k → Parts b rest → keyword_at page ending (k ++ b ∷ rest) ≡ Ok (k, b ∷ rest)
unfolding keyword_at colon_at parted
identifier-again page ending k b rest h p =
    rw (no_mark-again k (b ∷ rest) h, name_at-again page ending k b rest h p.name, p.colon, p.ending, front-append k (b ∷ rest)) refl

prefixed-again : (page : Page) (ending : Fault) (prefix name : List ℕ) (b : ℕ) (rest : List ℕ) → IsIdentifier prefix → IsIdentifier name → Parts b rest → keyword_at page ending ((prefix ++ 58 ∷ name) ++ b ∷ rest) ≡ Ok (prefix ++ 58 ∷ name, b ∷ rest)
unfolding keyword_at colon_at parted
prefixed-again page ending prefix name b rest h i p =
    let e : (prefix ++ 58 ∷ name) ++ b ∷ rest ≡ prefix ++ 58 ∷ (name ++ b ∷ rest) = append_assoc prefix (58 ∷ name) (b ∷ rest) in
    let m : begins_mark ((prefix ++ 58 ∷ name) ++ b ∷ rest) ≡ false = ap begins_mark e ∙ no_mark-again prefix (58 ∷ (name ++ b ∷ rest)) h in
    let n : name_at page ending ((prefix ++ 58 ∷ name) ++ b ∷ rest) ≡ Ok (58 ∷ (name ++ b ∷ rest)) = ap (name_at page ending) e ∙ name_at-again page ending prefix 58 (name ++ b ∷ rest) h refl in
    rw (m, n, name_at-again page ending name b rest i p.name, p.ending, front-append (prefix ++ 58 ∷ name) (b ∷ rest)) refl

pub keyword-again : (page : Page) (ending : Fault) (k : List ℕ) (b : ℕ) (rest : List ℕ) → IsKeyword k → Parts b rest → keyword_at page ending (k ++ b ∷ rest) ≡ Ok (k, b ∷ rest)
keyword-again page ending k b rest h p =
    elim h [
      | inl i ↦ identifier-again page ending k b rest i p
      | inr i ↦ rw i.2 (prefixed-again page ending i.0 i.1 b rest i.3 i.4 p)
    ]
