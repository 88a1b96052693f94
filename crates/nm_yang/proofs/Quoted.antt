-- An argument that is written in double quotes is read again.
use Rattle.std.proofs.Common.{◌≡◌, ℕ, zero, suc, Bool, true, false, eqb, List, [], ◌∷◌, ◌++◌, length, Some, Ok, refl, sym, ap, ◌∙◌, append_assoc}
use Rattle.std.specs.Prelude.{IsUtf8}
use Rattle.std.specs.List.{flat_map}
use Rattle.std.proofs.lemmas.List.{append-nil}
use Rattle.std.proofs.lemmas.List.Concat.{flat_map-cons}
use Rattle.std.proofs.lemmas.Bool.{eqb-true}
use Rattle.std.proofs.lemmas.Str.{is_utf8-from_IsUtf8}
use Rattle.nm_yang.specs.declared.fault.Fault.{Fault}
use Rattle.nm_yang.specs.Page.{Page}
use Rattle.nm_yang.specs.Byte.{begins}
use Rattle.nm_yang.specs.Blank.{skip, plain}
use Rattle.nm_yang.specs.Quote.{double_end, meaning, string_at, is_escape, is_loose, escaped}
use Rattle.nm_yang.specs.Argument.{piece_at, more_at, quoted_at, quoted_label, argument_at}
use Rattle.nm_yang.specs.Written.{escape_of}
use Rattle.nm_yang.proofs.Quotes.{and_false, meaning-escape, meaning-other}
use Rattle.nm_yang.proofs.Again.{front-append}

-- which of its five forms a byte is written in
pub data Form (b : ℕ) : Type 0 where
  line : b ≡ 10 → Form b
  tab : b ≡ 9 → Form b
  quote : b ≡ 34 → Form b
  backslash : b ≡ 92 → Form b
  other : eqb b 10 ≡ false → eqb b 9 ≡ false → eqb b 34 ≡ false → eqb b 92 ≡ false → Form b

form_by : (b : ℕ) (p q r s : Bool) → eqb b 10 ≡ p → eqb b 9 ≡ q → eqb b 34 ≡ r → eqb b 92 ≡ s → Form b
form_by b true q r s e f g h = line (eqb-true b 10 e)
form_by b false true r s e f g h = tab (eqb-true b 9 f)
form_by b false false true s e f g h = quote (eqb-true b 34 g)
form_by b false false false true e f g h = backslash (eqb-true b 92 h)
form_by b false false false false e f g h = other e f g h

pub form : (b : ℕ) → Form b
form b = form_by b (eqb b 10) (eqb b 9) (eqb b 34) (eqb b 92) refl refl refl refl

pub escape_of-other : (b : ℕ) → eqb b 10 ≡ false → eqb b 9 ≡ false → eqb b 34 ≡ false → eqb b 92 ≡ false → escape_of b ≡ b ∷ []
escape_of-other b e f g h = rw (e, f, g, h) refl

end-escape : (page : Page) (opener x : ℕ) (rest : List ℕ) → is_escape x ≡ true → double_end page opener false (92 ∷ x ∷ rest) ≡ double_end page opener false rest
unfolding double_end
end-escape page opener x rest h = rw (h, and_false page.strict false refl) refl

end-one : (page : Page) (opener b : ℕ) (rest : List ℕ) → double_end page opener false (escape_of b ++ rest) ≡ double_end page opener false rest
unfolding double_end
end-one page opener b rest =
    elim (form b) [
      | line e ↦ rw e (end-escape page opener 110 rest refl)
      | tab e ↦ rw e (end-escape page opener 116 rest refl)
      | quote e ↦ rw e (end-escape page opener 34 rest refl)
      | backslash e ↦ rw e (end-escape page opener 92 rest refl)
      | other e f g h ↦ rw (escape_of-other b e f g h, g, h) refl
    ]

end-again : (page : Page) (opener : ℕ) (a rest : List ℕ) → double_end page opener false (flat_map escape_of a ++ 34 ∷ rest) ≡ Ok (34 ∷ rest)
unfolding double_end
end-again page opener [] rest = refl
end-again page opener (b ∷ a) rest =
    let e : flat_map escape_of (b ∷ a) ++ 34 ∷ rest ≡ escape_of b ++ (flat_map escape_of a ++ 34 ∷ rest) = ap (λ (l : List ℕ). l ++ 34 ∷ rest) (flat_map-cons escape_of b a) ∙ append_assoc (escape_of b) (flat_map escape_of a) (34 ∷ rest) in
    ap (double_end page opener false) e ∙ end-one page opener b (flat_map escape_of a ++ 34 ∷ rest) ∙ end-again page opener a rest

meaning-letter : (room x : ℕ) (loose rest : List ℕ) → is_escape x ≡ true → meaning room 0 false loose (92 ∷ x ∷ rest) ≡ loose ++ escaped x ∷ meaning room 0 false [] rest
unfolding meaning
meaning-letter room x loose rest h = meaning-escape room 0 loose (x ∷ rest) h

meaning-blank : (room b : ℕ) (loose rest : List ℕ) (is : Bool) → is_loose b ≡ is → eqb b 10 ≡ false → eqb b 92 ≡ false → (total : List ℕ)
    → meaning room 0 false (loose ++ b ∷ []) rest ≡ (loose ++ b ∷ []) ++ total → meaning room 0 false [] rest ≡ total → meaning room 0 false loose (b ∷ rest) ≡ loose ++ b ∷ total
unfolding meaning
meaning-blank room b loose rest true is lf slash total h i = rw (lf, is) (h ∙ append_assoc loose (b ∷ []) total)
meaning-blank room b loose rest false is lf slash total h i =
    let e = meaning-other room 0 b loose rest lf is (rw slash refl) in
    e ∙ ap (λ (l : List ℕ). loose ++ b ∷ l) i

meaning-one : (room b : ℕ) (loose rest total : List ℕ) → ((l : List ℕ) → meaning room 0 false l rest ≡ l ++ total) → meaning room 0 false loose (escape_of b ++ rest) ≡ loose ++ b ∷ total
meaning-one room b loose rest total h =
    elim (form b) [
      | line e ↦ rw e (meaning-letter room 110 loose rest refl ∙ ap (λ (l : List ℕ). loose ++ 10 ∷ l) (h []))
      | tab e ↦ rw e (meaning-letter room 116 loose rest refl ∙ ap (λ (l : List ℕ). loose ++ 9 ∷ l) (h []))
      | quote e ↦ rw e (meaning-letter room 34 loose rest refl ∙ ap (λ (l : List ℕ). loose ++ 34 ∷ l) (h []))
      | backslash e ↦ rw e (meaning-letter room 92 loose rest refl ∙ ap (λ (l : List ℕ). loose ++ 92 ∷ l) (h []))
      | other e f g s ↦ rw (escape_of-other b e f g s) (meaning-blank room b loose rest (is_loose b) refl e s total (h (loose ++ b ∷ [])) (h []))
    ]

meaning-again : (room : ℕ) (a loose : List ℕ) → meaning room 0 false loose (flat_map escape_of a) ≡ loose ++ a
unfolding meaning
meaning-again room [] loose = sym (append-nil loose)
meaning-again room (b ∷ a) loose = rw flat_map-cons (meaning-one room b loose (flat_map escape_of a) a (λ l. meaning-again room a l))

string-again : (page : Page) (a rest : List ℕ) → string_at page (34 ∷ (flat_map escape_of a ++ 34 ∷ rest)) ≡ Ok (a, rest)
unfolding string_at
string-again page a rest =
    rw (end-again page _ a rest, front-append (flat_map escape_of a) (34 ∷ rest), meaning-again _ a []) refl

more-none : (page : Page) (ending : Fault) (n : ℕ) (rest : List ℕ) → begins rest 43 ≡ false → more_at page ending n rest ≡ Ok ([], rest)
unfolding more_at
more-none page ending zero rest h = refl
more-none page ending (suc n) rest h = rw h refl

quoted-again : (page : Page) (ending : Fault) (a rest next : List ℕ) → skip page plain rest ≡ Ok next → begins next 43 ≡ false → quoted_at page ending (34 ∷ (flat_map escape_of a ++ 34 ∷ rest)) ≡ Ok (a, next)
unfolding quoted_at piece_at
quoted-again page ending a rest next s plus =
    rw (string-again page a rest, s, more-none page ending (length next) next plus) (ap (λ (l : List ℕ). Ok (l, next)) (append-nil a))

pub argument-again : (page : Page) (ending : Fault) (a rest next : List ℕ) → skip page plain rest ≡ Ok next → begins next 43 ≡ false → IsUtf8 a → argument_at page ending (34 ∷ (flat_map escape_of a ++ 34 ∷ rest)) ≡ Ok (Some a, next)
unfolding argument_at quoted_label
argument-again page ending a rest next s plus text =
    rw (quoted-again page ending a rest next s plus, is_utf8-from_IsUtf8 a text) refl
