-- What has the form of a path is read.
use Rattle.std.proofs.Common.{◌≡◌, ◌⊎◌, ◌&&◌, ◌+◌, ◌≤◌, ℕ, zero, suc, Bool, true, false, cond, eqb, List, [], ◌∷◌, ◌++◌, length, take, drop, Option, Some, None, refl, sym, ap, subst, ◌∙◌, append_assoc, length-append, inl, inr, arith}
use Rattle.std.specs.Prelude.{codes}
use Rattle.std.specs.List.{position_or_len, before_first, after_first, AllByRecursion}
use Rattle.std.proofs.Math.Seq.{take-append_seam, drop-append_seam, drop-append-add}
use Rattle.std.proofs.lemmas.Bool.{eqb-true, cases_Bool}
use Rattle.std.proofs.lemmas.Bool.Decides.{nat_tests}
use Rattle.std.proofs.lemmas.Grind.{common_steps}
use Rattle.nm_path.specs.declared.form.Quote.{Quote}
use Rattle.nm_path.specs.declared.form.Quote.TheVariants.{Single, Double}
use Rattle.nm_path.specs.declared.form.Predicate.{Predicate}
use Rattle.nm_path.specs.Form.{WrittenStep, doubled, quoted, predicate_text, predicates_text, owner_text, step_text, steps_text, is_start, is_name, are_names, is_identifier, has_double, CanStand, IsPredicate, IsOwner, IsWritten, HasForm, is_from_top}
use Rattle.nm_path.specs.Reading.{◌>>=◌, with_front, begins, after, is_end, name_len, identifier_at, single_at, is_double, double_at, quoted_at, key_at, predicate_at, predicates_at, named_at, owned_by, step_at, steps_at, steps_of}

-- no name goes on with these bytes
abbrev stops : List ℕ → Bool
stops [] = true
stops (b ∷ rest) = is_end b

start-name : (b : ℕ) → is_start b ≡ true → is_name b ≡ true
unfolding is_name
start-name b e = rw e refl

and_parts : (a b : Bool) → (a && b) ≡ true → (a ≡ true) × (b ≡ true)
and_parts true b e = (refl, e)
and_parts false b e = absurd cc

names-len : (names rest : List ℕ) → are_names names ≡ true → stops rest ≡ true → position_or_len is_end (names ++ rest) ≡ length names
names-len [] [] n s = refl
names-len [] (b ∷ rest) n s = rw s refl
names-len (b ∷ names) rest n s =
    let p = and_parts (is_name b) (are_names names) n in
    let r = names-len names rest p.1 s in
    rw (p.0, r) (omega arith)

identifier-names : (name : List ℕ) → is_identifier name ≡ true → are_names name ≡ true
identifier-names [] e = absurd cc
identifier-names (b ∷ name) e =
    let p = and_parts (is_start b) (are_names name) e in
    rw (start-name b p.0, p.1) refl

identifier-again : (name rest : List ℕ) → is_identifier name ≡ true → stops rest ≡ true → identifier_at (name ++ rest) ≡ Some (name, rest)
unfolding identifier_at name_len
identifier-again name rest i s =
    let n = names-len name rest (identifier-names name i) s in
    let front : take (position_or_len is_end (name ++ rest)) (name ++ rest) ≡ name = rw n (take-append_seam name rest) in
    let back : drop (position_or_len is_end (name ++ rest)) (name ++ rest) ≡ rest = rw n (drop-append_seam name rest) in
    rw (front, back, i) refl

after-none : (text : List ℕ) (k : ℕ) → begins text k ≡ false → after text k ≡ None
unfolding after
after-none [] k e = refl
after-none (b ∷ text) k e = rw e refl

single-end : (rest : List ℕ) → begins rest 39 ≡ false → single_at true rest ≡ Some ([], rest)
unfolding single_at
single-end [] e = refl
single-end (b ∷ rest) e = rw e refl

single-again : (value rest : List ℕ) → begins rest 39 ≡ false → single_at false (doubled value ++ 39 ∷ rest) ≡ Some (value, rest)
unfolding single_at
single-again [] rest e = single-end rest e
single-again (b ∷ value) rest e = elim (cases_Bool (eqb b 39)) [
  | inl is ↦
      let r = single-again value rest e in
      let one : doubled (b ∷ value) ≡ 39 ∷ 39 ∷ doubled value = rw is refl in
      let read : single_at false (39 ∷ 39 ∷ (doubled value ++ 39 ∷ rest)) ≡ Some (39 ∷ value, rest) = ap (with_front (39 ∷ [])) r in
      ap (λ (l : List ℕ). single_at false (l ++ 39 ∷ rest)) one ∙ read ∙ ap (λ (k : ℕ). Some (k ∷ value, rest)) (sym (eqb-true b 39 is))
  | inr miss ↦
      let r = single-again value rest e in
      let one : doubled (b ∷ value) ≡ b ∷ doubled value = rw miss refl in
      let read : single_at false (b ∷ (doubled value ++ 39 ∷ rest)) ≡ Some (b ∷ value, rest) = rw miss (ap (with_front (b ∷ [])) r) in
      ap (λ (l : List ℕ). single_at false (l ++ 39 ∷ rest)) one ∙ read
]

double-place : (value rest : List ℕ) → has_double value ≡ false → position_or_len is_double (value ++ 34 ∷ rest) ≡ length value
double-place [] rest e = refl
double-place (b ∷ value) rest e = grind (arith, nat_tests, common_steps, double-place value rest)

double-any : (value rest : List ℕ) → has_double (value ++ 34 ∷ rest) ≡ true
double-any [] rest = refl
double-any (b ∷ value) rest = elim (cases_Bool (eqb b 34)) [
  | inl is ↦ rw is refl
  | inr miss ↦ rw miss (double-any value rest)
]

double-again : (value rest : List ℕ) → has_double value ≡ false → double_at (value ++ 34 ∷ rest) ≡ Some (value, rest)
unfolding double_at
double-again value rest e =
    let n = double-place value rest e in
    let front : before_first is_double (value ++ 34 ∷ rest) ≡ value = rw n (take-append_seam value (34 ∷ rest)) in
    let back : after_first is_double (value ++ 34 ∷ rest) ≡ rest = rw n (drop-append-add value (34 ∷ rest) 1) in
    rw (front, back, double-any value rest) refl

quoted-again : (q : Quote) (value rest : List ℕ) → CanStand q value → begins rest 39 ≡ false → quoted_at (quoted q value ++ rest) ≡ Some (q, value, rest)
unfolding quoted_at after
quoted-again Single value rest c e =
    let inside : single_at false ((doubled value ++ 39 ∷ []) ++ rest) ≡ Some (value, rest) = ap (single_at false) (append_assoc (doubled value) (39 ∷ []) rest) ∙ single-again value rest e in
    rw inside refl
quoted-again Double value rest c e =
    let inside : double_at ((value ++ 34 ∷ []) ++ rest) ≡ Some (value, rest) = ap double_at (append_assoc value (34 ∷ []) rest) ∙ double-again value rest c in
    rw inside refl

not-dot : (name rest : List ℕ) → is_identifier name ≡ true → begins (name ++ rest) 46 ≡ false
unfolding is_start
not-dot [] rest e = absurd cc
not-dot (b ∷ name) rest e = grind (arith, nat_tests, and_parts)

equals-end : is_end 61 ≡ true
unfolding is_name is_start
equals-end = refl

key-again : (key rest : List ℕ) → (key ≡ codes ".") ⊎ (is_identifier key ≡ true) → key_at (key ++ 61 ∷ rest) ≡ Some (key, 61 ∷ rest)
unfolding key_at after
key-again key rest (inl dot) = subst (λ (k : List ℕ). key_at (k ++ 61 ∷ rest) ≡ Some (k, 61 ∷ rest)) (sym dot) refl
key-again key rest (inr i) = rw (after-none (key ++ 61 ∷ rest) 46 (not-dot key (61 ∷ rest) i), identifier-again key (61 ∷ rest) i equals-end) refl

predicate-again : (p : Predicate) (rest : List ℕ) → IsPredicate p → predicate_at (predicate_text p ++ rest) ≡ Some (p, rest)
unfolding predicate_at after
predicate-again p rest h =
    let value : (quoted p.quote p.value ++ 93 ∷ []) ++ rest ≡ quoted p.quote p.value ++ 93 ∷ rest = append_assoc (quoted p.quote p.value) (93 ∷ []) rest in
    let all : (p.key ++ 61 ∷ (quoted p.quote p.value ++ 93 ∷ [])) ++ rest ≡ p.key ++ 61 ∷ (quoted p.quote p.value ++ 93 ∷ rest) =
    append_assoc p.key (61 ∷ (quoted p.quote p.value ++ 93 ∷ [])) rest ∙ ap (λ (l : List ℕ). p.key ++ 61 ∷ l) value in
    rw (all, key-again p.key (quoted p.quote p.value ++ 93 ∷ rest) h.key, quoted-again p.quote p.value (93 ∷ rest) h.value refl) refl

predicates-again : (n : ℕ) (ps : List Predicate) (rest : List ℕ) → length ps ≤ n → begins rest 91 ≡ false → AllByRecursion IsPredicate ps → predicates_at n (predicates_text ps ++ rest) ≡ Some (ps, rest)
unfolding predicates_at
predicates-again zero [] rest le e h = refl
predicates-again (suc n) [] rest le e h = rw e refl
predicates-again zero (p ∷ ps) rest le e h = absurd (omega arith)
predicates-again (suc n) (p ∷ ps) rest le e h =
    let all : predicates_text (p ∷ ps) ++ rest ≡ predicate_text p ++ (predicates_text ps ++ rest) = append_assoc (predicate_text p) (predicates_text ps) rest in
    let le_rest : length ps ≤ n = omega arith in
    let one : predicates_at (suc n) (predicate_text p ++ (predicates_text ps ++ rest)) ≡ Some (p ∷ ps, rest) = rw (predicate-again p (predicates_text ps ++ rest) h.0, predicates-again n ps rest le_rest e h.1) refl in
    ap (predicates_at (suc n)) all ∙ one

-- what may follow a step: the end, or another step
abbrev Follows : List ℕ → Type 0
Follows rest = (stops rest ≡ true) × (begins rest 91 ≡ false) × (begins rest 58 ≡ false)

slash-end : is_end 47 ≡ true
unfolding is_name is_start
slash-end = refl

steps-follow : (ss : List WrittenStep) → Follows (steps_text ss)
steps-follow [] = (refl, refl, refl)
steps-follow (s ∷ ss) = (slash-end, refl, refl)

bracket-end : is_end 91 ≡ true
unfolding is_name is_start
bracket-end = refl

colon-end : is_end 58 ≡ true
unfolding is_name is_start
colon-end = refl

-- what may follow a name: predicates, the end, or another step
predicates-stop : (ps : List Predicate) (rest : List ℕ) → Follows rest → (stops (predicates_text ps ++ rest) ≡ true) × (begins (predicates_text ps ++ rest) 58 ≡ false)
predicates-stop [] rest f = (f.0, f.2)
predicates-stop (p ∷ ps) rest f = (bracket-end, refl)

predicates-long : (ps : List Predicate) (rest : List ℕ) → length ps ≤ length (predicates_text ps ++ rest)
predicates-long [] rest = omega arith
predicates-long (p ∷ ps) rest =
    let r = predicates-long ps rest in
    let all : predicates_text (p ∷ ps) ++ rest ≡ predicate_text p ++ (predicates_text ps ++ rest) = append_assoc (predicate_text p) (predicates_text ps) rest in
    let len : length (predicates_text (p ∷ ps) ++ rest) ≡ length (predicate_text p) + length (predicates_text ps ++ rest) = ap length all ∙ length-append (predicate_text p) (predicates_text ps ++ rest) in
    let one : 1 ≤ length (predicate_text p) = omega arith in
    rw len (omega arith)

named-again : (s : WrittenStep) (rest : List ℕ) → IsWritten s → Follows rest → named_at s.owner s.name (predicates_text s.predicates ++ rest) ≡ Some (s, rest)
unfolding named_at
named-again s rest w f = rw (predicates-again (length (predicates_text s.predicates ++ rest)) s.predicates rest (predicates-long s.predicates rest) f.1 w.predicates) refl

owner-again : (owner : Option (List ℕ)) (name behind : List ℕ) (x : WrittenStep × List ℕ) → IsOwner owner → is_identifier name ≡ true → stops behind ≡ true → begins behind 58 ≡ false → named_at owner name behind ≡ Some x
    → (first : List ℕ × List ℕ) × (identifier_at ((owner_text owner ++ name) ++ behind) ≡ Some first) × (owned_by first.0 first.1 (after first.1 58) ≡ Some x)
unfolding after
owner-again None name behind x o i s c n = ((name, behind), identifier-again name behind i s, rw (after-none behind 58 c) n)
owner-again (Some owner) name behind x o i s c n =
    let all : ((owner ++ 58 ∷ []) ++ name) ++ behind ≡ owner ++ 58 ∷ (name ++ behind) = append_assoc (owner ++ 58 ∷ []) name behind ∙ append_assoc owner (58 ∷ []) (name ++ behind) in
    let more : owned_by owner (58 ∷ (name ++ behind)) (Some (name ++ behind)) ≡ Some x = rw (identifier-again name behind i s) n in
    ((owner, 58 ∷ (name ++ behind)), ap identifier_at all ∙ identifier-again owner (58 ∷ (name ++ behind)) o colon-end, more)

step-again : (s : WrittenStep) (rest : List ℕ) → IsWritten s → Follows rest → step_at (step_text s ++ rest) ≡ Some (s, rest)
unfolding step_at after
step-again s rest w f =
    let stop = predicates-stop s.predicates rest f in
    let n = named-again s rest w f in
    let o = owner-again s.owner s.name (predicates_text s.predicates ++ rest) (s, rest) w.owner w.name stop.0 stop.1 n in
    let all : (owner_text s.owner ++ s.name ++ predicates_text s.predicates) ++ rest ≡ (owner_text s.owner ++ s.name) ++ (predicates_text s.predicates ++ rest) = append_assoc (owner_text s.owner ++ s.name) (predicates_text s.predicates) rest in
    rw (all, o.1) o.2

steps-again : (n : ℕ) (ss : List WrittenStep) → length ss ≤ n → AllByRecursion IsWritten ss → steps_at n (steps_text ss) ≡ Some ss
unfolding steps_at
steps-again n [] le h = refl
steps-again zero (s ∷ ss) le h = absurd (omega arith)
steps-again (suc n) (s ∷ ss) le h =
    let le_rest : length ss ≤ n = omega arith in
    let r = steps-again n ss le_rest h.1 in
    rw (step-again s (steps_text ss) h.0 (steps-follow ss), r) refl

steps-long : (ss : List WrittenStep) → length ss ≤ length (steps_text ss)
steps-long [] = omega arith
steps-long (s ∷ ss) =
    let r = steps-long ss in
    let len : length (steps_text (s ∷ ss)) ≡ length (step_text s) + length (steps_text ss) = length-append (step_text s) (steps_text ss) in
    let one : 1 ≤ length (step_text s) = omega arith in
    rw len (omega arith)

-- what has the form of a path is read
pub form-again : (text : List ℕ) (steps : List WrittenStep) → HasForm text steps → steps_of text ≡ Some steps
unfolding steps_of
form-again text steps f =
    let r = steps-again (length (steps_text steps)) steps (steps-long steps) f.each in
    let whole : (steps_at (length (steps_text steps)) (steps_text steps) >>= λ ss. cond (is_from_top ss) (Some ss) None) ≡ Some steps = rw (r, f.top) refl in
    subst (λ (l : List ℕ). steps_of l ≡ Some steps) (sym f.whole) whole
