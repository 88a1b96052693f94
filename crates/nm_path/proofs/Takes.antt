-- What is read has the form of a path.
use Rattle.std.proofs.Common.{◌≡◌, ◌⊎◌, ◌<◌, ℕ, zero, suc, Bool, true, false, eqb, List, [], ◌∷◌, ◌++◌, length, take, drop, get_or, Option, Some, None, refl, sym, ap, subst, ◌∙◌, append_assoc, inl, inr, arith}
use Rattle.std.specs.Prelude.{codes}
use Rattle.std.specs.List.{list_any, position_or_len, before_first, after_first, AllByRecursion}
use Rattle.std.proofs.lemmas.Bool.{eqb-true, cases_Bool}
use Rattle.std.proofs.lemmas.Bool.Decides.{nat_tests}
use Rattle.std.proofs.lemmas.Grind.{common_steps}
use Rattle.std.proofs.lemmas.List.{take-append-drop}
use Rattle.std.proofs.lemmas.List.Sums.{split_at_first, passes_at_first}
use Rattle.std.proofs.lemmas.Option.{same_Some, none-some}
use Rattle.nm_path.specs.declared.form.Quote.{Quote}
use Rattle.nm_path.specs.declared.form.Quote.TheVariants.{Single, Double}
use Rattle.nm_path.specs.declared.form.Predicate.{Predicate}
use Rattle.nm_path.specs.Form.{WrittenStep, doubled, quoted, predicate_text, predicates_text, owner_text, step_text, steps_text, is_identifier, has_double, CanStand, IsPredicate, IsOwner, IsWritten, HasForm, is_from_top}
use Rattle.nm_path.specs.Reading.{◌>>=◌, with_front, begins, after, name_len, identifier_at, single_at, is_double, double_at, quoted_by, quoted_at, key_by, key_at, predicate_at, predicates_at, named_at, owned_by, step_at, steps_at, steps_of}
use Rattle.nm_path.proofs.Binds.{bind_some, guard_some, with_front-some, all_front-some}

after-takes : (text rest : List ℕ) (k : ℕ) → after text k ≡ Some rest → text ≡ k ∷ rest
unfolding after
after-takes [] rest k e = absurd (none-some rest e)
after-takes (b ∷ text) rest k e =
    let g = guard_some (eqb b k) text rest e in
    ap (λ (x : ℕ). x ∷ text) (eqb-true b k g.0) ∙ ap (λ (x : List ℕ). k ∷ x) g.1

identifier-takes : (text : List ℕ) (x : List ℕ × List ℕ) → identifier_at text ≡ Some x → (text ≡ x.0 ++ x.1) × (is_identifier x.0 ≡ true)
unfolding identifier_at
identifier-takes text x e =
    let n = name_len text in
    let g = guard_some (is_identifier (take (name_len text) text)) (take (name_len text) text, drop (name_len text) text) x e in
    subst (λ (y : List ℕ × List ℕ). (text ≡ y.0 ++ y.1) × (is_identifier y.0 ≡ true)) g.1 (sym (take-append-drop (name_len text) text), g.0)

abbrev before : Bool → List ℕ → List ℕ
before false text = text
before true text = 39 ∷ text

single-takes : (q : Bool) (text : List ℕ) (x : List ℕ × List ℕ) → single_at q text ≡ Some x → before q text ≡ doubled x.0 ++ 39 ∷ x.1
unfolding single_at
single-takes false [] x e = absurd (none-some x e)
single-takes true [] x e = subst (λ (y : List ℕ × List ℕ). 39 ∷ [] ≡ doubled y.0 ++ 39 ∷ y.1) (same_Some ([], []) x e) refl
single-takes false (b ∷ text) x e = elim (cases_Bool (eqb b 39)) [
  | inl is ↦
      let f : single_at true text ≡ Some x = rw is at e in
      ap (λ (k : ℕ). k ∷ text) (eqb-true b 39 is) ∙ single-takes true text x f
  | inr miss ↦
      let f : with_front (b ∷ []) (single_at false text) ≡ Some x = rw miss at e in
      let w = with_front-some (b ∷ []) (single_at false text) x f in
      let rest = single-takes false text (w.0, x.1) w.1 in
      let one : doubled (b ∷ w.0) ≡ b ∷ doubled w.0 = rw miss refl in
      ap (λ (l : List ℕ). b ∷ l) rest ∙ ap (λ (l : List ℕ). l ++ 39 ∷ x.1) (sym one ∙ ap doubled (sym w.2))
]
single-takes true (b ∷ text) x e = elim (cases_Bool (eqb b 39)) [
  | inl is ↦
      let f : with_front (39 ∷ []) (single_at false text) ≡ Some x = rw is at e in
      let w = with_front-some (39 ∷ []) (single_at false text) x f in
      let rest = single-takes false text (w.0, x.1) w.1 in
      ap (λ (k : ℕ). 39 ∷ k ∷ text) (eqb-true b 39 is) ∙ ap (λ (l : List ℕ). 39 ∷ 39 ∷ l) rest ∙ ap (λ (l : List ℕ). doubled l ++ 39 ∷ x.1) (sym w.2)
  | inr miss ↦
      let f : Some ([], b ∷ text) ≡ Some x = rw miss at e in
      subst (λ (y : List ℕ × List ℕ). 39 ∷ b ∷ text ≡ doubled y.0 ++ 39 ∷ y.1) (same_Some ([], b ∷ text) x f) refl
]

any-place : (p : ℕ → Bool) (xs : List ℕ) → list_any p xs ≡ true → position_or_len p xs < length xs
any-place p [] e = absurd cc
any-place p (x ∷ xs) e = grind (arith, nat_tests, common_steps, any-place p xs)

none-before : (p : ℕ → Bool) (xs : List ℕ) → list_any p (before_first p xs) ≡ false
none-before p [] = refl
none-before p (x ∷ xs) = elim (cases_Bool (p x)) [
  | inl is ↦ rw is refl
  | inr miss ↦
      let place : position_or_len p (x ∷ xs) ≡ suc (position_or_len p xs) = grind (arith, common_steps) in
      let one : before_first p (x ∷ xs) ≡ x ∷ before_first p xs = rw place refl in
      rw one (rw miss (none-before p xs))
]

double-takes : (text : List ℕ) (x : List ℕ × List ℕ) → double_at text ≡ Some x → (text ≡ x.0 ++ 34 ∷ x.1) × (has_double x.0 ≡ false)
unfolding double_at
double-takes text x e =
    let g = guard_some (has_double text) (before_first is_double text, after_first is_double text) x e in
    let lt = any-place is_double text g.0 in
    let at = eqb-true (get_or text (position_or_len is_double text) 0) 34 (passes_at_first is_double text 0 lt) in
    let parts = split_at_first is_double text 0 lt ∙ ap (λ (k : ℕ). before_first is_double text ++ k ∷ after_first is_double text) at in
    subst (λ (y : List ℕ × List ℕ). (text ≡ y.0 ++ 34 ∷ y.1) × (has_double y.0 ≡ false)) g.1 (parts, none-before is_double text)

abbrev IsQuoted : List ℕ → Quote × List ℕ × List ℕ → Type 0
IsQuoted text x = (text ≡ quoted x.0 x.1 ++ x.2) × CanStand x.0 x.1

quoted_by-takes : (text : List ℕ) (single double : Option (List ℕ)) (x : Quote × List ℕ × List ℕ) → after text 39 ≡ single → after text 34 ≡ double → quoted_by single double ≡ Some x → IsQuoted text x
quoted_by-takes text (Some inside) double x s d e =
    let b = bind_some (single_at false inside) (λ y. Some (Single, y.0, y.1)) x e in
    let t = single-takes false inside b.0 b.1 in
    let whole : text ≡ quoted Single b.0.0 ++ b.0.1 = after-takes text inside 39 s ∙ ap (λ (l : List ℕ). 39 ∷ l) (t ∙ sym (append_assoc (doubled b.0.0) (39 ∷ []) b.0.1)) in
    subst (IsQuoted text) (same_Some (Single, b.0.0, b.0.1) x b.2) (whole, tt)
quoted_by-takes text None (Some inside) x s d e =
    let b = bind_some (double_at inside) (λ y. Some (Double, y.0, y.1)) x e in
    let t = double-takes inside b.0 b.1 in
    let whole : text ≡ quoted Double b.0.0 ++ b.0.1 = after-takes text inside 34 d ∙ ap (λ (l : List ℕ). 34 ∷ l) (t.0 ∙ sym (append_assoc b.0.0 (34 ∷ []) b.0.1)) in
    subst (IsQuoted text) (same_Some (Double, b.0.0, b.0.1) x b.2) (whole, t.1)
quoted_by-takes text None None x s d e = absurd (none-some x e)

quoted-takes : (text : List ℕ) (x : Quote × List ℕ × List ℕ) → quoted_at text ≡ Some x → IsQuoted text x
unfolding quoted_at
quoted-takes text x e = quoted_by-takes text (after text 39) (after text 34) x refl refl e

abbrev IsKeyed : List ℕ → List ℕ × List ℕ → Type 0
IsKeyed text x = (text ≡ x.0 ++ x.1) × ((x.0 ≡ codes ".") ⊎ (is_identifier x.0 ≡ true))

key_by-takes : (text : List ℕ) (dot : Option (List ℕ)) (x : List ℕ × List ℕ) → after text 46 ≡ dot → key_by dot (identifier_at text) ≡ Some x → IsKeyed text x
key_by-takes text (Some rest) x d e = subst (IsKeyed text) (same_Some (codes ".", rest) x e) (after-takes text rest 46 d, inl refl)
key_by-takes text None x d e = let i = identifier-takes text x e in (i.0, inr i.1)

key-takes : (text : List ℕ) (x : List ℕ × List ℕ) → key_at text ≡ Some x → IsKeyed text x
unfolding key_at
key-takes text x e = key_by-takes text (after text 46) x refl e

abbrev IsPredicateAt : List ℕ → Predicate × List ℕ → Type 0
IsPredicateAt text x = (text ≡ predicate_text x.0 ++ x.1) × IsPredicate x.0

predicate-takes : (text : List ℕ) (x : Predicate × List ℕ) → predicate_at text ≡ Some x → IsPredicateAt text x
unfolding predicate_at
predicate-takes text x e =
    let a = bind_some (after text 91) _ x e in
    let b = bind_some (key_at a.0) _ x a.2 in
    let c = bind_some (after b.0.1 61) _ x b.2 in
    let d = bind_some (quoted_at c.0) _ x c.2 in
    let f = bind_some (after d.0.2 93) _ x d.2 in
    let key = key-takes a.0 b.0 b.1 in
    let value = quoted-takes c.0 d.0 d.1 in
    let behind = after-takes d.0.2 f.0 93 f.1 in
    let start = after-takes b.0.1 c.0 61 c.1 in
    let inner : c.0 ≡ (quoted d.0.0 d.0.1 ++ 93 ∷ []) ++ f.0 = value.0 ∙ ap (λ (l : List ℕ). quoted d.0.0 d.0.1 ++ l) behind ∙ sym (append_assoc (quoted d.0.0 d.0.1) (93 ∷ []) f.0) in
    let inside : a.0 ≡ (b.0.0 ++ 61 ∷ (quoted d.0.0 d.0.1 ++ 93 ∷ [])) ++ f.0 = key.0 ∙ ap (λ (l : List ℕ). b.0.0 ++ l) (start ∙ ap (λ (l : List ℕ). 61 ∷ l) inner) ∙ sym (append_assoc b.0.0 (61 ∷ (quoted d.0.0 d.0.1 ++ 93 ∷ [])) f.0) in
    let whole = after-takes text a.0 91 a.1 ∙ ap (λ (l : List ℕ). 91 ∷ l) inside in
    subst (IsPredicateAt text) (same_Some (record { key = b.0.0; quote = d.0.0; value = d.0.1 }, f.0) x f.2) (whole, record { key = key.1; value = value.1 })

abbrev ArePredicatesAt : List ℕ → List Predicate × List ℕ → Type 0
ArePredicatesAt text x = (text ≡ predicates_text x.0 ++ x.1) × AllByRecursion IsPredicate x.0

predicates-takes : (n : ℕ) (text : List ℕ) (x : List Predicate × List ℕ) → predicates_at n text ≡ Some x → ArePredicatesAt text x
unfolding predicates_at
predicates-takes zero text x e = subst (ArePredicatesAt text) (same_Some ([], text) x e) (refl, tt)
predicates-takes (suc n) text x e = elim (cases_Bool (begins text 91)) [
  | inl is ↦
      let f : (predicate_at text >>= λ p. with_front (p.0 ∷ []) (predicates_at n p.1)) ≡ Some x = rw is at e in
      let a = bind_some (predicate_at text) _ x f in
      let p = predicate-takes text a.0 a.1 in
      let w = with_front-some (a.0.0 ∷ []) (predicates_at n a.0.1) x a.2 in
      let r = predicates-takes n a.0.1 (w.0, x.1) w.1 in
      let whole : text ≡ predicates_text (a.0.0 ∷ w.0) ++ x.1 = p.0 ∙ ap (λ (l : List ℕ). predicate_text a.0.0 ++ l) r.0 ∙ sym (append_assoc (predicate_text a.0.0) (predicates_text w.0) x.1) in
      subst (λ (l : List Predicate). ArePredicatesAt text (l, x.1)) (sym w.2) (whole, (p.1, r.1))
  | inr miss ↦
      let f : Some ([], text) ≡ Some x = rw miss at e in
      subst (ArePredicatesAt text) (same_Some ([], text) x f) (refl, tt)
]

abbrev IsNamedAt : List ℕ → WrittenStep × List ℕ → Type 0
IsNamedAt text x = (text ≡ (owner_text x.0.owner ++ x.0.name ++ predicates_text x.0.predicates) ++ x.1) × IsWritten x.0

named-takes : (owner : Option (List ℕ)) (name text : List ℕ) (x : WrittenStep × List ℕ) → IsOwner owner → is_identifier name ≡ true → named_at owner name text ≡ Some x → IsNamedAt (owner_text owner ++ name ++ text) x
unfolding named_at
named-takes owner name text x o i e =
    let a = bind_some (predicates_at (length text) text) _ x e in
    let p = predicates-takes (length text) text a.0 a.1 in
    let whole : owner_text owner ++ name ++ text ≡ (owner_text owner ++ name ++ predicates_text a.0.0) ++ a.0.1 =
    ap (λ (l : List ℕ). (owner_text owner ++ name) ++ l) p.0 ∙ sym (append_assoc (owner_text owner ++ name) (predicates_text a.0.0) a.0.1) in
    subst (IsNamedAt (owner_text owner ++ name ++ text)) (same_Some (record { owner = owner; name = name; predicates = a.0.0 }, a.0.1) x a.2) (whole, record { owner = o; name = i; predicates = p.1 })

owned_by-takes : (first text : List ℕ) (colon : Option (List ℕ)) (x : WrittenStep × List ℕ) → is_identifier first ≡ true → after text 58 ≡ colon → owned_by first text colon ≡ Some x → IsNamedAt (first ++ text) x
owned_by-takes first text None x i c e = named-takes None first text x tt i e
owned_by-takes first text (Some more) x i c e =
    let a = bind_some (identifier_at more) _ x e in
    let n = identifier-takes more a.0 a.1 in
    let r = named-takes (Some first) a.0.0 a.0.1 x i n.1 a.2 in
    let front : first ++ text ≡ (first ++ 58 ∷ []) ++ a.0.0 ++ a.0.1 = ap (λ (l : List ℕ). first ++ l) (after-takes text more 58 c ∙ ap (λ (l : List ℕ). 58 ∷ l) n.0) ∙ sym (append_assoc first (58 ∷ []) (a.0.0 ++ a.0.1)) ∙ sym (append_assoc (first ++ 58 ∷ []) a.0.0 a.0.1) in
    (front ∙ r.0, r.1)

abbrev IsStepAt : List ℕ → WrittenStep × List ℕ → Type 0
IsStepAt text x = (text ≡ step_text x.0 ++ x.1) × IsWritten x.0

step-takes : (text : List ℕ) (x : WrittenStep × List ℕ) → step_at text ≡ Some x → IsStepAt text x
unfolding step_at
step-takes text x e =
    let a = bind_some (after text 47) _ x e in
    let b = bind_some (identifier_at a.0) _ x a.2 in
    let i = identifier-takes a.0 b.0 b.1 in
    let r = owned_by-takes b.0.0 b.0.1 (after b.0.1 58) x i.1 refl b.2 in
    (after-takes text a.0 47 a.1 ∙ ap (λ (l : List ℕ). 47 ∷ l) (i.0 ∙ r.0), r.1)

steps-takes : (n : ℕ) (text : List ℕ) (x : List WrittenStep) → steps_at n text ≡ Some x → (text ≡ steps_text x) × AllByRecursion IsWritten x
unfolding steps_at
steps-takes n [] x e = subst (λ (y : List WrittenStep). ([] ≡ steps_text y) × AllByRecursion IsWritten y) (same_Some [] x e) (refl, tt)
steps-takes zero (b ∷ text) x e = absurd (none-some x e)
steps-takes (suc n) (b ∷ text) x e =
    let a = bind_some (step_at (b ∷ text)) _ x e in
    let s = step-takes (b ∷ text) a.0 a.1 in
    let w = all_front-some (a.0.0 ∷ []) (steps_at n a.0.1) x a.2 in
    let r = steps-takes n a.0.1 w.0 w.1 in
    let whole : b ∷ text ≡ steps_text (a.0.0 ∷ w.0) = s.0 ∙ ap (λ (l : List ℕ). step_text a.0.0 ++ l) r.0 in
    subst (λ (y : List WrittenStep). (b ∷ text ≡ steps_text y) × AllByRecursion IsWritten y) (sym w.2) (whole, (s.1, r.1))

-- what is read has the form of a path
pub form-takes : (text : List ℕ) (steps : List WrittenStep) → steps_of text ≡ Some steps → HasForm text steps
unfolding steps_of
form-takes text steps e =
    let a = bind_some (steps_at (length text) text) _ steps e in
    let g = guard_some (is_from_top a.0) a.0 steps a.2 in
    let s = steps-takes (length text) text a.0 a.1 in
    subst (HasForm text) g.1 (record { whole = s.0; top = g.0; each = s.1 })
