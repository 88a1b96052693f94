-- The names of members are those of the statements, each once.
use Rattle.std.proofs.Common.{◌≡◌, ℕ, ℤ, Bool, true, false, cond, List, [], ◌∷◌, ◌++◌, map, fold, length, Option, Some, None, is_some, Result, Ok, Err, IfOk, Contains, refl, sym, ap, subst, ◌∙◌, append_assoc, inl, inr}
use Rattle.std.specs.Prelude.{◌||◌}
use Rattle.std.specs.List.{list_any}
use Rattle.std.specs.Str.{bytes_eq}
use Rattle.std.specs.Cmp.Lexicographic.{nat_list_eq_equiv}
use Rattle.std.proofs.lemmas.Bool.{cases_Bool}
use Rattle.std.proofs.lemmas.List.{map-append, append-nil}
use Rattle.std.proofs.lemmas.List.Elements.{Contains-append_cases}
use Rattle.std.proofs.lemmas.Map.Views.{list_any-from_Contains}
use Rattle.nm_types.specs.Spells.{IsOnce}
use Rattle.nm_schema_derive.specs.declared.members.Listed.{Listed}
use Rattle.nm_schema_derive.specs.declared.members.Member.{Member}
use Rattle.nm_schema_derive.specs.declared.members.Numbering.{Numbering}
use Rattle.nm_schema_derive.specs.declared.members.ListFlaw.{ListFlaw}
use Rattle.nm_schema_derive.specs.declared.members.ListFault.{ListFault}
use Rattle.nm_schema_derive.specs.declared.members.ListFault.TheVariants.{Flawed}
use Rattle.nm_schema_derive.specs.Kinds.{member_name}
use Rattle.nm_schema_derive.specs.Members.{listed_name, later_number, number_in, new_number, number_for, one_more, with_statement, members_of, Gives}
use Rattle.nm_schema_derive.proofs.Takings.{flaw_stays}

abbrev names : List Member → List (List ℕ)
names members = map member_name members

split_or : (a b : Bool) → a ≡ false → b ≡ false → a || b ≡ false
split_or a b e f = rw (e, f) refl

missed : (t : Bool) (z : ℤ) (found : Option ℤ) → is_some (cond t (Some z) found) ≡ false → (t ≡ false) × (is_some found ≡ false)
missed true z found e = cc
missed false z found e = (refl, e)

-- a name without a number is none of the names
absent : (name : List ℕ) (members : List Member) (found : Option ℤ) → is_some (fold (later_number name) found members) ≡ false → (is_some found ≡ false) × (list_any (bytes_eq name) (names members) ≡ false)
absent name [] found e = (e, refl)
absent name (p ∷ ps) found e =
    let later = absent name ps (later_number name found p) e in
    let here = missed (bytes_eq p.name name) p.number found later.0 in
    (here.1, split_or (bytes_eq name p.name) (list_any (bytes_eq name) (names ps)) (nat_list_eq_equiv.symm name p.name ∙ here.0) later.1)

not_among : (name : List ℕ) (members : List Member) → is_some (number_in name members) ≡ false → ¬ (Contains (names members) name)
unfolding number_in
not_among name members e = λ c.
    let some = list_any-from_Contains nat_list_eq_equiv name (names members) c in
    let none = (absent name members None e).1 in
    cc

last_is : (w v : List ℕ) → Contains (w ∷ []) v → bytes_eq v w ≡ true
last_is w v c =
    let some = list_any-from_Contains nat_list_eq_equiv v (w ∷ []) c in
    elim (cases_Bool (bytes_eq v w)) [
      | inl e ↦ e
      | inr e ↦ let no : false ≡ true = rw e at some in cc
    ]

once_more : (ws : List (List ℕ)) (w : List ℕ) → IsOnce ws → list_any (bytes_eq w) ws ≡ false → IsOnce (ws ++ w ∷ [])
once_more [] w o n = (λ c. let some = list_any-from_Contains nat_list_eq_equiv w [] c in cc, tt)
once_more (v ∷ vs) w o n =
    let parts = neither (bytes_eq w v) (list_any (bytes_eq w) vs) n in (
      λ c. elim (Contains-append_cases vs (w ∷ []) v c) [
        | inl d ↦ o.0 d
        | inr d ↦ let same = nat_list_eq_equiv.symm w v ∙ last_is w v d in let other = parts.0 in cc
      ],
      once_more vs w o.1 parts.1,
    )
  where
    neither : (a b : Bool) → a || b ≡ false → (a ≡ false) × (b ≡ false)
    neither true b e = cc
    neither false b e = (refl, e)

unnamed : (t : Bool) (r : Result ℤ ListFlaw) (n : ℤ) (flaw : ListFlaw) → cond t (Err flaw) r ≡ Ok n → t ≡ false
unnamed true r n flaw e = cc
unnamed false r n flaw e = refl

module _ (numbering : Numbering) (base : Option (List Member)) where
  new_name : (before : List Member) (s : Listed) (n : ℤ) → number_for numbering base before s ≡ Ok n → list_any (bytes_eq s.name) (names before) ≡ false
  unfolding number_for number_in
  new_name before s n e = (absent s.name before None (unnamed (is_some (number_in s.name before)) (new_number numbering base before s) n _ e)).1

  kept : (statements : List Listed) (before members : List Member) → fold (with_statement numbering base) (Ok before) statements ≡ Ok members → names members ≡ names before ++ map listed_name statements
  kept [] before members e = let same : before ≡ members = cc in ap names (sym same) ∙ sym (append-nil (names before))
  kept (s ∷ ss) before members e = one (λ after g. kept ss after members g) (number_for numbering base before s) e
    where
      one : ((after : List Member) → fold (with_statement numbering base) (Ok after) ss ≡ Ok members → names members ≡ names after ++ map listed_name ss) → (r : Result ℤ ListFlaw) → fold (with_statement numbering base) (one_more before s.name r) ss ≡ Ok members → names members ≡ names before ++ s.name ∷ map listed_name ss
      one again (Err flaw) g = let no = sym (flaw_stays numbering base ss (Flawed (length before) flaw)) ∙ g in cc
      one again (Ok n) g =
          let m : Member = record { name = s.name; number = n } in
          again (before ++ m ∷ []) g
          ∙ ap (λ (ws : List (List ℕ)). ws ++ map listed_name ss) (map-append member_name before (m ∷ []))
          ∙ append_assoc (names before) (s.name ∷ []) (map listed_name ss)

  once : (statements : List Listed) (before members : List Member) → IsOnce (names before) → fold (with_statement numbering base) (Ok before) statements ≡ Ok members → IsOnce (names members)
  once [] before members o e = let same : before ≡ members = cc in subst (λ (ms : List Member). IsOnce (names ms)) same o
  once (s ∷ ss) before members o e = one (λ after p g. once ss after members p g) (number_for numbering base before s) refl e
    where
      one : ((after : List Member) → IsOnce (names after) → fold (with_statement numbering base) (Ok after) ss ≡ Ok members → IsOnce (names members)) → (r : Result ℤ ListFlaw) → number_for numbering base before s ≡ r → fold (with_statement numbering base) (one_more before s.name r) ss ≡ Ok members → IsOnce (names members)
      one again (Err flaw) f g = let no = sym (flaw_stays numbering base ss (Flawed (length before) flaw)) ∙ g in cc
      one again (Ok n) f g =
          let m : Member = record { name = s.name; number = n } in
          again (before ++ m ∷ []) (subst (λ (ws : List (List ℕ)). IsOnce ws) (sym (map-append member_name before (m ∷ []))) (once_more (names before) s.name o (new_name before s n f))) g

  -- the names of an answer
  pub answer_named : (statements : List Listed) (made : Result (List Member) ListFault) → Gives made (members_of numbering base statements) → IfOk made (λ (members : List Member). names members ≡ map listed_name statements)
  unfolding members_of
  answer_named statements (Err fault) g = tt
  answer_named statements (Ok members) g = kept statements [] members g

  pub answer_once : (statements : List Listed) (made : Result (List Member) ListFault) → Gives made (members_of numbering base statements) → IfOk made (λ (members : List Member). IsOnce (names members))
  unfolding members_of
  answer_once statements (Err fault) g = tt
  answer_once statements (Ok members) g = once statements [] members tt g
