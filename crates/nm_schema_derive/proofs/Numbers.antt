-- The numbers of members are within the limits of their numbering.
use Rattle.std.proofs.Common.{◌≡◌, ℕ, ℤ, Bool, true, false, cond, List, [], ◌∷◌, ◌++◌, fold, length, Option, Some, None, is_some, Result, Ok, Err, IfOk, All, refl, sym, ap, ◌∙◌}
use Rattle.std.specs.Prelude.{⊤}
use Rattle.std.specs.List.{list_all}
use Rattle.std.specs.Str.{bytes_eq}
use Rattle.std.specs.Ordering.{int_eq}
use Rattle.std.proofs.lemmas.Bool.{and_parts}
use Rattle.std.proofs.lemmas.List.Folds.{list_all-append}
use Rattle.std.proofs.lemmas.List.Sums.{AllPass-from_list_all, list_all-from_AllPass}
use Rattle.nm_types.specs.Limits.{is_within}
use Rattle.nm_schema_derive.specs.declared.members.Listed.{Listed}
use Rattle.nm_schema_derive.specs.declared.members.Member.{Member}
use Rattle.nm_schema_derive.specs.declared.members.Numbering.{Numbering}
use Rattle.nm_schema_derive.specs.declared.members.Numbering.TheVariants.{Positions}
use Rattle.nm_schema_derive.specs.declared.members.ListFlaw.{ListFlaw}
use Rattle.nm_schema_derive.specs.declared.members.ListFault.{ListFault}
use Rattle.nm_schema_derive.specs.declared.members.ListFault.TheVariants.{Flawed}
use Rattle.nm_schema_derive.specs.Form.{number_of}
use Rattle.nm_schema_derive.specs.Members.{form_of, limits_of, between, within, within_if, given_number, later_number, number_in, has_number, highest_in, next_after, fresh, left, own_number, same_number, based_number, new_number, number_for, one_more, with_statement, members_of, Gives, IsPosition}
use Rattle.nm_schema_derive.proofs.Takings.{flaw_stays}

module _ (numbering : Numbering) where
  abbrev fits : ℤ → Bool
  fits number = is_within number (limits_of numbering)

  abbrev member_fits : Member → Bool
  member_fits member = fits member.number

  kept : (t : Bool) (z n : ℤ) → cond t (Some z) None ≡ Some n → fits z ≡ t → fits n ≡ true
  kept true z n e f = let same : z ≡ n = cc in ap fits (sym same) ∙ f
  kept false z n e f = cc

  between_fits : (z n : ℤ) → within numbering z ≡ Some n → fits n ≡ true
  unfolding between
  between_fits z n e = kept (fits z) z n e refl

  given_fits : (o : Option ℤ) (n : ℤ) → within_if numbering o ≡ Some n → fits n ≡ true
  given_fits None n e = cc
  given_fits (Some z) n e = between_fits z n e

  left_fits : (o : Option ℤ) (n : ℤ) → left o ≡ Ok n → o ≡ Some n
  left_fits None n e = cc
  left_fits (Some z) n e = cc

  unless_had : (t : Bool) (z n : ℤ) (flaw : ListFlaw) → cond t (Err flaw) (Ok z) ≡ Ok n → z ≡ n
  unless_had true z n flaw e = cc
  unless_had false z n flaw e = cc

  fresh_fits : (before : List Member) (o : Option ℤ) (n : ℤ) → fresh before o ≡ Ok n → o ≡ Some n
  fresh_fits before None n e = cc
  fresh_fits before (Some z) n e = ap (λ (y : ℤ). Some y) (unless_had (has_number z before) z n _ e)

  own_fits : (before : List Member) (text : Option (List ℕ)) (n : ℤ) → own_number numbering before text ≡ Ok n → fits n ≡ true
  unfolding given_number
  own_fits before None n e = between_fits (next_after (highest_in before)) n (left_fits _ n e)
  own_fits before (Some text) n e = given_fits (number_of (form_of numbering) text) n (fresh_fits before _ n e)

  if_same : (t : Bool) (z n : ℤ) (flaw : ListFlaw) → cond t (Ok z) (Err flaw) ≡ Ok n → z ≡ n
  if_same true z n flaw e = cc
  if_same false z n flaw e = cc

  same_fits : (base : ℤ) (o : Option ℤ) (n : ℤ) → same_number base o ≡ Ok n → base ≡ n
  same_fits base None n e = cc
  same_fits base (Some z) n e = if_same (int_eq z base) base n _ e

  based_fits : (found : Option ℤ) (text : Option (List ℕ)) (n : ℤ) → based_number numbering found text ≡ Ok n → found ≡ Some n
  based_fits None text n e = cc
  based_fits (Some base) None n e = cc
  based_fits (Some base) (Some text) n e = ap (λ (y : ℤ). Some y) (same_fits base (given_number numbering text) n e)

  later_fits : (name : List ℕ) (found : Option ℤ) (members : List Member) (n : ℤ) → ((m : ℤ) → found ≡ Some m → fits m ≡ true) → list_all member_fits members ≡ true → fold (later_number name) found members ≡ Some n → fits n ≡ true
  later_fits name found [] n h all e = h n e
  later_fits name found (p ∷ ps) n h all e =
      let parts = and_parts (member_fits p) (list_all member_fits ps) all in
      later_fits name (later_number name found p) ps n (one (bytes_eq p.name name) p.number found parts.0 h) parts.1 e
    where
      one : (t : Bool) (z : ℤ) (found : Option ℤ) → fits z ≡ true → ((m : ℤ) → found ≡ Some m → fits m ≡ true) → (m : ℤ) → cond t (Some z) found ≡ Some m → fits m ≡ true
      one true z found f h m e = let same : z ≡ m = cc in ap fits (sym same) ∙ f
      one false z found f h m e = h m e

  base_fits : (name : List ℕ) (members : List Member) (n : ℤ) → list_all member_fits members ≡ true → number_in name members ≡ Some n → fits n ≡ true
  unfolding number_in
  base_fits name members n all e = later_fits name None members n (λ m z. let no : None ≡ Some m = z in cc) all e

  abbrev BaseFits : Option (List Member) → Type 0
  BaseFits None = ⊤
  BaseFits (Some base) = list_all member_fits base ≡ true

  new_fits : (base : Option (List Member)) (before : List Member) (s : Listed) (n : ℤ) → BaseFits base → new_number numbering base before s ≡ Ok n → fits n ≡ true
  new_fits None before s n b e = own_fits before s.number n e
  new_fits (Some base) before s n b e = base_fits s.name base n b (based_fits (number_in s.name base) s.number n e)

  unrepeated : (t : Bool) (r : Result ℤ ListFlaw) (n : ℤ) (flaw : ListFlaw) → cond t (Err flaw) r ≡ Ok n → r ≡ Ok n
  unrepeated true r n flaw e = cc
  unrepeated false r n flaw e = e

  number_fits : (base : Option (List Member)) (before : List Member) (s : Listed) (n : ℤ) → BaseFits base → number_for numbering base before s ≡ Ok n → fits n ≡ true
  unfolding number_for
  number_fits base before s n b e = new_fits base before s n b (unrepeated (is_some (number_in s.name before)) (new_number numbering base before s) n _ e)

  all_fit : (base : Option (List Member)) (statements : List Listed) (before members : List Member) → BaseFits base → list_all member_fits before ≡ true → fold (with_statement numbering base) (Ok before) statements ≡ Ok members → list_all member_fits members ≡ true
  all_fit base [] before members b all e = let same : before ≡ members = cc in ap (list_all member_fits) (sym same) ∙ all
  all_fit base (s ∷ ss) before members b all e = one (λ after fit g. all_fit base ss after members b fit g) (number_for numbering base before s) refl e
    where
      one : ((after : List Member) → list_all member_fits after ≡ true → fold (with_statement numbering base) (Ok after) ss ≡ Ok members → list_all member_fits members ≡ true) → (r : Result ℤ ListFlaw) → number_for numbering base before s ≡ r → fold (with_statement numbering base) (one_more before s.name r) ss ≡ Ok members → list_all member_fits members ≡ true
      one again (Err flaw) f g = let no = sym (flaw_stays numbering base ss (Flawed (length before) flaw)) ∙ g in cc
      one again (Ok n) f g =
          let m : Member = record { name = s.name; number = n } in
          let here : member_fits m ≡ true = number_fits base before s n b f in
          again (before ++ m ∷ []) (list_all-append member_fits before (m ∷ []) ∙ rw (all, here) refl) g

-- the numbers of an answer
pub answer_fits : (base : Option (List Member)) (statements : List Listed) (made : Result (List Member) ListFault) → BaseFits Positions base → Gives made (members_of Positions base statements) → IfOk made (λ (members : List Member). All IsPosition members)
unfolding members_of
answer_fits base statements (Err fault) b g = tt
answer_fits base statements (Ok members) b g = AllPass-from_list_all (member_fits Positions) members (all_fit Positions base statements [] members b refl g)

pub base_of : (members : List Member) → All IsPosition members → BaseFits Positions (Some members)
base_of members all = list_all-from_AllPass (member_fits Positions) members all
