-- One more member.
use Rattle.std.proofs.Common.{◌≡◌, ℕ, ℤ, Bool, true, false, cond, List, [], ◌∷◌, ◌++◌, fold, Option, Some, None, is_some, nat_cmp, int_cmp, Result, Ok, Err, length, get_or, take, drop, ◌<◌, ◌+◌, suc, add-one, refl, sym, ap, ◌∙◌}
use Rattle.std.specs.Prelude.{◌||◌}
use Rattle.std.specs.Str.{bytes_eq}
use Rattle.std.specs.Ordering.{int_eq}
use Rattle.std.specs.BTreeMap.{is_at}
use Rattle.std.specs.Cmp.Lexicographic.{slice_cmp, texts_ties}
use Rattle.std.proofs.lemmas.List.{take-append-drop}
use Rattle.std.proofs.lemmas.List.Sums.{fold_push, fold-append}
use Rattle.std.proofs.lemmas.List.Folds.{list_any-append}
use Rattle.std.proofs.Math.Seq.{drop-cons}
use Rattle.nm_schema_derive.specs.declared.members.Listed.{Listed}
use Rattle.nm_schema_derive.specs.declared.members.Member.{Member}
use Rattle.nm_schema_derive.specs.declared.members.Numbering.{Numbering}
use Rattle.nm_schema_derive.specs.declared.members.ListFlaw.{ListFlaw}
use Rattle.nm_schema_derive.specs.declared.members.ListFault.{ListFault}
use Rattle.nm_schema_derive.specs.declared.members.ListFault.TheVariants.{Flawed}
use Rattle.nm_schema_derive.specs.Members.{later_number, number_in, is_numbered, has_number, higher, higher_of, highest_in, one_more, with_statement, number_for, members_of}

pub number_in-push : (name : List ℕ) (members : List Member) (member : Member) → number_in name (members ++ member ∷ []) ≡ later_number name (number_in name members) member
unfolding number_in
number_in-push name members member = fold_push (later_number name) None members member

-- the names that a map has after one more
pub name_taken : (members : List Member) (member : Member) (name : List ℕ) (old new : Option ℤ) → new ≡ cond (is_at (slice_cmp nat_cmp member.name) name) (Some member.number) old → old ≡ number_in name members → new ≡ number_in name (members ++ member ∷ [])
name_taken members member name old new u e =
    u ∙ ap (λ (t : Bool). cond t (Some member.number) old) (sym (texts_ties member.name name))
    ∙ ap (cond (bytes_eq member.name name) (Some member.number)) e
    ∙ sym (number_in-push name members member)

one_or : {X : Type 0} (t : Bool) (x : X) (old : Option X) → is_some (cond t (Some x) old) ≡ (is_some old || (t || false))
one_or true x None = refl
one_or true x (Some y) = refl
one_or false x None = refl
one_or false x (Some y) = refl

-- the numbers that a map has after one more
pub number_taken : {X : Type 0} (x : X) (members : List Member) (member : Member) (number : ℤ) (old new : Option X) → new ≡ cond (is_at (int_cmp member.number) number) (Some x) old → is_some old ≡ has_number number members → is_some new ≡ has_number number (members ++ member ∷ [])
unfolding has_number
number_taken x members member number old new u e =
    ap is_some u ∙ one_or (int_eq member.number number) x old
    ∙ ap (λ (t : Bool). t || (int_eq member.number number || false)) e
    ∙ sym (list_any-append (is_numbered number) members (member ∷ []))

-- the highest number after one more
pub highest_taken : (members : List Member) (member : Member) (highest : Option ℤ) (above : ℤ) → Some above ≡ higher highest member.number → highest ≡ highest_in members → Some above ≡ highest_in (members ++ member ∷ [])
unfolding highest_in
highest_taken members member highest above h e =
    h ∙ ap (λ (o : Option ℤ). higher o member.number) e ∙ sym (fold_push higher_of None members member)

-- ---- statements

module _ (numbering : Numbering) (base : Option (List Member)) where
  -- a flaw stays
  pub flaw_stays : (rest : List Listed) (fault : ListFault) → fold (with_statement numbering base) (Err fault) rest ≡ Err fault
  flaw_stays [] fault = refl
  flaw_stays (s ∷ ss) fault = flaw_stays ss fault

  -- the first statement with a flaw decides
  pub first_flaw : (statements : List Listed) (i : ℕ) (s : Listed) (before : List Member) (flaw : ListFlaw) → i < length statements → s ≡ get_or statements i s → fold (with_statement numbering base) (Ok []) (take i statements) ≡ Ok before → Err flaw ≡ number_for numbering base before s → members_of numbering base statements ≡ Err (Flawed (length before) flaw)
  unfolding members_of
  first_flaw statements i s before flaw l at so e =
      let step = with_statement numbering base in
      let parts : statements ≡ take i statements ++ s ∷ drop (i + 1) statements = sym (take-append-drop i statements) ∙ ap (λ (r : List Listed). take i statements ++ r) (drop-cons statements i s l ∙ ap (λ (x : Listed). x ∷ drop (suc i) statements) (sym at) ∙ ap (λ (k : ℕ). s ∷ drop k statements) (sym (add-one i))) in
      ap (fold step (Ok [])) parts
      ∙ fold-append step (Ok []) (take i statements) (s ∷ drop (i + 1) statements)
      ∙ ap (λ (r : Result (List Member) ListFault). fold step r (s ∷ drop (i + 1) statements)) so
      ∙ ap (λ (r : Result ℤ ListFlaw). fold step (one_more before s.name r) (drop (i + 1) statements)) (sym e)
      ∙ flaw_stays (drop (i + 1) statements) (Flawed (length before) flaw)
