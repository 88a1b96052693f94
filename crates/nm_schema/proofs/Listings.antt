-- The `enum` and `bit` statements of a type in which no fault is found make its names and bits (RFC 7950 sections 9.6.4 and 9.7.4).
use Rattle.std.proofs.Common.{◌≡◌, ◌∙◌, inl, inr, ℕ, ℤ, zero, suc, ◌+◌, List, [], ◌∷◌, ◌++◌, length, map, fold, Bool, true, false, cond, ◌==◌, Option, Some, None, Result, Ok, Err, slice_get, refl, sym, ap, subst, arith, length-append}
use Rattle.std.specs.Prelude.{Contains, is_some}
use Rattle.std.proofs.lemmas.Option.{same_Some}
use Rattle.nm_schema_statements.specs.declared.row.Row.{Row}
use Rattle.nm_schema_statements.specs.declared.word.Word.{Word}
use Rattle.nm_schema_statements.specs.declared.word.Word.TheVariants as word
use Rattle.nm_schema_statements.specs.Rows.{has_word, children, first_with, first_below}
use Rattle.nm_schema_statements.proofs.Words.{same_words}
use Rattle.nm_schema_derive.specs.declared.members.Listed.{Listed}
use Rattle.nm_schema_derive.specs.declared.members.Member.{Member}
use Rattle.nm_schema_derive.specs.declared.members.Numbering.{Numbering}
use Rattle.nm_schema_derive.specs.declared.members.Numbering.TheVariants.{Values, Positions}
use Rattle.nm_schema_derive.specs.declared.members.ListFlaw.{ListFlaw}
use Rattle.nm_schema_derive.specs.declared.members.ListFlaw.TheVariants.{NameRepeated, BadNumber, NumberRepeated, NoNumberLeft, NotInBase, OtherThanBase}
use Rattle.nm_schema_derive.specs.declared.members.ListFault.{ListFault}
use Rattle.nm_schema_derive.specs.declared.members.ListFault.TheVariants.{Flawed}
use Rattle.nm_schema_derive.specs.declared.derived.StepFault.TheVariants.{Misplaced, Listed as AtListed}
use Rattle.nm_schema_derive.specs.Members.{within, next_after, highest_in, number_in, left, new_number, based_number, number_for, one_more, with_statement, members_of}
use Rattle.nm_schema_derive.specs.Built.{Built, Derivation, names, bare_names, bits, bare_bits}
use Rattle.nm_schema_derive.specs.Step.{names_on, bits_on, named, flagged}
use Rattle.nm_schema_names.specs.Clash.{around_in}
use Rattle.nm_schema_typing.specs.declared.listing.Judged.{Judged}
use Rattle.nm_schema_typing.specs.declared.listing.Judged.TheVariants as judged
use Rattle.nm_schema_typing.specs.Restricting.{argument_at, argument_below, those_with, rows_with, listed_at}
use Rattle.nm_schema_typing.specs.Flaws.{base_above}
use Rattle.nm_schema_typing.specs.Listing.{lister, numberer, with_listed, flawed_at, judged_of, judged_on, judged_if, judged_at, judgement_at, own_flaw, lister_flaw, number_flaw, numberer_flaw, is_at, parent_in, judged_above, flaw_of_lister, flaw_of_numberer, listed_by, listed_in, listed_flaw}
use Rattle.nm_schema_typing.specs.TypeFlaw.{flaw_by, flaw_in, type_flaw}
use Rattle.nm_schema_faults.specs.Facts.{Facts, definitions}
use Rattle.nm_schema.specs.Faultless.{AreFaultless}
use Rattle.nm_schema.proofs.Elements.{here, later, nothing, first_or_later, in_list}
use Rattle.nm_schema.proofs.Holders.{stands_in}
use Rattle.nm_schema.proofs.Keys.{first_among}
use Rattle.nm_schema.proofs.Restricted.{IsTaken}

-- ---- the first statement that is refused

module _ (numbering : Numbering) (base : Option (List Member)) where
  -- a statement is refused after some members
  pub record IsRefused (statements : List Listed) (k : ℕ) (f : ListFlaw) : Type 0 where
    pub statement : Listed
    pub there : slice_get statements k ≡ Some statement
    pub before : List Member
    pub is : number_for numbering base before statement ≡ Err f

  record IsRefusedAt (statements : List Listed) (n : ℕ) (fault : ListFault) : Type 0 where
    k : ℕ
    f : ListFlaw
    fault_is : fault ≡ Flawed (n + k) f
    refused : IsRefused statements k f

  stays : (fault : ListFault) (statements : List Listed) → fold (with_statement numbering base) (Err fault) statements ≡ Err fault
  stays fault [] = refl
  stays fault (s ∷ ss) = stays fault ss

  same_fault : (a b : ListFault) → ◌≡◌ {A = Result (List Member) ListFault} (Err a) (Err b) → a ≡ b
  same_fault a b e = cc

  refused_in : (statements : List Listed) (before : List Member) (fault : ListFault) → fold (with_statement numbering base) (Ok before) statements ≡ Err fault → IsRefusedAt statements (length before) fault
  refused_in [] before fault e = absurd (cc)
  refused_in (s ∷ ss) before fault e = by (number_for numbering base before s) refl (refused_in ss) e
    where
      by : (r : Result ℤ ListFlaw) → number_for numbering base before s ≡ r → ((after : List Member) (fault : ListFault) → fold (with_statement numbering base) (Ok after) ss ≡ Err fault → IsRefusedAt ss (length after) fault) → fold (with_statement numbering base) (one_more before s.name r) ss ≡ Err fault → IsRefusedAt (s ∷ ss) (length before) fault
      by (Err f) is rest g =
          let at : length before ≡ length before + 0 = omega arith in
          record {
            k = 0;
            f = f;
            fault_is = sym (same_fault (Flawed (length before) f) fault (sym (stays (Flawed (length before) f) ss) ∙ g)) ∙ ap (λ (n : ℕ). Flawed n f) at;
            refused = record { statement = s; there = refl; before = before; is = is };
          }
      by (Ok n) is rest g =
          let m : Member = record { name = s.name; number = n } in
          let r = rest (before ++ m ∷ []) fault g in
          let size = length-append before (m ∷ []) in
          let at : length (before ++ m ∷ []) + r.k ≡ length before + suc r.k = omega (arith, size) in
          record {
            k = suc r.k;
            f = r.f;
            fault_is = r.fault_is ∙ ap (λ (n : ℕ). Flawed n r.f) at;
            refused = record { statement = r.refused.statement; there = r.refused.there; before = r.refused.before; is = r.refused.is };
          }

  -- a flaw of a number that is given
  abbrev pub is_of_number : ListFlaw → Bool
  is_of_number NumberRepeated = true
  is_of_number BadNumber = true
  is_of_number OtherThanBase = true
  is_of_number _ = false

  unlike : (n : ℤ) (f : ListFlaw) → Ok n ≡ Err f → ⊥
  unlike n f e = absurd (cc)

  of_other : (e f : ListFlaw) → ◌≡◌ {A = Result ℤ ListFlaw} (Err e) (Err f) → is_of_number e ≡ false → is_of_number f ≡ true → ⊥
  of_other e f same not_e is_f = let at : e ≡ f = cc in let both : false ≡ true = sym not_e ∙ ap is_of_number at ∙ is_f in absurd (cc)

  left_told : (o : Option ℤ) (f : ListFlaw) → left o ≡ Err f → is_of_number f ≡ true → ⊥
  left_told None f e t = of_other NoNumberLeft f e refl t
  left_told (Some n) f e t = unlike n f e

  new_told : (b : Option (List Member)) (before : List Member) (name : List ℕ) (number : Option (List ℕ)) (f : ListFlaw) → new_number numbering b before (record { name = name; number = number }) ≡ Err f → is_of_number f ≡ true → is_some number ≡ true
  new_told b before name (Some text) f e t = refl
  new_told None before name None f e t = absurd (left_told (within numbering (next_after (highest_in before))) f e t)
  new_told (Some members) before name None f e t = by (number_in name members) e
    where
      by : (o : Option ℤ) → based_number numbering o None ≡ Err f → false ≡ true
      by None g = absurd (of_other NotInBase f g refl t)
      by (Some n) g = absurd (unlike n f g)

  -- a statement that is refused for its number has one
  pub number_told : (before : List Member) (s : Listed) (f : ListFlaw) → number_for numbering base before s ≡ Err f → is_of_number f ≡ true → is_some s.number ≡ true
  unfolding number_for
  number_told before s f e t = by (is_some (number_in s.name before)) e
    where
      by : (b : Bool) → cond b (Err NameRepeated) (new_number numbering base before s) ≡ Err f → is_some s.number ≡ true
      by true g = absurd (of_other NameRepeated f g refl t)
      by false g = new_told base before s.name s.number f g t

-- ---- what statements make of a type

-- they are taken, have no place there, or one of them is refused
pub data IsOutcome (numbering : Numbering) (d : Derivation) (statements : List Listed) : Type 0 where
  taken : IsTaken (with_listed numbering d statements) → IsOutcome numbering d statements
  misplaced : with_listed numbering d statements ≡ Err Misplaced → (statements ≡ [] → ⊥) → IsOutcome numbering d statements
  refused : (base : Option (List Member)) (k : ℕ) (f : ListFlaw) → with_listed numbering d statements ≡ Err (AtListed k f) → IsRefused numbering base statements k f → IsOutcome numbering d statements

no_more : (s : Listed) (ss : List Listed) → s ∷ ss ≡ [] → ⊥
no_more s ss e = absurd (cc)

module _ (limits : Option (List (ℤ × ℤ))) (s : Listed) (ss : List Listed) where
  named_by : (b : Built) (base : Option (List Member)) (r : Result (List Member) ListFault) → members_of Values base (s ∷ ss) ≡ r → names_on (record { built = b; limits = limits }) (s ∷ ss) b ≡ named limits (members_of Values base (s ∷ ss))
      → IsOutcome Values (record { built = b; limits = limits }) (s ∷ ss)
  unfolding members_of
  named_by b base (Ok members) is e = taken (record { built = names members; limits = limits }, e ∙ ap (named limits) is)
  named_by b base (Err fault) is e =
      let r = refused_in Values base (s ∷ ss) [] fault is in
      let at : fault ≡ Flawed r.k r.f = r.fault_is ∙ ap (λ (n : ℕ). Flawed n r.f) (omega arith) in
      refused base r.k r.f (e ∙ ap (named limits) is ∙ ap (λ (x : ListFault). named limits (Err x)) at) r.refused

  flagged_by : (b : Built) (base : Option (List Member)) (r : Result (List Member) ListFault) → members_of Positions base (s ∷ ss) ≡ r → bits_on (record { built = b; limits = limits }) (s ∷ ss) b ≡ flagged limits (members_of Positions base (s ∷ ss))
      → IsOutcome Positions (record { built = b; limits = limits }) (s ∷ ss)
  unfolding members_of
  flagged_by b base (Ok members) is e = taken (record { built = bits members; limits = limits }, e ∙ ap (flagged limits) is)
  flagged_by b base (Err fault) is e =
      let r = refused_in Positions base (s ∷ ss) [] fault is in
      let at : fault ≡ Flawed r.k r.f = r.fault_is ∙ ap (λ (n : ℕ). Flawed n r.f) (omega arith) in
      refused base r.k r.f (e ∙ ap (flagged limits) is ∙ ap (λ (x : ListFault). flagged limits (Err x)) at) r.refused

  names_outcome : (b : Built) → IsOutcome Values (record { built = b; limits = limits }) (s ∷ ss)
  names_outcome bare_names = named_by bare_names None (members_of Values None (s ∷ ss)) refl refl
  names_outcome (names members) = named_by (names members) (Some members) (members_of Values (Some members) (s ∷ ss)) refl refl
  names_outcome _ = misplaced refl (no_more s ss)

  bits_outcome : (b : Built) → IsOutcome Positions (record { built = b; limits = limits }) (s ∷ ss)
  bits_outcome bare_bits = flagged_by bare_bits None (members_of Positions None (s ∷ ss)) refl refl
  bits_outcome (bits members) = flagged_by (bits members) (Some members) (members_of Positions (Some members) (s ∷ ss)) refl refl
  bits_outcome _ = misplaced refl (no_more s ss)

outcome : (numbering : Numbering) (d : Derivation) (statements : List Listed) → IsOutcome numbering d statements
outcome numbering d [] = taken (d, refl)
outcome Values d (s ∷ ss) = names_outcome d.limits s ss d.built
outcome Positions d (s ∷ ss) = bits_outcome d.limits s ss d.built

-- ---- rows that have a word and stand in a row

pub record StandsIn (rows : List Row) (i k : ℕ) (w : Word) : Type 0 where
  pub row : Row
  pub there : slice_get rows k ≡ Some row
  pub word_is : row.word ≡ w
  pub parent : row.parent ≡ Some i

module _ (rows : List Row) where
  some_row : (k : ℕ) (w : Word) (o : Option Row) → slice_get rows k ≡ o → has_word w o ≡ true → (r : Row) × (slice_get rows k ≡ Some r) × (r.word ≡ w)
  some_row k w None is e = absurd (cc)
  some_row k w (Some r) is e = (r, is, same_words r.word w e)

  pub stands : (i k : ℕ) (w : Word) → Contains (children rows i) k → has_word w (slice_get rows k) ≡ true → StandsIn rows i k w
  stands i k w c has =
      let r = some_row k w (slice_get rows k) refl has in
      record { row = r.0; there = r.1; word_is = r.2; parent = sym (ap around_in r.1) ∙ stands_in rows i k c }

  first_has : (w : Word) (ks : List ℕ) (i : ℕ) → first_with rows w ks ≡ Some i → has_word w (slice_get rows i) ≡ true
  first_has w [] i e = absurd (cc)
  first_has w (k ∷ ks) i e = by (has_word w (slice_get rows k)) refl (first_has w ks i) e
    where
      by : (b : Bool) → has_word w (slice_get rows k) ≡ b → (first_with rows w ks ≡ Some i → has_word w (slice_get rows i) ≡ true) → cond b (Some k) (first_with rows w ks) ≡ Some i → has_word w (slice_get rows i) ≡ true
      by true has rest f = subst (λ (j : ℕ). has_word w (slice_get rows j) ≡ true) (same_Some k i f) has
      by false has rest f = rest f

  -- the first row with a word in a row stands there
  pub first_stands : (i k : ℕ) (w : Word) → first_below rows i w ≡ Some k → StandsIn rows i k w
  first_stands i k w e = stands i k w (first_among rows w (children rows i) k e) (first_has w (children rows i) k e)

  those_are : (w : Word) (ks : List ℕ) (k : ℕ) → Contains (those_with rows w ks) k → Contains ks k × (has_word w (slice_get rows k) ≡ true)
  those_are w [] k c = absurd (nothing k c)
  those_are w (j ∷ ks) k c = by (has_word w (slice_get rows j)) refl (those_are w ks k) c
    where
      by : (b : Bool) → has_word w (slice_get rows j) ≡ b → (Contains (those_with rows w ks) k → Contains ks k × (has_word w (slice_get rows k) ≡ true)) → Contains (cond b (j ∷ those_with rows w ks) (those_with rows w ks)) k → Contains (j ∷ ks) k × (has_word w (slice_get rows k) ≡ true)
      by true has rest d = elim (first_or_later j k (those_with rows w ks) d) [
        | inl same ↦ (here j k ks same, subst (λ (x : ℕ). has_word w (slice_get rows x) ≡ true) same has)
        | inr more ↦ let r = rest more in (later j k ks r.0, r.1)
      ]
      by false has rest d = let r = rest d in (later j k ks r.0, r.1)

  -- the first row with a word is one of those
  pub those_have : (w : Word) (ks : List ℕ) (k : ℕ) → first_with rows w ks ≡ Some k → Contains (those_with rows w ks) k
  those_have w [] k e = absurd (cc)
  those_have w (j ∷ ks) k e = by (has_word w (slice_get rows j)) (those_have w ks k) e
    where
      by : (b : Bool) → (first_with rows w ks ≡ Some k → Contains (those_with rows w ks) k) → cond b (Some j) (first_with rows w ks) ≡ Some k → Contains (cond b (j ∷ those_with rows w ks) (those_with rows w ks)) k
      by true rest f = here j k (those_with rows w ks) (same_Some j k f)
      by false rest f = rest f

  pub with_stands : (i k : ℕ) (w : Word) → Contains (rows_with rows i w) k → StandsIn rows i k w
  unfolding rows_with
  with_stands i k w c = let r = those_are w (children rows i) k c in stands i k w r.0 r.1

  -- an argument that is there is that of a row
  pub argument_stands : (i : ℕ) (w : Word) → is_some (argument_below rows i w) ≡ true → (k : ℕ) × (first_below rows i w ≡ Some k)
  argument_stands i w e = by (first_below rows i w) refl e
    where
      by : (o : Option ℕ) → first_below rows i w ≡ o → is_some (argument_at rows o) ≡ true → (k : ℕ) × (first_below rows i w ≡ Some k)
      by None is f = absurd (cc)
      by (Some k) is f = (k, is)

-- ---- in a type without a fault

map_at : {X Y : Type 0} (g : X → Y) (xs : List X) (k : ℕ) (y : Y) → slice_get (map g xs) k ≡ Some y → (x : X) × (slice_get xs k ≡ Some x) × (g x ≡ y)
map_at g [] k y e = absurd (cc)
map_at g (x ∷ xs) zero y e = (x, refl, same_Some (g x) y e)
map_at g (x ∷ xs) (suc k) y e = map_at g xs k y e

is_itself : (n : ℕ) → (n == n) ≡ true
is_itself n = grind arith

lister_flawed : (k : ℕ) (s : Row) (b : Bool) (f : ListFlaw) → lister_flaw k s b (judged.Flawed k f) ≡ own_flaw s b f
lister_flawed k s b f = ap (λ (t : Bool). cond t (own_flaw s b f) None) (is_itself k)

numberer_flawed : (k : ℕ) (t : Row) (f : ListFlaw) → numberer_flaw k t (judged.Flawed k f) ≡ number_flaw t f
numberer_flawed k t f = ap (λ (b : Bool). cond b (number_flaw t f) None) (is_itself k)

own_none : (numbering : Numbering) (base : Option (List Member)) (s : Row) (b : Bool) (f : ListFlaw) → own_flaw s b f ≡ None → is_of_number numbering base f ≡ true
own_none numbering base s b NumberRepeated e = refl
own_none numbering base s b BadNumber e = refl
own_none numbering base s b OtherThanBase e = refl
own_none numbering base s b NameRepeated e = absurd (cc)
own_none numbering base s b NoNumberLeft e = absurd (cc)
own_none numbering base s b NotInBase e = absurd (cc)

number_flawed : (numbering : Numbering) (base : Option (List Member)) (t : Row) (f : ListFlaw) → number_flaw t f ≡ None → is_of_number numbering base f ≡ true → ⊥
number_flawed numbering base t NumberRepeated e is = absurd (cc)
number_flawed numbering base t BadNumber e is = absurd (cc)
number_flawed numbering base t OtherThanBase e is = absurd (cc)
number_flawed numbering base t NameRepeated e is = absurd (cc)
number_flawed numbering base t NoNumberLeft e is = absurd (cc)
number_flawed numbering base t NotInBase e is = absurd (cc)

module _ (rows : List Row) (facts : Facts) (all : AreFaultless rows facts) (i : ℕ) (d : Derivation) (above : base_above rows (definitions rows) (Some i) ≡ Some d) where
  abbrev defs : List (Option ℕ)
  defs = definitions rows

  abbrev statements : Numbering → List Listed
  statements numbering = map (listed_at rows (numberer numbering)) (rows_with rows i (lister numbering))

  judged_is : (numbering : Numbering) → judged_at rows defs numbering i ≡ judged_of (rows_with rows i (lister numbering)) (with_listed numbering d (statements numbering))
  unfolding judged_at judged_on
  judged_is numbering = ap (judged_if rows i numbering) above

  typed_none : (k : ℕ) (s : Row) (w : Word) → slice_get rows k ≡ Some s → s.word ≡ w → flaw_by rows defs k s w ≡ None
  unfolding type_flaw
  typed_none k s w is at = sym (ap (λ (x : Word). flaw_by rows defs k s x) at) ∙ sym (ap (flaw_in rows defs k) is) ∙ (all.each k s is).typed

  by_word : (k : ℕ) (s : Row) (w : Word) → slice_get rows k ≡ Some s → s.word ≡ w → listed_flaw rows defs k ≡ None → listed_by rows defs k s w ≡ None
  unfolding listed_flaw
  by_word k s w is at e = sym (ap (λ (x : Word). listed_by rows defs k s x) at) ∙ sym (ap (listed_in rows defs k) is) ∙ e

  lister_by : (numbering : Numbering) (k : ℕ) (s : Row) → slice_get rows k ≡ Some s → s.word ≡ lister numbering → flaw_of_lister rows defs k s numbering ≡ None
  lister_by Values k s is w = by_word k s word.Enum is w (typed_none k s word.Enum is w)
  lister_by Positions k s is w = by_word k s word.Bit is w (typed_none k s word.Bit is w)

  numberer_by : (numbering : Numbering) (k : ℕ) (s : Row) → slice_get rows k ≡ Some s → s.word ≡ numberer numbering → flaw_of_numberer rows defs k s numbering s.parent ≡ None
  numberer_by Values k s is w = by_word k s word.Value is w (typed_none k s word.Value is w)
  numberer_by Positions k s is w = by_word k s word.Position is w (typed_none k s word.Position is w)

  above_is : (numbering : Numbering) → judged_above rows defs numbering (Some i) ≡ judged_at rows defs numbering i
  unfolding judgement_at
  above_is Values = refl
  above_is Positions = refl

  lister_none : (numbering : Numbering) (k : ℕ) (s : StandsIn rows i k (lister numbering)) (j : Judged) → judged_at rows defs numbering i ≡ j → lister_flaw k s.row (is_some (first_below rows k (numberer numbering))) j ≡ None
  lister_none numbering k s j is =
      let b = is_some (first_below rows k (numberer numbering)) in
      sym (ap (lister_flaw k s.row b) (ap (judged_above rows defs numbering) s.parent ∙ above_is numbering ∙ is)) ∙ lister_by numbering k s.row s.there s.word_is

  numberer_none : (numbering : Numbering) (k q : ℕ) (s : StandsIn rows i k (lister numbering)) (t : StandsIn rows k q (numberer numbering)) (j : Judged) → first_below rows k (numberer numbering) ≡ Some q → judged_at rows defs numbering i ≡ j → numberer_flaw k t.row j ≡ None
  numberer_none numbering k q s t j first is =
      let e : flaw_of_numberer rows defs q t.row numbering (Some k) ≡ None = sym (ap (flaw_of_numberer rows defs q t.row numbering) t.parent) ∙ numberer_by numbering q t.row t.there t.word_is in
      let at : is_at (first_below rows k (numberer numbering)) q ≡ true = ap (λ (o : Option ℕ). is_at o q) first ∙ is_itself q in
      let up : judged_above rows defs numbering (parent_in (slice_get rows k)) ≡ j = ap (λ (o : Option Row). judged_above rows defs numbering (parent_in o)) s.there ∙ ap (judged_above rows defs numbering) s.parent ∙ above_is numbering ∙ is in
      sym (ap (λ (b : Bool). cond b (numberer_flaw k t.row (judged_above rows defs numbering (parent_in (slice_get rows k)))) None) at ∙ ap (numberer_flaw k t.row) up) ∙ e

  misplaced_told : (numbering : Numbering) (ks : List ℕ) → rows_with rows i (lister numbering) ≡ ks → with_listed numbering d (statements numbering) ≡ Err Misplaced → (statements numbering ≡ [] → ⊥) → ⊥
  misplaced_told numbering [] is e some = some (ap (map (listed_at rows (numberer numbering))) is)
  misplaced_told numbering (k ∷ ks) is e some =
      let s = with_stands rows i k (lister numbering) (subst (λ (l : List ℕ). Contains l k) (sym is) (here k k ks refl)) in
      let j : judged_at rows defs numbering i ≡ judged.Misplaced = judged_is numbering ∙ ap (judged_of (rows_with rows i (lister numbering))) e in
      let no = lister_none numbering k s judged.Misplaced j in
      absurd (cc)

  refused_told : (numbering : Numbering) (base : Option (List Member)) (n : ℕ) (f : ListFlaw) → with_listed numbering d (statements numbering) ≡ Err (AtListed n f) → IsRefused numbering base (statements numbering) n f → ⊥
  unfolding listed_at
  refused_told numbering base n f e refusal =
      let m = map_at (listed_at rows (numberer numbering)) (rows_with rows i (lister numbering)) n refusal.statement refusal.there in
      let k : ℕ = m.0 in
      let s = with_stands rows i k (lister numbering) (in_list (rows_with rows i (lister numbering)) n k m.1) in
      let j : judged_at rows defs numbering i ≡ judged.Flawed k f =
      judged_is numbering ∙ ap (judged_of (rows_with rows i (lister numbering))) e ∙ ap (λ (o : Option ℕ). flawed_at o f) m.1 in
      let own = sym (lister_flawed k s.row (is_some (first_below rows k (numberer numbering))) f) ∙ lister_none numbering k s (judged.Flawed k f) j in
      let of = own_none numbering base s.row (is_some (first_below rows k (numberer numbering))) f own in
      let given = number_told numbering base refusal.before refusal.statement f refusal.is of in
      let at : is_some (argument_below rows k (numberer numbering)) ≡ true = ap (λ (l : Listed). is_some l.number) m.2 ∙ given in
      let q = argument_stands rows k (numberer numbering) at in
      let t = first_stands rows k q.0 (numberer numbering) q.1 in
      let none = sym (numberer_flawed k t.row f) ∙ numberer_none numbering k q.0 s t (judged.Flawed k f) q.1 j in
      number_flawed numbering base t.row f none of

  -- the statements are taken
  pub listed_taken : (numbering : Numbering) → IsTaken (with_listed numbering d (statements numbering))
  listed_taken numbering = by (outcome numbering d (statements numbering))
    where
      by : IsOutcome numbering d (statements numbering) → IsTaken (with_listed numbering d (statements numbering))
      by (taken t) = t
      by (misplaced e some) = absurd (misplaced_told numbering (rows_with rows i (lister numbering)) refl e some)
      by (refused base k f e r) = absurd (refused_told numbering base k f e r)
