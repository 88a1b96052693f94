-- A type that takes each of its restrictions takes them all (RFC 7950 sections 7.4 and 9).
use Rattle.std.proofs.Common.{◌≡◌, ◌∙◌, ℕ, ℤ, List, [], ◌∷◌, Bool, true, false, Option, Some, None, Result, Ok, Err, refl, sym, ap, subst}
use Rattle.std.specs.Prelude.{is_some, pos}
use Rattle.nm_schema_derive.specs.declared.members.Listed.{Listed}
use Rattle.nm_schema_derive.specs.declared.derived.StepFault.{StepFault}
use Rattle.nm_schema_derive.specs.declared.derived.StepFault.TheVariants.{Misplaced, BadArgument}
use Rattle.nm_schema_derive.specs.declared.derived.Lacking.TheVariants.{FractionDigits, Enum, Bit}
use Rattle.nm_schema_derive.specs.Built.{Built, Derivation, integer, bare_decimal, decimal, boolean, string, bare_names, names, bare_bits, bits, empty, reference}
use Rattle.nm_types.specs.Limits.{i64_part}
use Rattle.nm_schema_derive.specs.declared.form.NumberForm.TheVariants.{Integer, Decimal, Length}
use Rattle.nm_schema_derive.specs.declared.members.Member.{Member}
use Rattle.nm_schema_derive.specs.declared.members.Numbering.TheVariants.{Values, Positions}
use Rattle.nm_schema_derive.specs.declared.members.ListFault.{ListFault}
use Rattle.nm_schema_derive.specs.Members.{members_of}
use Rattle.nm_schema_derive.specs.Step.{narrowed, digits_read, step_fault, lacking, limited, digits_put, with_digits, with_range, with_length, named, flagged}
use Rattle.nm_schema_derive.specs.Restricted.{digits_if, range_if, length_if, names_if, bits_if}
use Rattle.nm_schema_typing.specs.Flaws.{flaw_on, kept}
use Rattle.nm_schema_typing.specs.Restricting.{TypeRestrictions}
use Rattle.nm_schema_typing.specs.Meaning.{then_bits, then_names, then_length, then_range, restricted}

-- a restriction that is there has no flaw
abbrev pub IsFine : List ℕ → (List ℕ → Result Derivation StepFault) → Option (List ℕ) → Type 0
IsFine keyword f None = Unit {0}
IsFine keyword f (Some text) = flaw_on keyword (f text) ≡ None

-- a step that can be taken
abbrev pub IsTaken : Result Derivation StepFault → Type 0
IsTaken r = (made : Derivation) × (r ≡ Ok made)

-- what restrictions make of a type lacks nothing
pub record IsMade (r : TypeRestrictions) (d : Derivation) : Type 0 where
  pub made : Derivation
  pub is : restricted r d ≡ Ok made
  pub whole : lacking made.built ≡ None

module _ (r : TypeRestrictions) (d : Derivation) where
  -- one restriction after the other
  chain : (a b c e f : Derivation) → digits_if d r.digits ≡ Ok a → range_if a r.range ≡ Ok b → length_if b r.length ≡ Ok c → names_if c r.names ≡ Ok e → bits_if e r.bits ≡ Ok f → lacking f.built ≡ None → IsMade r d
  unfolding restricted
  chain a b c e f one two three four five whole = record {
    made = f;
    is = ap (then_range r) one ∙ ap (then_length r) two ∙ ap (then_names r) three ∙ ap (then_bits r) four ∙ five;
    whole = whole;
  }

  digits_out : (o : Option (List ℕ)) → o ≡ None → digits_if d o ≡ Ok d
  digits_out o e = ap (digits_if d) e

  range_out : (a : Derivation) (o : Option (List ℕ)) → o ≡ None → range_if a o ≡ Ok a
  range_out a o e = ap (range_if a) e

  length_out : (a : Derivation) (o : Option (List ℕ)) → o ≡ None → length_if a o ≡ Ok a
  length_out a o e = ap (length_if a) e

  names_out : (a : Derivation) (l : List Listed) → l ≡ [] → names_if a l ≡ Ok a
  names_out a l e = ap (names_if a) e

  bits_out : (a : Derivation) (l : List Listed) → l ≡ [] → bits_if a l ≡ Ok a
  bits_out a l e = ap (bits_if a) e

-- ---- which types take which restrictions

abbrev pub takes_digits : Built → Bool
takes_digits bare_decimal = true
takes_digits _ = false

abbrev pub takes_range : Built → Bool
takes_range (integer low high) = true
takes_range (decimal digits) = true
takes_range bare_decimal = true
takes_range _ = false

abbrev pub takes_length : Built → Bool
takes_length string = true
takes_length _ = false

abbrev pub takes_names : Built → Bool
takes_names bare_names = true
takes_names (names members) = true
takes_names _ = false

abbrev pub takes_bits : Built → Bool
takes_bits bare_bits = true
takes_bits (bits members) = true
takes_bits _ = false

misplaced : (keyword : List ℕ) → flaw_on keyword (Err Misplaced) ≡ None → ⊥
misplaced keyword e = absurd (cc)

refused : (keyword : List ℕ) → flaw_on keyword (Err BadArgument) ≡ None → ⊥
refused keyword e = absurd (cc)

not_taken : (made : Derivation) (fault : StepFault) → Err fault ≡ Ok made → ⊥
not_taken made fault e = absurd (cc)

abbrev pub of : Option (List (ℤ × ℤ)) → Built → Derivation
of limits b = record { built = b; limits = limits }

module _ (limits : Option (List (ℤ × ℤ))) (keyword : List ℕ) where
  pub no_digits : (b : Built) (o : Option (List ℕ)) → takes_digits b ≡ false → IsFine keyword (with_digits (of limits b)) o → o ≡ None
  no_digits b None t h = refl
  no_digits bare_decimal (Some text) t h = absurd (cc)
  no_digits _ (Some text) t h = absurd (misplaced keyword h)

  pub no_range : (b : Built) (o : Option (List ℕ)) → takes_range b ≡ false → IsFine keyword (with_range (of limits b)) o → o ≡ None
  no_range b None t h = refl
  no_range (integer low high) (Some text) t h = absurd (cc)
  no_range (decimal digits) (Some text) t h = absurd (cc)
  no_range bare_decimal (Some text) t h = absurd (cc)
  no_range _ (Some text) t h = absurd (misplaced keyword h)

  pub no_length : (b : Built) (o : Option (List ℕ)) → takes_length b ≡ false → IsFine keyword (with_length (of limits b)) o → o ≡ None
  no_length b None t h = refl
  no_length string (Some text) t h = absurd (cc)
  no_length _ (Some text) t h = absurd (misplaced keyword h)

  pub no_names : (b : Built) (l : List Listed) → takes_names b ≡ false → IsTaken (names_if (of limits b) l) → l ≡ []
  no_names b [] t h = refl
  no_names bare_names (s ∷ ss) t h = absurd (cc)
  no_names (names members) (s ∷ ss) t h = absurd (cc)
  no_names _ (s ∷ ss) t h = absurd (not_taken h.0 Misplaced h.1)

  pub no_bits : (b : Built) (l : List Listed) → takes_bits b ≡ false → IsTaken (bits_if (of limits b) l) → l ≡ []
  no_bits b [] t h = refl
  no_bits bare_bits (s ∷ ss) t h = absurd (cc)
  no_bits (bits members) (s ∷ ss) t h = absurd (cc)
  no_bits _ (s ∷ ss) t h = absurd (not_taken h.0 Misplaced h.1)

-- a step that is taken keeps what a type is built as
abbrev Keeps : Built → Result Derivation StepFault → Type 0
Keeps b r = (made : Derivation) × (r ≡ Ok made) × (made.built ≡ b)

limited_taken : (keyword : List ℕ) (d : Derivation) (o : Option (List (ℤ × ℤ))) → flaw_on keyword (limited d o) ≡ None → Keeps d.built (limited d o)
limited_taken keyword d None e = absurd (refused keyword e)
limited_taken keyword d (Some parts) e = (record { built = d.built; limits = Some parts }, refl, refl)

made_names : (limits : Option (List (ℤ × ℤ))) (r : Result (List Member) ListFault) (e : Derivation) → named limits r ≡ Ok e → lacking e.built ≡ None
made_names limits (Err fault) e is = absurd (not_taken e (step_fault fault) is)
made_names limits (Ok members) e is = let same : record { built = names members; limits = limits } ≡ e = cc in ap (λ (d : Derivation). lacking d.built) (sym same)

made_bits : (limits : Option (List (ℤ × ℤ))) (r : Result (List Member) ListFault) (e : Derivation) → flagged limits r ≡ Ok e → lacking e.built ≡ None
made_bits limits (Err fault) e is = absurd (not_taken e (step_fault fault) is)
made_bits limits (Ok members) e is = let same : record { built = bits members; limits = limits } ≡ e = cc in ap (λ (d : Derivation). lacking d.built) (sym same)

same_made : (d e : Derivation) → ◌≡◌ {A = Result Derivation StepFault} (Ok d) (Ok e) → d ≡ e
same_made d e is = cc

-- what stands in a type: each restriction that is there has no flaw, and what must be there is there
pub record AreFine (r : TypeRestrictions) (d : Derivation) : Type 0 where
  pub at_digits : List ℕ
  pub at_range : List ℕ
  pub at_length : List ℕ
  pub digits : IsFine at_digits (with_digits d) r.digits
  pub range : IsFine at_range (with_range (kept d (digits_if d r.digits))) r.range
  pub length : IsFine at_length (with_length d) r.length
  pub names : IsTaken (names_if d r.names)
  pub bits : IsTaken (bits_if d r.bits)
  pub needs_digits : lacking d.built ≡ Some FractionDigits → is_some r.digits ≡ true
  pub needs_names : lacking d.built ≡ Some Enum → r.names ≡ [] → ⊥
  pub needs_bits : lacking d.built ≡ Some Bit → r.bits ≡ [] → ⊥

module _ (r : TypeRestrictions) (limits : Option (List (ℤ × ℤ))) (b : Built) (are : AreFine r (of limits b)) where
  abbrev d : Derivation
  d = of limits b

  after_none : r.digits ≡ None → IsFine are.at_range (with_range d) r.range
  after_none e = subst (λ (o : Option (List ℕ)). IsFine are.at_range (with_range (kept d (digits_if d o))) r.range) e are.range

  ranges : (a : Derivation) → ((text : List ℕ) → flaw_on are.at_range (with_range a text) ≡ None → Keeps a.built (with_range a text)) → (o : Option (List ℕ)) → IsFine are.at_range (with_range a) o → Keeps a.built (range_if a o)
  ranges a keeps None h = (a, refl, refl)
  ranges a keeps (Some text) h = keeps text h

  -- a type that takes ranges alone
  ranged : (a : Derivation) → digits_if d r.digits ≡ Ok a → IsFine are.at_range (with_range a) r.range → takes_length b ≡ false → takes_names b ≡ false → takes_bits b ≡ false → lacking a.built ≡ None
      → ((text : List ℕ) → flaw_on are.at_range (with_range a text) ≡ None → Keeps a.built (with_range a text)) → IsMade r d
  ranged a first fine no_l no_n no_b whole keeps =
      let k = ranges a keeps r.range fine in
      chain r d a k.0 k.0 k.0 k.0 first k.1
      (length_out r d k.0 r.length (no_length limits are.at_length b r.length no_l are.length))
      (names_out r d k.0 r.names (no_names limits are.at_length b r.names no_n are.names))
      (bits_out r d k.0 r.bits (no_bits limits are.at_length b r.bits no_b are.bits))
      (ap lacking k.2 ∙ whole)

  abbrev no_first : takes_digits b ≡ false → r.digits ≡ None
  no_first no_d = no_digits limits are.at_digits b r.digits no_d are.digits

  -- one that takes neither fraction digits nor ranges
  others : (c e f : Derivation) → takes_digits b ≡ false → takes_range b ≡ false → length_if d r.length ≡ Ok c → names_if c r.names ≡ Ok e → bits_if e r.bits ≡ Ok f → lacking f.built ≡ None → IsMade r d
  others c e f no_d no_r three four five whole =
      let first = no_first no_d in
      chain r d d d c e f (digits_out r d r.digits first) (range_out r d d r.range (no_range limits are.at_range b r.range no_r (after_none first))) three four five whole

  lengths : (o : Option (List ℕ)) → b ≡ string → IsFine are.at_length (with_length d) o → Keeps b (length_if d o)
  lengths None is h = (d, refl, refl)
  lengths (Some text) is h = by b is h
    where
      by : (x : Built) → x ≡ string → flaw_on are.at_length (with_length (of limits x) text) ≡ None → Keeps x (with_length (of limits x) text)
      by string is h = limited_taken are.at_length (of limits string) (narrowed Length (pos 0, pos 18446744073709551615) limits text) h
      by _ is h = absurd (cc)

  -- a string
  lengthy : b ≡ string → takes_digits b ≡ false → takes_range b ≡ false → takes_names b ≡ false → takes_bits b ≡ false → lacking b ≡ None → IsMade r d
  lengthy is no_d no_r no_n no_b whole =
      let k = lengths r.length is are.length in
      others k.0 k.0 k.0 no_d no_r k.1
      (names_out r d k.0 r.names (no_names limits are.at_length b r.names no_n are.names))
      (bits_out r d k.0 r.bits (no_bits limits are.at_length b r.bits no_b are.bits))
      (ap lacking k.2 ∙ whole)

  -- an enumeration
  namely : takes_digits b ≡ false → takes_range b ≡ false → takes_length b ≡ false → takes_bits b ≡ false → ((l : List Listed) (e : Derivation) → (lacking b ≡ Some Enum → l ≡ [] → ⊥) → names_if d l ≡ Ok e → lacking e.built ≡ None) → IsMade r d
  namely no_d no_r no_l no_b made =
      let e = are.names in
      others d e.0 e.0 no_d no_r
      (length_out r d d r.length (no_length limits are.at_length b r.length no_l are.length)) e.1
      (bits_out r d e.0 r.bits (no_bits limits are.at_length b r.bits no_b are.bits))
      (made r.names e.0 are.needs_names e.1)

  -- bits
  bitwise : takes_digits b ≡ false → takes_range b ≡ false → takes_length b ≡ false → takes_names b ≡ false → ((l : List Listed) (e : Derivation) → (lacking b ≡ Some Bit → l ≡ [] → ⊥) → bits_if d l ≡ Ok e → lacking e.built ≡ None) → IsMade r d
  bitwise no_d no_r no_l no_n made =
      let e = are.bits in
      others d d e.0 no_d no_r
      (length_out r d d r.length (no_length limits are.at_length b r.length no_l are.length))
      (names_out r d d r.names (no_names limits are.at_length b r.names no_n are.names)) e.1
      (made r.bits e.0 are.needs_bits e.1)

  -- one that takes no restriction
  quiet : takes_digits b ≡ false → takes_range b ≡ false → takes_length b ≡ false → takes_names b ≡ false → takes_bits b ≡ false → lacking b ≡ None → IsMade r d
  quiet no_d no_r no_l no_n no_b whole =
      others d d d no_d no_r
      (length_out r d d r.length (no_length limits are.at_length b r.length no_l are.length))
      (names_out r d d r.names (no_names limits are.at_length b r.names no_n are.names))
      (bits_out r d d r.bits (no_bits limits are.at_length b r.bits no_b are.bits)) whole

digits_there : (r : TypeRestrictions) (limits : Option (List (ℤ × ℤ))) (keyword : List ℕ) (o : Option (List ℕ)) → is_some o ≡ true → IsFine keyword (with_digits (of limits bare_decimal)) o
    → (digits : ℕ) × (digits_if (of limits bare_decimal) o ≡ Ok (of limits (decimal digits)))
digits_there r limits keyword None some h = absurd (cc)
digits_there r limits keyword (Some text) some h = by (digits_read text) h
  where
    by : (o : Option ℕ) → flaw_on keyword (digits_put (of limits bare_decimal) o) ≡ None → (digits : ℕ) × (digits_put (of limits bare_decimal) o ≡ Ok (of limits (decimal digits)))
    by None h = absurd (refused keyword h)
    by (Some digits) h = (digits, refl)

taken_by : (r : TypeRestrictions) (limits : Option (List (ℤ × ℤ))) (b : Built) → AreFine r (of limits b) → IsMade r (of limits b)
taken_by r limits (integer low high) are =
    let first = no_digits limits are.at_digits (integer low high) r.digits refl are.digits in
    ranged r limits (integer low high) are (of limits (integer low high)) (ap (digits_if (of limits (integer low high))) first) (after_none r limits (integer low high) are first) refl refl refl refl
    (λ text h. limited_taken are.at_range (of limits (integer low high)) (narrowed Integer (low, high) limits text) h)
taken_by r limits (decimal digits) are =
    let first = no_digits limits are.at_digits (decimal digits) r.digits refl are.digits in
    ranged r limits (decimal digits) are (of limits (decimal digits)) (ap (digits_if (of limits (decimal digits))) first) (after_none r limits (decimal digits) are first) refl refl refl refl
    (λ text h. limited_taken are.at_range (of limits (decimal digits)) (narrowed (Decimal digits) i64_part limits text) h)
taken_by r limits bare_decimal are =
    let first = digits_there r limits are.at_digits r.digits (are.needs_digits refl) are.digits in
    let a : Derivation = of limits (decimal first.0) in
    let fine : IsFine are.at_range (with_range a) r.range = subst (λ (x : Result Derivation StepFault). IsFine are.at_range (with_range (kept (of limits bare_decimal) x)) r.range) first.1 are.range in
    ranged r limits bare_decimal are a first.1 fine refl refl refl refl
    (λ text h. limited_taken are.at_range a (narrowed (Decimal first.0) i64_part limits text) h)
taken_by r limits boolean are = quiet r limits boolean are refl refl refl refl refl refl
taken_by r limits empty are = quiet r limits empty are refl refl refl refl refl refl
taken_by r limits reference are = quiet r limits reference are refl refl refl refl refl refl
taken_by r limits string are = lengthy r limits string are refl refl refl refl refl refl
taken_by r limits bare_names are = namely r limits bare_names are refl refl refl refl made
  where
    made : (l : List Listed) (e : Derivation) → (Some Enum ≡ Some Enum → l ≡ [] → ⊥) → names_if (of limits bare_names) l ≡ Ok e → lacking e.built ≡ None
    made [] e needs is = absurd (needs refl refl)
    made (s ∷ ss) e needs is = made_names limits (members_of Values None (s ∷ ss)) e is
taken_by r limits (names members) are = namely r limits (names members) are refl refl refl refl made
  where
    made : (l : List Listed) (e : Derivation) → (None ≡ Some Enum → l ≡ [] → ⊥) → names_if (of limits (names members)) l ≡ Ok e → lacking e.built ≡ None
    made [] e needs is = ap (λ (d : Derivation). lacking d.built) (sym (same_made (of limits (names members)) e is))
    made (s ∷ ss) e needs is = made_names limits (members_of Values (Some members) (s ∷ ss)) e is
taken_by r limits bare_bits are = bitwise r limits bare_bits are refl refl refl refl made
  where
    made : (l : List Listed) (e : Derivation) → (Some Bit ≡ Some Bit → l ≡ [] → ⊥) → bits_if (of limits bare_bits) l ≡ Ok e → lacking e.built ≡ None
    made [] e needs is = absurd (needs refl refl)
    made (s ∷ ss) e needs is = made_bits limits (members_of Positions None (s ∷ ss)) e is
taken_by r limits (bits members) are = bitwise r limits (bits members) are refl refl refl refl made
  where
    made : (l : List Listed) (e : Derivation) → (None ≡ Some Bit → l ≡ [] → ⊥) → bits_if (of limits (bits members)) l ≡ Ok e → lacking e.built ≡ None
    made [] e needs is = ap (λ (d : Derivation). lacking d.built) (sym (same_made (of limits (bits members)) e is))
    made (s ∷ ss) e needs is = made_bits limits (members_of Positions (Some members) (s ∷ ss)) e is

-- a type takes its restrictions together where it takes each
pub taken : (r : TypeRestrictions) (d : Derivation) → AreFine r d → IsMade r d
taken r d are = taken_by r d.limits d.built are
