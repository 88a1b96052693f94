-- The names of nodes and modules are identifiers.
use Rattle.std.proofs.Common.{◌≡◌, ◌∙◌, ℕ, List, [], ◌∷◌, Bool, true, false, cond, ◌&&◌, Option, Some, None, slice_get, refl, sym, ap}
use Rattle.std.specs.Option.{option_or}
use Rattle.nm_schema_statements.specs.declared.row.Row.{Row}
use Rattle.nm_schema_statements.specs.declared.word.Word.{Word}
use Rattle.nm_schema_statements.specs.declared.word.Word.TheVariants as word
use Rattle.nm_schema_statements.specs.declared.fault.Fault.{Fault}
use Rattle.nm_schema_statements.specs.declared.fault.Fault.TheVariants as fault
use Rattle.nm_schema_statements.specs.Text.{is_identifier, are_names}
use Rattle.nm_schema_statements.specs.Flaw.{is_data, is_module, is_unsupported, may_stand, word_above, place_fault, times_fault, lack_fault, has_form, form_fault, left_out, text_of, row_fault, flaw_from, flaw_at, grammar_flaw}
use Rattle.nm_schema_uses.specs.Arguments.{argument_at}
use Rattle.nm_path.specs.Form as form
use Rattle.nm_schema_faults.specs.Facts.{Facts}
use Rattle.nm_schema.specs.Faultless.{IsFaultless}
use Rattle.nm_schema.proofs.Faultless.{or_none}

from_none : (r : Row) (o : Option Fault) → flaw_from r o ≡ None → o ≡ None
from_none r None e = refl
from_none r (Some f) e = absurd (cc)

row_none : (rows : List Row) (at : ℕ) (r : Row) → row_fault rows at r ≡ None → (place_fault rows r ≡ None) × (lack_fault rows at r.word ≡ None) × (form_fault r.word r.argument ≡ None) × (left_out (word_above rows r.parent) r.word (text_of r.argument) ≡ None)
unfolding row_fault
row_none rows at r e =
    let last = left_out (word_above rows r.parent) r.word (text_of r.argument) in
    let a = or_none (place_fault rows r) (option_or (times_fault rows at r) (option_or (lack_fault rows at r.word) (option_or (form_fault r.word r.argument) last))) e in
    let b = or_none (times_fault rows at r) (option_or (lack_fault rows at r.word) (option_or (form_fault r.word r.argument) last)) a.1 in
    let c = or_none (lack_fault rows at r.word) (option_or (form_fault r.word r.argument) last) b.1 in
    let d = or_none (form_fault r.word r.argument) last c.1 in
    (a.0, c.0, d.0, d.1)

pub grammar_parts : (rows : List Row) (at : ℕ) (r : Row) → slice_get rows at ≡ Some r → grammar_flaw rows at ≡ None
    → (place_fault rows r ≡ None) × (lack_fault rows at r.word ≡ None) × (form_fault r.word r.argument ≡ None) × (left_out (word_above rows r.parent) r.word (text_of r.argument) ≡ None)
unfolding grammar_flaw
grammar_parts rows at r is e = row_none rows at r (from_none r (row_fault rows at r) (sym (ap (flaw_at rows at) is) ∙ e))

pub grammar_none : (rows : List Row) (at : ℕ) (r : Row) → slice_get rows at ≡ Some r → grammar_flaw rows at ≡ None → (place_fault rows r ≡ None) × (form_fault r.word r.argument ≡ None)
grammar_none rows at r is e = let p = grammar_parts rows at r is e in (p.0, p.2)

formed : (w : Word) (text : List ℕ) (b : Bool) → has_form w text ≡ b → cond b None (Some fault.BadArgument) ≡ None → has_form w text ≡ true
formed w text true is e = is
formed w text false is e = absurd (cc)

-- the argument of a row has the form of its keyword's
pub has_text : (w : Word) (argument : Option (List ℕ)) → form_fault w argument ≡ None → has_form w (text_of argument) ≡ true
has_text w None e = absurd (cc)
has_text w (Some text) e = formed w text (has_form w text) refl e

argument_is : (rows : List Row) (at : ℕ) (r : Row) → slice_get rows at ≡ Some r → argument_at rows at ≡ text_of r.argument
unfolding argument_at
argument_is rows at r is = rw is refl

-- ---- identifiers

names_same : (bytes : List ℕ) → are_names bytes ≡ form.are_names bytes
unfolding form.is_start form.is_name
names_same [] = refl
names_same (b ∷ bytes) = ap (λ (rest : Bool). form.is_name b && rest) (names_same bytes)

identifier_same : (text : List ℕ) → is_identifier text ≡ form.is_identifier text
unfolding form.is_start
identifier_same [] = refl
identifier_same (b ∷ bytes) = ap (λ (rest : Bool). form.is_start b && rest) (names_same bytes)

data_form : (w : Word) (text : List ℕ) → is_data w ≡ true → has_form w text ≡ true → is_identifier text ≡ true
data_form word.Container text d f = f
data_form word.Leaf text d f = f
data_form word.LeafList text d f = f
data_form word.List text d f = f
data_form _ text d f = absurd (cc)

module_form : (w : Word) (text : List ℕ) → is_module w ≡ true → has_form w text ≡ true → is_identifier text ≡ true
module_form word.Module text d f = f
module_form _ text d f = absurd (cc)

placed : (u m : Bool) → cond u (Some fault.Unsupported) (cond m None (Some fault.Unknown)) ≡ None → m ≡ true
placed true m e = absurd (cc)
placed false true e = refl
placed false false e = absurd (cc)

-- what stands outermost is a module
pub outermost : (rows : List Row) (r : Row) → r.parent ≡ None → place_fault rows r ≡ None → is_module r.word ≡ true
unfolding place_fault
outermost rows r top e = sym (ap (λ (p : Option ℕ). may_stand (word_above rows p) r.word) top) ∙ placed (is_unsupported r.word) (may_stand (word_above rows r.parent) r.word) e

module _ (rows : List Row) (facts : Facts) (at : ℕ) (r : Row) (is : slice_get rows at ≡ Some r) (none : IsFaultless rows facts at) where
  -- the name of a node is an identifier (RFC 7950 section 6.2)
  pub node_named : is_data r.word ≡ true → form.is_identifier (argument_at rows at) ≡ true
  node_named d =
      let g = grammar_none rows at r is none.grammar in
      ap form.is_identifier (argument_is rows at r is) ∙ sym (identifier_same (text_of r.argument)) ∙ data_form r.word (text_of r.argument) d (has_text r.word r.argument g.1)

  -- and so is that of a module
  pub module_named : r.parent ≡ None → form.is_identifier (argument_at rows at) ≡ true
  module_named top =
      let g = grammar_none rows at r is none.grammar in
      ap form.is_identifier (argument_is rows at r is) ∙ sym (identifier_same (text_of r.argument)) ∙ module_form r.word (text_of r.argument) (outermost rows r top g.0) (has_text r.word r.argument g.1)
