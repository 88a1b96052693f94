-- What an edit makes, by its moves.
use Rattle.std.proofs.Common.{◌≡◌, List, [], Bool, true, false, Ok, Err, if◌then◌else◌, refl, sym, ap, subst, ◌∙◌}
use Rattle.std.specs.Prelude.{nat_lt, Some, None, Result}
use Rattle.std.specs.Result.{IsErr, IsErrAnd}
use Rattle.std.specs.FinMap.{len}
use Rattle.nm_base.specs.declared.tag.Tag.TheVariants.{ResourceDenied}
use Rattle.nm_proto.specs.Content.{Refusal}
use Rattle.nm_proto.specs.declared.message.DefaultOperation.{DefaultOperation}
use Rattle.nm_schema_tree.specs.Nodes.{SchemaTree}
use Rattle.nm_config.specs.Rows.{Rows, with_entries}
use Rattle.nm_json.specs.Whole.{row_limit}
use Rattle.nm_edit.specs.declared.edit.EditNode.{EditNode}
use Rattle.nm_edit.specs.declared.act.Act.{Act}
use Rattle.nm_edit.specs.Acts.{acts}
use Rattle.nm_edit.specs.declared.fault.EditFault.{EditFault}
use Rattle.nm_edit.specs.declared.fault.EditFault.TheVariants.{Refused, NoMemory}
use Rattle.nm_edit.specs.Refusals.{first_refusal, Passes}
use Rattle.nm_edit.specs.Edited.{all_without, RowMoves, moves_by, moved, base_of, brought, limited, unless, edited_by, edited_rows}
use Rattle.nm_edit.proofs.After.{moved_brought}
use Rattle.nm_overlay.specs.Differences.{Changes, differences, overridden}
use Rattle.nm_overlay.proofs.Order.{Place}
use Rattle.nm_overlay.proofs.Changed.{overridden-differences}
use Rattle.nm_edit.specs.declared.change.Outcome.{Outcome}
use Rattle.nm_edit.specs.Changed.{changed, changes_of, too_large, Looks}

-- the moves of an edit that is refused at no node, with the nodes that go of the rows that are there
pub makes : (t : SchemaTree) (old : Rows) (nodes : List EditNode) (d : DefaultOperation) (done : List Act) (m : RowMoves) (goes : List Place)
    → done ≡ acts nodes d → first_refusal t old done ≡ None → m ≡ moves_by t old done → all_without old goes ≡ all_without (base_of d old) m.goes
    → edited_rows t old nodes d ≡ limited (moved old (record { goes = goes; held = m.held; comes = m.comes }))
makes t old nodes d done m goes acted none is alike =
    let base = base_of d old in
    ap (edited_by t old base) (sym acted)
    ∙ ap (λ o. unless o (limited (brought t old base done))) none
    ∙ ap limited (
    sym (moved_brought t old base done) ∙ ap (moved base) (sym is)
    ∙ ap (λ (rows : Rows). with_entries (with_entries rows m.held) m.comes) (sym alike))

pub within : (rows : Rows) → too_large rows ≡ None → limited rows ≡ Ok rows
within rows = by (nat_lt row_limit (len rows))
  where
    refusal : Refusal
    refusal = record { tag = ResourceDenied; path = [] }

    by : (b : Bool) → (if b then Some refusal else None) ≡ None → (if b then Err refusal else Ok rows) ≡ Ok rows
    by true e = absurd (cc)
    by false e = refl

pub beyond : (rows : Rows) (r : Refusal) → too_large rows ≡ Some r → limited rows ≡ Err r
beyond rows r = by (nat_lt row_limit (len rows))
  where
    refusal : Refusal
    refusal = record { tag = ResourceDenied; path = [] }

    by : (b : Bool) → (if b then Some refusal else None) ≡ Some r → (if b then Err refusal else Ok rows) ≡ Err r
    by true e = cc
    by false e = absurd (cc)

-- what is there with what an edit changes of it is what the edit makes
pub makes_edited : (t : SchemaTree) (old : Rows) (nodes : List EditNode) (d : DefaultOperation) (changes : Changes)
    → changes_of t old nodes d ≡ Ok changes → edited_rows t old nodes d ≡ Ok (overridden old changes)
makes_edited t old nodes d changes = by (edited_rows t old nodes d)
  where
    by : (given : Result Rows Refusal) → changed old given ≡ Ok changes → given ≡ Ok (overridden old changes)
    by (Ok rows) e = let is : differences old rows ≡ changes = cc in ap Ok (sym (ap (overridden old) (sym is) ∙ overridden-differences old rows))
    by (Err r) e = absurd (cc)

-- an edit that makes too many rows is refused
pub large : (old made : Rows) (given : Result Rows Refusal) (fault : EditFault) → given ≡ limited made → Passes (Err fault) (too_large made) → Looks old (Err fault) given
large old made given (Refused tag path) g p = g ∙ beyond made (record { tag = tag; path = path }) p
large old made given NoMemory g p = tt

-- a fault that is handed on is the same fault
pub handed : (old : Rows) (given : Result Rows Refusal) (fault : EditFault) (answer : Result Outcome EditFault) → IsErr answer → IsErrAnd answer (λ other. other ≡ fault)
    → Looks old (Err fault) given → Looks old answer given
handed old given fault (Ok outcome) err is looks = absurd (cc)
handed old given fault (Err other) err is looks = subst (λ (f : EditFault). Looks old (Err f) given) (sym is) looks
