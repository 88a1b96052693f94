use Rattle.std.proofs.Common.{List, ℕ, Ok, get_or, is_some, ap, sym, ◌∙◌}
use Rattle.nm_types.specs.declared.value.Value.TheVariants.{Name}
use Rattle.nm_types.specs.Names.{place_in}
use Rattle.nm_types.proofs.Texts.{name_known, name_unknown}
use Rattle.nm_types.proofs.Places.{is_placed, stands_at}
use Rattle.nm_types.proofs.read.read_name.Goals as goal

pub returns-in-Some : goal.returns-in-Some
returns-in-Some c =
    let names = c.args.names.now in
    let name = c.index-as_slice-place.result in
    let placed = ap (λ (t : List ℕ). place_in t names) (sym c.in_ok-new.ensures) ∙ sym c.place-2.ensures.place ∙ c.in-Some.is in
    let at = stands_at c.args.text.now names c.in-Some.place placed in
    λ limits. name_known names limits c.args.text.now (sym (is_placed c.args.text.now names) ∙ ap is_some placed)
    ∙ ap (λ (t : List ℕ). Ok (Name t)) (sym (c.in_ok-copy-in-Some.ensures ∙ c.index-as_slice-place.is ∙ ap (λ (l : List (List ℕ)). get_or l c.in-Some.place name) c.as_slice.ensures.value ∙ at.1 name))

pub returns : goal.returns
returns c =
    let names = c.args.names.now in
    let placed = ap (λ (t : List ℕ). place_in t names) (sym c.in_ok-new.ensures) ∙ sym c.place-2.ensures.place ∙ c.in-None.is in
    λ limits. name_unknown names limits c.args.text.now (sym (is_placed c.args.text.now names) ∙ ap is_some placed)
