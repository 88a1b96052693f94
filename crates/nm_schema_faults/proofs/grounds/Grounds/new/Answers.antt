use Rattle.std.proofs.Common.{◌≡◌, ◌∙◌, ℕ, List, None, slice_index_or, sym, ap, subst}
use Rattle.nm_schema_statements.specs.declared.row.Row.{Row}
use Rattle.nm_schema_uses.specs.Holding.{AreNamed}
use Rattle.nm_schema_uses.specs.Outline.{outline}
use Rattle.nm_schema_typing.specs.Flaws.{AreMeanings}
use Rattle.nm_schema_typing.specs.Listing.{AreJudgements}
use Rattle.nm_schema_typing.specs.Defaults.{joined, default_of}
use Rattle.nm_schema_faults.proofs.Defining.{definitions-named}
use Rattle.nm_schema_faults.proofs.Grounding.{are_grounds}
use Rattle.nm_schema_faults.proofs.grounds.Grounds.new.Goals as goal

pub clashes_of-requires : goal.clashes_of-requires
clashes_of-requires c = subst (λ (r : List Row). AreNamed r c.args.definitions.now) (sym c.rows-rows.ensures) (definitions-named c.args.names.now c.args.definitions.now c.requires.definitions)

pub invariant_of-result : goal.invariant_of-result
invariant_of-result c =
    let named = c.args.definitions.now in
    are_grounds c.args.names.now named c.args.shape.now c.in_ok-clashes.clashes c.args.expansion.now c.in_ok-typed.typed.types c.in_ok-typed.typed.judgements.items c.in_ok-typed.typed.defaults c.in_ok-leafrefs.leafrefs c.in_ok-keyed.keyed.keys.items
    c.in_ok-cycle.cycle c.configured.result.now c.in_state.result.now c.in_ok-keyed.keyed.is_key.items c.in_ok-keyed.keyed.flawed_uniques.items
    c.requires.definitions c.requires.shape (c.in_ok-clashes.ensures ∙ ap (λ (r : List Row). outline r named) c.rows-rows.ensures) c.requires.expansion.0 c.requires.expansion.1
    (subst (λ (r : List Row). AreMeanings r named c.in_ok-typed.typed.types.meanings) c.rows-rows.ensures c.in_ok-typed.ensures.meanings)
    (subst (λ (r : List Row). AreJudgements r named c.in_ok-typed.typed.judgements.items) c.rows-rows.ensures c.in_ok-typed.ensures.judgements)
    (subst (λ (r : List Row). (i : ℕ) → joined (slice_index_or c.in_ok-typed.typed.defaults i None) ≡ default_of r named i) c.rows-rows.ensures c.in_ok-typed.ensures.defaults)
    c.in_ok-leafrefs.ensures.leafrefs c.in_ok-keyed.ensures.keys c.in_ok-keyed.ensures.marks c.in_ok-keyed.ensures.flawed c.configured.ensures.marks c.in_state.ensures.marks c.in_ok-cycle.ensures c.laws.ensures
    c.configured.ensures.size c.in_state.ensures.size c.in_ok-keyed.ensures.size c.in_ok-leafrefs.ensures.size
