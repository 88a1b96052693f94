use Rattle.std.proofs.Common.{◌≡◌, Some, refl, sym, ap, inl, inr, ◌∙◌, arith}
use Rattle.slab.proofs.SlabLemmas.{Contains-cons, Contains-cons_cases, Contains-entries}
use Rattle.nm_sessions.proofs.sessions.key_of.Goals as goal

pub loop-key-init : goal.loop-key-init
loop-key-init c =
    let left = c.into_iter-key-iterator.ensures.into_iter_gives ∙ c.iter-key-items.ensures.rest in (
      tt,
      tt,
      λ key user found. rw left ((Contains-entries c.args.table.now key (c.args.session, user)).1 found),
      λ key stored there. (Contains-entries c.args.table.now key stored).0 (rw left at there),
    )

pub returns-then-get-clause-found : goal.returns-then-get-clause-found
returns-then-get-clause-found c =
    let at = c.in-Some.ensures.steps in
    let there = c.loop-key.invariant.3 c.in-Some.key c.in-Some.stored.now (rw at (0, omega arith, refl)) in
    let same : c.stored.inside.session ≡ c.args.session = sym c.get.ensures.value ∙ c.if-get.true ∙ c.get-in-loop-key.ensures.value in
    (c.stored.inside.user, there ∙ ap Some (sym c.stored.view_is) ∙ ap (λ s. Some (s, c.stored.inside.user)) same)

pub loop-key-preserved : goal.loop-key-preserved
loop-key-preserved c =
    let at = c.in-Some.ensures.steps in (
      tt,
      tt,
      λ key user found. elim (Contains-cons_cases _ _ _ (rw at at (c.loop-key.invariant.2 key user found))) [
        | inl same ↦ elim (c.if-get.false (c.get.ensures.value ∙ ap (λ p. p.0) c.stored.view_is ∙ ap (λ e. e.1.0) same ∙ sym c.get-in-loop-key.ensures.value)) [ ]
        | inr rest ↦ rest
      ],
      λ key stored there. c.loop-key.invariant.3 key stored (rw at (Contains-cons _ _ _ there)),
    )
