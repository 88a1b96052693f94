use Rattle.std.proofs.Common.{◌++◌, ◌∷◌, [], sym, subst}
use Rattle.nm_chronicle.specs.Phases.{Follow, PhasesState, AreCounted}
use Rattle.nm_chronicle.proofs.Steps.{follow_on}
use Rattle.nm_chronicle.proofs.phases.Phases.note.Goals as goal

pub returns-clause-follow : goal.returns-clause-follow
returns-clause-follow g c history follow =
    let counted = subst (λ (s : PhasesState). AreCounted s c.self.inside.share) c.self.view_is c.self.invariant in
    subst (λ (s : PhasesState). Follow s (history ++ c.args.entry.now ∷ [])) (sym c.go.ensures.phases_are) (follow_on c.args.self.now c.self.inside.share history c.args.entry.now counted follow)
