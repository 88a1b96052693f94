use Rattle.std.proofs.Common.{◌≡◌, ◌+◌, ◌++◌, ◌∷◌, [], List, ℕ, take, sym, ap, ◌∙◌, subst, arith}
use Rattle.std.proofs.lemmas.List.{take_more, append_assoc}
use Rattle.nm_history.specs.declared.event.Noted.{Noted}
use Rattle.nm_chronicle.specs.Phases.{Follow}
use Rattle.nm_chronicle.proofs.Along.{went_more, called_more}
use Rattle.nm_chronicle.proofs.phases.Phases.tell.Goals as goal

pub loop-entry-preserved : goal.loop-entry-preserved
loop-entry-preserved g c =
    let entries : List Noted = c.args.entries.now in
    let i : ℕ = c.loop-entry.entry-index in
    let entry : Noted = c.entry-item.result in
    let so_far = c.loop-entry.invariant in
    let goes = c.note.ensures.goes in
    let next : take (i + 1) entries ≡ take i entries ++ entry ∷ [] =
    take_more entries i entry c.loop-entry-test.true ∙ ap (λ x. take i entries ++ x ∷ []) (sym c.entry-item.is) in (
      went_more c.args.self.now c.loop-entry.self (take i entries) (take (i + 1) entries) entry next so_far.0 c.note.new.self goes.phases_are,
      called_more c.args.self.now c.loop-entry.self (take i entries) (take (i + 1) entries) entry next so_far.0 c.args.board.now c.loop-entry.board c.note.new.board c.args.device so_far.1 goes.board_is,
      (λ history follow. subst (Follow c.note.new.self) (append_assoc history (take i entries) (entry ∷ []) ∙ ap (λ xs. history ++ xs) (sym next)) (c.note.ensures.follow (history ++ take i entries) (so_far.2 history follow))),
      omega (arith, c.note.ensures.room, so_far.3),
    )
