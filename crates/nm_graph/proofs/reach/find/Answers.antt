use Rattle.std.proofs.Common.{◌∙◌, sym, refl, false}
use Rattle.std.proofs.lemmas.List.{get_or_read}
use Rattle.nm_graph.proofs.Finding.{finds-none, finds-sound, finds-one}
use Rattle.nm_graph.proofs.reach.find.Goals as goal

pub returns-then-index-clause-found : goal.returns-then-index-clause-found
returns-then-index-clause-found c =
    finds-none c.args.search.now c.args.node (sym (get_or_read c.args.search.now.is_found.items c.args.node c.index.result.now c.requires.within c.index.ensures false) ∙ c.if-index.true)

pub returns-clause-sound : goal.returns-clause-sound
returns-clause-sound c =
    let absent = sym (get_or_read c.args.search.now.is_found.items c.args.node c.index.result.now c.requires.within c.index.ensures false) ∙ c.if-index.false in
    finds-sound c.args.search.now _ c.args.node c.requires.sound c.requires.within absent refl c.in_ok-push.ensures.items

pub returns-clause-found : goal.returns-clause-found
returns-clause-found c =
    let absent = sym (get_or_read c.args.search.now.is_found.items c.args.node c.index.result.now c.requires.within c.index.ensures false) ∙ c.if-index.false in
    finds-one c.args.search.now _ c.args.node c.requires.sound c.requires.within absent refl c.in_ok-push.ensures.items
