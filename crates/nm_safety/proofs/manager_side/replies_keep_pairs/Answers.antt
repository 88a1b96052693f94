use Rattle.std.proofs.Common.{sym, subst}
use Rattle.nm_wire.specs.Wire.{handled_at}
use Rattle.nm_safety.specs.Pair.{PairHolds}
use Rattle.nm_decider_stage.specs.Stages.{learnt}
use Rattle.std.proofs.Common.{None, Some}
use Rattle.nm_safety.proofs.Wires.{due_is}
use Rattle.nm_safety.proofs.Handled.{handled_pair, resynced_pair}
use Rattle.nm_safety.proofs.manager_side.replies_keep_pairs.Goals as goal

pub returns-clause-handled : goal.returns-clause-handled
returns-clause-handled g c = λ change decided seat side r link number exchange what before is awaited plain pair.
    subst (λ told. PairHolds change decided (record seat { stage = learnt decided seat.stage what exchange.reply; awaited = None }) (handled_at side.wire link told) r) (sym is)
    (handled_pair change seat side r link exchange (due_is side.wire link number exchange is) what awaited decided before plain pair)

pub returns-clause-resynced : goal.returns-clause-resynced
returns-clause-resynced g c = λ change v seat side r link number exchange stage is pair.
    subst (λ told. PairHolds change (Some v) (record seat { stage = stage; awaited = None }) (handled_at side.wire link told) r) (sym is)
    (resynced_pair change seat side r link exchange (due_is side.wire link number exchange is) v stage pair)
