use Rattle.std.proofs.Common.{◌<◌, ◌∙◌, length, sym, arith}
use Rattle.nm_schema_uses.proofs.Configs.{states_more, states_same, states_all}
use Rattle.nm_schema_uses.proofs.config.states.Goals as goal
use Rattle.nm_schema_uses.proofs.config.states.Goals.{then-is_state+in_ok-push, else-is_state}

pub loop-at-preserved : goal.loop-at-preserved
loop-at-preserved c =
    elim c.if-is_state.branch [
      | then-is_state+in_ok-push w ↦
          let lt : c.loop-at.at < length c.args.rows.now = omega arith in
          rw (w.states-is, w.in_ok-push.ensures.items) (states_more c.args.rows.now c.loop-at.at c.loop-at.states.items c.loop-at.invariant lt (sym c.is_state.ensures ∙ w.if-is_state.true))
      | else-is_state w ↦ rw w.states-is (states_same c.args.rows.now c.loop-at.at c.loop-at.states.items c.loop-at.invariant (sym c.is_state.ensures ∙ w.if-is_state.false))
    ]

pub returns-clause-listed : goal.returns-clause-listed
returns-clause-listed c = states_all c.args.rows.now c.loop-at.at c.loop-at.states.items c.loop-at.invariant (omega arith)
