use Rattle.serde_json.specs.View.{members_view}
use Rattle.nm_json.specs.Findings.{bare, key_read}
use Rattle.nm_json.specs.Spots.{spot_of}
use Rattle.nm_json.proofs.Gathering.{values_step}
use Rattle.nm_edit_json.proofs.Gathering.{faults_step, faults_end}
use Rattle.nm_edit_json.proofs.keys.read_keys.Goals as goal

pub loop-key-preserved : goal.loop-key-preserved
loop-key-preserved c =
    let read = key_read c.args.schema.now (bare (spot_of c.args.list.now)) (members_view c.args.members.now.entries) in
    let i = c.loop-key.key-index in (
      values_step read c.args.keys.now i c.loop-key.values.items c.keep_key.new.values.items _ c.loop-key-test.true c.in-Ok.ensures.values c.loop-key.invariant.0,
      faults_step read c.args.keys.now i c.loop-key.gathered c.keep_key.new.gathered _ c.loop-key-test.true c.in-Ok.ensures.faults c.loop-key.invariant.1,
    )

pub returns-clause-faults : goal.returns-clause-faults
returns-clause-faults c =
    let read = key_read c.args.schema.now (bare (spot_of c.args.list.now)) (members_view c.args.members.now.entries) in
    faults_end read c.args.keys.now c.loop-key.key-index c.loop-key.gathered _ c.loop-key-test.false c.loop-key.invariant.1
