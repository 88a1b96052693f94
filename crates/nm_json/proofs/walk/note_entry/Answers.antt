use Rattle.std.proofs.Common.{◌≡◌, length, rules, refl, sym, ◌∙◌}
use Rattle.serde_json.specs.Data.{object}
use Rattle.serde_json.specs.View.{members_view}
use Rattle.nm_json.specs.Findings.{bare}
use Rattle.nm_json.specs.Spots.{spot_of}
use Rattle.nm_json.proofs.Gathering.{entry_whole}
use Rattle.nm_json.proofs.walk.note_entry.Goals as goal

pub returns-in-Ok : goal.returns-in-Ok
returns-in-Ok c =
    let keys = c.in_ok-values.ensures in
    let members = members_view c.args.members.now.entries in
    let held : c.len.result ≡ length c.in_ok-values.values.items = search rules in
    let count = sym held ∙ c.if-len-keys.false in
    entry_whole c.args.schema.now (spot_of c.args.spot.now) c.args.keys.now (object members) members c.args.gathered.now c.read_keys.new.gathered
    c.note_own_row.new.gathered (bare (spot_of c.args.spot.now)) c.in_ok-path.path c.in_ok-values.values.items refl refl keys.values keys.faults count
    c.in_ok-path.ensures c.in-Ok.ensures
