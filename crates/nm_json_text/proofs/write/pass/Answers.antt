use Rattle.std.proofs.Common.{map as each}
use Rattle.std.specs.Map.Iter.{deref_pair}
use Rattle.nm_json_text.proofs.Whole.{whole_text}
use Rattle.nm_json_text.proofs.write.pass.Goals as goal

pub returns : goal.returns
returns c =
    whole_text c.args.schema.now (each deref_pair c.args.rows.now) c.into_bytes.result.items c.in_ok-out.out c.begin_object.new.self c.write_members.new.out c.in_ok-out.ensures
    c.in_ok-begin_object.ensures c.in_ok-write_members.ensures c.into_bytes.ensures
