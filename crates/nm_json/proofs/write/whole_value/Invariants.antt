use Rattle.std.proofs.Common.{◌≡◌, fold}
use Rattle.std.specs.FinMap.{entries}
use Rattle.serde_json.specs.Data.{no_members}
use Rattle.serde_json.specs.View.{members_view}
use Rattle.nm_json.specs.Writing.{put_row}
use Rattle.nm_json.proofs.write.whole_value.Given as goal

-- what is left goes on from the rows that were put
abbrev pub invariant-loop-path : goal.invariant-loop-path
invariant-loop-path l = fold (put_row l.fn.schema) (members_view l.members.entries) l.path-iterator ≡ fold (put_row l.fn.schema) no_members (entries l.fn.config)
