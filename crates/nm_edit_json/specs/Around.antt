-- Objects as values.
use Rattle.serde_json.specs.View.{members_view}
use Rattle.nm_edit_json.specs.declared.around.Around.{Around as Held}
use Rattle.nm_edit_json.specs.Findings.{Around}

-- the object, without where its parts lie
abbrev pub around_of : Held → Around
around_of o = record { above = o.above.now; within = o.within; held = o.held; all = members_view o.all.now.entries }
