-- Lists of rows that copies share (this project's own).
use Rattle.std.specs.Prelude.{ℕ, List, [], Option, Some, None}
use Rattle.std.specs.Arc.{arc_value}
use Rattle.std.specs.declared.sync.Arc.{Arc}
use Rattle.std.specs.declared.vec.Vec.{Vec}
use Rattle.std.specs.declared.alloc.Global.{Global}

-- the list that is shared; none is the empty list
abbrev pub listed : Option (Arc (Vec ℕ Global) Global) → List ℕ
listed None = []
listed (Some shared) = (arc_value shared).items
