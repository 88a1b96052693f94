-- Names and numbers that several layers share (this project's own).
use Rattle.std.specs.Prelude.{ℕ, List, codes}

-- the user that is the manager alone
abbrev pub manager : List ℕ
manager = codes "netm"

-- the module whose entries are the marks of change sets
unfoldable pub marker_name : List ℕ
marker_name = codes "netm-marker"

-- how long a confirmed commit waits where nothing else is said, in seconds (RFC 6241 section 8.4.5.1)
abbrev pub default_timeout : ℕ
default_timeout = 600
