-- The words of what can be wrong with a scenario.
use Rattle.std.specs.Prelude.{ℕ, List, codes}
use Rattle.nm_proto.specs.declared.kind.ScenarioKind.{ScenarioKind}
use Rattle.nm_proto.specs.declared.kind.ScenarioKind.TheVariants.{TooLong, NotJson, NotBuilt, Missing, Unknown, BadValue, TooMany, Yang, Schema, Content, Invalid}

-- a kind by its word (this project's own)
abbrev pub kind_word : ScenarioKind → List ℕ
kind_word TooLong = codes "too-long"
kind_word NotJson = codes "not-json"
kind_word NotBuilt = codes "not-built"
kind_word Missing = codes "missing"
kind_word Unknown = codes "unknown"
kind_word BadValue = codes "bad-value"
kind_word TooMany = codes "too-many"
kind_word Yang = codes "yang"
kind_word Schema = codes "schema"
kind_word Content = codes "content"
kind_word Invalid = codes "invalid"
