-- What a step of a path chooses, as a list of values.
use Rattle.nm_types.specs.declared.path.Chosen.{Chosen}
use Rattle.nm_types.specs.declared.path.Chosen.TheVariants.{Whole, Keys, Entry}
use Rattle.nm_types.specs.Path.{Choice, whole, keys, entry}

-- what is chosen, without where it lies in memory
abbrev pub choice_of : Chosen → Choice
choice_of Whole = whole
choice_of (Keys vs) = keys vs.items
choice_of (Entry v) = entry v
