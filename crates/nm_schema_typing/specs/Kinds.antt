-- What a type means, without where it lies in memory.
use Rattle.std.specs.Arc.{arc_value}
use Rattle.nm_schema_typing.specs.declared.meaning.Kind.{Kind}
use Rattle.nm_schema_typing.specs.declared.meaning.Kind.TheVariants.{Plain, Reference}
use Rattle.nm_schema_typing.specs.Meaning.{Meaning, plain, reference}

-- what a `Kind` stands for
abbrev pub meaning_in : Kind → Meaning
meaning_in (Plain derived) = plain (arc_value derived)
meaning_in (Reference path) = reference path
