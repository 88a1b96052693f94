use Rattle.std.proofs.Common.{◌≡◌, List, Bor, take, fold, [], Ok, option_map}
use Rattle.nm_schema_derive.specs.declared.members.Member.{Member}
use Rattle.nm_schema_derive.specs.Members.{with_statement}
use Rattle.nm_schema_derive.proofs.assign.members_of.Given as goal

-- what the statements so far make
abbrev pub invariant-loop-listed : goal.invariant-loop-listed
invariant-loop-listed l = fold (with_statement l.numbering (option_map (λ (members : Bor (List Member)). members.now) l.base)) (Ok []) (take l.listed-index l.statements) ≡ Ok l.taken
