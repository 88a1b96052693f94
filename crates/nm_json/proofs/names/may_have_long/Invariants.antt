use Rattle.std.proofs.Common.{◌≡◌, ◌∷◌, ◌++◌}
use Rattle.serde_json.specs.Find.{get_member}
use Rattle.serde_json.specs.View.{members_view}
use Rattle.nm_json.proofs.names.may_have_long.Given as goal

abbrev pub invariant-loop-own : goal.invariant-loop-own
invariant-loop-own l = get_member (l.«module» ++ 58 ∷ l.name) (members_view l.own-iterator) ≡ get_member (l.«module» ++ 58 ∷ l.name) (members_view l.all.entries)
