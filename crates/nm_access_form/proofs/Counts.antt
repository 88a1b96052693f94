-- Counts of what is seen as JSON.
use Rattle.std.proofs.Common.{◌≡◌, List, [], ◌∷◌, length, refl, arith, String}
use Rattle.std.specs.declared.alloc.Global.{Global}
use Rattle.serde_json.specs.declared.value.Value.{Value}
use Rattle.serde_json.specs.View.{members_view}
use Rattle.nm_access_form.specs.Entries.{member_count}

pub member_count_is : (ms : List (String Global × Value)) → member_count (members_view ms) ≡ length ms
member_count_is [] = refl
member_count_is (m ∷ ms) = omega (arith, member_count_is ms)
