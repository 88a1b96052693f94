-- Members, none of which has a name with its module's before it.
use Rattle.std.proofs.Common.{◌≡◌, ℕ, List, [], ◌∷◌, ◌++◌, take, length, Bool, true, false, Option, Some, None, refl, sym, ap, ◌∙◌}
use Rattle.std.specs.Prelude.{String, string_bytes, nat_eq}
use Rattle.std.specs.Ordering.{nat_cmp, match_ordering}
use Rattle.std.specs.Cmp.Lexicographic.{slice_cmp, pointwise, bytes_decides}
use Rattle.std.specs.declared.alloc.Global.{Global}
use Rattle.std.specs.declared.cmp.Ordering.{Ordering}
use Rattle.std.specs.declared.cmp.Ordering.TheVariants.{Less, Equal, Greater}
use Rattle.std.proofs.lemmas.Bool.{false≢true}
use lib.Seq.{take-append_seam}
use Rattle.std.proofs.lemmas.Map.Lookups.{exact_bytes}
use Rattle.serde_json.specs.declared.value.Value.{Value}
use Rattle.serde_json.specs.Data.{Data, Members, member}
use Rattle.serde_json.specs.Find.{get_member}
use Rattle.serde_json.specs.View.{view, members_view}

-- a text that doesn't begin with a module's name is no name behind it
pub not_long : (text owner name s p : List ℕ) → s ≡ text → p ≡ owner → pointwise nat_eq (take (length p) s) p ≡ false → text ≡ owner ++ 58 ∷ name → false ≡ true
not_long text owner name s p t o fails is =
    let begins : take (length p) s ≡ p = ap (take (length p)) (t ∙ is ∙ ap (λ q. q ++ 58 ∷ name) (sym o)) ∙ take-append_seam p (58 ∷ name) in
    sym fails ∙ (bytes_decides (take (length p) s) p).1 begins

-- a member of another name isn't the one of a name
get_other : (k l : List ℕ) (e : Data) (ms : Members) → (l ≡ k → ⊥) → get_member k (member l e ms) ≡ get_member k ms
get_other k l e ms other = by (slice_cmp nat_cmp k l) refl
  where
    by : (o : Ordering) → slice_cmp nat_cmp k l ≡ o → match_ordering o (get_member k ms) (Some e) (get_member k ms) ≡ get_member k ms
    by Less is = refl
    by Equal is = absurd (other (sym (exact_bytes k l is)))
    by Greater is = refl

-- a member that isn't the one of a name is passed
pub long_next : (k : List ℕ) (e : String Global × Value) (es fs : List (String Global × Value)) (whole : Option Data) (name : List ℕ) (test : Bool) → fs ≡ e ∷ es → name ≡ string_bytes e.0 → (name ≡ k → test ≡ true) → test ≡ false
    → get_member k (members_view fs) ≡ whole → get_member k (members_view es) ≡ whole
long_next k e es fs whole name test left n t fails before =
    sym (get_other k (string_bytes e.0) (view e.1) (members_view es) (λ same. false≢true (sym fails ∙ t (n ∙ same)))) ∙ ap (λ us. get_member k (members_view us)) (sym left) ∙ before

-- all members are passed
pub long_end : (k : List ℕ) (es : List (String Global × Value)) (whole : Option Data) → es ≡ [] → get_member k (members_view es) ≡ whole → whole ≡ None
long_end k es whole none before = sym before ∙ ap (λ us. get_member k (members_view us)) none
