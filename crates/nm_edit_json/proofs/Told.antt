-- An annotation says an operation exactly where it is the object with that operation alone.
use Rattle.std.proofs.Common.{◌≡◌, ◌↔◌, ℕ, List, [], ◌∷◌, Bool, true, false, cond, Option, Some, None, refl, sym, ap, ◌∙◌, subst}
use Rattle.std.proofs.lemmas.Option.{same_Some, none-some}
use Rattle.std.proofs.lemmas.Map.Text.{is_eq-slice_cmp}
use Rattle.std.proofs.lemmas.Slice.Eq.{bytes_eq-Decides}
use Rattle.std.specs.List.{find}
use Rattle.std.specs.Str.{bytes_eq}
use Rattle.std.specs.Ordering.{nat_cmp, is_eq, match_ordering}
use Rattle.std.specs.Cmp.Lexicographic.{slice_cmp}
use Rattle.std.specs.declared.cmp.Ordering.{Ordering}
use Rattle.std.specs.declared.cmp.Ordering.TheVariants.{Less, Equal, Greater}
use Rattle.serde_json.specs.Data.{Data, null, boolean, number, string, array, object, Members, no_members, member}
use Rattle.nm_edit.specs.declared.operation.Operation.{Operation}
use Rattle.nm_edit.specs.declared.operation.Operation.TheVariants.{Merge, Replace, Create, Delete, Remove}
use Rattle.nm_edit_json.specs.Annotations.{operation_word, operation_name, operation_of, operation_at, operation_among, operation_in, annotation}

pick : (p : Operation → Bool) (b : Bool) (x o : Operation) (rest : Option Operation) → b ≡ p x → cond b (Some x) rest ≡ Some o → (rest ≡ Some o → p o ≡ true) → p o ≡ true
pick p true x o rest h e later = subst (λ y. p y ≡ true) (same_Some x o e) (sym h)
pick p false x o rest h e later = later e

passes : (p : Operation → Bool) (xs : List Operation) (o : Operation) → find p xs ≡ Some o → p o ≡ true
passes p [] o e = absurd (none-some o e)
passes p (x ∷ xs) o e = pick p (p x) x o (find p xs) refl e (passes p xs o)

word_is : (word : List ℕ) (o : Operation) → operation_of word ≡ Some o → word ≡ operation_word o
unfolding operation_of
word_is word o e = (bytes_eq-Decides word (operation_word o)).0 (passes (λ operation. bytes_eq word (operation_word operation)) (Merge ∷ Replace ∷ Create ∷ Delete ∷ Remove ∷ []) o e)

value_is : (d : Data) (o : Operation) → operation_at (Some d) ≡ Some o → d ≡ string (operation_word o)
value_is null o e = absurd (none-some o e)
value_is (boolean b) o e = absurd (none-some o e)
value_is (number n) o e = absurd (none-some o e)
value_is (string word) o e = ap string (word_is word o e)
value_is (array ds) o e = absurd (none-some o e)
value_is (object ms) o e = absurd (none-some o e)

same_name : (a b : List ℕ) → Equal ≡ slice_cmp nat_cmp a b → a ≡ b
same_name a b e = (bytes_eq-Decides a b).0 (sym (is_eq-slice_cmp a b) ∙ ap is_eq (sym e))

member_is : (name : List ℕ) (d : Data) (o : Operation) (r : Ordering) → r ≡ slice_cmp nat_cmp operation_name name → operation_at (match_ordering r None (Some d) None) ≡ Some o
    → object (member name d no_members) ≡ annotation o
member_is name d o Less h e = absurd (none-some o e)
member_is name d o Greater h e = absurd (none-some o e)
member_is name d o Equal h e =
    ap (λ n. object (member n d no_members)) (sym (same_name operation_name name h)) ∙ ap (λ v. object (member operation_name v no_members)) (value_is d o e)

among_is : (ms : Members) (o : Operation) → operation_among ms ≡ Some o → object ms ≡ annotation o
among_is no_members o e = absurd (none-some o e)
among_is (member name d no_members) o e = member_is name d o (slice_cmp nat_cmp operation_name name) refl e
among_is (member name d (member other f ms)) o e = absurd (none-some o e)

forth : (d : Data) (o : Operation) → operation_in d ≡ Some o → d ≡ annotation o
forth null o e = absurd (none-some o e)
forth (boolean b) o e = absurd (none-some o e)
forth (number n) o e = absurd (none-some o e)
forth (string s) o e = absurd (none-some o e)
forth (array ds) o e = absurd (none-some o e)
forth (object ms) o e = among_is ms o e

back : (o : Operation) → operation_in (annotation o) ≡ Some o
unfolding operation_of
back Merge = refl
back Replace = refl
back Create = refl
back Delete = refl
back Remove = refl

pub told_law : (d : Data) (o : Operation) → (operation_in d ≡ Some o) ↔ (d ≡ annotation o)
told_law d o = (forth d o, λ e. ap operation_in e ∙ back o)
