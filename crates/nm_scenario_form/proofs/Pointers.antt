-- What holds of every pointer: it is short, on one line, and the longest front of the whole way.
use Rattle.std.proofs.Common.{◌≡◌, ℕ, zero, suc, ◌+◌, ◌/◌, ◌%◌, ◌≤◌, ◌<◌, min, List, [], ◌∷◌, length, get_or, codes, decimal, Bool, true, false, cond, nat_lt, nat_eq, refl, ap, sym, subst, arith}
use Rattle.std.specs.List.{All, flat_map}
use Rattle.std.specs.Fmt.{digit_glyph, digits_onto, digits}
use Rattle.std.specs.Str.{IsCharBoundary}
use Rattle.std.proofs.lemmas.List.{length-take, take_min, get_or_past}
use Rattle.std.proofs.lemmas.List.Elements.{All-append, All-cons, All-nil, All-take}
use Rattle.std.proofs.lemmas.Bool.{ltb-false, ltb-true}
use Rattle.std.proofs.lemmas.Bool.Decides.{nat_tests}
use Rattle.nm_scenario_form.specs.declared.fault.Step.{Step}
use Rattle.nm_scenario_form.specs.declared.fault.Step.TheVariants.{Name, Item}
use Rattle.nm_scenario_form.specs.Pointer.{IsLongestFront, IsPrintable, begins_character, cut_place, cut_text, escaped, pointer_limit, pointer_of, step_text, way_text}
use Rattle.nm_scenario_form.proofs.Fronts.{cut_place_le}

-- ---- short

pub pointer_short : (place : List Step) → length (pointer_of place) ≤ pointer_limit
unfolding pointer_of cut_text
pointer_short place = omega (arith, length-take (cut_place (way_text place) 4096) (way_text place), cut_place_le (way_text place) 4096)

-- ---- on one line

one : (byte : ℕ) → 32 ≤ byte → All IsPrintable (byte ∷ [])
one byte low = All-cons IsPrintable byte [] low (All-nil IsPrintable)

two : (first second : ℕ) → 32 ≤ first → 32 ≤ second → All IsPrintable (first ∷ second ∷ [])
two first second low high = All-cons IsPrintable first (second ∷ []) low (one second high)

other_printed : (byte : ℕ) (tilde slash : Bool) → 32 ≤ byte → All IsPrintable (cond tilde (codes "~0") (cond slash (codes "~1") (byte ∷ [])))
other_printed byte true slash low = two 126 48 (omega arith) (omega arith)
other_printed byte false true low = two 126 49 (omega arith) (omega arith)
other_printed byte false false low = one byte low

byte_printed : (byte : ℕ) (low : Bool) → nat_lt byte 32 ≡ low → All IsPrintable (cond low (codes "?") (cond (nat_eq byte 126) (codes "~0") (cond (nat_eq byte 47) (codes "~1") (byte ∷ []))))
byte_printed byte true is = one 63 (omega arith)
byte_printed byte false is = other_printed byte (nat_eq byte 126) (nat_eq byte 47) (ltb-false byte 32 is)

escaped_printed : (byte : ℕ) → All IsPrintable (escaped byte)
escaped_printed byte = byte_printed byte (nat_lt byte 32) refl

name_printed : (name : List ℕ) → All IsPrintable (flat_map escaped name)
name_printed [] = All-nil IsPrintable
name_printed (byte ∷ name) = All-append IsPrintable (escaped byte) (flat_map escaped name) (escaped_printed byte) (name_printed name)

glyph_printed : (small : Bool) (d : ℕ) → 32 ≤ cond small (48 + d) (87 + d)
glyph_printed true d = omega arith
glyph_printed false d = omega arith

last_or_more : (last : Bool) (bytes others : List ℕ) → All IsPrintable bytes → All IsPrintable others → All IsPrintable (cond last bytes others)
last_or_more true bytes others printed also = printed
last_or_more false bytes others printed also = also

digits_printed : (k n : ℕ) (bytes : List ℕ) → All IsPrintable bytes → All IsPrintable (digits_onto k 10 false n bytes)
digits_printed zero n bytes printed = printed
digits_printed (suc k) n bytes printed =
    let glyph : ℕ = digit_glyph false (n % 10) in
    let more : All IsPrintable (glyph ∷ bytes) = All-cons IsPrintable glyph bytes (glyph_printed (nat_lt (n % 10) 10) (n % 10)) printed in
    last_or_more (nat_eq (n / 10) 0) (glyph ∷ bytes) (digits_onto k 10 false (n / 10) (glyph ∷ bytes)) more (digits_printed k (n / 10) (glyph ∷ bytes) more)

decimal_printed : (n : ℕ) → All IsPrintable (decimal n)
unfolding digits
decimal_printed n = digits_printed 64 n [] (All-nil IsPrintable)

step_printed : (step : Step) → All IsPrintable (step_text step)
step_printed (Name name) = All-append IsPrintable (codes "/") (flat_map escaped name) (one 47 (omega arith)) (name_printed name)
step_printed (Item place) = All-append IsPrintable (codes "/") (decimal place) (one 47 (omega arith)) (decimal_printed place)

steps_printed : (steps : List Step) → All IsPrintable (flat_map step_text steps)
steps_printed [] = All-nil IsPrintable
steps_printed (step ∷ steps) = All-append IsPrintable (step_text step) (flat_map step_text steps) (step_printed step) (steps_printed steps)

way_printed : (place : List Step) → All IsPrintable (way_text place)
way_printed [] = one 47 (omega arith)
way_printed (step ∷ steps) = steps_printed (step ∷ steps)

pub pointer_printable : (place : List Step) → All IsPrintable (pointer_of place)
unfolding pointer_of cut_text
pointer_printable place = All-take IsPrintable (cut_place (way_text place) 4096) (way_text place) (way_printed place)

-- ---- the longest front

-- where a text is cut, a character begins or the text is over
chosen_begins : (text : List ℕ) (n place : ℕ) (here : Bool) → begins_character (get_or text (suc n) 0) ≡ here → begins_character (get_or text place 0) ≡ true → begins_character (get_or text (cond here (suc n) place) 0) ≡ true
chosen_begins text n place true is before = is
chosen_begins text n place false is before = before

cut_begins : (text : List ℕ) (n : ℕ) → begins_character (get_or text 0 0) ≡ true → begins_character (get_or text (cut_place text n) 0) ≡ true
cut_begins text zero first = first
cut_begins text (suc n) first = chosen_begins text n (cut_place text n) (begins_character (get_or text (suc n) 0)) refl (cut_begins text n first)

-- and none begins between there and the limit
same_clash : (text : List ℕ) (n m : ℕ) → begins_character (get_or text (suc n) 0) ≡ false → begins_character (get_or text m 0) ≡ true → m ≡ suc n → ⊥
same_clash text n m is begins same = let at : begins_character (get_or text (suc n) 0) ≡ true = subst (λ k. begins_character (get_or text k 0) ≡ true) same begins in cc

other_place : (m n : ℕ) → m ≤ suc n → (m ≡ suc n → ⊥) → m ≤ n
other_place m n within other = grind arith

greatest : (text : List ℕ) (n m place : ℕ) (here : Bool) → begins_character (get_or text (suc n) 0) ≡ here → begins_character (get_or text m 0) ≡ true → m ≤ suc n → (m ≤ n → m ≤ place) → m ≤ cond here (suc n) place
greatest text n m place true is begins within before = within
greatest text n m place false is begins within before = before (other_place m n within (same_clash text n m is begins))

cut_greatest : (text : List ℕ) (n m : ℕ) → m ≤ n → begins_character (get_or text m 0) ≡ true → m ≤ cut_place text n
cut_greatest text zero m within begins = within
cut_greatest text (suc n) m within begins = greatest text n m (cut_place text n) (begins_character (get_or text (suc n) 0)) refl begins within (λ less. cut_greatest text n m less begins)

leads : (byte : ℕ) → begins_character byte ≡ true → 128 ≤ byte → 192 ≤ byte
leads byte begins high = grind (arith, nat_tests)

begins_low : (byte : ℕ) → (128 ≤ byte → 192 ≤ byte) → begins_character byte ≡ true
begins_low byte leads = grind (arith, nat_tests)

first_begins : (place : List Step) → begins_character (get_or (way_text place) 0 0) ≡ true
first_begins [] = refl
first_begins (Name name ∷ steps) = refl
first_begins (Item n ∷ steps) = refl

past_begins : (text : List ℕ) (n : ℕ) → length text ≤ n → begins_character (get_or text n 0) ≡ true
past_begins text n past = ap begins_character (get_or_past text n 0 past)

min_begins : (text : List ℕ) (n : ℕ) (short : Bool) → nat_lt n (length text) ≡ short → begins_character (get_or text n 0) ≡ true → begins_character (get_or text (min n (length text)) 0) ≡ true
min_begins text n true test begins = let less : n < length text = ltb-true n (length text) test in let same : min n (length text) ≡ n = omega arith in rw same begins
min_begins text n false test begins = let past : length text ≤ n = ltb-false n (length text) test in past_begins text (min n (length text)) (omega arith)

boundary_begins : (text : List ℕ) (n : ℕ) (short : Bool) → nat_lt n (length text) ≡ short → IsCharBoundary text n → begins_character (get_or text n 0) ≡ true
boundary_begins text n true test is = begins_low (get_or text n 0) (is.1 (ltb-true n (length text) test))
boundary_begins text n false test is = past_begins text n (ltb-false n (length text) test)

longest_front : (limit : ℕ) (text : List ℕ) → begins_character (get_or text 0 0) ≡ true → IsLongestFront limit text (cut_text limit text)
unfolding cut_text
longest_front limit text first =
    let place : ℕ = cut_place text limit in
    let begins : begins_character (get_or text (min place (length text)) 0) ≡ true = min_begins text place (nat_lt place (length text)) refl (cut_begins text limit first) in
    record {
      end = min place (length text);
      is = sym (take_min place text);
      whole = (omega arith, λ less high. leads (get_or text (min place (length text)) 0) begins high);
      within = omega (arith, cut_place_le text limit);
      longest = λ other less is. omega (arith, cut_greatest text limit other less (boundary_begins text other (nat_lt other (length text)) refl is), is.0);
    }

pub pointer_longest : (place : List Step) → IsLongestFront pointer_limit (way_text place) (pointer_of place)
unfolding pointer_of
pointer_longest place = longest_front 4096 (way_text place) (first_begins place)
