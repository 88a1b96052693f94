-- What is notable is drawn for itself, and each event that did something has a row.
use Rattle.std.proofs.Common.{◌≡◌, ◌∙◌, ◌+◌, ℕ, zero, suc, List, [], ◌∷◌, ◌++◌, map, slice_get, Bool, true, false, ◌||◌, ◌&&◌, ◌==◌, cond, Option, Some, None, refl, ap, sym, subst, arith}
use Rattle.std.proofs.lemmas.Bool.Decides.{nat_tests}
use Rattle.nm_world.specs.declared.happened.Happened.{Happened}
use Rattle.nm_world.specs.declared.happened.Happened.TheVariants.{Idle, Started, Sent, Decided, Ended, Replied, Handled, Broken, Lost, Left, Now, Restarted, Forgot, Crashed}
use Rattle.nm_world.specs.declared.happened.TraceEntry.{TraceEntry}
use Rattle.nm_picture_shapes.specs.declared.rows.Active.{Active}
use Rattle.nm_picture_shapes.specs.declared.rows.Kept.{Kept}
use Rattle.nm_picture_shapes.specs.declared.rows.Look.{Look}
use Rattle.nm_picture_shapes.specs.declared.rows.Look.TheVariants.{Shown, Folds, Hidden}
use Rattle.nm_picture_shapes.specs.declared.rows.Row.{Row}
use Rattle.nm_picture_shapes.specs.Rows.{is_idle, is_notable, active_if, actives_from, is_kept, kept_from, look_of, line_behind, rows_from, places_from, is_shown, shows, stretch}

-- ---- truth values

or_left : (b c : Bool) → b ≡ true → b || c ≡ true
or_left b c h = ap (λ x. x || c) h

or_right : (b c : Bool) → c ≡ true → b || c ≡ true
or_right true c h = refl
or_right false c h = h

-- one of two, at a place, as before
either : (same one rest other more : Bool) → (one ≡ true → other ≡ true) → (rest ≡ true → more ≡ true) → (same && one) || rest ≡ true → (same && other) || more ≡ true
either false one rest other more h g e = g e
either true false rest other more h g e = or_right other more (g e)
either true true rest other more h g e = or_left other more (h refl)

-- ---- what is notable

abbrev in_actives : ℕ → List Active → Bool
in_actives place [] = false
in_actives place (active ∷ actives) = (active.place == place && active.is_notable) || in_actives place actives

abbrev in_kept : ℕ → List Kept → Bool
in_kept place [] = false
in_kept place (one ∷ kept) = (one.place == place && one.is_kept) || in_kept place kept

notable_active : (what : Happened) → is_notable what ≡ true → is_idle what ≡ false
notable_active Idle h = sym h
notable_active Started h = refl
notable_active (Sent device link request) h = refl
notable_active (Decided verdict) h = refl
notable_active Ended h = refl
notable_active (Replied reply undone) h = refl
notable_active Handled h = refl
notable_active Broken h = refl
notable_active (Lost undone) h = refl
notable_active (Left undone) h = refl
notable_active (Now clock undone) h = refl
notable_active (Restarted undone) h = refl
notable_active Forgot h = refl
notable_active Crashed h = refl

behind : (place : ℕ) (idle : Bool) (active : Active) (rest : List Active) → in_actives place rest ≡ true → in_actives place (cond idle [] (active ∷ []) ++ rest) ≡ true
behind place true active rest h = h
behind place false active rest h = or_right (active.place == place && active.is_notable) (in_actives place rest) h

first : (place : ℕ) (idle notable : Bool) (rest : List Active) → idle ≡ false → notable ≡ true
    → in_actives place (cond idle [] (record { place = place; is_notable = notable } ∷ []) ++ rest) ≡ true
first place true notable rest h g = absurd (let no : true ≡ false = h in cc)
first place false notable rest h g = or_left (place == place && notable) (in_actives place rest) (same_and (place == place) notable (grind (arith, nat_tests)) g)
  where
    same_and : (b c : Bool) → b ≡ true → c ≡ true → b && c ≡ true
    same_and true c h g = g
    same_and false c h g = absurd (let no : false ≡ true = h in cc)

notable_in : (trail : List TraceEntry) (k i : ℕ) (passed : TraceEntry) → slice_get trail i ≡ Some passed → is_notable passed.happened ≡ true → in_actives (k + i) (actives_from k trail) ≡ true
notable_in [] k i passed there notable = absurd (let no : slice_get {X = TraceEntry} [] i ≡ Some passed = there in cc)
notable_in (one ∷ trail) k zero passed there notable =
    let is : is_notable one.happened ≡ true = ap (λ (p : TraceEntry). is_notable p.happened) (some_is there) ∙ notable in
    subst (λ n. in_actives n (actives_from k (one ∷ trail)) ≡ true) (stays k)
    (first k (is_idle one.happened) (is_notable one.happened) (actives_from (k + 1) trail) (notable_active one.happened is) is)
  where
    stays : (k : ℕ) → k ≡ k + zero
    stays k = omega arith

    some_is : {x y : TraceEntry} → Some x ≡ Some y → x ≡ y
    some_is h = cc
notable_in (one ∷ trail) k (suc i) passed there notable =
    subst (λ n. in_actives n (actives_from k (one ∷ trail)) ≡ true) (shift k i)
    (behind (k + 1 + i) (is_idle one.happened) (record { place = k; is_notable = is_notable one.happened }) (actives_from (k + 1) trail)
    (notable_in trail (k + 1) i passed there notable))
  where
    shift : (k i : ℕ) → k + 1 + i ≡ k + suc i
    shift k i = omega arith

kept_notable : (actives : List Active) (n : ℕ) (active : Active) → active.is_notable ≡ true → is_kept actives n active ≡ true
unfolding is_kept
kept_notable actives n active h = or_left _ _ (or_left _ _ (or_left _ _ (or_left _ _ h)))

kept_in : (actives : List Active) (place n : ℕ) (rest : List Active) → in_actives place rest ≡ true → in_kept place (kept_from actives n rest) ≡ true
kept_in actives place n [] h = h
kept_in actives place n (active ∷ rest) h =
    either (active.place == place) active.is_notable (in_actives place rest) (is_kept actives n active) (in_kept place (kept_from actives (n + 1) rest))
    (kept_notable actives n active) (kept_in actives place (n + 1) rest) h

look_shown : (before : Bool) (one : Kept) (kept : List Kept) → one.is_kept ≡ true → is_shown (look_of before (one ∷ kept)) ≡ true
look_shown before one kept h = ap (λ b. is_shown (cond b Shown (cond before (Folds (stretch (one ∷ kept))) Hidden))) h

shown_in : (place : ℕ) (before : Bool) (next : ℕ) (kept : List Kept) → in_kept place kept ≡ true → shows place (rows_from before next kept) ≡ true
shown_in place before next [] h = h
shown_in place before next (one ∷ kept) h =
    either (one.place == place) one.is_kept (in_kept place kept) (is_shown (look_of before (one ∷ kept)))
    (shows place (rows_from one.is_kept (line_behind (look_of before (one ∷ kept)) next) kept))
    (look_shown before one kept) (shown_in place one.is_kept (line_behind (look_of before (one ∷ kept)) next) kept) h

pub notable_shown : (trail : List TraceEntry) (place : ℕ) (passed : TraceEntry) → slice_get trail place ≡ Some passed → is_notable passed.happened ≡ true
    → shows place (rows_from true 0 (kept_from (actives_from 0 trail) 0 (actives_from 0 trail))) ≡ true
notable_shown trail place passed there notable =
    shown_in place true 0 (kept_from (actives_from 0 trail) 0 (actives_from 0 trail))
    (kept_in (actives_from 0 trail) place 0 (actives_from 0 trail)
    (subst (λ n. in_actives n (actives_from 0 trail) ≡ true) (from_none place) (notable_in trail 0 place passed there notable)))
  where
    from_none : (n : ℕ) → 0 + n ≡ n
    from_none n = omega arith

-- ---- each event that did something

by_idle : (k : ℕ) (idle notable : Bool) (actives : List Active) (places : List ℕ) → map (λ (a : Active). a.place) actives ≡ places
    → map (λ (a : Active). a.place) (cond idle [] (record { place = k; is_notable = notable } ∷ []) ++ actives) ≡ cond idle places (k ∷ places)
by_idle k true notable actives places h = h
by_idle k false notable actives places h = ap (λ all. k ∷ all) h

active_places : (trail : List TraceEntry) (k : ℕ) → map (λ a. a.place) (actives_from k trail) ≡ places_from k trail
active_places [] k = refl
active_places (one ∷ trail) k =
    by_idle k (is_idle one.happened) (is_notable one.happened) (actives_from (k + 1) trail) (places_from (k + 1) trail) (active_places trail (k + 1))

kept_places : (actives : List Active) (n : ℕ) (rest : List Active) → map (λ a. a.place) (kept_from actives n rest) ≡ map (λ a. a.place) rest
kept_places actives n [] = refl
kept_places actives n (active ∷ rest) = ap (λ places. active.place ∷ places) (kept_places actives (n + 1) rest)

row_places : (before : Bool) (next : ℕ) (kept : List Kept) → map (λ row. row.place) (rows_from before next kept) ≡ map (λ one. one.place) kept
row_places before next [] = refl
row_places before next (one ∷ kept) = ap (λ places. one.place ∷ places) (row_places one.is_kept (line_behind (look_of before (one ∷ kept)) next) kept)

pub active_has_row : (trail : List TraceEntry) → map (λ row. row.place) (rows_from true 0 (kept_from (actives_from 0 trail) 0 (actives_from 0 trail))) ≡ places_from 0 trail
active_has_row trail = row_places true 0 (kept_from (actives_from 0 trail) 0 (actives_from 0 trail)) ∙ kept_places (actives_from 0 trail) 0 (actives_from 0 trail) ∙ active_places trail 0
