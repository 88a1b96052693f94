-- Groups of parts make the groups of the whole, and each end is there once.
use Rattle.std.proofs.Common.{◌≡◌, ℕ, ◌+◌, List, [], ◌∷◌, ◌++◌, Bool, true, false, cond, ◌&&◌, ◌||◌, not, refl, sym, ap, ◌∙◌, arith}
use Rattle.std.specs.Cmp.{IsEquivalence}
use Rattle.std.proofs.lemmas.List.Sums.{fold-append}
use Rattle.nm_explore_groups.specs.declared.group.Group.{Group}
use Rattle.nm_explore_groups.specs.Groups.{added, grouped, has, is_each_once, joined, merged}

turned : (a b c : ℕ) → a + b + c ≡ a + c + b
turned a b c = omega arith

together : (a b c : ℕ) → a + b + c ≡ a + (b + c)
together a b c = omega arith

or_true : (b : Bool) → (b || true) ≡ true
or_true true = refl
or_true false = refl

or_none : (b : Bool) → (b || false) ≡ b
or_none true = refl
or_none false = refl

module _ {End : Type 0} (alike : End → End → Bool) where
  -- one more behind a group
  pub added_by : (b : Bool) (x more : Group End) (gs : List (Group End)) → alike x.end more.end ≡ b
      → added alike (x ∷ gs) more ≡ cond b (joined x more ∷ gs) (x ∷ added alike gs more)
  added_by b x more gs e = ap (λ c. cond c (joined x more ∷ gs) (x ∷ added alike gs more)) e

module _ {End : Type 0} (alike : End → End → Bool) (laws : IsEquivalence alike) where
  -- ends that are alike are so to every other
  pub carried : (a b c : End) → alike a b ≡ true → alike c a ≡ alike c b
  carried a b c e = laws.symm c a ∙ laws.congr a b c e ∙ laws.symm b c

  has_alike : (a b : End) (gs : List (Group End)) → alike a b ≡ true → has alike a gs ≡ has alike b gs
  has_alike a b [] e = refl
  has_alike a b (x ∷ gs) e = ap (λ c. c || has alike a gs) (carried a b x.end e) ∙ ap (λ c. alike x.end b || c) (has_alike a b gs e)

  has_added : (end : End) (more : Group End) (gs : List (Group End)) → has alike end (added alike gs more) ≡ (has alike end gs || alike more.end end)
  has_added end more [] = or_none (alike more.end end)
  has_added end more (x ∷ gs) = by_same (has_added end more gs) (alike x.end more.end) refl
    where
      twice : (b c : Bool) → (b || c) ≡ ((b || c) || b)
      twice true c = refl
      twice false c = sym (or_none c)

      nested : (b c d : Bool) → (b || (c || d)) ≡ ((b || c) || d)
      nested true c d = refl
      nested false c d = refl

      by_same : has alike end (added alike gs more) ≡ (has alike end gs || alike more.end end) → (b : Bool) → alike x.end more.end ≡ b
          → has alike end (added alike (x ∷ gs) more) ≡ ((alike x.end end || has alike end gs) || alike more.end end)
      by_same rest true e =
          ap (has alike end) (added_by alike true x more gs e) ∙ twice (alike x.end end) (has alike end gs)
          ∙ ap (λ c. (alike x.end end || has alike end gs) || c) (laws.congr x.end more.end end e)
      by_same rest false e =
          ap (has alike end) (added_by alike false x more gs e) ∙ ap (λ c. alike x.end end || c) rest
          ∙ nested (alike x.end end) (has alike end gs) (alike more.end end)

  stays : (end : End) (h : Group End) (gs : List (Group End)) → has alike end gs ≡ true → has alike end (added alike gs h) ≡ true
  stays end h gs there = has_added end h gs ∙ ap (λ c. c || alike h.end end) there

  there_now : (g : Group End) (gs : List (Group End)) → has alike g.end (added alike gs g) ≡ true
  there_now g gs = has_added g.end g gs ∙ ap (λ c. has alike g.end gs || c) (laws.refl g.end) ∙ or_true (has alike g.end gs)

  -- ---- each end is there once

  once_added : (more : Group End) (gs : List (Group End)) → is_each_once alike gs ≡ true → is_each_once alike (added alike gs more) ≡ true
  once_added more [] once = refl
  once_added more (x ∷ gs) once = by_same (once_added more gs) (alike x.end more.end) refl
    where
      and_left : (b c : Bool) → (b && c) ≡ true → b ≡ true
      and_left true c e = refl
      and_left false c e = absurd (let f : false ≡ true = e in cc)

      and_right : (b c : Bool) → (b && c) ≡ true → c ≡ true
      and_right true c e = e
      and_right false c e = absurd (let f : false ≡ true = e in cc)

      by_same : (is_each_once alike gs ≡ true → is_each_once alike (added alike gs more) ≡ true) → (b : Bool) → alike x.end more.end ≡ b
          → is_each_once alike (added alike (x ∷ gs) more) ≡ true
      by_same rest true e = ap (is_each_once alike) (added_by alike true x more gs e) ∙ once
      by_same rest false e =
          ap (is_each_once alike) (added_by alike false x more gs e)
          ∙ ap (λ c. not c && is_each_once alike (added alike gs more))
          (has_added x.end more gs ∙ ap (λ c. has alike x.end gs || c) (laws.symm more.end x.end ∙ e) ∙ or_none (has alike x.end gs))
          ∙ ap (λ c. c && is_each_once alike (added alike gs more)) (and_left (not (has alike x.end gs)) (is_each_once alike gs) once)
          ∙ rest (and_right (not (has alike x.end gs)) (is_each_once alike gs) once)

  once_merged : (gs runs : List (Group End)) → is_each_once alike gs ≡ true → is_each_once alike (merged alike gs runs) ≡ true
  once_merged gs [] once = once
  once_merged gs (run ∷ runs) once = once_merged (added alike gs run) runs (once_added run gs once)

  pub each_once : (runs : List (Group End)) → is_each_once alike (grouped alike runs) ≡ true
  each_once runs = once_merged [] runs refl

  -- ---- parts make the whole

  -- two additions change places, where the later one's end is there before
  swap : (g h : Group End) (gs : List (Group End)) → has alike g.end gs ≡ true → added alike (added alike gs h) g ≡ added alike (added alike gs g) h
  swap g h [] there = absurd (let e : false ≡ true = there in cc)
  swap g h (x ∷ gs) there = by_both (λ later. swap g h gs later) (alike x.end h.end) refl (alike x.end g.end) refl
    where
      twice : alike x.end h.end ≡ true → alike x.end g.end ≡ true → added alike (joined x h ∷ gs) g ≡ added alike (joined x g ∷ gs) h
      twice a b =
          added_by alike true (joined x h) g gs b ∙ ap (λ n. record x { runs = n } ∷ gs) (turned x.runs h.runs g.runs) ∙ sym (added_by alike true (joined x g) h gs a)

      apart : alike x.end g.end ≡ false → has alike g.end gs ≡ true
      apart b = ap (λ c. c || has alike g.end gs) (sym b) ∙ there

      by_both : (has alike g.end gs ≡ true → added alike (added alike gs h) g ≡ added alike (added alike gs g) h) → (a : Bool) → alike x.end h.end ≡ a
          → (b : Bool) → alike x.end g.end ≡ b → added alike (added alike (x ∷ gs) h) g ≡ added alike (added alike (x ∷ gs) g) h
      by_both rest true a true b =
          ap (λ xs. added alike xs g) (added_by alike true x h gs a) ∙ twice a b ∙ ap (λ xs. added alike xs h) (sym (added_by alike true x g gs b))
      by_both rest true a false b =
          ap (λ xs. added alike xs g) (added_by alike true x h gs a) ∙ added_by alike false (joined x h) g gs b
          ∙ sym (ap (λ xs. added alike xs h) (added_by alike false x g gs b) ∙ added_by alike true x h (added alike gs g) a)
      by_both rest false a true b =
          ap (λ xs. added alike xs g) (added_by alike false x h gs a) ∙ added_by alike true x g (added alike gs h) b
          ∙ sym (ap (λ xs. added alike xs h) (added_by alike true x g gs b) ∙ added_by alike false (joined x g) h gs a)
      by_both rest false a false b =
          ap (λ xs. added alike xs g) (added_by alike false x h gs a) ∙ added_by alike false x g (added alike gs h) b ∙ ap (λ others. x ∷ others) (rest (apart b))
          ∙ sym (ap (λ xs. added alike xs h) (added_by alike false x g gs b) ∙ added_by alike false x h (added alike gs g) a)

  -- what is there already may come last
  past : (g : Group End) (gs hs : List (Group End)) → has alike g.end gs ≡ true → added alike (merged alike gs hs) g ≡ merged alike (added alike gs g) hs
  past g gs [] there = refl
  past g gs (h ∷ hs) there = past g (added alike gs h) hs (stays g.end h gs there) ∙ ap (λ xs. merged alike xs hs) (swap g h gs there)

  -- one end twice
  both : (g h : Group End) (gs : List (Group End)) → alike h.end g.end ≡ true → added alike (added alike gs h) g ≡ added alike gs (joined h g)
  both g h [] same = added_by alike true h g [] same
  both g h (x ∷ gs) same = by_same (both g h gs same) (alike x.end h.end) refl
    where
      by_same : added alike (added alike gs h) g ≡ added alike gs (joined h g) → (b : Bool) → alike x.end h.end ≡ b
          → added alike (added alike (x ∷ gs) h) g ≡ added alike (x ∷ gs) (joined h g)
      by_same rest true e =
          ap (λ xs. added alike xs g) (added_by alike true x h gs e)
          ∙ added_by alike true (joined x h) g gs (sym (carried h.end g.end x.end same) ∙ e)
          ∙ ap (λ n. record x { runs = n } ∷ gs) (together x.runs h.runs g.runs) ∙ sym (added_by alike true x (joined h g) gs e)
      by_same rest false e =
          ap (λ xs. added alike xs g) (added_by alike false x h gs e)
          ∙ added_by alike false x g (added alike gs h) (sym (carried h.end g.end x.end same) ∙ e)
          ∙ ap (λ others. x ∷ others) rest ∙ sym (added_by alike false x (joined h g) gs e)

  -- one more in the later part is one more in the whole
  more : (g : Group End) (gs hs : List (Group End)) → merged alike gs (added alike hs g) ≡ added alike (merged alike gs hs) g
  more g gs [] = refl
  more g gs (h ∷ hs) = by_same (more g (added alike gs h) hs) (alike h.end g.end) refl
    where
      there : alike h.end g.end ≡ true → has alike g.end (added alike gs h) ≡ true
      there e = sym (has_alike h.end g.end (added alike gs h) e) ∙ there_now h gs

      by_same : merged alike (added alike gs h) (added alike hs g) ≡ added alike (merged alike (added alike gs h) hs) g → (b : Bool) → alike h.end g.end ≡ b
          → merged alike gs (added alike (h ∷ hs) g) ≡ added alike (merged alike gs (h ∷ hs)) g
      by_same rest true e =
          ap (merged alike gs) (added_by alike true h g hs e) ∙ ap (λ xs. merged alike xs hs) (sym (both g h gs e)) ∙ sym (past g (added alike gs h) hs (there e))
      by_same rest false e = ap (merged alike gs) (added_by alike false h g hs e) ∙ rest

  onward : (gs hs runs : List (Group End)) → merged alike gs (merged alike hs runs) ≡ merged alike (merged alike gs hs) runs
  onward gs hs [] = refl
  onward gs hs (g ∷ runs) = onward gs (added alike hs g) runs ∙ ap (λ xs. merged alike xs runs) (more g gs hs)

  pub in_parts : (xs ys : List (Group End)) → merged alike (grouped alike xs) (grouped alike ys) ≡ grouped alike (xs ++ ys)
  in_parts xs ys = onward (grouped alike xs) [] ys ∙ sym (fold-append (added alike) [] xs ys)
