-- A history goes through a stream, entry by entry.
use Rattle.std.proofs.Common.{◌≡◌, ℕ, ◌+◌, List, [], ◌∷◌, map, cond, Option, Some, None, Result, Ok, Err, OnOk, option_to_list, refl, sym, ap, ◌∙◌}
use Rattle.std.proofs.lemmas.Bool.{eq-eqb}
use Rattle.nm_notify.specs.declared.notice.Notice.{Notice}
use Rattle.nm_notify.specs.Stream.{StreamState, after_taking, left_for, left_after, taken_from, oldest, with_notice, without_oldest}

-- what is told to one that has nothing left is what it takes, and nothing is left then
oldest_told : (told : Option Notice) → oldest (option_to_list told) ≡ told
oldest_told None = refl
oldest_told (Some x) = refl

rest_told : (told : Option Notice) → without_oldest (option_to_list told) ≡ []
rest_told None = refl
rest_told (Some x) = refl

pub takes_told : (number : ℕ) (told : Option Notice) → taken_from (left_for ((number, option_to_list told) ∷ []) number) ≡ told
takes_told number told =
    ap (λ b. taken_from (cond b (Some (option_to_list told)) None)) (eq-eqb number number refl) ∙ oldest_told told

pub takes_all : (number : ℕ) (told : Option Notice) → left_after ((number, option_to_list told) ∷ []) number ≡ (number, []) ∷ []
takes_all number told =
    ap (λ b. cond b ((number, without_oldest (option_to_list told)) ∷ []) ((number, option_to_list told) ∷ [])) (eq-eqb number number refl)
    ∙ ap (λ (l : List Notice). (number, l) ∷ []) (rest_told told)

-- it observes an entry, and its one subscriber takes what that tells
module _ (stream seen : StreamState) (number : ℕ) (told : Option Notice) (alone : stream.left ≡ (number, []) ∷ [])
    (is : seen ≡ record stream { entries = stream.entries + 1; left = map (with_notice told) stream.left }) where
  left_is : seen.left ≡ (number, option_to_list told) ∷ []
  left_is = ap (λ (s : StreamState). s.left) is ∙ ap (map (with_notice told)) alone

  pub takes_it : (taken : Option Notice) → taken ≡ taken_from (left_for seen.left number) → taken ≡ told
  takes_it taken e = e ∙ ap (λ l. taken_from (left_for l number)) left_is ∙ takes_told number told

  pub goes_on : (after : StreamState) → after ≡ after_taking seen number → after ≡ record stream { entries = stream.entries + 1 }
  goes_on after e =
      let rest : left_after seen.left number ≡ stream.left = ap (λ l. left_after l number) left_is ∙ takes_all number told ∙ sym alone in
      e ∙ ap (λ (s : StreamState). record s { left = left_after seen.left number }) is ∙ ap (λ l. record stream { entries = stream.entries + 1; left = l }) rest

-- what holds anyway holds where a call was answered
pub on_ok : {A E P : Type 0} (r : Result A E) → P → OnOk r P
on_ok (Ok x) p = p
on_ok (Err e) p = tt
