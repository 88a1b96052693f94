-- What is granted, given back and forgotten leaves the ids in their order.
use Rattle.std.proofs.Common.{◌≡◌, ℕ, ◌+◌, ◌<◌, ◌≤◌, ◌==◌, Bool, true, false, not, cond, ◌||◌, nat_le, List, [], ◌∷◌, ◌++◌, length, map, filter, get_or, Some, None, ap, ◌∙◌, refl, arith, length-append}
use Rattle.std.proofs.lemmas.Bool.Decides.{nat_tests}
use Rattle.std.proofs.lemmas.List.{get_or-map, length-map}
use Rattle.std.proofs.lemmas.List.Elements.{All-push, All-weaker, All-filter, All-map}
use Rattle.std.proofs.lemmas.List.Filters.{length-filter_both}
use Rattle.std.proofs.lemmas.List.Kept.{AllPairs-filter}
use Rattle.std.proofs.lemmas.List.Quantifiers.{all_pairs_push}
use Rattle.nm_partial.specs.Partial.{PartialLock, PartialState, IsNumbered, granted, lock_limit, greatest_id, next_id}

if_none : (a b : Bool) (some id : ℕ) → cond (a || b) None (Some some) ≡ Some id → (a ≡ false) × (id ≡ some)
if_none true b some id h = absurd (let e : None ≡ Some id = h in cc)
if_none false true some id h = absurd (let e : None ≡ Some id = h in cc)
if_none false false some id h = (refl, let e : Some some ≡ Some id = h in cc)

below : (limit count : ℕ) → nat_le limit count ≡ false → count < limit
below limit count h = grind (arith, nat_tests)

module _ {Node : Type 0} where
  pub numbered-none : (last : ℕ) → IsNumbered {Node = Node} (record { locks = []; last = last })
  numbered-none last = record {
    ascending = λ i j d h k. absurd (omega arith);
    given = λ k d h. absurd (omega arith);
    few = omega arith;
  }

  pub numbered-granted : (partials : PartialState Node) (session : ℕ) (nodes : List Node) → IsNumbered partials → length partials.locks < lock_limit → IsNumbered (granted partials session nodes)
  numbered-granted partials session nodes n room =
      let new : PartialLock Node = record { id = partials.last + 1; session = session; nodes = nodes } in
      record {
        ascending = all_pairs_push (λ one other. one.id < other.id) partials.locks new n.ascending (λ k d h. let below = n.given k d h in omega (arith, below.1));
        given = All-push (λ lock. (1 ≤ lock.id) × (lock.id ≤ partials.last + 1)) partials.locks new
            (All-weaker (λ lock. (1 ≤ lock.id) × (lock.id ≤ partials.last)) (λ lock. (1 ≤ lock.id) × (lock.id ≤ partials.last + 1))
            (λ lock h. (h.0, omega (arith, h.1))) partials.locks n.given)
            (omega arith, omega arith);
        few = omega (arith, length-append partials.locks (new ∷ []));
      }

  -- the next id, where there is one, goes to the lock that comes
  pub numbered-next : (partials : PartialState Node) (session id : ℕ) (nodes : List Node) (locks : List (PartialLock Node)) → IsNumbered partials → next_id partials ≡ Some id
      → locks ≡ partials.locks ++ record { id = id; session = session; nodes = nodes } ∷ [] → IsNumbered (record { locks = locks; last = id })
  numbered-next partials session id nodes locks n next pushed =
      let is = if_none (nat_le lock_limit (length partials.locks)) (partials.last == greatest_id) (partials.last + 1) id next in
      rw (pushed, is.1) (numbered-granted partials session nodes n (below lock_limit (length partials.locks) is.0))

  pub numbered-filter : (keeps : PartialLock Node → Bool) (locks : List (PartialLock Node)) (last : ℕ) → IsNumbered (record { locks = locks; last = last }) → IsNumbered (record { locks = filter keeps locks; last = last })
  numbered-filter keeps locks last n = record {
    ascending = AllPairs-filter (λ one other. one.id < other.id) keeps locks n.ascending;
    given = All-filter keeps (λ lock. (1 ≤ lock.id) × (lock.id ≤ last)) locks n.given;
    few = omega (arith, n.few, length-filter_both keeps (λ lock. not (keeps lock)) (λ lock. refl) locks);
  }

  -- a change of each lock that keeps its id
  pub numbered-map : (change : PartialLock Node → PartialLock Node) → ((lock : PartialLock Node) → (change lock).id ≡ lock.id) → (locks : List (PartialLock Node)) (last : ℕ)
      → IsNumbered (record { locks = locks; last = last }) → IsNumbered (record { locks = map change locks; last = last })
  numbered-map change keeps locks last n =
      let long = length-map locks change in
      record {
        ascending = λ i j d h k.
            let there : j < length locks = omega (arith, long) in
            let here : i < length locks = omega arith in
            let one : (get_or (map change locks) i d).id ≡ (get_or locks i d).id = ap (λ lock. lock.id) (get_or-map change locks i d d here) ∙ keeps (get_or locks i d) in
            let other : (get_or (map change locks) j d).id ≡ (get_or locks j d).id = ap (λ lock. lock.id) (get_or-map change locks j d d there) ∙ keeps (get_or locks j d) in
            omega (arith, one, other, n.ascending i j d h there);
        given = All-map (λ lock. (1 ≤ lock.id) × (lock.id ≤ last)) change locks (All-weaker (λ lock. (1 ≤ lock.id) × (lock.id ≤ last)) (λ lock. (1 ≤ (change lock).id) × ((change lock).id ≤ last))
            (λ lock h. rw (keeps lock) h) locks n.given);
        few = omega (arith, n.few, long);
      }
