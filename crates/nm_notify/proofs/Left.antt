-- What is left for subscribers, as each call of a stream changes how far they have come.
use Rattle.std.proofs.Common.{◌≡◌, ◌≤◌, ◌<◌, ℕ, ◌+◌, ◌-◌, ◌==◌, nat_lt, nat_le, List, [], ◌∷◌, ◌++◌, length, map, filter, take, drop, set, get_or, suc, Bool, true, false, not, cond, ◌||◌, Option, Some, None, option_to_list, refl, sym, ap, ◌∙◌, arith, append-nil, length-append}
use Rattle.std.specs.List.{All, list_any}
use Rattle.std.proofs.lemmas.Bool.{ltb-true, ltb-false, lt-ltb, ne_eqb}
use Rattle.std.proofs.lemmas.Bool.Decides.{nat_tests}
use Rattle.std.proofs.lemmas.List.{drop-append-le, drop_all, drop_more, set_split}
use Rattle.std.proofs.lemmas.List.Elements.{All-nil, All-cons, All-head, All-tail, All-weaker, All-push}
use Rattle.std.proofs.lemmas.Option.{same_Some}
use Rattle.nm_notify.specs.declared.notice.Notice.{Notice}
use Rattle.nm_notify.specs.declared.notice.ConfirmEvent.TheVariants.{Start}
use Rattle.nm_notify.specs.declared.subscriber.Subscriber.{Subscriber}
use Rattle.nm_notify.specs.Stream.{greatest_number, number_after, subscriber_limit, with_notice, is_of, left_for, oldest, without_oldest, taken_from, left_after}
use Rattle.nm_notify.specs.Subscribers.{IsSubscriber, is_before, is_numbered, left_of, place_before, place_of, one_on, gone_on}

-- any notice, for lemmas on places that ask for one
abbrev some_notice : Notice
some_notice = record { position = 0; event = Start; session = None; timeout = None }

neither : (a b : Bool) → (a || b) ≡ false → (a ≡ false) × (b ≡ false)
neither true b h = absurd cc
neither false b h = (refl, h)

-- ---- a notice comes

pushed_left : (last gone : ℕ) (notices : List Notice) (x : Notice) (ss : List Subscriber) → All (IsSubscriber last gone (gone + length notices)) ss
    → left_of gone (notices ++ x ∷ []) ss ≡ map (with_notice (Some x)) (left_of gone notices ss)
pushed_left last gone notices x [] h = refl
pushed_left last gone notices x (s ∷ ss) h =
    let one = All-head (IsSubscriber last gone (gone + length notices)) s ss h in
    let near : s.place - gone ≤ length notices = omega (arith, one.low, one.high) in
    ap (λ l. (s.number, l) ∷ left_of gone (notices ++ x ∷ []) ss) (drop-append-le (s.place - gone) notices (x ∷ []) near)
    ∙ ap (λ rest. (s.number, drop (s.place - gone) notices ++ x ∷ []) ∷ rest)
    (pushed_left last gone notices x ss (All-tail (IsSubscriber last gone (gone + length notices)) s ss h))

-- nothing comes
kept_left : (ls : List (ℕ × List Notice)) → map (with_notice None) ls ≡ ls
kept_left [] = refl
kept_left (one ∷ ls) = ap (λ l. (one.0, l) ∷ map (with_notice None) ls) (append-nil one.1) ∙ ap (λ rest. one ∷ rest) (kept_left ls)

-- what is told comes, where anything is
pub told_left : (last gone : ℕ) (notices : List Notice) (told : Option Notice) (ss : List Subscriber) → All (IsSubscriber last gone (gone + length notices)) ss
    → left_of gone (notices ++ option_to_list told) ss ≡ map (with_notice told) (left_of gone notices ss)
told_left last gone notices None ss h = ap (λ ns. left_of gone ns ss) (append-nil notices) ∙ sym (kept_left (left_of gone notices ss))
told_left last gone notices (Some x) ss h = pushed_left last gone notices x ss h

pub told_length : (notices : List Notice) (told : Option Notice) → (length notices ≤ length (notices ++ option_to_list told)) × (length (notices ++ option_to_list told) ≤ length notices + 1)
told_length notices None = let e = length-append notices ([]) in (omega (arith, e), omega (arith, e))
told_length notices (Some x) = let e = length-append notices (x ∷ []) in (omega (arith, e), omega (arith, e))

-- there are more notices, or more numbers were given
pub wider : (last more gone end later : ℕ) (ss : List Subscriber) → last ≤ more → end ≤ later → All (IsSubscriber last gone end) ss → All (IsSubscriber more gone later) ss
wider last more gone end later ss given ends h =
    All-weaker (IsSubscriber last gone end) (IsSubscriber more gone later)
    (λ s one. record { low = one.low; high = omega (arith, one.high, ends); given = omega (arith, one.given, given) }) ss h

-- ---- everybody has taken everything

at_end : (last gone end : ℕ) (s : Subscriber) → IsSubscriber last gone end s → is_before end s ≡ false → s.place ≡ end
at_end last gone end s one past = let over : end ≤ s.place = ltb-false s.place end past in omega (arith, one.high, over)

pub forgotten_left : (last gone end : ℕ) (notices : List Notice) (ss : List Subscriber) → end ≡ gone + length notices → All (IsSubscriber last gone end) ss
    → list_any (is_before end) ss ≡ false → left_of end [] ss ≡ left_of gone notices ss
forgotten_left last gone end notices [] is h none = refl
forgotten_left last gone end notices (s ∷ ss) is h none =
    let both = neither (is_before end s) (list_any (is_before end) ss) none in
    let there : s.place ≡ end = at_end last gone end s (All-head (IsSubscriber last gone end) s ss h) both.0 in
    ap (λ l. (s.number, l) ∷ left_of end [] ss) (drop_all {X = Notice} (s.place - end) [] (omega arith) ∙ sym (drop_all (s.place - gone) notices (omega (arith, is, there))))
    ∙ ap (λ rest. (s.number, drop (s.place - gone) notices) ∷ rest)
    (forgotten_left last gone end notices ss is (All-tail (IsSubscriber last gone end) s ss h) both.1)

pub forgotten_all : (last gone end : ℕ) (ss : List Subscriber) → All (IsSubscriber last gone end) ss → list_any (is_before end) ss ≡ false → All (IsSubscriber last end end) ss
forgotten_all last gone end [] h none = All-nil (IsSubscriber last end end)
forgotten_all last gone end (s ∷ ss) h none =
    let both = neither (is_before end s) (list_any (is_before end) ss) none in
    let one = All-head (IsSubscriber last gone end) s ss h in
    let there : s.place ≡ end = at_end last gone end s one both.0 in
    All-cons (IsSubscriber last end end) s ss (record { low = omega (arith, there); high = omega (arith, there); given = one.given })
    (forgotten_all last gone end ss (All-tail (IsSubscriber last gone end) s ss h) both.1)

-- ---- somebody subscribes

pub length-left : (gone : ℕ) (notices : List Notice) (ss : List Subscriber) → length (left_of gone notices ss) ≡ length ss
length-left gone notices [] = refl
length-left gone notices (s ∷ ss) = omega (arith, length-left gone notices ss)

joined_left : (gone : ℕ) (notices : List Notice) (ss : List Subscriber) (s : Subscriber)
    → left_of gone notices (ss ++ s ∷ []) ≡ left_of gone notices ss ++ (s.number, drop (s.place - gone) notices) ∷ []
joined_left gone notices [] s = refl
joined_left gone notices (first ∷ ss) s = ap (λ rest. (first.number, drop (first.place - gone) notices) ∷ rest) (joined_left gone notices ss s)

pub subscribed_left : (gone : ℕ) (notices : List Notice) (ss : List Subscriber) (number place : ℕ) → place ≡ gone + length notices
    → left_of gone notices (ss ++ record { number = number; place = place } ∷ []) ≡ left_of gone notices ss ++ (number, []) ∷ []
subscribed_left gone notices ss number place is =
    joined_left gone notices ss (record { number = number; place = place })
    ∙ ap (λ (l : List Notice). left_of gone notices ss ++ (number, l) ∷ []) (drop_all (place - gone) notices (omega (arith, is)))

-- the one that comes behind has the next number, and the place behind all notices
pub subscribed_all : (last gone end number : ℕ) (ss : List Subscriber) → number ≡ last + 1 → gone ≤ end → All (IsSubscriber last gone end) ss
    → All (IsSubscriber number gone end) (ss ++ record { number = number; place = end } ∷ [])
subscribed_all last gone end number ss is ends h =
    All-push (IsSubscriber number gone end) ss (record { number = number; place = end }) (wider last number gone end end ss (omega (arith, is)) (omega arith) h)
    (record { low = ends; high = omega arith; given = omega arith })

if_none : (a b : Bool) (some number : ℕ) → cond (a || b) None (Some some) ≡ Some number → (a ≡ false) × (number ≡ some)
if_none true b some number h = absurd (let e : None ≡ Some number = h in cc)
if_none false true some number h = absurd (let e : None ≡ Some number = h in cc)
if_none false false some number h = (refl, let e : Some some ≡ Some number = h in cc)

below : (limit count : ℕ) → nat_le limit count ≡ false → count < limit
below limit count h = grind (arith, nat_tests)

-- the next number is one above the last, and there was room
pub number_is : (count last number : ℕ) → number_after count last ≡ Some number → (count < subscriber_limit) × (number ≡ last + 1)
number_is count last number h =
    let is = if_none (nat_le subscriber_limit count) (last == greatest_number) (last + 1) number h in
    (below subscriber_limit count is.0, is.1)

-- the next number is that of as many as there are
pub next_so : (gone : ℕ) (notices : List Notice) (ss : List Subscriber) (last count : ℕ) (given o : Option ℕ) → count ≡ length ss → given ≡ number_after count last → given ≡ o
    → number_after (length (left_of gone notices ss)) last ≡ o
next_so gone notices ss last count given o few is there = ap (λ n. number_after n last) (length-left gone notices ss ∙ sym few) ∙ sym is ∙ there

unnamed : (number k : ℕ) (own : List Notice) (others : Option (List Notice)) → (number == k) ≡ false → others ≡ None → cond (number == k) (Some own) others ≡ None
unnamed number k own others other none = ap (λ b. cond b (Some own) others) other ∙ none

-- nobody has a number that wasn't given
pub fresh_left : (last gone end : ℕ) (notices : List Notice) (ss : List Subscriber) (k : ℕ) → last < k → All (IsSubscriber last gone end) ss → left_for (left_of gone notices ss) k ≡ None
fresh_left last gone end notices [] k above h = refl
fresh_left last gone end notices (s ∷ ss) k above h =
    let one = All-head (IsSubscriber last gone end) s ss h in
    let other : (s.number == k) ≡ false = ne_eqb s.number k (λ e. omega (arith, e, above, one.given)) in
    unnamed s.number k (drop (s.place - gone) notices) (left_for (left_of gone notices ss) k) other
    (fresh_left last gone end notices ss k above (All-tail (IsSubscriber last gone end) s ss h))

-- ---- a subscriber takes

-- a place that is told is before the end
before_end : (end at place : ℕ) (b : Bool) → nat_lt at end ≡ b → cond b (Some at) None ≡ Some place → (at ≡ place) × (at < end)
before_end end at place true is e = (same_Some at place e, ltb-true at end is)
before_end end at place false is e = absurd (let no : None ≡ Some place = e in cc)

-- the place from which something is left for who has it
pub record IsLeft (gone end : ℕ) (left : Option (List Notice)) (notices : List Notice) (place : ℕ) : Type 0 where
  pub low : gone ≤ place
  pub high : place < end
  pub left_is : left ≡ Some (drop (place - gone) notices)

own_place : (last gone end : ℕ) (notices : List Notice) (s : Subscriber) (others : Option (List Notice)) (more : Option ℕ) (place : ℕ) (b : Bool) → IsSubscriber last gone end s
    → (more ≡ Some place → IsLeft gone end others notices place) → cond b (place_before end s.place) more ≡ Some place
    → IsLeft gone end (cond b (Some (drop (s.place - gone) notices)) others) notices place
own_place last gone end notices s others more place true one rest e =
    let at = before_end end s.place place (nat_lt s.place end) refl e in
    record { low = omega (arith, one.low, at.0); high = omega (arith, at.0, at.1); left_is = ap (λ p. Some (drop (p - gone) notices)) at.0 }
own_place last gone end notices s others more place false one rest e = rest e

pub place_left : (last gone end : ℕ) (notices : List Notice) (number : ℕ) (ss : List Subscriber) (place : ℕ) → All (IsSubscriber last gone end) ss
    → place_of number end ss ≡ Some place → IsLeft gone end (left_for (left_of gone notices ss) number) notices place
place_left last gone end notices number [] place h e = absurd (let no : None ≡ Some place = e in cc)
place_left last gone end notices number (s ∷ ss) place h e =
    own_place last gone end notices s (left_for (left_of gone notices ss) number) (place_of number end ss) place (s.number == number)
    (All-head (IsSubscriber last gone end) s ss h)
    (place_left last gone end notices number ss place (All-tail (IsSubscriber last gone end) s ss h)) e

-- the oldest of what is left there
pub oldest_left : (notices : List Notice) (i : ℕ) (d : Notice) → i < length notices → oldest (drop i notices) ≡ Some (get_or notices i d)
oldest_left notices i d less = ap oldest (drop_more notices i d less)

past_end : (end at : ℕ) (b : Bool) → nat_lt at end ≡ b → cond b (Some at) None ≡ None → end ≤ at
past_end end at true is e = absurd (let no : Some at ≡ None = e in cc)
past_end end at false is e = ltb-false at end is

none_one : (last gone end : ℕ) (notices : List Notice) (s : Subscriber) (others : Option (List Notice)) (more : Option ℕ) (b : Bool) → end ≡ gone + length notices
    → (more ≡ None → taken_from others ≡ None) → cond b (place_before end s.place) more ≡ None
    → taken_from (cond b (Some (drop (s.place - gone) notices)) others) ≡ None
none_one last gone end notices s others more true is rest e =
    let over : end ≤ s.place = past_end end s.place (nat_lt s.place end) refl e in ap oldest (drop_all (s.place - gone) notices (omega (arith, is, over)))
none_one last gone end notices s others more false is rest e = rest e

-- nothing is left, or nobody is there
pub none_left : (last gone end : ℕ) (notices : List Notice) (number : ℕ) (ss : List Subscriber) → end ≡ gone + length notices → place_of number end ss ≡ None
    → taken_from (left_for (left_of gone notices ss) number) ≡ None
none_left last gone end notices number [] is e = refl
none_left last gone end notices number (s ∷ ss) is e =
    none_one last gone end notices s (left_for (left_of gone notices ss) number) (place_of number end ss) (s.number == number) is (none_left last gone end notices number ss is) e

next_one : (last gone end : ℕ) (notices : List Notice) (s : Subscriber) (rest : List (ℕ × List Notice)) (b : Bool) → nat_lt s.place end ≡ b → end ≡ gone + length notices
    → IsSubscriber last gone end s
    → ((cond b (record s { place = s.place + 1 }) s).number, drop ((cond b (record s { place = s.place + 1 }) s).place - gone) notices) ∷ rest
    ≡ (s.number, without_oldest (drop (s.place - gone) notices)) ∷ rest
next_one last gone end notices s rest true less is one =
    let within : s.place < end = ltb-true s.place end less in
    let next : s.place + 1 - gone ≡ s.place - gone + 1 = omega (arith, one.low) in
    ap (λ i. (s.number, drop i notices) ∷ rest) next
    ∙ ap (λ l. (s.number, l) ∷ rest) (sym (ap without_oldest (drop_more notices (s.place - gone) some_notice (omega (arith, within, is, one.low)))))
next_one last gone end notices s rest false less is one =
    let over : end ≤ s.place = ltb-false s.place end less in
    let none = drop_all (s.place - gone) notices (omega (arith, over, is)) in
    ap (λ l. (s.number, l) ∷ rest) (none ∙ sym (ap without_oldest none))

taken_one : (last gone end : ℕ) (notices : List Notice) (number : ℕ) (s : Subscriber) (ss : List Subscriber) (b : Bool) → end ≡ gone + length notices → IsSubscriber last gone end s
    → left_of gone notices (gone_on number end ss) ≡ left_after (left_of gone notices ss) number
    → left_of gone notices (cond b (one_on end s ∷ ss) (s ∷ gone_on number end ss))
    ≡ cond b ((s.number, without_oldest (drop (s.place - gone) notices)) ∷ left_of gone notices ss)
    ((s.number, drop (s.place - gone) notices) ∷ left_after (left_of gone notices ss) number)
taken_one last gone end notices number s ss true is one rest = next_one last gone end notices s (left_of gone notices ss) (nat_lt s.place end) refl is one
taken_one last gone end notices number s ss false is one rest = ap (λ r. (s.number, drop (s.place - gone) notices) ∷ r) rest

pub taken_left : (last gone end : ℕ) (notices : List Notice) (number : ℕ) (ss : List Subscriber) → end ≡ gone + length notices → All (IsSubscriber last gone end) ss
    → left_of gone notices (gone_on number end ss) ≡ left_after (left_of gone notices ss) number
taken_left last gone end notices number [] is h = refl
taken_left last gone end notices number (s ∷ ss) is h =
    taken_one last gone end notices number s ss (s.number == number) is (All-head (IsSubscriber last gone end) s ss h)
    (taken_left last gone end notices number ss is (All-tail (IsSubscriber last gone end) s ss h))

on_one : (last gone end : ℕ) (s : Subscriber) (b : Bool) → nat_lt s.place end ≡ b → IsSubscriber last gone end s → IsSubscriber last gone end (cond b (record s { place = s.place + 1 }) s)
on_one last gone end s true less one =
    let within : s.place < end = ltb-true s.place end less in record { low = omega (arith, one.low); high = omega (arith, within); given = one.given }
on_one last gone end s false less one = one

all_one : (last gone end number : ℕ) (s : Subscriber) (ss : List Subscriber) (b : Bool) → IsSubscriber last gone end s → All (IsSubscriber last gone end) ss
    → All (IsSubscriber last gone end) (gone_on number end ss) → All (IsSubscriber last gone end) (cond b (one_on end s ∷ ss) (s ∷ gone_on number end ss))
all_one last gone end number s ss true one all rest = All-cons (IsSubscriber last gone end) (one_on end s) ss (on_one last gone end s (nat_lt s.place end) refl one) all
all_one last gone end number s ss false one all rest = All-cons (IsSubscriber last gone end) s (gone_on number end ss) one rest

pub taken_all : (last gone end number : ℕ) (ss : List Subscriber) → All (IsSubscriber last gone end) ss → All (IsSubscriber last gone end) (gone_on number end ss)
taken_all last gone end number [] h = h
taken_all last gone end number (s ∷ ss) h =
    let all = All-tail (IsSubscriber last gone end) s ss h in
    all_one last gone end number s ss (s.number == number) (All-head (IsSubscriber last gone end) s ss h) all (taken_all last gone end number ss all)

-- the one of a place has taken what was next for it, and it was the first of its number
pub stepped_so : (number end : ℕ) (ss first : List Subscriber) (at : ℕ) (s : Subscriber) → at < length ss → s ≡ get_or ss at s → is_numbered number s ≡ true → s.place < end → ss ≡ first
    → take at ss ++ gone_on number end (drop at ss) ≡ gone_on number end ss → set ss at (record s { place = s.place + 1 }) ≡ gone_on number end first
stepped_so number end ss first at s within is named before same so_far =
    let later : Subscriber = record s { place = s.place + 1 } in
    let next : suc at ≡ at + 1 = omega arith in
    let left : drop at ss ≡ s ∷ drop (at + 1) ss = drop_more ss at s within ∙ ap (λ x. x ∷ drop (at + 1) ss) (sym is) in
    let on : gone_on number end (s ∷ drop (at + 1) ss) ≡ later ∷ drop (at + 1) ss =
    ap (λ b. cond b (one_on end s ∷ drop (at + 1) ss) (s ∷ gone_on number end (drop (at + 1) ss))) named
    ∙ ap (λ b. cond b later s ∷ drop (at + 1) ss) (lt-ltb s.place end before) in
    set_split ss at later within ∙ ap (λ k. take at ss ++ later ∷ drop k ss) next ∙ ap (λ l. take at ss ++ l) (sym on)
    ∙ ap (λ l. take at ss ++ gone_on number end l) (sym left) ∙ so_far ∙ ap (gone_on number end) same

-- ---- a subscriber leaves

gone_one : (gone : ℕ) (notices : List Notice) (s : Subscriber) (ss : List Subscriber) (rest : List (ℕ × List Notice)) (b : Bool) → left_of gone notices ss ≡ rest
    → left_of gone notices (cond (not b) (s ∷ ss) ss) ≡ cond (not b) ((s.number, drop (s.place - gone) notices) ∷ rest) rest
gone_one gone notices s ss rest true same = same
gone_one gone notices s ss rest false same = ap (λ r. (s.number, drop (s.place - gone) notices) ∷ r) same

pub without_left : (gone : ℕ) (notices : List Notice) (number : ℕ) (ss : List Subscriber)
    → left_of gone notices (filter (λ s. not (is_numbered number s)) ss) ≡ filter (λ one. not (is_of number one)) (left_of gone notices ss)
without_left gone notices number [] = refl
without_left gone notices number (s ∷ ss) =
    gone_one gone notices s (filter (λ o. not (is_numbered number o)) ss) (filter (λ one. not (is_of number one)) (left_of gone notices ss)) (s.number == number)
    (without_left gone notices number ss)

pub any_left : (gone : ℕ) (notices : List Notice) (number : ℕ) (ss : List Subscriber) → list_any (is_numbered number) ss ≡ list_any (is_of number) (left_of gone notices ss)
any_left gone notices number [] = refl
any_left gone notices number (s ∷ ss) = ap (λ b. (s.number == number) || b) (any_left gone notices number ss)

kept_one : {A : Type 0} (b : Bool) (x : A) (xs ys : List A) → b ≡ false → xs ≡ ys → cond (not b) (x ∷ xs) xs ≡ x ∷ ys
kept_one true x xs ys h e = absurd cc
kept_one false x xs ys h e = ap (λ rest. x ∷ rest) e

-- where nobody has the number, nobody leaves
pub all_stay : (number : ℕ) (ls : List (ℕ × List Notice)) → list_any (is_of number) ls ≡ false → filter (λ one. not (is_of number one)) ls ≡ ls
all_stay number [] h = refl
all_stay number (one ∷ ls) h =
    let both = neither (is_of number one) (list_any (is_of number) ls) h in
    kept_one (is_of number one) one (filter (λ o. not (is_of number o)) ls) ls both.0 (all_stay number ls both.1)
