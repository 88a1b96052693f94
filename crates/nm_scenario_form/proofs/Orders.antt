-- The order of faults: of two first ones one is the other, and what comes first of faults that are put together.
use Rattle.std.proofs.Common.{◌≡◌, ◌≤◌, ◌<◌, inl, inr, ℕ, suc, List, [], ◌∷◌, refl, ap, sym, subst, ◌∙◌, arith, slice_index_or}
use Rattle.nm_proto.specs.declared.kind.ScenarioKind.{ScenarioKind}
use Rattle.nm_proto.specs.declared.kind.ScenarioKind.TheVariants.{TooLong, NotJson, NotBuilt, Missing, Unknown, BadValue, TooMany, Yang, Schema, Content, Invalid}
use Rattle.nm_scenario_form.specs.declared.fault.Step.{Step}
use Rattle.nm_scenario_form.specs.declared.fault.Cause.{Cause}
use Rattle.nm_scenario_form.specs.declared.fault.Fault.{Fault}
use Rattle.nm_scenario_form.specs.Reading.{plain}
use Rattle.nm_scenario_form.specs.Order.{Faults, rank, NotAfter, IsFirst, Either, Here, At, Inside}

-- ---- of two first faults one is the other

abbrev kinds : List ScenarioKind
kinds = TooLong ∷ NotJson ∷ NotBuilt ∷ Missing ∷ Unknown ∷ BadValue ∷ TooMany ∷ Yang ∷ Schema ∷ Content ∷ Invalid ∷ []

ranked : (k : ScenarioKind) → slice_index_or kinds (rank k) TooLong ≡ k
ranked TooLong = refl
ranked NotJson = refl
ranked NotBuilt = refl
ranked Missing = refl
ranked Unknown = refl
ranked BadValue = refl
ranked TooMany = refl
ranked Yang = refl
ranked Schema = refl
ranked Content = refl
ranked Invalid = refl

rank_same : (k l : ScenarioKind) → rank k ≡ rank l → k ≡ l
rank_same k l e = sym (ranked k) ∙ (ap (λ n. slice_index_or kinds n TooLong) e ∙ ranked l)

both_not_after : (s t : List ℕ) (k l : ScenarioKind) → NotAfter s k t l → NotAfter t l s k → (s ≡ t) × (k ≡ l)
unfolding NotAfter
both_not_after [] [] k l a b = (refl, rank_same k l (omega arith))
both_not_after [] (m ∷ ms) k l a b = absurd b
both_not_after (n ∷ ns) [] k l a b = absurd a
both_not_after (n ∷ ns) (m ∷ ms) k l (inl less) (inl more) = absurd (omega arith)
both_not_after (n ∷ ns) (m ∷ ms) k l (inl less) (inr same) = let e : m ≡ n = same.0 in absurd (omega arith)
both_not_after (n ∷ ns) (m ∷ ms) k l (inr same) (inl more) = let e : n ≡ m = same.0 in absurd (omega arith)
both_not_after (n ∷ ns) (m ∷ ms) k l (inr same) (inr also) =
    let rest : (ns ≡ ms) × (k ≡ l) = both_not_after ns ms k l same.1 also.1 in
    let e : n ≡ m = same.0 in
    let f : ns ≡ ms = rest.0 in
    (cc, rest.1)

pub first_one : (wrong : Faults) (fault other : Fault) → IsFirst wrong fault → IsFirst wrong other → fault ≡ other
first_one wrong fault other f g =
    let same : (f.spot ≡ g.spot) × (fault.cause.kind ≡ other.cause.kind) =
    both_not_after f.spot g.spot fault.cause.kind other.cause.kind (f.first other.cause other.place g.spot g.there)
    (g.first fault.cause fault.place f.spot f.there) in
    let beside : wrong other.cause other.place f.spot = subst (λ s. wrong other.cause other.place s) (sym same.0) g.there in
    let e : (other.cause ≡ fault.cause) × (other.place ≡ fault.place) = f.alone other.cause other.place beside (sym same.1) in
    λ i. record { cause = sym e.0 i; place = sym e.1 i }

-- ---- faults of which the first ones come before the later ones

pub record Precedes (early late : Faults) : Type 0 where
  pub not_after : (c d : Cause) (p q : List Step) (s t : List ℕ) → early c p s → late d q t → NotAfter s c.kind t d.kind
  pub apart : (c d : Cause) (p q : List Step) (s : List ℕ) → early c p s → late d q s → d.kind ≡ c.kind → ⊥

-- the first of the early ones is the first of all
pub early_first : (early late : Faults) (fault : Fault) → Precedes early late → IsFirst early fault → IsFirst (Either early late) fault
early_first early late fault order f = record {
  spot = f.spot;
  there = inl f.there;
  first = λ cause place other wrong. first_of_all cause place other wrong;
  alone = λ cause place wrong same. alone_of_all cause place wrong same;
}
  where
    first_of_all : (cause : Cause) (place : List Step) (other : List ℕ) → Either early late cause place other
        → NotAfter f.spot fault.cause.kind other cause.kind
    first_of_all cause place other (inl wrong) = f.first cause place other wrong
    first_of_all cause place other (inr wrong) = order.not_after fault.cause cause fault.place place f.spot other f.there wrong

    alone_of_all : (cause : Cause) (place : List Step) → Either early late cause place f.spot → cause.kind ≡ fault.cause.kind
        → (cause ≡ fault.cause) × (place ≡ fault.place)
    alone_of_all cause place (inl wrong) same = f.alone cause place wrong same
    alone_of_all cause place (inr wrong) same = absurd (order.apart fault.cause cause fault.place place f.spot f.there wrong same)

-- where no early one is, the first of the late ones is the first of all
pub late_first : (early late : Faults) (fault : Fault) → ((c : Cause) (p : List Step) (s : List ℕ) → early c p s → ⊥) → IsFirst late fault
    → IsFirst (Either early late) fault
late_first early late fault none f = record {
  spot = f.spot;
  there = inr f.there;
  first = λ cause place other wrong. first_of_all cause place other wrong;
  alone = λ cause place wrong same. alone_of_all cause place wrong same;
}
  where
    first_of_all : (cause : Cause) (place : List Step) (other : List ℕ) → Either early late cause place other
        → NotAfter f.spot fault.cause.kind other cause.kind
    first_of_all cause place other (inl wrong) = absurd (none cause place other wrong)
    first_of_all cause place other (inr wrong) = f.first cause place other wrong

    alone_of_all : (cause : Cause) (place : List Step) → Either early late cause place f.spot → cause.kind ≡ fault.cause.kind
        → (cause ≡ fault.cause) × (place ≡ fault.place)
    alone_of_all cause place (inl wrong) same = absurd (none cause place f.spot wrong)
    alone_of_all cause place (inr wrong) same = f.alone cause place wrong same

pub neither : (early late : Faults) → ((c : Cause) (p : List Step) (s : List ℕ) → early c p s → ⊥)
    → ((c : Cause) (p : List Step) (s : List ℕ) → late c p s → ⊥)
    → (c : Cause) (p : List Step) (s : List ℕ) → Either early late c p s → ⊥
neither early late none also c p s (inl wrong) = none c p s wrong
neither early late none also c p s (inr wrong) = also c p s wrong

-- ---- spots by their first number

-- of the whole part, or of something in it below number n
abbrev pub IsBelow : ℕ → List ℕ → Type 0
IsBelow n [] = Unit {0}
IsBelow n (m ∷ ms) = m < n

-- of something in the part from number n on
abbrev pub IsFrom : ℕ → List ℕ → Type 0
IsFrom n [] = ⊥
IsFrom n (m ∷ ms) = n ≤ m

below_not_after : (n : ℕ) (s t : List ℕ) (k l : ScenarioKind) → IsBelow n s → IsFrom n t → NotAfter s k t l
unfolding NotAfter
below_not_after n s [] k l below from = absurd from
below_not_after n [] (m ∷ ms) k l below from = tt
below_not_after n (i ∷ is) (m ∷ ms) k l below from = inl (omega arith)

below_apart : (n : ℕ) (s : List ℕ) → IsBelow n s → IsFrom n s → ⊥
below_apart n [] below from = from
below_apart n (m ∷ ms) below from = omega arith

pub from_less : (n : ℕ) (s : List ℕ) → IsFrom (suc n) s → IsFrom n s
from_less n [] from = from
from_less n (m ∷ ms) from = omega arith

pub below_more : (n m : ℕ) (s : List ℕ) → n ≤ m → IsBelow n s → IsBelow m s
below_more n m [] less below = tt
below_more n m (i ∷ is) less below = omega arith

pub heads_precede : (n : ℕ) (early late : Faults) → ((c : Cause) (p : List Step) (s : List ℕ) → early c p s → IsBelow n s)
    → ((c : Cause) (p : List Step) (s : List ℕ) → late c p s → IsFrom n s) → Precedes early late
heads_precede n early late below from = record {
  not_after = λ c d p q s t is also. below_not_after n s t c.kind d.kind (below c p s is) (from d q t also);
  apart = λ c d p q s is also same. below_apart n s (below c p s is) (from d q s also);
}

-- ---- single faults

pub here_first : (why : Type 0) (kind : ScenarioKind) → why → IsFirst (Here why kind) (record { cause = plain kind; place = [] })
unfolding NotAfter
here_first why kind because = record {
  spot = [];
  there = record { because = because; cause_is = refl; place_is = refl; spot_is = refl };
  first = λ cause place other wrong. first_here cause place other wrong;
  alone = λ cause place wrong same. (wrong.cause_is, wrong.place_is);
}
  where
    first_here : (cause : Cause) (place : List Step) (other : List ℕ) → Here why kind cause place other → NotAfter [] kind other cause.kind
    first_here cause place other wrong = rw (wrong.spot_is, wrong.cause_is) (omega arith)

pub at_first : (why : Type 0) (kind : ScenarioKind) (step : Step) (n : ℕ) → why
    → IsFirst (At why kind step n) (record { cause = plain kind; place = step ∷ [] })
unfolding NotAfter
at_first why kind step n because = record {
  spot = n ∷ [];
  there = record { because = because; cause_is = refl; place_is = refl; spot_is = refl };
  first = λ cause place other wrong. first_at cause place other wrong;
  alone = λ cause place wrong same. (wrong.cause_is, wrong.place_is);
}
  where
    first_at : (cause : Cause) (place : List Step) (other : List ℕ) → At why kind step n cause place other
        → NotAfter (n ∷ []) kind other cause.kind
    first_at cause place other wrong = rw (wrong.spot_is, wrong.cause_is) (inr (refl, omega arith))

-- the first fault one step further in, seen from here
pub inside_first : (step : Step) (n : ℕ) (wrong : Faults) (fault : Fault) → IsFirst wrong fault
    → IsFirst (Inside step n wrong) (record { cause = fault.cause; place = step ∷ fault.place })
unfolding NotAfter
inside_first step n wrong fault f = record {
  spot = n ∷ f.spot;
  there = record { further = fault.place; deeper = f.spot; is_wrong = f.there; place_is = refl; spot_is = refl };
  first = λ cause place other is. first_inside cause place other is;
  alone = λ cause place is same. alone_inside cause place is same;
}
  where
    first_inside : (cause : Cause) (place : List Step) (other : List ℕ) → Inside step n wrong cause place other
        → NotAfter (n ∷ f.spot) fault.cause.kind other cause.kind
    first_inside cause place other is = rw is.spot_is (inr (refl, f.first cause is.further is.deeper is.is_wrong))

    alone_inside : (cause : Cause) (place : List Step) → Inside step n wrong cause place (n ∷ f.spot) → cause.kind ≡ fault.cause.kind
        → (cause ≡ fault.cause) × (place ≡ step ∷ fault.place)
    alone_inside cause place is same =
        let e : n ∷ f.spot ≡ n ∷ is.deeper = is.spot_is in
        let deep : is.deeper ≡ f.spot = cc in
        let there : wrong cause is.further f.spot = subst (λ s. wrong cause is.further s) deep is.is_wrong in
        let alone : (cause ≡ fault.cause) × (is.further ≡ fault.place) = f.alone cause is.further there same in
        (alone.0, is.place_is ∙ ap (λ q. step ∷ q) alone.1)

pub here_below : (n : ℕ) (why : Type 0) (kind : ScenarioKind) (c : Cause) (p : List Step) (s : List ℕ) → Here why kind c p s → IsBelow n s
here_below n why kind c p s is = rw is.spot_is tt

pub at_below : (n : ℕ) (why : Type 0) (kind : ScenarioKind) (step : Step) (c : Cause) (p : List Step) (s : List ℕ)
    → At why kind step n c p s → IsBelow (suc n) s
at_below n why kind step c p s is = rw is.spot_is (omega arith)

pub at_from : (n : ℕ) (why : Type 0) (kind : ScenarioKind) (step : Step) (c : Cause) (p : List Step) (s : List ℕ)
    → At why kind step n c p s → IsFrom n s
at_from n why kind step c p s is = rw is.spot_is (omega arith)

pub inside_below : (n : ℕ) (step : Step) (wrong : Faults) (c : Cause) (p : List Step) (s : List ℕ) → Inside step n wrong c p s
    → IsBelow (suc n) s
inside_below n step wrong c p s is = rw is.spot_is (omega arith)

pub inside_from : (n : ℕ) (step : Step) (wrong : Faults) (c : Cause) (p : List Step) (s : List ℕ) → Inside step n wrong c p s → IsFrom n s
inside_from n step wrong c p s is = rw is.spot_is (omega arith)

-- a list of too few items comes before one that weighs too much
pub here_precedes : (why reason : Type 0) (k l : ScenarioKind) → rank k < rank l → Precedes (Here why k) (Here reason l)
unfolding NotAfter
here_precedes why reason k l less = record {
  not_after = λ c d p q s t is also. here_order c d p q s t is also;
  apart = λ c d p q s is also same. here_apart c d p q s is also same;
}
  where
    here_order : (c d : Cause) (p q : List Step) (s t : List ℕ) → Here why k c p s → Here reason l d q t → NotAfter s c.kind t d.kind
    here_order c d p q s t is also = rw (is.spot_is, also.spot_is, is.cause_is, also.cause_is) (omega arith)

    here_apart : (c d : Cause) (p q : List Step) (s : List ℕ) → Here why k c p s → Here reason l d q s → d.kind ≡ c.kind → ⊥
    here_apart c d p q s is also same =
        let e : l ≡ k = sym (ap (λ x. x.kind) also.cause_is) ∙ (same ∙ ap (λ x. x.kind) is.cause_is) in
        let f : rank l ≡ rank k = ap rank e in
        omega arith

-- what comes before each of two comes before both
pub precedes_both : (early late last : Faults) → Precedes early late → Precedes early last → Precedes early (Either late last)
precedes_both early late last a b = record {
  not_after = λ c d p q s t is also. order c d p q s t is also;
  apart = λ c d p q s is also same. clash c d p q s is also same;
}
  where
    order : (c d : Cause) (p q : List Step) (s t : List ℕ) → early c p s → Either late last d q t → NotAfter s c.kind t d.kind
    order c d p q s t is (inl wrong) = a.not_after c d p q s t is wrong
    order c d p q s t is (inr wrong) = b.not_after c d p q s t is wrong

    clash : (c d : Cause) (p q : List Step) (s : List ℕ) → early c p s → Either late last d q s → d.kind ≡ c.kind → ⊥
    clash c d p q s is (inl wrong) same = a.apart c d p q s is wrong same
    clash c d p q s is (inr wrong) same = b.apart c d p q s is wrong same
