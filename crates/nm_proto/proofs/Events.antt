-- Comparing events tells whether they are equal.
use Rattle.std.proofs.Common.{◌≡◌, ◌↔◌, ◌==◌, ◌&&◌, ℕ, Bool, true, false, refl, subst, eq-eqb}
use borrow.Author.Tests.{eqb-true}
use Rattle.nm_proto.specs.declared.plan.Event.{Event}
use Rattle.nm_proto.specs.declared.plan.Event.TheVariants as event
use Rattle.nm_proto.specs.contracts.plan.EventPartialEq.TheImpl.{ghosts}
use Rattle.nm_proto.specs.contracts.message.RequestPartialEq.TheImpl.{ghosts as request}
use Rattle.nm_proto.proofs.Requests.{same_requests}

-- both parts hold, and each of two that do
both : (p q : Bool) → p ≡ true → q ≡ true → (p && q) ≡ true
both true q a b = b
both false q a b = cc

parts : (p q : Bool) → (p && q) ≡ true → (p ≡ true) × (q ≡ true)
parts true q h = (refl, h)
parts false q h = cc

same : (n : ℕ) → (n == n) ≡ true
same n = eq-eqb n n refl

itself : (x : Event) → ghosts.eq x x ≡ true
itself (event.Submit c) = same c
itself (event.Turn c) = same c
itself (event.Deliver c d l) = both _ _ (same c) (both _ _ (same d) (same l))
itself (event.Answer c d l n) = both _ _ (same c) (both _ _ (same d) (both _ _ (same l) (same n)))
itself (event.Break c d) = both _ _ (same c) (same d)
itself (event.Lose c d l) = both _ _ (same c) (both _ _ (same d) (same l))
itself (event.Advance d s) = both _ _ (same d) (same s)
itself (event.Restart d) = same d
itself (event.Forget c) = same c
itself event.Crash = refl
itself (event.Renew c d) = both _ _ (same c) (same d)
itself (event.Foreign o d r) = both _ _ (same o) (both _ _ (same d) ((same_requests r r).1 refl))
itself (event.Leave o d) = both _ _ (same o) (same d)
itself (event.Round c t) = both _ _ (same c) (same t)

equal : (x y : Event) → ghosts.eq x y ≡ true → x ≡ y
equal (event.Submit c1) (event.Submit c2) h =
    let e0 = eqb-true c1 c2 h in
    λ i. event.Submit (e0 i)
equal (event.Submit c1) y h = cc
equal (event.Turn c1) (event.Turn c2) h =
    let e0 = eqb-true c1 c2 h in
    λ i. event.Turn (e0 i)
equal (event.Turn c1) y h = cc
equal (event.Deliver c1 d1 l1) (event.Deliver c2 d2 l2) h =
    let p0 = parts (c1 == c2) ((d1 == d2) && (l1 == l2)) h in
    let p1 = parts (d1 == d2) (l1 == l2) p0.1 in
    let e0 = eqb-true c1 c2 p0.0 in
    let e1 = eqb-true d1 d2 p1.0 in
    let e2 = eqb-true l1 l2 p1.1 in
    λ i. event.Deliver (e0 i) (e1 i) (e2 i)
equal (event.Deliver c1 d1 l1) y h = cc
equal (event.Answer c1 d1 l1 n1) (event.Answer c2 d2 l2 n2) h =
    let p0 = parts (c1 == c2) ((d1 == d2) && ((l1 == l2) && (n1 == n2))) h in
    let p1 = parts (d1 == d2) ((l1 == l2) && (n1 == n2)) p0.1 in
    let p2 = parts (l1 == l2) (n1 == n2) p1.1 in
    let e0 = eqb-true c1 c2 p0.0 in
    let e1 = eqb-true d1 d2 p1.0 in
    let e2 = eqb-true l1 l2 p2.0 in
    let e3 = eqb-true n1 n2 p2.1 in
    λ i. event.Answer (e0 i) (e1 i) (e2 i) (e3 i)
equal (event.Answer c1 d1 l1 n1) y h = cc
equal (event.Break c1 d1) (event.Break c2 d2) h =
    let p0 = parts (c1 == c2) (d1 == d2) h in
    let e0 = eqb-true c1 c2 p0.0 in
    let e1 = eqb-true d1 d2 p0.1 in
    λ i. event.Break (e0 i) (e1 i)
equal (event.Break c1 d1) y h = cc
equal (event.Lose c1 d1 l1) (event.Lose c2 d2 l2) h =
    let p0 = parts (c1 == c2) ((d1 == d2) && (l1 == l2)) h in
    let p1 = parts (d1 == d2) (l1 == l2) p0.1 in
    let e0 = eqb-true c1 c2 p0.0 in
    let e1 = eqb-true d1 d2 p1.0 in
    let e2 = eqb-true l1 l2 p1.1 in
    λ i. event.Lose (e0 i) (e1 i) (e2 i)
equal (event.Lose c1 d1 l1) y h = cc
equal (event.Advance d1 s1) (event.Advance d2 s2) h =
    let p0 = parts (d1 == d2) (s1 == s2) h in
    let e0 = eqb-true d1 d2 p0.0 in
    let e1 = eqb-true s1 s2 p0.1 in
    λ i. event.Advance (e0 i) (e1 i)
equal (event.Advance d1 s1) y h = cc
equal (event.Restart d1) (event.Restart d2) h =
    let e0 = eqb-true d1 d2 h in
    λ i. event.Restart (e0 i)
equal (event.Restart d1) y h = cc
equal (event.Forget c1) (event.Forget c2) h =
    let e0 = eqb-true c1 c2 h in
    λ i. event.Forget (e0 i)
equal (event.Forget c1) y h = cc
equal event.Crash event.Crash h = refl
equal event.Crash y h = cc
equal (event.Renew c1 d1) (event.Renew c2 d2) h =
    let p0 = parts (c1 == c2) (d1 == d2) h in
    let e0 = eqb-true c1 c2 p0.0 in
    let e1 = eqb-true d1 d2 p0.1 in
    λ i. event.Renew (e0 i) (e1 i)
equal (event.Renew c1 d1) y h = cc
equal (event.Foreign o1 d1 r1) (event.Foreign o2 d2 r2) h =
    let p0 = parts (o1 == o2) ((d1 == d2) && (request.eq r1 r2)) h in
    let p1 = parts (d1 == d2) (request.eq r1 r2) p0.1 in
    let e0 = eqb-true o1 o2 p0.0 in
    let e1 = eqb-true d1 d2 p1.0 in
    let e2 = (same_requests r1 r2).0 p1.1 in
    λ i. event.Foreign (e0 i) (e1 i) (e2 i)
equal (event.Foreign o1 d1 r1) y h = cc
equal (event.Leave o1 d1) (event.Leave o2 d2) h =
    let p0 = parts (o1 == o2) (d1 == d2) h in
    let e0 = eqb-true o1 o2 p0.0 in
    let e1 = eqb-true d1 d2 p0.1 in
    λ i. event.Leave (e0 i) (e1 i)
equal (event.Leave o1 d1) y h = cc
equal (event.Round c1 t1) (event.Round c2 t2) h =
    let p0 = parts (c1 == c2) (t1 == t2) h in
    let e0 = eqb-true c1 c2 p0.0 in
    let e1 = eqb-true t1 t2 p0.1 in
    λ i. event.Round (e0 i) (e1 i)
equal (event.Round c1 t1) y h = cc

pub same_events : (x y : Event) → (ghosts.eq x y ≡ true) ↔ (x ≡ y)
same_events x y = (equal x y, λ e. subst (λ (z : Event). ghosts.eq x z ≡ true) e (itself x))
