-- Comparing requests and replies tells whether they are equal.
use Rattle.std.proofs.Common.{◌≡◌, ◌↔◌, true, refl, sym, subst, rules, eq-eqb}
use borrow.Author.Tests.{eqb-true}
use Rattle.std.specs.Cmp.Lexicographic.{same_text}
use Rattle.nm_proto.specs.declared.message.Request.{Request}
use Rattle.nm_proto.specs.declared.message.Request.TheVariants as ask
use Rattle.nm_proto.specs.declared.message.Reply.{Reply}
use Rattle.nm_proto.specs.declared.message.Reply.TheVariants as reply
use Rattle.nm_proto.specs.contracts.message.RequestPartialEq.TheImpl.{ghosts as request}
use Rattle.nm_proto.specs.contracts.message.ReplyPartialEq.TheImpl.{ghosts as answer}

itself : (x : Request) → request.eq x x ≡ true
itself (ask.OpenSession u) = (let t : (request.eq (ask.OpenSession u) (ask.OpenSession u) ≡ true) ↔ ((ask.OpenSession u) ≡ (ask.OpenSession u)) = search rules in t.1 refl)
itself (ask.Lock s) = (let t : (request.eq (ask.Lock s) (ask.Lock s) ≡ true) ↔ ((ask.Lock s) ≡ (ask.Lock s)) = search rules in t.1 refl)
itself (ask.Unlock s) = (let t : (request.eq (ask.Unlock s) (ask.Unlock s) ≡ true) ↔ ((ask.Unlock s) ≡ (ask.Unlock s)) = search rules in t.1 refl)
itself (ask.PartialLock s) = eq-eqb s.0 s.0 refl
itself (ask.PartialUnlock i) = eq-eqb i i refl
itself (ask.Edit e d m) = (let t : (request.eq (ask.Edit e d m) (ask.Edit e d m) ≡ true) ↔ ((ask.Edit e d m) ≡ (ask.Edit e d m)) = search rules in t.1 refl)
itself ask.Validate = refl
itself (ask.Commit c t p i) = (let t : (request.eq (ask.Commit c t p i) (ask.Commit c t p i) ≡ true) ↔ ((ask.Commit c t p i) ≡ (ask.Commit c t p i)) = search rules in t.1 refl)
itself (ask.CancelCommit p) = (let t : (request.eq (ask.CancelCommit p) (ask.CancelCommit p) ≡ true) ↔ ((ask.CancelCommit p) ≡ (ask.CancelCommit p)) = search rules in t.1 refl)
itself ask.Discard = refl
itself (ask.HasMark c) = eq-eqb c c refl
itself ask.GetConfig = refl
itself (ask.Kill s) = eq-eqb s s refl
itself ask.CloseSession = refl

equal : (x y : Request) → request.eq x y ≡ true → x ≡ y
equal (ask.OpenSession u1) (ask.OpenSession u2) h = (let e = same_text u1 u2 (sym h) in λ i. ask.OpenSession (e i))
equal (ask.OpenSession u1) y h = cc
equal (ask.Lock s1) (ask.Lock s2) h = (let t : (request.eq (ask.Lock s1) (ask.Lock s2) ≡ true) ↔ ((ask.Lock s1) ≡ (ask.Lock s2)) = search rules in t.0 h)
equal (ask.Lock s1) y h = cc
equal (ask.Unlock s1) (ask.Unlock s2) h = (let t : (request.eq (ask.Unlock s1) (ask.Unlock s2) ≡ true) ↔ ((ask.Unlock s1) ≡ (ask.Unlock s2)) = search rules in t.0 h)
equal (ask.Unlock s1) y h = cc
equal (ask.PartialLock s1) (ask.PartialLock s2) h = (let e = eqb-true s1.0 s2.0 h in λ i. ask.PartialLock (record { 0 = e i }))
equal (ask.PartialLock s1) y h = cc
equal (ask.PartialUnlock i1) (ask.PartialUnlock i2) h = (let e = eqb-true i1 i2 h in λ i. ask.PartialUnlock (e i))
equal (ask.PartialUnlock i1) y h = cc
equal (ask.Edit e1 d1 m1) (ask.Edit e2 d2 m2) h = (let t : (request.eq (ask.Edit e1 d1 m1) (ask.Edit e2 d2 m2) ≡ true) ↔ ((ask.Edit e1 d1 m1) ≡ (ask.Edit e2 d2 m2)) = search rules in t.0 h)
equal (ask.Edit e1 d1 m1) y h = cc
equal ask.Validate ask.Validate h = refl
equal ask.Validate y h = cc
equal (ask.Commit c1 t1 p1 i1) (ask.Commit c2 t2 p2 i2) h = (let t : (request.eq (ask.Commit c1 t1 p1 i1) (ask.Commit c2 t2 p2 i2) ≡ true) ↔ ((ask.Commit c1 t1 p1 i1) ≡ (ask.Commit c2 t2 p2 i2)) = search rules in t.0 h)
equal (ask.Commit c1 t1 p1 i1) y h = cc
equal (ask.CancelCommit p1) (ask.CancelCommit p2) h = (let t : (request.eq (ask.CancelCommit p1) (ask.CancelCommit p2) ≡ true) ↔ ((ask.CancelCommit p1) ≡ (ask.CancelCommit p2)) = search rules in t.0 h)
equal (ask.CancelCommit p1) y h = cc
equal ask.Discard ask.Discard h = refl
equal ask.Discard y h = cc
equal (ask.HasMark c1) (ask.HasMark c2) h = (let e = eqb-true c1 c2 h in λ i. ask.HasMark (e i))
equal (ask.HasMark c1) y h = cc
equal ask.GetConfig ask.GetConfig h = refl
equal ask.GetConfig y h = cc
equal (ask.Kill s1) (ask.Kill s2) h = (let e = eqb-true s1 s2 h in λ i. ask.Kill (e i))
equal (ask.Kill s1) y h = cc
equal ask.CloseSession ask.CloseSession h = refl
equal ask.CloseSession y h = cc

pub same_requests : (x y : Request) → (request.eq x y ≡ true) ↔ (x ≡ y)
same_requests x y = (equal x y, λ e. subst (λ (z : Request). request.eq x z ≡ true) e (itself x))

answered : (x : Reply) → answer.eq x x ≡ true
answered reply.Done = refl
answered (reply.Opened s) = eq-eqb s s refl
answered (reply.LockId i) = eq-eqb i i refl
answered (reply.Mark b) = (let t : (answer.eq (reply.Mark b) (reply.Mark b) ≡ true) ↔ ((reply.Mark b) ≡ (reply.Mark b)) = search rules in t.1 refl)
answered (reply.Rows n) = eq-eqb n n refl
answered (reply.Error t s p) = (let t : (answer.eq (reply.Error t s p) (reply.Error t s p) ≡ true) ↔ ((reply.Error t s p) ≡ (reply.Error t s p)) = search rules in t.1 refl)

alike : (x y : Reply) → answer.eq x y ≡ true → x ≡ y
alike reply.Done reply.Done h = refl
alike reply.Done y h = cc
alike (reply.Opened s1) (reply.Opened s2) h = (let e = eqb-true s1 s2 h in λ i. reply.Opened (e i))
alike (reply.Opened s1) y h = cc
alike (reply.LockId i1) (reply.LockId i2) h = (let e = eqb-true i1 i2 h in λ i. reply.LockId (e i))
alike (reply.LockId i1) y h = cc
alike (reply.Mark b1) (reply.Mark b2) h = (let t : (answer.eq (reply.Mark b1) (reply.Mark b2) ≡ true) ↔ ((reply.Mark b1) ≡ (reply.Mark b2)) = search rules in t.0 h)
alike (reply.Mark b1) y h = cc
alike (reply.Rows n1) (reply.Rows n2) h = (let e = eqb-true n1 n2 h in λ i. reply.Rows (e i))
alike (reply.Rows n1) y h = cc
alike (reply.Error t1 s1 p1) (reply.Error t2 s2 p2) h = (let t : (answer.eq (reply.Error t1 s1 p1) (reply.Error t2 s2 p2) ≡ true) ↔ ((reply.Error t1 s1 p1) ≡ (reply.Error t2 s2 p2)) = search rules in t.0 h)
alike (reply.Error t1 s1 p1) y h = cc

pub same_replies : (x y : Reply) → (answer.eq x y ≡ true) ↔ (x ≡ y)
same_replies x y = (alike x y, λ e. subst (λ (z : Reply). answer.eq x z ≡ true) e (answered x))
