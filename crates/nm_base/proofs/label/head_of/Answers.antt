use Rattle.std.proofs.Common.{◌≡◌, ◌+◌, ◌-◌, ◌*◌, ◌^◌, ◌<◌, ◌≤◌, ℕ, suc, subst, sym, ap, ◌∙◌, arith, refl, drop, get_or}
use Rattle.nm_base.specs.Head.{IsHead}
use Rattle.nm_base.proofs.Heads.{one_more, grown, fits_number}
use Rattle.nm_base.proofs.label.head_of.Goals as goal

pub overflow_mul-head : goal.overflow_mul-head
overflow_mul-head c =
    let more = grown c.loop-place.head 0 c.loop-place.place c.loop-place.invariant.1 (omega arith) in
    omega (arith, more, fits_number c.loop-place.place c.loop-place-test.true)

pub overflow_add-head : goal.overflow_add-head
overflow_add-head c =
    let more = grown c.loop-place.head c.byte_at.result c.loop-place.place c.loop-place.invariant.1 c.byte_at.ensures.small in
    omega (arith, more, fits_number c.loop-place.place c.loop-place-test.true)

pub loop-place-preserved : goal.loop-place-preserved
loop-place-preserved c =
    let place = c.loop-place.place in
    let text = c.args.text.now in
    let byte : c.byte_at.result ≡ get_or text place 0 = c.byte_at.ensures.value ∙ ap (λ bytes. get_or bytes place 0) c.as_bytes-bytes.ensures.value in
    let small : get_or text place 0 < 256 = subst (λ b. b < 256) byte c.byte_at.ensures.small in
    let left : 8 - place ≡ suc (8 - (place + 1)) = omega (arith, c.loop-place-test.true) in
    let after : place + 1 ≡ suc place = omega arith in (
      λ head rest.
          let given = subst (λ b. IsHead (8 - (place + 1)) (c.loop-place.head * 256 + b) (drop (place + 1) text) head) byte rest in
          let gone = subst (λ at. IsHead (8 - (place + 1)) (c.loop-place.head * 256 + get_or text place 0) (drop at text) head) after given in
          let more = one_more (8 - (place + 1)) c.loop-place.head place text head small gone in
          c.loop-place.invariant.0 head (subst (λ k. IsHead k c.loop-place.head (drop place text) head) (sym left) more),
      grown c.loop-place.head c.byte_at.result place c.loop-place.invariant.1 c.byte_at.ensures.small,
    )

pub returns : goal.returns
returns c =
    let all : 8 - c.loop-place.place ≡ 0 = omega (arith, c.loop-place-test.false, c.loop-place.auto.place-end) in
    c.loop-place.invariant.0 c.loop-place.head
    (subst (λ k. IsHead k c.loop-place.head (drop c.loop-place.place c.args.text.now) c.loop-place.head) (sym all) refl)
