use Rattle.std.proofs.Common.{◌≡◌, ◌∙◌, true, false, eqb, get_or, Err, refl, sym, ap, subst, arith}
use Rattle.std.specs.Prelude.{◌&&◌}
use Rattle.std.proofs.lemmas.Bool.Decides.{nat_tests}
use Rattle.nm_yang.specs.declared.fault.Fault.{Fault}
use Rattle.nm_yang.specs.declared.fault.YangFault.{YangFault}
use Rattle.nm_yang.specs.declared.fault.YangKind.TheVariants.{UnclosedComment}
use Rattle.nm_yang.specs.Page.{Fails, place_of, at_end, bad}
use Rattle.nm_yang.specs.Byte.{begins}
use Rattle.nm_yang.specs.Blank.{skip, plain}
use Rattle.nm_yang.proofs.Quotes.{and_false}
use Rattle.nm_yang.proofs.Skips.{after, after_short, plain_told, plain_end}
use Rattle.nm_yang.proofs.blank.skip.Goals as goal
use Rattle.nm_yang.proofs.blank.skip.Goals.{else-byte-eq47-via-then-byte-eq47+else-begins, else-byte-eq47-via-else-byte-eq47, else-byte-eq47-2-via-then-byte-eq47-2+else-begins-2, else-byte-eq47-2-via-else-byte-eq47-2}

pub loop-rest-preserved : goal.loop-rest-preserved
loop-rest-preserved c =
    let page = c.args.reader.now in
    let rest = c.loop-rest.rest.now in
    let line : (eqb (get_or rest 0 0) 47 && begins (after rest) 47) ≡ false =
    elim c.else-byte-eq47.branch [
      | else-byte-eq47-via-then-byte-eq47+else-begins w ↦ and_false (eqb (get_or rest 0 0) 47) _ (sym w.if-begins.ensures)
      | else-byte-eq47-via-else-byte-eq47 w ↦ (let e : eqb (get_or rest 0 0) 47 ≡ false = grind (arith, nat_tests) in rw e refl)
    ] in
    let slash : eqb (get_or rest 0 0) 47 ≡ true = grind (arith, nat_tests) in
    let block : (eqb (get_or rest 0 0) 47 && begins (after rest) 42) ≡ true = rw slash (sym c.if-begins-2.ensures) in
    let step = plain_told page rest false false true c.in-len1-up.len_at_least (sym c.if-is_white.ensures) line block in
    (sym (step ∙ c.in-Some.ensures.rest page (place_of page rest)) ∙ c.loop-rest.invariant.0, omega (arith, c.in-Some.ensures.shorter, after_short rest, c.loop-rest.invariant.1))

pub returns-clause-rest : goal.returns-clause-rest
returns-clause-rest c = sym c.loop-rest.invariant.0 ∙ plain_end c.args.reader.now c.loop-rest.rest.now c.in_default.len_below

pub loop-rest-preserved-then-is_white : goal.loop-rest-preserved-then-is_white
loop-rest-preserved-then-is_white c =
    let rest = c.loop-rest.rest.now in
    (sym (plain_told c.args.reader.now rest true _ _ c.in-len1-up.len_at_least (sym c.if-is_white.ensures) refl refl) ∙ c.loop-rest.invariant.0, omega (arith, after_short rest, c.loop-rest.invariant.1))

pub loop-rest-preserved-then-begins : goal.loop-rest-preserved-then-begins
loop-rest-preserved-then-begins c =
    let page = c.args.reader.now in
    let rest = c.loop-rest.rest.now in
    let slash : eqb (get_or rest 0 0) 47 ≡ true = grind (arith, nat_tests) in
    let line : (eqb (get_or rest 0 0) 47 && begins (after rest) 47) ≡ true = rw slash (sym c.if-begins.ensures) in
    (sym (plain_told page rest false true _ c.in-len1-up.len_at_least (sym c.if-is_white.ensures) line refl ∙ c.after_line-rest.ensures.rest page) ∙ c.loop-rest.invariant.0, omega (arith, c.after_line-rest.ensures.shorter, after_short rest, c.loop-rest.invariant.1))

pub returns-in-None : goal.returns-in-None
returns-in-None c =
    let page = c.args.reader.now in
    let bytes = c.args.bytes.now in
    let rest = c.loop-rest.rest.now in
    let line : (eqb (get_or rest 0 0) 47 && begins (after rest) 47) ≡ false =
    elim c.else-byte-eq47.branch [
      | else-byte-eq47-via-then-byte-eq47+else-begins w ↦ and_false (eqb (get_or rest 0 0) 47) _ (sym w.if-begins.ensures)
      | else-byte-eq47-via-else-byte-eq47 w ↦ (let e : eqb (get_or rest 0 0) 47 ≡ false = grind (arith, nat_tests) in rw e refl)
    ] in
    let slash : eqb (get_or rest 0 0) 47 ≡ true = grind (arith, nat_tests) in
    let block : (eqb (get_or rest 0 0) 47 && begins (after rest) 42) ≡ true = rw slash (sym c.if-begins-2.ensures) in
    let step = plain_told page rest false false true c.in-len1-up.len_at_least (sym c.if-is_white.ensures) line block in
    let fault : c.at_end.result ≡ at_end page (bad (place_of page rest) UnclosedComment) = c.at_end.ensures ∙ ap (λ (f : Fault). at_end page f) c.bad-opener.ensures in
    record {
      rest = subst (λ (e : YangFault). Fails e (skip page plain bytes)) (sym c.refused.ensures)
          (sym c.loop-rest.invariant.0 ∙ step ∙ c.in-None.ensures.rest page (place_of page rest) ∙ ap (λ (f : Fault). Err f) (sym fault));
      shorter = tt;
    }

pub returns-else-byte-eq47-2-clause-rest : goal.returns-else-byte-eq47-2-clause-rest
returns-else-byte-eq47-2-clause-rest c =
    let page = c.args.reader.now in
    let rest = c.loop-rest.rest.now in
    let line : (eqb (get_or rest 0 0) 47 && begins (after rest) 47) ≡ false =
    elim c.else-byte-eq47.branch [
      | else-byte-eq47-via-then-byte-eq47+else-begins w ↦ and_false (eqb (get_or rest 0 0) 47) _ (sym w.if-begins.ensures)
      | else-byte-eq47-via-else-byte-eq47 w ↦ (let e : eqb (get_or rest 0 0) 47 ≡ false = grind (arith, nat_tests) in rw e refl)
    ] in
    let block : (eqb (get_or rest 0 0) 47 && begins (after rest) 42) ≡ false =
    elim c.else-byte-eq47-2.branch [
      | else-byte-eq47-2-via-then-byte-eq47-2+else-begins-2 w ↦ and_false (eqb (get_or rest 0 0) 47) _ (sym w.if-begins-2.ensures)
      | else-byte-eq47-2-via-else-byte-eq47-2 w ↦ (let e : eqb (get_or rest 0 0) 47 ≡ false = grind (arith, nat_tests) in rw e refl)
    ] in
    sym c.loop-rest.invariant.0 ∙ plain_told page rest false false false c.in-len1-up.len_at_least (sym c.if-is_white.ensures) line block
