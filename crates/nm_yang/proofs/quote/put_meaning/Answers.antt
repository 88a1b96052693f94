use Rattle.std.proofs.Common.{◌≡◌, ◌∙◌, ◌+◌, ◌-◌, ℕ, List, false, true≢false, eqb, ltb, ◌++◌, ◌∷◌, [], take, drop, length, get_or, refl, sym, ap, arith, rules}
use Rattle.std.specs.Prelude.{◌&&◌}
use Rattle.std.proofs.lemmas.Bool.Decides.{nat_tests}
use Rattle.std.proofs.lemmas.List.{length_push}
use Rattle.nm_yang.specs.Quote.{begins_escape, escaped}
use Rattle.nm_yang.proofs.Quotes.{kept_escape, kept_other, kept_after, kept_line, kept_loose, kept_end, and_false}
use Rattle.nm_yang.proofs.quote.put_meaning.Goals as goal
use Rattle.nm_yang.proofs.quote.put_meaning.Goals.{else-byte-eq92-via-then-byte-eq92+else-begins_escape, else-byte-eq92-via-else-byte-eq92, else-left-gt0-via-then-left-gt0+else-byte-eq32, else-left-gt0-via-else-left-gt0, else-left-gt0-2-via-then-left-gt0-2+else-byte-eq9, else-left-gt0-2-via-else-left-gt0-2}

pub loop-rest-preserved-then-begins_escape : goal.loop-rest-preserved-then-begins_escape
loop-rest-preserved-then-begins_escape c =
    let k = kept_escape c.args.room c.loop-rest.left c.loop-rest.solid c.loop-rest.after_backslash c.loop-rest.out.items c.loop-rest.rest.now _ c.in-len1-up.len_at_least c.if-after_backslash.false (search rules) (sym c.if-begins_escape.ensures) c.loop-rest.invariant.0 in
    let n : c.len-solid-then-begins_escape.result ≡ length c.loop-rest.out.items = search rules in
    (rw n k, omega arith, λ _. n)

pub loop-rest-preserved : goal.loop-rest-preserved
loop-rest-preserved c =
    let rest = c.loop-rest.rest.now in
    let line : eqb (get_or rest 0 0) 10 ≡ false = grind (arith, nat_tests) in
    let escape : (eqb (get_or rest 0 0) 92 && begins_escape (take (length rest - 1) (drop 1 rest))) ≡ false =
    elim c.else-byte-eq92.branch [
      | else-byte-eq92-via-then-byte-eq92+else-begins_escape w ↦ and_false (eqb (get_or rest 0 0) 92) _ (sym w.if-begins_escape.ensures)
      | else-byte-eq92-via-else-byte-eq92 w ↦ (let e : eqb (get_or rest 0 0) 92 ≡ false = grind (arith, nat_tests) in rw e refl)
    ] in
    let e : c.push-in-len1-up.new.self.items ≡ c.loop-rest.out.items ++ get_or rest 0 0 ∷ [] = c.in_ok-push-4.ensures.items in
    let k = kept_other c.args.room c.loop-rest.left c.loop-rest.solid c.loop-rest.after_backslash c.loop-rest.out.items rest _ c.in-len1-up.len_at_least c.if-after_backslash.false line (sym c.if-is_loose.ensures) escape c.loop-rest.invariant.0 in
    let n : c.len-solid-in-len1-up.result ≡ length c.push-in-len1-up.new.self.items = search rules in
    (rw (n, e) k, omega arith, λ _. n)

pub loop-rest-preserved-then-after_backslash : goal.loop-rest-preserved-then-after_backslash
loop-rest-preserved-then-after_backslash c =
    let rest = c.loop-rest.rest.now in
    let out = c.loop-rest.out.items in
    let on = c.if-after_backslash.true in
    let e : c.push.new.self.items ≡ out ++ escaped (get_or rest 0 0) ∷ [] = c.in_ok-push.ensures.items ∙ ap (λ (b : ℕ). out ++ b ∷ []) c.escaped.ensures in
    let k = kept_after c.args.room c.loop-rest.left c.loop-rest.solid c.loop-rest.after_backslash out rest _ c.in-len1-up.len_at_least on (c.loop-rest.invariant.2 on) c.loop-rest.invariant.0 in
    let n : c.len-solid-then-after_backslash.result ≡ length c.push.new.self.items = search rules in
    (rw (n, e) k, omega arith, λ _. n)

pub loop-rest-preserved-then-byte-eq10 : goal.loop-rest-preserved-then-byte-eq10
loop-rest-preserved-then-byte-eq10 c =
    let rest = c.loop-rest.rest.now in
    let out = c.loop-rest.out.items in
    let cut : c.truncate.new.self.items ≡ take c.loop-rest.solid out = search rules in
    let e : c.push-then-byte-eq10.new.self.items ≡ take c.loop-rest.solid out ++ get_or rest 0 0 ∷ [] = c.in_ok-push-2.ensures.items ∙ ap (λ (l : List ℕ). l ++ get_or rest 0 0 ∷ []) cut in
    let is : get_or rest 0 0 ≡ 10 = search rules in
    let k = kept_line c.args.room c.loop-rest.left c.loop-rest.solid c.loop-rest.after_backslash out rest _ c.in-len1-up.len_at_least c.if-after_backslash.false is c.loop-rest.invariant.0 in
    let n : c.len-solid-then-byte-eq10.result ≡ length c.push-then-byte-eq10.new.self.items = search rules in
    (rw (n, e) k, omega arith, λ _. n)

pub loop-rest-preserved-then-is_loose : goal.loop-rest-preserved-then-is_loose
loop-rest-preserved-then-is_loose c =
    let rest = c.loop-rest.rest.now in
    let left = c.loop-rest.left in
    let out = c.loop-rest.out.items in
    let line : eqb (get_or rest 0 0) 10 ≡ false = grind (arith, nat_tests) in
    let space : (ltb 0 left && eqb (get_or rest 0 0) 32) ≡ false =
    elim c.else-left-gt0.branch [
      | else-left-gt0-via-then-left-gt0+else-byte-eq32 w ↦ (let e : eqb (get_or rest 0 0) 32 ≡ false = grind (arith, nat_tests) in and_false (ltb 0 left) _ e)
      | else-left-gt0-via-else-left-gt0 w ↦ (let e : ltb 0 left ≡ false = grind (arith, nat_tests) in rw e refl)
    ] in
    let tab : (ltb 0 left && eqb (get_or rest 0 0) 9) ≡ false =
    elim c.else-left-gt0-2.branch [
      | else-left-gt0-2-via-then-left-gt0-2+else-byte-eq9 w ↦ (let e : eqb (get_or rest 0 0) 9 ≡ false = grind (arith, nat_tests) in and_false (ltb 0 left) _ e)
      | else-left-gt0-2-via-else-left-gt0-2 w ↦ (let e : ltb 0 left ≡ false = grind (arith, nat_tests) in rw e refl)
    ] in
    let off = c.if-after_backslash.false in
    let e : c.push-then-is_loose.new.self.items ≡ out ++ get_or rest 0 0 ∷ [] = c.in_ok-push-3.ensures.items in
    let k = kept_loose c.args.room left c.loop-rest.solid c.loop-rest.after_backslash out rest _ c.in-len1-up.len_at_least c.loop-rest.invariant.1 off line space tab (sym c.if-is_loose.ensures) c.loop-rest.invariant.0 in
    let n : length c.push-then-is_loose.new.self.items ≡ length out + 1 = ap (λ (l : List ℕ). length l) e ∙ length_push out (get_or rest 0 0) in
    (rw e k, omega (arith, n, c.loop-rest.invariant.1), λ on. absurd (true≢false (sym on ∙ off)))

pub returns : goal.returns
returns c = kept_end c.args.room c.loop-rest.left c.loop-rest.solid c.loop-rest.after_backslash c.loop-rest.out.items c.loop-rest.rest.now _ c.in_default.len_below c.loop-rest.invariant.0
