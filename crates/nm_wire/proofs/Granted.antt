-- What a session holds was asked for.
use Rattle.std.proofs.Common.{◌≡◌, ◌||◌, ◌&&◌, Bool, true, false, List, [], ◌∷◌, fold, refl, arith}
use Rattle.std.proofs.lemmas.Bool.Decides.{nat_tests}
use Rattle.nm_proto.specs.declared.ask.Ask.{Ask}
use Rattle.nm_proto.specs.declared.ask.Ask.TheVariants as ask
use Rattle.nm_proto.specs.declared.message.Reply.{Reply}
use Rattle.nm_wire.specs.declared.link.Exchange.{Exchange}
use Rattle.nm_wire.specs.declared.link.Way.{Way}
use Rattle.nm_wire.specs.declared.link.Way.TheVariants.{Quiet, Asked, Told}
use Rattle.nm_wire.specs.Asks.{same_ask}
use Rattle.nm_wire.specs.Link.{LinkState, over, over_way}
use Rattle.nm_wire.specs.Words.{is_done, holds_by, owns_by}

module _ (one other : Bool → Exchange → Bool) (keeps : (a b : Bool) (x : Exchange) → (a ≡ true → b ≡ true) → one a x ≡ true → other b x ≡ true) where
  implied_past : (xs : List Exchange) (a b : Bool) → (a ≡ true → b ≡ true) → fold one a xs ≡ true → fold other b xs ≡ true
  implied_past [] a b h t = h t
  implied_past (x ∷ xs) a b h t = implied_past xs (one a x) (other b x) (keeps a b x h) t

  implied_way : (way : Way) (a b : Bool) → (a ≡ true → b ≡ true) → over_way one a way ≡ true → over_way other b way ≡ true
  implied_way Quiet a b h t = h t
  implied_way (Asked request) a b h t = h t
  implied_way (Told x) a b h t = keeps a b x h t

  -- where one fold over a link is true, so is another that is so at each step
  pub implied : (link : LinkState) → over one false link ≡ true → over other false link ≡ true
  implied link t = implied_way link.way (fold one false link.past) (fold other false link.past) (implied_past link.past false false (λ h. h)) t

either : (a b : Bool) (c : Bool) → (a ≡ true → b ≡ true) → a ≡ true → (b || c) ≡ true
either true true c h t = refl
either true false c h t = absurd (let e : false ≡ true = h refl in cc)
either false b c h t = absurd (let e : false ≡ true = t in cc)

or_true : (b : Bool) → (b || true) ≡ true
or_true true = refl
or_true false = refl

pub running_granted : (a b : Bool) (what : Ask) (reply : Reply) → (a ≡ true → b ≡ true) → holds_by a what reply ≡ true → (b || (same_ask what ask.LockRunning && is_done reply)) ≡ true
running_granted a b what reply h t = grind (arith, nat_tests)

pub candidate_granted : (a b : Bool) (what : Ask) (reply : Reply) → (a ≡ true → b ≡ true) → owns_by a what reply ≡ true → (b || (same_ask what ask.LockCandidate && is_done reply)) ≡ true
candidate_granted a b what reply h t = grind (arith, nat_tests)
