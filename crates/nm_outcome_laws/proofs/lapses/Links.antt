-- One link, as a renewal is sent on it, refused there and handled.
use Rattle.std.proofs.Common.{◌≡◌, ◌⊎◌, inl, inr, Bool, true, List, [], ◌∷◌, ◌++◌, Contains, fold, Option, Some, None, IfSome, refl, sym, subst, arith}
use Rattle.std.proofs.lemmas.List.Elements.{Contains-push_cases}
use Rattle.std.proofs.lemmas.List.Sums.{fold-append}
use Rattle.nm_proto.specs.declared.message.Request.{Request}
use Rattle.nm_proto.specs.declared.message.Reply.{Reply}
use Rattle.nm_history.specs.declared.outcome.Outcome.{Outcome}
use Rattle.nm_wire.specs.declared.link.Exchange.{Exchange}
use Rattle.nm_wire.specs.declared.link.Way.{Way}
use Rattle.nm_wire.specs.declared.link.Way.TheVariants.{Quiet, Asked, Told}
use Rattle.nm_wire.specs.Link.{LinkState, asked_on, closed_link, fresh_link, handled_by, handled_on, is_quiet_way, over_way, sent_on, told_by, told_on}
use Rattle.nm_wire.specs.Words.{exchanges_of, with_exchange}
use Rattle.nm_safety.proofs.Basics.{never}
use Rattle.nm_outcome_laws.specs.LapsesSupport.{IsOver, RenewsCommitted, RenewsOn, WasCommitted, is_lapse}

-- ---- the exchanges of a link

nothing_in : (x : Exchange) → Contains [] x → ⊥
nothing_in x c = absurd (omega (arith, c.1))

quiet_exchanges : (past : List Exchange) (way : Way) (request : Request) → is_quiet_way way ≡ true
    → over_way with_exchange past (Asked request) ≡ over_way with_exchange past way
quiet_exchanges past Quiet request quiet = refl
quiet_exchanges past (Asked other) request quiet = refl
quiet_exchanges past (Told exchange) request quiet = never quiet

handled_exchanges : (past : List Exchange) (way : Way) (is_open : Bool)
    → exchanges_of (handled_by (record { past = past; way = way; is_open = is_open }) way)
    ≡ exchanges_of (record { past = past; way = way; is_open = is_open })
handled_exchanges past Quiet is_open = refl
handled_exchanges past (Asked request) is_open = refl
handled_exchanges past (Told exchange) is_open = fold-append with_exchange [] past (exchange ∷ [])

told_exchanges : (link : LinkState) (request : Request) (reply : Reply) → link.way ≡ Asked request
    → exchanges_of (told_on reply link) ≡ exchanges_of link ++ record { request = request; reply = reply } ∷ []
told_exchanges link request reply e = by_way link.way e
  where
    by_way : (way : Way) → way ≡ Asked request
        → exchanges_of (told_by reply (record link { way = way }) way)
        ≡ exchanges_of (record link { way = way }) ++ record { request = request; reply = reply } ∷ []
    by_way Quiet e = absurd (let g : Quiet ≡ Asked request = e in cc)
    by_way (Asked other) e = let g : Asked other ≡ Asked request = e in cc
    by_way (Told exchange) e = absurd (let g : Told exchange ≡ Asked request = e in cc)

-- ---- what it keeps

module _ (outcome : Option Outcome) where
  pub fresh_renews : RenewsOn outcome fresh_link
  fresh_renews = record { asked = tt; told = λ x there lapsed. absurd (nothing_in x there) }

  pub sent_renews : (request : Request) (link : LinkState) → RenewsCommitted outcome request → is_quiet_way link.way ≡ true
      → RenewsOn outcome link → RenewsOn outcome (sent_on request link)
  sent_renews request link committed quiet p = record {
    asked = committed;
    told = λ x there lapsed.
        p.told x (subst (λ xs. Contains xs x) (quiet_exchanges (fold with_exchange [] link.past) link.way request quiet) there) lapsed;
  }

  asked_handled : (link : LinkState) (way : Way) → IfSome (asked_on link.way) (RenewsCommitted outcome)
      → IfSome (asked_on (handled_by link way).way) (RenewsCommitted outcome)
  asked_handled link Quiet a = a
  asked_handled link (Asked request) a = a
  asked_handled link (Told exchange) a = tt

  pub handled_renews : (link : LinkState) → RenewsOn outcome link → RenewsOn outcome (handled_on link)
  handled_renews link p = record {
    asked = asked_handled link link.way p.asked;
    told = λ x there lapsed.
        p.told x (subst (λ xs. Contains xs x) (handled_exchanges link.past link.way link.is_open) there) lapsed;
  }

  pub closed_renews : (link : LinkState) → RenewsOn outcome link → RenewsOn outcome (closed_link link)
  closed_renews link p = record { asked = p.asked; told = p.told }

  -- what is told isn't asked any more
  asked_told : (reply : Reply) (link : LinkState) (way : Way) → IfSome (asked_on link.way) (RenewsCommitted outcome)
      → IfSome (asked_on (told_by reply link way).way) (RenewsCommitted outcome)
  asked_told reply link Quiet a = a
  asked_told reply link (Asked request) a = tt
  asked_told reply link (Told exchange) a = a

  pub told_renews : (link : LinkState) (request : Request) (reply : Reply) → link.way ≡ Asked request
      → (is_lapse (record { request = request; reply = reply }) ≡ true → IsOver outcome) → RenewsOn outcome link
      → RenewsOn outcome (told_on reply link)
  told_renews link request reply e over_now p = record {
    asked = asked_told reply link link.way p.asked;
    told = λ x there lapsed.
        by_case x lapsed
        (Contains-push_cases (exchanges_of link) new x (subst (λ xs. Contains xs x) (told_exchanges link request reply e) there));
  }
    where
      new : Exchange
      new = record { request = request; reply = reply }

      by_case : (x : Exchange) → is_lapse x ≡ true → Contains (exchanges_of link) x ⊎ (new ≡ x) → IsOver outcome
      by_case x lapsed (inl old) = p.told x old lapsed
      by_case x lapsed (inr same) = over_now (subst (λ one. is_lapse one ≡ true) (sym same) lapsed)

-- as more becomes of the change set
pub renews_later : (before now : Option Outcome) → (WasCommitted before → WasCommitted now) → (IsOver before → IsOver now) → (link : LinkState)
    → RenewsOn before link → RenewsOn now link
renews_later before now committed over_now link p = record {
  asked = by_asked (asked_on link.way) p.asked;
  told = λ x there lapsed. over_now (p.told x there lapsed);
}
  where
    by_asked : (request : Option Request) → IfSome request (RenewsCommitted before) → IfSome request (RenewsCommitted now)
    by_asked None a = tt
    by_asked (Some request) a = λ renewing. committed (a renewing)
