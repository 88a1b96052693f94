-- What a link has done, by what was asked on it (this project's own): words for what its session holds at the device.
use Rattle.std.specs.Prelude.{ℕ, ◌+◌, Bool, true, false, ◌||◌, ◌&&◌, fold, Option, Some, None, List, [], ◌∷◌, ◌++◌}
use Rattle.nm_proto.specs.declared.ask.Ask.{Ask}
use Rattle.nm_proto.specs.declared.ask.Ask.TheVariants as ask
use Rattle.nm_proto.specs.declared.message.Request.{Request}
use Rattle.nm_proto.specs.declared.message.Reply.{Reply}
use Rattle.nm_proto.specs.declared.message.Reply.TheVariants.{Done}
use Rattle.nm_wire.specs.declared.link.Exchange.{Exchange}
use Rattle.nm_wire.specs.declared.link.Way.{Way}
use Rattle.nm_wire.specs.declared.link.Way.TheVariants.{Quiet, Asked, Told}
use Rattle.nm_wire.specs.Asks.{ask_of, same_ask}
use Rattle.nm_wire.specs.Link.{LinkState, over}

-- ---- what was sent

module _ {A : Type 0} where
  -- what the request on its way adds, whether it was answered or not
  abbrev pub over_sent_way : (A → Request → A) → A → Way → A
  over_sent_way step value Quiet = value
  over_sent_way step value (Asked request) = step value request
  over_sent_way step value (Told exchange) = step value exchange.request

  -- what the requests that were sent make of a value, oldest first
  abbrev pub over_sent : (A → Request → A) → A → LinkState → A
  over_sent step value link = over_sent_way step (fold (λ so_far exchange. step so_far exchange.request) value link.past) link.way

-- this was found among the requests so far, or is asked by the next
abbrev pub sent_again : Ask → Bool → Request → Bool
sent_again wanted found request = found || same_ask (ask_of request) wanted

-- this was asked on the link
abbrev pub was_sent : Ask → LinkState → Bool
was_sent wanted link = over_sent (sent_again wanted) false link

-- one for a confirmed commit that brings the change set, none for a renewal and all else
abbrev pub commit_count : Ask → ℕ
commit_count ask.CommitConfirmed = 1
commit_count _ = 0

-- the count with the next request
abbrev pub commit_more : ℕ → Request → ℕ
commit_more count request = count + commit_count (ask_of request)

-- how many confirmed commits that bring the change set were sent: those that persist under its token, no renewals
abbrev pub commits_sent : LinkState → ℕ
commits_sent link = over_sent commit_more 0 link

-- what is asked by the request on its way
abbrev pub ask_on : Way → Option Ask
ask_on Quiet = None
ask_on (Asked request) = Some (ask_of request)
ask_on (Told exchange) = Some (ask_of exchange.request)

-- ---- what was answered

-- the exchanges whose reply was sent, oldest first
abbrev pub with_exchange : List Exchange → Exchange → List Exchange
with_exchange exchanges exchange = exchanges ++ exchange ∷ []

-- the exchanges of a link whose reply was sent, oldest first
abbrev pub exchanges_of : LinkState → List Exchange
exchanges_of link = over with_exchange [] link

-- the reply is Done
abbrev pub is_done : Reply → Bool
is_done Done = true
is_done _ = false

-- this was done so far, or is by the next exchange
abbrev pub done_again : Ask → Bool → Exchange → Bool
done_again wanted found exchange = found || (same_ask (ask_of exchange.request) wanted && is_done exchange.reply)

-- this was asked and done
abbrev pub was_done : Ask → LinkState → Bool
was_done wanted link = over (done_again wanted) false link

-- whether the lock on running is held with no commit answered yet, after a reply to what was asked
abbrev pub holds_by : Bool → Ask → Reply → Bool
holds_by held ask.LockRunning Done = true
holds_by held ask.CommitConfirmed reply = false
holds_by held _ _ = held

-- the same after the next exchange
abbrev pub holds_after : Bool → Exchange → Bool
holds_after held exchange = holds_by held (ask_of exchange.request) exchange.reply

-- its session has locked running, and the confirmed commit isn't answered: while the device's side is open nothing is pending
-- there (RFC 6241 section 7.5)
abbrev pub holds : LinkState → Bool
holds link = over holds_after false link

-- whether the lock on candidate is held, after a reply to what was asked
abbrev pub owns_by : Bool → Ask → Reply → Bool
owns_by held ask.LockCandidate Done = true
owns_by held _ _ = held

-- the same after the next exchange
abbrev pub owns_after : Bool → Exchange → Bool
owns_after held exchange = owns_by held (ask_of exchange.request) exchange.reply

-- its session has locked candidate
abbrev pub owns : LinkState → Bool
owns link = over owns_after false link

-- whether candidate is as running is, after a reply to what was asked: an edit changes it, the lock on it, a discard and each commit leave it so (RFC
-- 6241 sections 7.5, 8.3.4 and 8.4)
abbrev pub clean_by : Bool → Ask → Reply → Bool
clean_by clean ask.Edit Done = false
clean_by clean ask.LockCandidate Done = true
clean_by clean ask.Discard Done = true
clean_by clean ask.CommitConfirmed Done = true
clean_by clean ask.Renew Done = true
clean_by clean ask.Confirm Done = true
clean_by clean _ _ = clean

-- the same after the next exchange
abbrev pub clean_after : Bool → Exchange → Bool
clean_after clean exchange = clean_by clean (ask_of exchange.request) exchange.reply

-- candidate wasn't edited since it was locked, or what was edited is committed or discarded (RFC 6241 section 8.3)
abbrev pub clean : LinkState → Bool
clean link = over clean_after true link
