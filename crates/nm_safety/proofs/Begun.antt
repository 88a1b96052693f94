-- Nothing was done for a change set yet.
use Rattle.std.proofs.Common.{◌≡◌, ℕ, Some, None, refl, arith}
use Rattle.nm_proto.specs.declared.ask.Ask.TheVariants as ask
use Rattle.nm_history.specs.History.{recorded}
use Rattle.nm_decider_stage.specs.declared.stage.Stage.TheVariants.{Live}
use Rattle.nm_decider.specs.Course.{seat_of}
use Rattle.nm_wire.specs.Wire.{no_links}
use Rattle.nm_safety.proofs.Basics.{never}
use Rattle.nm_safety.specs.Pair.{PairHolds}

none_some : {A B : Type 0} (x : A) → None ≡ Some x → B
none_some x h = absurd (let g : None ≡ Some x = h in cc)

pub fresh_pair : {Config Node : Type 0} (change devices device : ℕ) (running : Config) → PairHolds {Node = Node} change None (seat_of devices (Live 0) device) no_links (recorded running)
fresh_pair change devices device running = record {
  first = record {
    count = omega arith;
    once = omega arith;
    told = λ h. never h;
    held = λ h. never h;
    unheld = λ e. refl;
    asked = λ e. none_some ask.CommitConfirmed e;
    author = λ session e h. none_some session e;
    locking = λ e. refl;
  };
  each = λ place. search;
  outcome = record {
    confirmed = λ h. never h;
    cancelled = λ h. never h;
    ended = refl;
    committed = λ h. never h;
    pending = λ h. never h;
  };
  undecided = λ e. record {
    unsent = omega arith;
    acked = λ h. never h;
    ready = λ h. never h;
    only = λ number h. none_some number h;
    unmade = λ l h. refl;
  };
}
