-- What comes to be known of a device.
use Rattle.std.proofs.Common.{◌≡◌, ℕ, ◌+◌, Bool, true, false, cond, Option, Some, None, refl, sym, ◌∙◌, arith}
use Rattle.std.proofs.lemmas.Bool.Decides.{nat_tests}
use Rattle.nm_proto.specs.declared.ask.Ask.{Ask}
use Rattle.nm_proto.specs.declared.message.Reply.{Reply}
use Rattle.nm_proto.specs.declared.journal.Verdict.{Verdict}
use Rattle.nm_proto.specs.declared.journal.Verdict.TheVariants as verdict
use Rattle.nm_decider_stage.specs.declared.stage.Stage.{Stage}
use Rattle.nm_decider_stage.specs.declared.stage.Stage.TheVariants.{Live, Refused, Failed, NeedMark, Resync, Leaving, Settled}
use Rattle.nm_decider_stage.specs.Stages.{first_ask, fits, is_first, learnt, learnt_other, learnt_failed, learnt_mark, learnt_leaving, refused}
use Rattle.nm_decider.specs.Told.{tells, knows, TellsAlone}

nothing_known : (kept : Bool) → None ≡ Some kept → ⊥
nothing_known kept h = cc

leaving_stays : (v : Option Verdict) (kept : Bool) (what : Ask) → knows (learnt_leaving v kept what) ≡ Some kept
leaving_stays v kept what = grind (arith, nat_tests)

stays : (v : Option Verdict) (stage : Stage) (what : Ask) (reply : Reply) (kept : Bool) → knows stage ≡ Some kept → knows (learnt v stage what reply) ≡ Some kept
stays v (Live done) what reply kept h = absurd (nothing_known kept h)
stays v Refused what reply kept h = absurd (nothing_known kept h)
stays v Failed what reply kept h = absurd (nothing_known kept h)
stays v NeedMark what reply kept h = absurd (nothing_known kept h)
stays v Resync what reply kept h = absurd (nothing_known kept h)
stays v (Leaving other) what reply kept h = leaving_stays v other what ∙ h
stays v (Settled other) what reply kept h = h

comes_other : (v : Option Verdict) (done : ℕ) (what : Ask) (reply : Reply) (kept : Bool) → knows (learnt_other v done what reply) ≡ Some kept → tells what reply ≡ Some kept
comes_other None done what reply kept h = absurd (nothing_known kept h)
comes_other (Some verdict.Commit) done what reply kept h = grind (arith, nat_tests)
comes_other (Some (verdict.Abort why)) done what reply kept h = grind (arith, nat_tests)

comes_refused : (v : Option Verdict) (what : Ask) (reply : Reply) (kept : Bool) → fits what reply ≡ false → knows (refused v what) ≡ Some kept → tells what reply ≡ Some kept
comes_refused v what reply kept f h = grind (arith, nat_tests)

comes_live : (v : Option Verdict) (done : ℕ) (what : Ask) (reply : Reply) (kept a b : Bool) → fits what reply ≡ b
    → knows (cond a (cond b (Live (done + 1)) (refused v what)) (learnt_other v done what reply)) ≡ Some kept → tells what reply ≡ Some kept
comes_live v done what reply kept true true f h = absurd (nothing_known kept h)
comes_live v done what reply kept true false f h = comes_refused v what reply kept f h
comes_live v done what reply kept false b f h = comes_other v done what reply kept h

comes_failed : (v : Option Verdict) (what : Ask) (reply : Reply) (kept : Bool) → knows (learnt_failed v what) ≡ Some kept → tells what reply ≡ Some kept
comes_failed v what reply kept h = grind (arith, nat_tests)

comes_mark : (v : Option Verdict) (what : Ask) (reply : Reply) (kept : Bool) → knows (learnt_mark v what reply) ≡ Some kept → tells what reply ≡ Some kept
comes_mark v what reply kept h = grind (arith, nat_tests)

comes : (v : Option Verdict) (stage : Stage) (what : Ask) (reply : Reply) (kept : Bool) → knows stage ≡ None → knows (learnt v stage what reply) ≡ Some kept → tells what reply ≡ Some kept
comes v (Live done) what reply kept n h = comes_live v done what reply kept (is_first (first_ask done) what) (fits what reply) refl h
comes v Refused what reply kept n h = absurd (nothing_known kept h)
comes v Failed what reply kept n h = comes_failed v what reply kept h
comes v NeedMark what reply kept n h = comes_mark v what reply kept h
comes v Resync what reply kept n h = absurd (nothing_known kept h)
comes v (Leaving other) what reply kept n h = absurd (nothing_known other (sym n))
comes v (Settled other) what reply kept n h = absurd (nothing_known other (sym n))

pub told_alone : (v : Option Verdict) (stage : Stage) (what : Ask) (reply : Reply) → TellsAlone v stage what reply
told_alone v stage what reply = record { stays = stays v stage what reply; comes = comes v stage what reply }
