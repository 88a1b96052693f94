-- What the status of a report tells of it.
use Rattle.std.proofs.Common.{◌≡◌, List, [], ◌∷◌, refl}
use Rattle.nm_world.specs.declared.report.Pair.{Pair}
use Rattle.nm_world.specs.declared.report.Report.{Report}
use Rattle.nm_console.specs.declared.status.Status.TheVariants as status
use Rattle.nm_console.specs.Status.{StatusTells}

some : {P : Type 0} (pair : Pair) (pairs : List Pair) → pair ∷ pairs ≡ [] → P
some pair pairs e = absurd (let f : pair ∷ pairs ≡ [] = e in cc)

by_lists : (unsettled differ : List Pair) → StatusTells (record { differ = differ; unsettled = unsettled })
by_lists [] [] = record {
  unsettled = (λ e. absurd (let f : status.Ok ≡ status.Unsettled = e in cc), λ ne. absurd (ne refl));
  differ = (λ e. absurd (let f : status.Ok ≡ status.Differ = e in cc), λ h. absurd (h.1 refl));
  ok = (λ e. (refl, refl), λ h. refl);
}
by_lists [] (pair ∷ pairs) = record {
  unsettled = (λ e. absurd (let f : status.Differ ≡ status.Unsettled = e in cc), λ ne. absurd (ne refl));
  differ = (λ e. (refl, λ f. some pair pairs f), λ h. refl);
  ok = (λ e. absurd (let f : status.Differ ≡ status.Ok = e in cc), λ h. some pair pairs h.1);
}
by_lists (pair ∷ pairs) differ = record {
  unsettled = (λ e. λ f. some pair pairs f, λ ne. refl);
  differ = (λ e. absurd (let f : status.Unsettled ≡ status.Differ = e in cc), λ h. some pair pairs h.0);
  ok = (λ e. absurd (let f : status.Unsettled ≡ status.Ok = e in cc), λ h. some pair pairs h.0);
}

pub statuses_tell : (report : Report) → StatusTells report
statuses_tell report = by_lists report.unsettled report.differ
