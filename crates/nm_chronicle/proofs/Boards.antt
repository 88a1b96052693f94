-- What a call keeps of the board.
use Rattle.std.proofs.Common.{Option, Some, None, is_some, inl, inr, ◌≡◌, ℕ, ◌+◌, ◌-◌, ◌<◌, ◌≤◌, Bool, true, false, List, [], ◌∷◌, ◌++◌, length, map, refl, sym, ap, ◌∙◌, subst, slice_get, slice_index_or, slice_set, arith, if◌then◌else◌}
use Rattle.std.specs.List.{All, sum_by}
use Rattle.std.proofs.lemmas.List.{set-get_or, length-append}
use Rattle.std.proofs.Math.Seq.{map-set_same}
use Rattle.std.proofs.lemmas.List.Elements.{All-set, All-get_or}
use Rattle.std.proofs.lemmas.List.Sums.{sum_by-set, sum_by_push}
use Rattle.std.proofs.lemmas.Option.{slice_get_within, slice_get_past, slice_get_read, get_or_from_slice_get}
use Rattle.std.proofs.lemmas.Bool.{cases_lt}
use Rattle.nm_proto.specs.declared.plan.ChangePlan.{ChangePlan}
use Rattle.nm_chronicle.specs.declared.mark.Mark.{Mark}
use Rattle.nm_chronicle.specs.declared.mark.Stray.{Stray}
use Rattle.nm_chronicle.specs.Line.{LineState, LineHolds, Keeps, Takes, taken, weight_of, line_weight}
use Rattle.nm_chronicle.specs.Board.{BoardState, BoardHolds, MarksLines, MarksBoard, line_devices, stray_weight, counted, taken_in, line_taken, lines_if, strays_if}

-- there is no such line
pub marked_none : (lines : List LineState) (change : ℕ) (mark : Mark) → slice_get lines (change - 1) ≡ None → All LineHolds lines → MarksLines false lines lines change mark
marked_none lines change mark none holds =
    let out : line_taken lines change mark ≡ None = ap (λ line. taken_in line mark) none in
    record {
      took_is = sym (ap is_some out);
      lines = sym (ap (lines_if lines change) out);
      counts = refl;
      holds = holds;
      devices = refl;
      phases = λ n all. all;
    }

-- what the line's own answer makes of the lines
lines_after : (lines : List LineState) (change : ℕ) (line after : LineState) (took : Bool) (next : Option LineState) → slice_set lines (change - 1) line ≡ lines → Takes took line after next
    → (took ≡ is_some next) × (slice_set lines (change - 1) after ≡ lines_if lines change next)
lines_after lines change line after took None back takes = (takes.0, ap (slice_set lines (change - 1)) takes.1 ∙ back)
lines_after lines change line after took (Some next) back takes = (takes.0, ap (slice_set lines (change - 1)) takes.1)

-- how much a line counts after a mark, by whether it could be taken
weighs : (took : Bool) (was now w : ℕ) (took_w : took ≡ true → now ≡ was + w) → (took ≡ false → now ≡ was) → now + (if took then 0 else w) ≡ was + w
weighs true was now w more same = let e = more refl in omega (arith, e)
weighs false was now w more same = let e = same refl in omega (arith, e)

two_ways : (b : Bool) → b ≡ true → b ≡ false → ⊥
two_ways b is isnt = cc

weight_same : (line after : LineState) (took : Bool) (next : Option LineState) → Takes took line after next → took ≡ false → line_weight after ≡ line_weight line
weight_same line after took None takes none = ap line_weight takes.1
weight_same line after took (Some next) takes none = absurd (two_ways took takes.0 none)

pub marked_some : (lines : List LineState) (change : ℕ) (mark : Mark) (line after : LineState) (took : Bool) → slice_get lines (change - 1) ≡ Some line → Takes took line after (taken line mark) → Keeps took line after mark → All LineHolds lines
    → MarksLines took lines (slice_set lines (change - 1) after) change mark
marked_some lines change mark line after took at takes keeps holds =
    let i = change - 1 in
    let within : i < length lines = slice_get_within lines i line at in
    let here : slice_index_or lines i line ≡ line = get_or_from_slice_get lines i line line at in
    let back : slice_set lines i line ≡ lines = ap (slice_set lines i) (sym here) ∙ set-get_or lines i line in
    let next : line_taken lines change mark ≡ taken line mark = ap (λ l. taken_in l mark) at in
    let it = lines_after lines change line after took (taken line mark) back takes in
    let sums = sum_by-set line_weight lines i after line within in
    let was : line_weight (slice_index_or lines i line) ≡ line_weight line = ap line_weight here in
    let now = weighs took (line_weight line) (line_weight after) (weight_of mark) keeps.counts (weight_same line after took (taken line mark) takes) in
    record {
      took_is = it.0 ∙ ap is_some (sym next);
      lines = it.1 ∙ ap (lines_if lines change) (sym next);
      counts = omega (arith, sums, was, now);
      holds = All-set LineHolds lines i after keeps.holds holds;
      devices = map-set_same line_devices lines i after line (keeps.devices ∙ ap line_devices (sym here));
      phases = λ n all. All-set (λ l. length l.phases ≡ n) lines i after (keeps.phases ∙ ap (λ l. length l.phases) (sym here) ∙ All-get_or (λ l. length l.phases ≡ n) lines i line within all) all;
    }

-- the strays, by whether the board could take the call
strays_after : (strays : List Stray) (change : ℕ) (mark : Mark) (took : Bool) (next : Option LineState) → took ≡ is_some next → (if took then strays else strays ++ record { change = change; mark = mark } ∷ []) ≡ strays_if strays change mark next
strays_after strays change mark took None e = ap (λ b. if b then strays else strays ++ record { change = change; mark = mark } ∷ []) e
strays_after strays change mark took (Some line) e = ap (λ b. if b then strays else strays ++ record { change = change; mark = mark } ∷ []) e

keeps_board : (lines lines_new : List LineState) (change : ℕ) (mark : Mark) (took : Bool) → MarksLines took lines lines_new change mark
    → (many devices : ℕ) (changes : List ChangePlan) → BoardHolds devices changes (record { devices = many; lines = lines }) → BoardHolds devices changes (record { devices = many; lines = lines_new })
keeps_board lines lines_new change mark took marks many devices changes holds = record {
  devices_are = holds.devices_are;
  changes_are = marks.devices ∙ holds.changes_are;
  phases_are = marks.phases devices holds.phases_are;
  lines_hold = marks.holds;
}

pub marks_board : (lines lines_new : List LineState) (strays strays_new : List Stray) (change : ℕ) (mark : Mark) (took : Bool) → MarksLines took lines lines_new change mark
    → strays_new ≡ (if took then strays else strays ++ record { change = change; mark = mark } ∷ []) → MarksBoard lines lines_new strays strays_new change mark
marks_board lines lines_new strays strays_new change mark true marks e = record {
  lines = marks.lines;
  strays = e ∙ strays_after strays change mark true (line_taken lines change mark) marks.took_is;
  counts = let c = marks.counts in let s : sum_by stray_weight strays_new ≡ sum_by stray_weight strays = ap (sum_by stray_weight) e in omega (arith, c, s);
  few = let l : length strays_new ≡ length strays = ap length e in omega (arith, l);
  board = keeps_board lines lines_new change mark true marks;
}
marks_board lines lines_new strays strays_new change mark false marks e = record {
  lines = marks.lines;
  strays = e ∙ strays_after strays change mark false (line_taken lines change mark) marks.took_is;
  counts =
      let c = marks.counts in
      let s : sum_by stray_weight strays_new ≡ sum_by stray_weight (strays ++ record { change = change; mark = mark } ∷ []) = ap (sum_by stray_weight) e in
      let p = sum_by_push stray_weight strays (record { change = change; mark = mark }) in
      omega (arith, c, s, p);
  few = let l : length strays_new ≡ length (strays ++ record { change = change; mark = mark } ∷ []) = ap length e in let a = length-append strays (record { change = change; mark = mark } ∷ []) in omega (arith, l, a);
  board = keeps_board lines lines_new change mark false marks;
}

-- ---- as the code finds it

none_past : (lines : List LineState) (i : ℕ) → (i < length lines → false ≡ true) → slice_get lines i ≡ None
none_past lines i out = elim (cases_lt i (length lines)) [
  | inl less ↦ let e = out less in cc
  | inr past ↦ slice_get_past lines i past
]

pub marked_out : (lines : List LineState) (number change : ℕ) (mark : Mark) → number ≡ change → (number - 1 < length lines → false ≡ true) → All LineHolds lines → MarksLines false lines lines change mark
marked_out lines number change mark same out holds = subst (λ n. MarksLines false lines lines n mark) same (marked_none lines number mark (none_past lines (number - 1) out) holds)

pub marked_at : (lines : List LineState) (number change : ℕ) (mark : Mark) (line after : LineState) (took : Bool) → number ≡ change → number - 1 < length lines → line ≡ slice_index_or lines (number - 1) line
    → Takes took line after (taken line mark) → Keeps took line after mark → All LineHolds lines → MarksLines took lines (slice_set lines (number - 1) after) change mark
marked_at lines number change mark line after took same within here takes keeps holds =
    let at : slice_get lines (number - 1) ≡ Some line = slice_get_read lines (length lines) (number - 1) line refl within here in
    subst (λ n. MarksLines took lines (slice_set lines (number - 1) after) n mark) same (marked_some lines number mark line after took at takes keeps holds)

pub marks_strayed : (lines lines_new : List LineState) (strays strays_new : List Stray) (change : ℕ) (mark : Mark) (took : Bool) → took ≡ false → MarksLines took lines lines_new change mark
    → strays_new ≡ strays ++ record { change = change; mark = mark } ∷ [] → MarksBoard lines lines_new strays strays_new change mark
marks_strayed lines lines_new strays strays_new change mark took e marks items =
    marks_board lines lines_new strays strays_new change mark false (subst (λ b. MarksLines b lines lines_new change mark) e marks) items

pub marks_taken : (lines lines_new : List LineState) (strays : List Stray) (change : ℕ) (mark : Mark) (took : Bool) → took ≡ true → MarksLines took lines lines_new change mark → MarksBoard lines lines_new strays strays change mark
marks_taken lines lines_new strays change mark took e marks =
    marks_board lines lines_new strays strays change mark true (subst (λ b. MarksLines b lines lines_new change mark) e marks) refl

-- what is true of every chronicle, after a call
pub noted_holds : (devices : ℕ) (changes : List ChangePlan) (board : BoardState) (lines : List LineState) (strays kept : List Stray) (change : ℕ) (mark : Mark) (spare left total sum room : ℕ)
    → BoardHolds devices changes board → MarksBoard board.lines lines strays kept change mark → total ≡ counted board.lines strays → sum ≡ total + weight_of mark
    → spare + length strays ≤ room → left + 1 ≡ spare
    → BoardHolds devices changes (record { devices = board.devices; lines = lines }) × (sum ≡ counted lines kept) × (left + length kept ≤ room)
noted_holds devices changes board lines strays kept change mark spare left total sum room holds marks was now fits used =
    let counts = marks.counts in
    let few = marks.few in (
      marks.board board.devices devices changes holds,
      omega (arith, counts, was, now),
      omega (arith, few, fits, used),
    )
