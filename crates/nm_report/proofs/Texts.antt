-- The parts of a text make the whole.
use Rattle.std.proofs.Common.{◌≡◌, ℕ, List, [], ◌++◌, ap, ◌∙◌}
use Rattle.nm_history.specs.History.{RecordedState}
use Rattle.nm_world.specs.declared.happened.TraceEntry.{TraceEntry}
use Rattle.nm_world.specs.declared.report.Report.{Report}
use Rattle.nm_world.specs.World.{Setting, WorldState}
use Rattle.nm_world.specs.Report.{report_of}
use Rattle.nm_proto.specs.declared.journal.Entry.{Entry}
use Rattle.nm_proto.specs.declared.plan.ChangePlan.{ChangePlan}
use Rattle.nm_report.specs.declared.details.Details.{Details}
use Rattle.nm_report.specs.Text.{change_texts, report_text, running_lines, running_of, start_text, world_text}
use Rattle.nm_report.specs.Notices.{notices_text}

module _ {Config TheEdit Node : Type 0} (shown : Config → List ℕ) (details : Details) (setting : Setting TheEdit) (w : WorldState Config Node) where
  pub whole : (trail : List TraceEntry) (plans : List ChangePlan) (devices again told : List (RecordedState Config Node)) (entries : List Entry) (show : Config → List ℕ) (report : Report) (none one two three four all : List ℕ)
      → none ≡ [] → trail ≡ w.trail → plans ≡ setting.plans → devices ≡ w.devices → entries ≡ w.entries → show ≡ shown → again ≡ w.devices → report ≡ report_of setting w → told ≡ w.devices
      → one ≡ none ++ start_text details.trace trail → two ≡ one ++ change_texts devices entries 1 plans → three ≡ two ++ running_lines show 1 (running_of again) → four ≡ three ++ report_text report
      → all ≡ four ++ notices_text details.notices told → all ≡ world_text shown details setting w
  whole trail plans devices again told entries show report none one two three four all e0 e1 e2 e3 e4 e5 e6 e7 e8 f1 f2 f3 f4 f5 =
      let first : one ≡ start_text details.trace w.trail = f1 ∙ ap (λ x. x ++ start_text details.trace trail) e0 ∙ ap (start_text details.trace) e1 in
      let second : two ≡ one ++ change_texts w.devices w.entries 1 setting.plans = f2
      ∙ ap (λ x. one ++ change_texts x entries 1 plans) e3 ∙ ap (λ x. one ++ change_texts w.devices x 1 plans) e4 ∙ ap (λ x. one ++ change_texts w.devices w.entries 1 x) e2 in
      let third : three ≡ two ++ running_lines shown 1 (running_of w.devices) = f3
      ∙ ap (λ x. two ++ running_lines x 1 (running_of again)) e5 ∙ ap (λ x. two ++ running_lines shown 1 (running_of x)) e6 in
      let fourth : four ≡ three ++ report_text (report_of setting w) = f4 ∙ ap (λ x. three ++ report_text x) e7 in
      f5 ∙ ap (λ x. four ++ notices_text details.notices x) e8
      ∙ ap (λ x. x ++ notices_text details.notices w.devices) (fourth
      ∙ ap (λ x. x ++ report_text (report_of setting w)) (third ∙ ap (λ x. x ++ running_lines shown 1 (running_of w.devices)) (second ∙ ap (λ x. x ++ change_texts w.devices w.entries 1 setting.plans) first)))
