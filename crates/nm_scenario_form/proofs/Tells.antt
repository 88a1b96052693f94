-- Reading by a form answers what is said, or the first of all that is wrong: for every form.
use Rattle.std.proofs.Common.{◌≤◌, ℕ, suc, ◌+◌, inl, inr, refl, arith}
use Rattle.serde_json.specs.Data.{Data}
use Rattle.serde_json.specs.Find.{at, as_array, as_object}
use Rattle.nm_scenario_form.specs.Words.{is_word}
use Rattle.nm_scenario_form.specs.Form.{Form, leaf, made, by, list, object, arguments, line, no_line, Parts, done, slot, count_parts, count_needed}
use Rattle.nm_scenario_form.specs.Says.{Says, SaysParts, SaysSlot, found, takes}
use Rattle.nm_scenario_form.specs.Wrong.{Wrong, WrongParts, WrongSlot, step_of}
use Rattle.nm_scenario_form.specs.Read.{read, read_parts, slot_read}
use Rattle.nm_scenario_form.proofs.Orders.{from_less, below_more, heads_precede}
use Rattle.nm_scenario_form.proofs.Answers.{Answers, AllFrom, AllBelow, then_answers, made_answers, leaf_answers, slot_answers, slot_from, slot_below, list_answers, object_answers, count_answers, word_answers, line_answers}

pub parts_from : {F A : Type 0} (parts : Parts F A) (n : ℕ) (whole : Data) → AllFrom n (WrongParts parts n whole)
unfolding Wrong
parts_from done n whole c p s is = absurd is
parts_from (slot key default form parts) n whole c p s (inl is) =
    slot_from (λ part b. Says form part b) (λ part. Wrong form part) (λ part. read form part) key n default (found key n whole) c p s is
parts_from (slot key default form parts) n whole c p s (inr is) = from_less n s (parts_from parts (suc n) whole c p s is)

pub parts_below : {F A : Type 0} (parts : Parts F A) (n k : ℕ) (whole : Data) → n + count_parts parts ≤ k
    → AllBelow k (WrongParts parts n whole)
unfolding Wrong
parts_below done n k whole less c p s is = absurd is
parts_below (slot key default form parts) n k whole less c p s (inl is) =
    below_more (suc n) k s (omega arith)
    (slot_below (λ part b. Says form part b) (λ part. Wrong form part) (λ part. read form part) key n default (found key n whole) c p s
    is)
parts_below (slot key default form parts) n k whole less c p s (inr is) = parts_below parts (suc n) k whole (omega arith) c p s is

mutual
  unfolding Says Wrong

  pub tells : {A : Type 0} (form : Form A) (whole : Data) → Answers (Says form whole) (Wrong form whole) (read form whole)
  tells (leaf f) whole = leaf_answers f whole (f whole) refl
  tells (made make form) whole = made_answers (Says form whole) (Wrong form whole) make (read form whole) (tells form whole)
  tells (by form) whole = tells (form whole) whole
  tells (list low high weight form) whole =
      list_answers (λ n part x. Says (form n) part x) (λ n part. Wrong (form n) part) (λ n part. read (form n) part) low high weight whole
      (as_array whole) refl (λ n part. tells (form n) part)
  tells (object knows parts make) whole =
      object_answers (SaysParts parts 0 whole make) (WrongParts parts 0 whole) (count_parts parts) knows whole
      (parts_below parts 0 (count_parts parts) whole (omega arith))
      (as_object whole) refl (read_parts parts 0 whole make) (parts_tell parts 0 whole make)
  tells (arguments n parts make) whole =
      count_answers (SaysParts parts n whole make) (WrongParts parts n whole)
      (takes (n + count_needed parts) (n + count_parts parts) (as_array whole)) (read_parts parts n whole make)
      (parts_tell parts n whole make)
  tells (line word form others) whole =
      word_answers (Says form whole) (Says others whole) (Wrong form whole) (Wrong others whole) (is_word whole word) (read form whole)
      (read others whole) (tells form whole) (tells others whole)
  tells (no_line {A = A}) whole = line_answers A (at 0 whole)

  pub parts_tell : {F A : Type 0} (parts : Parts F A) (n : ℕ) (whole : Data) (make : F)
      → Answers (SaysParts parts n whole make) (WrongParts parts n whole) (read_parts parts n whole make)
  parts_tell done n whole make = (refl, λ c p s is. is)
  parts_tell (slot {B = B} key default form parts) n whole make =
      then_answers (SaysSlot (λ part b. Says form part b) default (found key n whole)) (λ b x. SaysParts parts (suc n) whole (make b) x)
      (WrongSlot {B = B} (λ part. Wrong form part) key n default (found key n whole)) (WrongParts parts (suc n) whole)
      (heads_precede (suc n) (WrongSlot {B = B} (λ part. Wrong form part) key n default (found key n whole))
      (WrongParts parts (suc n) whole)
      (slot_below (λ part b. Says form part b) (λ part. Wrong form part) (λ part. read form part) key n default (found key n whole))
      (parts_from parts (suc n) whole))
      (slot_read (λ part. read form part) (step_of key n) default (found key n whole)) (λ b. read_parts parts (suc n) whole (make b))
      (slot_answers (λ part b. Says form part b) (λ part. Wrong form part) (λ part. read form part) key n default (found key n whole)
      (λ part. tells form part))
      (λ b. parts_tell parts (suc n) whole (make b))
