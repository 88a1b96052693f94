-- What one subscriber gets, whatever else is done with the stream.
use Rattle.std.proofs.Common.{◌≡◌, ℕ, ◌+◌, ◌==◌, List, [], ◌∷◌, ◌++◌, map, filter, Bool, true, false, not, cond, Option, Some, None, is_some, unwrap_or, option_to_list, refl, sym, ap, ◌∙◌, subst, append-nil, append_assoc}
use Rattle.std.proofs.lemmas.Bool.{eqb-true}
use Rattle.std.proofs.lemmas.Option.{same_Some}
use Rattle.nm_proto.specs.Content.{Meaning, TablesState}
use Rattle.nm_pending.specs.Pending.{PendingState}
use Rattle.nm_device.specs.Device.{DeviceState}
use Rattle.nm_device.specs.View.{view_of}
use Rattle.nm_history.specs.History.{replayed}
use Rattle.nm_notify.specs.declared.notice.Notice.{Notice}
use Rattle.nm_notify.specs.Notices.{is_standing, noticed}
use Rattle.nm_notify.specs.Replayed.{notices_replayed}
use Rattle.nm_notify.specs.Stream.{StreamState, with_notice, is_of, left_for, oldest, without_oldest, taken_from, left_after, after_taking, observed, next_number, unsubscribed}
use Rattle.nm_notify.specs.Since.{Act, entries_in, Stays, subscribed_if, taken_if, stream_at, took_all}
use Rattle.nm_notify.specs.Since.Act.{Observes, Subscribes, Takes, Unsubscribes}

-- ---- what is left for one

given_one : (b : Bool) (x : List Notice) (own left : List Notice) (others later : Option (List Notice)) → (others ≡ Some left → later ≡ Some (left ++ x))
    → cond b (Some own) others ≡ Some left → cond b (Some (own ++ x)) later ≡ Some (left ++ x)
given_one true x own left others later rest h = ap (λ l. Some (l ++ x)) (same_Some own left h)
given_one false x own left others later rest h = rest h

-- it grows by what each gets
left_given : (n : ℕ) (x : Option Notice) (ls : List (ℕ × List Notice)) (left : List Notice) → left_for ls n ≡ Some left
    → left_for (map (with_notice x) ls) n ≡ Some (left ++ option_to_list x)
left_given n x [] left h = absurd cc
left_given n x (one ∷ ls) left h =
    given_one (one.0 == n) (option_to_list x) one.1 left (left_for ls n) (left_for (map (with_notice x) ls) n) (left_given n x ls left) h

kept_one : (b : Bool) (own left : List Notice) (others later : Option (List Notice)) → (others ≡ Some left → later ≡ Some left)
    → cond b (Some own) others ≡ Some left → cond b (Some own) later ≡ Some left
kept_one true own left others later rest h = h
kept_one false own left others later rest h = rest h

-- and stays where another comes behind
left_pushed : (n : ℕ) (new : ℕ × List Notice) (ls : List (ℕ × List Notice)) (left : List Notice) → left_for ls n ≡ Some left → left_for (ls ++ new ∷ []) n ≡ Some left
left_pushed n new [] left h = absurd cc
left_pushed n new (one ∷ ls) left h = kept_one (one.0 == n) one.1 left (left_for ls n) (left_for (ls ++ new ∷ []) n) (left_pushed n new ls left) h

own_one : (n : ℕ) (one : ℕ × List Notice) (ls : List (ℕ × List Notice)) (left : List Notice) (b : Bool) → (one.0 == n) ≡ b
    → (left_for ls n ≡ Some left → left_for (left_after ls n) n ≡ Some (without_oldest left)) → cond b (Some one.1) (left_for ls n) ≡ Some left
    → left_for (cond b ((one.0, without_oldest one.1) ∷ ls) (one ∷ left_after ls n)) n ≡ Some (without_oldest left)
own_one n one ls left true is rest h =
    ap (λ b. cond b (Some (without_oldest one.1)) (left_for ls n)) is ∙ ap (λ l. Some (without_oldest l)) (same_Some one.1 left h)
own_one n one ls left false is rest h = ap (λ b. cond b (Some one.1) (left_for (left_after ls n) n)) is ∙ rest h

-- who takes has the oldest no more
left_own : (n : ℕ) (ls : List (ℕ × List Notice)) (left : List Notice) → left_for ls n ≡ Some left → left_for (left_after ls n) n ≡ Some (without_oldest left)
left_own n [] left h = absurd cc
left_own n (one ∷ ls) left h = own_one n one ls left (one.0 == n) refl (left_own n ls left) h

-- one of another number
not_own : (n k i : ℕ) → (i == k) ≡ true → (k == n) ≡ false → (i == n) ≡ false
not_own n k i is other = ap (λ j. j == n) (eqb-true i k is) ∙ other

other_one : (n k : ℕ) (one : ℕ × List Notice) (ls : List (ℕ × List Notice)) (b : Bool) → (one.0 == k) ≡ b → (k == n) ≡ false → left_for (left_after ls k) n ≡ left_for ls n
    → left_for (cond b ((one.0, without_oldest one.1) ∷ ls) (one ∷ left_after ls k)) n ≡ cond (one.0 == n) (Some one.1) (left_for ls n)
other_one n k one ls true is other rest =
    let no = not_own n k one.0 is other in
    ap (λ b. cond b (Some (without_oldest one.1)) (left_for ls n)) no ∙ sym (ap (λ b. cond b (Some one.1) (left_for ls n)) no)
other_one n k one ls false is other rest = ap (λ o. cond (one.0 == n) (Some one.1) o) rest

-- another takes
left_other : (n k : ℕ) (ls : List (ℕ × List Notice)) → (k == n) ≡ false → left_for (left_after ls k) n ≡ left_for ls n
left_other n k [] other = refl
left_other n k (one ∷ ls) other = other_one n k one ls (one.0 == k) refl other (left_other n k ls other)

gone_one : (n k : ℕ) (one : ℕ × List Notice) (ls rest : List (ℕ × List Notice)) (b : Bool) → (one.0 == k) ≡ b → (k == n) ≡ false → left_for rest n ≡ left_for ls n
    → left_for (cond (not b) (one ∷ rest) rest) n ≡ cond (one.0 == n) (Some one.1) (left_for ls n)
gone_one n k one ls rest true is other same = same ∙ sym (ap (λ b. cond b (Some one.1) (left_for ls n)) (not_own n k one.0 is other))
gone_one n k one ls rest false is other same = ap (λ o. cond (one.0 == n) (Some one.1) o) same

-- another leaves
left_without : (n k : ℕ) (ls : List (ℕ × List Notice)) → (k == n) ≡ false → left_for (filter (λ one. not (is_of k one)) ls) n ≡ left_for ls n
left_without n k [] other = refl
left_without n k (one ∷ ls) other = gone_one n k one ls (filter (λ o. not (is_of k o)) ls) (one.0 == k) refl other (left_without n k ls other)

-- ---- all acts

-- what the device tells is whether a commit is pending
view_tells : {Config : Type 0} (pending : Option (PendingState Config)) → is_standing (view_of pending) ≡ is_some pending
view_tells None = refl
view_tells (Some p) = refl

oldest_first : (left rest : List Notice) → option_to_list (oldest left) ++ (without_oldest left ++ rest) ≡ left ++ rest
oldest_first [] rest = refl
oldest_first (x ∷ xs) rest = refl

-- a take, by whether it is this subscriber's
taken_so : (n k : ℕ) (ls : List (ℕ × List Notice)) (left all at_end told : List Notice) (b : Bool) → (k == n) ≡ b → left_for ls n ≡ Some left
    → ((now : List Notice) → left_for (left_after ls k) n ≡ Some now → all ++ at_end ≡ now ++ told)
    → (option_to_list (taken_if b (left_for ls k)) ++ all) ++ at_end ≡ left ++ told
taken_so n k ls left all at_end told true is h rest =
    let same = eqb-true k n is in
    let own : left_for (left_after ls k) n ≡ Some (without_oldest left) =
    subst (λ j. left_for (left_after ls j) n ≡ Some (without_oldest left)) (sym same) (left_own n ls left h) in
    ap (λ o. (option_to_list o ++ all) ++ at_end) (ap (λ j. taken_from (left_for ls j)) same ∙ ap taken_from h)
    ∙ append_assoc (option_to_list (oldest left)) all at_end ∙ ap (λ r. option_to_list (oldest left) ++ r) (rest (without_oldest left) own) ∙ oldest_first left told
taken_so n k ls left all at_end told false is h rest = rest left (left_other n k ls is ∙ h)

-- somebody subscribes, or nobody may
subscribed_left : (n : ℕ) (stream : StreamState) (left : List Notice) (next : Option ℕ) → left_for stream.left n ≡ Some left → left_for (subscribed_if next stream).left n ≡ Some left
subscribed_left n stream left None h = h
subscribed_left n stream left (Some number) h = left_pushed n (stream.last + 1, []) stream.left left h

subscribed_entries : (stream : StreamState) (next : Option ℕ) → (subscribed_if next stream).entries ≡ stream.entries
subscribed_entries stream None = refl
subscribed_entries stream (Some number) = refl

module _ {Config TheEdit Node : Type 0} (m : Meaning Config TheEdit Node) (tables : TablesState TheEdit) (n : ℕ) where
  pub gets_all : (s : DeviceState Config Node) (stream : StreamState) (left : List Notice) (acts : List Act) → left_for stream.left n ≡ Some left → Stays n acts
      → took_all m tables n s stream acts ++ unwrap_or (left_for (stream_at m tables s stream acts).left n) []
      ≡ left ++ notices_replayed m tables (stream.entries + 1) s (entries_in acts)
  gets_all s stream left [] h stays = ap (λ o. unwrap_or o []) h ∙ sym (append-nil left)
  gets_all s stream left (Observes entry ∷ acts) h stays =
      let after = replayed m tables s entry in
      let told = noticed (stream.entries + 1) entry (is_standing (view_of s.pending)) (is_standing (view_of after.pending)) in
      let rest = notices_replayed m tables (stream.entries + 1 + 1) after (entries_in acts) in
      gets_all after (observed stream (is_standing (view_of s.pending)) (is_standing (view_of after.pending)) entry) (left ++ option_to_list told) acts
      (left_given n told stream.left left h) stays
      ∙ append_assoc left (option_to_list told) rest
      ∙ ap (λ was. left ++ (option_to_list (noticed (stream.entries + 1) entry was (is_standing (view_of after.pending))) ++ rest)) (view_tells s.pending)
      ∙ ap (λ now. left ++ (option_to_list (noticed (stream.entries + 1) entry (is_some s.pending) now) ++ rest)) (view_tells after.pending)
  gets_all s stream left (Subscribes ∷ acts) h stays =
      gets_all s (subscribed_if (next_number stream) stream) left acts (subscribed_left n stream left (next_number stream) h) stays
      ∙ ap (λ k. left ++ notices_replayed m tables (k + 1) s (entries_in acts)) (subscribed_entries stream (next_number stream))
  gets_all s stream left (Takes k ∷ acts) h stays =
      taken_so n k stream.left left (took_all m tables n s (after_taking stream k) acts)
      (unwrap_or (left_for (stream_at m tables s (after_taking stream k) acts).left n) [])
      (notices_replayed m tables (stream.entries + 1) s (entries_in acts)) (k == n) refl h
      (λ now there. gets_all s (after_taking stream k) now acts there stays)
  gets_all s stream left (Unsubscribes k ∷ acts) h stays =
      gets_all s (unsubscribed stream k) left acts (left_without n k stream.left stays.0 ∙ h) stays.1
